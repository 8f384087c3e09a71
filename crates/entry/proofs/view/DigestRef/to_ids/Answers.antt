use Rattle.std.proofs.Common.{◌≡◌, ℕ, ◌-◌, ◌≤◌, List, ◌++◌, length, sym, ap, ◌∙◌, append_assoc, arith}
use Rattle.std.proofs.lemmas.List.{append-nil}
use Rattle.entry.specs.declared.digest.Digest.TheVariants as digest
use Rattle.entry.specs.Format.{ids_at}
use Rattle.entry.proofs.IdLemmas.{ids_at-step}
use Rattle.entry.proofs.DigestLemmas.{within_ids, digest_at-ids}
use Rattle.entry.proofs.view.DigestRef.to_ids.Goals as goal

-- if no id is left, all are there
all-there : (xs ys text : List ℕ) (count i at : ℕ) → count ≤ i → xs ++ ids_at (count - i) at text ≡ ys → xs ≡ ys
all-there xs ys text count i at le e = let none : count - i ≡ 0 = omega arith in sym (append-nil xs) ∙ (rw none at e)

pub u64_at-requires : goal.u64_at-requires
u64_at-requires c =
    let d = c.args.self.now in
    let within = within_ids d.has_lengths d.count (length d.text.now) c.requires d.within in
    omega arith

pub loop-i-preserved : goal.loop-i-preserved
loop-i-preserved c =
    let step = ids_at-step c.args.self.now.count c.loop-i.i c.args.self.now.text.now c.loop-i-test.true in
    rw (c.in_ok-push.ensures.items, append_assoc, c.u64_at.ensures, ← step) c.loop-i.invariant

pub new-requires-clause-rise : goal.new-requires-clause-rise
new-requires-clause-rise c = rw (all-there _ _ _ _ _ _ c.loop-i-test.false c.loop-i.invariant)
    (c.args.self.now.ids c.requires).rise

pub new-requires-clause-count : goal.new-requires-clause-count
new-requires-clause-count c =
    rw (all-there _ _ _ _ _ _ c.loop-i-test.false c.loop-i.invariant) (c.args.self.now.ids c.requires).count

pub returns : goal.returns
returns c =
    let d = c.args.self.now in
    let all = c.new.ensures ∙ all-there _ _ _ _ _ _ c.loop-i-test.false c.loop-i.invariant in
    ap (λ (ids : List ℕ). digest.Ids ids) all ∙ sym (digest_at-ids d.has_lengths d.count d.text.now c.requires)
