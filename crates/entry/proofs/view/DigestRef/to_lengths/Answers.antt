use Rattle.std.proofs.Common.{◌≡◌, ℕ, ◌-◌, ◌≤◌, List, ◌++◌, sym, ap, ◌∙◌, append_assoc, arith}
use Rattle.std.proofs.lemmas.List.{append-nil}
use Rattle.entry.specs.declared.digest.Listed.{Listed}
use Rattle.entry.specs.declared.digest.Digest.TheVariants as digest
use Rattle.entry.specs.Format.{listed_at}
use Rattle.entry.proofs.LengthLemmas.{listed_at-step}
use Rattle.entry.proofs.DigestLemmas.{digest_at-lengths}
use Rattle.entry.proofs.view.DigestRef.to_lengths.Goals as goal

-- if none is left, all are there
all-there : (xs ys : List Listed) (text : List ℕ) (count i at : ℕ) → count ≤ i
    → xs ++ listed_at (count - i) at text ≡ ys → xs ≡ ys
all-there xs ys text count i at le e = let none : count - i ≡ 0 = omega arith in sym (append-nil xs) ∙ (rw none at e)

pub loop-i-preserved : goal.loop-i-preserved
loop-i-preserved c =
    let step = listed_at-step c.args.self.now.count c.loop-i.i c.args.self.now.text.now c.loop-i-test.true in
    rw (c.in_ok-push.ensures.items, append_assoc, c.u64_at-id.ensures, c.u64_at-len.ensures, ← step) c.loop-i.invariant

pub new-requires : goal.new-requires
new-requires c =
    rw (all-there _ _ _ _ _ _ c.loop-i-test.false c.loop-i.invariant) (c.args.self.now.lengths c.requires)

pub returns : goal.returns
returns c =
    let d = c.args.self.now in
    let all = c.new.ensures ∙ all-there _ _ _ _ _ _ c.loop-i-test.false c.loop-i.invariant in
    ap (λ (segments : List Listed). digest.Lengths segments) all
    ∙ sym (digest_at-lengths d.has_lengths d.count d.text.now c.requires)
