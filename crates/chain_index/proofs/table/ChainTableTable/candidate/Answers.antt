use Rattle.std.proofs.Common.{◌≡◌, ℕ, ◌<◌, List, ap, sym, subst, ◌∙◌, length, arith}
use Rattle.places.specs.declared.place.Held.{Held}
use Rattle.places.specs.Lists.{AreKeptIn, found_in}
use Rattle.place_index.proofs.Parted.{kept_part, found_part}
use Rattle.place_index.proofs.Slots.{candidate_same}
use Rattle.chain_index.specs.Chains.{chain_of}
use Rattle.chain_index.proofs.table.ChainTableTable.candidate.Goals as goal

pub returns : goal.returns
returns c = λ hash_of keys k of all.
    let cs = c.self.inside.chains.items in
    let t = c.chain_at-at.result in
    let d = c.index-chain.result.now in
    let count : c.len.result ≡ length cs = omega (arith, c.len.ensures, c.self.inside.chains.ok.0) in
    let at : t ≡ chain_of (length cs) (hash_of k) =
    c.chain_at-at.ensures.chain ∙ ap (λ (n : ℕ). chain_of n c.args.hash) count
    ∙ ap (λ (h : ℕ). chain_of (length cs) h) of in
    let below : t < length cs = omega (arith, c.chain_at-at.ensures.within, count) in
    let whole = subst (λ (xs : List Held). AreKeptIn hash_of keys xs) (sym c.self.view_is) all in
    let kept = kept_part hash_of keys k (chain_of (length cs)) t at cs c.self.invariant below d whole in
    let same =
    ap (λ (xs : List Held). found_in keys k xs) (sym c.self.view_is)
    ∙ found_part hash_of keys k (chain_of (length cs)) t at cs c.self.invariant below d whole
    ∙ ap (λ (x : List Held). found_in keys k x) (sym c.index-chain.ensures) in
    candidate_same keys k c.args.hash d c.args.self.now c.candidate.result same
    (c.candidate.ensures hash_of keys k of
    (subst (λ (x : List Held). AreKeptIn hash_of keys x) (sym c.index-chain.ensures) kept))
