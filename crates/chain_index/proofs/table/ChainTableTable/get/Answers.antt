use Rattle.std.proofs.Common.{◌≡◌, ℕ, ◌<◌, List, ap, sym, subst, ◌∙◌, length, arith}
use Rattle.entry.specs.View.{shown_key}
use Rattle.places.specs.declared.place.Held.{Held}
use Rattle.places.specs.Lists.{AreKeptIn, found_in}
use Rattle.place_index.proofs.Parted.{kept_part, found_part}
use Rattle.chain_index.specs.Chains.{chain_of}
use Rattle.chain_index.proofs.table.ChainTableTable.get.Goals as goal

pub returns : goal.returns
returns g c = λ hash_of of all.
    let keys = g.R.Resolve.keys c.args.resolver.now in
    let k = shown_key c.args.key.now in
    let cs = c.self.inside.chains.items in
    let t = c.chain_at-at.result in
    let d = c.index-chain.result.now in
    let count : c.len.result ≡ length cs = omega (arith, c.len.ensures, c.self.inside.chains.ok.0) in
    let at : t ≡ chain_of (length cs) (hash_of k) =
    c.chain_at-at.ensures.chain ∙ ap (λ (n : ℕ). chain_of n c.args.hash) count
    ∙ ap (λ (h : ℕ). chain_of (length cs) h) of in
    let below : t < length cs = omega (arith, c.chain_at-at.ensures.within, count) in
    let whole = subst (λ (xs : List Held). AreKeptIn hash_of keys xs) (sym c.self.view_is) all in
    let kept = kept_part hash_of keys k (chain_of (length cs)) t at cs c.self.invariant below d whole in
    c.get.ensures hash_of of (subst (λ (x : List Held). AreKeptIn hash_of keys x) (sym c.index-chain.ensures) kept)
    ∙ ap (λ (x : List Held). found_in keys k x) c.index-chain.ensures
    ∙ sym (found_part hash_of keys k (chain_of (length cs)) t at cs c.self.invariant below d whole)
    ∙ ap (λ (xs : List Held). found_in keys k xs) c.self.view_is
