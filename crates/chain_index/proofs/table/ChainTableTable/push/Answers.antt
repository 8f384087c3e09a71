use Rattle.std.proofs.Common.{◌≡◌, ℕ, ◌<◌, List, [], ◌∷◌, ◌++◌, ap, subst, ◌∙◌, length, set, arith}
use Rattle.std.specs.Prelude.{OnOk, OnErr}
use Rattle.places.specs.declared.place.Held.{Held}
use Rattle.place_index.specs.Steps.{BringsNoHash, IsShuffled}
use Rattle.place_index.specs.Parted.{places_in}
use Rattle.place_index.proofs.Parted.{own_result, pushed_result}
use Rattle.chain_index.specs.Chains.{chain_of}
use Rattle.chain_index.proofs.table.ChainTableTable.push.Goals as goal

pub invariant_of-self : goal.invariant_of-self
invariant_of-self c =
    let cs = c.self.inside.chains.items in
    let t = c.chain_at-at.result in
    let d = c.index_mut-chain.result.now in
    let new = c.push.new.self in
    let count : c.len.result ≡ length cs = omega (arith, c.len.ensures, c.self.inside.chains.ok.0) in
    let at : t ≡ chain_of (length cs) c.args.held.hash = c.chain_at-at.ensures.chain
    ∙ ap (λ (n : ℕ). chain_of n c.args.held.hash) count in
    let below : t < length cs = omega (arith, c.chain_at-at.ensures.within, count) in
    own_result chain_of cs t d new c.args.held c.push.result c.self.invariant below at
    (subst (λ (x : List Held). OnOk c.push.result (BringsNoHash (x ++ c.args.held ∷ []) new))
    c.index_mut-chain.ensures.value c.push.ensures.hashes)
    (subst (λ (x : List Held). OnErr c.push.result (new ≡ x)) c.index_mut-chain.ensures.value c.push.ensures.err)

pub returns-clause-ok : goal.returns-clause-ok
returns-clause-ok c =
    let cs = c.self.inside.chains.items in
    let t = c.chain_at-at.result in
    let d = c.index_mut-chain.result.now in
    let new = c.push.new.self in
    let count : c.len.result ≡ length cs = omega (arith, c.len.ensures, c.self.inside.chains.ok.0) in
    let below : t < length cs = omega (arith, c.chain_at-at.ensures.within, count) in
    subst (λ (xs : List Held). OnOk c.push.result (IsShuffled (xs ++ c.args.held ∷ [])
    (places_in (set cs t new)))) c.self.view_is
    (pushed_result cs t d new c.args.held c.push.result below
    (subst (λ (x : List Held). OnOk c.push.result (IsShuffled (x ++ c.args.held ∷ []) new))
    c.index_mut-chain.ensures.value c.push.ensures.ok))
