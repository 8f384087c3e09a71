use Rattle.std.proofs.Common.{◌≡◌, ℕ, ◌<◌, List, ap, sym, subst, ◌∙◌, length, get_or, arith}
use Rattle.places.specs.declared.place.Held.{Held}
use Rattle.places.specs.Lists.{holds_in, relocated_in}
use Rattle.place_index.specs.Steps.{BringsNoHash}
use Rattle.place_index.proofs.Parted.{own_brings, holds_part, relocated_part}
use Rattle.place_index.proofs.Relocating.{relocated_brings}
use Rattle.chain_index.specs.Chains.{chain_of}
use Rattle.chain_index.proofs.table.ChainTableTable.relocate.Goals as goal

count : (c : goal.After-self-1) → c.len.result ≡ length c.self.inside.chains.items
count c = omega (arith, c.len.ensures, c.self.inside.chains.ok.0)

at : (c : goal.After-self-1) → c.chain_at-at.result ≡ chain_of (length c.self.inside.chains.items) c.args.held.hash
at c = c.chain_at-at.ensures.chain ∙ ap (λ (n : ℕ). chain_of n c.args.held.hash) (count c)

below : (c : goal.After-self-1) → c.chain_at-at.result < length c.self.inside.chains.items
below c = omega (arith, c.chain_at-at.ensures.within, count c)

-- what the chain is with the place moved
moved : (c : goal.After-self-1) → c.relocate.new.self ≡ relocated_in c.args.held c.args.to
    (get_or c.self.inside.chains.items c.chain_at-at.result c.index_mut-chain.result.now)
moved c =
    c.relocate.ensures.moved
    ∙ ap (λ (xs : List Held). relocated_in c.args.held c.args.to xs) c.index_mut-chain.ensures.value

pub invariant_of-self : goal.invariant_of-self
invariant_of-self c =
    let cs = c.self.inside.chains.items in
    let t = c.chain_at-at.result in
    let d = c.index_mut-chain.result.now in
    own_brings chain_of cs t d c.relocate.new.self c.self.invariant (below c)
    (subst (λ (xs : List Held). BringsNoHash (get_or cs t d) xs) (sym (moved c))
    (relocated_brings c.args.held c.args.to (get_or cs t d)))

pub returns-clause-had : goal.returns-clause-had
returns-clause-had c =
    let h = c.args.held in
    let cs = c.self.inside.chains.items in
    c.relocate.ensures.had
    ∙ ap (λ (xs : List Held). holds_in xs h) c.index_mut-chain.ensures.value
    ∙ sym (holds_part h (chain_of (length cs)) c.chain_at-at.result (at c) cs c.self.invariant (below c)
    c.index_mut-chain.result.now)
    ∙ ap (λ (xs : List Held). holds_in xs h) c.self.view_is

pub returns-clause-moved : goal.returns-clause-moved
returns-clause-moved c =
    let h = c.args.held in
    let cs = c.self.inside.chains.items in
    relocated_part h (chain_of (length cs)) c.chain_at-at.result (at c) cs c.self.invariant (below c)
    c.index_mut-chain.result.now c.args.to c.relocate.new.self (moved c)
    ∙ ap (λ (xs : List Held). relocated_in h c.args.to xs) c.self.view_is
