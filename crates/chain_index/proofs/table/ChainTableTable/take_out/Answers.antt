use Rattle.std.proofs.Common.{◌≡◌, ℕ, ◌<◌, List, ap, sym, subst, ◌∙◌, length, get_or, set, arith}
use Rattle.places.specs.declared.place.Held.{Held}
use Rattle.places.specs.Lists.{holds_in, without}
use Rattle.place_index.specs.Steps.{BringsNoHash, IsShuffled}
use Rattle.place_index.specs.Parted.{places_in}
use Rattle.place_index.proofs.Joining.{shuffled_itself}
use Rattle.place_index.proofs.Parted.{own_brings, holds_part, without_part}
use Rattle.place_index.proofs.TakingOut.{without_brings, without_none}
use Rattle.chain_index.specs.Chains.{chain_of}
use Rattle.chain_index.proofs.table.ChainTableTable.take_out.Goals as goal

count : (c : goal.After-self-1) → c.len.result ≡ length c.self.inside.chains.items
count c = omega (arith, c.len.ensures, c.self.inside.chains.ok.0)

at : (c : goal.After-self-1) → c.chain_at-at.result ≡ chain_of (length c.self.inside.chains.items) c.args.held.hash
at c = c.chain_at-at.ensures.chain ∙ ap (λ (n : ℕ). chain_of n c.args.held.hash) (count c)

below : (c : goal.After-self-1) → c.chain_at-at.result < length c.self.inside.chains.items
below c = omega (arith, c.chain_at-at.ensures.within, count c)

-- what the chain is without the place
left : (c : goal.After-self-1) → c.take_out.new.self
    ≡ without c.args.held (get_or c.self.inside.chains.items c.chain_at-at.result c.index_mut-chain.result.now)
left c = c.take_out.ensures.taken ∙ ap (λ (xs : List Held). without c.args.held xs) c.index_mut-chain.ensures.value

had : (c : goal.After-self-1) → c.take_out.result ≡ holds_in c.args.self.now c.args.held
had c =
    let h = c.args.held in
    let cs = c.self.inside.chains.items in
    c.take_out.ensures.had
    ∙ ap (λ (xs : List Held). holds_in xs h) c.index_mut-chain.ensures.value
    ∙ sym (holds_part h (chain_of (length cs)) c.chain_at-at.result (at c) cs c.self.invariant (below c)
    c.index_mut-chain.result.now)
    ∙ ap (λ (xs : List Held). holds_in xs h) c.self.view_is

taken : (c : goal.After-self-1)
    → places_in (set c.self.inside.chains.items c.chain_at-at.result c.take_out.new.self)
    ≡ without c.args.held c.args.self.now
taken c =
    let h = c.args.held in
    let cs = c.self.inside.chains.items in
    without_part h (chain_of (length cs)) c.chain_at-at.result (at c) cs c.self.invariant (below c)
    c.index_mut-chain.result.now c.take_out.new.self (left c)
    ∙ ap (λ (xs : List Held). without h xs) c.self.view_is

pub invariant_of-self : goal.invariant_of-self
invariant_of-self c =
    let cs = c.self.inside.chains.items in
    let t = c.chain_at-at.result in
    let d = c.index_mut-chain.result.now in
    own_brings chain_of cs t d c.take_out.new.self c.self.invariant (below c)
    (subst (λ (xs : List Held). BringsNoHash (get_or cs t d) xs) (sym (left c))
    (without_brings c.args.held (get_or cs t d)))

pub returns-clause-had : goal.returns-clause-had
returns-clause-had c = had c

pub returns-clause-taken : goal.returns-clause-taken
returns-clause-taken c =
    let rest = without c.args.held c.args.self.now in
    subst (λ (xs : List Held). IsShuffled rest xs) (sym (taken c)) (shuffled_itself rest)

pub returns-clause-same : goal.returns-clause-same
returns-clause-same c = λ isnt. taken c ∙ without_none c.args.held c.args.self.now (sym (had c) ∙ isnt)
