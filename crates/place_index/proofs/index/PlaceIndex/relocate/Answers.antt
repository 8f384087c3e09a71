use Rattle.std.proofs.Common.{◌≡◌, ◌++◌, List, length, length-append, sym, ap, ◌∙◌, arith}
use Rattle.places.specs.declared.place.Held.{Held}
use Rattle.places.specs.Map.{IndexValue}
use Rattle.places.specs.Map.{IndexValue}
use Rattle.places.specs.Relocation.{relocated}
use Rattle.place_index.proofs.Relocating.{relocated_first, relocated_right, relocated_none, relocated_len}
use Rattle.place_index.proofs.index.PlaceIndex.relocate.Goals as goal

pub invariant_of-self : goal.invariant_of-self
invariant_of-self g c =
    let table = g.T.Table.places c.self.inside.table in
    let waiting = c.self.inside.waiting.held in
    let new = g.T.Table.places c.relocate.new.self in
    let same : length new ≡ length table =
    ap (λ (xs : List Held). length xs) c.relocate.ensures.moved ∙ relocated_len c.args.held _ table in
    record {
      counted = omega (arith, length-append table waiting, length-append new waiting);
      fits = c.self.invariant.fits;
      taken = c.self.invariant.taken;
    }

pub invariant_of-self-else-relocate : goal.invariant_of-self-else-relocate
invariant_of-self-else-relocate g c =
    let table = g.T.Table.places c.self.inside.table in
    let waiting = c.self.inside.waiting.held in
    let new = g.T.Table.places c.relocate.new.self in
    let rest = c.put.new.self.held in
    let first : length new ≡ length table =
    ap (λ (xs : List Held). length xs) c.relocate.ensures.moved ∙ relocated_len c.args.held _ table in
    let second : length rest ≡ length waiting =
    ap (λ (xs : List Held). length xs) c.put.ensures.moved ∙ relocated_len c.args.held _ waiting in
    record {
      counted = omega (arith, length-append table waiting, length-append new rest);
      fits = c.self.invariant.fits;
      taken = omega (arith, c.put.ensures.room);
    }

pub returns-then-relocate-clause-moved : goal.returns-then-relocate-clause-moved
returns-then-relocate-clause-moved g c =
    let h = c.args.held in
    let to = c.args.to in
    let table = g.T.Table.places c.self.inside.table in
    let waiting = c.self.inside.waiting.held in
    let seed = g.H.KeyHash.seed c.self.inside.hasher in
    let list = ap (λ (xs : List Held). xs ++ waiting) c.relocate.ensures.moved
    ∙ sym (relocated_first h to table waiting (sym c.relocate.ensures.had ∙ c.if-relocate.true)) in
    ap (λ (xs : List Held). record { seed = seed; list = xs }) list
    ∙ ap (λ (v : IndexValue). relocated h to v.held) c.self.view_is

pub returns-else-relocate-clause-moved : goal.returns-else-relocate-clause-moved
returns-else-relocate-clause-moved g c =
    let h = c.args.held in
    let to = c.args.to in
    let table = g.T.Table.places c.self.inside.table in
    let waiting = c.self.inside.waiting.held in
    let rest = c.put.new.self.held in
    let isnt = sym c.relocate.ensures.had ∙ c.if-relocate.false in
    let seed = g.H.KeyHash.seed c.self.inside.hasher in
    let list = ap (λ (xs : List Held). xs ++ rest) (c.relocate.ensures.moved ∙ relocated_none h to table isnt)
    ∙ ap (λ (xs : List Held). table ++ xs) c.put.ensures.moved
    ∙ sym (relocated_right h to table waiting isnt) in
    ap (λ (xs : List Held). record { seed = seed; list = xs }) list
    ∙ ap (λ (v : IndexValue). relocated h to v.held) c.self.view_is
