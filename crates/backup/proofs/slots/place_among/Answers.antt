use Rattle.std.proofs.Common.{rules}
use Rattle.std.specs.Prelude.{IfOk, IfErr}
use Rattle.std.proofs.lemmas.List.Sorted.{answers_always}
use Rattle.backup.specs.Slots.{IsAt, IsGapFor}
use Rattle.backup.proofs.Shelves.{searched}
use Rattle.backup.proofs.slots.place_among.Goals as goal
use Rattle.backup.proofs.slots.place_among.Goals.{After-binary_search_by_key}

found : (c : After-binary_search_by_key)
    → IfOk c.binary_search_by_key.result (IsAt c.args.slots.now c.args.place)
    × IfErr c.binary_search_by_key.result (IsGapFor c.args.slots.now c.args.place)
found c =
    let facts = c.binary_search_by_key.ensures in
    let by_place = facts.position (λ slot. slot.0) (answers_always _ _ _ (λ f a r g called. search rules)) in
    searched c.args.slots.now c.requires c.args.place c.binary_search_by_key.result facts.bound by_place

pub returns-clause-found : goal.returns-clause-found
returns-clause-found c = (found (goal.at.returns-clause-found c).After-binary_search_by_key).0

pub returns-clause-absent : goal.returns-clause-absent
returns-clause-absent c = (found (goal.at.returns-clause-absent c).After-binary_search_by_key).1
