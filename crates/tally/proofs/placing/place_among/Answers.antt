use Rattle.std.proofs.Common.{rules}
use Rattle.std.proofs.lemmas.List.Sorted.{answers_always}
use Rattle.tally.proofs.Searching.{searched, placed}
use Rattle.tally.proofs.placing.place_among.Goals as goal

pub returns-clause-found : goal.returns-clause-found
returns-clause-found c =
    let facts = c.binary_search_by_key.ensures in
    let by_key = facts.position (λ row. row.segment) (answers_always _ _ _ (λ f a r g called. search rules)) in
    let found = searched c.args.rows.now c.args.segment c.binary_search_by_key.result c.requires facts.bound by_key in
    (placed c.args.rows.now c.args.segment c.binary_search_by_key.result c.ok.result c.ok.ensures.value found).0

pub returns-clause-absent : goal.returns-clause-absent
returns-clause-absent c =
    let facts = c.binary_search_by_key.ensures in
    let by_key = facts.position (λ row. row.segment) (answers_always _ _ _ (λ f a r g called. search rules)) in
    let found = searched c.args.rows.now c.args.segment c.binary_search_by_key.result c.requires facts.bound by_key in
    (placed c.args.rows.now c.args.segment c.binary_search_by_key.result c.ok.result c.ok.ensures.value found).1
