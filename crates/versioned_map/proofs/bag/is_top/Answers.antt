use Rattle.std.proofs.Common.{rules, tests}
use Rattle.std.proofs.lemmas.Iterator.{cases_from_any, YieldsList-from_slice}
use Rattle.entry.specs.declared.entry.Entry.{Entry}
use Rattle.versioned_map.proofs.Listings.{Outranks, highest_from_cases}
use Rattle.versioned_map.proofs.bag.is_top.Goals as goal

pub returns : goal.returns
returns c =
    let bag = c.args.bag.now in
    let o = c.args.object.now in
    highest_from_cases bag o c.any.result
    (cases_from_any _ _ c.any.result (λ (e : Entry). Outranks o e)
    (λ (e : Entry). Outranks o e → ⊥) c.any.ensures.ran (YieldsList-from_slice bag cc)
    (λ x q h. search (rules, tests)) (λ x q h. search (rules, tests)))
