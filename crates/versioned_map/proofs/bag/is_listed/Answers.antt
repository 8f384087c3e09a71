use Rattle.std.proofs.Common.{◌∙◌, rules, tests}
use Rattle.std.proofs.lemmas.Iterator.{YieldsList-from_slice}
use Rattle.std.proofs.lemmas.Iterator.Search.{any_from_yields_List}
use Rattle.entry.specs.declared.entry.Object.{Object}
use Rattle.entry.specs.Order.{key_eq}
use Rattle.versioned_map.proofs.ObjectLists.{contents_of-any}
use Rattle.versioned_map.proofs.bag.is_listed.Goals as goal

pub returns : goal.returns
returns c =
    let os = c.args.objects.now in
    let k = c.args.key.now in
    any_from_yields_List (λ (o : Object). key_eq o.key k) _ _ _ c.any.ensures.ran (YieldsList-from_slice os cc)
    (λ x b q h. search (rules, tests))
    ∙ contents_of-any os k
