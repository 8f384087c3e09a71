use Rattle.std.proofs.Common.{◌≡◌, ℕ, true, false, Option, Some, None, List, length, rules, tests}
use Rattle.std.specs.Prelude.{IfNone}
use Rattle.std.specs.List.{AllWithin}
use Rattle.std.specs.Option.{MatchOption}
use Rattle.std.proofs.lemmas.Iterator.{IsFirst-from_position, YieldsList-from_slice}
use Rattle.entry.specs.declared.key.Key.{Key}
use Rattle.entry.specs.declared.entry.Object.{Object}
use Rattle.entry.specs.Order.{key_eq}
use Rattle.entry.specs.Meaning.{contents_of}
use Rattle.versioned_map.proofs.ObjectLists.{contents_of-unmatched}
use Rattle.versioned_map.proofs.map.VersionedMap.slot_of.Goals as goal

none_lacks : (os : List Object) (k : Key) (r : Option ℕ) (P : ℕ → Type 0)
    → MatchOption r (AllWithin (λ (o : Object). key_eq o.key k ≡ false) os 0 (length os)) P
    → IfNone r (contents_of os k ≡ None)
none_lacks os k None P all = contents_of-unmatched os k all
none_lacks os k (Some i) P at = tt

pub returns-clause-absent : goal.returns-clause-absent
returns-clause-absent c =
    let os = c.args.self.now.objects in
    let k = c.args.key.now in
    none_lacks os k c.position.result _
    (IsFirst-from_position _ _ c.position.result (λ (o : Object). key_eq o.key k ≡ true)
    (λ (o : Object). key_eq o.key k ≡ false) c.position.ensures.ran
    (YieldsList-from_slice os cc) (λ x q h. search (rules, tests)) (λ x q h. search (rules, tests)))
