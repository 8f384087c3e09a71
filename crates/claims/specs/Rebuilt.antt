-- What a log is rebuilt to.
use Rattle.std.specs.Prelude.{◌≡◌, ℕ, max, List, map, All, ⊤}
use Rattle.std.specs.List.Sorted.{IsStrictlySortedBy}
use Rattle.entry.specs.declared.entry.Object.{Object}
use Rattle.entry.specs.declared.entry.Entry.{Entry}
use Rattle.entry.specs.Format.{IsObject}
use Rattle.entry.specs.Order.{key_cmp}
use Rattle.entry.specs.Meaning.{IsMeaning, IsClean, among, bound_of, contents_of}
use Rattle.claims.specs.Bags.{segments_bag}
use Rattle.claims.specs.declared.rebuilt.Rebuilt.{Rebuilt}
use Rattle.claims.specs.declared.fault.ReplayFault.{ReplayFault}
use Rattle.claims.specs.declared.fault.ReplayFault.TheVariants as fault

-- The list has what the segments mean, by table and then key bytes, and the safe version is above all their versions.
pub record IsRebuilt (segments : List (List Entry)) (recorded : ℕ) (r : Rebuilt) : Type 0 where
  pub meaning : IsMeaning (among (segments_bag segments)) (contents_of r.objects)
  -- each key once, in order
  pub order : IsStrictlySortedBy key_cmp (map (λ (o : Object). o.key) r.objects)
  pub valid : All IsObject r.objects
  pub safe : r.safe ≡ max recorded (bound_of (segments_bag segments))

-- The log is refused: memory ran out, or some key has two values at one version.
abbrev pub IsRefusal : List (List Entry) → ReplayFault → Type 0
IsRefusal segments fault.NoMemory = ⊤
IsRefusal segments fault.Clash = ¬ IsClean (among (segments_bag segments))
IsRefusal segments _ = ⊥
