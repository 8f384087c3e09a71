-- How the kept entries of a pass fill its survivors, by their lengths alone.
use Rattle.std.specs.Prelude.{◌≡◌, ℕ, suc, ◌+◌, ◌<◌, ◌≤◌, ◌⊎◌, nat_le, if◌then◌else◌, List, [], ◌∷◌, sum_by}
use Rattle.std.specs.List.{AllByRecursion}
use Rattle.cleaner.specs.declared.level.Level.{Level}

-- ---- filling

-- the level before the first entry: the first survivor has its header alone, of 18 bytes
abbrev pub first_level : Level
first_level = record { survivor = 0; len = 18 }

-- the level after an entry of n bytes went to the survivor that is filled
abbrev pub behind : Level → ℕ → Level
behind a n = record { survivor = a.survivor; len = a.len + n }

-- the level after an entry of n bytes went behind the header of the next survivor
abbrev pub beginning : Level → ℕ → Level
beginning a n = record { survivor = suc a.survivor; len = 18 + n }

-- the level after one more entry; an entry that doesn't fit the survivor begins the next one
abbrev pub filled_one : ℕ → Level → ℕ → Level
filled_one segment a n = if nat_le (a.len + n) segment then behind a n else beginning a n

-- the level after more entries of these lengths, in order
abbrev pub filled : ℕ → Level → List ℕ → Level
filled segment a [] = a
filled segment a (n ∷ ns) = filled segment (filled_one segment a n) ns

-- how many survivors entries of these lengths fill: at least one
abbrev pub survivors_for : ℕ → List ℕ → ℕ
survivors_for segment ns = suc (filled segment first_level ns).survivor

abbrev pub total : List ℕ → ℕ
total ns = sum_by (λ (n : ℕ). n) ns

-- an entry of each length fits a segment behind a header
abbrev pub EachFits : ℕ → List ℕ → Type 0
EachFits segment ns = AllByRecursion (λ (n : ℕ). 18 + n ≤ segment) ns

-- ---- fewer entries

-- the first list has some of the numbers of the second, in their order
abbrev pub AreSome : List ℕ → List ℕ → Type 0
AreSome [] ns = Unit {0}
AreSome (k ∷ ks) [] = ⊥
AreSome (k ∷ ks) (n ∷ ns) = ((k ≡ n) × AreSome ks ns) ⊎ AreSome (k ∷ ks) ns

-- the first level is no further than the second
abbrev pub IsNoFurther : Level → Level → Type 0
IsNoFurther a b = (a.survivor < b.survivor) ⊎ ((a.survivor ≡ b.survivor) × (a.len ≤ b.len))

-- ---- rooms

-- What a pass with `count` survivors needs, if entries of these lengths are still to come. If none of them dies, they
-- fill no more survivors than there are. Each fits a segment behind a header.
pub record HasRooms (segment count : ℕ) (a : Level) (ns : List ℕ) : Type 0 where
  pub within : a.len ≤ segment
  pub header : 18 ≤ a.len
  pub each : EachFits segment ns
  pub enough : (filled segment a ns).survivor < count
