-- Tablets: which keys are in a tablet, and which lists of tablets are valid.
use Rattle.std.specs.Prelude.{◌≡◌, ℕ, List, [], ◌∷◌, Bool, true, false, ◌==◌, ◌&&◌, ◌||◌, nat_lt, nat_le, Some}
use Rattle.std.specs.List.{list_any, slice_get}
use Rattle.entry.specs.declared.key.Key.{Key}
use Rattle.entry.specs.declared.tablet.Tablet.{Tablet}
use Rattle.entry.specs.Key.{place_of}

-- the key's place is in the tablet
abbrev pub has_key : Tablet → Key → Bool
has_key t k = (t.table == k.table) && (nat_le t.first (place_of k.bytes) && nat_le (place_of k.bytes) t.last)

-- the key's place is in one of the tablets
abbrev pub have_key : List Tablet → Key → Bool
have_key ts k = list_any (λ (t : Tablet). has_key t k) ts

-- the first tablet ends before the second begins; tablets are ordered by table, then by place
abbrev pub is_before : Tablet → Tablet → Bool
is_before t u = nat_lt t.table u.table || ((t.table == u.table) && nat_lt t.last u.first)

abbrev pub is_tablet : Tablet → Bool
is_tablet t = nat_le t.first t.last

-- each tablet has at least one place, and ends before the next one begins
abbrev pub are_in_order : List Tablet → Bool
are_in_order [] = true
are_in_order (t ∷ []) = is_tablet t
are_in_order (t ∷ u ∷ ts) = is_tablet t && (is_before t u && are_in_order (u ∷ ts))

-- a valid list of tablets: it isn't empty, and its tablets are sorted and disjoint
abbrev pub are_tablets : List Tablet → Bool
are_tablets [] = false
are_tablets (t ∷ ts) = are_in_order (t ∷ ts)

-- ---- a law

-- No key lies in two tablets of a valid list.
abbrev pub TabletsAreDisjoint : Type 0
TabletsAreDisjoint = (ts : List Tablet) (k : Key) (i j : ℕ) (t u : Tablet) → are_tablets ts ≡ true →
    slice_get ts i ≡ Some t → slice_get ts j ≡ Some u → has_key t k ≡ true → has_key u k ≡ true → i ≡ j
