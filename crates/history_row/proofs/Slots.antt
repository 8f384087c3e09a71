-- Rows of slots.
use Rattle.std.proofs.Common.{◌≡◌, ◌<◌, ◌≤◌, ℕ, zero, suc, ◌+◌, ◌-◌, List, [], ◌∷◌, ◌++◌, Option, Some, None, Bool}
use Rattle.std.proofs.Common.{true, false}
use Rattle.std.proofs.Common.{MatchBool, length, drop, set, get_or, replicate, refl, sym, ap, ◌∙◌, arith, IfSome}
use Rattle.std.specs.Prelude.{slice_get, slice_set}
use Rattle.std.proofs.lemmas.List.{map-set, map-append, replicate-append-replicate}
use Rattle.std.proofs.Math.Seq.{map-set_same}
use Rattle.once_cell.specs.Once.{Agrees}
use Rattle.versioned_map.specs.declared.command.Record.{Record}
use Rattle.history_row.specs.declared.slot.Slot.{Slot}
use Rattle.history_row.specs.declared.kept.Kept.{Kept}
use Rattle.history_row.specs.Rows.{known_of, names, row_of, IsRowOf}

-- the slot that was reached stands in the row
pub at_slot : (xs : List Slot) (i : ℕ) (s : Slot) → i < length xs → s ≡ get_or xs i s
    → slice_get (row_of xs) i ≡ Some (known_of s.note.known)
at_slot [] i s h e = absurd (omega arith)
at_slot (x ∷ xs) zero s h e = ap (λ (y : Slot). Some (known_of y.note.known)) (sym e)
at_slot (x ∷ xs) (suc i) s h e = at_slot xs i s (omega arith) e

pub at_name : (xs : List Slot) (i : ℕ) (s : Slot) → i < length xs → s ≡ get_or xs i s
    → slice_get (names xs) i ≡ Some s.note.cell
at_name [] i s h e = absurd (omega arith)
at_name (x ∷ xs) zero s h e = ap (λ (y : Slot). Some y.note.cell) (sym e)
at_name (x ∷ xs) (suc i) s h e = at_name xs i s (omega arith) e

-- two notes that know a record know the same one
pub shown_agree : (k o : Option Kept) (r q : Record) → IfSome o (Agrees k) → known_of o ≡ Some r
    → known_of k ≡ Some q → q ≡ r
shown_agree None None r q h e f = cc
shown_agree (Some x) None r q h e f = cc
shown_agree None (Some y) r q h e f = cc
shown_agree (Some x) (Some y) r q h e f = let same : x.what ≡ y.what = ap (λ (k : Kept). k.what) h in cc

-- a record is put at a place, or nothing changes
pub put_slot : (b : Bool) (xs : List Slot) (i : ℕ) (s t : Slot) (k : Kept) → s ≡ get_or xs i s
    → MatchBool b (t.note.known ≡ Some k) (t.note.known ≡ s.note.known)
    → MatchBool b (row_of (set xs i t) ≡ slice_set (row_of xs) i (Some k.what)) (row_of (set xs i t) ≡ row_of xs)
put_slot true xs i s t k e h =
    map-set (λ (x : Slot). known_of x.note.known) xs i t ∙ ap (λ o. slice_set (row_of xs) i (known_of o)) h
put_slot false xs i s t k e h =
    map-set_same (λ (x : Slot). known_of x.note.known) xs i t s
    (ap known_of h ∙ ap (λ (x : Slot). known_of x.note.known) e)

-- one empty cell more
pub empty_slot : (xs : List Slot) (s : Slot) (n : ℕ) → row_of xs ≡ replicate n None → s.note.known ≡ None
    → row_of (xs ++ s ∷ []) ≡ replicate (n + 1) None
empty_slot xs s n e h = map-append (λ (x : Slot). known_of x.note.known) xs (s ∷ [])
    ∙ ap (λ l. l ++ known_of s.note.known ∷ []) e ∙ ap (λ o. replicate n None ++ known_of o ∷ []) h
    ∙ replicate-append-replicate n 1 None

-- the row has what the history has
pub row_has : (row : List (Option Record)) (h : List Record) (k : ℕ) → IsRowOf row h → k < length h → (q : Record)
    × (slice_get h k ≡ Some q) × (slice_get row k ≡ Some (Some q))
row_has [] [] k is l = absurd (omega arith)
row_has [] (r ∷ rs) k is l = absurd is
row_has (c ∷ cs) [] k is l = absurd (omega arith)
row_has (c ∷ cs) (r ∷ rs) zero is l = (r, refl, ap Some is.0)
row_has (c ∷ cs) (r ∷ rs) (suc k) is l = row_has cs rs k is.1 (omega arith)

-- a place of a list is one of its rest
pub get_behind : {X : Type 0} (xs : List X) (n i : ℕ) → n ≤ i → i < length xs
    → (i - n < length (drop n xs)) × (slice_get (drop n xs) (i - n) ≡ slice_get xs i)
get_behind xs zero i h l = let e : i - zero ≡ i = omega arith in (omega (arith, l), ap (slice_get xs) e)
get_behind [] (suc n) i h l = absurd (omega arith)
get_behind (x ∷ xs) (suc n) zero h l = absurd (omega arith)
get_behind (x ∷ xs) (suc n) (suc i) h l =
    let e : suc i - suc n ≡ i - n = omega arith in
    let r = get_behind xs n i (omega arith) (omega arith) in
    (omega (arith, r.0, e), ap (slice_get (drop n xs)) e ∙ r.1)
