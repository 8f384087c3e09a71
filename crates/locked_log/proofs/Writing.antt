-- A row and its history.
use Rattle.std.proofs.Common.{◌≡◌, ◌<◌, ℕ, zero, suc, List, [], ◌∷◌, ◌++◌, Option, Some, None, Bool, true, false}
use Rattle.std.proofs.Common.{MatchBool, length, take, set, replicate, refl, ap, ◌∙◌, subst, arith, length-append}
use Rattle.std.specs.Prelude.{slice_set}
use Rattle.std.proofs.lemmas.List.{take-append-le}
use Rattle.std.proofs.Math.Seq.{take-length}
use Rattle.versioned_map.specs.declared.command.Record.{Record}
use Rattle.history_row.specs.Rows.{IsRowOf}
use Rattle.locked_log.specs.States.{IsWritten}

pub row_push : (row : List (Option Record)) (w : List Record) (r : Record) → IsRowOf row w → length w < length row
    → IsRowOf (set row (length w) (Some r)) (w ++ r ∷ [])
row_push [] [] r h l = absurd (omega arith)
row_push [] (x ∷ xs) r h l = absurd h
row_push (c ∷ cs) [] r h l = (refl, h.1)
row_push (c ∷ cs) (x ∷ xs) r h l = (h.0, row_push cs xs r h.1 (omega arith))

-- a row is of one length of history
pub one_length : (row : List (Option Record)) (xs ys : List Record) → IsRowOf row xs → IsRowOf row ys
    → length xs ≡ length ys
one_length [] [] [] h g = refl
one_length [] [] (y ∷ ys) h g = absurd g
one_length [] (x ∷ xs) ys h g = absurd h
one_length (c ∷ cs) [] [] h g = refl
one_length (c ∷ cs) [] (y ∷ ys) h g = let a = h.0 in let b = g.0 in absurd (cc)
one_length (c ∷ cs) (x ∷ xs) [] h g = let a = h.0 in let b = g.0 in absurd (cc)
one_length (c ∷ cs) (x ∷ xs) (y ∷ ys) h g = ap suc (one_length cs xs ys h.1 g.1)

-- if no cell refused its record, the row is the history
pub row_whole : (row : List (Option Record)) (h : List Record) (is_refused : Bool) → IsWritten row h is_refused
    → is_refused ≡ false
    → IsRowOf row h
row_whole row h is_refused w off = subst (λ l. IsRowOf row l) (ap (λ n. take n h) (w.whole off) ∙ take-length h) w.is

-- then it is short of a longer one
pub row_short : (row : List (Option Record)) (h : List Record) (r : Record) → IsRowOf row h
    → IsRowOf row (h ++ r ∷ []) → ⊥
row_short row h r is more = omega (arith, one_length row h (h ++ r ∷ []) is more, length-append h (r ∷ []))

-- one record more, which its cell took or not
pub written_push : (took : Bool) (row next : List (Option Record)) (h g : List Record) (r : Record)
    (was is_refused : Bool)
    → was ≡ false → g ≡ h ++ r ∷ [] → length h < length row → IsWritten row h was
    → MatchBool took (next ≡ slice_set row (length h) (Some r)) (next ≡ row) → (is_refused ≡ false → took ≡ true)
    → IsWritten next g is_refused
written_push true row next h g r was is_refused off is room w e when =
    let now : IsRowOf next (take (length g) g) = rw e (rw (take-length g)
    (rw is (row_push row h r (row_whole row h was w off) room))) in
    record { count = length g; within = omega arith; whole = λ _. refl; is = now }
written_push false row next h g r was is_refused off is room w e when =
    let cut : take w.count g ≡ take w.count h = rw is (take-append-le w.count h (r ∷ []) w.within) in
    record {
      count = w.count;
      within = omega (arith, w.within, ap length is, length-append h (r ∷ []));
      whole = λ c. let no = when c in absurd (cc);
      is = rw e (rw cut w.is);
    }

-- a cell was refused, or the book is of other numbers
pub written_refused : (row : List (Option Record)) (h : List Record) (was : Bool) → IsWritten row h was
    → IsWritten row h true
written_refused row h was w = record { count = w.count; within = w.within; whole = λ c. absurd (cc); is = w.is }

pub empty_row : (n : ℕ) → IsRowOf (replicate n None) []
empty_row zero = tt
empty_row (suc n) = (refl, empty_row n)
