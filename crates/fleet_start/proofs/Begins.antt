-- A file that begins with the first text of a journal.
use Rattle.std.proofs.Common.{◌≡◌, ℕ, List, [], ◌∷◌, ◌++◌, length, take, drop, refl, sym, ◌∙◌, ap, arith}
use Rattle.std.proofs.Common.{append_assoc, length-append, take-append-drop}
use Rattle.entry.specs.Format.{number_bytes}
use Rattle.entry.proofs.Numbers.{length-number_bytes}
use Rattle.take_journal.specs.Frames.{frame, len_bytes}
use Rattle.fleet_start.specs.First.{BeginsWith, first_text}

length_of_first : (store backup id : ℕ) → length (first_text store backup id) ≡ 26
length_of_first store backup id =
    omega (
      arith,
      length-append (number_bytes 8 store ++ number_bytes 8 backup) (number_bytes 8 id),
      length-append (number_bytes 8 store) (number_bytes 8 backup),
      length-number_bytes 8 store,
      length-number_bytes 8 backup,
      length-number_bytes 8 id,
    )

len_of_first : len_bytes 26 ≡ 0 ∷ 0 ∷ 0 ∷ 26 ∷ []
unfolding len_bytes
len_of_first = refl

pub begins : (bytes text : List ℕ) → length text ≡ 26 → take 5 bytes ≡ 1 ∷ 0 ∷ 0 ∷ 0 ∷ 26 ∷ []
    → take 26 (drop 5 bytes) ≡ text → BeginsWith text bytes
begins bytes text len front here =
    let rest = drop 26 (drop 5 bytes) in
    let behind : drop 5 bytes ≡ text ++ rest =
    sym (take-append-drop 26 (drop 5 bytes)) ∙ ap (λ (t : List ℕ). t ++ rest) here in
    let four : len_bytes (length text) ≡ 0 ∷ 0 ∷ 0 ∷ 26 ∷ [] = ap len_bytes len ∙ len_of_first in (
      rest,
      sym (take-append-drop 5 bytes)
          ∙ ap (λ (t : List ℕ). t ++ drop 5 bytes) front
          ∙ ap (λ (t : List ℕ). 1 ∷ 0 ∷ 0 ∷ 0 ∷ 26 ∷ t) behind
          ∙ ap (λ (t : List ℕ). 1 ∷ (t ++ text) ++ rest) (sym four),
    )

pub begins_first : (bytes : List ℕ) (store backup id : ℕ) → take 5 bytes ≡ 1 ∷ 0 ∷ 0 ∷ 0 ∷ 26 ∷ []
    → take 26 (drop 5 bytes) ≡ first_text store backup id → BeginsWith (first_text store backup id) bytes
begins_first bytes store backup id front here =
    begins bytes (first_text store backup id) (length_of_first store backup id) front here
