-- Where a text is cut at its first space.
use Rattle.std.proofs.Common.{◌≡◌, ◌+◌, ◌-◌, ◌≤◌, ◌∷◌, [], ℕ, List, length, take, drop, cond, ltb, Option, Some, None}
use Rattle.std.proofs.Common.{true, false, arith}
use Rattle.std.specs.List.{slice_split, position_or_len}
use Rattle.std.proofs.lemmas.List.{take_rest}
use Rattle.std.proofs.lemmas.List.Sums.{fails_before_first}
use Rattle.std.proofs.lemmas.List.Splits.{slice_split_first, slice_split_none}
use Rattle.std.proofs.lemmas.Bool.{ltb-true, ltb-false}
use Rattle.lines.specs.Cutting.{is_space}

-- where the first space is found
abbrev found : List ℕ → Option ℕ
found text = cond (ltb (position_or_len is_space text) (length text)) (Some (position_or_len is_space text)) None

pub cut_at : (text : List ℕ) (at : ℕ) → Some at ≡ found text
    → slice_split is_space text ≡ take at text ∷ slice_split is_space
    (take (length text - (at + 1)) (drop (at + 1) text))
cut_at text at is =
    elim (ltb (position_or_len is_space text) (length text)) as (λ b. ltb
    (position_or_len is_space text) (length text) ≡ b
    → Some at ≡ cond b (Some (position_or_len is_space text)) None
    → slice_split is_space text ≡ take at text ∷ slice_split is_space
    (take (length text - (at + 1)) (drop (at + 1) text))) [
      | true ↦ λ yes e.
          let same : at ≡ position_or_len is_space text = cc in
          rw (take_rest, same) (slice_split_first is_space text 0 (ltb-true _ _ yes))
      | false ↦ λ no e. absurd (cc)
    ] (λ i. ltb (position_or_len is_space text) (length text)) is

pub not_cut : (text : List ℕ) → None ≡ found text → slice_split is_space text ≡ text ∷ []
not_cut text is =
    elim (ltb (position_or_len is_space text) (length text)) as (λ b. ltb
    (position_or_len is_space text) (length text) ≡ b
    → None ≡ cond b (Some (position_or_len is_space text)) None → slice_split is_space text ≡ text ∷ []) [
      | true ↦ λ yes e. absurd (cc)
      | false ↦ λ no e.
          let past : length text ≤ position_or_len is_space text = ltb-false _ _ no in
          slice_split_none is_space text (λ k d below. fails_before_first is_space text k d (omega arith))
    ]
    (λ i. ltb (position_or_len is_space text) (length text)) is
