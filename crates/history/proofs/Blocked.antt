-- The rows of all blocks as one list: its length, the block and the slot of each row, and what is left without the
-- first block.
use Rattle.std.proofs.Common.{◌≡◌, ℕ, zero, suc, ◌+◌, ◌-◌, ◌*◌, ◌/◌, ◌%◌, ◌<◌, ◌≤◌, List, [], ◌∷◌, ◌++◌, Vec, drop}
use Rattle.std.proofs.Common.{length, get_or, append_assoc, append-nil, length-append, refl, sym, ap, ◌∙◌, arith}
use Rattle.std.proofs.lemmas.List.{get_or_append_left, get_or-append_right}
use Rattle.std.proofs.lemmas.Grind.{flat_map-append}
use Rattle.std.specs.List.{flat_map, AllByRecursion}
use Rattle.history.specs.declared.packing.Row.{Row}
use Rattle.history.specs.Rows.{rows_in, AreBlocks}

dropped_front : (xs ys : List Row) (n : ℕ) → length xs ≡ n → drop n (xs ++ ys) ≡ ys
dropped_front [] ys zero long = refl
dropped_front [] ys (suc n) long = absurd (omega (arith, long))
dropped_front (x ∷ xs) ys zero long = absurd (omega (arith, long))
dropped_front (x ∷ xs) ys (suc n) long = dropped_front xs ys n (omega (arith, long))

module _ {A : Type 0} where
  full_length : (full : List (Vec Row A)) → AllByRecursion (λ (b : Vec Row A). length b.items ≡ 1024) full
      → length (flat_map (λ (b : Vec Row A). b.items) full) ≡ 1024 * length full
  full_length [] all = refl
  full_length (b ∷ bs) all =
      omega (arith, length-append b.items (flat_map (λ (c : Vec Row A). c.items) bs), all.0, full_length bs all.1)

  -- how many rows there are
  pub rows_length : (full : List (Vec Row A)) (last : List Row) → AreBlocks full last
      → length (rows_in full last) ≡ 1024 * length full + length last
  rows_length full last are =
      omega (arith, length-append (flat_map (λ (b : Vec Row A). b.items) full) last, full_length full are.filled)

  got_full : (full : List (Vec Row A)) (at q r : ℕ) (d : Vec Row A) (e : Row)
      → AllByRecursion (λ (b : Vec Row A). length b.items ≡ 1024) full → q < length full → r < 1024
      → at ≡ q * 1024 + r
      → get_or (flat_map (λ (b : Vec Row A). b.items) full) at e ≡ get_or (get_or full q d).items r e
  got_full [] at q r d e all among low is = absurd (omega arith)
  got_full (b ∷ bs) at zero r d e all among low is =
      ap (λ (i : ℕ). get_or (b.items ++ flat_map (λ (c : Vec Row A). c.items) bs) i e) (omega (arith, is))
      ∙ get_or_append_left b.items (flat_map (λ (c : Vec Row A). c.items) bs) e r (omega (arith, all.0, low))
  got_full (b ∷ bs) at (suc q) r d e all among low is =
      get_or-append_right b.items (flat_map (λ (c : Vec Row A). c.items) bs) 1024 at e all.0 (omega (arith, is))
      ∙ got_full bs (at - 1024) q r d e all.1 (omega (arith, among)) low (omega (arith, is))

  module _ (full : List (Vec Row A)) (last rows : List Row) (are : AreBlocks full last)
      (view : rows_in full last ≡ rows) (at : ℕ) where
    -- a row of the last block is there
    pub last_among : at < length rows → length full ≤ at / 1024 → at - 1024 * length full < length last
    last_among below behind =
        omega (arith, below, behind, ap (λ (ys : List Row). length ys) view, rows_length full last are)

    -- a row of a full block
    pub full_row : (x : Row) (b : Vec Row A) → at / 1024 < length full → b ≡ get_or full (at / 1024) b
        → x ≡ get_or b.items (at % 1024) x → x ≡ get_or rows at x
    full_row x b among there is =
        let before : at < length (flat_map (λ (c : Vec Row A). c.items) full) =
        omega (arith, among, full_length full are.filled) in
        is ∙ ap (λ (y : Vec Row A). get_or y.items (at % 1024) x) there
        ∙ sym (got_full full at (at / 1024) (at % 1024) b x are.filled among (omega arith) (omega arith))
        ∙ sym (get_or_append_left (flat_map (λ (c : Vec Row A). c.items) full) last x at before)
        ∙ ap (λ (ys : List Row). get_or ys at x) view

    -- a row of the last block
    pub last_row : (x : Row) (n : ℕ) → n ≡ length full → n ≤ at / 1024 → x ≡ get_or last (at - 1024 * n) x
        → x ≡ get_or rows at x
    last_row x n count behind is =
        is ∙ ap (λ (i : ℕ). get_or last (at - 1024 * i) x) count
        ∙ sym (get_or-append_right (flat_map (λ (c : Vec Row A). c.items) full) last (1024 * length full) at x
        (full_length full are.filled) (omega (arith, behind, count)))
        ∙ ap (λ (ys : List Row). get_or ys at x) view

  -- the last block becomes full
  pub one_more_full : (full : List (Vec Row A)) (b : Vec Row A)
      → rows_in (full ++ b ∷ []) [] ≡ rows_in full b.items
  one_more_full full b =
      append-nil (flat_map (λ (c : Vec Row A). c.items) (full ++ b ∷ []))
      ∙ flat_map-append (λ (c : Vec Row A). c.items) full (b ∷ [])
      ∙ ap (λ (ys : List Row). flat_map (λ (c : Vec Row A). c.items) full ++ ys) (append-nil b.items)

  -- the last block gets a row
  pub one_more_row : (full : List (Vec Row A)) (last new : List Row) (x : Row) → new ≡ last ++ x ∷ []
      → rows_in full new ≡ rows_in full last ++ x ∷ []
  one_more_row full last new x more =
      ap (λ (ys : List Row). flat_map (λ (b : Vec Row A). b.items) full ++ ys) more
      ∙ sym (append_assoc (flat_map (λ (b : Vec Row A). b.items) full) last (x ∷ []))

  -- the first block is given back
  pub block_dropped : (full left : List (Vec Row A)) (last rows : List Row) → AreBlocks full last
      → rows_in full last ≡ rows → 0 < length full → left ≡ drop 1 full
      → (1024 ≤ length rows) × (rows_in left last ≡ drop 1024 rows)
  block_dropped [] left last rows are view some is = absurd (omega arith)
  block_dropped (b ∷ bs) left last rows are view some is =
      let whole : b.items ++ rows_in bs last ≡ rows =
      sym (append_assoc b.items (flat_map (λ (c : Vec Row A). c.items) bs) last) ∙ view in (
        omega (arith, ap (λ (l : List Row). length l) whole, length-append b.items (rows_in bs last), are.filled.0),
        ap (λ (l : List (Vec Row A)). rows_in l last) is
            ∙ sym (dropped_front b.items (rows_in bs last) 1024 are.filled.0)
            ∙ ap (λ (l : List Row). drop 1024 l) whole,
      )
