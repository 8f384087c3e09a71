-- What an edit of the list makes of all tallies.
use Rattle.std.proofs.Common.{◌≡◌, ℕ, ◌<◌, ◌≤◌, ◌⊎◌, inl, inr, Bool, true, false, not, List, [], ◌∷◌, ◌++◌, length}
use Rattle.std.proofs.Common.{get_or}
use Rattle.std.proofs.Common.{take, drop, arith, set, insert, remove, map, filter, refl, sym, ap, subst, ◌∙◌, ◌==◌}
use Rattle.std.proofs.Common.{if◌then◌else◌}
use Rattle.std.proofs.lemmas.Bool.{not-true}
use Rattle.std.specs.Prelude.{Option, Some, None, IfNone}
use Rattle.entry.specs.Bag.{IsAmong}
use Rattle.compactor.specs.Kept.{has_id}
use Rattle.tally.specs.declared.tallies.Tally.{Tally}
use Rattle.tally.specs.Rows.{AreRising, HasNo, IsPlaceOf, IsPlaceFor, staled, IsChangedAt, WithOne, IsCommitted}
use Rattle.tally.specs.Rows.{OthersAreKept, IsKeptAt, AreKeptBut, Fits}
use Rattle.tally.proofs.Listing.{same_row, among_at, set_has, set_keeps, set_members, set_rising}
use Rattle.tally.proofs.Listing.{remove_keeps, remove_members, insert_keeps, insert_members, insert_rising}
use Rattle.tally.proofs.Listing.{filter_members, filter_keeps, filter_rising, map_members, map_keeps, map_rising}

-- ---- no tally is of the segment

pub none_changed : (s : ℕ) (change : Tally → Tally) (rows : List Tally) → HasNo s rows → IsChangedAt s change rows rows
none_changed s change rows none row is = inl (is, none row is)

pub none_kept : (s : ℕ) (change : Tally → Tally) (rows : List Tally) → HasNo s rows → IsKeptAt s change rows rows
none_kept s change rows none row is here fits = absurd (none row is here)

-- ---- the tally at a place

module _ (rows : List Tally) (s at : ℕ) (w : Tally) (rising : AreRising rows) (place : IsPlaceOf rows s at)
    (there : w ≡ get_or rows at w) where
  pub own : w.segment ≡ s
  own = ap (λ (y : Tally). y.segment) there ∙ place.is w

  pub among : IsAmong w rows
  among = subst (λ (y : Tally). IsAmong y rows) (sym there) (among_at rows at w place.within)

  -- it is the only one of its segment
  alone : (row : Tally) → IsAmong row rows → row.segment ≡ s → w ≡ row
  alone row is here = there ∙ same_row rows at w row rising place.within is (here ∙ sym (place.is w))

  -- it is changed
  module _ (change : Tally → Tally) (one : Tally) (is_one : one ≡ change w) where
    pub changed : IsChangedAt s change rows (set rows at one)
    changed row is = go (set_members rows at one w row rising place.within is)
      where
        go : (IsAmong row rows × (row.segment ≡ (get_or rows at w).segment → ⊥)) ⊎ (row ≡ one)
            → (IsAmong row rows × (row.segment ≡ s → ⊥))
            ⊎ ((was : Tally) × IsAmong was rows × (was.segment ≡ s) × (row ≡ change was))
        go (inl old) = inl (old.0, λ here. old.1 (here ∙ sym (place.is w)))
        go (inr new) = inr (w, among, own, new ∙ is_one)

    pub kept : IsKeptAt s change rows (set rows at one)
    kept row is here fits =
        subst (λ (y : Tally). IsAmong y (set rows at one)) (is_one ∙ ap change (alone row is here))
        (set_has rows at one place.within)

    pub rises : (change w).segment ≡ w.segment → AreRising (set rows at one)
    rises same =
        set_rising rows at one w rising place.within (ap (λ (y : Tally). y.segment) is_one ∙ same
        ∙ ap (λ (y : Tally). y.segment) there)

  -- it goes
  pub gone : (change : Tally → Tally) → IsChangedAt s change rows (remove rows at)
  gone change row is =
      let old = remove_members rows at w row rising place.within is in
      inl (old.0, λ here. old.1 (here ∙ sym (place.is w)))

  pub gone_kept : (change : Tally → Tally) → (Fits (change w) → ⊥) → IsKeptAt s change rows (remove rows at)
  gone_kept change never row is here fits =
      absurd (never (subst (λ (y : Tally). Fits (change y)) (sym (alone row is here)) fits))

pub others : (rows : List Tally) (s at : ℕ) (one : Tally) → IsPlaceOf rows s at → OthersAreKept s rows (set rows at one)
others rows s at one place row is other =
    set_keeps rows at one one row is (λ here. other (here ∙ place.is one))

pub gone_others : (rows : List Tally) (s at : ℕ) → IsPlaceOf rows s at → OthersAreKept s rows (remove rows at)
gone_others rows s at place row is other = remove_keeps rows at row row is (λ here. other (here ∙ place.is row))

-- ---- one is put in

pub put_one : (rows : List Tally) (s at : ℕ) (one : Tally) → AreRising rows → IsPlaceOf rows s at
    → WithOne one rows (set rows at one)
put_one rows s at one rising place row is = go (set_members rows at one one row rising place.within is)
  where
    go : (IsAmong row rows × (row.segment ≡ (get_or rows at one).segment → ⊥)) ⊎ (row ≡ one)
        → IsAmong row rows ⊎ (row ≡ one)
    go (inl old) = inl old.0
    go (inr new) = inr new

pub put_rises : (rows : List Tally) (s at : ℕ) (one : Tally) → AreRising rows → IsPlaceOf rows s at → one.segment ≡ s
    → AreRising (set rows at one)
put_rises rows s at one rising place same =
    set_rising rows at one one rising place.within (same ∙ sym (place.is one))

pub with_same : (one other : Tally) (old new : List Tally) → one ≡ other → WithOne one old new → WithOne other old new
with_same one other old new same is = subst (λ (y : Tally). WithOne y old new) same is

-- the list, with one more if there was memory
abbrev pub inserted : Bool → List Tally → ℕ → Tally → List Tally
inserted b rows at one = if b then insert rows at one else rows

pub inserted_one : (b : Bool) (rows : List Tally) (s at : ℕ) (one : Tally) → IsPlaceFor rows s at
    → WithOne one rows (inserted b rows at one)
inserted_one true rows s at one place row is = insert_members rows at one row place.within is
inserted_one false rows s at one place row is = inl is

pub inserted_kept : (b : Bool) (rows : List Tally) (s at : ℕ) (one : Tally)
    → OthersAreKept s rows (inserted b rows at one)
inserted_kept true rows s at one row is other = insert_keeps rows at one row is
inserted_kept false rows s at one row is other = is

pub inserted_rises : (b : Bool) (rows : List Tally) (s at : ℕ) (one : Tally) → AreRising rows → IsPlaceFor rows s at
    → HasNo s rows → one.segment ≡ s → AreRising (inserted b rows at one)
inserted_rises false rows s at one rising place none same = rising
inserted_rises true rows s at one rising place none same =
    insert_rising rows at one place.within rising
    (λ (k : ℕ) (d : Tally) (lt : k < at). subst (λ (n : ℕ). (get_or rows k d).segment ≤ n) (sym same)
    (place.low k d lt))
    (λ (k : ℕ) (d : Tally) (le : at ≤ k) (lt : k < length rows).
    subst (λ (n : ℕ). n < (get_or rows k d).segment) (sym same) (place.high k d le lt))
    (λ row is here. none row is (here ∙ same))

-- ---- a pass is committed

abbrev pub without : List ℕ → List Tally → List Tally
without victims rows = filter (λ (row : Tally). not (has_id victims row.segment)) rows

staled_segment : (row : Tally) → (staled row).segment ≡ row.segment
staled_segment row = go (row.stones == 0)
  where
    go : (b : Bool) → (if b then row else record row { is_fresh = false }).segment ≡ row.segment
    go true = refl
    go false = refl

pub committed : (victims : List ℕ) (rows : List Tally) → IsCommitted victims rows (map staled (without victims rows))
committed victims rows row is =
    let from = map_members staled (without victims rows) row is in
    let old = filter_members (λ (y : Tally). not (has_id victims y.segment)) rows from.0 from.1 in
    (from.0, old.0, not-true (has_id victims from.0.segment) old.1, from.2)

pub committed_kept : (victims : List ℕ) (rows : List Tally) → AreKeptBut victims rows
    (map staled (without victims rows))
committed_kept victims rows row is other =
    map_keeps staled (without victims rows) row
    (filter_keeps (λ (y : Tally). not (has_id victims y.segment)) rows row is (ap not other))

pub committed_rises : (victims : List ℕ) (rows : List Tally) → AreRising rows
    → AreRising (map staled (without victims rows))
committed_rises victims rows rising =
    map_rising staled (without victims rows) staled_segment
    (filter_rising (λ (y : Tally). not (has_id victims y.segment)) rows rising)

-- ---- what a search says

pub none_found : (s : ℕ) (xs rows : List Tally) (found : Option ℕ) → xs ≡ rows → IfNone found (HasNo s xs)
    → ((at : ℕ) → found ≡ Some at → ⊥) → HasNo s rows
none_found s xs rows None same none never = subst (HasNo s) same none
none_found s xs rows (Some at) same none never = absurd (never at refl)

-- ---- a list that is written in place

refill : (xs ys : List Tally) → length ys ≡ length xs → take (length xs) (ys ++ drop (length ys) xs) ≡ ys
refill [] [] same = refl
refill [] (y ∷ ys) same = absurd (omega (arith, same))
refill (x ∷ xs) [] same = absurd (omega (arith, same))
refill (x ∷ xs) (y ∷ ys) same = ap (λ (zs : List Tally). y ∷ zs) (refill xs ys (omega (arith, same)))

mapped_length : (f : Tally → Tally) (rows : List Tally) → length (map f rows) ≡ length rows
mapped_length f [] = refl
mapped_length f (x ∷ xs) = let rest = mapped_length f xs in omega (arith, rest)

pub refilled : (f : Tally → Tally) (count : ℕ) (xs ys : List Tally) → length xs ≡ count → ys ≡ map f xs
    → take count (ys ++ drop (length ys) xs) ≡ map f xs
refilled f count xs ys many is =
    ap (λ (n : ℕ). take n (ys ++ drop (length ys) xs)) (sym many)
    ∙ refill xs ys (ap (λ (zs : List Tally). length zs) is ∙ mapped_length f xs)
    ∙ is
