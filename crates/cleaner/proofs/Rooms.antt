-- A kept entry has a place in the survivors.
use Rattle.std.proofs.Common.{◌≡◌, ℕ, suc, ◌+◌, ◌<◌, ◌≤◌, inl, inr, List, length, refl, sym, ap, subst, ◌∙◌, arith}
use Rattle.std.specs.Prelude.{Option, Some, None, IsSomeAnd, IfSome}
use Rattle.std.specs.List.{AllByRecursion}
use Rattle.std.specs.Option.{option_and_then}
use Rattle.entry.specs.declared.entry.Entry.{Entry}
use Rattle.entry.specs.Format.{spelling}
use Rattle.entry.specs.Text.{text_of}
use Rattle.segment.specs.Bytes.{standing_at}
use Rattle.images.specs.Image.{Image}
use Rattle.images.specs.Sorted.{IsWhole, segment_of}
use Rattle.images.specs.Steps.{entry_at, len_at, HasData, StandsData}
use Rattle.cleaner.specs.declared.survivors.Survivors.{Survivors}
use Rattle.cleaner.specs.Filling.{filled_one}
use Rattle.cleaner.specs.Passes.{survivor_ids, level_at}
use Rattle.cleaner.specs.Walks.{HasPlace}
use Rattle.cleaner.proofs.Fillings.{OneMore, Fits, Next, one_more}
use Rattle.cleaner.proofs.Images.{len_is}
use Rattle.cleaner.proofs.SurvivorIds.{all_ids}

-- where an object or a tombstone stands, an entry is read
pub is_read : (images : List Image) (s at len : ℕ) → HasData images s at len
    → (e : Entry) × (entry_at images s at ≡ Some e)
is_read images s at len there = go (segment_of images s) refl there
  where
    inner : (o : Option (List Entry)) (es : List Entry) → o ≡ Some es → (r : Option Entry)
        → standing_at at (text_of es) ≡ r → (P : Entry → Type 0) → IsSomeAnd r P
        → (e : Entry) × (option_and_then (λ (xs : List Entry). standing_at at (text_of xs)) o ≡ Some e)
    inner o es is None none P stands = absurd stands
    inner o es is (Some e) some P stands = (
      e,
      ap (λ (x : Option (List Entry)). option_and_then (λ (xs : List Entry). standing_at at (text_of xs)) x) is
          ∙ some,
    )

    go : (o : Option (List Entry)) → segment_of images s ≡ o
        → IsSomeAnd o (λ (es : List Entry). StandsData (text_of es) at len)
        → (e : Entry) × (entry_at images s at ≡ Some e)
    go None is none = absurd none
    go (Some es) is stands = inner (segment_of images s) es is (standing_at at (text_of es)) refl _ stands

-- what is said of the entry that is read
pub of_read : (o : Option Entry) (e : Entry) (P : Entry → Type 0) → o ≡ Some e → IfSome o P → P e
of_read o e P is all = subst (λ (x : Option Entry). IfSome x P) is all

pub all_read : (o : Option Entry) (e : Entry) (P : Entry → Type 0) → o ≡ Some e → P e → IfSome o P
all_read o e P is p = subst (λ (x : Option Entry). IfSome x P) (sym is) p

-- ---- a place

module _ (images : List Image) (from at len segment : ℕ) (s : Survivors) (filling : ℕ)
    (there : HasData images from at len) (whole : AllByRecursion (IsWhole images) (survivor_ids s))
    (room : IfSome (entry_at images from at) (λ (e : Entry). HasPlace segment s filling images (length (spelling e))))
  where
    abbrev e : Entry
    e = (is_read images from at len there).0

    abbrev n : ℕ
    n = length (spelling e)

    read : entry_at images from at ≡ Some e
    read = (is_read images from at len there).1

    has_place : HasPlace segment s filling images n
    has_place = of_read (entry_at images from at) e
        (λ (x : Entry). HasPlace segment s filling images (length (spelling x))) read room

    pub now_there : filling < s.count
    now_there = has_place.0

    pub now_whole : IsWhole images (s.first + filling)
    now_whole = all_ids (IsWhole images) s.first s.count filling whole now_there

    -- it fits the survivor that is filled
    module _ (id : ℕ) (is : id ≡ s.first + filling) (fits : IfSome (entry_at images from at)
        (λ (x : Entry). len_at images id + length (spelling x) ≤ segment)) where
      pub stays_there : IfSome (entry_at images from at) (λ (x : Entry). filling
          ≡ (filled_one segment (level_at s filling images) (length (spelling x))).survivor)
      stays_there = all_read (entry_at images from at) e
          (λ (x : Entry). filling ≡ (filled_one segment (level_at s filling images) (length (spelling x))).survivor)
          read (go (one_more segment (level_at s filling images) n))
        where
          le : len_at images (s.first + filling) + n ≤ segment
          le = subst (λ (i : ℕ). len_at images i + n ≤ segment) is
              (of_read (entry_at images from at) e
              (λ (x : Entry). len_at images id + length (spelling x) ≤ segment) read fits)

          go : OneMore segment (level_at s filling images) n
              → filling ≡ (filled_one segment (level_at s filling images) n).survivor
          go (Fits l to) = sym (ap (λ x. x.survivor) to)
          go (Next over to) = absurd (omega (arith, over, le, len_is images (s.first + filling)))

    -- it doesn't
    module _ (id : ℕ) (is : id ≡ s.first + filling) (full : IfSome (entry_at images from at)
        (λ (x : Entry). segment < len_at images id + length (spelling x))) where
      over_now : segment < len_at images (s.first + filling) + n
      over_now = subst (λ (i : ℕ). segment < len_at images i + n) is
          (of_read (entry_at images from at) e
          (λ (x : Entry). segment < len_at images id + length (spelling x)) read full)

      next_place : (suc filling < s.count) × (len_at images (s.first + suc filling) + n ≤ segment)
      next_place = elim has_place.1 [
        | inl le ↦ (let lt = over_now in absurd (omega (arith, le, lt)))
        | inr more ↦ more
      ]

      pub next_there : filling + 1 < s.count
      next_there = let lt = next_place.0 in omega (arith, lt)

      pub next_whole : IsWhole images (s.first + (filling + 1))
      next_whole = all_ids (IsWhole images) s.first s.count (filling + 1) whole next_there

      -- it fits the next one
      pub never_full : IfSome (entry_at images from at)
          (λ (x : Entry). segment < len_at images (s.first + (filling + 1)) + length (spelling x)) → ⊥
      never_full again =
          let lt = of_read (entry_at images from at) e
          (λ (x : Entry). segment < len_at images (s.first + (filling + 1)) + length (spelling x)) read again in
          let same : len_at images (s.first + (filling + 1)) ≡ len_at images (s.first + suc filling) =
          ap (λ (i : ℕ). len_at images (s.first + i)) (omega arith) in
          let le = next_place.1 in
          omega (arith, lt, le, same)

      pub goes_there : IfSome (entry_at images from at) (λ (x : Entry). filling + 1
          ≡ (filled_one segment (level_at s filling images) (length (spelling x))).survivor)
      goes_there = all_read (entry_at images from at) e
          (λ (x : Entry). filling + 1 ≡ (filled_one segment (level_at s filling images) (length (spelling x))).survivor)
          read (go (one_more segment (level_at s filling images) n))
        where
          go : OneMore segment (level_at s filling images) n
              → filling + 1 ≡ (filled_one segment (level_at s filling images) n).survivor
          go (Fits l to) = absurd (omega (arith, l, over_now, len_is images (s.first + filling)))
          go (Next over to) = omega (arith, ap (λ x. x.survivor) to)
