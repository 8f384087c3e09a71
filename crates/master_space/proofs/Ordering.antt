-- Sorted candidates: the place of one more, the first 32, and those that fit.
use Rattle.std.proofs.Common.{◌≡◌, ℕ, zero, suc, ◌+◌, ◌<◌, ◌≤◌, Bool, true, false, cond, List, [], ◌∷◌, ◌++◌, length}
use Rattle.std.proofs.Common.{take, drop, get_or, refl, sym, ap, subst, ◌∙◌, inl, inr, append_assoc, add-one, drop-cons}
use Rattle.std.proofs.Common.{arith}
use Rattle.std.specs.Prelude.{insert, nat_lt, ◌&&◌, ◌⊎◌, ◌==◌, Some, unwrap_or}
use Rattle.std.specs.List.{AllByRecursion}
use Rattle.std.specs.Option.{option_map}
use Rattle.std.proofs.lemmas.Bool.{ltb-true, and_parts}
use Rattle.std.proofs.lemmas.List.{take_more, append-nil, drop_all}
use Rattle.entry.specs.declared.entry.Entry.{Entry}
use Rattle.entry.specs.Text.{IsSegment}
use Rattle.cleaner.specs.declared.level.Level.{Level}
use Rattle.cleaner.specs.Filling.{first_level, filled}
use Rattle.cleaner.specs.KeptLengths.{kept_lengths, segment_lengths}
use Rattle.cleaner.specs.Passes.{images_in, places_from, places_of}
use Rattle.cleaner.proofs.Fillings.{filled_on}
use Rattle.cleaner.proofs.Lengths.{lengths_join}
use Rattle.cleaner.proofs.SegmentFits.{lengths_of_segment}
use Rattle.images.specs.Image.{Image}
use Rattle.images.specs.Sorted.{image_of}
use Rattle.master_state.specs.Budget.{has_memory_for}
use Rattle.master_state.specs.Causes.{survivors_for}
use Rattle.master_state.specs.Data.{MasterData}
use Rattle.master_state.specs.Log.{log_set_ids}
use Rattle.master_space.specs.declared.candidates.Candidate.{Candidate}
use Rattle.master_space.specs.Choosing.{is_before, placed, filled_by, fitting}

-- ---- the place of one more

module _ (c d : Candidate) (xs : List Candidate) (i : ℕ) (lt : i < length xs)
    (so_far : placed c xs ≡ take i xs ++ placed c (drop i xs)) where
  abbrev x : Candidate
  x = get_or xs i d

  next : drop i xs ≡ x ∷ drop (i + 1) xs
  next = rw add-one (drop-cons xs i d lt)

  front : placed c (drop i xs) ≡ placed c (x ∷ drop (i + 1) xs)
  front = ap (placed c) next

  pub place_here : is_before c x ≡ true → insert xs i c ≡ placed c xs
  place_here is =
      ap (λ (ys : List Candidate). take i xs ++ c ∷ ys) next
      ∙ ap (λ (b : Bool). take i xs ++ cond b (c ∷ x ∷ drop (i + 1) xs) (x ∷ placed c (drop (i + 1) xs))) (sym is)
      ∙ ap (λ (ys : List Candidate). take i xs ++ ys) (sym front) ∙ sym so_far

  pub place_later : is_before c x ≡ false → placed c xs ≡ take (i + 1) xs ++ placed c (drop (i + 1) xs)
  place_later isnt =
      so_far ∙ ap (λ (ys : List Candidate). take i xs ++ ys) front
      ∙ ap (λ (b : Bool). take i xs ++ cond b (c ∷ x ∷ drop (i + 1) xs) (x ∷ placed c (drop (i + 1) xs))) isnt
      ∙ sym (append_assoc (take i xs) (x ∷ []) (placed c (drop (i + 1) xs)))
      ∙ ap (λ (ys : List Candidate). ys ++ placed c (drop (i + 1) xs)) (sym (take_more xs i d lt))

-- ---- the best

take_twice : (n : ℕ) (xs : List Candidate) → take n (take n xs) ≡ take n xs
take_twice zero xs = refl
take_twice (suc n) [] = refl
take_twice (suc n) (x ∷ xs) = ap (λ (ys : List Candidate). x ∷ ys) (take_twice n xs)

take_less : (n : ℕ) (y : Candidate) (xs : List Candidate) → take n (y ∷ take n xs) ≡ take n (y ∷ xs)
take_less zero y xs = refl
take_less (suc n) y [] = refl
take_less (suc n) y (x ∷ xs) = ap (λ (ys : List Candidate). y ∷ ys) (take_less n x xs)

-- only the best matter
pub best_placed : (n : ℕ) (c : Candidate) (xs : List Candidate) → take n (placed c (take n xs)) ≡ take n (placed c xs)
best_placed zero c xs = refl
best_placed (suc n) c [] = refl
best_placed (suc n) c (x ∷ xs) = go (is_before c x) (best_placed n c xs) where
  go : (b : Bool) → take n (placed c (take n xs)) ≡ take n (placed c xs)
      → take (suc n) (cond b (c ∷ x ∷ take n xs) (x ∷ placed c (take n xs)))
      ≡ take (suc n) (cond b (c ∷ x ∷ xs) (x ∷ placed c xs))
  go true later = ap (λ (ys : List Candidate). c ∷ ys) (take_less n x xs)
  go false later = ap (λ (ys : List Candidate). x ∷ ys) later

-- ---- what fits

module _ (d : MasterData) (c : Candidate) (xs : List Candidate) (i : ℕ) (level : Level) (lt : i < length xs) where
  abbrev y : Candidate
  y = get_or xs i c

  abbrev rest : List Candidate
  rest = drop (i + 1) xs

  abbrev next_level : Level
  next_level = filled_by d level y.id

  abbrev takes : Bool
  takes = nat_lt next_level.survivor 4 && has_memory_for d (suc next_level.survivor)

  split : drop i xs ≡ y ∷ rest
  split = rw add-one (drop-cons xs i c lt)

  behind : fitting d level (drop i xs) ≡ cond takes (y.id ∷ fitting d next_level rest) []
  behind = ap (fitting d level) split

  pub fits_none : (ids all : List ℕ) → takes ≡ false → ids ++ fitting d level (drop i xs) ≡ all → ids ≡ all
  fits_none ids all over so_far =
      sym (append-nil ids)
      ∙ ap (λ (b : Bool). ids ++ cond b (y.id ∷ fitting d next_level rest) []) (sym over)
      ∙ ap (λ (zs : List ℕ). ids ++ zs) (sym behind) ∙ so_far

  pub fits_more : (ids all : List ℕ) → takes ≡ true → ids ++ fitting d level (drop i xs) ≡ all
      → (ids ++ y.id ∷ []) ++ fitting d next_level rest ≡ all
  fits_more ids all within so_far =
      append_assoc ids (y.id ∷ []) (fitting d next_level rest)
      ∙ ap (λ (b : Bool). ids ++ cond b (y.id ∷ fitting d next_level rest) []) (sym within)
      ∙ ap (λ (zs : List ℕ). ids ++ zs) (sym behind) ∙ so_far

-- behind the last one nothing fits
pub fits_end : (d : MasterData) (level : Level) (xs : List Candidate) (ids all : List ℕ) → xs ≡ []
    → ids ++ fitting d level xs ≡ all → ids ≡ all
fits_end d level xs ids all none so_far =
    sym (append-nil ids) ∙ ap (λ (ys : List Candidate). ids ++ fitting d level ys) (sym none) ∙ so_far

-- ---- how far they fill survivors

-- once the segments of these ids were filled in
abbrev pub filled_all : MasterData → Level → List ℕ → Level
filled_all d level [] = level
filled_all d level (id ∷ ids) = filled_all d (filled_by d level id) ids

pub filled_last : (d : MasterData) (level : Level) (ids : List ℕ) (id : ℕ)
    → filled_all d level (ids ++ id ∷ []) ≡ filled_by d (filled_all d level ids) id
filled_last d level [] id = refl
filled_last d level (z ∷ ids) id = filled_last d (filled_by d level z) ids id

-- The first so many candidates were filled in.
pub record IsFitting (d : MasterData) (xs : List Candidate) (i : ℕ) (ids : List ℕ) (level : Level) : Type 0 where
  pub so_far : ids ++ fitting d level (drop i xs) ≡ fitting d first_level xs
  pub level_is : level ≡ filled_all d first_level ids
  pub few : level.survivor < 4
  pub bytes : level.len ≤ 16777216

-- what has no image keeps nothing
some_image : (cs : List Image) (s : ℕ) → AllByRecursion (λ (c : Image). IsSegment c.segment) cs
    → (images_in cs s ≡ []) ⊎ IsSegment (images_in cs s)
some_image [] s all = inl refl
some_image (c ∷ cs) s all = go (c.id == s) (some_image cs s all.1) where
  go : (t : Bool) → (images_in cs s ≡ []) ⊎ IsSegment (images_in cs s)
      → (unwrap_or (option_map (λ (x : Image). x.segment) (cond t (Some c) (image_of cs s))) [] ≡ [])
      ⊎ IsSegment (unwrap_or (option_map (λ (x : Image). x.segment) (cond t (Some c) (image_of cs s))) [])
  go true later = inr all.0
  go false later = later

-- as many survivors as a pass over them has
module _ (d : MasterData) (segments : AllByRecursion (λ (c : Image). IsSegment c.segment) d.closed) where
  abbrev images : ℕ → List Entry
  images = images_in d.closed

  abbrev pub Lengths : List ℕ → List ℕ
  Lengths ids = kept_lengths (log_set_ids d) d.index images (places_of images ids)

  one_segment : (s : ℕ) → kept_lengths (log_set_ids d) d.index images (places_from s 0 (images s))
      ≡ segment_lengths (log_set_ids d) d.index s (images s)
  one_segment s = elim (some_image d.closed s segments) [
    | inl none ↦ (
        ap (λ (es : List Entry). kept_lengths (log_set_ids d) d.index images (places_from s 0 es)) none
        ∙ sym (ap (segment_lengths (log_set_ids d) d.index s) none))
    | inr valid ↦ lengths_of_segment (log_set_ids d) d.index images s valid
  ]

  pub all_filled : (level : Level) (ids : List ℕ)
      → filled_all d level ids ≡ filled d.config.segment level (Lengths ids)
  all_filled level [] = refl
  all_filled level (id ∷ ids) =
      all_filled (filled_by d level id) ids
      ∙ sym (filled_on d.config.segment level (segment_lengths (log_set_ids d) d.index id (images id)) (Lengths ids))
      ∙ sym (ap (filled d.config.segment level)
      (lengths_join (log_set_ids d) d.index images (places_from id 0 (images id)) (places_of images ids)
      ∙ ap (λ (ns : List ℕ). ns ++ Lengths ids) (one_segment id)))

  pub filled_survivors : (ids : List ℕ) → suc (filled_all d first_level ids).survivor ≡ survivors_for d ids
  filled_survivors ids = ap (λ (a : Level). suc a.survivor) (all_filled first_level ids)

  pub fitting_survivors : (xs : List Candidate) (i : ℕ) (ids : List ℕ) (level : Level) → IsFitting d xs i ids level
      → level.survivor + 1 ≡ survivors_for d ids
  fitting_survivors xs i ids level f =
      let same = ap (λ (a : Level). a.survivor) f.level_is in
      let all = filled_survivors ids in
      omega (arith, same, all)

-- ---- the loop

module _ (d : MasterData) where
  pub fitting_start : (xs : List Candidate) (ids : List ℕ) → ids ≡ [] → IsFitting d xs 0 ids first_level
  fitting_start xs ids none =
      subst (λ (zs : List ℕ). IsFitting d xs 0 zs first_level) (sym none)
      (record { so_far = refl; level_is = refl; few = omega arith; bytes = omega arith })

  module _ (xs : List Candidate) (i : ℕ) (ids : List ℕ) (level : Level) (f : IsFitting d xs i ids level) where
    pub fitting_end : length xs ≤ i → ids ≡ fitting d first_level xs
    fitting_end past = fits_end d level (drop i xs) ids (fitting d first_level xs) (drop_all i xs past) f.so_far

    module _ (c : Candidate) (lt : i < length xs) (next : Level)
        (filled_is : next ≡ filled_by d level (get_or xs i c).id) where
      takes_next : (b : Bool) → b ≡ (nat_lt next.survivor 4 && has_memory_for d (suc next.survivor))
          → takes d c xs i level lt ≡ b
      takes_next b is =
          sym (ap (λ (a : Level). nat_lt a.survivor 4 && has_memory_for d (suc a.survivor)) filled_is) ∙ sym is

      pub fitting_stop : false ≡ (nat_lt next.survivor 4 && has_memory_for d (suc next.survivor))
          → ids ≡ fitting d first_level xs
      fitting_stop over =
          fits_none d c xs i level lt ids (fitting d first_level xs) (takes_next false over) f.so_far

      pub fitting_next : true ≡ (nat_lt next.survivor 4 && has_memory_for d (suc next.survivor))
          → next.len ≤ 16777216 → IsFitting d xs (i + 1) (ids ++ (get_or xs i c).id ∷ []) next
      fitting_next within bytes =
          record {
            so_far =
                ap (λ (a : Level). (ids ++ (get_or xs i c).id ∷ []) ++ fitting d a (drop (i + 1) xs)) filled_is
                ∙ fits_more d c xs i level lt ids (fitting d first_level xs) (takes_next true within) f.so_far;
            level_is =
                filled_is
                ∙ ap (λ (a : Level). filled_by d a (get_or xs i c).id) f.level_is
                ∙ sym (filled_last d first_level ids (get_or xs i c).id);
            few = ltb-true next.survivor 4 (and_parts (nat_lt next.survivor 4)
                (has_memory_for d (suc next.survivor)) (sym within)).0;
            bytes = bytes;
          }
