-- What is found of crash images, as one more is opened.
use Rattle.std.proofs.Common.{◌≡◌, ◌↔◌, ◌⊎◌, inl, inr, ℕ, zero, suc, ◌+◌, ◌<◌, List, [], ◌∷◌, ◌++◌, length, Option}
use Rattle.std.proofs.Common.{None, Some}
use Rattle.std.proofs.Common.{Bool, true, refl, sym, ◌∙◌, ap, subst, arith}
use Rattle.std.specs.Prelude.{Contains}
use Rattle.std.specs.List.{slice_get}
use Rattle.std.proofs.lemmas.Option.{none-some, same_Some}
use Rattle.file_fleet.specs.Files.{Files, Noted, ShowsUnder, named}
use Rattle.file_fleet.specs.Members.{device_at, replicas_at}
use Rattle.file_fleet.specs.declared.member.Member.{Member}
use Rattle.fleet_start.specs.Found.{AreRead, is_found, was_found}
use Rattle.crash_fleet.specs.Images.{image_at}
use Rattle.crash_fleet.specs.Opened.{AreKept, IsOpened}

-- what holds of each item, and of one more, holds of each of them
each_more : {A : Type 0} (P : ℕ → A → Type 0) (xs : List A) (x : A)
    → ((c : ℕ) (y : A) → slice_get xs c ≡ Some y → P c y) → P (length xs) x
    → (c : ℕ) (y : A) → slice_get (xs ++ x ∷ []) c ≡ Some y → P c y
each_more P [] x each here zero y at = subst (λ z. P 0 z) (same_Some x y at) here
each_more P [] x each here (suc c) y at = absurd (none-some y at)
each_more P (z ∷ zs) x each here zero y at = each 0 y at
each_more P (z ∷ zs) x each here (suc c) y at =
    each_more (λ d w. P (suc d) w) zs x (λ d w is. each (suc d) w is) here c y at

-- what holds of each place's item, and of one more, if there is one
places_more : {A : Type 0} (P : ℕ → Option A → Type 0) (xs : List A) (x : A)
    → ((c : ℕ) → c < length xs → P c (slice_get xs c)) → P (length xs) (Some x)
    → (c : ℕ) → c < length (xs ++ x ∷ []) → P c (slice_get (xs ++ x ∷ []) c)
places_more P [] x each here zero lt = here
places_more P [] x each here (suc c) lt = absurd (omega (arith, lt))
places_more P (z ∷ zs) x each here zero lt = each 0 (omega arith)
places_more P (z ∷ zs) x each here (suc c) lt =
    places_more (λ d w. P (suc d) w) zs x (λ d l. each (suc d) (omega (arith, l))) here c (omega (arith, lt))

length_more : {A : Type 0} (xs : List A) (x : A) → length (xs ++ x ∷ []) ≡ length xs + 1
length_more [] x = refl
length_more (y ∷ ys) x = let less = length_more ys x in omega (arith, less)

module _ {D : Type 0} (image : D → List ℕ) (list : List (Member D)) (files : Files) (noted : Noted)
    (left : Member D) (is_kept : Bool) (old new : List (Option (Member D)))
    (opened : IsOpened image noted left is_kept old new) (at : slice_get list (length old) ≡ Some left) where
  pub read_more : ((b : ℕ) → named files b ≡ image_at image (slice_get list b)) → AreRead noted old files
      → AreRead noted new files
  read_more named_is read = record {
    registry_is = read.registry_is;
    each = λ b h there. each_more (λ c (place : Option (Member D)). (h : Member D) → place ≡ Some h
        → ShowsUnder (noted.span c) (replicas_at h) (named files c)) old opened.place
        (λ c place was g is. read.each c g (was ∙ ap Some is))
        (λ g is. subst (λ (file : List ℕ). ShowsUnder (noted.span (length old)) (replicas_at g) file)
        (sym (named_is (length old) ∙ ap (image_at image) at)) (opened.shows g is))
        b (Some h) (subst (λ (ps : List (Option (Member D))). slice_get ps b ≡ Some (Some h)) opened.added there) h
        refl;
  }

  pub kept_more : (kept : List ℕ) → (is_kept ≡ true) ↔ Contains kept (length old) → AreKept kept old → AreKept kept new
  kept_more kept asked are =
      subst (λ (ps : List (Option (Member D))). AreKept kept ps) (sym opened.added)
      (places_more (λ c place. (was_found place ≡ true) ↔ Contains kept c) old opened.place are (
        λ was. asked.0 (sym opened.found ∙ was),
        λ in_list. opened.found ∙ asked.1 in_list,
      ))

  pub count_more : length new ≡ length old + 1
  count_more = ap (λ (ps : List (Option (Member D))). length ps) opened.added ∙ length_more old opened.place
