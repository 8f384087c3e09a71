-- What was found, as one backup more is looked for or put in its place.
use Rattle.std.proofs.Common.{◌≡◌, ◌⊎◌, inl, inr, ℕ, ◌<◌, zero, suc, List, [], ◌∷◌, ◌++◌, length, set, arith}
use Rattle.std.proofs.Common.{map, Bool, true, false, ◌==◌, cond, Option, None, Some, refl, sym, ◌∙◌, ap, subst}
use Rattle.std.specs.List.{slice_get}
use Rattle.std.proofs.lemmas.Bool.Decides.{nat_tests}
use Rattle.std.proofs.lemmas.Bool.{eqb-true}
use Rattle.std.proofs.lemmas.Option.{none-some, same_Some}
use Rattle.std.proofs.Math.Dec.{eqb-zero-suc, eqb-suc-zero, eqb-suc-suc}
use Rattle.file_fleet.specs.Files.{Noted, with_file}
use Rattle.file_fleet.specs.Members.{IsFresh, IsMember, IsUnder}
use Rattle.file_fleet.specs.declared.member.Member.{Member}
use Rattle.file_fleet.specs.declared.registry.Span.{Span}
use Rattle.file_fleet.proofs.Kept.{under_whole}
use Rattle.fleet_start.specs.Found.{AreFound}

-- ---- lists

-- what holds of each item, and of one more, holds of each of them
each_more : {A : Type 0} (P : ℕ → A → Type 0) (xs : List A) (x : A)
    → ((c : ℕ) (y : A) → slice_get xs c ≡ Some y → P c y) → P (length xs) x
    → (c : ℕ) (y : A) → slice_get (xs ++ x ∷ []) c ≡ Some y → P c y
each_more P [] x each here zero y at = subst (λ z. P 0 z) (same_Some x y at) here
each_more P [] x each here (suc c) y at = absurd (none-some y at)
each_more P (z ∷ zs) x each here zero y at = each 0 y at
each_more P (z ∷ zs) x each here (suc c) y at =
    each_more (λ d w. P (suc d) w) zs x (λ d w is. each (suc d) w is) here c y at

get_set : {A : Type 0} (xs : List A) (b : ℕ) (x : A) (c : ℕ) → b < length xs
    → slice_get (set xs b x) c ≡ cond (b == c) (Some x) (slice_get xs c)
get_set [] b x c within = absurd (omega arith)
get_set (y ∷ ys) zero x zero within = refl
get_set (y ∷ ys) zero x (suc c) within = rw (eqb-zero-suc c) refl
get_set (y ∷ ys) (suc b) x zero within = rw (eqb-suc-zero b) refl
get_set (y ∷ ys) (suc b) x (suc c) within = rw (eqb-suc-suc b c) (get_set ys b x c (omega arith))

-- what holds of each other item, and of this one, holds of each once this one is put there
each_set : {A : Type 0} (P : ℕ → A → Type 0) (xs : List A) (b : ℕ) (x : A) → b < length xs
    → ((c : ℕ) (y : A) → (b == c) ≡ false → slice_get xs c ≡ Some y → P c y) → P b x
    → (c : ℕ) (y : A) → slice_get (set xs b x) c ≡ Some y → P c y
each_set P xs b x within others here c y at =
    by_test (b == c) refl (subst (λ o. o ≡ Some y) (get_set xs b x c within) at)
  where
    by_test : (t : Bool) → (b == c) ≡ t → cond t (Some x) (slice_get xs c) ≡ Some y → P c y
    by_test true same is = subst (λ k. P k y) (eqb-true b c same) (subst (λ z. P b z) (same_Some x y is) here)
    by_test false other is = others c y other is

-- what stands behind some items that are there
at_next : {A : Type 0} (xs : List A) (x : A) (rest : List (Option A))
    → slice_get (map Some xs ++ Some x ∷ rest) (length xs) ≡ Some (Some x)
at_next [] x rest = refl
at_next (y ∷ ys) x rest = at_next ys x rest

map_more : {A : Type 0} (xs : List A) (x : A) → map Some (xs ++ x ∷ []) ≡ map Some xs ++ Some x ∷ []
map_more [] x = refl
map_more (y ∷ ys) x = ap (λ zs. Some y ∷ zs) (map_more ys x)

-- one item more was there
pub items_more : {A : Type 0} (old new : List A) (x : A) (yielded : List (Option A)) (place : Option A)
    → map Some old ≡ yielded → new ≡ old ++ x ∷ [] → place ≡ Some x → map Some new ≡ yielded ++ place ∷ []
items_more old new x yielded place items added is =
    ap (map Some) added ∙ map_more old x ∙ ap (λ ys. ys ++ Some x ∷ []) items
    ∙ ap (λ p. yielded ++ p ∷ []) (sym is)

-- ---- what was found

module _ {D R : Type 0} (contents : D → List ℕ) (may_leave : D → List ℕ → Type 0) (has_failed : D → Bool)
    (noted : R → Noted) (is_sound : R → Type 0) where
  abbrev Found : List (Option (Member D)) → R → Type 0
  Found places r = AreFound contents may_leave has_failed noted is_sound places r

  -- a place is filled as the registry has it, if it is filled
  pub record Fits (n : Noted) (b : ℕ) (h : Member D) : Type 0 where
    pub member : IsMember contents may_leave has_failed h
    pub under : IsUnder may_leave (n.span b) h
    pub named : n.file b ≡ h.id

  abbrev IsFit : Noted → ℕ → Option (Member D) → Type 0
  IsFit n b place = (h : Member D) → place ≡ Some h → Fits n b h

  fits : (places : List (Option (Member D))) (r : R) → Found places r → (b : ℕ) (place : Option (Member D))
      → slice_get places b ≡ Some place → IsFit (noted r) b place
  fits places r found b place at h is =
      let here : slice_get places b ≡ Some (Some h) = at ∙ ap (λ (p : Option (Member D)). Some p) is in record {
        member = (found.each b h here).0;
        under = (found.each b h here).1;
        named = found.named b h here;
      }

  all_fit : (places : List (Option (Member D))) (r : R) → is_sound r
      → ((b : ℕ) (place : Option (Member D)) → slice_get places b ≡ Some place → IsFit (noted r) b place)
      → Found places r
  all_fit places r sound each = record {
    registry_is = sound;
    each = λ b h at. let here = each b (Some h) at h refl in (here.member, here.under);
    named = λ b h at. (each b (Some h) at h refl).named;
  }

  pub none_found : (r : R) → is_sound r → Found [] r
  none_found r sound = record {
    registry_is = sound;
    each = λ b h at. absurd (none-some (Some h) at);
    named = λ b h at. absurd (none-some (Some h) at);
  }

  -- one backup more
  pub found_more : (places : List (Option (Member D))) (r : R) (h : Member D) → Found places r
      → IsMember contents may_leave has_failed h → IsUnder may_leave ((noted r).span (length places)) h
      → (noted r).file (length places) ≡ h.id → Found (places ++ Some h ∷ []) r
  found_more places r h found member under name =
      all_fit (places ++ Some h ∷ []) r found.registry_is
      (each_more (λ b p. IsFit (noted r) b p) places (Some h) (fits places r found)
      (λ i is. subst (λ k. Fits (noted r) (length places) k) (same_Some h i is)
      (record { member = member; under = under; named = name })))

  -- one missing more
  pub missing_more : (places : List (Option (Member D))) (r : R) → Found places r → Found (places ++ None ∷ []) r
  missing_more places r found =
      all_fit (places ++ None ∷ []) r found.registry_is
      (each_more (λ b p. IsFit (noted r) b p) places None (fits places r found) (λ i is. absurd (none-some i is)))

  -- a fresh one in its place, once the registry names its file
  pub found_put : (places : List (Option (Member D))) (r s : R) (b : ℕ) (h : Member D) → Found places r
      → b < length places → is_sound s → noted s ≡ with_file (noted r) b h.id
      → IsFresh contents may_leave has_failed h → Found (set places b (Some h)) s
  found_put places r s b h found within sound is fresh =
      all_fit (set places b (Some h)) s sound
      (subst (λ (n : Noted). (c : ℕ) (p : Option (Member D)) → slice_get (set places b (Some h)) c ≡ Some p
      → IsFit n c p) (sym is)
      (each_set (λ c p. IsFit (with_file (noted r) b h.id) c p) places b (Some h) within
      (λ c p other at i of. stays c i other (fits places r found c p at i of))
      (λ i of. subst (λ k. Fits (with_file (noted r) b h.id) b k) (same_Some h i of) here)))
    where
      span_other : (c : ℕ) → (b == c) ≡ false → (with_file (noted r) b h.id).span c ≡ (noted r).span c
      span_other c other = rw other refl

      file_other : (c : ℕ) → (b == c) ≡ false → (with_file (noted r) b h.id).file c ≡ (noted r).file c
      file_other c other = rw other refl

      stays : (c : ℕ) (i : Member D) → (b == c) ≡ false → Fits (noted r) c i → Fits (with_file (noted r) b h.id) c i
      stays c i other fit = record {
        member = fit.member;
        under = subst (λ (t : Span). IsUnder may_leave t i) (sym (span_other c other)) fit.under;
        named = file_other c other ∙ fit.named;
      }

      here : Fits (with_file (noted r) b h.id) b h
      here = record {
        member = fresh.member;
        under = under_whole contents may_leave has_failed noted is_sound ((with_file (noted r) b h.id).span b) h
            fresh.member fresh.goes_on (rw same refl);
        named = rw same refl;
      }
        where
          same : (b == b) ≡ true
          same = grind (arith, nat_tests)

  -- the registry keeps the same, and goes on
  pub found_still : (places : List (Option (Member D))) (r s : R) → Found places r → is_sound s
      → noted s ≡ noted r → Found places s
  found_still places r s found sound is = record {
    registry_is = sound;
    each = λ b h at. subst (λ (n : Noted). IsMember contents may_leave has_failed h × IsUnder may_leave (n.span b) h)
        (sym is) (found.each b h at);
    named = λ b h at. ap (λ (n : Noted). n.file b) is ∙ found.named b h at;
  }

  -- the next one of those that were found
  pub next_fits : (places : List (Option (Member D))) (r : R) → Found places r → (list : List (Member D))
      (yielded rest : List (Option (Member D))) (p : Option (Member D)) (h : Member D) (s : R)
      → places ≡ yielded ++ p ∷ rest → p ≡ Some h → map Some list ≡ yielded → s ≡ r → Fits (noted s) (length list) h
  next_fits places r found list yielded rest p h s split is items same =
      let at : slice_get places (length list) ≡ Some (Some h) =
      ap (λ (ps : List (Option (Member D))). slice_get ps (length list))
      (split ∙ ap (λ (q : Option (Member D)). yielded ++ q ∷ rest) is
      ∙ ap (λ (ys : List (Option (Member D))). ys ++ Some h ∷ rest) (sym items))
      ∙ at_next list h rest in
      subst (λ (q : R). Fits (noted q) (length list) h) (sym same)
      (fits places r found (length list) (Some h) at h refl)
