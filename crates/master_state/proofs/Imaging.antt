-- The images of a log, through each step.
use Rattle.std.proofs.Common.{◌≡◌, ℕ, ◌<◌, ◌≤◌, Bool, true, false, List, [], ◌∷◌, ◌++◌, map, refl, sym, ap, ◌∙◌, arith}
use Rattle.std.specs.Prelude.{Option, Some, None, IfSome, unwrap_or, ◌==◌, if◌then◌else◌}
use Rattle.std.specs.List.{AllByRecursion}
use Rattle.std.specs.Option.{option_map}
use Rattle.std.proofs.lemmas.Bool.{eqb-true}
use Rattle.std.proofs.lemmas.Bool.Decides.{nat_tests}
use Rattle.std.proofs.lemmas.List.{append-nil}
use Rattle.entry.specs.declared.entry.Entry.{Entry}
use Rattle.entry.specs.Format.{IsEntry}
use Rattle.entry.specs.Text.{IsSegment}
use Rattle.log_head.specs.declared.head.Roll.{Roll}
use Rattle.log_head.specs.Head.{HeadValue}
use Rattle.log_head.specs.Steps.{in_force}
use Rattle.images.specs.Sorted.{image_of, segment_of, added}
use Rattle.images.proofs.Adding.{segment_found}
use Rattle.images.specs.Image.{Image, closed_image}
use Rattle.master_state.specs.Images.{new_image_or, image_among, images_among, with_closed}
use Rattle.master_state.proofs.Indexing.{Grow}

-- ---- tests of ids

pub same_id : (a : ℕ) → (a == a) ≡ true
same_id a = grind (arith, nat_tests)

pub other_id : (a b : ℕ) → (a ≡ b → ⊥) → (a == b) ≡ false
other_id a b other = go (a == b) refl where
  go : (t : Bool) → (a == b) ≡ t → (a == b) ≡ false
  go true is = absurd (other (eqb-true a b is))
  go false is = is

-- ---- closed segments

abbrev pub ids_in : List Image → List ℕ
ids_in cs = map (λ (c : Image). c.id) cs

-- none of them has an id that is above all of theirs
pub none_above : (cs : List Image) (n s : ℕ) → AllByRecursion (λ (id : ℕ). id < n) (ids_in cs) → n ≤ s
    → segment_of cs s ≡ None
none_above [] n s all le = refl
none_above (c ∷ cs) n s all le =
    let lt = all.0 in
    let test : (c.id == s) ≡ false = grind (arith, nat_tests) in
    rw test (none_above cs n s all.1 le)

-- one more is found if no other has its id
pub closed_more : (cs : List Image) (id s : ℕ) (image : List Entry) (n : ℕ) → segment_of cs id ≡ None
    → segment_of (added (closed_image id image n) cs) s ≡ (if id == s then Some image else segment_of cs s)
closed_more cs id s image n none = segment_found (closed_image id image n) cs s (no_image (image_of cs id) none) where
  no_image : (o : Option Image) → option_map (λ (c : Image). c.segment) o ≡ None → o ≡ None
  no_image None is = refl
  no_image (Some c) is = absurd (cc)

-- ---- images of segments

module _ (h : HeadValue) (cs : List Image) where
  pub head_image : image_among h cs h.id ≡ Some h.image
  head_image = let t = same_id h.id in rw t refl

  pub head_images : images_among h cs h.id ≡ h.image
  head_images = ap (λ (o : Option (List Entry)). unwrap_or o []) head_image

  -- each is a whole segment, or there is none
  pub each_image : AllByRecursion IsEntry h.image → IfSome h.roll (λ (r : Roll). AllByRecursion IsEntry r.image)
      → AllByRecursion (λ (c : Image). IsSegment c.segment) cs → (s : ℕ) → AllByRecursion IsEntry (images_among h cs s)
  each_image own new closed s = by_head (h.id == s) refl
    where
      among : (ds : List Image) → AllByRecursion (λ (c : Image). IsSegment c.segment) ds
          → AllByRecursion IsEntry (unwrap_or (segment_of ds s) [])
      among [] all = tt
      among (c ∷ ds) all = go (c.id == s) refl (among ds all.1)
        where
          go : (t : Bool) → (c.id == s) ≡ t → AllByRecursion IsEntry (unwrap_or (segment_of ds s) [])
              → AllByRecursion IsEntry (unwrap_or (segment_of (c ∷ ds) s) [])
          go true is rest = rw is all.0.each
          go false is rest = rw is rest

      by_roll : (o : Option Roll) → IfSome o (λ (r : Roll). AllByRecursion IsEntry r.image)
          → AllByRecursion IsEntry (unwrap_or (new_image_or o s (segment_of cs s)) [])
      by_roll None all = among cs closed
      by_roll (Some r) all = go (r.id == s) refl
        where
          go : (t : Bool) → (r.id == s) ≡ t → AllByRecursion IsEntry
              (unwrap_or (new_image_or (Some r) s (segment_of cs s)) [])
          go true is = rw is all
          go false is = rw is (among cs closed)

      by_head : (t : Bool) → (h.id == s) ≡ t → AllByRecursion IsEntry (images_among h cs s)
      by_head true is = rw is own
      by_head false is = rw is (by_roll h.roll new)

-- an image that grows at its end, the head's
pub appended_grow : (h g : HeadValue) (cs : List Image) (unit : List Entry) → g.id ≡ h.id → g.roll ≡ h.roll
    → g.image ≡ h.image ++ unit
    → Grow (images_among h cs) (images_among g cs)
appended_grow h g cs unit id roll image s = by_head (h.id == s) refl
  where
    by_head : (t : Bool) → (h.id == s) ≡ t → (more : List Entry) × (images_among g cs s ≡ images_among h cs s ++ more)
    by_head true is =
        let other : (g.id == s) ≡ true = ap (λ (n : ℕ). n == s) id ∙ is in
        (unit, rw (is, other) image)
    by_head false is =
        let other : (g.id == s) ≡ false = ap (λ (n : ℕ). n == s) id ∙ is in (
          [],
          rw (is, other) (ap (λ (o : Option Roll). unwrap_or (new_image_or o s (segment_of cs s)) []) roll
              ∙ sym (append-nil (unwrap_or (new_image_or h.roll s (segment_of cs s)) []))),
        )

-- the image of the head, and of any other segment, once the head has a unit more
pub appended_own : (h g : HeadValue) (cs : List Image) (unit : List Entry) (s : ℕ) → g.id ≡ h.id
    → g.image ≡ h.image ++ unit
    → (h.id == s) ≡ true → images_among g cs s ≡ images_among h cs s ++ unit
appended_own h g cs unit s id image is =
    let other : (g.id == s) ≡ true = ap (λ (n : ℕ). n == s) id ∙ is in rw (is, other) image

pub appended_other : (h g : HeadValue) (cs : List Image) (s : ℕ) → g.id ≡ h.id → g.roll ≡ h.roll → (h.id == s) ≡ false
    → images_among g cs s ≡ images_among h cs s
appended_other h g cs s id roll is =
    let other : (g.id == s) ≡ false = ap (λ (n : ℕ). n == s) id ∙ is in
    rw (is, other) (ap (λ (o : Option Roll). unwrap_or (new_image_or o s (segment_of cs s)) []) roll)

-- a roll that begins adds an image of an id that had none
pub rolled_grow : (h : HeadValue) (cs : List Image) (r : Roll) → h.roll ≡ None → segment_of cs r.id ≡ None
    → Grow (images_among h cs) (images_among (record h { roll = Some r }) cs)
rolled_grow h cs r none new s = by_head (h.id == s) refl
  where
    by_roll : (t : Bool) → (h.id == s) ≡ false → (r.id == s) ≡ t
        → (more : List Entry) × (images_among (record h { roll = Some r }) cs s ≡ images_among h cs s ++ more)
    by_roll true other is =
        let gone : segment_of cs s ≡ None = ap (segment_of cs) (sym (eqb-true r.id s is)) ∙ new in
        (r.image, rw (other, none, is, gone) refl)
    by_roll false other is = ([], rw (other, none, is) (sym (append-nil (unwrap_or (segment_of cs s) []))))

    by_head : (t : Bool) → (h.id == s) ≡ t
        → (more : List Entry) × (images_among (record h { roll = Some r }) cs s ≡ images_among h cs s ++ more)
    by_head true is = ([], rw is (sym (append-nil h.image)))
    by_head false is = by_roll (r.id == s) is refl

-- that image, and any other
pub rolled_own : (h : HeadValue) (cs : List Image) (r : Roll) → (h.id ≡ r.id → ⊥)
    → images_among (record h { roll = Some r }) cs r.id ≡ r.image
rolled_own h cs r other =
    let away = other_id h.id r.id other in let own = same_id r.id in rw (away, own) refl

pub rolled_other : (h : HeadValue) (cs : List Image) (r : Roll) (s : ℕ) → h.roll ≡ None → (r.id ≡ s → ⊥)
    → images_among (record h { roll = Some r }) cs s ≡ images_among h cs s
rolled_other h cs r s none other = let away = other_id r.id s other in rw (none, away) refl

-- what a roll has opened or closed changes no image
pub same_roll : (h : HeadValue) (cs : List Image) (r q : Roll) → h.roll ≡ Some r → q.id ≡ r.id
    → q.image ≡ r.image → (s : ℕ)
    → image_among (record h { roll = Some q }) cs s ≡ image_among h cs s
same_roll h cs r q is id image s =
    (λ i. if h.id == s then Some h.image else (if id i == s then Some (image i) else segment_of cs s))
    ∙ ap (λ (o : Option Roll). if h.id == s then Some h.image else new_image_or o s (segment_of cs s)) (sym is)

-- the last Close moves images, and changes none
pub closed_same : (h : HeadValue) (cs : List Image) (r : Roll) (n : ℕ) → h.roll ≡ Some r → (h.id ≡ r.id → ⊥)
    → segment_of cs h.id ≡ None
    → (s : ℕ) → image_among (in_force h r) (with_closed cs h.id n (Some h.image)) s ≡ image_among h cs s
closed_same h cs r n is other none s = by_head (h.id == s) refl
  where
    more : segment_of (added (closed_image h.id h.image n) cs) s
        ≡ (if h.id == s then Some h.image else segment_of cs s)
    more = closed_more cs h.id s h.image n none

    by_head : (t : Bool) → (h.id == s) ≡ t → image_among (in_force h r) (with_closed cs h.id n (Some h.image)) s
        ≡ image_among h cs s
    by_head true here =
        let away : (r.id == s) ≡ false = other_id r.id s (λ e. other (eqb-true h.id s here ∙ sym e)) in
        let found : segment_of (added (closed_image h.id h.image n) cs) s ≡ Some h.image = rw here at more in
        rw (away, here) found
    by_head false away =
        let found : segment_of (added (closed_image h.id h.image n) cs) s ≡ segment_of cs s = rw away at more in
        rw (away, is, found) refl
