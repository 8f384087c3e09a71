-- Images of which only the numbers of replicas changed.
use Rattle.std.proofs.Common.{◌≡◌, ℕ, ◌+◌, Bool, true, false, List, [], ◌∷◌, map, refl, sym, ap, ◌∙◌}
use Rattle.std.proofs.Common.{subst}
use Rattle.std.specs.Prelude.{Option, Some, None, IsSomeAnd, sum_by, unwrap_or, ◌==◌, if◌then◌else◌}
use Rattle.std.specs.List.{AllByRecursion}
use Rattle.std.specs.Option.{option_map}
use Rattle.std.proofs.lemmas.List.Sums.{sum_by-cons}
use Rattle.cleaner.specs.Passes.{images_in}
use Rattle.entry.specs.declared.entry.Entry.{Entry}
use Rattle.images.specs.Image.{Image}
use Rattle.images.specs.Images.{count_of}
use Rattle.images.specs.Sorted.{IsWhole, image_of, segment_of}
use Rattle.images.specs.Steps.{more_replicas}
use Rattle.images.proofs.Replicas.{image_mapped}
use Rattle.log_head.specs.Head.{HeadValue}
use Rattle.master_state.specs.Images.{new_image_or, image_among}
use Rattle.master_state.proofs.Imaging.{ids_in}

-- all but the replicas stay
pub record IsRecount (f : Image → Image) : Type 0 where
  pub id : (x : Image) → (f x).id ≡ x.id
  pub segment : (x : Image) → (f x).segment ≡ x.segment
  pub is_whole : (x : Image) → (f x).is_whole ≡ x.is_whole

-- one more replica of the segment of an id
pub one_more : (s : ℕ) → IsRecount (λ (x : Image). if x.id == s then more_replicas x else x)
one_more s = record {
  id = λ x. go_id (x.id == s) x;
  segment = λ x. go_segment (x.id == s) x;
  is_whole = λ x. go_whole (x.id == s) x;
} where
  go_id : (t : Bool) (x : Image) → (if t then more_replicas x else x).id ≡ x.id
  go_id true x = refl
  go_id false x = refl

  go_segment : (t : Bool) (x : Image) → (if t then more_replicas x else x).segment ≡ x.segment
  go_segment true x = refl
  go_segment false x = refl

  go_whole : (t : Bool) (x : Image) → (if t then more_replicas x else x).is_whole ≡ x.is_whole
  go_whole true x = refl
  go_whole false x = refl

-- what holds of each holds of each that is made of them
pub all_mapped : {X : Type 0} (f : X → X) (P Q : X → Type 0) (xs : List X) → ((x : X) → P x → Q (f x))
    → AllByRecursion P xs → AllByRecursion Q (map f xs)
all_mapped f P Q [] step all = tt
all_mapped f P Q (x ∷ xs) step all = (step x all.0, all_mapped f P Q xs step all.1)

module _ (f : Image → Image) (is : IsRecount f) where
  pub ids_recounted : (cs : List Image) → ids_in (map f cs) ≡ ids_in cs
  ids_recounted [] = refl
  ids_recounted (c ∷ cs) = λ i. is.id c i ∷ ids_recounted cs i

  pub segment_recounted : (cs : List Image) (s : ℕ) → segment_of (map f cs) s ≡ segment_of cs s
  segment_recounted cs s =
      ap (option_map (λ (x : Image). x.segment)) (image_mapped f is.id cs s) ∙ go (image_of cs s)
    where
      go : (o : Option Image)
          → option_map (λ (x : Image). x.segment) (option_map f o) ≡ option_map (λ (x : Image). x.segment) o
      go None = refl
      go (Some x) = ap Some (is.segment x)

  pub images_recounted : (cs : List Image) (s : ℕ) → images_in (map f cs) s ≡ images_in cs s
  images_recounted cs s = ap (λ (o : Option (List Entry)). unwrap_or o []) (segment_recounted cs s)

  pub whole_recounted : (cs : List Image) (s : ℕ) → IsWhole cs s → IsWhole (map f cs) s
  whole_recounted cs s whole =
      subst (λ (o : Option Image). IsSomeAnd o (λ (x : Image). x.is_whole ≡ true)) (sym (image_mapped f is.id cs s))
      (go (image_of cs s) whole)
    where
      go : (o : Option Image) → IsSomeAnd o (λ (x : Image). x.is_whole ≡ true)
          → IsSomeAnd (option_map f o) (λ (x : Image). x.is_whole ≡ true)
      go None whole = whole
      go (Some x) whole = is.is_whole x ∙ whole

  pub seglets_recounted : (segment seglet : ℕ) (cs : List Image)
      → sum_by (count_of segment seglet) (map f cs) ≡ sum_by (count_of segment seglet) cs
  seglets_recounted segment seglet [] = refl
  seglets_recounted segment seglet (c ∷ cs) =
      let one : count_of segment seglet (f c) ≡ count_of segment seglet c =
      λ i. count_of segment seglet (record c { segment = is.segment c i; is_whole = is.is_whole c i }) in
      sum_by-cons (count_of segment seglet) (f c) (map f cs)
      ∙ (λ i. one i + seglets_recounted segment seglet cs i)
      ∙ sym (sum_by-cons (count_of segment seglet) c cs)

  pub among_recounted : (h : HeadValue) (cs : List Image) (s : ℕ)
      → image_among h (map f cs) s ≡ image_among h cs s
  among_recounted h cs s =
      ap (λ (o : Option (List Entry)). if h.id == s then Some h.image else new_image_or h.roll s o)
      (segment_recounted cs s)
