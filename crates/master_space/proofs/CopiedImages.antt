-- What stays true of the images when a survivor's image gets one more entry, or none.
use Rattle.std.proofs.Common.{◌≡◌, ℕ, ◌+◌, ◌<◌, ◌≤◌, Bool, true, false, cond, List, [], ◌∷◌, ◌++◌, map, length, refl}
use Rattle.std.proofs.Common.{sym, ap, ◌∙◌, arith}
use Rattle.std.specs.Prelude.{Some, IsSomeAnd, sum_by, ◌==◌}
use Rattle.std.specs.List.{AllByRecursion}
use Rattle.std.proofs.lemmas.Bool.{eqb-true, and_from}
use Rattle.std.proofs.lemmas.List.{append-nil, length-map}
use Rattle.std.proofs.lemmas.List.Sums.{sum_by-cons}
use Rattle.entry.specs.declared.entry.Entry.{Entry}
use Rattle.entry.specs.Format.{IsEntry}
use Rattle.entry.specs.Text.{IsSegment, is_data}
use Rattle.entry.proofs.ListLemmas.{all_push, all_weaker}
use Rattle.segment.proofs.OrderLemmas.{is_whole-append}
use Rattle.cleaner.specs.Passes.{images_in, images_with}
use Rattle.cleaner.proofs.Images.{grown_own}
use Rattle.images.specs.Image.{Image}
use Rattle.images.specs.Images.{count_of}
use Rattle.images.specs.Sorted.{AreRising, IsWhole, image_of, changed}
use Rattle.images.specs.Steps.{with_unit}
use Rattle.images.proofs.Counts.{count_whole}
use Rattle.images.proofs.Finding.{ids_changed}
use Rattle.master_state.proofs.Imaging.{same_id}

-- what a copied entry adds to the survivor
abbrev pub tail_of : Bool → Entry → List Entry
tail_of b e = cond b (e ∷ []) []

-- each image of the survivor's id takes appends
each_whole : (cs : List Image) (s : ℕ) → AreRising cs → IsWhole cs s
    → AllByRecursion (λ (c : Image). c.id ≡ s → c.is_whole ≡ true) cs
each_whole [] s rising whole = tt
each_whole (c ∷ cs) s rising whole = go (c.id == s) refl whole (each_whole cs s rising.1)
  where
    go : (t : Bool) → (c.id == s) ≡ t → IsSomeAnd (cond t (Some c) (image_of cs s)) (λ (x : Image). x.is_whole ≡ true)
        → (IsWhole cs s → AllByRecursion (λ (x : Image). x.id ≡ s → x.is_whole ≡ true) cs)
        → AllByRecursion (λ (x : Image). x.id ≡ s → x.is_whole ≡ true) (c ∷ cs)
    go true here own rest =
        let same : c.id ≡ s = eqb-true c.id s here in (
          λ is. own,
          all_weaker (λ (x : Image). c.id < x.id) (λ (x : Image). x.id ≡ s → x.is_whole ≡ true)
              (λ x lt is. absurd (omega arith)) cs rising.0,
        )
    go false away own rest = (
      λ is. (let test : (c.id == s) ≡ true = ap (λ (z : ℕ). z == s) is ∙ same_id s in absurd (cc)),
      rest own,
    )

module _ (images : List Image) (survivor : ℕ) (e : Entry) where
  abbrev Grown : List Image
  Grown = changed images survivor (with_unit (e ∷ []))

  -- ---- ids

  pub ids_same : (b : Bool) → map (λ (c : Image). c.id) (images_with b survivor e images)
      ≡ map (λ (c : Image). c.id) images
  ids_same true = ids_changed survivor (with_unit (e ∷ [])) (λ x. refl) images
  ids_same false = refl

  pub length_same : (b : Bool) → length (images_with b survivor e images) ≡ length images
  length_same true = length-map images (λ (c : Image). cond (c.id == survivor) (with_unit (e ∷ []) c) c)
  length_same false = refl

  -- ---- segments

  grown_segment : (es : List Entry) → IsEntry e → is_data e ≡ true → IsSegment es → IsSegment (es ++ e ∷ [])
  grown_segment es valid is segment = record {
    each = all_push IsEntry es e segment.each valid;
    order = is_whole-append es (e ∷ []) (and_from (is_data e) true is refl) segment.order;
  }

  grown_each : (cs : List Image) → IsEntry e → is_data e ≡ true → AllByRecursion (λ (c : Image). IsSegment c.segment) cs
      → AllByRecursion (λ (c : Image). IsSegment c.segment) (changed cs survivor (with_unit (e ∷ [])))
  grown_each [] valid is all = tt
  grown_each (c ∷ cs) valid is all = go (c.id == survivor) (grown_each cs valid is all.1)
    where
      go : (t : Bool) → AllByRecursion (λ (x : Image). IsSegment x.segment) (changed cs survivor (with_unit (e ∷ [])))
          → AllByRecursion (λ (x : Image). IsSegment x.segment)
          (cond t (with_unit (e ∷ []) c) c ∷ changed cs survivor (with_unit (e ∷ [])))
      go true rest = (grown_segment c.segment valid is all.0, rest)
      go false rest = (all.0, rest)

  pub segments_then : (b : Bool) → IsEntry e → is_data e ≡ true
      → AllByRecursion (λ (c : Image). IsSegment c.segment) images
      → AllByRecursion (λ (c : Image). IsSegment c.segment) (images_with b survivor e images)
  segments_then true valid is all = grown_each images valid is all
  segments_then false valid is all = all

  -- ---- replicas

  grown_few : (most : ℕ) (cs : List Image) → AllByRecursion (λ (c : Image). c.replicas ≤ most) cs
      → AllByRecursion (λ (c : Image). c.replicas ≤ most) (changed cs survivor (with_unit (e ∷ [])))
  grown_few most [] all = tt
  grown_few most (c ∷ cs) all = go (c.id == survivor) (grown_few most cs all.1)
    where
      go : (t : Bool) → AllByRecursion (λ (x : Image). x.replicas ≤ most) (changed cs survivor (with_unit (e ∷ [])))
          → AllByRecursion (λ (x : Image). x.replicas ≤ most)
          (cond t (with_unit (e ∷ []) c) c ∷ changed cs survivor (with_unit (e ∷ [])))
      go true rest = (all.0, rest)
      go false rest = (all.0, rest)

  pub replicas_then : (most : ℕ) (b : Bool) → AllByRecursion (λ (c : Image). c.replicas ≤ most) images
      → AllByRecursion (λ (c : Image). c.replicas ≤ most) (images_with b survivor e images)
  replicas_then most true all = grown_few most images all
  replicas_then most false all = all

  -- ---- what is counted

  module _ (segment seglet : ℕ) where
    abbrev count : Image → ℕ
    count = count_of segment seglet

    grown_count : (cs : List Image) → AllByRecursion (λ (c : Image). c.id ≡ survivor → c.is_whole ≡ true) cs
        → sum_by count (changed cs survivor (with_unit (e ∷ []))) ≡ sum_by count cs
    grown_count [] all = refl
    grown_count (c ∷ cs) all = go (c.id == survivor) refl (grown_count cs all.1)
      where
        sums : (x : Image) → count x ≡ count c → sum_by count
            (changed cs survivor (with_unit (e ∷ []))) ≡ sum_by count cs
            → sum_by count (x ∷ changed cs survivor (with_unit (e ∷ []))) ≡ sum_by count (c ∷ cs)
        sums x same rest =
            sum_by-cons count x (changed cs survivor (with_unit (e ∷ [])))
            ∙ (λ i. same i + rest i) ∙ sym (sum_by-cons count c cs)

        go : (t : Bool) → (c.id == survivor) ≡ t → sum_by count
            (changed cs survivor (with_unit (e ∷ []))) ≡ sum_by count cs
            → sum_by count (cond t (with_unit (e ∷ []) c) c ∷ changed cs survivor (with_unit (e ∷ [])))
            ≡ sum_by count (c ∷ cs)
        go true here rest =
            let whole = all.0 (eqb-true c.id survivor here) in
            sums (with_unit (e ∷ []) c)
            (count_whole segment seglet (with_unit (e ∷ []) c) whole ∙ sym (count_whole segment seglet c whole)) rest
        go false away rest = sums c refl rest

    pub count_same : (b : Bool) → AreRising images → IsWhole images survivor
        → sum_by (count_of segment seglet) (images_with b survivor e images) ≡ sum_by (count_of segment seglet) images
    count_same true rising whole = grown_count images (each_whole images survivor rising whole)
    count_same false rising whole = refl

  -- ---- the survivor's own

  pub own_then : (b : Bool) → IsWhole images survivor
      → images_in (images_with b survivor e images) survivor ≡ images_in images survivor ++ tail_of b e
  own_then true whole = grown_own images survivor e whole
  own_then false whole = sym (append-nil (images_in images survivor))
