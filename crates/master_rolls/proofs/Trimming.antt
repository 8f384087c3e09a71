-- What stays the same when the images of some segments are trimmed, so that they take no more appends.
use Rattle.std.proofs.Common.{◌≡◌, ℕ, ◌%◌, ◌<◌, ◌≤◌, inl, inr, Bool, true, false, cond, List, []}
use Rattle.std.proofs.Common.{◌∷◌, ◌++◌, map, length, refl, ap, ◌∙◌, arith}
use Rattle.std.specs.Prelude.{Option, Some, None, ◌==◌, ◌||◌, sum_by}
use Rattle.std.specs.List.{AllByRecursion}
use Rattle.std.specs.Option.{option_map_or}
use Rattle.std.proofs.lemmas.Bool.{eqb-true}
use Rattle.std.proofs.lemmas.List.Sums.{sum_by-cons}
use Rattle.entry.specs.declared.entry.Entry.{Entry}
use Rattle.entry.specs.Text.{text_of}
use Rattle.entry.specs.Bag.{IsAmong}
use Rattle.entry.proofs.ListLemmas.{all_among}
use Rattle.images.specs.Image.{Image}
use Rattle.images.specs.Images.{count_of}
use Rattle.images.specs.Sorted.{image_of, segment_of, replicas_of, changed}
use Rattle.images.specs.Steps.{trimmed}
use Rattle.images.proofs.Counts.{within_whole}
use Rattle.images.proofs.Replicas.{replicas_mapped}
use Rattle.log_head.specs.log_laws.Ids.{has}
use Rattle.master_state.specs.Images.{all_trimmed}
use Rattle.master_state.proofs.Imaging.{same_id, other_id}
use Rattle.master_state.proofs.Rising.{Rise}

-- one as it is trimmed or isn't
abbrev pub trimmed_if : Bool → Image → Image
trimmed_if b c = cond b (trimmed c) c

pub trimmed_ids : (ids : List ℕ) (cs : List Image)
    → map (λ (x : Image). x.id) (all_trimmed ids cs) ≡ map (λ (x : Image). x.id) cs
trimmed_ids ids [] = refl
trimmed_ids ids (c ∷ cs) = go (has ids c.id) (trimmed_ids ids cs) where
  go : (t : Bool) → map (λ (x : Image). x.id) (all_trimmed ids cs) ≡ map (λ (x : Image). x.id) cs
      → (trimmed_if t c).id ∷ map (λ (x : Image). x.id) (all_trimmed ids cs) ≡ c.id ∷ map (λ (x : Image). x.id) cs
  go true later = ap (λ (zs : List ℕ). c.id ∷ zs) later
  go false later = ap (λ (zs : List ℕ). c.id ∷ zs) later

pub trimmed_segment : (ids : List ℕ) (cs : List Image) (s : ℕ) → segment_of (all_trimmed ids cs) s ≡ segment_of cs s
trimmed_segment ids [] s = refl
trimmed_segment ids (c ∷ cs) s = go (has ids c.id) refl (c.id == s) refl (trimmed_segment ids cs s) where
  go : (t : Bool) → has ids c.id ≡ t → (u : Bool) → (c.id == s) ≡ u
      → segment_of (all_trimmed ids cs) s ≡ segment_of cs s
      → segment_of (all_trimmed ids (c ∷ cs)) s ≡ segment_of (c ∷ cs) s
  go true is true here later = rw (is, here) refl
  go true is false away later = rw (is, away) later
  go false is true here later = rw (is, here) refl
  go false is false away later = rw (is, away) later

pub trimmed_all : (P : List Entry → Type 0) (ids : List ℕ) (cs : List Image)
    → AllByRecursion (λ (c : Image). P c.segment) cs
    → AllByRecursion (λ (c : Image). P c.segment) (all_trimmed ids cs)
trimmed_all P ids [] all = tt
trimmed_all P ids (c ∷ cs) all = go (has ids c.id) (trimmed_all P ids cs all.1) where
  go : (t : Bool) → AllByRecursion (λ (x : Image). P x.segment) (all_trimmed ids cs)
      → AllByRecursion (λ (x : Image). P x.segment) (trimmed_if t c ∷ all_trimmed ids cs)
  go true later = (all.0, later)
  go false later = (all.0, later)

-- they keep their replicas
pub trimmed_replicas : (ids : List ℕ) (cs : List Image) (s : ℕ)
    → replicas_of (all_trimmed ids cs) s ≡ replicas_of cs s
trimmed_replicas ids cs s =
    replicas_mapped (λ (c : Image). trimmed_if (has ids c.id) c) (λ c. same_ids (has ids c.id) c) cs s
    ∙ go (image_of cs s)
  where
    same_ids : (t : Bool) (c : Image) → (trimmed_if t c).id ≡ c.id
    same_ids true c = refl
    same_ids false c = refl

    same : (t : Bool) (c : Image) → (trimmed_if t c).replicas ≡ c.replicas
    same true c = refl
    same false c = refl

    go : (o : Option Image) → option_map_or (λ (c : Image). (trimmed_if (has ids c.id) c).replicas) o 0
        ≡ option_map_or (λ (c : Image). c.replicas) o 0
    go None = refl
    go (Some c) = same (has ids c.id) c

pub trimmed_few : (most : ℕ) (ids : List ℕ) (cs : List Image)
    → AllByRecursion (λ (c : Image). c.replicas ≤ most) cs
    → AllByRecursion (λ (c : Image). c.replicas ≤ most) (all_trimmed ids cs)
trimmed_few most ids [] all = tt
trimmed_few most ids (c ∷ cs) all = go (has ids c.id) (trimmed_few most ids cs all.1) where
  go : (t : Bool) → AllByRecursion (λ (x : Image). x.replicas ≤ most) (all_trimmed ids cs)
      → AllByRecursion (λ (x : Image). x.replicas ≤ most) (trimmed_if t c ∷ all_trimmed ids cs)
  go true later = (all.0, later)
  go false later = (all.0, later)

-- none of them
pub trimmed_none : (cs : List Image) → all_trimmed [] cs ≡ cs
trimmed_none [] = refl
trimmed_none (c ∷ cs) = ap (λ (xs : List Image). c ∷ xs) (trimmed_none cs)

-- one more of them
pub trimmed_more : (ids : List ℕ) (s : ℕ) (cs : List Image)
    → ((z : ℕ) → has (ids ++ s ∷ []) z ≡ (has ids z || (s == z)))
    → ((a b : ℕ) → (a == b) ≡ (b == a))
    → changed (all_trimmed ids cs) s trimmed ≡ all_trimmed (ids ++ s ∷ []) cs
trimmed_more ids s [] more swap = refl
trimmed_more ids s (c ∷ cs) more swap = go (has ids c.id) refl (s == c.id) refl (trimmed_more ids s cs more swap) where
  go : (t : Bool) → has ids c.id ≡ t → (u : Bool) → (s == c.id) ≡ u
      → changed (all_trimmed ids cs) s trimmed ≡ all_trimmed (ids ++ s ∷ []) cs
      → changed (all_trimmed ids (c ∷ cs)) s trimmed ≡ all_trimmed (ids ++ s ∷ []) (c ∷ cs)
  go t is u own later =
      let both = more c.id ∙ (λ i. is i || own i) in
      let here = swap c.id s ∙ own in
      rw (is, both) (first t u here later)
    where
      first : (t u : Bool) → (c.id == s) ≡ u → changed (all_trimmed ids cs) s trimmed ≡ all_trimmed (ids ++ s ∷ []) cs
          → changed (trimmed_if t c ∷ all_trimmed ids cs) s trimmed
          ≡ trimmed_if (t || u) c ∷ all_trimmed (ids ++ s ∷ []) cs
      first true true here later = rw here (ap (λ (xs : List Image). trimmed c ∷ xs) later)
      first true false here later = rw here (ap (λ (xs : List Image). trimmed c ∷ xs) later)
      first false true here later = rw here (ap (λ (xs : List Image). trimmed c ∷ xs) later)
      first false false here later = rw here (ap (λ (xs : List Image). c ∷ xs) later)

-- an image that is found is among them
found_among : (cs : List Image) (s : ℕ) (es : List Entry) → segment_of cs s ≡ Some es
    → IsAmong s (map (λ (c : Image). c.id) cs)
found_among [] s es found = absurd (cc)
found_among (c ∷ cs) s es found = go (c.id == s) refl (found_among cs s es) where
  go : (t : Bool) → (c.id == s) ≡ t → (segment_of cs s ≡ Some es → IsAmong s (map (λ (x : Image). x.id) cs))
      → IsAmong s (map (λ (x : Image). x.id) (c ∷ cs))
  go true is later = inl (eqb-true c.id s is)
  go false is later = inr (later (rw is at found))

-- what is true of the found ones of these is true of each image with such an id
pub each_found : (P : List Entry → Type 0) (ids : List ℕ) (cs : List Image) → Rise (map (λ (c : Image). c.id) cs)
    → ((s : ℕ) (es : List Entry) → has ids s ≡ true → segment_of cs s ≡ Some es → P es)
    → AllByRecursion (λ (c : Image). has ids c.id ≡ true → P c.segment) cs
each_found P ids [] rise all = tt
each_found P ids (c ∷ cs) rise all = (
  λ is. all c.id c.segment is (let own = same_id c.id in rw own refl),
  each_found P ids cs rise.1 (λ s es is found. (
      let lt = all_among (λ (z : ℕ). c.id < z) (map (λ (x : Image). x.id) cs) s rise.0 (found_among cs s es found) in
      let away = other_id c.id s (λ same. omega arith) in
      all s es is (rw away found))),
)

-- they count no more than before
module _ (segment seglet : ℕ) (some : 0 < seglet) (multiple : segment % seglet ≡ 0) (ids : List ℕ) where
  trimmed_count : (c : Image) → length (text_of c.segment) ≤ segment
      → count_of segment seglet (trimmed c) ≤ count_of segment seglet c
  trimmed_count c le = go c.is_whole refl where
    go : (t : Bool) → c.is_whole ≡ t → count_of segment seglet (trimmed c) ≤ count_of segment seglet c
    go true is = rw is (within_whole segment seglet (length (text_of c.segment)) some multiple le)
    go false is = rw is (omega arith)

  pub trimmed_sum : (cs : List Image)
      → AllByRecursion (λ (c : Image). has ids c.id ≡ true → length (text_of c.segment) ≤ segment) cs
      → sum_by (count_of segment seglet) (all_trimmed ids cs) ≤ sum_by (count_of segment seglet) cs
  trimmed_sum [] all = omega arith
  trimmed_sum (c ∷ cs) all = go (has ids c.id) refl (trimmed_sum cs all.1) where
    go : (t : Bool) → has ids c.id ≡ t
        → sum_by (count_of segment seglet) (all_trimmed ids cs) ≤ sum_by (count_of segment seglet) cs
        → sum_by (count_of segment seglet) (all_trimmed ids (c ∷ cs)) ≤ sum_by (count_of segment seglet) (c ∷ cs)
    go true is later =
        let less = trimmed_count c (all.0 is) in
        let whole = sum_by-cons (count_of segment seglet) c cs in
        let after = sum_by-cons (count_of segment seglet) (trimmed c) (all_trimmed ids cs) in
        rw is (omega (arith, less, whole, after, later))
    go false is later =
        let whole = sum_by-cons (count_of segment seglet) c cs in
        let after = sum_by-cons (count_of segment seglet) c (all_trimmed ids cs) in
        rw is (omega (arith, whole, after, later))
