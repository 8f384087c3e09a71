-- How entries fill survivors.
use Rattle.std.proofs.Common.{◌≡◌, ℕ, zero, suc, ◌+◌, ◌<◌, ◌≤◌, ◌⊎◌, inl, inr, Bool, true, false, cond, List, [], ◌∷◌}
use Rattle.std.proofs.Common.{◌++◌, refl, sym, ap, subst, ◌∙◌, arith}
use Rattle.std.specs.Prelude.{nat_le}
use Rattle.std.proofs.lemmas.Bool.{leb-true, leb-false, le-leb}
use Rattle.std.proofs.lemmas.List.Sums.{sum_by-cons}
use Rattle.cleaner.specs.declared.level.Level.{Level}
use Rattle.cleaner.specs.Filling.{first_level, behind, beginning, filled_one, filled, total, EachFits, AreSome}
use Rattle.cleaner.specs.Filling.{IsNoFurther, HasRooms}
use Rattle.cleaner.specs.Laws.{FewerFillNoMore, OneIfAllFit, MoreFillNoFewer, SegmentFillsOneMore}

-- ---- one entry

-- What one entry more does: it fits, or it begins the next survivor.
pub data OneMore (segment : ℕ) (a : Level) (n : ℕ) : Type 0 where
  Fits : a.len + n ≤ segment → filled_one segment a n ≡ behind a n → OneMore segment a n
  Next : segment < a.len + n → filled_one segment a n ≡ beginning a n → OneMore segment a n

pub one_more : (segment : ℕ) (a : Level) (n : ℕ) → OneMore segment a n
one_more segment a n = go (nat_le (a.len + n) segment) refl where
  go : (b : Bool) → nat_le (a.len + n) segment ≡ b → OneMore segment a n
  go true is = Fits (leb-true (a.len + n) segment is) (ap (λ (b : Bool). cond b (behind a n) (beginning a n)) is)
  go false is = Next (leb-false (a.len + n) segment is) (ap (λ (b : Bool). cond b (behind a n) (beginning a n)) is)

one_fits : (segment : ℕ) (a : Level) (n : ℕ) → a.len + n ≤ segment → filled_one segment a n ≡ behind a n
one_fits segment a n le = ap (λ (b : Bool). cond b (behind a n) (beginning a n)) (le-leb (a.len + n) segment le)

-- ---- no further

no_further_refl : (a : Level) → IsNoFurther a a
no_further_refl a = inr (refl, omega arith)

no_further_trans : (a b c : Level) → IsNoFurther a b → IsNoFurther b c → IsNoFurther a c
no_further_trans a b c (inl x) (inl y) = inl (omega arith)
no_further_trans a b c (inl x) (inr y) = let same = y.0 in inl (omega arith)
no_further_trans a b c (inr x) (inl y) = let same = x.0 in inl (omega arith)
no_further_trans a b c (inr x) (inr y) = inr (x.0 ∙ y.0, (let l = x.1 in let m = y.1 in omega arith))

-- an entry more comes further
further : (segment : ℕ) (a : Level) (n : ℕ) → IsNoFurther a (filled_one segment a n)
further segment a n = go (one_more segment a n) where
  go : OneMore segment a n → IsNoFurther a (filled_one segment a n)
  go (Fits le is) = subst (λ (x : Level). IsNoFurther a x) (sym is) (inr (refl, omega arith))
  go (Next lt is) = subst (λ (x : Level). IsNoFurther a x) (sym is) (inl (omega arith))

-- the same entry at both
both : (segment : ℕ) (a b : Level) (n : ℕ) → 18 ≤ b.len → IsNoFurther a b
    → IsNoFurther (filled_one segment a n) (filled_one segment b n)
both segment a b n header less = go (one_more segment a n) (one_more segment b n) less where
  told : (x y : Level) → filled_one segment a n ≡ x → filled_one segment b n ≡ y → IsNoFurther x y
      → IsNoFurther (filled_one segment a n) (filled_one segment b n)
  told x y at to is = subst (λ (z : Level). IsNoFurther z (filled_one segment b n)) (sym at)
      (subst (λ (z : Level). IsNoFurther x z) (sym to) is)

  next : (x y i j : ℕ) → x < y → i ≤ j → (suc x < y) ⊎ ((suc x ≡ y) × (i ≤ j))
  next x y i j lt le = elim (either x y lt) [ inl l ↦ inl l | inr r ↦ inr (r, le) ] where
    either : (x y : ℕ) → x < y → (suc x < y) ⊎ (suc x ≡ y)
    either x zero lt = absurd (omega arith)
    either zero (suc zero) lt = inr refl
    either zero (suc (suc y)) lt = inl (omega arith)
    either (suc x) (suc y) lt = elim (either x y (omega arith)) [ inl l ↦ inl (omega arith) | inr r ↦ inr (ap suc r) ]

  go : OneMore segment a n → OneMore segment b n → IsNoFurther a b
      → IsNoFurther (filled_one segment a n) (filled_one segment b n)
  go (Fits l i) (Fits m j) (inl lt) = told (behind a n) (behind b n) i j (inl lt)
  go (Fits l i) (Next m j) (inl lt) = told (behind a n) (beginning b n) i j (inl (omega arith))
  go (Next l i) (Fits m j) (inl lt) =
      told (beginning a n) (behind b n) i j (next a.survivor b.survivor (18 + n) (b.len + n) lt (omega arith))
  go (Next l i) (Next m j) (inl lt) = told (beginning a n) (beginning b n) i j (inl (omega arith))
  go (Fits l i) (Fits m j) (inr same) =
      let le = same.1 in told (behind a n) (behind b n) i j (inr (same.0, omega arith))
  go (Fits l i) (Next m j) (inr same) =
      let is = same.0 in told (behind a n) (beginning b n) i j (inl (omega arith))
  go (Next l i) (Fits m j) (inr same) = let le = same.1 in absurd (omega arith)
  go (Next l i) (Next m j) (inr same) =
      told (beginning a n) (beginning b n) i j (inr (ap suc same.0, omega arith))

-- a level keeps a header
one_header : (segment : ℕ) (a : Level) (n : ℕ) → 18 ≤ a.len → 18 ≤ (filled_one segment a n).len
one_header segment a n header = go (one_more segment a n) where
  go : OneMore segment a n → 18 ≤ (filled_one segment a n).len
  go (Fits le is) = subst (λ (x : Level). 18 ≤ x.len) (sym is) (omega arith)
  go (Next lt is) = subst (λ (x : Level). 18 ≤ x.len) (sym is) (omega arith)

-- and fits a segment
one_within : (segment : ℕ) (a : Level) (n : ℕ) → 18 + n ≤ segment → (filled_one segment a n).len ≤ segment
one_within segment a n fits = go (one_more segment a n) where
  go : OneMore segment a n → (filled_one segment a n).len ≤ segment
  go (Fits le is) = subst (λ (x : Level). x.len ≤ segment) (sym is) le
  go (Next lt is) = subst (λ (x : Level). x.len ≤ segment) (sym is) fits

-- ---- fewer entries

-- entries that are some of others, from a level that is no further, come no further
pub fewer_come_no_further : (segment : ℕ) (ks ns : List ℕ) (a b : Level) → AreSome ks ns → 18 ≤ b.len
    → IsNoFurther a b → IsNoFurther (filled segment a ks) (filled segment b ns)
fewer_come_no_further segment [] [] a b some header less = less
fewer_come_no_further segment [] (n ∷ ns) a b some header less =
    fewer_come_no_further segment [] ns a (filled_one segment b n) tt (one_header segment b n header)
    (no_further_trans a b (filled_one segment b n) less (further segment b n))
fewer_come_no_further segment (k ∷ ks) [] a b some header less = absurd some
fewer_come_no_further segment (k ∷ ks) (n ∷ ns) a b (inl same) header less =
    fewer_come_no_further segment ks ns (filled_one segment a k) (filled_one segment b n) same.1
    (one_header segment b n header)
    (subst (λ (x : ℕ). IsNoFurther (filled_one segment a k) (filled_one segment b x)) same.0
    (both segment a b k header less))
fewer_come_no_further segment (k ∷ ks) (n ∷ ns) a b (inr some) header less =
    fewer_come_no_further segment (k ∷ ks) ns a (filled_one segment b n) some (one_header segment b n header)
    (no_further_trans a b (filled_one segment b n) less (further segment b n))

pub at_most : (a b : Level) → IsNoFurther a b → a.survivor ≤ b.survivor
at_most a b (inl lt) = omega arith
at_most a b (inr same) = let is = same.0 in omega arith

pub fewer_fill_no_more : FewerFillNoMore
fewer_fill_no_more segment ks ns some =
    let le = at_most (filled segment first_level ks) (filled segment first_level ns)
    (fewer_come_no_further segment ks ns first_level first_level some (omega arith) (no_further_refl first_level)) in
    omega arith

-- ---- a pass as it goes on

pub begin_has_rooms : (segment count : ℕ) (ns : List ℕ) → 18 ≤ segment → EachFits segment ns
    → (filled segment first_level ns).survivor < count → HasRooms segment count first_level ns
begin_has_rooms segment count ns least each lt =
    record { within = least; header = omega arith; each = each; enough = lt }

some_fit : (segment : ℕ) (ks ns : List ℕ) → AreSome ks ns → EachFits segment ns → EachFits segment ks
some_fit segment [] ns some each = tt
some_fit segment (k ∷ ks) [] some each = absurd some
some_fit segment (k ∷ ks) (n ∷ ns) (inl same) each =
    (subst (λ (x : ℕ). 18 + x ≤ segment) (sym same.0) each.0, some_fit segment ks ns same.1 each.1)
some_fit segment (k ∷ ks) (n ∷ ns) (inr some) each = some_fit segment (k ∷ ks) ns some each.1

-- from the same level fewer entries need no more
pub fewer_rooms : (segment count : ℕ) (a : Level) (ns ks : List ℕ) → AreSome ks ns → HasRooms segment count a ns
    → HasRooms segment count a ks
fewer_rooms segment count a ns ks some r =
    let le = at_most (filled segment a ks) (filled segment a ns)
    (fewer_come_no_further segment ks ns a a some r.header (no_further_refl a)) in
    let lt = r.enough in
    record {
      within = r.within;
      header = r.header;
      each = some_fit segment ks ns some r.each;
      enough = omega arith;
    }

-- once the next entry is copied, the others have rooms
pub copy_leaves : (segment count : ℕ) (a : Level) (n : ℕ) (ns : List ℕ) → HasRooms segment count a (n ∷ ns)
    → HasRooms segment count (filled_one segment a n) ns
copy_leaves segment count a n ns r = record {
  within = one_within segment a n r.each.0;
  header = one_header segment a n r.header;
  each = r.each.1;
  enough = r.enough;
}

-- what comes first comes no further than the whole
pub front_no_further : (segment : ℕ) (a : Level) (ns : List ℕ) → IsNoFurther a (filled segment a ns)
front_no_further segment a [] = no_further_refl a
front_no_further segment a (n ∷ ns) =
    no_further_trans a (filled_one segment a n) (filled segment (filled_one segment a n) ns) (further segment a n)
    (front_no_further segment (filled_one segment a n) ns)

-- the next entry fits the survivor that is filled, or there is a next one, which it fits
pub rooms_have_next : (segment count n : ℕ) (a : Level) (ns : List ℕ) → HasRooms segment count a (n ∷ ns)
    → (a.survivor < count) × ((a.len + n ≤ segment)
    ⊎ ((segment < a.len + n) × (suc a.survivor < count) × (18 + n ≤ segment)))
rooms_have_next segment count n a ns r = go (one_more segment a n) where
  go : OneMore segment a n → (a.survivor < count) × ((a.len + n ≤ segment)
      ⊎ ((segment < a.len + n) × (suc a.survivor < count) × (18 + n ≤ segment)))
  go (Fits le is) =
      let lt = r.enough in
      let first = at_most (behind a n) (filled segment (behind a n) ns) (front_no_further segment (behind a n) ns) in
      let same = ap (λ (x : Level). (filled segment x ns).survivor) is in
      (omega (arith, lt, first, same), inl le)
  go (Next over is) =
      let lt = r.enough in
      let first = at_most (beginning a n) (filled segment (beginning a n) ns)
      (front_no_further segment (beginning a n) ns) in
      let same = ap (λ (x : Level). (filled segment x ns).survivor) is in
      (omega (arith, lt, first, same), inr (over, omega (arith, lt, first, same), r.each.0))

-- the survivor that is filled is one of them
pub rooms_count : (segment count : ℕ) (a : Level) (ns : List ℕ) → HasRooms segment count a ns → a.survivor < count
rooms_count segment count a ns r =
    let le = at_most a (filled segment a ns) (front_no_further segment a ns) in
    let lt = r.enough in
    omega arith

-- ---- how many survivors

pub total_next : (n : ℕ) (ns : List ℕ) → total (n ∷ ns) ≡ n + total ns
total_next n ns = sum_by-cons (λ (x : ℕ). x) n ns

-- what fits the survivor that is filled stays there
pub stays : (segment : ℕ) (a : Level) (ns : List ℕ) → a.len + total ns ≤ segment
    → (filled segment a ns).survivor ≡ a.survivor
stays segment a [] le = refl
stays segment a (n ∷ ns) le =
    let sum = total_next n ns in
    ap (λ (x : Level). (filled segment x ns).survivor) (one_fits segment a n (omega (arith, sum, le)))
    ∙ stays segment (behind a n) ns (omega (arith, sum, le))

-- what stays there fits it
fits : (segment : ℕ) (a : Level) (ns : List ℕ) → a.len ≤ segment → (filled segment a ns).survivor ≡ a.survivor
    → a.len + total ns ≤ segment
fits segment a [] within same = omega arith
fits segment a (n ∷ ns) within same = go (λ le at. fits segment (behind a n) ns le at) (one_more segment a n) where
  go : (a.len + n ≤ segment → (filled segment (behind a n) ns).survivor ≡ a.survivor → a.len + n + total ns ≤ segment)
      → OneMore segment a n → a.len + total (n ∷ ns) ≤ segment
  go later (Fits le is) =
      let all = later le (sym (ap (λ (x : Level). (filled segment x ns).survivor) is) ∙ same) in
      omega (arith, all, total_next n ns)
  go later (Next over is) =
      let first = at_most (beginning a n) (filled segment (beginning a n) ns)
      (front_no_further segment (beginning a n) ns) in
      let at = ap (λ (x : Level). (filled segment x ns).survivor) is in
      absurd (omega (arith, first, at, same))

pub one_if_all_fit : OneIfAllFit
one_if_all_fit segment ns least = (
  λ one. fits segment first_level ns least (omega (arith, one)),
  λ le. ap suc (stays segment first_level ns le),
)

-- what one segment may hold begins one survivor at most
pub crosses : (segment : ℕ) (a : Level) (ks : List ℕ) → 18 + total ks ≤ segment
    → (filled segment a ks).survivor ≤ suc a.survivor
crosses segment a [] le = omega arith
crosses segment a (n ∷ ks) le =
    go (crosses segment (behind a n) ks (omega (arith, le, total_next n ks))) (one_more segment a n) where
      go : (filled segment (behind a n) ks).survivor ≤ suc a.survivor → OneMore segment a n
          → (filled segment a (n ∷ ks)).survivor ≤ suc a.survivor
      go less (Fits fit is) =
          let at = ap (λ (x : Level). (filled segment x ks).survivor) is in
          omega (arith, less, at)
      go less (Next over is) =
          let later = stays segment (beginning a n) ks (omega (arith, le, total_next n ks)) in
          let at = ap (λ (x : Level). (filled segment x ks).survivor) is in
          omega (arith, later, at)

pub filled_on : (segment : ℕ) (a : Level) (ns ks : List ℕ)
    → filled segment a (ns ++ ks) ≡ filled segment (filled segment a ns) ks
filled_on segment a [] ks = refl
filled_on segment a (n ∷ ns) ks = filled_on segment (filled_one segment a n) ns ks

pub more_fill_no_fewer : MoreFillNoFewer
more_fill_no_fewer segment ns ks =
    let on = ap (λ (x : Level). x.survivor) (filled_on segment first_level ns ks) in
    let le = at_most (filled segment first_level ns) (filled segment (filled segment first_level ns) ks)
    (front_no_further segment (filled segment first_level ns) ks) in
    omega (arith, on, le)

pub segment_fills_one_more : SegmentFillsOneMore
segment_fills_one_more segment ns ks le =
    let on = ap (λ (x : Level). x.survivor) (filled_on segment first_level ns ks) in
    let less = crosses segment (filled segment first_level ns) ks le in
    omega (arith, on, less)
