-- The partition of each place of tablets that are cut.
use Rattle.std.proofs.Common.{◌≡◌, ℕ, ◌+◌, ◌≤◌, true, false, List, [], ◌∷◌, ◌++◌, length}
use Rattle.std.proofs.Common.{refl, sym, ap, ◌∙◌, arith, inl, inr}
use Rattle.std.specs.Prelude.{Some, None, ◌&&◌, if◌then◌else◌}
use Rattle.std.specs.List.{flat_map}
use Rattle.std.proofs.lemmas.List.{append-nil}
use Rattle.std.proofs.lemmas.Bool.{cases_Bool, and_parts, or_parts, both_ways}
use Rattle.entry.specs.declared.tablet.Tablet.{Tablet}
use Rattle.entry.specs.Tablet.{is_tablet, is_before, are_in_order, are_tablets}
use Rattle.tablet_will.specs.declared.part.Part.{Part}
use Rattle.tablet_will.specs.declared.group.Start.{Start}
use Rattle.tablet_will.specs.Order.{is_below, is_up_to}
use Rattle.tablet_will.specs.Parts.{is_in_part, is_in_tablet, is_in_one, partition_at, partitions_of, are_sorted}
use Rattle.tablet_will.specs.Rule.{cut}
use Rattle.tablet_will.specs.Starts.{AreAbove, AreRising}
use Rattle.tablet_will.proofs.Order as order
use Rattle.tablet_will.proofs.Finding.{Behind}
use Rattle.tablet_will.proofs.Cuts.{whole, left, right, lies, cut_passed, cut_inside}
use Rattle.tablet_will.proofs.Cuts.{cut_past, rising_tail, cut_behind, cut_sorted}

-- how many starts are at a place or before it
abbrev pub count_up_to : List Start → ℕ → ℕ → ℕ
count_up_to [] a b = 0
count_up_to (s ∷ ss) a b = if is_up_to s.table s.place a b then 1 + count_up_to ss a b else count_up_to ss a b

pub count_none : (ss : List Start) (c d a b : ℕ) → AreAbove c d ss → is_up_to a b c d ≡ true → count_up_to ss a b ≡ 0
count_none [] c d a b r e = refl
count_none (s ∷ ss) c d a b r e =
    let above = order.up_below a b c d s.table s.place e r.0 in
    rw (order.below_not_up a b s.table s.place above)
    (count_none ss s.table s.place a b r.1 (order.below_up a b s.table s.place above))

pub count_limit : (ss : List Start) (a b : ℕ) → count_up_to ss a b ≤ length ss
count_limit [] a b = omega arith
count_limit (s ∷ ss) a b =
    elim (cases_Bool (is_up_to s.table s.place a b)) as (λ _. count_up_to (s ∷ ss) a b ≤ length (s ∷ ss)) [
      | inl e ↦ let rest = count_limit ss a b in rw e (omega arith)
      | inr e ↦ let rest = count_limit ss a b in rw e (omega arith)
    ]

-- a start that comes after a place, and all later ones, don't count
count_later : (s : Start) (ss : List Start) (a b : ℕ) → AreRising (s ∷ ss) → is_below a b s.table s.place ≡ true
    → count_up_to (s ∷ ss) a b ≡ 0
count_later s ss a b r e =
    rw (order.below_not_up a b s.table s.place e)
    (count_none ss s.table s.place a b r (order.below_up a b s.table s.place e))

-- ---- one tablet

-- a place of the tablet goes to the partition that began last
pub cut_covers : (ss : List Start) (n : ℕ) (t : Tablet) (a b : ℕ) → AreRising ss → is_in_tablet t a b ≡ true
    → partition_at (cut n t ss) a b ≡ Some (n + count_up_to ss a b)
cut_covers [] n t a b r e = rw e (ap (λ (m : ℕ). Some m) (omega arith))
cut_covers (s ∷ ss) n t a b r e =
    elim (lies t s) as (λ _. partition_at (cut n t (s ∷ ss)) a b ≡ Some (n + count_up_to (s ∷ ss) a b)) [
      | inl passed ↦
          let up = order.up_up s.table s.place t.table t.first a b passed
          (order.within_first t.table t.first t.last a b e) in
          let next : n + 1 + count_up_to ss a b ≡ n + (1 + count_up_to ss a b) = omega arith in
          rw (cut_passed n t s ss passed) (cut_covers ss (n + 1) t a b (rising_tail s ss r) e
          ∙ ap (λ (m : ℕ). Some m) next
          ∙ rw up refl)
      | inr (inl inside) ↦
          elim (cases_Bool (is_up_to s.table s.place a b)) as
          (λ _. partition_at (cut n t (s ∷ ss)) a b ≡ Some (n + count_up_to (s ∷ ss) a b)) [
            | inl up ↦
                let sides = order.cut_right t.table t.first t.last s.table s.place inside.0 inside.1 a b e up in
                let next : n + 1 + count_up_to ss a b ≡ n + (1 + count_up_to ss a b) = omega arith in
                rw (cut_inside n t s ss inside.0 inside.1) (rw sides.0
                (cut_covers ss (n + 1) (right t s) a b (rising_tail s ss r) sides.1 ∙ ap (λ (m : ℕ). Some m) next
                ∙ rw up refl))
            | inr later ↦
                let here = order.cut_left t.table t.first t.last s.table s.place inside.0 inside.1 a b e later in
                let none = count_later s ss a b r (order.not_up s.table s.place a b later) in
                let same : n ≡ n + 0 = omega arith in
                rw (cut_inside n t s ss inside.0 inside.1) (rw here (ap (λ (m : ℕ). Some m) same
                ∙ ap (λ (m : ℕ). Some (n + m)) (sym none)))
          ]
      | inr (inr past) ↦
          let after = order.past_last t.table t.first t.last s.table s.place past.0 past.1 in
          let none = count_later s ss a b r (order.up_below a b t.table t.last s.table s.place
          (order.within_last t.table t.first t.last a b e) after) in
          let same : n ≡ n + 0 = omega arith in
          rw (cut_past n t s ss past.0 past.1) (rw e (ap (λ (m : ℕ). Some m) same
          ∙ ap (λ (m : ℕ). Some (n + m)) (sym none)))
    ]

-- another place is in no part
pub cut_leaves : (ss : List Start) (n : ℕ) (t : Tablet) (a b : ℕ) → is_in_tablet t a b ≡ false
    → partition_at (cut n t ss) a b ≡ None
cut_leaves [] n t a b e = rw e refl
cut_leaves (s ∷ ss) n t a b e =
    elim (lies t s) as (λ _. partition_at (cut n t (s ∷ ss)) a b ≡ None) [
      | inl passed ↦ rw (cut_passed n t s ss passed) (cut_leaves ss (n + 1) t a b e)
      | inr (inl inside) ↦
          let sides = order.cut_out t.table t.first t.last s.table s.place inside.0 inside.1 a b e in
          rw (cut_inside n t s ss inside.0 inside.1) (rw sides.0 (cut_leaves ss (n + 1) (right t s) a b sides.1))
      | inr (inr past) ↦ rw (cut_past n t s ss past.0 past.1) (rw e refl)
    ]

-- ---- all tablets

at_first : (xs ys : List Part) (a b n : ℕ) → partition_at xs a b ≡ Some n → partition_at (xs ++ ys) a b ≡ Some n
at_first [] ys a b n e = absurd (cc)
at_first (x ∷ xs) ys a b n e =
    elim (cases_Bool (is_in_part x a b)) as (λ _. partition_at (x ∷ xs ++ ys) a b ≡ Some n) [
      | inl is ↦ rw is (rw is at e)
      | inr not ↦ rw not (at_first xs ys a b n (rw not at e))
    ]

at_later : (xs ys : List Part) (a b : ℕ) → partition_at xs a b ≡ None
    → partition_at (xs ++ ys) a b ≡ partition_at ys a b
at_later [] ys a b e = refl
at_later (x ∷ xs) ys a b e =
    elim (cases_Bool (is_in_part x a b)) as (λ _. partition_at (x ∷ xs ++ ys) a b ≡ partition_at ys a b) [
      | inl is ↦ let none : Some x.partition ≡ None = rw is at e in absurd (cc)
      | inr not ↦ rw not (at_later xs ys a b (rw not at e))
    ]

-- the tablets, cut at starts
abbrev pub parts : List Start → List Tablet → List Part
parts ss ts = flat_map (λ (t : Tablet). cut 0 t ss) ts

pub parts_cover : (ss : List Start) (ts : List Tablet) (a b : ℕ) → AreRising ss → is_in_one ts a b ≡ true
    → partition_at (parts ss ts) a b ≡ Some (count_up_to ss a b)
parts_cover ss [] a b r e = absurd (cc)
parts_cover ss (t ∷ ts) a b r e =
    elim (cases_Bool (is_in_tablet t a b)) as (λ _. partition_at (parts ss (t ∷ ts)) a b ≡ Some (count_up_to ss a b)) [
      | inl is ↦
          let same : 0 + count_up_to ss a b ≡ count_up_to ss a b = omega arith in
          at_first (cut 0 t ss) (parts ss ts) a b (count_up_to ss a b)
          (cut_covers ss 0 t a b r is ∙ ap (λ (m : ℕ). Some m) same)
      | inr not ↦
          at_later (cut 0 t ss) (parts ss ts) a b (cut_leaves ss 0 t a b not)
          ∙ parts_cover ss ts a b r (rw not at e)
    ]

pub parts_leave : (ss : List Start) (ts : List Tablet) (a b : ℕ) → is_in_one ts a b ≡ false
    → partition_at (parts ss ts) a b ≡ None
parts_leave ss [] a b e = refl
parts_leave ss (t ∷ ts) a b e =
    let out = or_parts (is_in_tablet t a b) (is_in_one ts a b) e in
    at_later (cut 0 t ss) (parts ss ts) a b (cut_leaves ss 0 t a b out.0) ∙ parts_leave ss ts a b out.1

-- ---- the order of the parts

first_whole : (t : Tablet) (ts : List Tablet) → are_in_order (t ∷ ts) ≡ true → is_tablet t ≡ true
first_whole t [] o = o
first_whole t (u ∷ us) o = (and_parts (is_tablet t) (is_before t u && are_in_order (u ∷ us)) o).0

next_before : (t u : Tablet) (us : List Tablet) → are_in_order (t ∷ u ∷ us) ≡ true
    → (is_before t u ≡ true) × (are_in_order (u ∷ us) ≡ true)
next_before t u us o =
    and_parts (is_before t u) (are_in_order (u ∷ us))
    (and_parts (is_tablet t) (is_before t u && are_in_order (u ∷ us)) o).1

pub parts_behind : (ss : List Start) (t : Tablet) (ts : List Tablet) (a b : ℕ) → is_below a b t.table t.first ≡ true
    → Behind a b (parts ss (t ∷ ts))
parts_behind ss t ts a b e = cut_behind ss 0 t (parts ss ts) a b e

pub parts_sorted : (ss : List Start) (ts : List Tablet) → are_in_order ts ≡ true → are_sorted (parts ss ts) ≡ true
parts_sorted ss [] o = refl
parts_sorted ss (t ∷ []) o = cut_sorted ss 0 t [] o tt refl
parts_sorted ss (t ∷ u ∷ us) o =
    let next = next_before t u us o in
    cut_sorted ss 0 t (parts ss (u ∷ us)) (first_whole t (u ∷ us) o) (parts_behind ss u us t.table t.last next.0)
    (parts_sorted ss (u ∷ us) next.1)

-- ---- how many partitions there are

abbrev pub AllUpTo : ℕ → ℕ → List Start → Type 0
AllUpTo a b [] = Unit {0}
AllUpTo a b (s ∷ ss) = (is_up_to s.table s.place a b ≡ true) × AllUpTo a b ss

-- the last parts tell it
record IsSome (qs : List Part) : Type 0 where
  part : Part
  others : List Part
  are : qs ≡ part ∷ others

cut_some : (ss : List Start) (n : ℕ) (t : Tablet) → IsSome (cut n t ss)
cut_some [] n t = record { part = whole n t; others = []; are = refl }
cut_some (s ∷ ss) n t =
    elim (lies t s) as (λ _. IsSome (cut n t (s ∷ ss))) [
      | inl passed ↦
          let next = cut_some ss (n + 1) t in
          record { part = next.part; others = next.others; are = cut_passed n t s ss passed ∙ next.are }
      | inr (inl inside) ↦ record {
        part = left n t s;
        others = cut (n + 1) (right t s) ss;
        are = cut_inside n t s ss inside.0 inside.1;
      }
      | inr (inr past) ↦ record { part = whole n t; others = []; are = cut_past n t s ss past.0 past.1 }
    ]

partitions_cons : (q : Part) (qs : List Part) → IsSome qs → partitions_of (q ∷ qs) ≡ partitions_of qs
partitions_cons q qs some = rw some.are refl

partitions_append : (xs ys : List Part) → IsSome ys → partitions_of (xs ++ ys) ≡ partitions_of ys
partitions_append [] ys some = refl
partitions_append (x ∷ []) ys some = partitions_cons x ys some
partitions_append (x ∷ y ∷ xs) ys some = partitions_append (y ∷ xs) ys some

pub partitions_cut : (ss : List Start) (n : ℕ) (t : Tablet) → AllUpTo t.table t.last ss
    → partitions_of (cut n t ss) ≡ n + length ss + 1
partitions_cut [] n t all = omega arith
partitions_cut (s ∷ ss) n t all =
    let next : n + 1 + length ss + 1 ≡ n + length (s ∷ ss) + 1 = omega arith in
    elim (lies t s) as (λ _. partitions_of (cut n t (s ∷ ss)) ≡ n + length (s ∷ ss) + 1) [
      | inl passed ↦ ap partitions_of (cut_passed n t s ss passed) ∙ partitions_cut ss (n + 1) t all.1 ∙ next
      | inr (inl inside) ↦
          ap partitions_of (cut_inside n t s ss inside.0 inside.1)
          ∙ partitions_cons (left n t s) (cut (n + 1) (right t s) ss) (cut_some ss (n + 1) (right t s))
          ∙ partitions_cut ss (n + 1) (right t s) all.1 ∙ next
      | inr (inr past) ↦
          let begun = order.below_up t.table t.first s.table s.place
          (order.not_up s.table s.place t.table t.first past.0) in
          absurd (both_ways (is_in_tablet t s.table s.place) past.1
          (order.within_from t.table t.first t.last s.table s.place begun all.0))
    ]

-- a start in one of the tablets is up to the end of the last
abbrev pub UpToLast : ℕ → ℕ → List Tablet → Type 0
UpToLast a b [] = ⊥
UpToLast a b (t ∷ []) = is_up_to a b t.table t.last ≡ true
UpToLast a b (t ∷ u ∷ us) = UpToLast a b (u ∷ us)

reaches : (a b : ℕ) (t : Tablet) (ts : List Tablet) → are_in_order (t ∷ ts) ≡ true
    → is_up_to a b t.table t.last ≡ true → UpToLast a b (t ∷ ts)
reaches a b t [] o e = e
reaches a b t (u ∷ us) o e =
    let next = next_before t u us o in
    let begun = order.below_up a b u.table u.first (order.up_below a b t.table t.last u.table u.first e next.0) in
    reaches a b u us next.1
    (order.up_up a b u.table u.first u.table u.last begun
    (order.up_to_last u.table u.first u.last (first_whole u us next.1)))

pub one_reaches : (a b : ℕ) (ts : List Tablet) → are_in_order ts ≡ true → is_in_one ts a b ≡ true → UpToLast a b ts
one_reaches a b [] o e = absurd (cc)
one_reaches a b (t ∷ []) o e =
    elim (cases_Bool (is_in_tablet t a b)) as (λ _. UpToLast a b (t ∷ [])) [
      | inl is ↦ order.within_last t.table t.first t.last a b is
      | inr not ↦ let none : false ≡ true = rw not at e in absurd (cc)
    ]
one_reaches a b (t ∷ u ∷ us) o e =
    elim (cases_Bool (is_in_tablet t a b)) as (λ _. UpToLast a b (u ∷ us)) [
      | inl is ↦ reaches a b t (u ∷ us) o (order.within_last t.table t.first t.last a b is)
      | inr not ↦ one_reaches a b (u ∷ us) (next_before t u us o).1 (rw not at e)
    ]

abbrev pub AllReach : List Start → List Tablet → Type 0
AllReach [] ts = Unit {0}
AllReach (s ∷ ss) ts = UpToLast s.table s.place ts × AllReach ss ts

last_reached : (ss : List Start) (t : Tablet) → AllReach ss (t ∷ []) → AllUpTo t.table t.last ss
last_reached [] t all = tt
last_reached (s ∷ ss) t all = (all.0, last_reached ss t all.1)

rest_reached : (ss : List Start) (t u : Tablet) (us : List Tablet) → AllReach ss (t ∷ u ∷ us) → AllReach ss (u ∷ us)
rest_reached [] t u us all = tt
rest_reached (s ∷ ss) t u us all = (all.0, rest_reached ss t u us all.1)

some_append : (xs ys : List Part) → IsSome xs → IsSome (xs ++ ys)
some_append xs ys some =
    record { part = some.part; others = some.others ++ ys; are = ap (λ (zs : List Part). zs ++ ys) some.are }

-- the first partition, and one for each start
pub partitions_are : (ss : List Start) (ts : List Tablet) → are_tablets ts ≡ true → AllReach ss ts
    → partitions_of (parts ss ts) ≡ length ss + 1
partitions_are ss [] o all = absurd (cc)
partitions_are ss (t ∷ []) o all =
    let one : cut 0 t ss ++ [] ≡ cut 0 t ss = append-nil (cut 0 t ss) in
    let same : 0 + length ss + 1 ≡ length ss + 1 = omega arith in
    ap partitions_of one ∙ partitions_cut ss 0 t (last_reached ss t all) ∙ same
partitions_are ss (t ∷ u ∷ us) o all =
    partitions_append (cut 0 t ss) (parts ss (u ∷ us)) (some_append (cut 0 u ss) (parts ss us) (cut_some ss 0 u))
    ∙ partitions_are ss (u ∷ us) (next_before t u us o).1 (rest_reached ss t u us all)
