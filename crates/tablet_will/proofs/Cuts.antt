-- How starts cut a tablet.
use Rattle.std.proofs.Common.{◌≡◌, ℕ, zero, suc, ◌-◌, ◌+◌, ◌<◌, ◌≤◌, true, false, List, [], ◌∷◌, ◌++◌, length}
use Rattle.std.proofs.Common.{append_assoc, get_or, drop, refl, sym, ap, subst, ◌∙◌, arith, inl, inr}
use Rattle.std.specs.Prelude.{◌⊎◌, nat_le}
use Rattle.std.specs.List.{AllWithin}
use Rattle.std.specs.List.Sorted.{IsPartitionedBy}
use Rattle.std.proofs.Math.Seq.{drop-cons}
use Rattle.std.proofs.lemmas.Bool.{cases_Bool}
use Rattle.entry.specs.declared.tablet.Tablet.{Tablet}
use Rattle.tablet_will.specs.declared.part.Part.{Part}
use Rattle.tablet_will.specs.declared.group.Start.{Start}
use Rattle.tablet_will.specs.Order.{is_below, is_up_to}
use Rattle.tablet_will.specs.Parts.{is_in_tablet, are_sorted}
use Rattle.tablet_will.specs.Rule.{cut}
use Rattle.tablet_will.specs.Starts.{AreAbove, AreRising}
use Rattle.tablet_will.proofs.Order as order
use Rattle.tablet_will.proofs.Finding.{Behind, sorted_cons}

-- ---- one start

-- a tablet as one part
abbrev pub whole : ℕ → Tablet → Part
whole n t = record { table = t.table; first = t.first; last = t.last; partition = n }

-- the part before a start
abbrev pub left : ℕ → Tablet → Start → Part
left n t s = record { table = t.table; first = t.first; last = s.place - 1; partition = n }

-- the tablet from a start on
abbrev pub right : Tablet → Start → Tablet
right t s = record t { first = s.place }

module _ (n : ℕ) (t : Tablet) (s : Start) (ss : List Start) where
  pub cut_passed : is_up_to s.table s.place t.table t.first ≡ true → cut n t (s ∷ ss) ≡ cut (n + 1) t ss
  cut_passed e = rw e refl

  pub cut_inside : is_up_to s.table s.place t.table t.first ≡ false → is_in_tablet t s.table s.place ≡ true
      → cut n t (s ∷ ss) ≡ left n t s ∷ cut (n + 1) (right t s) ss
  cut_inside e f = rw (e, f) refl

  pub cut_past : is_up_to s.table s.place t.table t.first ≡ false → is_in_tablet t s.table s.place ≡ false
      → cut n t (s ∷ ss) ≡ whole n t ∷ []
  cut_past e f = rw (e, f) refl

-- a start is passed, or in the tablet, or past it
abbrev pub Lies : Tablet → Start → Type 0
Lies t s = (is_up_to s.table s.place t.table t.first ≡ true)
    ⊎ (((is_up_to s.table s.place t.table t.first ≡ false) × (is_in_tablet t s.table s.place ≡ true))
    ⊎ ((is_up_to s.table s.place t.table t.first ≡ false) × (is_in_tablet t s.table s.place ≡ false)))

pub lies : (t : Tablet) (s : Start) → Lies t s
lies t s =
    elim (cases_Bool (is_up_to s.table s.place t.table t.first)) as (λ _. Lies t s) [
      | inl passed ↦ inl passed
      | inr later ↦ elim (cases_Bool (is_in_tablet t s.table s.place)) as (λ _. Lies t s) [
        | inl inside ↦ inr (inl (later, inside))
        | inr past ↦ inr (inr (later, past))
      ]
    ]

-- ---- starts in order

pub rising_tail : (s : Start) (ss : List Start) → AreRising (s ∷ ss) → AreRising ss
rising_tail s [] r = tt
rising_tail s (x ∷ xs) r = r.1

pub above_rising : (a b : ℕ) (ss : List Start) → AreAbove a b ss → AreRising ss
above_rising a b [] r = tt
above_rising a b (s ∷ ss) r = r.1

pub above_earlier : (a b c d : ℕ) (ss : List Start) → is_up_to a b c d ≡ true → AreAbove c d ss → AreAbove a b ss
above_earlier a b c d [] e r = tt
above_earlier a b c d (s ∷ ss) e r = (order.up_below a b c d s.table s.place e r.0, r.1)

pub above_at : (a b : ℕ) (ss : List Start) (j : ℕ) (d : Start) → AreAbove a b ss → j < length ss
    → is_below a b (get_or ss j d).table (get_or ss j d).place ≡ true
above_at a b [] j d r lt = absurd (omega (arith, lt))
above_at a b (s ∷ ss) zero d r lt = r.0
above_at a b (s ∷ ss) (suc j) d r lt =
    order.below_below a b s.table s.place (get_or ss j d).table (get_or ss j d).place r.0
    (above_at s.table s.place ss j d r.1 (omega (arith, lt)))

-- an element that is there doesn't depend on the default
element_same : (ss : List Start) (n : ℕ) (x d : Start) → n < length ss → get_or ss n x ≡ get_or ss n d
element_same [] n x d lt = absurd (omega (arith, lt))
element_same (s ∷ ss) zero x d lt = refl
element_same (s ∷ ss) (suc n) x d lt = element_same ss n x d (omega (arith, lt))

pub rising_at : (ss : List Start) (i j : ℕ) (d : Start) → AreRising ss → i < j → j < length ss
    → is_below (get_or ss i d).table (get_or ss i d).place (get_or ss j d).table (get_or ss j d).place ≡ true
rising_at [] i j d r lt within = absurd (omega (arith, within))
rising_at (s ∷ ss) i zero d r lt within = absurd (omega (arith, lt))
rising_at (s ∷ ss) zero (suc j) d r lt within = above_at s.table s.place ss j d r (omega (arith, within))
rising_at (s ∷ ss) (suc i) (suc j) d r lt within =
    rising_at ss i j d (rising_tail s ss r) (omega (arith, lt)) (omega (arith, within))

-- those up to a place come first
pub starts_parted : (ss : List Start) (a b : ℕ) → AreRising ss
    → IsPartitionedBy (λ (s : Start). is_up_to s.table s.place a b) ss
starts_parted [] a b r i j d le lt e = absurd (omega (arith, lt))
starts_parted (s ∷ ss) a b r zero zero d le lt e = e
starts_parted (s ∷ ss) a b r zero (suc j) d le lt e =
    order.up_up s.table s.place (get_or ss j d).table (get_or ss j d).place a b
    (order.below_up s.table s.place (get_or ss j d).table (get_or ss j d).place
    (above_at s.table s.place ss j d r (omega (arith, lt)))) e
starts_parted (s ∷ ss) a b r (suc i) zero d le lt e = absurd (omega (arith, le))
starts_parted (s ∷ ss) a b r (suc i) (suc j) d le lt e =
    starts_parted ss a b (rising_tail s ss r) i j d (omega (arith, le)) (omega (arith, lt)) e

-- ---- the walk

-- the starts up to the tablet's first place only count
pub cut_skips : (ss : List Start) (i n : ℕ) (t : Tablet) → i ≤ length ss
    → AllWithin (λ (s : Start). is_up_to s.table s.place t.table t.first ≡ true) ss 0 i
    → cut n t ss ≡ cut (n + i) t (drop i ss)
cut_skips ss zero n t le passed = let same : n + 0 ≡ n = omega arith in rw same refl
cut_skips [] (suc i) n t le passed = absurd (omega (arith, le))
cut_skips (s ∷ ss) (suc i) n t le passed =
    let next : n + 1 + i ≡ n + suc i = omega arith in
    cut_passed n t s ss (passed zero s (omega arith) (omega arith))
    ∙ cut_skips ss i (n + 1) t (omega (arith, le))
    (λ k d low high. passed (suc k) d (omega arith) (omega (arith, high)))
    ∙ ap (λ (m : ℕ). cut m t (drop i ss)) next

pub cut_begun : (ss : List Start) (i : ℕ) (t : Tablet) → i ≤ length ss
    → AllWithin (λ (s : Start). is_up_to s.table s.place t.table t.first ≡ true) ss 0 i
    → cut i t (drop i ss) ≡ cut 0 t ss
cut_begun ss i t le passed =
    let same : 0 + i ≡ i = omega arith in
    sym (cut_skips ss i 0 t le passed ∙ ap (λ (m : ℕ). cut m t (drop i ss)) same)

-- the next start cuts the tablet if it isn't past it
pub cut_next : (ss : List Start) (n : ℕ) (t : Tablet) (d : Start) → n < length ss
    → is_up_to (get_or ss n d).table (get_or ss n d).place t.table t.first ≡ false
    → is_up_to (get_or ss n d).table (get_or ss n d).place t.table t.last ≡ true
    → cut n t (drop n ss) ≡ left n t (get_or ss n d) ∷ cut (n + 1) (right t (get_or ss n d)) (drop (n + 1) ss)
cut_next ss n t d lt later up =
    let s = get_or ss n d in
    let begun = order.below_up t.table t.first s.table s.place (order.not_up s.table s.place t.table t.first later) in
    let here = order.within_from t.table t.first t.last s.table s.place begun up in
    let one : n + 1 ≡ suc n = omega arith in
    ap (cut n t) (drop-cons ss n d lt) ∙ cut_inside n t s (drop (suc n) ss) later here
    ∙ ap (λ (k : ℕ). left n t s ∷ cut (n + 1) (right t s) (drop k ss)) (sym one)

-- the starts behind one that cuts the tablet come after its place
pub cut_rises : (ss : List Start) (n : ℕ) (t : Tablet) (d : Start) → AreRising ss → n < length ss
    → is_up_to (get_or ss n d).table (get_or ss n d).place t.table t.first ≡ false
    → is_up_to (get_or ss n d).table (get_or ss n d).place t.table t.last ≡ true
    → AllWithin (λ (s : Start). is_up_to s.table s.place t.table (get_or ss n d).place ≡ false) ss (n + 1) (length ss)
cut_rises ss n t d rising lt later up k x low high =
    let s = get_or ss n d in
    let begun = order.below_up t.table t.first s.table s.place (order.not_up s.table s.place t.table t.first later) in
    let here = order.within_from t.table t.first t.last s.table s.place begun up in
    let table : s.table ≡ t.table = (order.cut_some t.table t.first t.last s.table s.place later here).1 in
    let same : get_or ss n x ≡ s = element_same ss n x d lt in
    let behind = rising_at ss n k x rising (omega (arith, low)) high in
    let own : is_below s.table s.place (get_or ss k x).table (get_or ss k x).place ≡ true =
    subst (λ (y : Start). is_below y.table y.place (get_or ss k x).table (get_or ss k x).place ≡ true) same behind in
    order.below_not_up t.table s.place (get_or ss k x).table (get_or ss k x).place
    (subst (λ (m : ℕ). is_below m s.place (get_or ss k x).table (get_or ss k x).place ≡ true) table own)

-- the part before a start is added
pub left_added : (ss : List Start) (n : ℕ) (t : Tablet) (d : Start) (before after : List Part) (q : Part)
    → n < length ss
    → is_up_to (get_or ss n d).table (get_or ss n d).place t.table t.first ≡ false
    → is_up_to (get_or ss n d).table (get_or ss n d).place t.table t.last ≡ true
    → q ≡ left n t (get_or ss n d) → after ≡ before ++ q ∷ []
    → after ++ cut (n + 1) (right t (get_or ss n d)) (drop (n + 1) ss) ≡ before ++ cut n t (drop n ss)
left_added ss n t d before after q lt later up is pushed =
    let rest = cut (n + 1) (right t (get_or ss n d)) (drop (n + 1) ss) in
    ap (λ (ps : List Part). ps ++ rest) pushed ∙ append_assoc before (q ∷ []) rest
    ∙ ap (λ (x : Part). before ++ x ∷ rest) is
    ∙ ap (λ (ps : List Part). before ++ ps) (sym (cut_next ss n t d lt later up))

-- else the tablet is one part
pub cut_ends : (ss : List Start) (n : ℕ) (t : Tablet) (d : Start) → n < length ss
    → is_up_to (get_or ss n d).table (get_or ss n d).place t.table t.first ≡ false
    → is_up_to (get_or ss n d).table (get_or ss n d).place t.table t.last ≡ false
    → cut n t (drop n ss) ≡ whole n t ∷ []
cut_ends ss n t d lt later past =
    let s = get_or ss n d in
    let out = order.above_not_within t.table t.first t.last s.table s.place
    (order.not_up s.table s.place t.table t.last past) in
    rw (drop-cons ss n d lt) (cut_past n t s (drop (suc n) ss) later out)

-- ---- parts in order

pub cut_behind : (ss : List Start) (n : ℕ) (t : Tablet) (rest : List Part) (a b : ℕ)
    → is_below a b t.table t.first ≡ true → Behind a b (cut n t ss ++ rest)
cut_behind [] n t rest a b e = e
cut_behind (s ∷ ss) n t rest a b e =
    elim (lies t s) as (λ _. Behind a b (cut n t (s ∷ ss) ++ rest)) [
      | inl passed ↦ rw (cut_passed n t s ss passed) (cut_behind ss (n + 1) t rest a b e)
      | inr (inl inside) ↦ rw (cut_inside n t s ss inside.0 inside.1) e
      | inr (inr past) ↦ rw (cut_past n t s ss past.0 past.1) e
    ]

pub cut_sorted : (ss : List Start) (n : ℕ) (t : Tablet) (rest : List Part) → nat_le t.first t.last ≡ true
    → Behind t.table t.last rest → are_sorted rest ≡ true → are_sorted (cut n t ss ++ rest) ≡ true
cut_sorted [] n t rest e b r = sorted_cons (whole n t) rest e b r
cut_sorted (s ∷ ss) n t rest e b r =
    elim (lies t s) as (λ _. are_sorted (cut n t (s ∷ ss) ++ rest) ≡ true) [
      | inl passed ↦ rw (cut_passed n t s ss passed) (cut_sorted ss (n + 1) t rest e b r)
      | inr (inl inside) ↦
          let later = inside.0 in
          let here = inside.1 in
          rw (cut_inside n t s ss later here)
          (sorted_cons (left n t s) (cut (n + 1) (right t s) ss ++ rest)
          (order.cut_first t.table t.first t.last s.table s.place later here)
          (cut_behind ss (n + 1) (right t s) rest t.table (s.place - 1)
          (order.cut_before t.table t.first t.last s.table s.place later here))
          (cut_sorted ss (n + 1) (right t s) rest
          (order.cut_last t.table t.first t.last s.table s.place later here) b r))
      | inr (inr past) ↦ rw (cut_past n t s ss past.0 past.1) (sorted_cons (whole n t) rest e b r)
    ]
