-- Good replicas and heads of growing lists.
use Rattle.std.proofs.Common.{◌≡◌, ℕ, zero, suc, ◌<◌, ◌≤◌, max, inl, inr, List, [], ◌∷◌, ◌++◌, take}
use Rattle.std.proofs.Common.{drop, length, get_or, refl, sym, ap, subst, ◌∙◌, arith, ⊎_elim}
use Rattle.std.specs.Prelude.{Option, Some, None, unwrap_or}
use Rattle.std.specs.Prelude.{◌⊎◌}
use Rattle.std.proofs.lemmas.Bool.{cases_lt}
use Rattle.entry.specs.Bag.{IsAmong}
use Rattle.replica.specs.declared.holding.Holding.{Holding}
use Rattle.replica.specs.Choice.{IsUsableHead}
use Rattle.recovery_plan.specs.Good.{IsGood, AreGood, IsHeadOf, IsOpenHead, IsNewest, IsNewestOf}
use Rattle.recovery_plan.specs.Planned.{IsFirstBad, IsTooOld, IsHeadClosed, IsOpenNewest, AreNewest}
use Rattle.recovery_plan.specs.Preferred.{IsBest}
use Rattle.recovery_plan.proofs.Bests.{among-append, among-left, among-right, best-skip}

-- the element at a place is among them
pub among-at : {X : Type 0} (xs : List X) (i : ℕ) (x : X) → i < length xs → x ≡ get_or xs i x → IsAmong x xs
among-at [] i x lt is = absurd (omega arith)
among-at (y ∷ xs) zero x lt is = inl (sym is)
among-at (y ∷ xs) (suc i) x lt is = inr (among-at xs i x (omega arith) is)

-- the list, split at a place
pub split-at : {X : Type 0} (xs : List X) (i : ℕ) (x : X) → i < length xs → x ≡ get_or xs i x
    → xs ≡ take i xs ++ x ∷ drop (suc i) xs
split-at [] i x lt is = absurd (omega arith)
split-at (y ∷ xs) zero x lt is = ap (λ z. z ∷ xs) (sym is)
split-at (y ∷ xs) (suc i) x lt is = ap (λ l. y ∷ l) (split-at xs i x (omega arith) is)

module _ (m : ℕ) (hs : List Holding) (h : Holding) where
  pub good-more : AreGood m hs → (h.master ≡ m → IsGood h) → AreGood m (hs ++ h ∷ [])
  good-more all good g i master =
      ⊎_elim (λ a. all g a master)
      (λ r. ⊎_elim (λ e. subst IsGood e (good (ap (λ (x : Holding). x.master) e ∙ master))) (λ n. absurd n) r)
      (among-append g hs (h ∷ []) i)

  -- one that is no head changes nothing
  pub newest-skip : (o : Option ℕ) → (IsHeadOf m h → ⊥) → IsNewestOf m hs o
      → IsNewestOf m (hs ++ h ∷ []) o
  newest-skip None not none =
      λ g i head. ⊎_elim (λ a. none g a head) (λ r. ⊎_elim (λ e. not (subst (IsHeadOf m) (sym e) head))
      (λ n. n) r) (among-append g hs (h ∷ []) i)
  newest-skip (Some id) not newest = record {
    head = newest.head;
    among = among-left newest.head hs (h ∷ []) newest.among;
    is_head = newest.is_head;
    segment = newest.segment;
    greatest =
        λ g i head. ⊎_elim (λ a. newest.greatest g a head)
        (λ r. ⊎_elim (λ e. absurd (not (subst (IsHeadOf m) (sym e) head))) (λ n. absurd n) r)
        (among-append g hs (h ∷ []) i);
  }

  pub no-head : (o : Option ℕ) (b : Option Holding) → (IsHeadOf m h → ⊥) → AreNewest m hs o b
      → AreNewest m (hs ++ h ∷ []) o b
  no-head o b not are = record {
    newest = newest-skip o not are.newest;
    best = best-skip (IsOpenNewest m o) hs h b (λ p. not (open-head o p)) are.best;
  }
    where
      open-head : (o : Option ℕ) → IsOpenNewest m o h → IsHeadOf m h
      open-head None p = absurd p
      open-head (Some id) p = p.0

  last : IsAmong h (hs ++ h ∷ [])
  last = among-right h hs (h ∷ []) (inl refl)

  -- a head is the newest, or the one before it is
  pub newest-more : (o : Option ℕ) → IsHeadOf m h → IsNewestOf m hs o
      → IsNewestOf m (hs ++ h ∷ []) (Some (max h.segment (unwrap_or o 0)))
  newest-more None head none =
      let is : h.segment ≡ max h.segment 0 = omega arith in
      record {
        head = h;
        among = last;
        is_head = head;
        segment = is;
        greatest = λ g i p.
            ⊎_elim (λ a. absurd (none g a p))
            (λ r. ⊎_elim (λ e. let same : h.segment ≡ g.segment = ap (λ (x : Holding). x.segment) e in omega arith)
            (λ n. absurd n) r) (among-append g hs (h ∷ []) i);
      }
  newest-more (Some id) head newest = chosen (cases_lt id h.segment)
    where
      below : (g : Holding) → IsAmong g (hs ++ h ∷ []) → IsHeadOf m g → g.segment ≤ max h.segment id
      below g i p =
          ⊎_elim (λ a. let le : g.segment ≤ id = newest.greatest g a p in omega arith)
          (λ r. ⊎_elim (λ e. let same : h.segment ≡ g.segment = ap (λ (x : Holding). x.segment) e in omega arith)
          (λ n. absurd n) r) (among-append g hs (h ∷ []) i)

      chosen : (id < h.segment) ⊎ (h.segment ≤ id) → IsNewest m (hs ++ h ∷ []) (max h.segment id)
      chosen (inl lt) = record { head = h; among = last; is_head = head; segment = omega arith; greatest = below }
      chosen (inr le) = record {
        head = newest.head;
        among = among-left newest.head hs (h ∷ []) newest.among;
        is_head = newest.is_head;
        segment = let s : newest.head.segment ≡ id = newest.segment in omega arith;
        greatest = below;
      }

-- ---- the newest head and its open replica, once one more replica of a head has come

module _ (m : ℕ) (hs : List Holding) (h : Holding) (head : IsHeadOf m h) where
  -- one of an older head changes nothing
  pub older : (o : Option ℕ) (id s : ℕ) (b : Option Holding) → s ≡ h.segment → o ≡ Some id → s < id
      → AreNewest m hs o b → AreNewest m (hs ++ h ∷ []) o b
  older None id s b is some lt are = absurd (cc)
  older (Some k) id s b is some lt are =
      let same : k ≡ id = cc in
      let most : max h.segment k ≡ k = omega arith in
      record {
        newest = subst (λ n. IsNewest m (hs ++ h ∷ []) n) most (newest-more m hs h (Some k) head are.newest);
        best = best-skip (IsOpenHead m k) hs h b (λ p. let e : h.segment ≡ k = p.1 in omega arith) are.best;
      }

  -- one of the head that was the newest
  pub same-head : (o : Option ℕ) (id s : ℕ) (b c : Option Holding) → s ≡ h.segment → o ≡ Some id → s ≡ id
      → AreNewest m hs o b
      → (IsBest (IsOpenHead m h.segment) hs b → IsBest (IsOpenHead m h.segment) (hs ++ h ∷ []) c)
      → AreNewest m (hs ++ h ∷ []) (Some s) c
  same-head None id s b c is some same are more = absurd (cc)
  same-head (Some k) id s b c is some same are more =
      let known : k ≡ id = cc in
      let most : max h.segment k ≡ s = omega arith in
      let old : k ≡ h.segment = omega arith in
      record {
        newest = subst (λ n. IsNewest m (hs ++ h ∷ []) n) most (newest-more m hs h (Some k) head are.newest);
        best =
            subst (λ n. IsBest (IsOpenHead m n) (hs ++ h ∷ []) c) (sym is)
            (more (subst (λ n. IsBest (IsOpenHead m n) hs b) old are.best));
      }

  -- one of a newer head
  pub newer : (o : Option ℕ) (s : ℕ) (b c : Option Holding) → s ≡ h.segment
      → ((id : ℕ) → o ≡ Some id → id < s) → AreNewest m hs o b
      → (IsBest (IsOpenHead m h.segment) hs None → IsBest (IsOpenHead m h.segment) (hs ++ h ∷ []) c)
      → AreNewest m (hs ++ h ∷ []) (Some s) c
  newer None s b c is below are more =
      let most : max h.segment 0 ≡ s = omega arith in
      record {
        newest = subst (λ n. IsNewest m (hs ++ h ∷ []) n) most (newest-more m hs h None head are.newest);
        best = subst (λ n. IsBest (IsOpenHead m n) (hs ++ h ∷ []) c) (sym is) (more (λ g i p. are.newest g i p.0));
      }
  newer (Some id) s b c is below are more =
      let lt : id < s = below id refl in
      let most : max h.segment id ≡ s = omega arith in
      record {
        newest = subst (λ n. IsNewest m (hs ++ h ∷ []) n) most (newest-more m hs h (Some id) head are.newest);
        best =
            subst (λ n. IsBest (IsOpenHead m n) (hs ++ h ∷ []) c) (sym is)
            (more (λ g i p.
            let le : g.segment ≤ id = are.newest.greatest g i p.0 in
            let e : g.segment ≡ h.segment = p.1 in
            omega arith));
      }

-- the newest head may not be used
pub head-old : (m least : ℕ) (hs all : List Holding) (o : Option ℕ) (b : Option Holding) (id : ℕ) → hs ≡ all
    → AreGood m hs → AreNewest m hs o b → o ≡ Some id → id < least → IsTooOld all least m id
head-old m least hs all None b id e good are some lt = absurd (cc)
head-old m least hs all (Some k) b id e good are some lt =
    let same : k ≡ id = cc in
    record {
      good = subst (AreGood m) e good;
      newest = subst (λ n. IsNewest m all n) same (subst (λ l. IsNewest m l k) e are.newest);
      too_old = lt;
    }

-- it may be used, and none of its replicas is open
pub head-closed : (m least : ℕ) (hs all : List Holding) (o : Option ℕ) (b : Option Holding) (id : ℕ) → hs ≡ all
    → AreGood m hs → AreNewest m hs o b → o ≡ Some id → IsUsableHead least id → b ≡ None
    → IsHeadClosed all least m id
head-closed m least hs all None b id e good are some usable none = absurd (cc)
head-closed m least hs all (Some k) (Some x) id e good are some usable none = absurd (cc)
head-closed m least hs all (Some k) None id e good are some usable none =
    let same : k ≡ id = cc in
    let now : AreNewest m all (Some k) None = subst (λ l. AreNewest m l (Some k) None) e are in
    record {
      good = subst (AreGood m) e good;
      newest = subst (λ n. IsNewest m all n) same now.newest;
      usable = usable;
      closed = subst (λ n. (h : Holding) → IsAmong h all → IsOpenHead m n h → ⊥) same now.best;
    }

-- the first that isn't good
pub first-bad : (hs : List Holding) (m i : ℕ) (h : Holding) → i < length hs → h ≡ get_or hs i h → AreGood m (take i hs)
    → h.master ≡ m → (IsGood h → ⊥) →
    IsFirstBad hs m h.backup h.segment
first-bad hs m i h lt is good master bad = record {
  before = take i hs;
  bad = h;
  after = drop (suc i) hs;
  place = split-at hs i h lt is;
  of_master = master;
  on_backup = refl;
  of_segment = refl;
  is_bad = bad;
  good_before = good;
}
