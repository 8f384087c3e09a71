-- Preferred replicas of growing lists.
use Rattle.std.proofs.Common.{◌≡◌, ℕ, ◌<◌, inl, inr, Bool, true, false, cond, List, [], ◌∷◌, ◌++◌, refl}
use Rattle.std.proofs.Common.{sym, ap, subst, ◌∙◌, arith, append_assoc, take, get_or, ◌+◌, ⊎_elim}
use Rattle.std.specs.Prelude.{Option, Some, None, IfSome, nat_lt, ◌==◌, ◌&&◌, ◌||◌, ◌⊎◌, ◌≤◌, length}
use Rattle.std.proofs.lemmas.Bool.Decides.{nat_tests}
use Rattle.std.proofs.lemmas.Bool.{cases_eq}
use Rattle.std.proofs.lemmas.Grind.{take_at_read}
use Rattle.std.specs.Option.{option_copied}
use Rattle.std.specs.Ordering.{nat_cmp}
use Rattle.std.specs.BTreeMap.{is_at}
use Rattle.std.specs.Borrow.{Bor}
use Rattle.entry.specs.Bag.{IsAmong}
use Rattle.entry.specs.Text.{Opening, listed_len}
use Rattle.replica.specs.declared.holding.Holding.{Holding}
use Rattle.replica.specs.Choice.{IsUsableReplica}
use Rattle.recovery_plan.specs.Good.{IsOf, IsReplicaOf}
use Rattle.recovery_plan.specs.Preferred.{is_preferred, better, IsPreferred, IsBest}
use Rattle.recovery_plan.specs.Looked.{IsUsableFor}

-- ---- membership

pub among-append : {X : Type 0} (x : X) (xs ys : List X) → IsAmong x (xs ++ ys) → IsAmong x xs ⊎ IsAmong x ys
among-append x [] ys i = inr i
among-append x (y ∷ xs) ys (inl e) = inl (inl e)
among-append x (y ∷ xs) ys (inr i) = ⊎_elim (λ a. inl (inr a)) (λ b. inr b) (among-append x xs ys i)

pub among-left : {X : Type 0} (x : X) (xs ys : List X) → IsAmong x xs → IsAmong x (xs ++ ys)
among-left x [] ys i = absurd i
among-left x (y ∷ xs) ys (inl e) = inl e
among-left x (y ∷ xs) ys (inr i) = inr (among-left x xs ys i)

pub among-right : {X : Type 0} (x : X) (xs ys : List X) → IsAmong x ys → IsAmong x (xs ++ ys)
among-right x [] ys i = i
among-right x (y ∷ xs) ys i = inr (among-right x xs ys i)

-- ---- the order of preference

-- lengths and backups, compared as the preference compares replicas
module _ where
  abbrev longer : ℕ → ℕ → ℕ → ℕ → Bool
  longer k b l c = nat_lt l k || ((k == l) && nat_lt b c)

  longer-asym : (k b l c : ℕ) → longer k b l c ≡ true → longer l c k b ≡ false
  longer-asym k b l c e = grind (arith, nat_tests)

  longer-weak : (k b l c m d : ℕ) → longer k b l c ≡ true → longer m d l c ≡ false → longer k b m d ≡ true
  longer-weak k b l c m d e f = grind (arith, nat_tests)

  backup-asym : (b c : ℕ) → nat_lt b c ≡ true → nat_lt c b ≡ false
  backup-asym b c e = grind (arith, nat_tests)

  backup-weak : (b c d : ℕ) → nat_lt b c ≡ true → nat_lt d c ≡ false → nat_lt b d ≡ true
  backup-weak b c d e f = grind (arith, nat_tests)

  abbrev prefers : Bool → ℕ → ℕ → Bool → ℕ → ℕ → Bool
  prefers x k b y l c = cond x (y && longer k b l c) (y || nat_lt b c)

  prefers-asym : (x : Bool) (k b : ℕ) (y : Bool) (l c : ℕ) → prefers x k b y l c ≡ true → prefers y l c x k b ≡ false
  prefers-asym true k b true l c e = longer-asym k b l c e
  prefers-asym true k b false l c e = absurd (cc)
  prefers-asym false k b true l c e = refl
  prefers-asym false k b false l c e = backup-asym b c e

  prefers-weak : (x : Bool) (k b : ℕ) (y : Bool) (l c : ℕ) (z : Bool) (m d : ℕ) → prefers x k b y l c ≡ true
      → prefers z m d y l c ≡ false → prefers x k b z m d ≡ true
  prefers-weak true k b true l c true m d e f = longer-weak k b l c m d e f
  prefers-weak true k b true l c false m d e f = absurd (cc)
  prefers-weak true k b false l c z m d e f = absurd (cc)
  prefers-weak false k b true l c true m d e f = refl
  prefers-weak false k b true l c false m d e f = absurd (cc)
  prefers-weak false k b false l c true m d e f = refl
  prefers-weak false k b false l c false m d e f = backup-weak b c d e f

preferred-asym : (a b : Holding) → is_preferred a b ≡ true → is_preferred b a ≡ false
preferred-asym a b e = prefers-asym a.is_open (length a.bytes) a.backup b.is_open (length b.bytes) b.backup e

preferred-weak : (a b c : Holding) → is_preferred a b ≡ true → is_preferred c b ≡ false → is_preferred a c ≡ true
preferred-weak a b c e f =
    prefers-weak a.is_open (length a.bytes) a.backup b.is_open (length b.bytes) b.backup c.is_open (length c.bytes)
    c.backup e f

-- ---- which may be used

-- open or closed and its length, under a listed length
module _ where
  abbrev Usable : Bool → ℕ → Option ℕ → Type 0
  Usable x k n = (x ≡ false) ⊎ IfSome n (λ l. l ≤ k)

  as-long : (k l : ℕ) (n : Option ℕ) → l ≤ k → Usable true l n → IfSome n (λ m. m ≤ k)
  as-long k l None le may = tt
  as-long k l (Some m) le (inl shut) = absurd (cc)
  as-long k l (Some m) le (inr long) = omega arith

  longer-least : (k b l c : ℕ) → longer k b l c ≡ true → l ≤ k
  longer-least k b l c e = grind (arith, nat_tests)

  longer-most : (k b l c : ℕ) → longer l c k b ≡ false → l ≤ k
  longer-most k b l c e = grind (arith, nat_tests)

  -- if one may be used, so may one that is preferred to it
  usable-preferred : (x : Bool) (k b : ℕ) (y : Bool) (l c : ℕ) (n : Option ℕ) → prefers x k b y l c ≡ true
      → Usable y l n → Usable x k n
  usable-preferred false k b y l c n e may = inl refl
  usable-preferred true k b true l c n e may = inr (as-long k l n (longer-least k b l c e) may)
  usable-preferred true k b false l c n e may = absurd (cc)

  -- and one that it isn't preferred to
  usable-kept : (x : Bool) (k b : ℕ) (y : Bool) (l c : ℕ) (n : Option ℕ) → prefers y l c x k b ≡ false
      → Usable y l n → Usable x k n
  usable-kept false k b y l c n e may = inl refl
  usable-kept true k b true l c n e may = inr (as-long k l n (longer-most k b l c e) may)
  usable-kept true k b false l c n e may = absurd (cc)

module _ (o : Opening) (h : Holding) (id : ℕ) (is : h.segment ≡ id) where
  abbrev UsableAs : ℕ → Type 0
  UsableAs s = Usable h.is_open (length h.bytes) (listed_len s o.digest)

  -- the segment that the replica is of is that of the digest
  pub usable-for : IsUsableReplica o h → IsUsableFor o.digest id h
  usable-for may = subst UsableAs is may

  pub usable-as : IsUsableFor o.digest id h → IsUsableReplica o h
  usable-as may = subst UsableAs (sym is) may

-- If the preferred replica of a segment may not be used, none may.
pub none-usable : (hs : List Holding) (m : ℕ) (o : Opening) (id : ℕ) (h : Holding) → IsPreferred (IsOf m id) hs h
    → (IsUsableReplica o h → ⊥) → (g : Holding) → IsAmong g hs → IsReplicaOf m o id g → ⊥
none-usable hs m o id h best not g among is =
    ⊎_elim
    (λ a. not (usable-preferred h.is_open (length h.bytes) h.backup g.is_open (length g.bytes) g.backup
    (listed_len h.segment o.digest) (best.earlier g a (is.0.0, is.1)) may))
    (λ r. ⊎_elim (λ e. not (subst (IsUsableReplica o) (sym e) is.0.1))
    (λ a. not (usable-kept h.is_open (length h.bytes) h.backup g.is_open (length g.bytes) g.backup
    (listed_len h.segment o.digest) (best.later g a (is.0.0, is.1)) may)) r)
    (among-append g best.before (h ∷ best.after) (subst (IsAmong g) best.place among))
  where
    may : Usable g.is_open (length g.bytes) (listed_len h.segment o.digest)
    may =
        subst (λ (s : ℕ). Usable g.is_open (length g.bytes) (listed_len s o.digest)) (is.1 ∙ sym best.candidate.1)
        is.0.1

-- ---- one more replica

module _ (P : Holding → Type 0) where
  -- one that is no candidate changes nothing
  pub best-skip : (hs : List Holding) (h : Holding) (o : Option Holding) → (P h → ⊥) → IsBest P hs o
      → IsBest P (hs ++ h ∷ []) o
  best-skip hs h None not best =
      λ g i p. ⊎_elim (λ a. best g a p) (λ b. ⊎_elim (λ e. not (subst P (sym e) p)) (λ n. n) b)
      (among-append g hs (h ∷ []) i)
  best-skip hs h (Some b) not best = record {
    before = best.before;
    after = best.after ++ h ∷ [];
    place = ap (λ (l : List Holding). l ++ h ∷ []) best.place ∙ append_assoc best.before (b ∷ best.after) (h ∷ []);
    candidate = best.candidate;
    earlier = best.earlier;
    later =
        λ g i p. ⊎_elim (λ a. best.later g a p) (λ r. ⊎_elim (λ e. absurd (not (subst P (sym e) p))) (λ n. absurd n) r)
        (among-append g best.after (h ∷ []) i);
  }

  -- a candidate that isn't preferred changes nothing
  kept : (hs : List Holding) (h b : Holding) → is_preferred h b ≡ false → IsPreferred P hs b
      → IsPreferred P (hs ++ h ∷ []) b
  kept hs h b not best = record {
    before = best.before;
    after = best.after ++ h ∷ [];
    place = ap (λ (l : List Holding). l ++ h ∷ []) best.place ∙ append_assoc best.before (b ∷ best.after) (h ∷ []);
    candidate = best.candidate;
    earlier = best.earlier;
    later =
        λ g i p. ⊎_elim (λ a. best.later g a p) (λ r. ⊎_elim (λ e. ap (λ x. is_preferred x b) (sym e) ∙ not)
        (λ n. absurd n) r) (among-append g best.after (h ∷ []) i);
  }

  -- one that is preferred is preferred to all before it
  replaced : (hs : List Holding) (h b : Holding) → P h → is_preferred h b ≡ true → IsPreferred P hs b
      → IsPreferred P (hs ++ h ∷ []) h
  replaced hs h b p is best = record {
    before = hs;
    after = [];
    place = refl;
    candidate = p;
    earlier = λ g i q.
        ⊎_elim
        (λ a. preferred-weak h b g is (preferred-asym b g (best.earlier g a q)))
        (λ r. ⊎_elim (λ e. subst (λ x. is_preferred h x ≡ true) e is) (λ a. preferred-weak h b g is (best.later g a q))
        r)
        (among-append g best.before (b ∷ best.after) (subst (IsAmong g) best.place i));
    later = λ g i q. absurd i;
  }

  pub best-more : (hs : List Holding) (h : Holding) (o : Option Holding) → P h → IsBest P hs o
      → IsBest P (hs ++ h ∷ []) (Some (better o h))
  best-more hs h None p best = record {
    before = hs;
    after = [];
    place = refl;
    candidate = p;
    earlier = λ g i q. absurd (best g i q);
    later = λ g i q. absurd i;
  }
  best-more hs h (Some b) p best = chosen (is_preferred h b) refl
    where
      chosen : (t : Bool) → is_preferred h b ≡ t → IsPreferred P (hs ++ h ∷ []) (cond t h b)
      chosen true is = replaced hs h b p is best
      chosen false is = kept hs h b is best

-- ---- lists that a loop goes over

-- an element joins those before it
pub take-more : {X : Type 0} (xs : List X) (i : ℕ) (x : X) → i < length xs → x ≡ get_or xs i x
    → take (i + 1) xs ≡ take i xs ++ x ∷ []
take-more xs i x lt is = (take_at_read xs i x lt).1 ∙ ap (λ y. take i xs ++ y ∷ []) (sym is)

-- ---- the best of each segment

same_key : (s q : ℕ) → q ≡ s → is_at (nat_cmp s) q ≡ true
same_key s q e = grind (arith, nat_tests)

other_key : (s q : ℕ) → (q ≡ s → ⊥) → is_at (nat_cmp s) q ≡ false
other_key s q n = grind (arith, nat_tests)

module _ (hs : List Holding) (h : Holding) (m : ℕ) where
  abbrev Is : ℕ → Holding → Type 0
  Is id = IsOf m id

  -- the best of each segment
  abbrev Bests : List Holding → (ℕ → Option (Bor Holding)) → Type 0
  Bests gs look = (id : ℕ) → IsBest (Is id) gs (option_copied (look id))

  -- one more replica, put at its segment
  pub bests-more : (old new : ℕ → Option (Bor Holding)) (v : Bor Holding) → h.master ≡ m
      → ((q : ℕ) → new q ≡ cond (is_at (nat_cmp h.segment) q) (Some v) (old q))
      → v.now ≡ better (option_copied (old h.segment)) h → Bests hs old → Bests (hs ++ h ∷ []) new
  bests-more old new v master put is best id = elim (cases_eq id h.segment)
      as (λ _. IsBest (Is id) (hs ++ h ∷ []) (option_copied (new id))) [
        | inl e ↦ same e
        | inr n ↦ other n
      ]
    where
      same : id ≡ h.segment → IsBest (Is id) (hs ++ h ∷ []) (option_copied (new id))
      same e =
          let at : new id ≡ Some v = put id ∙ ap (λ t. cond t (Some v) (old id)) (same_key h.segment id e) in
          let now : option_copied (new id) ≡ Some (better (option_copied (old id)) h) =
          ap option_copied at ∙ ap Some is ∙ ap (λ k. Some (better (option_copied (old k)) h)) (sym e) in
          subst (IsBest (Is id) (hs ++ h ∷ [])) (sym now)
          (best-more (Is id) hs h (option_copied (old id)) (master, sym e) (best id))

      other : (id ≡ h.segment → ⊥) → IsBest (Is id) (hs ++ h ∷ []) (option_copied (new id))
      other n =
          let at : new id ≡ old id = put id ∙ ap (λ t. cond t (Some v) (old id)) (other_key h.segment id n) in
          subst (λ x. IsBest (Is id) (hs ++ h ∷ []) (option_copied x)) (sym at)
          (best-skip (Is id) hs h (option_copied (old id)) (λ p. n (sym p.1)) (best id))

  -- a replica of another master changes nothing
  pub bests-skip : (old : ℕ → Option (Bor Holding)) → (h.master ≡ m → ⊥) → Bests hs old → Bests (hs ++ h ∷ []) old
  bests-skip old n best id = best-skip (Is id) hs h (option_copied (old id)) (λ p. n p.0) (best id)
