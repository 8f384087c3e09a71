-- Heads: where units end, and what replicas have taken.
use Rattle.std.proofs.Common.{◌≡◌, ℕ, zero, suc, ◌+◌, ◌<◌, ◌≤◌, true, false, List, [], ◌∷◌, ◌++◌, length, take}
use Rattle.std.proofs.Common.{get_or, Bool, Some, None, refl, subst}
use Rattle.std.proofs.Common.{sym, ap, ◌∙◌, add-one, arith}
use Rattle.std.specs.Prelude.{slice_get, slice_set, nat_lt, Option, IfSome, IfNone, is_some}
use Rattle.std.specs.Bool.{then_some}
use Rattle.std.specs.Option.{option_map}
use Rattle.std.specs.List.{AllByRecursion}
use Rattle.std.proofs.Math.Seq.{take-append_seam, take-suc}
use Rattle.std.proofs.lemmas.Bool.Decides.{nat_tests}
use Rattle.std.proofs.lemmas.List.{length-append, length-take-le, take-append-le}
use Rattle.std.proofs.lemmas.Option.{same_Some, slice_get_past, slice_get_within}
use Rattle.entry.proofs.ListLemmas.{all_append, slice_get_last, slice_get_left}
use Rattle.entry.specs.declared.entry.Entry.{Entry}
use Rattle.entry.specs.Text.{text_of}
use Rattle.segment.proofs.RowLemmas.{text_of-append}
use Rattle.log_head.specs.declared.head.UnitEnd.{UnitEnd}
use Rattle.log_laws.specs.Heads.{fewest}
use Rattle.log_laws.proofs.Counts.{fewest_below}
use Rattle.log_head.specs.Head.{HeadValue, end_of, EndAt, IsLagging, everywhere, is_up_to, lacks_to, record_at}

pub EndAt_le : (us : List UnitEnd) (from len : ℕ) → EndAt from us len → from ≤ len
EndAt_le [] from len e = omega arith
EndAt_le (u ∷ us) from len e = let later = EndAt_le us u.end len e.1 in let here = e.0 in omega arith

pub end_of_le : (us : List UnitEnd) (from len n : ℕ) → EndAt from us len → end_of from us n ≤ len
end_of_le us from len zero e = EndAt_le us from len e
end_of_le [] from len (suc n) e = omega arith
end_of_le (u ∷ us) from len (suc n) e = end_of_le us u.end len n e.1

-- the last unit ends where the image ends
pub end_of_all : (us : List UnitEnd) (from len : ℕ) → EndAt from us len → end_of from us (length us) ≡ len
end_of_all [] from len e = e
end_of_all (u ∷ us) from len e = end_of_all us u.end len e.1

-- where units end, by the last of them
pub end_of_last : (us : List UnitEnd) (from last : ℕ) (d : UnitEnd) → last < length us
    → end_of from us (last + 1) ≡ (get_or us last d).end
end_of_last us from last d lt = rw add-one (go us from last lt) where
  go : (us : List UnitEnd) (from n : ℕ) → n < length us → end_of from us (suc n) ≡ (get_or us n d).end
  go [] from n lt = absurd (omega arith)
  go (u ∷ us) from zero lt = refl
  go (u ∷ us) from (suc n) lt = go us u.end n (omega arith)

pub unit_end_le : (us : List UnitEnd) (from len n : ℕ) (d : UnitEnd) → EndAt from us len → n < length us
    → (get_or us n d).end ≤ len
unit_end_le us from len n d e lt = rw (← end_of_last us from n d lt) (end_of_le us from len (n + 1) e)

pub EndAt_push : (us : List UnitEnd) (from len : ℕ) (u : UnitEnd) → EndAt from us len → len ≤ u.end
    → EndAt from (us ++ u ∷ []) u.end
EndAt_push [] from len u e le = (omega (arith, e), refl)
EndAt_push (v ∷ us) from len u e le = (e.0, EndAt_push us v.end len u e.1 le)

pub all_get : (P : ℕ → Type 0) (ns : List ℕ) (j d : ℕ) → AllByRecursion P ns → j < length ns → P (get_or ns j d)
all_get P [] j d all lt = absurd (omega arith)
all_get P (n ∷ ns) zero d all lt = all.0
all_get P (n ∷ ns) (suc j) d all lt = all_get P ns j d all.1 (omega arith)

pub all_push : (P : ℕ → Type 0) (ns : List ℕ) (n : ℕ) → AllByRecursion P ns → P n → AllByRecursion P (ns ++ n ∷ [])
all_push P [] n all p = (p, tt)
all_push P (m ∷ ns) n all p = (all.0, all_push P ns n all.1 p)

pub all_set : (P : ℕ → Type 0) (ns : List ℕ) (j n : ℕ) → AllByRecursion P ns → P n → AllByRecursion P (slice_set ns j n)
all_set P [] j n all p = tt
all_set P (m ∷ ns) zero n all p = (p, all.1)
all_set P (m ∷ ns) (suc j) n all p = (all.0, all_set P ns j n all.1 p)

pub all_more : (ns : List ℕ) (a b : ℕ) → a ≤ b → AllByRecursion (λ n. n ≤ a) ns → AllByRecursion (λ n. n ≤ b) ns
all_more [] a b le all = tt
all_more (n ∷ ns) a b le all = let here = all.0 in (omega arith, all_more ns a b le all.1)

pub text_more : (xs ys : List Entry) → length (text_of (xs ++ ys)) ≡ length (text_of xs) + length (text_of ys)
text_more xs ys = rw (text_of-append xs ys, length-append) refl

-- ---- the replica that lags

all_above : (ns : List ℕ) (a b : ℕ) → a ≤ b → AllByRecursion (λ m. b ≤ m) ns → AllByRecursion (λ m. a ≤ m) ns
all_above [] a b le all = tt
all_above (n ∷ ns) a b le all = let here = all.0 in (omega arith, all_above ns a b le all.1)

all_over : (ns : List ℕ) (a b : ℕ) → a < b → AllByRecursion (λ m. b ≤ m) ns → AllByRecursion (λ m. a < m) ns
all_over [] a b lt all = tt
all_over (n ∷ ns) a b lt all = let here = all.0 in (omega arith, all_over ns a b lt all.1)

-- the replica that lags among some, and how many units it has: all, if none lags
pub record Lags (units least : ℕ) (found : Option ℕ) (ns : List ℕ) : Type 0 where
  pub lags : IsLagging units ns found
  pub some : IfSome found (λ j. slice_get ns j ≡ Some least)
  pub none : IfNone found (least ≡ units)
  pub most : least ≤ units
  pub all : AllByRecursion (λ m. least ≤ m) ns

pub lags_new : (units least n : ℕ) (found : Option ℕ) (ns : List ℕ) → Lags units least found ns → n < least
    → Lags units n (Some (length ns)) (ns ++ n ∷ [])
lags_new units least n found ns before lt =
    let all = all_append (λ m. n ≤ m) ns (n ∷ []) (all_above ns n least (omega (arith, lt)) before.all)
    (omega arith, tt) in
    record {
      lags = (
        n,
        slice_get_last ns n,
        omega (arith, lt, before.most),
        all,
        subst (AllByRecursion (λ m. n < m)) (sym (take-append_seam ns (n ∷ []))) (all_over ns n least lt before.all),
      );
      some = slice_get_last ns n;
      none = tt;
      most = omega (arith, lt, before.most);
      all = all;
    }

pub lags_on : (units least n : ℕ) (found : Option ℕ) (ns : List ℕ) → Lags units least found ns → least ≤ n
    → Lags units least found (ns ++ n ∷ [])
lags_on units least n None ns before le =
    let all = all_append (λ m. least ≤ m) ns (n ∷ []) before.all (le, tt) in
    record {
      lags = subst (λ (u : ℕ). AllByRecursion (λ m. u ≤ m) (ns ++ n ∷ [])) before.none all;
      some = tt;
      none = before.none;
      most = before.most;
      all = all;
    }
lags_on units least n (Some j) ns before le =
    let is = before.lags in
    let within = slice_get_within ns j is.0 is.1 in
    let same : is.0 ≡ least = same_Some is.0 least (sym is.1 ∙ before.some) in
    record {
      lags = (
        is.0,
        slice_get_left ns (n ∷ []) j is.0 is.1,
        is.2,
        all_append (λ m. is.0 ≤ m) ns (n ∷ []) is.3 (omega (arith, same, le), tt),
        subst (AllByRecursion (λ m. is.0 < m)) (sym (take-append-le j ns (n ∷ []) (omega (arith, within)))) is.4,
      );
      some = slice_get_left ns (n ∷ []) j least before.some;
      none = tt;
      most = before.most;
      all = all_append (λ m. least ≤ m) ns (n ∷ []) before.all (le, tt);
    }

module _ (units least : ℕ) (found : Option ℕ) (ns : List ℕ) (i : ℕ) (below : i < length ns)
    (before : Lags units least found (take i ns)) where
  next : take i ns ++ get_or ns i 0 ∷ [] ≡ take (i + 1) ns
  next = sym (take-suc ns i 0 below) ∙ ap (λ (n : ℕ). take n ns) (sym (add-one i))

  pub lags_here : get_or ns i 0 < least → Lags units (get_or ns i 0) (Some i) (take (i + 1) ns)
  lags_here lt =
      let there = lags_new units least (get_or ns i 0) found (take i ns) before lt in
      let place : length (take i ns) ≡ i = length-take-le i ns (omega (arith, below)) in
      subst (λ (xs : List ℕ). Lags units (get_or ns i 0) (Some i) xs) next
      (subst (λ (j : ℕ). Lags units (get_or ns i 0) (Some j) (take i ns ++ get_or ns i 0 ∷ [])) place there)

  pub lags_before : least ≤ get_or ns i 0 → Lags units least found (take (i + 1) ns)
  lags_before le = subst (λ (xs : List ℕ). Lags units least found xs) next
      (lags_on units least (get_or ns i 0) found (take i ns) before le)

pub fewest_all : (units : ℕ) (ns : List ℕ) → AllByRecursion (λ m. units ≤ m) ns → fewest units ns ≡ units
fewest_all units [] all = refl
fewest_all units (n ∷ ns) all = let here = all.0 in let later = fewest_all units ns all.1 in omega arith

-- none of them has fewer than these, nor than all
fewest_above : (units n : ℕ) (ns : List ℕ) → n ≤ units → AllByRecursion (λ m. n ≤ m) ns → n ≤ fewest units ns
fewest_above units n [] le all = le
fewest_above units n (m ∷ ns) le all = let here = all.0 in let later = fewest_above units n ns le all.1 in omega arith

pub fewest_at : (units n j : ℕ) (ns : List ℕ) → slice_get ns j ≡ Some n → n < units → AllByRecursion (λ m. n ≤ m) ns
    → fewest units ns ≡ n
fewest_at units n j ns e lt all =
    let low = fewest_above units n ns (omega arith) all in
    let high = fewest_below units n j ns e in
    omega arith

-- ---- what every replica has

-- whether each replica was opened
module _ (h : HeadValue) where
  pub everywhere_closed : length h.taken < h.replicas → everywhere h ≡ 0
  everywhere_closed lt = let test : nat_lt (length h.taken) h.replicas ≡ true = grind (arith, nat_tests) in rw test refl

  pub everywhere_open : h.replicas ≤ length h.taken → everywhere h ≡ fewest (length h.units) h.taken
  everywhere_open le = let test : nat_lt (length h.taken) h.replicas ≡ false = grind (arith, nat_tests) in rw test refl

  -- no replica lags: each has the units of all records
  pub lacks_none : h.replicas ≤ length h.taken → IsLagging (length h.units) h.taken None → (number : ℕ)
      → lacks_to h number ≡ false
  lacks_none le none number =
      ap (λ (n : ℕ). is_up_to number (record_at h.units n))
      (everywhere_open le ∙ fewest_all (length h.units) h.taken none)
      ∙ ap (λ (o : Option UnitEnd). is_up_to number (option_map (λ (u : UnitEnd). u.number) o))
      (slice_get_past h.units (length h.units) (omega arith))

  -- one lags: it lacks what some replica lacks
  pub lagging_has : h.replicas ≤ length h.taken → (j n : ℕ) → IsLagging (length h.units) h.taken (Some j)
      → slice_get h.taken j ≡ Some n → everywhere h ≡ n
  lagging_has le j n least has =
      let same : n ≡ least.0 = same_Some n least.0 (sym has ∙ least.1) in
      everywhere_open le ∙ fewest_at (length h.units) least.0 j h.taken least.1 least.2 least.3 ∙ sym same

pub is_some_then : {A : Type 0} (b : Bool) (x : A) → is_some (then_some b x) ≡ b
is_some_then true x = refl
is_some_then false x = refl
