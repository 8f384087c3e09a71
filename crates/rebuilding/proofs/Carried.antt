-- What calls promised, carried on, and numbers in an order.
use Rattle.std.proofs.Common.{◌≡◌, ℕ, ◌<◌, List, length, subst, sym}
use Rattle.std.specs.Prelude.{slice_index, Result, Ok, Err, IfOk, IfErr, OnOk}
use Rattle.std.proofs.lemmas.List.{get_or_default}
use Rattle.entry.specs.declared.entry.Entry.{Entry}
use Rattle.entry.specs.Bag.{IsAmong}
use Rattle.entry.proofs.BagLemmas.{among_at}
use Rattle.claims.specs.Claims.{Claimed, claims_of}
use Rattle.rebuilding.specs.Rebuilds.{NamesEach}
use Rattle.claims.specs.Settled.{AreOf}

-- ---- what calls promised, carried on

module _ {T E : Type 0} where
  pub if_ok : (P Q : T → Type 0) (r : Result T E) → ((x : T) → P x → Q x) → IfOk r P → IfOk r Q
  if_ok P Q (Ok x) f h = f x h
  if_ok P Q (Err e) f h = h

  pub if_err : (P Q : E → Type 0) (r : Result T E) → ((e : E) → P e → Q e) → IfErr r P → IfErr r Q
  if_err P Q (Ok x) f h = h
  if_err P Q (Err e) f h = f e h

  pub on_ok : (P Q : Type 0) (r : Result T E) → (P → Q) → OnOk r P → OnOk r Q
  on_ok P Q (Ok x) f h = f h
  on_ok P Q (Err e) f h = h

  pub ok_more : (r : Result T E) (P Q : T → Type 0) → ((x : T) → P x → Q x) → IfOk r P → IfOk r Q
  ok_more r P Q f h = if_ok P Q r f h

  pub ok_anyway : (P : Type 0) (r : Result T E) → P → OnOk r P
  ok_anyway P (Ok x) h = h
  ok_anyway P (Err e) h = tt

pub claims-of : (es : List Entry) (cs : List Claimed) → cs ≡ claims_of es → AreOf es cs
claims-of es cs is c = (subst (IsAmong c) is, subst (IsAmong c) (sym is))

-- ---- numbers in an order

pub number_inside : (count k : ℕ) (order : List ℕ) → NamesEach count order → k < length order
    → slice_index order k < count
number_inside count k order names low =
    names.below (slice_index order k) (among_at order k (slice_index order k) low
    (get_or_default order k 0 (slice_index order k) low))
