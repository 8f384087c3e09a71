-- Whether an index names a place, and an index with one key changed.
use Rattle.std.proofs.Common.{◌≡◌, ℕ, inl, inr, Bool, true, false, List, refl}
use Rattle.std.specs.Prelude.{Option, Some, None, ◌==◌, ◌&&◌}
use Rattle.std.proofs.lemmas.Bool.Decides.{Decides-eqb}
use Rattle.entry.specs.declared.key.Key.{Key}
use Rattle.entry.specs.Bag.{IsAmong}
use Rattle.entry.proofs.KeyOrder.{key_eq_tells}
use Rattle.log_laws.specs.Ids.{has}
use Rattle.log_laws.specs.Compaction.{is_place}
use Rattle.log_laws.specs.Memory.{Place, Index}
use Rattle.log_laws.specs.ImageSteps.{with_place}
use Rattle.log_laws.proofs.KeptEntries.{has_is}
use Rattle.log_laws.proofs.Premises.{IsSet}

pub place_set : (index : Index) (k : Key) (x : Option Place) → IsSet index (with_place index k x) k x
place_set index k x = record {
  here = elim (key_eq_tells k k) as (λ _. with_place index k x k ≡ x) [
    | inl t ↦ (let e = t.0 in rw e refl)
    | inr f ↦ absurd (f.1 refl)
  ];
  there = λ q other. elim (key_eq_tells q k) as (λ _. with_place index k x q ≡ index q) [
    | inl t ↦ absurd (other t.1)
    | inr f ↦ (let e = f.0 in rw e refl)
  ];
}

pub place_true : (o : Option Place) (p : Place) → is_place o p.segment p.position ≡ true → o ≡ Some p
place_true None p e = absurd (cc)
place_true (Some q) p e = told (q.segment == p.segment) (q.position == p.position) refl refl e
  where
    told : (a b : Bool) → (q.segment == p.segment) ≡ a → (q.position == p.position) ≡ b → (a && b) ≡ true
        → Some q ≡ Some p
    told true true a b e =
        let segment = (Decides-eqb q.segment p.segment).0 a in
        let position = (Decides-eqb q.position p.position).0 b in
        λ i. Some (record { segment = segment i; position = position i })
    told true false a b e = absurd (cc)
    told false c a b e = absurd (cc)

pub place_false : (o : Option Place) (p : Place) → is_place o p.segment p.position ≡ false → o ≡ Some p → ⊥
place_false o p e same =
    let a : (p.segment == p.segment) ≡ true = (Decides-eqb p.segment p.segment).1 refl in
    let b : (p.position == p.position) ≡ true = (Decides-eqb p.position p.position).1 refl in
    let t : is_place o p.segment p.position ≡ true = rw (same, a, b) refl in cc

pub has_false : (ids : List ℕ) (s : ℕ) → has ids s ≡ false → IsAmong s ids → ⊥
has_false ids s e m = let t = has_is ids s m in cc
