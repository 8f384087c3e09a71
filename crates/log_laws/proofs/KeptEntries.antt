-- Compaction by the rule of what is kept, and the places of a pass.
use Rattle.std.proofs.Common.{◌≡◌, ℕ, zero, suc, ◌+◌, ◌⊎◌, inl, inr, Bool, true, false, cond, List, [], ◌∷◌, refl, sym}
use Rattle.std.proofs.Common.{ap, subst, ◌∙◌, arith}
use Rattle.std.specs.Prelude.{Some, ◌==◌, ◌||◌}
use Rattle.std.proofs.lemmas.Bool.{or_right, ne_eqb}
use Rattle.std.proofs.lemmas.Bool.Decides.{Decides-eqb}
use Rattle.entry.specs.declared.key.Key.{Key}
use Rattle.entry.specs.declared.entry.Tombstone.{Tombstone as TombstoneValue}
use Rattle.entry.specs.declared.entry.Entry.{Entry}
use Rattle.entry.specs.declared.entry.Entry.TheVariants.{Tombstone}
use Rattle.entry.specs.Bag.{IsAmong}
use Rattle.entry.specs.Meaning.{object_at}
use Rattle.entry.proofs.BagLemmas.{among_left, among_right}
use Rattle.log_laws.specs.Ids.{has}
use Rattle.log_laws.specs.Compaction.{is_place, kept, kept_from, kept_before, moved_place, moved_index}
use Rattle.log_laws.specs.Compaction.{places_from, places}
use Rattle.log_laws.specs.Memory.{Place, Index, Images, IsAt, StandsAt}
use Rattle.log_laws.proofs.ImageLists.{equal_true}
use Rattle.log_laws.proofs.Premises.{IsCompacted}

-- ---- ids

pub has_is : (ids : List ℕ) (s : ℕ) → IsAmong s ids → has ids s ≡ true
has_is [] s m = absurd m
has_is (z ∷ ids) s (inl same) = let e = equal_true z s same in rw e refl
has_is (z ∷ ids) s (inr m) = or_right (z == s) (has ids s) (has_is ids s m)

pub is_has : (ids : List ℕ) (s : ℕ) → has ids s ≡ true → IsAmong s ids
is_has [] s e = absurd (cc)
is_has (z ∷ ids) s e = told (is_has ids s) (z == s) refl e
  where
    told : (has ids s ≡ true → IsAmong s ids) → (t : Bool) → (z == s) ≡ t → (t || has ids s) ≡ true
        → (z ≡ s) ⊎ IsAmong s ids
    told later true same e = inl ((Decides-eqb z s).0 same)
    told later false other e = inr (later e)

-- ---- a first entry that is kept or not

module _ (f : Entry) (r : List Entry) where
  cond_out : (b : Bool) (e : Entry) → IsAmong e (cond b (f ∷ r) r) → (f ≡ e) ⊎ IsAmong e r
  cond_out true e m = m
  cond_out false e m = inr m

  cond_here : (b : Bool) (e : Entry) → b ≡ true → f ≡ e → IsAmong e (cond b (f ∷ r) r)
  cond_here true e keeps same = inl same
  cond_here false e keeps same = absurd (cc)

  cond_later : (b : Bool) (e : Entry) → IsAmong e r → IsAmong e (cond b (f ∷ r) r)
  cond_later true e m = inr m
  cond_later false e m = m

  cond_at : (b : Bool) (e : Entry) → b ≡ true → f ≡ e → IsAt (cond b (f ∷ r) r) 0 e
  cond_at true e keeps same = same
  cond_at false e keeps same = absurd (cc)

  cond_at_later : (b : Bool) (n : ℕ) (e : Entry) → IsAt r n e → IsAt (cond b (f ∷ r) r) (cond b (suc n) n) e
  cond_at_later true n e m = m
  cond_at_later false n e m = m

-- ---- the kept entries

module _ (ids : List ℕ) (index : Index) (s : ℕ) where
  -- what is kept from a place on
  abbrev From : ℕ → List Entry → List Entry
  From i es = kept_from ids index s i es

  pub kept_out : (i : ℕ) (es : List Entry) (e : Entry) → IsAmong e (kept_from ids index s i es) → IsAmong e es
  kept_out i [] e m = m
  kept_out i (f ∷ es) e m = elim (cond_out f (From (suc i) es) (kept ids index s i f) e m) [
    | inl same ↦ inl same
    | inr later ↦ inr (kept_out (suc i) es e later)
  ]

  kept_grave : (i : ℕ) (es : List Entry) (t : TombstoneValue) → has ids t.segment ≡ true → IsAmong (Tombstone t) es
      → IsAmong (Tombstone t) (From i es)
  kept_grave i [] t named m = m
  kept_grave i (f ∷ es) t named (inl same) =
      cond_here f (From (suc i) es) (kept ids index s i f) (Tombstone t) (ap (kept ids index s i) same ∙ named) same
  kept_grave i (f ∷ es) t named (inr m) =
      cond_later f (From (suc i) es) (kept ids index s i f) (Tombstone t) (kept_grave (suc i) es t named m)

  kept_at : (i : ℕ) (es : List Entry) (n p : ℕ) (e : Entry) → p ≡ i + n → kept ids index s p e ≡ true → IsAt es n e
      → IsAt (From i es) (kept_before ids index s i es n) e
  kept_at i [] n p e at is m = absurd m
  kept_at i (f ∷ es) zero p e at is m =
      let here : p ≡ i = omega arith in
      let same : kept ids index s i f ≡ true =
      ap (kept ids index s i) m ∙ ap (λ (q : ℕ). kept ids index s q e) (sym here) ∙ is in
      cond_at f (From (suc i) es) (kept ids index s i f) e same m
  kept_at i (f ∷ es) (suc n) p e at is m =
      let next : p ≡ suc i + n = omega arith in
      cond_at_later f (From (suc i) es) (kept ids index s i f) (kept_before ids index s (suc i) es n) e
      (kept_at (suc i) es n p e next is m)

module _ (ids : List ℕ) (image : Images) (index : Index) (s : ℕ) where
  named_place : (k : Key) (p : Place) → index k ≡ Some p → p.segment ≡ s → is_place (index k) s p.position ≡ true
  named_place k p i same =
      let a = equal_true p.segment s same in let b = equal_true p.position p.position refl in rw (i, a, b) refl

  moved_here : (k : Key) (p : Place) → index k ≡ Some p → p.segment ≡ s
      → moved_index ids image index s k
      ≡ Some (record { segment = s; position = kept_before ids index s 0 (image s) p.position })
  moved_here k p i same =
      let a = equal_true p.segment s same in ap (moved_place ids index s (image s)) i ∙ (rw a refl)

  moved_there : (k : Key) (p : Place) → index k ≡ Some p → (p.segment ≡ s → ⊥)
      → moved_index ids image index s k ≡ Some p
  moved_there k p i other =
      let a = ne_eqb p.segment s other in ap (moved_place ids index s (image s)) i ∙ (rw a refl)

  pub kept_is : IsCompacted ids image index (moved_index ids image index s) s (kept_from ids index s 0 (image s))
  kept_is = record {
    fewer = λ e m. kept_out ids index s 0 (image s) e m;
    tombstones = λ t m named. kept_grave ids index s 0 (image s) t (has_is ids t.segment named) m;
    objects = λ k x p i same at. (
      kept_before ids index s 0 (image s) p.position,
      moved_here k p i same,
      kept_at ids index s 0 (image s) p.position p.position (object_at k x) (omega arith) (named_place k p i same) at,
    );
    elsewhere = moved_there;
    nowhere = λ k i. ap (moved_place ids index s (image s)) i;
  }

-- ---- the places of a pass

-- every entry of a pass has its place before the cursor at the beginning
places_at : (s i : ℕ) (es : List Entry) (n p : ℕ) (e : Entry) → p ≡ i + n → IsAt es n e
    → IsAmong (record { segment = s; position = p }) (places_from s i es)
places_at s i [] n p e at m = absurd m
places_at s i (f ∷ es) zero p e at m =
    let here : i ≡ p = omega arith in inl (ap (λ (q : ℕ). record { segment = s; position = q }) here)
places_at s i (f ∷ es) (suc n) p e at m =
    let next : p ≡ suc i + n = omega arith in inr (places_at s (suc i) es n p e next m)

pub places_all : (ids : List ℕ) (image : Images) (p : Place) (e : Entry) → IsAmong p.segment ids
    → StandsAt image p e → IsAmong p (places ids image)
places_all [] image p e here at = absurd here
places_all (z ∷ ids) image p e (inl same) at =
    among_left p (places_from z 0 (image z)) (places ids image)
    (subst (λ (y : ℕ). IsAmong p (places_from y 0 (image y))) (sym same)
    (places_at p.segment 0 (image p.segment) p.position p.position e (omega arith) at))
places_all (z ∷ ids) image p e (inr later) at =
    among_right p (places_from z 0 (image z)) (places ids image) (places_all ids image p e later at)
