-- Ids that a core has are below the first unused one.
use Rattle.std.proofs.Common.{◌≡◌, ◌⊎◌, inl, inr, ℕ, ◌<◌, Bool, true, false, ◌==◌, List, [], ◌∷◌, refl, sym, subst}
use Rattle.std.proofs.Common.{arith}
use Rattle.std.specs.Prelude.{Option, Some, None, IfSome, unwrap_or, nat_lt, if◌then◌else◌}
use Rattle.std.proofs.lemmas.Bool.{eqb-true}
use Rattle.log_memory.proofs.log_laws.CommitDigest.{all_out}
use Rattle.cleaner.specs.declared.pass.Pass.{Pass as OpenPass}
use Rattle.cleaner.specs.Passes.{survivor_ids}
use Rattle.entry.specs.declared.key.Key.{Key}
use Rattle.entry.specs.declared.entry.Entry.{Entry}
use Rattle.entry.specs.Bag.{IsAmong}
use Rattle.entry.specs.Meaning.{object_at}
use Rattle.entry.proofs.BagLemmas.{among_right}
use Rattle.entry.proofs.ListLemmas.{all_among}
use Rattle.places.specs.declared.place.Place.{Place}
use Rattle.images.specs.Image.{Image}
use Rattle.images.specs.Sorted.{segment_of}
use Rattle.log_head.specs.declared.head.Roll.{Roll}
use Rattle.log_head.specs.Log.{head_of}
use Rattle.log_head.specs.log_laws.Ids.{inserted, all_inserted}
use Rattle.master_state.specs.Budget.{survivors_of}
use Rattle.master_state.specs.Data.{MasterData}
use Rattle.master_state.specs.Images.{new_image_or}
use Rattle.master_state.specs.Index.{segment_at}
use Rattle.master_state.specs.Invariant.{IsRollOf, IsOpenPass, IsCore}
use Rattle.master_state.specs.Log.{find, images_of, state_now}
use Rattle.master_state.proofs.Imaging.{ids_in}
use Rattle.master_state.proofs.Indexing.{found_lies}

-- ---- ids of a list

pub among_inserted : (s z : ℕ) (ids : List ℕ) → IsAmong z (inserted s ids) → (s ≡ z) ⊎ IsAmong z ids
among_inserted s z [] (inl same) = inl same
among_inserted s z [] (inr m) = inr m
among_inserted s z (y ∷ ids) m = go (nat_lt s y) (among_inserted s z ids) m where
  go : (t : Bool) → (IsAmong z (inserted s ids) → (s ≡ z) ⊎ IsAmong z ids)
      → IsAmong z (if t then s ∷ y ∷ ids else y ∷ inserted s ids) → (s ≡ z) ⊎ IsAmong z (y ∷ ids)
  go true later m = m
  go false later (inl same) = inr (inl same)
  go false later (inr m) = elim (later m) [ inl own ↦ inl own | inr old ↦ inr (inr old) ]

-- ---- ids of a core

closed_among : (cs : List Image) (s : ℕ) (e : Entry) → IsAmong e (unwrap_or (segment_of cs s) [])
    → IsAmong s (ids_in cs)
closed_among [] s e m = m
closed_among (c ∷ cs) s e m = go (c.id == s) refl (closed_among cs s e) m where
  go : (t : Bool) → (c.id == s) ≡ t → (IsAmong e (unwrap_or (segment_of cs s) []) → IsAmong s (ids_in cs))
      → IsAmong e (unwrap_or (segment_of (c ∷ cs) s) []) → IsAmong s (c.id ∷ ids_in cs)
  go true here later m = inl (eqb-true c.id s here)
  go false away later m = inr (later (rw away at m))

module _ (d : MasterData) (core : IsCore d) where
  older_below : (s : ℕ) → IsAmong s (head_of d.head).start.others → s < d.next
  older_below s older =
      let below = all_among (λ (z : ℕ). z < (head_of d.head).start.id)
      (head_of d.head).start.others s core.below older in
      let own = core.image.id in
      let used = core.used in
      omega arith

  -- the closed segments and the survivors
  pub closed_below : (s : ℕ) → IsAmong s (ids_in d.closed) → s < d.next
  closed_below s closed = go d.pass core.pass (subst (λ (ids : List ℕ). IsAmong s ids) core.closed closed) where
    go : (o : Option OpenPass) → IfSome o (IsOpenPass d) → IsAmong s
        (all_inserted (survivors_of o) (head_of d.head).start.others) → s < d.next
    go None is m = older_below s m
    go (Some p) is m =
        elim (all_out (survivor_ids p.survivors) (head_of d.head).start.others s m) [
          | inl older ↦ older_below s older
          | inr own ↦ (is.survivors.each s own).used
        ]

  -- each segment that has an image
  pub imaged_below : (s : ℕ) (e : Entry) → IsAmong e (images_of d s) → s < d.next
  imaged_below s e m = by_head (d.head.id == s) refl m where
    by_roll : (o : Option Roll) → IfSome o (λ (r : Roll). r.id < d.next)
        → IsAmong e (unwrap_or (new_image_or o s (segment_of d.closed s)) []) → s < d.next
    by_roll None used m = closed_below s (closed_among d.closed s e m)
    by_roll (Some r) used m = go (r.id == s) refl m where
      go : (t : Bool) → (r.id == s) ≡ t → IsAmong e (unwrap_or
          (new_image_or (Some r) s (segment_of d.closed s)) []) → s < d.next
      go true here m = subst (λ (z : ℕ). z < d.next) (eqb-true r.id s here) used
      go false away m = closed_below s (closed_among d.closed s e (rw away at m))

    used_of : (o : Option Roll) → IfSome o (IsRollOf d) → IfSome o (λ (r : Roll). r.id < d.next)
    used_of None is = tt
    used_of (Some r) is = is.used

    by_head : (t : Bool) → (d.head.id == s) ≡ t → IsAmong e (images_of d s) → s < d.next
    by_head true here m = subst (λ (z : ℕ). z < d.next) (eqb-true d.head.id s here) core.used
    by_head false away m = by_roll d.head.roll (used_of d.head.roll core.roll) (rw away at m)

  -- the segment in which the index finds a key
  pub dead_below : (k : Key) → segment_at (find d k) < d.next
  dead_below k = go (find d k) refl where
    go : (o : Option Place) → find d k ≡ o → segment_at o < d.next
    go None is = (let used = core.used in omega arith)
    go (Some q) is =
        let there = found_lies (images_of d) k (find d k) ((state_now d).contents k) (core.index.lies k) q is in
        let lies = there.2 in
        imaged_below q.segment (object_at k there.0)
        (subst (λ (image : List Entry). IsAmong (object_at k there.0) image) (sym lies.split)
        (among_right (object_at k there.0) lies.before (object_at k there.0 ∷ lies.after) (inl refl)))
