-- What is counted of segments stays right as a roll goes on, and when the roll ends.
use Rattle.std.proofs.Common.{◌≡◌, ℕ, Bool, true, false, List, [], ◌∷◌, ◌++◌, refl, sym, ap, subst, ◌∙◌}
use Rattle.std.specs.Prelude.{Option, Some, None, ◌==◌, filter, unwrap_or, if◌then◌else◌}
use Rattle.std.specs.Option.{option_map}
use Rattle.cleaner.specs.declared.pass.Pass.{Pass}
use Rattle.cleaner.specs.Passes.{survivor_ids, ids_in as log_ids}
use Rattle.cleaner.specs.compactor.Kept.{has_id}
use Rattle.entry.specs.declared.entry.Entry.{Entry}
use Rattle.entry.specs.Text.{is_data}
use Rattle.log_head.specs.declared.head.Roll.{Roll}
use Rattle.log_head.specs.Head.{HeadValue}
use Rattle.log_head.specs.Steps.{in_force}
use Rattle.log_head.proofs.Digests.{has_any}
use Rattle.log_head.specs.log_laws.Ids.{has, without}
use Rattle.master_state.specs.Data.{MasterData}
use Rattle.master_state.specs.Images.{images_among, staying}
use Rattle.master_state.specs.Invariant.{IsCore, IsOpenPass, AreTallied}
use Rattle.master_state.specs.Log.{images_of, log_set_ids}
use Rattle.master_state.specs.Steps.{pass_ended, roll_ended}
use Rattle.master_state.proofs.Imaging.{ids_in, head_images, same_roll}
use Rattle.master_state.proofs.LogIds.{open_of}
use Rattle.master_state.proofs.Tallying.{tallied_again, tallied_more}
use Rattle.master_rolls.specs.Ends.{AreLeft}
use Rattle.master_rolls.proofs.Committed.{image_stays}
use Rattle.master_rolls.proofs.Leaving.{staying_ids}
use Rattle.master_rolls.proofs.RollEnds.{old_closed, closed_images, same_set, rolls_of}
use Rattle.master_rolls.proofs.Trimming.{trimmed_ids}
use Rattle.tally.specs.declared.tallies.Tally.{Tally}
use Rattle.tally.specs.Rows.{AreRight, IsCommitted, WithOne, of_nothing}
use Rattle.tally.proofs.Rights.{leave_right}

-- the ids that stay are of those before
fewer_ids : (victims ids top : List ℕ) (s : ℕ) → has_id (without victims ids ++ top) s ≡ true
    → has_id (ids ++ top) s ≡ true
fewer_ids victims [] top s is = is
fewer_ids victims (z ∷ ids) top s is = go (has victims z) refl (z == s) refl (fewer_ids victims ids top s) where
  go : (t : Bool) → has victims z ≡ t → (u : Bool) → (z == s) ≡ u
      → (has_id (without victims ids ++ top) s ≡ true → has_id (ids ++ top) s ≡ true)
      → has_id (z ∷ ids ++ top) s ≡ true
  go t out true here later = rw here refl
  go true out false away later = rw away (later (rw out at is))
  go false out false away later = rw away (later (rw away at (rw out at is)))

module _ (d : MasterData) (core : IsCore d) (r : Roll) (is : d.head.roll ≡ Some r) where
  -- how far the roll is changes nothing
  pub on_tallied : (q : Roll) → q.id ≡ r.id → q.image ≡ r.image → (rows : List Tally) → AreTallied d rows
      → AreTallied (record d { head = record d.head { roll = Some q } }) rows
  on_tallied q id image rows right =
      subst (λ (images : ℕ → List Entry). AreRight (log_ids d.closed d.head.id (Some q.id)) d.index images rows)
      (λ i s. unwrap_or (sym (same_roll d.head d.closed r q is id image s) i) [])
      (subst (λ (ids : List ℕ). AreRight ids d.index (images_of d) rows) same_ids right)
    where
      same_ids : log_set_ids d ≡ log_ids d.closed d.head.id (Some q.id)
      same_ids =
          ap (λ (o : Option Roll). log_ids d.closed d.head.id (option_map (λ (p : Roll). p.id) o)) is
          ∙ ap (λ (n : ℕ). log_ids d.closed d.head.id (Some n)) (sym id)

  -- ---- the last Close

  abbrev g : MasterData
  g = old_closed d core r is

  -- the old head is a closed segment
  stays_tallied : (rows : List Tally) → AreTallied d rows → AreTallied (old_closed d core r is) rows
  stays_tallied rows right =
      tallied_again d g rows refl (λ s. ap (λ (o : Option (List Entry)). unwrap_or o []) (closed_images d core r is s))
      (λ s t m. same_set d core r is t.segment) right

  -- a pass has ended: its victims leave the log
  leave_tallied : (p : Pass) (own : IsOpenPass d p) → d.pass ≡ Some p → p.is_committing ≡ true
      → (old new : List Tally) → IsCommitted p.victims old new → AreTallied d old
      → AreTallied (pass_ended p (old_closed d core r is)) new
  leave_tallied p own there commits old new goes right =
      leave_right (log_set_ids d) (log_set_ids f) p.victims d.index (images_of d) (images_of f) old new fewer same goes
      right
    where
      f : MasterData
      f = pass_ended p g

      ids_then : ids_in f.closed ≡ without p.victims (ids_in g.closed)
      ids_then =
          trimmed_ids (survivor_ids p.survivors) (staying p.victims g.closed) ∙ staying_ids p.victims g.closed

      fewer : (s : ℕ) → has_id (log_set_ids f) s ≡ true → has_id (log_set_ids d) s ≡ true
      fewer s among =
          sym (same_set d core r is s)
          ∙ fewer_ids p.victims (ids_in g.closed) (r.id ∷ []) s
          (sym (ap (λ (ids : List ℕ). has_id (ids ++ r.id ∷ []) s) ids_then) ∙ among)

      same : (s : ℕ) → has_id p.victims s ≡ false → images_of f s ≡ images_of d s
      same s other =
          ap (λ (o : Option (List Entry)). unwrap_or o [])
          (image_stays d core r is p own there commits s (sym (has_any p.victims s) ∙ other))

  pub left_tallied : (o : Option Pass) → d.pass ≡ o → (old new : List Tally) → AreLeft o old new → AreTallied d old
      → AreTallied (roll_ended o (old_closed d core r is)) new
  left_tallied None there old new left right = subst (AreTallied g) (sym left) (stays_tallied old right)
  left_tallied (Some p) there old new left right = go p.is_committing refl where
    go : (t : Bool) → p.is_committing ≡ t → AreTallied (roll_ended (Some p) (old_closed d core r is)) new
    go true commits =
        subst (λ (b : Bool). AreTallied (if b then pass_ended p g else g) new) (sym commits)
        (leave_tallied p (open_of d core p there) there commits old new (left.0 commits).0 right)
    go false early =
        subst (λ (b : Bool). AreTallied (if b then pass_ended p g else g) new) (sym early)
        (subst (AreTallied g) (sym (left.1 early)) (stays_tallied old right))

  -- the new head has nothing but its opening
  pub begun_tallied : (f : MasterData) → f.head ≡ in_force d.head r → (old new : List Tally)
      → WithOne (of_nothing r.id) old new → AreTallied f old → AreTallied f new
  begun_tallied f head old new one right =
      tallied_more f r.id old new blank one right
    where
      image : images_of f r.id ≡ r.image
      image =
          subst (λ (h : HeadValue). images_among h f.closed r.id ≡ r.image) (sym head)
          (head_images (in_force d.head r) f.closed)

      blank : filter is_data (images_of f r.id) ≡ []
      blank = ap (λ (es : List Entry). filter is_data es) (image ∙ (rolls_of d core r is).image)
