-- The last Close of a failover doesn't raise the number of lost replicas.
use Rattle.std.proofs.Common.{◌≡◌, inl, inr, ℕ, ◌-◌, ◌≤◌, Bool, true, false, List, refl}
use Rattle.std.proofs.Common.{ap, subst, ◌∙◌, arith}
use Rattle.std.specs.Prelude.{Option, Some, None, ◌==◌, if◌then◌else◌}
use Rattle.std.specs.Option.{option_map_or}
use Rattle.std.proofs.lemmas.Bool.{eqb-true}
use Rattle.master_state.specs.cleaner.declared.pass.Pass.{Pass}
use Rattle.master_state.specs.cleaner.Passes.{survivor_ids}
use Rattle.master_state.proofs.log_laws.CommitDigest.{all_out, without_from}
use Rattle.entry.specs.Bag.{IsAmong}
use Rattle.entry.proofs.ListLemmas.{all_among}
use Rattle.images.specs.Image.{Image, closed_image}
use Rattle.images.specs.Sorted.{replicas_of, added}
use Rattle.images.proofs.Replicas.{replicas_added}
use Rattle.log_head.specs.declared.head.Roll.{Roll}
use Rattle.log_head.specs.Log.{head_of, start_of}
use Rattle.log_head.specs.log_laws.Heads.{ids_of}
use Rattle.log_head.specs.log_laws.Ids.{has, all_inserted, without}
use Rattle.master_state.specs.Data.{MasterData}
use Rattle.master_state.specs.Images.{staying}
use Rattle.master_state.specs.Invariant.{IsCore, IsOpenPass, listed_now, listed_with}
use Rattle.master_state.proofs.Imaging.{same_id, other_id}
use Rattle.master_state.proofs.LogIds.{absent, no_head, open_of}
use Rattle.master_state.proofs.Passing.{has_among}
use Rattle.master_state.proofs.Rising.{has_more}
use Rattle.master_rolls.specs.Ends.{closed_left}
use Rattle.master_rolls.proofs.Leaving.{stays_found}
use Rattle.master_rolls.proofs.RollEnds.{rolls_of}
use Rattle.master_rolls.proofs.Trimming.{trimmed_replicas}
use Rattle.master_failover.specs.Left.{lost_of}
use Rattle.master_failover.proofs.LostCounts.{lost_at, none_lost, few_lost, lost_fewer}

module _ (d : MasterData) (core : IsCore d) (r : Roll) (is : d.head.roll ≡ Some r) where
  -- the old head is closed, with all its replicas
  abbrev cs : List Image
  cs = added (closed_image d.head.id d.head.image d.config.replicas) d.closed

  -- a commit's digest lists no victim
  module _ (p : Pass) (there : d.pass ≡ Some p) (commits : p.is_committing ≡ true) where
    opens : IsOpenPass d p
    opens = open_of d core p there

    listed_is : (start_of r).others
        ≡ all_inserted (survivor_ids p.survivors) (without p.victims (ids_of (head_of d.head).start))
    listed_is =
        (rolls_of d core r is).lists
        ∙ ap (λ (o : Option Pass). listed_now (record d { pass = o })) there
        ∙ ap (λ (b : Bool). if b then listed_with d p.victims (survivor_ids p.survivors)
        else ids_of (head_of d.head).start) commits

    in_force : (s : ℕ) → IsAmong s p.victims → has (ids_of (head_of d.head).start) s ≡ true
    in_force s m =
        let older = all_among (λ (z : ℕ). has (head_of d.head).start.others z ≡ true) p.victims s
        opens.victims.older m in
        has_more (head_of d.head).start.others (head_of d.head).start.id s ∙ (rw older refl)

    not_victim : (s : ℕ) → IsAmong s (start_of r).others → has p.victims s ≡ false
    not_victim s m = go (has p.victims s) refl where
      never : IsAmong s p.victims → ⊥
      never victim =
          elim (all_out (survivor_ids p.survivors) (without p.victims (ids_of (head_of d.head).start)) s
          (subst (λ (ids : List ℕ). IsAmong s ids) listed_is m)) [
            | inl left ↦ (without_from p.victims (ids_of (head_of d.head).start) s left).1 victim
            | inr survives ↦ (
                let out = (opens.survivors.each s survives).outside in
                let own = in_force s victim in
                cc)
          ]

      go : (t : Bool) → has p.victims s ≡ t → has p.victims s ≡ false
      go true test = absurd (never (has_among p.victims s test))
      go false test = test

  -- the end of a pass leaves each segment of the new digest its replicas
  held : (o : Option Pass) → d.pass ≡ o → (s : ℕ) → IsAmong s (start_of r).others
      → replicas_of (closed_left o cs) s ≡ replicas_of cs s
  held None there s m = refl
  held (Some p) there s m = go p.is_committing refl where
    go : (t : Bool) → p.is_committing ≡ t → replicas_of (closed_left (Some p) cs) s ≡ replicas_of cs s
    go false test = rw test refl
    go true test =
        let out = not_victim p there test s m in
        rw test (trimmed_replicas (survivor_ids p.survivors) (staying p.victims cs) s
        ∙ ap (λ (o : Option Image). option_map_or (λ (c : Image). c.replicas) o 0)
        (stays_found p.victims s cs out))

  found : (s : ℕ) → replicas_of cs s ≡ (if d.head.id == s then d.config.replicas else replicas_of d.closed s)
  found s =
      replicas_added (closed_image d.head.id d.head.image d.config.replicas) d.closed s
      (absent d.closed d.head.id (no_head d core))

  no_more_at : (s : ℕ) → IsAmong s (start_of r).others
      → lost_at d.config.replicas (closed_left d.pass cs) r.id s ≤ lost_at d.config.replicas d.closed d.head.id s
  no_more_at s m = go (s == d.head.id) refl where
    same : replicas_of (closed_left d.pass cs) s
        ≡ (if d.head.id == s then d.config.replicas else replicas_of d.closed s)
    same = held d.pass refl s m ∙ found s

    go : (t : Bool) → (s == d.head.id) ≡ t
        → lost_at d.config.replicas (closed_left d.pass cs) r.id s ≤ lost_at d.config.replicas d.closed d.head.id s
    go true test =
        let own : (d.head.id == s) ≡ true = ap (λ (z : ℕ). d.head.id == z) (eqb-true s d.head.id test)
        ∙ same_id d.head.id in
        let all : replicas_of (closed_left d.pass cs) s ≡ d.config.replicas = same ∙ rw own refl in
        let none = none_lost d.config.replicas (closed_left d.pass cs) r.id s (omega arith) in
        omega arith
    go false test =
        let away : (d.head.id == s) ≡ false = other_id d.head.id s (λ e.
        (let own : (s == d.head.id) ≡ true = ap (λ (z : ℕ). s == z) e ∙ same_id s in cc)) in
        let rest : replicas_of (closed_left d.pass cs) s ≡ replicas_of d.closed s = same ∙ rw away refl in
        let few = few_lost d.config.replicas (closed_left d.pass cs) r.id s in
        let before : lost_at d.config.replicas d.closed d.head.id s ≡ d.config.replicas - replicas_of d.closed s =
        rw test refl in
        omega arith

  pub lost_then : lost_of d.config.replicas (closed_left d.pass cs) r.id (start_of r).others
      ≤ lost_of d.config.replicas d.closed d.head.id (start_of r).others
  lost_then =
      lost_fewer d.config.replicas d.closed (closed_left d.pass cs) d.head.id r.id (start_of r).others no_more_at
