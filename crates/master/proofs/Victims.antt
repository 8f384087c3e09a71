-- Where victims and survivors of an open pass are in the log.
use Rattle.std.proofs.Common.{◌≡◌, ℕ, ◌<◌, true, [], ◌∷◌, sym, subst, ◌∙◌}
use Rattle.std.specs.Prelude.{Option, Some, None, IfSome}
use Rattle.master_core.specs.cleaner.declared.pass.Pass.{Pass as OpenPass}
use Rattle.entry.specs.Bag.{IsAmong}
use Rattle.entry.proofs.BagLemmas.{among_left, among_last}
use Rattle.entry.proofs.ListLemmas.{all_among}
use Rattle.log_head.specs.Log.{head_of}
use Rattle.log_head.specs.log_laws.Heads.{ids_of}
use Rattle.log_head.specs.log_laws.Ids.{has}
use Rattle.master_core.proofs.log_laws.KeptEntries.{has_is, is_has}
use Rattle.master_core.specs.master_state.Budget.{victims_of, survivors_of}
use Rattle.master_core.specs.master_state.Data.{MasterData}
use Rattle.master_core.specs.master_state.Invariant.{IsCore, IsOpenPass}

module _ (d : MasterData) (core : IsCore d) (s : ℕ) where
  in_others : (o : Option OpenPass) → IfSome o (IsOpenPass d) → IsAmong s (victims_of o)
      → IsAmong s (head_of d.head).start.others
  in_others None pass victim = absurd victim
  in_others (Some p) pass victim =
      is_has (head_of d.head).start.others s
      (all_among (λ (z : ℕ). has (head_of d.head).start.others z ≡ true) p.victims s pass.victims.older victim)

  -- a victim is an older segment of the digest in force
  pub victim_older : IsAmong s (victims_of d.pass) → IsAmong s (head_of d.head).start.others
  victim_older = in_others d.pass core.pass

  pub victim_below : IsAmong s (victims_of d.pass) → s < d.head.id
  victim_below victim =
      subst (λ (top : ℕ). s < top) core.image.id
      (all_among (λ (z : ℕ). z < (head_of d.head).start.id) (head_of d.head).start.others s core.below
      (victim_older victim))

  out_of_force : (o : Option OpenPass) → IfSome o (IsOpenPass d) → IsAmong s (survivors_of o)
      → IsAmong s (ids_of (head_of d.head).start) → ⊥
  out_of_force None pass survivor listed = survivor
  out_of_force (Some p) pass survivor listed =
      let there = has_is (ids_of (head_of d.head).start) s listed in
      let out = (pass.survivors.each s survivor).outside in
      cc

  -- a survivor is of no digest yet, so it is no head
  pub survivor_outside : IsAmong s (survivors_of d.pass) → IsAmong s (ids_of (head_of d.head).start) → ⊥
  survivor_outside = out_of_force d.pass core.pass

  pub survivor_no_head : IsAmong s (survivors_of d.pass) → s ≡ d.head.id → ⊥
  survivor_no_head survivor own =
      survivor_outside survivor
      (subst (λ (z : ℕ). IsAmong z (ids_of (head_of d.head).start)) (core.image.id ∙ sym own)
      (among_last (head_of d.head).start.others (head_of d.head).start.id))

-- no victim is a survivor
pub never_both : (d : MasterData) (core : IsCore d) (s : ℕ) → IsAmong s (victims_of d.pass)
    → IsAmong s (survivors_of d.pass) → ⊥
never_both d core s victim survivor =
    survivor_outside d core s survivor (among_left s (head_of d.head).start.others ((head_of d.head).start.id ∷ [])
    (victim_older d core s victim))
