-- A push that may not open the new head of a failover answers Halted and nothing else.
use Rattle.std.proofs.Common.{◌≡◌, inl, inr, true, refl, sym, ap, ◌∙◌}
use Rattle.std.specs.Prelude.{Ok, Err}
use Rattle.master_core.specs.master_failover.declared.push.Push.{Push}
use Rattle.master_core.specs.master_failover.declared.push.Push.TheVariants as push
use Rattle.master_core.specs.master_failover.Mending.{IsNextMend}
use Rattle.master_core.specs.master_state.Budget.{may_turn}
use Rattle.master_core.specs.master_state.Data.{MasterData}
use Rattle.master.specs.Laws.{StuckHalts}
use Rattle.master_core.proofs.master_failover.PushKinds.{mend_fails}
use Rattle.master.proofs.PushKinds.{kinds}
use Rattle.master.proofs.MendServed.{mend_passed}
use Rattle.master.proofs.NextMends.{calm_may, later_may}

-- what comes next may open the new head, if it is to do so
next_may : (d : MasterData) (m : Push) → IsNextMend d m → (m ≡ push.Turn → may_turn d ≡ true) → IsNextMend d push.Turn
    → may_turn d ≡ true
next_may d (push.Head n) next may turn = later_may d (push.Head n) tt next turn
next_may d push.Turn next may turn = may refl
next_may d (push.Raise id) next may turn = later_may d (push.Raise id) tt next turn
next_may d (push.Repair s j) next may turn = later_may d (push.Repair s j) tt next turn

pub stuck_halts : StuckHalts
stuck_halts old (Ok answer) new running turn never is =
    absurd (let both = sym never ∙ elim (kinds old answer new is) as (λ _. may_turn old.knows ≡ true) [
      | inl p ↦ calm_may old.knows p.calm turn
      | inr m ↦ next_may old.knows m.mend m.next m.may turn
    ] in cc)
stuck_halts old (Err r) new running turn never (inl tested) =
    absurd (let both = sym (mend_passed old.knows running (mend_fails old.knows push.Turn turn)) ∙ tested.0 in cc)
stuck_halts old (Err r) new running turn never (inr (test, inl stuck)) = (ap Err stuck.2, stuck.3)
stuck_halts old (Err r) new running turn never (inr (test, inr (inl fault))) =
    absurd (let both = sym never ∙ fault.1 in cc)
stuck_halts old (Err r) new running turn never (inr (test, inr (inr fails))) =
    absurd (let both = sym never ∙ fails.0 turn in cc)
