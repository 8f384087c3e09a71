-- Of the pushes of a failover one comes next: while that is to open the new head, no other may be made.
use Rattle.std.proofs.Common.{◌≡◌, ℕ, ◌≤◌, inl, inr, true, List, length, sym, ap, ◌∙◌, arith}
use Rattle.std.specs.Prelude.{Some, None}
use Rattle.std.proofs.lemmas.Option.{same_Some}
use Rattle.log_head.specs.Head.{IsLagging}
use Rattle.log_head.specs.declared.next.Next.TheVariants as nexts
use Rattle.master_core.specs.master_failover.declared.push.Push.{Push}
use Rattle.master_core.specs.master_failover.declared.push.Push.TheVariants as push
use Rattle.master_core.specs.master_failover.Mending.{IsInPart, IsNextMend, IsLater}
use Rattle.master_core.specs.master_state.declared.failover.Failover.{Failover}
use Rattle.master_core.specs.master_state.declared.failover.Part.{Part}
use Rattle.master_core.specs.master_state.declared.failover.Part.TheVariants as part
use Rattle.master_core.specs.master_state.Budget.{may_turn}
use Rattle.master_core.specs.master_state.Data.{MasterData}
use Rattle.master.proofs.NextOps.{every}

-- ---- one comes next

-- a failover is in one part
one_part : (d : MasterData) (p q : Part) → IsInPart d p → IsInPart d q → p ≡ q
one_part d p q (f, some, is) (g, also, same) =
    sym is ∙ ap (λ (x : Failover). x.part) (same_Some f g (sym some ∙ also)) ∙ same

-- no replica lags, or one does
not_both : (units j : ℕ) (ns : List ℕ) → IsLagging units ns (Some j) → IsLagging units ns None → ⊥
not_both units j ns lags none =
    let enough : units ≤ lags.0 = every (λ m. units ≤ m) ns j lags.0 none lags.1 in
    let less = lags.2 in absurd (omega (arith, enough, less))

-- the head's replicas are mended first, and what comes later is of another part
no_turn : (d : MasterData) (m : Push) → IsLater m → IsNextMend d m → IsNextMend d push.Turn → ⊥
no_turn d (push.Head (nexts.Extend j)) later next (is, inl headless) = let both = sym next.1 ∙ headless in absurd (cc)
no_turn d (push.Head (nexts.Extend j)) later next (is, inr turn) = not_both (length d.head.units) j d.head.taken next.2
    turn.0
no_turn d (push.Head (nexts.OpenWhole j)) later next (is, inl headless) = let both = sym next.1
    ∙ headless in absurd (cc)
no_turn d (push.Head (nexts.OpenWhole j)) later next (is, inr turn) =
    let at = next.3 in let lacking = next.4 in let full = turn.1 in absurd (omega (arith, at, lacking, full))
no_turn d push.Turn later next turn = absurd later
no_turn d (push.Head (nexts.OpenNew j)) later next turn =
    let same = one_part d part.Opens part.Mends next.0.0 turn.0 in absurd (cc)
no_turn d (push.Head (nexts.OpenFirst j)) later next turn =
    let same = one_part d part.Opens part.Mends next.0.0 turn.0 in absurd (cc)
no_turn d (push.Raise id) later next turn =
    let same = one_part d part.Opens part.Mends next.0 turn.0 in absurd (cc)
no_turn d (push.Head (nexts.CloseOld j)) later next turn =
    let same = one_part d part.Closes part.Mends next.0 turn.0 in absurd (cc)
no_turn d (push.Repair s j) later next turn =
    let same = one_part d part.Repairs part.Mends next.0 turn.0 in absurd (cc)

-- ---- it may be made

-- a push that comes later opens no new head
pub later_may : (d : MasterData) (m : Push) → IsLater m → IsNextMend d m → IsNextMend d push.Turn → may_turn d ≡ true
later_may d m later next turn = absurd (no_turn d m later next turn)

-- nor does one without a failover
pub calm_may : (d : MasterData) → d.failover ≡ None → IsNextMend d push.Turn → may_turn d ≡ true
calm_may d calm turn = absurd (let both = sym calm ∙ turn.0.1 in cc)
