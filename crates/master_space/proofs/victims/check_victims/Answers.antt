use Rattle.std.proofs.Common.{◌≡◌, false, length, ap, sym, ◌∙◌, arith}
use Rattle.std.specs.Prelude.{is_some, nat_lt, ◌==◌}
use Rattle.std.proofs.lemmas.Bool.Decides.{nat_tests}
use Rattle.std.proofs.lemmas.Result.{err_from_is_err_and}
use Rattle.std.specs.Result.{result_err}
use Rattle.master_state.specs.Data.{MasterData}
use Rattle.master_state.proofs.FreeVictims.{next_fault, found_fault, no_fault_left}
use Rattle.master_space.proofs.victims.check_victims.Goals as goal

pub loop-at-preserved : goal.loop-at-preserved
loop-at-preserved c =
    next_fault c.args.core.now c.args.victims.now c.loop-at.at c.loop-at-test.true c.loop-at.invariant
    (sym c.check_victim.ensures ∙ ap result_err c.in_ok-check_victim.was)

pub returns-in_err-check_victim : goal.returns-in_err-check_victim
returns-in_err-check_victim c =
    let failed = err_from_is_err_and c.from_residual.result c.from_residual.ensures.1 in
    let fault = found_fault c.args.core.now c.args.victims.now c.loop-at.at c.loop-at-test.true c.loop-at.invariant
    c.in_err-check_victim.field-0.0 (sym c.check_victim.ensures ∙ ap result_err c.in_err-check_victim.was) in
    let open_now : is_some c.args.core.now.pass ≡ false =
    sym (ap (λ (d : MasterData). is_some d.pass) c.core.view_is) ∙ sym c.is_some.ensures ∙ c.if-is_some.false in
    let some : (length c.args.victims.now == 0) ≡ false = sym c.is_empty.ensures ∙ c.if-is_empty.false in
    let few : nat_lt 32 (length c.args.victims.now) ≡ false =
    grind (arith, nat_tests, c.if-victims-gt-MAX_VICTIMS.false) in
    rw (failed.1, failed.2, open_now, some, few) (sym fault)

pub returns : goal.returns
returns c =
    let none = no_fault_left c.args.core.now c.args.victims.now c.loop-at.at c.loop-at-test.false
    c.loop-at.invariant in
    let open_now : is_some c.args.core.now.pass ≡ false =
    sym (ap (λ (d : MasterData). is_some d.pass) c.core.view_is) ∙ sym c.is_some.ensures ∙ c.if-is_some.false in
    let some : (length c.args.victims.now == 0) ≡ false = sym c.is_empty.ensures ∙ c.if-is_empty.false in
    let few : nat_lt 32 (length c.args.victims.now) ≡ false =
    grind (arith, nat_tests, c.if-victims-gt-MAX_VICTIMS.false) in
    rw (open_now, some, few) (sym none)
