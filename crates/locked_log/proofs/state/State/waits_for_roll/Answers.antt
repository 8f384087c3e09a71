use Rattle.std.proofs.Common.{◌≡◌, ◌∙◌, ◌↔◌, IsTrue, ap, sym, Some, rules}
use Rattle.std.proofs.lemmas.Option.{same_Some}
use Rattle.store_step.specs.master.master_state.Causes.{command_refusal}
use Rattle.store_step.specs.master.master_state.declared.step.Refusal.TheVariants as refusal
use Rattle.store_seat.specs.Accounts.{Knows}
use Rattle.locked_log.specs.Held.{StateValue}
use Rattle.locked_log.proofs.state.State.waits_for_roll.Goals as goal

pub returns-in-Ok : goal.returns-in-Ok
returns-in-Ok g c = (
  λ is. absurd (cc),
  λ waits. let some =
      ap (λ (y : StateValue _). command_refusal y.master.knows c.args.command.now) c.self.view_is ∙ waits.2 in
      let none = c.in-Ok.ensures in
      let no = none ∙ some in absurd (cc),
)

pub returns-in-Err : goal.returns-in-Err
returns-in-Err g c =
    let off = ap (λ (y : StateValue _). y.is_refused) (sym c.self.view_is) ∙ c.if-self.false in
    let known : Knows c.args.self.now.book c.args.seat.now = c.knows.ensures.0 (search rules) in
    let cause : command_refusal c.args.self.now.master.knows c.args.command.now ≡ Some c.in-Err.refusal =
    ap (λ (y : StateValue _). command_refusal y.master.knows c.args.command.now) (sym c.self.view_is)
    ∙ sym c.in-Err.ensures in
    let same : IsTrue c.eq.result ↔ (c.in-Err.refusal ≡ refusal.Rolling) = search rules in (
      λ yes. (off, known, cause ∙ ap Some (same.0 yes)),
      λ waits. same.1 (same_Some _ _ (sym cause ∙ waits.2)),
    )
