use Rattle.std.proofs.Common.{rules, refl, ap, sym, ◌∙◌, inl}
use Rattle.store_step.specs.master.master_state.Causes.{command_refusal}
use Rattle.store_seat.specs.Accounts.{Knows}
use Rattle.locked_log.specs.Held.{StateValue}
use Rattle.locked_log.proofs.state.State.test.Goals as goal

pub returns-then-self-clause-refused : goal.returns-then-self-clause-refused
returns-then-self-clause-refused g c = inl (
  ap (λ (y : StateValue _). y.is_refused) (sym c.self.view_is)
      ∙ c.if-self.true,
  refl,
  refl,
)

pub returns-then-not-knows-clause-refused : goal.returns-then-not-knows-clause-refused
returns-then-not-knows-clause-refused g c = (
  ap (λ (y : StateValue _). y.is_refused) (sym c.self.view_is)
      ∙ c.if-self.false,
  λ k. let yes = c.knows.ensures.1 k in
      let no = c.if-not-knows.true in cc,
  refl,
  refl,
)

pub returns-in-Err-clause-refused : goal.returns-in-Err-clause-refused
returns-in-Err-clause-refused g c =
    let known : Knows c.args.self.now.book c.args.seat.now = c.knows.ensures.0 (search rules) in
    let cause =
    ap (λ (y : StateValue _). command_refusal y.master.knows c.args.command.now) (sym c.self.view_is)
    ∙ sym c.in-Err.ensures in
    let off = ap (λ (y : StateValue _). y.is_refused) (sym c.self.view_is) ∙ c.if-self.false in
    ((refl, inl cause), off, known, refl, refl)

pub returns-in-Ok-clause-passes : goal.returns-in-Ok-clause-passes
returns-in-Ok-clause-passes g c =
    let known : Knows c.args.self.now.book c.args.seat.now = c.knows.ensures.0 (search rules) in
    let cause =
    ap (λ (y : StateValue _). command_refusal y.master.knows c.args.command.now) (sym c.self.view_is)
    ∙ sym c.in-Ok.ensures in
    let off = ap (λ (y : StateValue _). y.is_refused) (sym c.self.view_is) ∙ c.if-self.false in
    (off, known, cause)
