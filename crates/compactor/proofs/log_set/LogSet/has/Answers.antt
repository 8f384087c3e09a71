use Rattle.std.proofs.Common.{ℕ, ap, ◌∙◌, sym}
use Rattle.std.specs.Prelude.{Option, is_some}
use Rattle.compactor.proofs.Ids.{is_new, has_closed, has_new}
use Rattle.compactor.proofs.log_set.LogSet.has.Goals as goal

pub returns-then-is_some : goal.returns-then-is_some
returns-then-is_some c =
    has_closed c.args.self.now.closed.now.images c.args.self.now.head c.args.self.now.new c.args.id
    (ap is_some (sym c.get.ensures) ∙ sym c.is_some.ensures ∙ c.if-is_some.true)

pub returns-in-Some : goal.returns-in-Some
returns-in-Some c =
    ap (λ (o : Option ℕ). is_new o c.args.id) (sym c.in-Some.is)
    ∙ has_new c.args.self.now.closed.now.images c.args.self.now.head c.args.self.now.new c.args.id
    (ap is_some (sym c.get.ensures) ∙ sym c.is_some.ensures ∙ c.if-is_some.false)
    c.if-self-id.false

pub returns-in-None : goal.returns-in-None
returns-in-None c =
    ap (λ (o : Option ℕ). is_new o c.args.id) (sym c.in-None.is)
    ∙ has_new c.args.self.now.closed.now.images c.args.self.now.head c.args.self.now.new c.args.id
    (ap is_some (sym c.get.ensures) ∙ sym c.is_some.ensures ∙ c.if-is_some.false)
    c.if-self-id.false
