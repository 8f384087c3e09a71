use Rattle.std.proofs.Common.{inl, inr, refl, ap}
use Rattle.lines.specs.Grammar.{Needs}
use Rattle.next_master.specs.answers.declared.answer.Answer.TheVariants as answer
use Rattle.next_master.specs.cluster.Served.{is_up}
use Rattle.next_master.specs.Configuration.{config_of}
use Rattle.next_master.proofs.of_cluster.Standing.{not_up, up_told}
use Rattle.script.proofs.Sessions.{needs_answers, unknown_at}
use Rattle.script.proofs.session.Session.run_needs.Goals as goal

pub returns-in-Up : goal.returns-in-Up
returns-in-Up g c =
    let s = c.args.self.now in
    let up = ap is_up c.in-Up.is in
    needs_answers s answer.Up (up_told s.node (config_of s.options s.master) Needs up refl)
    (inl (inl up, inl (up, refl)))

pub returns : goal.returns
returns g c =
    let s = c.args.self.now in
    let down = not_up s.node c.in_default.not-Up in
    needs_answers s answer.SeatUnknown
    (unknown_at s.node (config_of s.options s.master) Needs down (inr refl))
    (inr (down, c.if-self.false, refl))

pub returns-then-self : goal.returns-then-self
returns-then-self g c =
    needs_answers c.args.self.now c.node_needs.result c.node_needs.ensures.told
    (inl (inr c.if-self.true, c.node_needs.ensures.shown))
