use Rattle.answers.proofs.Fronts.{refused_held}
use Rattle.answers.proofs.answer.refused_line.Goals as goal

pub returns-in-Ok : goal.returns-in-Ok
returns-in-Ok g c =
    refused_held _ (λ line bytes next took. took) (g.D.Display.output c.args.why.now) _ _ c.new-line.ensures
    c.in-Ok.ensures.writes
