use Rattle.std.proofs.Common.{◌∙◌}
use Rattle.answers.proofs.Fronts.{refused_handed, refused_not}
use Rattle.answers.proofs.answer.write_refused.Goals as goal

pub returns-in-Some : goal.returns-in-Some
returns-in-Some g c =
    refused_handed (g.D.Display.output c.args.why.now) _ _ c.in-Some.line.bytes _ c.hand.result c.in-Some.ensures
    c.hand.ensures (c.as_bytes.ensures.value ∙ c.deref.ensures.0)

pub returns-in-None : goal.returns-in-None
returns-in-None g c = refused_not (g.D.Display.output c.args.why.now) _
