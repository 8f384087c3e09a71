use Rattle.raw_lines.proofs.Cuts.{no_number}
use Rattle.raw_lines.proofs.rest.Rest.number.Goals as goal

pub returns-clause-complete : goal.returns-clause-complete
returns-clause-complete c = λ none.
    no_number c.args.end c.args.self.now c.in_ok-until.field-0.now _ c.in_ok-until.ensures.0 c.in_ok-until.ensures.1
    (c.parse_number.ensures.complete none)
