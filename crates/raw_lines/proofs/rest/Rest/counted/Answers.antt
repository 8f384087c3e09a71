use Rattle.std.proofs.Common.{ap, length, arith, rules}
use Rattle.raw_lines.proofs.Cuts.{no_length, too_long}
use Rattle.raw_lines.proofs.rest.Rest.counted.Goals as goal

pub returns-in_err-len-clause-complete : goal.returns-in_err-len-clause-complete
returns-in_err-len-clause-complete c = λ none.
    no_length c.args.self.now c.args.most (search (rules, arith)) (c.number.ensures.complete (search rules))

pub returns-then-len-most-clause-complete : goal.returns-then-len-most-clause-complete
returns-then-len-most-clause-complete c = λ none.
    too_long c.args.self.now _ c.in_ok-len.len c.args.most (search (rules, arith)) (search (rules, arith))
    c.in_ok-len.ensures.sound.0 (λ fits within. absurd (omega (arith, fits, c.if-len-most.true)))

pub returns-then-len-self-clause-complete : goal.returns-then-len-self-clause-complete
returns-then-len-self-clause-complete c = λ none.
    too_long c.args.self.now _ c.in_ok-len.len c.args.most (search (rules, arith)) (search (rules, arith))
    c.in_ok-len.ensures.sound.0
    (λ fits within. absurd (omega (arith, within, c.if-len-self.true, ap length c.self.view_is)))
