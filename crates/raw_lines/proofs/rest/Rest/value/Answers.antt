use Rattle.std.proofs.Common.{rules}
use Rattle.raw_lines.proofs.Cuts.{no_other_value, no_value}
use Rattle.raw_lines.proofs.rest.Rest.value.Goals as goal

pub returns-in_err-value-clause-complete : goal.returns-in_err-value-clause-complete
returns-in_err-value-clause-complete c = λ none. no_value c.args.self (c.counted.ensures.complete (search rules))

pub returns-then-not-is_at_end-clause-complete : goal.returns-then-not-is_at_end-clause-complete
returns-then-not-is_at_end-clause-complete c = λ none.
    no_other_value c.args.self _ c.in_ok-value.value.now c.in_ok-value.ensures.sound.0 c.in_ok-value.ensures.sound.1
    (c.is_at_end.ensures.more c.if-not-is_at_end.true)
