use Rattle.std.proofs.Common.{arith, rules}
use Rattle.lines.proofs.Digits.{too_large}
use Rattle.lines.proofs.words.digits_value.Goals as goal

pub returns-in_err-checked_mul-clause-complete : goal.returns-in_err-checked_mul-clause-complete
returns-in_err-checked_mul-clause-complete c = λ _ _.
    too_large c.args.digits.now c.loop-byte.byte-index c.loop-byte.number
    (search (rules, arith)) c.loop-byte.invariant.read (search (rules, arith)) (search (rules, arith))

pub returns-in_err-number-clause-complete : goal.returns-in_err-number-clause-complete
returns-in_err-number-clause-complete c = λ _ _.
    too_large c.args.digits.now c.loop-byte.byte-index c.loop-byte.number
    (search (rules, arith)) c.loop-byte.invariant.read (search (rules, arith)) (search (rules, arith))
