use Rattle.std.proofs.Common.{◌≡◌, length, arith, rules}
use Rattle.raw_lines.proofs.Cuts.{no_last, no_other_last}
use Rattle.raw_lines.proofs.rest.Rest.last_key.Goals as goal

pub returns-in_err-key-clause-complete : goal.returns-in_err-key-clause-complete
returns-in_err-key-clause-complete c = λ none. no_last c.args.self (c.counted.ensures.complete (search rules))

pub returns-then-is_empty-clause-complete : goal.returns-then-is_empty-clause-complete
returns-then-is_empty-clause-complete c = λ none.
    let empty : length c.in_ok-key.key.now ≡ 0 = search (rules, arith) in
    no_other_last c.args.self _ c.in_ok-key.key.now c.in_ok-key.ensures.sound.0 c.in_ok-key.ensures.sound.1
    (λ some same. absurd (omega (arith, some, empty)))

pub returns-then-not-is_at_end-clause-complete : goal.returns-then-not-is_at_end-clause-complete
returns-then-not-is_at_end-clause-complete c = λ none.
    no_other_last c.args.self _ c.in_ok-key.key.now c.in_ok-key.ensures.sound.0 c.in_ok-key.ensures.sound.1
    (λ some. c.is_at_end.ensures.more c.if-not-is_at_end.true)
