use Rattle.std.proofs.Common.{◌≡◌, length, arith, rules}
use Rattle.raw_lines.proofs.Cuts.{no_other_key}
use Rattle.raw_lines.proofs.rest.Rest.key.Goals as goal

pub returns-then-is_empty-clause-complete : goal.returns-then-is_empty-clause-complete
returns-then-is_empty-clause-complete c = λ none.
    let empty : length c.in_ok-key.key.now ≡ 0 = search (rules, arith) in
    no_other_key c.args.self.now _ c.in_ok-key.key.now c.in_ok-key.ensures.sound.0 c.in_ok-key.ensures.sound.1
    (λ some rest same. absurd (omega (arith, some, empty)))

pub returns-then-not-space-clause-complete : goal.returns-then-not-space-clause-complete
returns-then-not-space-clause-complete c = λ none.
    no_other_key c.args.self.now _ c.in_ok-key.key.now c.in_ok-key.ensures.sound.0 c.in_ok-key.ensures.sound.1
    (λ some rest. (c.space.ensures.kept c.if-not-space.true).1 rest)
