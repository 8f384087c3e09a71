use Rattle.std.proofs.Common.{◌≡◌, ap, length, arith, rules}
use Rattle.std.proofs.lemmas.Fmt.{decimal_nonempty}
use Rattle.lines.proofs.Digits.{only_zero, too_large_to_write, written, zero_alone}
use Rattle.lines.proofs.words.parse_number.Goals as goal

pub returns-then-is_empty-clause-complete : goal.returns-then-is_empty-clause-complete
returns-then-is_empty-clause-complete c = λ _ n small is.
    let none : length c.args.word.now ≡ 0 = search (rules, arith) in
    omega (arith, none, ap length is, decimal_nonempty n small)

pub returns-then-word-ne48-clause-sound : goal.returns-then-word-ne48-clause-sound
returns-then-word-ne48-clause-sound c =
    written c.args.word.now c.digits_value.result c.digits_value.ensures.sound c.digits_value.ensures.fits
    (search (rules, arith)) (search rules)

pub returns-then-word-ne48-clause-complete : goal.returns-then-word-ne48-clause-complete
returns-then-word-ne48-clause-complete c = λ none n small is.
    too_large_to_write c.args.word.now n small (c.digits_value.ensures.complete none) is

pub returns-then-word-eq1-clause-sound : goal.returns-then-word-eq1-clause-sound
returns-then-word-eq1-clause-sound c = zero_alone c.args.word.now (search rules) (search rules)

pub returns-else-word-eq1-clause-complete : goal.returns-else-word-eq1-clause-complete
returns-else-word-eq1-clause-complete c = λ _ n small is.
    let one = only_zero n c.args.word.now small is (search rules) in
    search (rules, arith)
