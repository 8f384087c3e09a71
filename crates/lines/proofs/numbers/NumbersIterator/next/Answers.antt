use Rattle.std.proofs.Common.{◌≡◌, ◌∙◌, Some, ap, rules, arith}
use Rattle.std.proofs.lemmas.List.Elements.{All-rest}
use Rattle.lines.specs.Cutting.{IsNumberWord, words_left}
use Rattle.lines.proofs.NumberWords.{read_first}
use Rattle.lines.proofs.numbers.NumbersIterator.next.Goals as goal

pub invariant_of-self : goal.invariant_of-self
invariant_of-self c =
    let was : c.args.self.now.rest ≡ Some c.in_ok-self.field-0 = search rules in
    record { valid = All-rest IsNumberWord _ _ _ (ap words_left was ∙ c.split_word.ensures) c.args.self.now.valid }

pub returns-clause-steps : goal.returns-clause-steps
returns-clause-steps c =
    let was : c.args.self.now.rest ≡ Some c.in_ok-self.field-0 = search rules in
    read_first _ _ _ c.parse_number.result (ap words_left was ∙ c.split_word.ensures) c.args.self.now.valid
    c.parse_number.ensures.sound (search (rules, arith)) c.parse_number.ensures.complete
