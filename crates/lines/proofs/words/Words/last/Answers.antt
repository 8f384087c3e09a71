use Rattle.std.proofs.Common.{◌≡◌, ◌∙◌, sym, subst, rules}
use Rattle.std.specs.List.{slice_split}
use Rattle.lines.specs.Keys.{IsWord}
use Rattle.lines.specs.Cutting.{is_space}
use Rattle.lines.proofs.Spelling.{one_word, one_word_only}
use Rattle.lines.proofs.words.Words.last.Goals as goal

pub returns-clause-sound : goal.returns-clause-sound
returns-clause-sound c = search (rules, one_word)

pub returns-clause-complete : goal.returns-clause-complete
returns-clause-complete c = λ none word is cut.
    let left : c.args.self ≡ slice_split is_space c.in_ok-rest.rest.now = search rules in
    let same = one_word_only c.in_ok-rest.rest.now word (sym left ∙ cut) in
    let whole : IsWord c.in_ok-rest.rest.now = subst IsWord (sym same) is in
    search rules
