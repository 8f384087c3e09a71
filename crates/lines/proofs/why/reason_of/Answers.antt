use Rattle.lines.proofs.Among.{wrong_behind}
use Rattle.lines.proofs.why.reason_of.Goals as goal

pub returns-in-Some-wrong_word : goal.returns-in-Some-wrong_word
returns-in-Some-wrong_word c = wrong_behind c.args.text.now _ _ c.in-Some-wrong_word.reason c.split_word.ensures
    c.in-Some-wrong_word.ensures
