use Rattle.std.proofs.Common.{sym, ◌∙◌, rules, tests}
use Rattle.std.proofs.lemmas.Iterator.{YieldsList-from_slice}
use Rattle.std.proofs.lemmas.Iterator.Search.{position_from_yields_List}
use Rattle.lines.specs.Cutting.{is_space}
use Rattle.lines.proofs.Cutting.{cut_at, not_cut}
use Rattle.lines.proofs.words.split_word.Goals as goal

pub returns-in-Some : goal.returns-in-Some
returns-in-Some c =
    cut_at c.args.text.now c.in-Some.at (sym c.in-Some.is ∙ position_from_yields_List is_space _ _ c.position.result
    c.position.ensures.ran (YieldsList-from_slice c.args.text.now c.iter.ensures.rest)
    (λ x b q k. search (rules, tests)))

pub returns-in-None : goal.returns-in-None
returns-in-None c =
    not_cut c.args.text.now (sym c.in-None.is ∙ position_from_yields_List is_space _ _ c.position.result
    c.position.ensures.ran (YieldsList-from_slice c.args.text.now c.iter.ensures.rest)
    (λ x b q k. search (rules, tests)))
