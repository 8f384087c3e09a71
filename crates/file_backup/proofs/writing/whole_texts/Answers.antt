use Rattle.std.proofs.Common.{List, ◌++◌, ◌∙◌, ap}
use Rattle.replica.specs.declared.holding.Holding.{Holding}
use Rattle.backup.specs.Shelf.{holdings_of}
use Rattle.file_backup.proofs.AllMade.{texts_short, texts_shown, texts_version}
use Rattle.file_backup.proofs.writing.whole_texts.Goals as goal

pub returns-clause-shown : goal.returns-clause-shown
returns-clause-shown c =
    texts_shown c.one_op.ensures c.args.memory.now c.args.first.now c.deref.result.now c.texts_making.result
    (c.deref.ensures.value ∙ c.in_ok-show.ensures.shown
    ∙ ap (λ (l : List Holding). l ++ holdings_of 0 c.args.memory.now) c.new-holdings.ensures.items)
    c.in_ok-show.ensures.ordered c.texts_making.ensures.texts c.texts_making.ensures.ready

pub returns-clause-short : goal.returns-clause-short
returns-clause-short c =
    texts_short c.args.first.now c.deref.result.now c.texts_making.result c.requires.short c.texts_making.ensures.texts
    c.texts_making.ensures.ready

pub returns-clause-version : goal.returns-clause-version
returns-clause-version c =
    texts_version c.args.first.now c.deref.result.now c.texts_making.result c.requires.version
    c.texts_making.ensures.texts
