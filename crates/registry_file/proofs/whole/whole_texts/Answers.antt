use Rattle.std.proofs.Common.{◌∙◌}
use Rattle.registry_file.proofs.Wholes.{texts_kept, texts_short}
use Rattle.registry_file.proofs.whole.whole_texts.Goals as goal

pub returns-clause-shown : goal.returns-clause-shown
returns-clause-shown c =
    texts_kept c.args.registry.now c.in_ok-first.first.items c.deref.result.now c.texts_behind.result
    c.in_ok-first.ensures.text (c.deref.ensures.value ∙ c.in_ok-records.ensures) c.in_ok-first.ensures.fits
    c.one_record.ensures c.texts_behind.ensures.texts c.texts_behind.ensures.fit

pub returns-clause-short : goal.returns-clause-short
returns-clause-short c =
    texts_short c.args.registry.now c.in_ok-first.first.items c.deref.result.now c.texts_behind.result
    c.in_ok-first.ensures.text (c.deref.ensures.value ∙ c.in_ok-records.ensures) c.in_ok-first.ensures.fits
    c.are_short.ensures c.texts_behind.ensures.texts
