use Rattle.std.proofs.Common.{◌∙◌, ap, List}
use Rattle.entry.specs.declared.entry.Entry.{Entry}
use Rattle.entry.specs.Text.{text_of}
use Rattle.segment.specs.Bytes.{standing_at}
use Rattle.segment.proofs.segment.Segment.entry_at.Goals as goal

pub returns-clause-standing : goal.returns-clause-standing
returns-clause-standing c =
    c.entry_at.ensures.standing ∙ ap (λ (es : List Entry). standing_at c.args.at (text_of es)) c.view.ensures

pub returns-clause-found : goal.returns-clause-found
returns-clause-found c =
    λ before after entry is at. c.entry_at.ensures.found before after entry (c.view.ensures ∙ is) at
