use Rattle.std.proofs.Common.{◌∙◌, ◌∷◌, ap}
use Rattle.entry.specs.declared.view.EntryRef.{EntryRef}
use Rattle.entry.specs.Text.{header_of}
use Rattle.entry.specs.View.{shown}
use Rattle.segment.specs.View.{entries_left}
use Rattle.segment.proofs.view.SegmentRef.header.Goals as goal

pub returns : goal.returns
returns c =
    rw (← c.self.view_is) (ap header_of c.in-Some-Header.ensures.steps
    ∙ ap (λ (entry : EntryRef). header_of (shown entry ∷ entries_left c.next.new.self)) c.in-Some-Header.field-0-is)
