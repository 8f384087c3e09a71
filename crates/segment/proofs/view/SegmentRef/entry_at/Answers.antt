use Rattle.entry.specs.Text.{text_of}
use Rattle.entry.specs.View.{shown}
use Rattle.segment.proofs.RowLemmas.{IsThere-from_split, standing_at-front, standing_at-fault}
use Rattle.segment.proofs.view.SegmentRef.entry_at.Goals as goal

pub returns-in-Ok-clause-found : goal.returns-in-Ok-clause-found
returns-in-Ok-clause-found c = rw (← c.self.view_is) (λ before after entry is place.
    let there =
    IsThere-from_split c.self.inside.bytes.now c.args.at before after entry c.self.invariant.text is place in
    (c.in-Ok.ensures.complete entry (text_of after) there.entry there.text).0)

pub returns-in-Err-clause-found : goal.returns-in-Err-clause-found
returns-in-Err-clause-found c = rw (← c.self.view_is) (λ before after entry is place.
    let there =
    IsThere-from_split c.self.inside.bytes.now c.args.at before after entry c.self.invariant.text is place in
    c.in-Err.ensures.complete entry (text_of after) there.entry there.text)

pub returns-in-Ok-clause-standing : goal.returns-in-Ok-clause-standing
returns-in-Ok-clause-standing c =
    rw (← c.self.view_is) (standing_at-front c.self.inside.bytes.now c.args.at (shown c.in-Ok.entry) _ c.self.invariant
    c.in-Ok.ensures.front)

pub returns-in-Err-clause-standing : goal.returns-in-Err-clause-standing
returns-in-Err-clause-standing c =
    rw (← c.self.view_is) (standing_at-fault c.self.inside.bytes.now c.args.at c.in-Err.field-0 c.self.invariant
    c.in-Err.ensures.fault)
