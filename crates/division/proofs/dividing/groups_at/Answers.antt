use Rattle.std.proofs.Common.{List, ap, ◌∙◌, refl, arith}
use Rattle.std.proofs.lemmas.List.{nil_from_length}
use Rattle.entry.specs.declared.entry.Entry.{Entry}
use Rattle.entry.specs.Text.{text_of}
use Rattle.division.specs.Placed.{entries_at}
use Rattle.division.proofs.Gatherings.{grouping_more, grouping_end}
use Rattle.division.proofs.dividing.groups_at.Goals as goal

pub loop-gathered-preserved : goal.loop-gathered-preserved
loop-gathered-preserved c =
    grouping_more c.args.id (text_of c.args.segment.now) c.args.all.items _ c.loop-gathered.groups.items
    c.loop-gathered.invariant c.in-Some.gathered _ c.in-Some.ensures.steps.0 c.push.new.self.items _
    c.in_ok-push.ensures.items refl refl
    (c.at_places.ensures
    ∙ ap (λ (es : List Entry). entries_at (text_of es) c.in-Some.gathered.places.items) c.copy.ensures)

pub returns : goal.returns
returns c =
    grouping_end c.args.id (text_of c.args.segment.now) c.args.all.items _ c.loop-gathered.groups.items
    c.loop-gathered.invariant
    (nil_from_length _ (omega (arith, c.in-None.ensures.steps.0, c.loop-gathered.gathered-iterator.rest.ok.0)))
