use Rattle.std.proofs.Common.{List, ℕ, sym, ap, subst, ◌∙◌, ◌<◌, arith}
use Rattle.entry.specs.View.{shown_object}
use Rattle.object_list.specs.Spelled.{objects_in, IsObjectList}
use Rattle.object_list.proofs.ObjectTexts.{HasLast, last_of, last_some, last_text, last_read}
use Rattle.object_list.proofs.list.ObjectList.last.Goals.{After-as_slice}
use Rattle.object_list.proofs.list.ObjectList.last.Goals as goal

ends : (c : After-as_slice) → HasLast c.as_slice.result.now c.self.inside.last
ends c =
    let some : 0 < c.self.inside.count = omega (arith, c.if-self-eq0.false) in
    last_of c.as_slice.result.now c.self.inside.count c.self.inside.last
    (subst (λ (t : List ℕ). IsObjectList t c.self.inside.count c.self.inside.last) (sym c.as_slice.ensures.value)
    c.self.invariant) some

pub slice_bounds-read_first-count : goal.slice_bounds-read_first-count
slice_bounds-read_first-count c = (ends (goal.at.slice_bounds-read_first-count c).After-as_slice).within

pub slice_bounds-read_first-start : goal.slice_bounds-read_first-start
slice_bounds-read_first-start c = (ends (goal.at.slice_bounds-read_first-start c).After-as_slice).within

pub read_first-object-requires-clause-some : goal.read_first-object-requires-clause-some
read_first-object-requires-clause-some c =
    last_some c.as_slice.result.now c.self.inside.last
    (ends (goal.at.read_first-object-requires-clause-some c).After-as_slice)

pub read_first-object-requires-clause-text : goal.read_first-object-requires-clause-text
read_first-object-requires-clause-text c =
    last_text c.as_slice.result.now c.self.inside.last
    (ends (goal.at.read_first-object-requires-clause-text c).After-as_slice)

pub returns-clause-some : goal.returns-clause-some
returns-clause-some c =
    let at = ends (goal.at.returns-clause-some c).After-as_slice in
    let read = last_read c.as_slice.result.now c.self.inside.last at
    (shown_object c.read_first-object.result.0) _ c.read_first-object.ensures.first in
    (at.front, sym c.self.view_is ∙ ap objects_in (sym c.as_slice.ensures.value) ∙ read)
