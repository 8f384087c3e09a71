use Rattle.std.proofs.Common.{◌≡◌, ◌∷◌, length, drop, ap, ◌∙◌}
use Rattle.entry.specs.declared.entry.Object.{Object}
use Rattle.entry.specs.declared.entry.Entry.TheVariants as entry
use Rattle.entry.specs.Format.{spelling}
use Rattle.entry.specs.View.{shown}
use Rattle.object_list.specs.Spelled.{objects_in, text_of_objects}
use Rattle.object_list.proofs.ObjectTexts.{HasFirst, first_of, first_in, first_within, rest_text, object_shown}
use Rattle.object_list.proofs.ObjectTexts.{shown_same}
use Rattle.object_list.proofs.reading.read_first.Goals.{In-Ok}
use Rattle.object_list.proofs.reading.read_first.Goals as goal

first : (c : In-Ok) → HasFirst c.args.text.now
first c = first_of c.args.text.now c.requires.some c.requires.text

-- what is read is the object at the front
is_first : (c : In-Ok)
    → (shown c.in-Ok.entry ≡ entry.Object (first c).object)
    × (c.in-Ok.taken ≡ length (spelling (entry.Object (first c).object)))
is_first c =
    c.in-Ok.ensures.complete (entry.Object (first c).object) (text_of_objects (first c).others) (first c).valid
    (first c).text

pub unreachable-requires : goal.unreachable-requires
unreachable-requires c =
    let all = (goal.at.unreachable-requires c).In-Ok in
    let object = object_shown c.in-Ok.entry (first all).object (is_first all).0 in
    c.in_default.not-Object object.0 object.1

pub returns-clause-first : goal.returns-clause-first
returns-clause-first c =
    let all = (goal.at.returns-clause-first c).In-Ok in
    let text = c.args.text.now in
    first_in text (first all) c.in-Ok.taken (is_first all).1
    ∙ ap (λ (o : Object). o ∷ objects_in (drop c.in-Ok.taken text))
    (shown_same c.in-Ok.entry c.in-Object.object (first all).object c.in-Object.is (is_first all).0)

pub returns-clause-within : goal.returns-clause-within
returns-clause-within c =
    let all = (goal.at.returns-clause-within c).In-Ok in
    first_within c.args.text.now (first all) c.in-Ok.taken (is_first all).1

pub returns-clause-rest : goal.returns-clause-rest
returns-clause-rest c =
    let all = (goal.at.returns-clause-rest c).In-Ok in
    rest_text c.args.text.now (first all) c.in-Ok.taken (is_first all).1
