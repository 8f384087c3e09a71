use Rattle.std.proofs.Common.{[], ◌≡◌, ◌∙◌, ◌++◌, ◌∷◌, List, ℕ, length, append_assoc, sym, ap, subst}
use Rattle.std.proofs.lemmas.List.{append-nil}
use Rattle.std.specs.Fmt.{decimal}
use Rattle.std.specs.Io.KnownBytes.{Appends}
use Rattle.std.proofs.KnownBytes.{Appends-nil}
use Rattle.std.specs.List.{flat_map}
use Rattle.entry.specs.declared.entry.Object.{Object}
use Rattle.entry.specs.View.{shown_object}
use Rattle.answers.specs.Texts.{object_text}
use Rattle.answers.specs.Errors.{IsHanded}
use Rattle.answers.proofs.Fronts.{fails_out, next_of_cut}
use Rattle.answers.proofs.Printed.{last_cut, last_handed, one_more_printed}
use Rattle.answers.proofs.tables.write_objects.Goals as goal

pub loop-object-preserved : goal.loop-object-preserved
loop-object-preserved g c =
    let done = c.loop-object.invariant.0 in
    let o = shown_object c.in-Some.object in
    let rest = c.next.new.self in (
      done ++ o ∷ [],
      append_assoc done (o ∷ []) rest ∙ ap (λ (os : List Object). done ++ os) (sym c.in-Some.ensures.steps)
          ∙ c.loop-object.invariant.1,
      one_more_printed object_text done o _ _ _ c.loop-object.invariant.2 c.in_ok-write_object.ensures,
    )

pub returns : goal.returns
returns g c =
    let old = g.W.Write.contents c.args.writer.now in
    let mid = g.W.Write.contents c.loop-object.writer in
    let new = g.W.Write.contents c.write_number.new.writer in
    let os = c.args.objects.now in
    let done = c.loop-object.invariant.0 in
    let all : done ≡ os =
    sym (append-nil done) ∙ ap (λ (ps : List Object). done ++ ps) (sym c.in-None.ensures.steps.0)
    ∙ c.loop-object.invariant.1 in
    let lines : Appends old mid (flat_map object_text os) =
    subst (λ (ps : List Object). Appends old mid (flat_map object_text ps)) all c.loop-object.invariant.2 in
    last_handed (flat_map object_text os) c.args.words.now (decimal (length os)) old mid new
    c.write_number.result lines
    (subst (λ (n : ℕ). IsHanded mid new (c.args.words.now ++ decimal n ++ 10 ∷ []) c.write_number.result)
    c.len.ensures c.write_number.ensures)

pub returns-in_err-write_object : goal.returns-in_err-write_object
returns-in_err-write_object g c =
    let done = c.loop-object.invariant.0 in
    let o = shown_object c.in-Some.object in
    let rest = c.next.new.self in
    let os = c.args.objects.now in
    let all : done ++ (o ∷ rest) ≡ os =
    ap (λ (ps : List Object). done ++ ps) (sym c.in-Some.ensures.steps) ∙ c.loop-object.invariant.1 in
    fails_out _ _ _ c.from_residual.result c.from_residual.ensures.0
    (last_cut (flat_map object_text os) c.args.words.now (decimal (length os)) _ _
    (next_of_cut object_text done o rest os _ _ _ all c.loop-object.invariant.2 c.in_err-write_object.ensures))

pub loop-object-init : goal.loop-object-init
loop-object-init g c = (
  [],
  c.into_iter-object-iterator.ensures.into_iter_gives ∙ c.iter-object-items.ensures,
  Appends-nil (g.W.Write.contents c.args.writer.now),
)
