use Rattle.std.proofs.Common.{[], ◌∷◌, ◌++◌, ◌∙◌, subst}
use Rattle.std.specs.Prelude.{codes}
use Rattle.lines.specs.Texts.{number_text}
use Rattle.answers.specs.Errors.{Writes}
use Rattle.answers.proofs.Fronts.{line_pieces, writes_more, writes_nothing}
use Rattle.answers.proofs.fault.write_line.Goals.{in-Some, in_default}
use Rattle.answers.proofs.fault.write_line.Goals as goal

pub returns : goal.returns
returns g c =
    let words = c.args.words.now in
    let more = c.args.more.now in
    let number = number_text c.args.number in
    let first = c.write.new.self in
    let second = c.write-2.new.self in
    let third = c.write-3.new.self in
    let fourth = c.match-number.errors in
    let last = c.write-4.new.self in
    let named : Writes third fourth number = elim c.match-number.branch as (λ _. Writes third fourth number) [
      | in-Some w ↦ rw (w.errors-is, w.in-Some.is)
          (subst (Writes third w.write-in-Some.new.self) (w.as_bytes-in-Some.ensures.value
          ∙ w.format.ensures.text) w.write-in-Some.ensures)
      | in_default w ↦ rw (w.errors-is, w.in_default.is) (writes_nothing third)
    ] in
    subst (Writes c.args.errors.now last) (line_pieces (codes "ramlog: ") words more number (10 ∷ []))
    (writes_more c.args.errors.now first last (codes "ramlog: ")
    (words ++ (more ++ (number ++ 10 ∷ []))) c.write.ensures
    (writes_more first second last words (more ++ (number ++ 10 ∷ []))
    (subst (Writes first second) c.as_bytes.ensures.value c.write-2.ensures)
    (writes_more second third last more (number ++ 10 ∷ [])
    (subst (Writes second third) c.as_bytes-2.ensures.value c.write-3.ensures)
    (writes_more third fourth last number (10 ∷ []) named c.write-4.ensures))))
