use Rattle.std.proofs.Common.{◌≡◌, ◌∙◌, ◌∷◌, arith, inr, refl, subst, sym}
use Rattle.take_journal.specs.Crash.{IsTail}
use Rattle.take_journal.specs.Frames.{end_of}
use Rattle.take_journal.proofs.Fronts.{front_iff}
use Rattle.take_journal.proofs.Numbers.{AreBytes}
use Rattle.take_journal.proofs.Splitting.{end_of-none, end_of-some}
use Rattle.take_journal.proofs.opening.is_front.Goals as goal

pub returns-in-None : goal.returns-in-None
returns-in-None c =
    let behind = c.args.behind.now in
    let fits : AreBytes behind = λ i. omega (arith, c.type_inv.behind i) in
    let tail = inr (inr (behind, end_of-none (1 ∷ behind) c.in-None.ensures)) in
    (λ _. (front_iff behind fits).0 tail, λ _. refl)

pub returns-in-Some : goal.returns-in-Some
returns-in-Some c =
    let behind = c.args.behind.now in
    let fits : AreBytes behind = λ i. omega (arith, c.type_inv.behind i) in
    let is : c.end_of_frames.result.now ≡ end_of (1 ∷ behind) =
    c.end_of_frames.ensures
    ∙ sym (end_of-some (1 ∷ behind) c.in-Some.field-0-0.now c.in-Some.rest.now c.in-Some.ensures.0) in (
      λ told. (front_iff behind fits).0 (subst IsTail is (c.is_tail.ensures.0 told)),
      λ front. c.is_tail.ensures.1 (subst IsTail (sym is) ((front_iff behind fits).1 front)),
    )
