use Rattle.std.proofs.Common.{◌≡◌, ◌∙◌, ap, ℕ, List, ◌∷◌, Option, Some, None, Result, Ok, Err}
use Rattle.std.specs.Prelude.{MatchResult}
use Rattle.disk_file.specs.declared.history.Call.{Call}
use Rattle.disk_file.specs.Events.{Event, outcome}
use Rattle.disk_file.proofs.noted.Noted.ask.Goals as goal
use Rattle.disk_file.proofs.noted.Noted.ask.Goals.{in-Ok, in-Err}

of_ok : {E : Type 0} (call : Call) (old new : List Event) (taken : Option ℕ) (answer : Result ℕ E) (n : ℕ)
    → new ≡ outcome call taken ∷ old → answer ≡ Ok n → taken ≡ Some n
    → MatchResult answer (λ n. new ≡ outcome call (Some n) ∷ old) (λ _. new ≡ outcome call None ∷ old)
of_ok call old new taken answer n noted answer_is taken_is =
    rw answer_is (noted ∙ ap (λ (t : Option ℕ). outcome call t ∷ old) taken_is)

of_err : {E : Type 0} (call : Call) (old new : List Event) (taken : Option ℕ) (answer : Result ℕ E) (e : E)
    → new ≡ outcome call taken ∷ old → answer ≡ Err e → taken ≡ None
    → MatchResult answer (λ n. new ≡ outcome call (Some n) ∷ old) (λ _. new ≡ outcome call None ∷ old)
of_err call old new taken answer e noted answer_is taken_is =
    rw answer_is (noted ∙ ap (λ (t : Option ℕ). outcome call t ∷ old) taken_is)

pub returns-clause-noted : goal.returns-clause-noted
returns-clause-noted c = elim c.match-answer.branch [
  | in-Ok w ↦ of_ok c.args.call _ _ c.match-answer.taken _ _ c.note.ensures.noted w.answer-is w.taken-is
  | in-Err w ↦
      of_err c.args.call _ _ c.match-answer.taken _ _ c.note.ensures.noted (w.answer-is ∙ w.in-Err.is) w.taken-is
]
