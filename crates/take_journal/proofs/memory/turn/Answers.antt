use Rattle.std.proofs.Common.{◌≡◌, ◌∙◌, ◌∷◌, ◌++◌, [], ℕ, Vec, Global, ap}
use Rattle.take_journal.proofs.memory.turn.Goals as goal

pub returns-clause-ok : goal.returns-clause-ok
returns-clause-ok c =
    let v = c.replace.result in
    let w = c.replace-2.result in
    let one : c.push_reserved.new.self.items ≡ c.args.past.now.items ++ v ∷ [] =
    c.push_reserved.ensures.items ∙ ap (λ l. l ++ v ∷ []) c.reserve.ensures.items in (
      v,
      w,
      ap (λ (u : Vec ℕ Global). u.items) c.replace.ensures.value,
      ap (λ (u : Vec ℕ Global). u.items) c.replace-2.ensures.value,
      c.push_reserved-2.ensures.items ∙ ap (λ l. l ++ w ∷ []) one,
    )
