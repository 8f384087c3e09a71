use Rattle.std.proofs.Common.{refl, sym, ◌∙◌, arith}
use Rattle.std.proofs.lemmas.Bool.{le-leb, leb-true}
use Rattle.master_state.proofs.config.Config.has_backups.Goals.{then-self-ge1, else-self-ge1}
use Rattle.master_state.proofs.config.Config.has_backups.Goals as goal

pub returns-then-self : goal.returns-then-self
returns-then-self c = elim c.if-self-ge1.branch [
  | then-self-ge1 w ↦ rw (le-leb _ _ w.if-self-ge1.true, sym w.value-is ∙ c.if-self.true) refl
  | else-self-ge1 w ↦ absurd (let some = leb-true 1 c.args.self.now.replicas (sym w.value-is ∙ c.if-self.true) in
      let none = w.if-self-ge1.false in omega arith)
]
