use Rattle.std.proofs.Common.{ℕ, sym, subst}
use Rattle.master.specs.World.{world}
use Rattle.driving.specs.Cleans.{IsCleaned}
use Rattle.driving.proofs.Cleaned.{begun_calm, cleaned}
use Rattle.driving.proofs.PassSteps.{spent_clean}
use Rattle.driving.proofs.whole_pass.clean_all.Goals as goal

pub turn_all-requires : goal.turn_all-requires
turn_all-requires g c =
    begun_calm (world g.F.Fleet.state c.mend_all.new.master) (world g.F.Fleet.state c.step.new.self) c.args.victims
    c.in-Ok-Begun.field-0 c.in-Ok-Begun.ensures.gives

pub returns-in-Ok-turn_all-clause-cleaned : goal.returns-in-Ok-turn_all-clause-cleaned
returns-in-Ok-turn_all-clause-cleaned g c =
    let state = g.F.Fleet.state in
    let old = world state c.args.master.now in
    let new = world state c.turn_all.new.master in
    subst (λ (id : ℕ). IsCleaned old c.args.victims c.in-Ok-Begun.survivors id new) (sym c.head.ensures)
    (cleaned old (world state c.mend_all.new.master) (world state c.step.new.self) new c.args.victims
    c.in-Ok-Begun.survivors c.in-Ok-Begun.field-0 c.in-Ok-Begun.field-0-is c.in_ok-mend_all.ensures.mended
    c.in-Ok-Begun.ensures.gives c.show_kept.ensures.core c.in-Ok-turn_all.ensures.turned)

pub returns-clause-spent : goal.returns-clause-spent
returns-clause-spent g c = λ is. absurd (spent_clean _ _ c.args.victims _ c.in-Err.ensures.gives is)
