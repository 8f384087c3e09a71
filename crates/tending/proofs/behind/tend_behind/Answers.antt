use Rattle.std.proofs.Common.{Bool, subst}
use Rattle.std.specs.Prelude.{Option, Ok}
use Rattle.driving.specs.master.World.{world}
use Rattle.tending.specs.Tends.{MakesStep}
use Rattle.tending.proofs.Tended.{short_more}
use Rattle.tending.proofs.behind.tend_behind.Goals as goal

pub loop-made-preserved : goal.loop-made-preserved
loop-made-preserved g c =
    let old = world g.F.Fleet.state c.args.master.now in
    let mid = world g.F.Fleet.state c.loop-made.master in
    let new = world g.F.Fleet.state c.make_step.new.master in
    short_more c.args.policy.now c.loop-made.made c.in-Ok-Some.stops old mid new c.if-stops.false
    c.loop-made.invariant
    (subst (λ (o : Option Bool). MakesStep c.args.policy.now mid (Ok o) new) c.in-Ok-Some.field-0-is
    c.in-Ok-Some.ensures.makes) c.make_step.ensures.goes_on c.make_step.ensures.keeps
