use Rattle.std.proofs.Common.{◌≡◌, ◌++◌, List}
use Rattle.entry.specs.declared.entry.Object.{Object}
use Rattle.driving.specs.master.World.{world}
use Rattle.replay.specs.Adopting.{HasLoaded}
use Rattle.replay.specs.Fresh.{AreNew}
use Rattle.replay.proofs.adopting.load_all.Given as goal

abbrev pub invariant-loop-object : goal.invariant-loop-object
invariant-loop-object g l =
    (done : List Object) × (done ++ l.object-iterator ≡ l.fn.objects)
    × HasLoaded done (world g.F.Fleet.state l.fn.loading) (world g.F.Fleet.state l.loading)
    × AreNew l.loading.knows l.object-iterator
