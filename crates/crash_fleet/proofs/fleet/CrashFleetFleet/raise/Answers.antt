use Rattle.std.proofs.Common.{◌≡◌, refl, sym, ◌∙◌, ap, subst}
use Rattle.replica.specs.Registry.{RaiseGives}
use Rattle.file_fleet.specs.Fleet.{ShowsBetween, TakesRaise, fleet_state}
use Rattle.file_fleet.specs.Noting.{noted_by}
use Rattle.crash_fleet.specs.Images.{images_of}
use Rattle.crash_fleet.specs.State.{IsUnder, state_under}
use Rattle.crash_fleet.specs.declared.power.Power.{Power}
use Rattle.crash_fleet.specs.declared.power.Power.TheVariants.{On}
use Rattle.crash_fleet.proofs.Cuts.{cut_raise}
use Rattle.crash_fleet.proofs.Showing.{images_amid}
use Rattle.crash_fleet.proofs.fleet.CrashFleetFleet.raise.Given.{Over}
use Rattle.crash_fleet.proofs.fleet.CrashFleetFleet.raise.Goals as goal

-- the power was cut amid the raise
cut : (g : Over) (c : goal.Joined-self-read_raise g)
    → RaiseGives (fleet_state (λ r. noted_by r) c.self.inside.files) c.args.master c.args.id
    c.raise-answer.result (state_under g.D.CrashImage.crash_image c.raise-answer.new.self c.read_raise.result)
    × IsUnder g.D.CrashImage.crash_image c.raise-answer.new.self c.read_raise.result
cut g c =
    let image = g.D.CrashImage.crash_image in
    let old = c.self.inside.files in
    let new = c.raise-answer.new.self in
    let on : c.self.inside.power ≡ On = c.is_on.ensures.0 c.if-not-is_on.false in
    cut_raise image old new c.args.master c.args.id c.raise-answer.result c.read_raise.result
    (c.is_fault.ensures c.if-is_fault.true) (sym c.takes.ensures ∙ c.if-takes.true ∙ c.takes-takes.ensures)
    c.raise-answer.ensures.gives
    (c.raise-answer.ensures.any_moment
    (subst (λ (p : Power g.row.D.Denot). IsUnder image old p) on c.self.invariant) (images_of image new.members)
    (images_amid g.D.Device.may_leave image g.met.D.CrashImage.may_be g.D.Device.clock g.D.Device.left_since
    g.met.D.CrashImage.counts old.members new.members))
    c.read_raise.ensures

pub invariant_of-self-then-takes : goal.invariant_of-self-then-takes
invariant_of-self-then-takes g c = (cut g c).1

pub returns-then-takes : goal.returns-then-takes
returns-then-takes g c =
    let image = g.D.CrashImage.crash_image in
    let on : c.self.inside.power ≡ On = c.is_on.ensures.0 c.if-not-is_on.false in
    rw (← c.self.view_is) (subst (λ (p : Power g.row.D.Denot). RaiseGives (state_under image c.self.inside.files p)
    c.args.master c.args.id c.raise-answer.result
    (state_under image c.raise-answer.new.self c.read_raise.result)) (sym on) (cut g c).0)
