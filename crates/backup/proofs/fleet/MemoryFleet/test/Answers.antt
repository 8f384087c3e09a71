use Rattle.std.proofs.Common.{◌≡◌, ◌<◌, Some, refl, sym, ap, rules}
use Rattle.std.specs.List.{slice_get}
use Rattle.std.proofs.lemmas.Option.{slice_get_read}
use Rattle.replica.specs.Op.{shown_op}
use Rattle.backup.specs.Slots.{Slots, Place, found_in}
use Rattle.backup.proofs.Pictures.{Change}
use Rattle.backup.proofs.Serving.{fits_fleet, wrong_fleet, same_fleet}
use Rattle.backup.proofs.fleet.MemoryFleet.test.Goals as goal
use Rattle.backup.proofs.fleet.MemoryFleet.test.Goals.{After-fits}

changed : (c : After-fits)
    → Change c.args.self.now.backups.items c.args.backup c.in-Some.named.now c.fits.new.self c.args.op.now.master
    c.args.op.now.segment
changed c =
    let backups = c.args.self.now.backups in
    let memory = c.in-Some.ensures in
    let is : slice_get backups.items c.args.backup ≡ Some c.in-Some.named.now =
    slice_get_read _ _ c.args.backup _ backups.ok.0 (memory.variant.0 refl) memory.value in
    record { is = is; others = λ n t other. ap (λ (slots : Slots). found_in slots (n, t)) c.fits.ensures.same }

left : (c : After-fits) → c.args.self.now.takes < c.args.self.now.end
left c = search rules

pub returns-then-fits-clause-serves : goal.returns-then-fits-clause-serves
returns-then-fits-clause-serves c =
    let fleet = c.args.self.now in
    let after = (goal.at.returns-then-fits-clause-serves c).After-fits in
    fits_fleet fleet.backups.items c.args.backup _ _ (shown_op c.args.op.now) fleet.takes fleet.end fleet.faults _ _
    (changed after) (left after) (sym c.if-fits.ensures.fits)

pub returns-then-fits-clause-same : goal.returns-then-fits-clause-same
returns-then-fits-clause-same c =
    let fleet = c.args.self.now in
    let after = (goal.at.returns-then-fits-clause-same c).After-fits in
    let place : Place = (c.args.op.now.master, c.args.op.now.segment) in
    same_fleet fleet.backups.items c.args.backup _ _ (shown_op c.args.op.now) fleet.takes fleet.end fleet.faults _ _
    (changed after) (ap (λ (slots : Slots). found_in slots place) c.fits.ensures.same)

pub returns-else-fits-clause-serves : goal.returns-else-fits-clause-serves
returns-else-fits-clause-serves c =
    let fleet = c.args.self.now in
    let after = (goal.at.returns-else-fits-clause-serves c).After-fits in (
      _,
      (
        wrong_fleet fleet.backups.items c.args.backup _ _ (shown_op c.args.op.now) fleet.takes fleet.end
            fleet.faults _ _ (changed after) (left after) (sym c.if-fits.ensures.fits),
        refl,
      ),
    )

pub returns-else-fits-clause-same : goal.returns-else-fits-clause-same
returns-else-fits-clause-same c =
    let fleet = c.args.self.now in
    let after = (goal.at.returns-else-fits-clause-same c).After-fits in
    let place : Place = (c.args.op.now.master, c.args.op.now.segment) in
    same_fleet fleet.backups.items c.args.backup _ _ (shown_op c.args.op.now) fleet.takes fleet.end fleet.faults _ _
    (changed after) (ap (λ (slots : Slots). found_in slots place) c.fits.ensures.same)
