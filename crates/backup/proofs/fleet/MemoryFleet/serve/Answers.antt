use Rattle.std.proofs.Common.{◌≡◌, ◌<◌, Some, refl, rules}
use Rattle.std.specs.List.{slice_get}
use Rattle.std.proofs.lemmas.Result.{err_from_is_err_and}
use Rattle.std.proofs.lemmas.Option.{slice_get_read}
use Rattle.replica.specs.Op.{shown_op}
use Rattle.backup.proofs.Pictures.{Change, taken_by}
use Rattle.backup.proofs.Serving.{served_by}
use Rattle.backup.proofs.fleet.MemoryFleet.serve.Goals as goal
use Rattle.backup.proofs.fleet.MemoryFleet.serve.Goals.{After-take}

changed : (c : After-take)
    → Change c.args.self.now.backups.items c.args.backup c.in-Some.memory.now c.take.new.self c.args.op.now.master
    c.args.op.now.segment
changed c =
    let backups = c.args.self.now.backups in
    let memory = c.in-Some.ensures in
    let is : slice_get backups.items c.args.backup ≡ Some c.in-Some.memory.now =
    slice_get_read _ _ c.args.backup _ backups.ok.0 (memory.variant.0 refl) memory.value in
    record { is = is; others = c.take.ensures.others }

left : (c : After-take) → c.args.self.now.takes < c.args.self.now.end
left c = search rules

pub returns-clause-serves : goal.returns-clause-serves
returns-clause-serves c =
    let fleet = c.args.self.now in
    let after = (goal.at.returns-clause-serves c).After-take in (
      _,
      (
        left after,
        taken_by _ c.args.backup _ _ (shown_op c.args.op.now) fleet.takes fleet.end fleet.faults _ _
            (changed after) c.in_ok-take.ensures.named,
      ),
      refl,
    )

pub returns-in_err-take-clause-serves : goal.returns-in_err-take-clause-serves
returns-in_err-take-clause-serves c =
    let fleet = c.args.self.now in
    let after = (goal.at.returns-in_err-take-clause-serves c).After-take in
    let p = err_from_is_err_and c.from_residual.result c.from_residual.ensures.1 in
    rw (p.1, p.2) (served_by _ c.args.backup _ _ (shown_op c.args.op.now) fleet.takes fleet.end fleet.faults _ _
    (changed after) c.in_err-take.field-0.0 (left after) c.in_err-take.ensures.named)
