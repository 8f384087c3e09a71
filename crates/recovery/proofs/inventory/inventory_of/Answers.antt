use Rattle.std.proofs.Common.{arith, refl, get_or}
use Rattle.std.specs.Prelude.{Result, Ok, Err, OnErr}
use Rattle.std.proofs.lemmas.Result.{IfOk-from_err}
use Rattle.recovery.proofs.Asked.{all-more, left-shown}
use Rattle.recovery.proofs.AskedOnce.{all-asked, once-more}
use Rattle.recovery.proofs.inventory.inventory_of.Goals as goal

on_err : {T E P : Type 0} (r : Result T E) → P → OnErr r P
on_err (Ok _) _ = tt
on_err (Err _) holds = holds

pub returns-in_err-more-clause-shown : goal.returns-in_err-more-clause-shown
returns-in_err-more-clause-shown g c = IfOk-from_err c.from_residual.result _ c.from_residual.ensures.0

pub returns-in_err-more-clause-once : goal.returns-in_err-more-clause-once
returns-in_err-more-clause-once g c = IfOk-from_err c.from_residual.result _ c.from_residual.ensures.0

pub returns-in_err-more-clause-refused : goal.returns-in_err-more-clause-refused
returns-in_err-more-clause-refused g c = on_err c.from_residual.result (omega (arith, c.loop-backup-test.true))

pub returns-in_err-append-clause-shown : goal.returns-in_err-append-clause-shown
returns-in_err-append-clause-shown g c =
    IfOk-from_err c.from_residual-in_err-append.result _ c.from_residual-in_err-append.ensures.0

pub returns-in_err-append-clause-once : goal.returns-in_err-append-clause-once
returns-in_err-append-clause-once g c =
    IfOk-from_err c.from_residual-in_err-append.result _ c.from_residual-in_err-append.ensures.0

pub returns-in_err-append-clause-refused : goal.returns-in_err-append-clause-refused
returns-in_err-append-clause-refused g c =
    on_err c.from_residual-in_err-append.result (omega (arith, c.loop-backup-test.true))

pub loop-backup-preserved : goal.loop-backup-preserved
loop-backup-preserved g c =
    let picture = (g.F.Fleet.state c.args.fleet.now).picture in
    let kept = c.args.kept.now in
    let i = c.loop-backup.backup-index in
    let before = c.loop-backup.invariant in
    let list = c.loop-backup.list.items in
    let more = c.in_ok-more.more.items in
    record {
      all =
          all-more picture kept i (get_or kept i 0) list more c.append.new.self.items (omega arith) refl
          c.in_ok-append.ensures.items
          c.in_ok-more.ensures.shown before.all;
      once =
          once-more picture kept i (get_or kept i 0) list more c.append.new.self.items (omega arith) refl
          c.in_ok-append.ensures.items
          c.in_ok-more.ensures.shown c.in_ok-more.ensures.once before.all before.once;
    }

pub returns-clause-shown : goal.returns-clause-shown
returns-clause-shown g c =
    let asked = all-asked _ _ _ _ c.loop-backup-test.false c.loop-backup.invariant in
    rw c.new.ensures (left-shown _ _ _ asked.all)

pub returns-clause-once : goal.returns-clause-once
returns-clause-once g c =
    let asked = all-asked _ _ _ _ c.loop-backup-test.false c.loop-backup.invariant in
    rw c.new.ensures asked.once

pub returns-clause-refused : goal.returns-clause-refused
returns-clause-refused g c = tt
