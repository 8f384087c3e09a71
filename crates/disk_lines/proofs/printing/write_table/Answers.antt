use Rattle.std.proofs.Common.{[], ◌∷◌, ◌++◌, List, inl, inr, refl, subst, sym}
use Rattle.std.specs.Prelude.{codes}
use Rattle.entry.specs.declared.entry.Object.{Object}
use Rattle.answers.specs.driving.master.master_space.Objects.{AreObjectsOf}
use Rattle.answers.specs.driving.master.master_state.Log.{state_now}
use Rattle.raw_answers.specs.Texts.{listed_in}
use Rattle.disk_lines.proofs.printing.write_table.Goals as goal

pub returns-in-Ok : goal.returns-in-Ok
returns-in-Ok g c =
    let objects : List Object = c.new.result in
    let are = subst (AreObjectsOf (state_now c.args.store.now.master.knows).contents c.args.table) (sym c.new.ensures)
    c.in-Ok.ensures in
    (listed_in c.args.is_raw objects, inl (objects, are, refl), (refl, c.in-Err-write_told.ensures))

pub returns : goal.returns
returns g c = (codes "refused NoMemory" ++ 10 ∷ [], inr refl, c.write_bytes.ensures)
