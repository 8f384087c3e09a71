use Rattle.std.proofs.Common.{inl, refl, sym, ◌∙◌}
use Rattle.master_core.proofs.master_state.Refusals.{push_done}
use Rattle.master.proofs.pushing.push.Goals as goal

pub returns-in-None-clause-refused : goal.returns-in-None-clause-refused
returns-in-None-clause-refused g c =
    let done = c.in-None.ensures.next in
    inl (push_done c.args.core.now (sym c.is_halted.ensures ∙ c.if-is_halted.false) done.0 done.1, refl)

pub returns-in-None-clause-served : goal.returns-in-None-clause-served
returns-in-None-clause-served g c = (λ kept. kept, λ loaded. loaded)
