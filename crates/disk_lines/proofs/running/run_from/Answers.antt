use Rattle.std.proofs.Common.{◌≡◌, ◌-◌, ◌^◌, ℕ, arith, subst}
use Rattle.std.specs.Prelude.{Option, Ok, Err}
use Rattle.disk_lines.specs.Turns.{TakesTurn}
use Rattle.disk_lines.proofs.Telling.{has_run_after, runs_after, runs_dry, starts_running}
use Rattle.disk_lines.proofs.running.run_from.Goals as goal

pub loop-number-init : goal.loop-number-init
loop-number-init g c = (
  omega arith,
  starts_running c.args.is_raw c.args.first c.args.store.now.master.knows
      (g.R.Read.remaining c.args.reader.now) (g.W.Write.contents c.args.writer.now),
)

pub loop-number-preserved : goal.loop-number-preserved
loop-number-preserved g c =
    let turn = subst (λ (o : Option ℕ). TakesTurn c.args.is_raw c.loop-number.number c.loop-number.store.master.knows
    c.tend_turn.new.store.master.knows (g.R.Read.remaining c.loop-number.reader)
    (g.R.Read.remaining c.tend_turn.new.reader) (g.W.Write.contents c.loop-number.writer)
    (g.W.Write.contents c.tend_turn.new.writer) (Ok o)) c.in-Ok-Some.field-0-is c.in-Ok-Some.ensures in (
      (let fits = rw (c.in-Ok-Some.is, c.in-Ok-Some.field-0-is) at c.tend_turn.type_inv in omega (arith, fits)),
      has_run_after c.args.is_raw c.args.first c.loop-number.number _ _ c.tend_turn.new.store.master.knows _ _
          (g.R.Read.remaining c.tend_turn.new.reader) _ _ (g.W.Write.contents c.tend_turn.new.writer)
          c.loop-number.invariant.1 c.in-Ok-Some.next turn.1,
    )

pub returns-in-Ok-None : goal.returns-in-Ok-None
returns-in-Ok-None g c =
    let turn = subst (λ (o : Option ℕ). TakesTurn c.args.is_raw c.loop-number.number c.loop-number.store.master.knows
    c.tend_turn.new.store.master.knows (g.R.Read.remaining c.loop-number.reader)
    (g.R.Read.remaining c.tend_turn.new.reader) (g.W.Write.contents c.loop-number.writer)
    (g.W.Write.contents c.tend_turn.new.writer) (Ok o)) c.in-Ok-None.field-0-is c.in-Ok-None.ensures in
    runs_after c.args.is_raw c.args.first c.loop-number.number _ _ c.tend_turn.new.store.master.knows _ _
    (g.R.Read.remaining c.tend_turn.new.reader) _ _ (g.W.Write.contents c.tend_turn.new.writer)
    c.loop-number.invariant.1 (Ok tt) turn

pub returns-in-Err : goal.returns-in-Err
returns-in-Err g c =
    runs_after c.args.is_raw c.args.first c.loop-number.number _ _ c.tend_turn.new.store.master.knows _ _
    (g.R.Read.remaining c.tend_turn.new.reader) _ _ (g.W.Write.contents c.tend_turn.new.writer)
    c.loop-number.invariant.1 (Err c.in-Err.fault) c.in-Err.ensures

pub returns : goal.returns
returns g c =
    let last : c.loop-number.number ≡ 2 ^ 64 - 1 = omega (
      arith,
      c.loop-number-test.false,
      c.loop-number.invariant.0,
    ) in
    runs_dry c.args.is_raw c.args.first _ _ _ _ _ _ c.loop-number.number last c.loop-number.invariant.1
