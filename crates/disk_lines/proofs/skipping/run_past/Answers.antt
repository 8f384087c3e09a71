use Rattle.std.proofs.Common.{◌≡◌, ◌-◌, ◌^◌, arith}
use Rattle.disk_lines.proofs.Past.{dry_past, ends_past, fails_past, skips_more}
use Rattle.disk_lines.proofs.skipping.run_past.Goals as goal

pub returns-in-Ok : goal.returns-in-Ok
returns-in-Ok g c =
    ends_past c.args.is_raw c.args.keeps_going _ _ _ _ c.loop-first.first _ _ _ _ _ c.loop-first.invariant.1
    c.run_from.new.store.master.knows (g.R.Read.remaining c.run_from.new.reader)
    (g.W.Write.contents c.run_from.new.writer) c.in-Ok.ensures

pub loop-first-preserved : goal.loop-first-preserved
loop-first-preserved g c = (
  (let fits = rw c.in-Some.is at c.skip.type_inv in omega (arith, fits)),
  skips_more c.args.is_raw c.args.keeps_going _ _ _ _ c.loop-first.first _ _ _ _ _ c.loop-first.invariant.1
      c.in-Err.fault c.in-Some.next c.run_from.new.store.master.knows (g.R.Read.remaining c.run_from.new.reader)
      (g.W.Write.contents c.run_from.new.writer) c.skip.new.errors c.in-Err.ensures c.in-Some.ensures,
)

pub returns-in-None : goal.returns-in-None
returns-in-None g c =
    fails_past c.args.is_raw c.args.keeps_going _ _ _ _ c.loop-first.first _ _ _ _ _ c.loop-first.invariant.1
    c.in-Err.fault c.run_from.new.store.master.knows (g.R.Read.remaining c.run_from.new.reader)
    (g.W.Write.contents c.run_from.new.writer) c.skip.new.errors c.in-Err.ensures c.in-None.ensures

pub returns : goal.returns
returns g c =
    let last : c.loop-first.first ≡ 2 ^ 64 - 1 = omega (arith, c.loop-first-test.false, c.loop-first.invariant.0) in
    dry_past c.args.is_raw c.args.keeps_going _ _ _ _ c.loop-first.first _ _ _ _ _ c.loop-first.invariant.1 last
