use Rattle.std.proofs.Common.{◌≡◌, ℕ, ◌<◌, ◌≤◌, length, true, false, Vec, Global, subst, sym, ap, ◌∙◌, arith}
use Rattle.std.specs.Prelude.{Option}
use Rattle.std.proofs.Math.ListN.{set}
use Rattle.std.proofs.lemmas.Bool.{lt-ltb, le-ltb}
use Rattle.master_state.specs.declared.waiting.Waiting.{Waiting}
use Rattle.master_state.specs.Steps.{lost_waiting, still_waits, less_by}
use Rattle.master_state.proofs.LostWaits.{read_old, kept_front, gone_front, kept_back, gone_back, kept_count, all_at}
use Rattle.master_state.proofs.Homes.{working_many}
use Rattle.master_state.proofs.losing.lose_waiting.Goals as goal
use Rattle.master_state.proofs.losing.lose_waiting.Goals.{then-one, else-one}

pub place_in-gone-requires-clause-replicas : goal.place_in-gone-requires-clause-replicas
place_in-gone-requires-clause-replicas c =
    let test = c.loop-place-test.true in
    let len = c.len-place-end.ensures in
    let lt : c.loop-place.place < length c.args.waiting.now.items = omega arith in
    let x : Waiting = c.index-one.result.now in
    let old = read_old c.args.waiting.now.items c.loop-place.waiting.items c.loop-place.kept c.loop-place.place
    (lost_waiting c.args.config.now c.args.failed.now c.args.backup) still_waits x c.loop-place.invariant.0
    lt c.loop-place.invariant.2 c.loop-place.invariant.3 c.loop-place.invariant.4
    c.index-one.ensures in
    let few = subst (λ (w : Waiting). (w.freed < w.replicas) × (w.replicas ≤ c.args.config.now.replicas)) old
    (all_at (λ (w : Waiting). (w.freed < w.replicas) × (w.replicas ≤ c.args.config.now.replicas))
    c.args.waiting.now.items c.loop-place.place x c.requires.replicas lt) in
    let most = few.1 in
    let many = working_many c.args.config.now c.args.failed.now x.segment c.args.config.now.replicas
    c.requires.left in
    omega arith

pub loop-place-preserved : goal.loop-place-preserved
loop-place-preserved c =
    let test = c.loop-place-test.true in
    let len = c.len-place-end.ensures in
    let lt : c.loop-place.place < length c.args.waiting.now.items = omega arith in
    let x : Waiting = c.index-one.result.now in
    let inv = c.loop-place.invariant in
    let y : Waiting = record x { freed = c.less_by.result; replicas = c.less_by-in-loop-place.result } in
    let own : y ≡ lost_waiting c.args.config.now c.args.failed.now c.args.backup x =
    λ i. record x {
      freed = (c.less_by.ensures ∙ ap (λ (q : Option ℕ). less_by x.freed q) c.place_in-gone.ensures.place) i;
      replicas = (c.less_by-in-loop-place.ensures
          ∙ ap (λ (q : Option ℕ). less_by x.replicas q) c.place_in-gone.ensures.place) i;
    } in
    elim c.if-one.branch [
      | then-one w ↦
          let is : c.if-one.waiting.items ≡ set c.loop-place.waiting.items c.loop-place.kept y =
          ap (λ (v : Vec Waiting Global). v.items) w.waiting-is in
          let waits : still_waits (lost_waiting c.args.config.now c.args.failed.now c.args.backup x) ≡ true =
          ap still_waits (sym own) ∙ lt-ltb c.less_by.result c.less_by-in-loop-place.result w.if-one.true in
          rw (is, w.kept-is) (
            omega arith,
            omega arith,
            kept_count c.args.waiting.now.items c.loop-place.waiting.items c.loop-place.kept c.loop-place.place
                (lost_waiting c.args.config.now c.args.failed.now c.args.backup) still_waits x inv.0 lt inv.2 inv.3
                inv.4 c.index-one.ensures y,
            kept_front c.args.waiting.now.items c.loop-place.waiting.items c.loop-place.kept c.loop-place.place
                (lost_waiting c.args.config.now c.args.failed.now c.args.backup) still_waits x inv.0 lt inv.2 inv.3
                inv.4 c.index-one.ensures y own waits,
            kept_back c.args.waiting.now.items c.loop-place.waiting.items c.loop-place.kept c.loop-place.place
                (lost_waiting c.args.config.now c.args.failed.now c.args.backup) still_waits x inv.0 lt inv.2 inv.3
                inv.4 c.index-one.ensures y,
          )
      | else-one w ↦
          let gone : still_waits (lost_waiting c.args.config.now c.args.failed.now c.args.backup x) ≡ false =
          ap still_waits (sym own) ∙ le-ltb c.less_by.result c.less_by-in-loop-place.result w.if-one.false in
          rw (w.waiting-is, w.kept-is) (
            omega arith,
            omega arith,
            inv.2,
            gone_front c.args.waiting.now.items c.loop-place.waiting.items c.loop-place.kept c.loop-place.place
                (lost_waiting c.args.config.now c.args.failed.now c.args.backup) still_waits x inv.0 lt inv.2 inv.3
                inv.4 c.index-one.ensures gone,
            gone_back c.args.waiting.now.items c.loop-place.waiting.items c.loop-place.kept c.loop-place.place
                (lost_waiting c.args.config.now c.args.failed.now c.args.backup) still_waits x inv.0 lt inv.2 inv.3
                inv.4 c.index-one.ensures,
          )
    ]
