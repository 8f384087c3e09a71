use Rattle.std.proofs.Common.{◌++◌, ◌∷◌, [], ◌<◌, ◌-◌, ℕ, Option, List, length, take, drop, ap, ◌∙◌, refl, subst}
use Rattle.std.proofs.Common.{arith}
use Rattle.std.specs.Prelude.{IfSome}
use Rattle.entry.specs.View.{shown}
use Rattle.segment.proofs.RowLemmas.{front_of-len}
use Rattle.tablet_will.specs.Parts.{partitions_of}
use Rattle.division.specs.declared.gathered.Gathered.{Gathered}
use Rattle.division.specs.Gathering.{AreEmpty}
use Rattle.division.proofs.Ahead.{ahead_some}
use Rattle.division.proofs.Gatherings.{gathering_first, gathering_end, gathering_none, gathering_more}
use Rattle.division.proofs.Gatherings.{gathered_len}
use Rattle.division.proofs.dividing.gather.Goals.{in-Some+in_ok-make_room, in_default-2}
use Rattle.division.proofs.dividing.gather.Goals as goal

pub loop-at-init : goal.loop-at-init
loop-at-init c =
    gathering_first c.args.will.now c.args.segment.now c.bytes-text.result.now c.in_ok-all.all.items
    c.bytes-text.ensures.text c.bytes-text.ensures.valid.each
    (subst (λ (n : ℕ). AreEmpty n c.in_ok-all.all.items) c.partitions.ensures.count c.in_ok-all.ensures)

pub unreachable-requires : goal.unreachable-requires
unreachable-requires c =
    let h = c.loop-at.invariant in
    ahead_some c.bytes-text.result.now c.loop-at.at h.left c.in_default.field-0 h.ahead c.loop-at-test.true
    c.in_default.ensures.fault

pub index_mut-gathered-requires : goal.index_mut-gathered-requires
index_mut-gathered-requires c =
    let qs = c.args.will.now in
    let lt : c.in-Some.partition < partitions_of qs =
    subst (λ (o : Option ℕ). IfSome o (λ m. m < partitions_of qs)) c.in-Some.is c.in_ok-partition.ensures.2 in
    let long =
    gathered_len qs c.args.segment.now c.bytes-text.result.now c.loop-at.at c.loop-at.all.items c.loop-at.invariant in
    omega (arith, lt, long, c.loop-at.all.ok.0)

pub loop-at-smaller : goal.loop-at-smaller
loop-at-smaller c =
    let bytes = take (length c.bytes-text.result.now - c.loop-at.at) (drop c.loop-at.at c.bytes-text.result.now) in
    let some : 0 < c.in-Ok.taken =
    (front_of-len bytes (shown c.in-Ok.entry) c.in-Ok.taken c.in-Ok.ensures.front).0 in
    let more : c.loop-at.at < length c.bytes-text.result.now = c.loop-at-test.true in
    omega (arith, some, more)

pub loop-at-preserved : goal.loop-at-preserved
loop-at-preserved c =
    let qs = c.args.will.now in
    let es = c.args.segment.now in
    let text = c.bytes-text.result.now in
    let at = c.loop-at.at in
    let gs = c.loop-at.all.items in
    let e = shown c.in-Ok.entry in
    elim c.match-branch-3.branch [
      | in-Some+in_ok-make_room w ↦
          let lt : w.in-Some.partition < partitions_of qs =
          subst (λ (o : Option ℕ). IfSome o (λ m. m < partitions_of qs)) w.in-Some.is c.in_ok-partition.ensures.2 in
          let old = w.index_mut-gathered.result.now in
          let new : Gathered = record { partition = old.partition; places = w.push_reserved.new.self } in
          rw w.all-is (gathering_more qs es text at gs c.loop-at.invariant e c.in-Ok.taken c.in-Ok.ensures.front
          w.in-Some.partition old new lt w.index_mut-gathered.ensures.value refl
          (w.push_reserved.ensures.items ∙ ap (λ (ps : List ℕ). ps ++ at ∷ []) w.in_ok-make_room.ensures.items)
          (c.in_ok-partition.ensures.0 ∙ w.in-Some.is) c.in_ok-partition.ensures.1)
      | in_default-2 w ↦
          rw w.all-is (gathering_none qs es text at gs c.loop-at.invariant e c.in-Ok.taken c.in-Ok.ensures.front
          (c.in_ok-partition.ensures.0 ∙ w.in_default-2.is) c.in_ok-partition.ensures.1)
    ]

pub returns-clause-ok : goal.returns-clause-ok
returns-clause-ok c =
    (gathering_end c.args.will.now c.args.segment.now c.bytes-text.result.now c.loop-at.at c.loop-at.all.items
    c.bytes-text.ensures.text c.loop-at.invariant (omega (arith, c.loop-at-test.false))).0

pub returns-clause-covered : goal.returns-clause-covered
returns-clause-covered c =
    (gathering_end c.args.will.now c.args.segment.now c.bytes-text.result.now c.loop-at.at c.loop-at.all.items
    c.bytes-text.ensures.text c.loop-at.invariant (omega (arith, c.loop-at-test.false))).1
