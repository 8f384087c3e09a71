use Rattle.std.proofs.Common.{◌++◌, List, get_or, refl, sym, ap, ◌∙◌, rules, arith}
use Rattle.std.proofs.lemmas.List.Sorted.{IsPartitionPoint-from_clause}
use Rattle.entry.specs.declared.tablet.Tablet.{Tablet}
use Rattle.tablet_will.specs.declared.part.Part.{Part}
use Rattle.tablet_will.specs.declared.group.Start.{Start}
use Rattle.tablet_will.specs.Order.{is_up_to}
use Rattle.tablet_will.proofs.Cuts.{left, starts_parted, cut_begun, cut_rises, left_added}
use Rattle.tablet_will.proofs.cutting.cut.Goals as goal

pub loop-number-init : goal.loop-number-init
loop-number-init c =
    let t = c.args.tablet.now in
    let ss = c.args.starts.now in
    let at = c.partition_point-number.result in
    let ensures = c.partition_point-number.ensures in
    let parted = starts_parted ss t.table t.first c.requires.rising in
    let point = IsPartitionPoint-from_clause (λ (s : Start). is_up_to s.table s.place t.table t.first) ss at
    ensures.partitioned parted (λ a r q k. search rules) in (
      ensures.bound,
      ap (λ (ps : List Part). c.args.parts.now.items ++ ps)
          (cut_begun ss at t ensures.bound point.0),
      point.1,
    )

pub loop-number-preserved : goal.loop-number-preserved
loop-number-preserved c =
    let ss = c.args.starts.now in
    let n = c.loop-number.number in
    let t : Tablet = record c.args.tablet.now { first = c.loop-number.first } in
    let d : Start = record { table = 0; place = 0 } in
    let lt = c.loop-number-test.true in
    let later = c.loop-number.invariant.2 n d (omega arith) lt in
    let up = sym c.is_up_to.ensures ∙ c.if-is_up_to.true in (
      omega (arith, lt),
      left_added ss n t d c.loop-number.parts.items c.push.new.self.items (left n t (get_or ss n d)) lt later up refl
          c.in_ok-push.ensures.items ∙ c.loop-number.invariant.1,
      cut_rises ss n t d c.requires.rising lt later up,
    )
