use Rattle.std.proofs.Common.{◌≡◌, ◌∙◌, List, ap, arith, length, max, subst}
use Rattle.replica.specs.declared.holding.Holding.{Holding}
use Rattle.file_fleet.specs.Fleet.{fleet_state}
use Rattle.file_fleet.specs.declared.members.Members.{Members}
use Rattle.embedded.specs.Next.{greatest_of}
use Rattle.file_store.proofs.Numbers.{none_above, one_more}
use Rattle.file_store.proofs.starting.next_number.Goals as goal

pub loop-backup-preserved : goal.loop-backup-preserved
loop-backup-preserved g c =
    let held = c.in_ok-holdings.holdings.items in
    let before = c.loop-backup.greatest in
    let after = c.greatest_in-greatest.result in
    let is : after ≡ max before (greatest_of held) =
    subst (λ (hs : List Holding). after ≡ max before (greatest_of hs)) c.as_slice.ensures.value
    c.greatest_in-greatest.ensures in
    let least = c.loop-backup.invariant.0 in (
      omega (arith, is, least),
      one_more (fleet_state g.R.FleetRegistry.noted c.args.fleet.now).picture held c.loop-backup.backup before after
          c.in_ok-holdings.ensures.shown is c.loop-backup.invariant.1,
    )

pub returns-in-Some-clause-unused : goal.returns-in-Some-clause-unused
returns-in-Some-clause-unused g c =
    let end = c.loop-backup-test.false in
    let bound : c.backups-backup-end.result ≡ length c.args.fleet.now.members.list.items =
    c.backups-backup-end.ensures ∙ ap (λ (m : Members g.row.D.Denot g.row.R.Denot). length m.list.items)
    c.members.ensures in
    let number = c.in-Some.ensures in
    none_above c.args.fleet.now.members.list.items c.loop-backup.backup c.loop-backup.greatest c.in-Some.number
    (omega (arith, end, bound)) (omega (arith, number)) c.loop-backup.invariant.1
