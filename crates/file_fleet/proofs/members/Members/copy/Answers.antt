use Rattle.std.proofs.Common.{◌≡◌, Some, refl, sym, subst}
use Rattle.std.specs.List.{slice_get}
use Rattle.std.specs.Prelude.{OnOk}
use Rattle.std.proofs.lemmas.Option.{slice_get_read}
use Rattle.file_backup.specs.Mirror.{IsJournalOf}
use Rattle.file_backup.specs.Replay.{Replicas}
use Rattle.file_fleet.proofs.Pictures.{seen}
use Rattle.file_fleet.proofs.members.Members.copy.Goals as goal

pub returns-in-Some-clause-copied : goal.returns-in-Some-clause-copied
returns-in-Some-clause-copied g c =
    let members = c.args.self.now.list.items in
    let member = c.in-Some.member.now in
    let found = c.in-Some.ensures.lookup in
    let at : slice_get members c.args.backup ≡ Some member =
    rw c.as_slice.ensures.value at (slice_get_read _ _ c.args.backup member refl found.3.0 found.1) in
    subst (λ (p : Replicas). OnOk c.copy_to.result
    (IsJournalOf g.D.Device.contents g.D.Device.may_leave g.D.Device.has_failed p c.copy_to.new.journal))
    (sym (seen members c.args.backup member at)) c.copy_to.ensures.copied
