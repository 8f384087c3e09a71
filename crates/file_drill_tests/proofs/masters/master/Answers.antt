use Rattle.std.proofs.Common.{[], ◌≡◌, ◌∙◌, ◌∷◌, ◌++◌, ap, map}
use Rattle.std.specs.Prelude.{Some, None, set}
use Rattle.take_journal.specs.Memory.{memory_bytes}
use Rattle.file_drill_tests.proofs.Fresh.{fleet_holds_nothing}
use Rattle.file_drill_tests.proofs.masters.master.Goals as goal

pub new-requires-3-clause-none : goal.new-requires-3-clause-none
new-requires-3-clause-none c = λ b s.
    let h = c.in-Ok-begin_member.member in
    let missing = c.in-Ok-add_missing.ensures.added ∙ ap (λ l. l ++ None ∷ []) c.new-found.ensures.none in
    let places : map Some c.new-fleet.result.files.members.list.items ≡ Some h ∷ [] =
    ap (λ v. map Some v.members.list.items) c.new-fleet.ensures.files ∙ c.in-Ok-into_members.ensures.members
    ∙ c.in-Ok-put.ensures.put ∙ ap (λ l. set l 0 (Some h)) missing in
    fleet_holds_nothing memory_bytes c.new-fleet.result.files c.new-fleet.result.power h b c.in-Some.config.master s
    c.new-fleet.ensures.on places c.in-Ok-begin_member.ensures.fresh.nothing
