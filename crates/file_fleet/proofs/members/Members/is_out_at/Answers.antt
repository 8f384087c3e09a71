use Rattle.std.proofs.Common.{◌≡◌, List, Some, length, ltb, refl, sym, ◌∙◌, ap}
use Rattle.std.specs.List.{slice_get}
use Rattle.std.proofs.lemmas.Bool.{false≢true, lt-ltb}
use Rattle.std.proofs.lemmas.Option.{same_Some, slice_get_read, slice_get_within}
use Rattle.file_backup.specs.Mirror.{is_out}
use Rattle.file_fleet.specs.declared.member.Member.{Member}
use Rattle.file_fleet.proofs.members.Members.is_out_at.Goals as goal

pub returns-in-Some : goal.returns-in-Some
returns-in-Some g c =
    let members = c.args.self.now.list.items in
    let member = c.in-Some.member.now in
    let found = c.in-Some.ensures.lookup in
    let at : slice_get members c.args.backup ≡ Some member =
    rw c.as_slice.ensures.value at (slice_get_read _ _ c.args.backup member refl found.3.0 found.1) in (
      λ is. (member, at, sym c.is_out.ensures ∙ is),
      λ out. c.is_out.ensures ∙ ap (λ (h : Member g.row.D.Denot). is_out h.backup)
          (same_Some member out.0 (sym at ∙ out.1)) ∙ out.2,
    )

pub returns-in-None : goal.returns-in-None
returns-in-None g c =
    let members = c.args.self.now.list.items in (
      λ is. absurd (false≢true is),
      λ out. c.in-None.ensures.lookup.0
          ∙ ap (λ (l : List (Member g.row.D.Denot)). ltb c.args.backup (length l)) c.as_slice.ensures.value
          ∙ lt-ltb c.args.backup (length members) (slice_get_within members c.args.backup out.0 out.1),
    )
