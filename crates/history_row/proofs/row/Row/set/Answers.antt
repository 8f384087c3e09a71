use Rattle.std.proofs.Common.{ap, ◌∙◌, ◌-◌, ℕ, Some, MatchBool, ◌≡◌, subst}
use Rattle.std.specs.Prelude.{slice_set}
use Rattle.std.proofs.Math.Seq.{map-set_same}
use Rattle.versioned_map.specs.declared.command.Record.{Record}
use Rattle.history_row.specs.Rows.{row_of}
use Rattle.history_row.proofs.Slots.{put_slot}
use Rattle.history.specs.View.{shown_record}
use Rattle.history_row.proofs.row.Row.set.Goals as goal

pub invariant_of-self : goal.invariant_of-self
invariant_of-self g c = (
  c.self.invariant.0,
  map-set_same (λ s. s.note.cell) c.self.inside.slots.items (c.args.place - c.self.inside.start) c.set.new.self
      c.index_mut-slot.result.now
      (c.set.ensures.cell ∙ ap (λ s. s.note.cell) c.index_mut-slot.ensures.value) ∙ c.self.invariant.1,
)

pub returns : goal.returns
returns g c =
    let xs = c.self.inside.slots.items in
    let at = c.args.place - c.self.inside.start in
    let row = row_of (slice_set xs at c.set.new.self) in
    subst (λ (n : ℕ). MatchBool c.set.result
    (row ≡ slice_set c.args.self.now (c.args.place - n) (Some (shown_record c.args.what.now)))
    (row ≡ c.args.self.now)) c.self.invariant.0
    (subst (λ l. MatchBool c.set.result (row ≡ slice_set l at (Some (shown_record c.args.what.now))) (row ≡ l))
    (c.self.view_is ∙ c.in-Some.ensures.same)
    (subst (λ (w : Record). MatchBool c.set.result (row ≡ slice_set (row_of xs) at (Some w))
    (row ≡ row_of xs)) c.in-Some.ensures.record
    (put_slot c.set.result xs at c.index_mut-slot.result.now c.set.new.self c.in-Some.kept.value
    c.index_mut-slot.ensures.value c.set.ensures.known)))
