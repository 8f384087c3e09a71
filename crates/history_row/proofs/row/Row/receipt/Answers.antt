use Rattle.std.proofs.Common.{◌<◌, ◌-◌, length, Some, refl, sym, ap, ◌∙◌, arith}
use Rattle.std.specs.Prelude.{slice_get}
use Rattle.std.proofs.Math.Seq.{map-set_same}
use Rattle.std.proofs.lemmas.List.{length-map}
use Rattle.history_row.specs.Rows.{names, row_of, known_of}
use Rattle.history_row.proofs.Slots.{at_slot, at_name}
use Rattle.history_row.proofs.row.Row.receipt.Goals as goal

pub invariant_of-self : goal.invariant_of-self
invariant_of-self g c = (
  c.self.invariant.0,
  map-set_same (λ s. s.note.cell) c.self.inside.slots.items (c.args.place - c.self.inside.start) c.again.new.self
      c.index_mut-slot.result.now
      (ap (λ n. n.cell) c.again.ensures.same ∙ ap (λ s. s.note.cell) c.index_mut-slot.ensures.value)
      ∙ c.self.invariant.1,
)

pub returns-clause-same : goal.returns-clause-same
returns-clause-same g c =
    map-set_same (λ s. known_of s.note.known) c.self.inside.slots.items (c.args.place - c.self.inside.start)
    c.again.new.self
    c.index_mut-slot.result.now (ap (λ n. known_of n.known) c.again.ensures.same
    ∙ ap (λ s. known_of s.note.known) c.index_mut-slot.ensures.value) ∙ c.self.view_is

pub returns-clause-receipt : goal.returns-clause-receipt
returns-clause-receipt g c =
    let xs = c.self.inside.slots.items in
    let at = c.args.place - c.self.inside.start in
    let here : at < length xs = omega (
      arith,
      length-map xs (λ s. known_of s.note.known),
      ap length c.self.view_is,
      c.self.invariant.0,
      c.requires,
    ) in (
      refl,
      ap (λ l. slice_get l (c.args.place - g.B.Labels.start)) (sym c.self.view_is)
          ∙ ap (λ n. slice_get (row_of xs) (c.args.place - n)) (sym c.self.invariant.0)
          ∙ at_slot xs at c.index_mut-slot.result.now here c.index_mut-slot.ensures.value
          ∙ ap (λ n. Some (known_of n.known)) (sym c.again.ensures.note),
    )

pub invariant_of-result : goal.invariant_of-result
invariant_of-result g c =
    let xs = c.self.inside.slots.items in
    let at = c.args.place - c.self.inside.start in
    let here : at < length xs = omega (
      arith,
      length-map xs (λ s. known_of s.note.known),
      ap length c.self.view_is,
      c.self.invariant.0,
      c.requires,
    ) in (
      c.requires.0,
      ap (λ l. slice_get l (c.args.place - g.B.Labels.start)) (sym c.self.invariant.1)
          ∙ ap (λ n. slice_get (names xs) (c.args.place - n)) (sym c.self.invariant.0)
          ∙ at_name xs at c.index_mut-slot.result.now here c.index_mut-slot.ensures.value
          ∙ ap (λ n. Some n.cell) (sym c.again.ensures.note),
    )
