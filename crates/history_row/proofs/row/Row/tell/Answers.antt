use Rattle.std.proofs.Common.{◌≡◌, ◌<◌, ◌-◌, length, drop, Some, sym, ap, ◌∙◌, arith}
use Rattle.std.specs.Prelude.{slice_get}
use Rattle.std.proofs.Math.Seq.{map-set_same}
use Rattle.std.proofs.lemmas.List.{length-map}
use Rattle.history_row.specs.Receipts.{Told}
use Rattle.history_row.specs.Rows.{names, known_of}
use Rattle.std.proofs.lemmas.Option.{same_Some}
use Rattle.history_row.proofs.Slots.{at_slot, at_name, get_behind, shown_agree, row_has}
use Rattle.history_row.proofs.row.Row.tell.Goals as goal

pub compare-requires : goal.compare-requires
compare-requires g c =
    let xs = c.self.inside.slots.items in
    let place = c.receipt.inside.place in
    let here : place - c.self.inside.start < length xs = omega (
      arith,
      length-map xs (λ s. known_of s.note.known),
      ap length c.self.view_is,
      ap (λ (t : Told). t.place) c.receipt.view_is,
      c.self.invariant.0,
      c.receipt.invariant.0,
      c.requires,
    ) in
    same_Some _ _ (ap (λ n. Some n.cell) c.again.ensures.1 ∙ sym c.receipt.invariant.1
    ∙ ap (λ l. slice_get l (place - g.B.Labels.start)) (sym c.self.invariant.1)
    ∙ ap (λ n. slice_get (names xs) (place - n)) (sym c.self.invariant.0)
    ∙ at_name xs (place - c.self.inside.start) c.index_mut-slot.result.now here c.index_mut-slot.ensures.value)

pub invariant_of-self : goal.invariant_of-self
invariant_of-self g c = (
  c.self.invariant.0,
  map-set_same (λ s. s.note.cell) c.self.inside.slots.items (c.receipt.inside.place - c.self.inside.start)
      c.compare.new.self
      c.index_mut-slot.result.now (ap (λ n. n.cell) c.compare.ensures.same
      ∙ ap (λ s. s.note.cell) c.index_mut-slot.ensures.value) ∙ c.self.invariant.1,
)

pub returns-clause-same : goal.returns-clause-same
returns-clause-same g c = (
  map-set_same (λ s. known_of s.note.known) c.self.inside.slots.items
      (c.receipt.inside.place - c.self.inside.start) c.compare.new.self
      c.index_mut-slot.result.now (ap (λ n. known_of n.known) c.compare.ensures.same
      ∙ ap (λ s. known_of s.note.known) c.index_mut-slot.ensures.value) ∙ c.self.view_is,
  ap (λ n. let t : Told = record { place = c.receipt.inside.place; what = known_of n.known } in t) c.again.ensures.0
      ∙ c.receipt.view_is,
)

told_lem : goal.returns-clause-told
told_lem g c r q mine its =
    let xs = c.self.inside.slots.items in
    let place = c.receipt.inside.place in
    let at : place ≡ c.args.receipt.now.place = ap (λ (t : Told). t.place) c.receipt.view_is in
    let here : place - c.self.inside.start < length xs = omega (
      arith,
      length-map xs (λ s. known_of s.note.known),
      ap length c.self.view_is,
      at,
      c.self.invariant.0,
      c.receipt.invariant.0,
      c.requires,
    ) in
    let held = at_slot xs (place - c.self.inside.start) c.index_mut-slot.result.now here c.index_mut-slot.ensures.value
    in
    let known : known_of c.index_mut-slot.result.now.note.known ≡ Some q =
    same_Some _ _ (sym held ∙ ap (λ l. slice_get l (place - c.self.inside.start)) c.self.view_is
    ∙ ap (λ n. slice_get c.args.self.now (place - n)) c.self.invariant.0
    ∙ ap (λ n. slice_get c.args.self.now (n - g.B.Labels.start)) at ∙ its) in
    let told : known_of c.again.result.known ≡ Some r = ap (λ n. known_of n.known) c.again.ensures.1
    ∙ ap (λ (t : Told). t.what) c.receipt.view_is ∙ mine in
    shown_agree c.index_mut-slot.result.now.note.known c.again.result.known r q c.compare.ensures.agree told known

pub returns-clause-told : goal.returns-clause-told
returns-clause-told g c = told_lem g c

pub returns-clause-history : goal.returns-clause-history
returns-clause-history g c h r is there what =
    let first = g.B.Labels.start in
    let place = c.args.receipt.now.place in
    let above = c.receipt.invariant.0 in
    let at = ap (λ (t : Told). t.place) c.receipt.view_is in
    let behind = get_behind h first place (omega (arith, above, at)) there in
    let q = row_has c.args.self.now (drop first h) (place - first) is behind.0 in
    sym behind.1 ∙ q.1 ∙ ap Some (told_lem g c r q.0 what q.2)
