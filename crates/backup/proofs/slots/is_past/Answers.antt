use Rattle.std.proofs.Common.{◌≡◌, ◌-◌, ◌<◌, length, Some, sym, ◌∙◌, arith}
use Rattle.std.specs.List.{slice_get}
use Rattle.std.proofs.lemmas.Option.{slice_get_within, get_or_from_slice_get}
use Rattle.backup.proofs.Shelves.{is_less, past_last}
use Rattle.backup.proofs.slots.is_past.Goals as goal

pub returns-in-Some : goal.returns-in-Some
returns-in-Some c = λ less.
    let slots = c.args.slots.now in
    let last = c.in-Some.slot.now in
    let at : slice_get slots (length slots - 1) ≡ Some last = sym c.in-Some.ensures.value in
    let within : length slots - 1 < length slots = slice_get_within slots (length slots - 1) last at in
    past_last slots c.requires c.args.place last
    (sym (get_or_from_slice_get slots (length slots - 1) last last at))
    (sym c.cmp.ensures ∙ is_less c.cmp.result (sym c.is_lt.ensures ∙ less)) (omega arith)
