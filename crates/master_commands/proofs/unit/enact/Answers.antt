use Rattle.std.proofs.Common.{◌≡◌, List, length, ap, ◌∙◌, arith}
use Rattle.entry.specs.declared.entry.Entry.{Entry}
use Rattle.entry.specs.Text.{text_of}
use Rattle.history.specs.View.{shown_command}
use Rattle.master_commands.proofs.Changes.{object_within}
use Rattle.master_commands.proofs.unit.enact.Goals as goal

pub move_object-requires-clause-offset : goal.move_object-requires-clause-offset
move_object-requires-clause-offset c = λ puts.
    let some = c.requires.put puts in
    let dead = c.args.judged.now.held.place.segment in
    let within = object_within dead (shown_command c.args.command.now) c.args.judged.now.change c.object_offset.result
    puts some
    (c.object_offset.ensures.behind dead) in
    let image : length c.bytes.result.now ≡ length (text_of c.args.head.now.image) =
    ap length c.bytes.ensures.text ∙ ap (λ (es : List Entry). length (text_of es)) c.image.ensures.image in
    let fits = c.requires.fits some in
    let limit = c.requires.limit in
    omega arith
