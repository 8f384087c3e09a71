use Rattle.std.proofs.Common.{◌≡◌, ◌++◌, List}
use Rattle.entry.specs.declared.entry.Object.{Object}
use Rattle.std.specs.List.{flat_map}
use Rattle.std.specs.Io.KnownBytes.{Appends}
use Rattle.answers.specs.Texts.{object_text}
use Rattle.answers.proofs.tables.write_objects.Given as goal

abbrev pub invariant-loop-object : goal.invariant-loop-object
invariant-loop-object g l =
    (done : List Object) × (done ++ l.object-iterator ≡ l.fn.objects)
    × Appends (g.W.Write.contents l.fn.writer) (g.W.Write.contents l.writer) (flat_map object_text done)
