use Rattle.std.specs.Prelude.{◌≡◌, ◌∷◌, map, take}
use Rattle.take_journal.specs.Frames.{texts_of}
use Rattle.registry_text.specs.RecordText.{record_text}
use Rattle.registry_file.specs.Whole.{AreFit}
use Rattle.registry_file.proofs.whole.texts_behind.Given as goal

abbrev pub invariant-loop-record : goal.invariant-loop-record
invariant-loop-record l = record {
  texts : texts_of l.texts.items ≡ l.fn.first.items ∷ map record_text (take l.record-index l.records);
  fit : AreFit (take l.record-index l.records);
}
