use Rattle.std.specs.Prelude.{◌≡◌, ◌∷◌, take}
use Rattle.std.specs.List.{AllByRecursion}
use Rattle.take_journal.specs.Frames.{texts_of}
use Rattle.file_backup.specs.Whole.{IsReady, texts_making}
use Rattle.file_backup.proofs.writing.texts_making.Given as goal

abbrev pub invariant-loop-holding : goal.invariant-loop-holding
invariant-loop-holding l = record {
  texts : texts_of l.texts.items ≡ l.fn.first ∷ texts_making (take l.holding-index l.holdings);
  ready : AllByRecursion IsReady (take l.holding-index l.holdings);
}
