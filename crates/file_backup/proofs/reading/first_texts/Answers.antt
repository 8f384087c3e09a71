use Rattle.std.proofs.Common.{sym, ℕ, Vec}
use Rattle.std.specs.declared.alloc.Global.{Global}
use Rattle.std.proofs.lemmas.List.{take-map}
use Rattle.file_backup.proofs.reading.first_texts.Goals as goal

pub returns-then-count-texts : goal.returns-then-count-texts
returns-then-count-texts c = sym (take-map (λ (text : Vec ℕ Global). text.items) c.args.count c.args.texts.now)
