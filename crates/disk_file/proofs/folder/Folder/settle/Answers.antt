use Rattle.std.proofs.Common.{◌∙◌, ap, List, ◌∷◌}
use Rattle.disk_file.specs.Events.{Event, Synced}
use Rattle.disk_file.proofs.folder.Folder.settle.Goals as goal

pub returns : goal.returns
returns c = record {
  settled = c.in_ok-ask-2.ensures.noted ∙ ap (λ (es : List Event). Synced ∷ es) c.in_ok-ask.ensures.noted;
}
