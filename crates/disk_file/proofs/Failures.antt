-- A call that failed.
use Rattle.std.proofs.Common.{◌≡◌, refl, ◌∙◌, ap, List, ◌∷◌, None}
use Rattle.disk_file.specs.declared.history.Call.{Call}
use Rattle.disk_file.specs.declared.history.Call.TheVariants as call
use Rattle.disk_file.specs.Events.{Event, outcome}
use Rattle.disk_file.specs.Standing.{FileStanding, after, failed, standing}

after_failure : (asked : Call) (s : FileStanding) → after (outcome asked None) s ≡ failed s
after_failure (call.SyncFolder folder) s = refl
after_failure call.Sync s = refl
after_failure (call.Write at bytes) s = refl
after_failure (call.Cut len) s = refl

pub standing_failed : (asked : Call) (old new : List Event) → new ≡ outcome asked None ∷ old
    → standing new ≡ failed (standing old)
standing_failed asked old new is = ap standing is ∙ after_failure asked (standing old)
