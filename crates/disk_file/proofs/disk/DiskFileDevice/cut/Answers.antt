use Rattle.std.proofs.Common.{◌≡◌, ◌⊎◌, inl, inr, ◌∷◌, ℕ, List}
use Rattle.take_journal.specs.Device.{EachFrom, IsTornCut}
use Rattle.disk_file.specs.Events.{Event, FailedCut, Failed}
use Rattle.disk_file.specs.Standing.{MayLeave}
use Rattle.disk_file.proofs.Torn.{torn_cut_not}
use Rattle.disk_file.proofs.disk.DiskFileDevice.cut.Goals as goal

failed_cut : (len : ℕ) (old new : List Event) → (new ≡ FailedCut len ∷ old) ⊎ (new ≡ Failed ∷ old)
    → EachFrom (IsTornCut len) (MayLeave old) (MayLeave new)
failed_cut len old new (inl is) = rw is (λ file leaves. leaves)
failed_cut len old new (inr is) = rw is (λ file leaves. (file, leaves, torn_cut_not len file))

pub returns-in_err-ask-clause-crash : goal.returns-in_err-ask-clause-crash
returns-in_err-ask-clause-crash c = failed_cut c.args.len _ _ c.in_err-ask.ensures.failed
