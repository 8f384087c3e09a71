-- What a push for a record keeps, what it leaves, and when it is made.
use Rattle.std.proofs.Common.{◌≡◌, ℕ, ◌<◌, ◌≤◌, inl, inr, Bool, true, false, length, sym, ap, subst, ◌∙◌, arith}
use Rattle.std.specs.Prelude.{Result, Ok, Err, nat_lt}
use Rattle.std.proofs.lemmas.Bool.{ltb-false, ltb-true}
use Rattle.replica.specs.Picture.{FleetState}
use Rattle.master_core.specs.log_laws.Data.{durable_of}
use Rattle.master_core.specs.master_state.declared.step.Refusal.{Refusal}
use Rattle.master_core.specs.master_state.declared.step.Step.TheVariants.{Push}
use Rattle.master_core.specs.master_state.Data.{MasterData}
use Rattle.master_core.specs.master_state.Log.{durable_now, log_of}
use Rattle.master.specs.Invariant.{IsServed, IsWellKept}
use Rattle.master.specs.Keeps.{Keeps}
use Rattle.master.specs.Steps.{PushesFor}
use Rattle.master.specs.World.{World}
use Rattle.master.proofs.Counting.{counted, kept_unfailed}
use Rattle.master.proofs.Keeping.{keeps_same, steps_keep, steps_remember}

pub pushes_keep : (place : ℕ) (old new : World) (r : Result Bool Refusal) → IsWellKept old.knows old.fleet
    → PushesFor place old r new → Keeps 1 old new
pushes_keep place old new (Ok true) kept is = subst (Keeps 1 old) (sym is.1) (keeps_same 1 old)
pushes_keep place old new (Ok false) kept is = steps_keep old new Push (Ok is.1) kept is.2
pushes_keep place old new (Err r) kept is = steps_keep old new Push (Err r) kept is.1

pub pushes_remember : (place : ℕ) (old new : World) (r : Result Bool Refusal) → PushesFor place old r new
    → new.knows.forgotten ≡ old.knows.forgotten
pushes_remember place old new (Ok true) is = ap (λ (w : World). w.knows.forgotten) is.1
pushes_remember place old new (Ok false) is = steps_remember old new Push (Ok is.1) is.2
pushes_remember place old new (Err r) is = steps_remember old new Push (Err r) is.1

-- ---- whether the record is durable

module _ (d : MasterData) (f : FleetState) (place : ℕ) (within : place < length d.history) where
  -- what is counted is the durable count; one that is loading has no record
  pub served_count : IsServed d f → durable_now d ≡ durable_of (log_of d)
  served_count (inl kept) = counted d kept.core kept.placed (kept_unfailed d f kept.kept)
  served_count (inr loaded) = absurd (let none = ap length loaded.bare.history in omega arith)

  pub is_counted : IsServed d f → nat_lt place (durable_now d) ≡ true → place < durable_of (log_of d)
  is_counted served is =
      ltb-true place (durable_of (log_of d)) (sym (ap (nat_lt place) (served_count served)) ∙ is)

  pub awaits : IsServed d f → nat_lt place (durable_now d) ≡ false → durable_of (log_of d) ≤ place
  awaits served is =
      ltb-false place (durable_of (log_of d)) (sym (ap (nat_lt place) (served_count served)) ∙ is)
