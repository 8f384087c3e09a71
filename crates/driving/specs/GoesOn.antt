-- The laws of `Driven`: what holds if no step is made, and if many are made.
use Rattle.std.proofs.Common.{[], refl, sym, ◌∙◌}
use Rattle.std.proofs.Math.Nat.{le_refl, le_trans}
use Rattle.std.proofs.lemmas.List.{append-nil}
use Rattle.master.specs.master_state.Data.{MasterData}
use Rattle.driving.specs.Served.{LivesOn, StaysLoaded}

pub goes_nowhere : (d : MasterData) → LivesOn d d []
goes_nowhere d = record {
  config = refl;
  origin = refl;
  durable = le_refl _;
  history = sym (append-nil d.history);
  forgotten = refl;
}

pub goes_further : (old mid new : MasterData) → LivesOn old mid [] → LivesOn mid new [] → LivesOn old new []
goes_further old mid new before more = record {
  config = more.config ∙ before.config;
  origin = more.origin ∙ before.origin;
  durable = le_trans before.durable more.durable;
  history = more.history ∙ append-nil mid.history ∙ before.history;
  forgotten = more.forgotten ∙ before.forgotten;
}

pub loaded_same : (d : MasterData) → StaysLoaded d d
loaded_same d = record { config = refl; origin = refl }

pub loaded_further : (old mid new : MasterData) → StaysLoaded old mid → StaysLoaded mid new → StaysLoaded old new
loaded_further old mid new before more = record {
  config = more.config ∙ before.config;
  origin = more.origin ∙ before.origin;
}
