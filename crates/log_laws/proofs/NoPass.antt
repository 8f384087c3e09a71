-- If no pass is open, all that is asked of a pass is true.
use Rattle.std.proofs.Common.{ℕ, List}
use Rattle.std.specs.Prelude.{Option}
use Rattle.log_laws.specs.Heads.{Start}
use Rattle.log_laws.specs.Intact.{IsPassOf}
use Rattle.log_laws.specs.Memory.{Place, Index, Images, no_pass}
use Rattle.log_laws.specs.Tracked.{IsPassing}

pub none_passing : (ids : List ℕ) (image : Images) (index : Index) (rest : List Place)
    → IsPassing ids image no_pass index rest
none_passing ids image index rest = record {
  victims_count = λ s never. absurd never;
  survivors_count = λ s never. absurd never;
  disjoint = λ s never. absurd never;
  copies = λ s f k never. absurd never;
  live = λ k x i never. absurd never;
  carried = λ x t never. absurd never;
}

pub none_chosen : (in_force : Start) (new : Option Start) → IsPassOf in_force new no_pass
none_chosen in_force new = record {
  victims = λ s never. absurd never;
  some = λ s never. absurd never;
  outside = λ s never. absurd never;
  not_new = λ s n never. absurd never;
}
