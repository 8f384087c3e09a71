-- How many seglets a core counts, and how many are left.
use Rattle.std.proofs.Common.{ℕ, ◌+◌, ◌-◌, ◌≤◌, arith}
use Rattle.std.specs.Prelude.{Option, Some, None, IsSome, is_some, ◌||◌, sum_by, if◌then◌else◌}
use Rattle.images.specs.Image.{Image}
use Rattle.images.specs.Images.{ImagesValue, count_of, free_seglets}
use Rattle.log_head.specs.declared.head.Roll.{Roll}
use Rattle.master_state.specs.declared.config.Config.{Config}
use Rattle.master_state.specs.Budget.{whole_seglets, seglets_of, has_abandoned}
use Rattle.master_state.specs.Data.{MasterData}
use Rattle.master_state.specs.Invariant.{IsCore, AreImagesOf}

-- what the closed segments count
abbrev pub closed_seglets : MasterData → ℕ
closed_seglets d = sum_by (count_of d.config.segment d.config.seglet) d.closed

-- while a roll is under way the old head's seglets are free for it when it is closed
pub closing_fits : (d : MasterData) → IsCore d → IsSome d.head.roll
    → seglets_of d.config d.head.image ≤ d.config.seglets - closed_seglets d
closing_fits d core some = go d.head.roll some core.budget where
  go : (o : Option Roll) → IsSome o
      → (if is_some o || has_abandoned d then seglets_of d.config d.head.image + whole_seglets d.config
      else whole_seglets d.config) + closed_seglets d
      ≤ d.config.seglets
      → seglets_of d.config d.head.image ≤ d.config.seglets - closed_seglets d
  go None is le = absurd (cc)
  go (Some r) is le = omega arith

-- an image that fits the seglets that the configuration leaves also fits the free seglets of the images
pub free_again : (c : Config) (v : ImagesValue) (x : Image) → AreImagesOf c v
    → count_of c.segment c.seglet x ≤ c.seglets - sum_by (count_of c.segment c.seglet) v.images
    → count_of v.segment v.seglet x ≤ free_seglets v
free_again c v x are le = rw (are.segment, are.seglet, are.seglets) le
