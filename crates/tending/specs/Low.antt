-- When a cleaner has to begin something, and when it may rest.
use Rattle.std.specs.Prelude.{◌≡◌, ℕ, ◌+◌, ◌-◌, ◌*◌, ◌/◌, ◌||◌, min, max, Bool, true, None, length, nat_lt}
use Rattle.driving.specs.master.log_head.Head.{digest_of}
use Rattle.driving.specs.master.master_space.Choosing.{next_step, pending_step}
use Rattle.driving.specs.master.master_state.Budget.{free_seglets}
use Rattle.driving.specs.master.master_state.Data.{MasterData}
use Rattle.driving.specs.master.master_state.declared.config.Config.{Config}
use Rattle.tending.specs.declared.policy.Policy.{Policy}

-- Fewer whole segments are free than the policy spares. Both sides are in bytes.
abbrev pub is_short : Policy → MasterData → Bool
is_short policy d = nat_lt (free_seglets d * policy.seglet) (policy.spare * policy.segment)

-- The digest in force has room for fewer ids than the policy spares. A digest may list one id for each 32 bytes of a
-- segment.
abbrev pub is_crowded : Policy → MasterData → Bool
is_crowded policy d = nat_lt (policy.segment / 32) (length (digest_of d.head.image) + policy.spare)

-- a cleaner has to begin something: memory is short, or the digest is crowded
abbrev pub is_low : Policy → MasterData → Bool
is_low policy d = is_short policy d || is_crowded policy d

-- Memory is tight: fewer whole segments are free than the policy spares, less one.
abbrev pub is_tight : Policy → MasterData → Bool
is_tight policy d = nat_lt (free_seglets d * policy.seglet) ((policy.spare - 1) * policy.segment)

-- how many whole segments the memory has
abbrev pub segments_of : Config → ℕ
segments_of c = c.seglets / max (c.segment / max c.seglet 1) 1

-- How many segments are spared: four, and one more for each 256 segments of memory, up to eight.
abbrev pub spare_for : Config → ℕ
spare_for c = 4 + min (segments_of c / 256) 4

-- the usual policy for a configuration
abbrev pub usual_for : Config → Policy
usual_for c = record { segment = c.segment; seglet = c.seglet; spare = spare_for c; stored = 130; stones = 25 }

-- A cleaner may rest: nothing is under way, and it has to begin nothing or no pass may begin.
pub record MayRest (policy : Policy) (d : MasterData) : Type 0 where
  pub idle : pending_step d ≡ None
  pub able : is_low policy d ≡ true → next_step d ≡ None
