-- What is shown of a master and its fleet.
use Rattle.std.specs.Prelude.{◌≡◌, IsSome, nat_lt}
use Rattle.std.specs.Option.{option_map}
use Rattle.entry.specs.Text.{text_of}
use Rattle.replica.specs.Picture.{AreLabelsOf, left_on}
use Rattle.log_head.specs.Head.{digest_of}
use Rattle.master_core.specs.master_state.Budget.{used_seglets, free_seglets}
use Rattle.master_core.specs.master_state.Data.{MasterData}
use Rattle.master_core.specs.master_state.Log.{image_of, state_now}
use Rattle.master_core.specs.master_state.Sizes.{AreSizesOf}
use Rattle.master.specs.declared.showing.Look.{Look}
use Rattle.master.specs.declared.showing.Look.TheVariants.{Digest, Room, Image, Sizes, Holdings}
use Rattle.master.specs.declared.showing.Shown.{Shown}
use Rattle.master.specs.declared.showing.Shown.TheVariants as shown
use Rattle.master.specs.World.{World}

-- the ids of the digest in force; or the seglets that are counted, and those that are free; or the image of a segment,
-- if there is one; or the sizes of the live objects; or the labels of just what the configuration's backups hold
abbrev pub IsShown : World → Look → Shown → Type 0
IsShown w Digest (shown.Digest ids) = ids ≡ digest_of w.knows.head.image
IsShown w Room (shown.Room used free) = (used ≡ used_seglets w.knows) × (free ≡ free_seglets w.knows)
IsShown w (Image id) (shown.Image bytes) = bytes ≡ option_map text_of (image_of w.knows id)
IsShown w Sizes (shown.Sizes sizes) = AreSizesOf (state_now w.knows).contents sizes
IsShown w Holdings (shown.Holdings labels) =
    AreLabelsOf (left_on (λ b. nat_lt b w.knows.config.backups) w.fleet.picture) labels
IsShown w _ _ = ⊥

-- what is to be shown takes memory: all but the room, and an image that there isn't
abbrev pub NeedsMemory : MasterData → Look → Type 0
NeedsMemory d Room = ⊥
NeedsMemory d (Image id) = IsSome (image_of d id)
NeedsMemory d look = Unit {0}
