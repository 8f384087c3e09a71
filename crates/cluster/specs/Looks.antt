-- What lines show of a master, of its backups and of a will.
use Rattle.std.specs.Prelude.{◌≡◌, ◌↔◌, ℕ, List, map, Bool, true, false, Option, Some, None}
use Rattle.std.specs.Option.{option_map}
use Rattle.entry.specs.declared.entry.Object.{Object}
use Rattle.entry.specs.Text.{text_of}
use Rattle.lines.specs.Grammar.{LineValue, Log, Hex, Will, Holdings, Listing, Segments}
use Rattle.entry.specs.Bag.{IsAmong}
use Rattle.replica.specs.declared.holding.Holding.{Holding}
use Rattle.replica.specs.declared.label.Label.{Label}
use Rattle.replica.specs.Picture.{FleetState, left_on, IsHeld, AreLabelsOf, label_of}
use Rattle.versioned_map.specs.History.{commands_of}
use Rattle.versioned_map.specs.Versioned.{after}
use Rattle.answers.specs.driving.master.master_state.declared.config.Config.{Config}
use Rattle.answers.specs.driving.master.log_head.Head.{digest_of}
use Rattle.answers.specs.driving.master.master_state.Data.{MasterData}
use Rattle.answers.specs.driving.master.master_state.Budget.{used_seglets, free_seglets}
use Rattle.answers.specs.driving.master.master_state.Log.{image_of}
use Rattle.answers.specs.driving.master.master_space.Objects.{AreObjectsOf}
use Rattle.answers.specs.driving.master.declared.segments.SegmentRow.{SegmentRow}
use Rattle.answers.specs.driving.master.Segments.{segment_rows}
use Rattle.answers.specs.declared.answer.Answer.{Answer}
use Rattle.answers.specs.declared.answer.Answer.TheVariants as answer
use Rattle.cluster.specs.Lives.{Life, HasLived, Left, is_left}
use Rattle.tablet_will.specs.declared.part.Part.{Part}
use Rattle.answers.specs.declared.limits.Limits.{Limits}
use Rattle.cluster.specs.Wills.{IsWillOf}

-- the line shows something, and needs memory for that
abbrev pub shows : LineValue → Bool
shows (Hex segment) = true
shows Log = true
shows Holdings = true
shows Segments = true
shows (Listing table) = true
shows Will = true
shows _ = false

-- a master that has lived this life has this digest in force
abbrev pub IsDigestAt : Config → Life → List ℕ → Type 0
IsDigestAt config life ids = (d : MasterData) × (f : FleetState) × HasLived config life d f
    × (ids ≡ digest_of d.head.image)

-- a master that has lived this life counts this many seglets of memory, and has this many free
abbrev pub IsRoomAt : Config → Life → ℕ → ℕ → Type 0
IsRoomAt config life used free = (d : MasterData) × (f : FleetState) × HasLived config life d f
    × (used ≡ used_seglets d) × (free ≡ free_seglets d)

-- a master that has lived this life has these segments
abbrev pub AreSegmentsAt : Config → Life → List SegmentRow → Type 0
AreSegmentsAt config life rows = (d : MasterData) × (f : FleetState) × HasLived config life d f
    × (rows ≡ segment_rows d)

-- these are the objects of the table in the versioned map after this life, in the order of their keys' bytes
abbrev pub AreListedAt : Life → ℕ → List Object → Type 0
AreListedAt life table objects = AreObjectsOf (after life.opening (commands_of life.history)).contents table objects

-- all live objects of a master that has lived this life have this many bytes together
abbrev pub IsLiveAt : Config → Life → ℕ → Type 0
IsLiveAt config life bytes = (d : MasterData) × (f : FleetState) × HasLived config life d f × (bytes ≡ d.live)

-- just these of the master's replicas are left
abbrev pub AreLeft : Config → Left → List Holding → Type 0
AreLeft config l hs = (h : Holding) → h.master ≡ config.master
    → IsAmong h hs ↔ IsHeld (left_on (is_left l.lost) l.shown.holds) h

-- what the backups hold: of a master that has lived this life, or what is left of it
abbrev pub AreHeldAt : Config → Life → Option Left → List Label → Type 0
AreHeldAt config life None labels =
    (d : MasterData) × (f : FleetState) × HasLived config life d f × AreLabelsOf f.picture labels
AreHeldAt config life (Some l) labels = (hs : List Holding) × AreLeft config l hs × (labels ≡ map label_of hs)

-- ---- wills

-- the will of the objects of the versioned map after this life
abbrev pub IsWillAt : Config → Life → Limits → List Part → Type 0
IsWillAt config life limits parts =
    IsWillOf config.tablets (after life.opening (commands_of life.history)).contents limits parts

-- the answer to the line `will` has these limits
abbrev pub HasLimits : Limits → Answer → Type 0
HasLimits limits (answer.Will parts under) = under ≡ limits
HasLimits limits (answer.BadLimits under) = under ≡ limits
HasLimits limits _ = Unit {0}

-- ---- images

-- a master that has lived this life has this image of the segment
abbrev pub IsImageAt : Config → Life → ℕ → Option (List ℕ) → Type 0
IsImageAt config life segment image = (d : MasterData) × (f : FleetState) × HasLived config life d f
    × (option_map text_of (image_of d segment) ≡ image)
