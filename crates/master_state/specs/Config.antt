-- The limits of a configuration, and the first limit that a configuration breaks.
use Rattle.std.specs.Prelude.{◌*◌, ◌/◌, ◌%◌, ◌^◌, ◌==◌, ◌&&◌, ◌||◌, Bool, not, nat_le, Option, Some, None}
use Rattle.std.specs.Prelude.{if◌then◌else◌}
use Rattle.entry.specs.Format.{is_within}
use Rattle.entry.specs.Tablet.{are_tablets}
use Rattle.packing.specs.declared.sizes.Sizes.{Sizes}
use Rattle.packing.specs.Limits.{is_limit, unlimited}
use Rattle.master_state.specs.declared.config.Config.{Config}
use Rattle.master_state.specs.declared.config.ConfigFault.{ConfigFault}
use Rattle.master_state.specs.declared.config.ConfigFault.TheVariants.{BadBackups, BadStep, BadSegment, BadSeglet}
use Rattle.master_state.specs.declared.config.ConfigFault.TheVariants.{BadBudget, BadTablets, BadHistory, BadFormat}
use Rattle.master_state.specs.declared.config.ConfigFault.TheVariants.{BadLive}

-- a segment has at least one replica, there are at least as many backups as replicas, and at most 64 backups
abbrev pub has_backups : Config → Bool
has_backups c = nat_le 1 c.replicas && nat_le c.replicas c.backups && nat_le c.backups 64

abbrev pub has_step : Config → Bool
has_step c = is_within 1 64 c.step

abbrev pub has_seglet : Config → Bool
has_seglet c = is_within 64 65536 c.seglet

abbrev pub has_segment : Config → Bool
has_segment c = is_within 512 8388608 c.segment && ((c.segment % c.seglet) == 0)

-- the memory has at least the seglets of four segments, and at most 2^32 seglets
abbrev pub has_budget : Config → Bool
has_budget c = is_within (4 * (c.segment / c.seglet)) (2 ^ 32) c.seglets

abbrev pub has_tablets : Config → Bool
has_tablets c = are_tablets c.tablets

abbrev pub has_history : Config → Bool
has_history c = is_within 1 1048576 c.history

abbrev pub has_format : Config → Bool
has_format c = is_within 1 2 c.format

-- the sizes of a log of this configuration
abbrev pub sizes_of : Config → Sizes
sizes_of c = record { segment = c.segment; seglet = c.seglet; seglets = c.seglets; format = c.format }

-- The live objects have no limit, or one that leaves room: a new master of this configuration can load any table within
-- it, and then has two whole segments free.
unfoldable pub has_live : Config → Bool
has_live c = (c.most_live == unlimited) || is_limit (sizes_of c) c.largest c.most_live

-- what is wrong with a configuration: the first test that fails
abbrev pub config_fault : Config → Option ConfigFault
config_fault c =
    if not (has_backups c) then Some BadBackups
    else if not (has_step c) then Some BadStep
    else if not (has_seglet c) then Some BadSeglet
    else if not (has_segment c) then Some BadSegment
    else if not (has_budget c) then Some BadBudget
    else if not (has_tablets c) then Some BadTablets
    else if not (has_history c) then Some BadHistory
    else if not (has_format c) then Some BadFormat
    else if not (has_live c) then Some BadLive
    else None
