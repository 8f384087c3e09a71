-- The configuration that the command line stands for.
use Rattle.std.specs.Prelude.{[], ◌≡◌, ◌≤◌, ℕ, zero, suc, ◌-◌, ◌^◌, List, ◌∷◌, ◌++◌, map, Bool, true, false, Option}
use Rattle.std.specs.Prelude.{Some, None}
use Rattle.entry.specs.declared.tablet.Tablet.{Tablet}
use Rattle.tablet_will.specs.declared.part.Part.{Part}
use Rattle.command_line.specs.declared.settings.Options.{Options}
use Rattle.cluster.specs.master.master_state.declared.config.Config.{Config}
use Rattle.cluster.specs.master.master_state.Config.{config_fault}
use Rattle.next_master.specs.declared.later.Later.{Later}
use Rattle.places.specs.Secrets.{fast_hasher}

-- a table as one tablet
abbrev pub whole_table : ℕ → Tablet
whole_table table = record { table = table; first = 0; last = 2 ^ 64 - 1 }

-- the tables from 1 to n
abbrev pub tables_to : ℕ → List Tablet
tables_to zero = []
tables_to (suc n) = tables_to n ++ whole_table (suc n) ∷ []

-- the configuration of a master with this number; it has no secret, so each run is the same
abbrev pub config_of : Options → ℕ → Config
config_of o master = record {
  master = master;
  backups = o.backups;
  replicas = o.replicas;
  step = o.step;
  segment = o.segment;
  seglet = o.seglet;
  seglets = o.seglets;
  tablets = tables_to o.tables;
  history = o.history;
  hasher = fast_hasher;
  format = o.format;
  largest = o.largest;
  most_live = o.live;
}

-- the format of masters that start later: once format 2 was asked for, they list each segment with its length
abbrev pub later_format : Bool → ℕ → ℕ
later_format true format = 2
later_format false format = format

-- the seglets of masters that start later: once a number was asked for, they have that many
abbrev pub later_seglets : Option ℕ → ℕ → ℕ
later_seglets (Some later) seglets = later
later_seglets None seglets = seglets

-- nothing was asked for
abbrev pub no_later : Later
no_later = record { lists_lengths = false; seglets = None }

-- the options of masters that start later
abbrev pub later_options : Later → Options → Options
later_options later o = record o {
  format = later_format later.lists_lengths o.format;
  seglets = later_seglets later.seglets o.seglets;
}

-- masters that start later are within their limits
abbrev pub MayBegin : Later → Options → Type 0
MayBegin later o = config_fault (config_of (later_options later o) 1) ≡ None

-- the sizes of segments and seglets are within their limits
pub record AreSizes (o : Options) : Type 0 where
  pub seglet : 64 ≤ o.seglet
  pub most_seglet : o.seglet ≤ 65536
  pub segment : 512 ≤ o.segment
  pub most_segment : o.segment ≤ 8388608

-- the will that is one partition over all tablets
abbrev pub one_partition : List Tablet → List Part
one_partition tablets =
    map (λ (t : Tablet). record { table = t.table; first = t.first; last = t.last; partition = 0 }) tablets
