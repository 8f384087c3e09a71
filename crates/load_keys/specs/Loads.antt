-- What the operations of the loads do.
use Rattle.std.specs.Prelude.{ℕ, if◌then◌else◌, nat_lt}
use Rattle.load_keys.specs.declared.load.Act.{Act}
use Rattle.load_keys.specs.declared.load.Act.TheVariants as act
use Rattle.load_keys.specs.declared.load.Load.{Load}
use Rattle.load_keys.specs.declared.load.Load.TheVariants as load

-- how many percent are plain reads
abbrev pub reads_of : Load → ℕ
reads_of load.A = 50
reads_of load.B = 95
reads_of load.C = 100
reads_of load.D = 95
reads_of load.F = 50
reads_of load.W = 0

-- what the others do
abbrev pub other_of : Load → Act
other_of load.A = act.Update
other_of load.B = act.Update
other_of load.C = act.Read
other_of load.D = act.Insert
other_of load.F = act.Modify
other_of load.W = act.Update

-- what an operation does for which this percent was drawn
abbrev pub act_of : Load → ℕ → Act
act_of l percent = if nat_lt percent (reads_of l) then act.Read else other_of l
