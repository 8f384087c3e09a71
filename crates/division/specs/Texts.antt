-- The name of each fault. A key is not shown.
use Rattle.std.specs.Prelude.{ℕ, List, codes}
use Rattle.division.specs.declared.fault.DivideFault.{DivideFault}
use Rattle.division.specs.declared.fault.DivideFault.TheVariants.{Stray, NoMemory}

abbrev pub divide_fault_text : DivideFault → List ℕ
divide_fault_text (Stray key) = codes "Stray"
divide_fault_text NoMemory = codes "NoMemory"
