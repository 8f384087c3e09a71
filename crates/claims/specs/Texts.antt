-- The name of each fault and its number, in decimal digits. A key is not shown.
use Rattle.std.specs.Prelude.{ℕ, List, ◌++◌, codes}
use Rattle.std.specs.Fmt.{decimal}
use Rattle.claims.specs.declared.fault.ReplayFault.{ReplayFault}
use Rattle.claims.specs.declared.fault.ReplayFault.TheVariants.{Double, Stranger, MissingGroup, NoMemory, Clash, Stray}

abbrev pub replay_fault_text : ReplayFault → List ℕ
replay_fault_text (Double segment) = codes "Double " ++ decimal segment
replay_fault_text Stranger = codes "Stranger"
replay_fault_text (MissingGroup segment) = codes "MissingGroup " ++ decimal segment
replay_fault_text NoMemory = codes "NoMemory"
replay_fault_text Clash = codes "Clash"
replay_fault_text (Stray key) = codes "Stray"
