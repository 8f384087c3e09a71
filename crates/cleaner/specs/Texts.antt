-- The text of each fault: its name, followed by the segment's id in decimal digits if the fault names a segment.
use Rattle.std.specs.Prelude.{ℕ, List, ◌++◌, codes}
use Rattle.std.specs.Fmt.{decimal}
use Rattle.cleaner.specs.declared.fault.PassFault.{PassFault}
use Rattle.cleaner.specs.declared.fault.PassFault.TheVariants.{NotInLog, IsHead, TooMany, TooMuch, PassOpen, NoVictims}
use Rattle.cleaner.specs.declared.fault.PassFault.TheVariants.{Twice}

abbrev pub pass_fault_text : PassFault → List ℕ
pass_fault_text (NotInLog segment) = codes "NotInLog " ++ decimal segment
pass_fault_text (IsHead segment) = codes "IsHead " ++ decimal segment
pass_fault_text TooMany = codes "TooMany"
pass_fault_text TooMuch = codes "TooMuch"
pass_fault_text PassOpen = codes "PassOpen"
pass_fault_text NoVictims = codes "NoVictims"
pass_fault_text (Twice segment) = codes "Twice " ++ decimal segment
