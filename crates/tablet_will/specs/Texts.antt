-- The name of each fault.
use Rattle.std.specs.Prelude.{ℕ, List, codes}
use Rattle.tablet_will.specs.declared.fault.WillFault.{WillFault}
use Rattle.tablet_will.specs.declared.fault.WillFault.TheVariants.{BadTablets, BadLimits, StraySize, NoMemory}

abbrev pub will_fault_text : WillFault → List ℕ
will_fault_text BadTablets = codes "BadTablets"
will_fault_text BadLimits = codes "BadLimits"
will_fault_text StraySize = codes "StraySize"
will_fault_text NoMemory = codes "NoMemory"
