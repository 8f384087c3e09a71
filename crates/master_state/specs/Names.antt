-- The text of each refusal, and the name of each fault of a configuration.
use Rattle.std.specs.Prelude.{ℕ, List, ◌++◌, codes}
use Rattle.std.specs.Fmt.{decimal}
use Rattle.cleaner.specs.Texts.{pass_fault_text}
use Rattle.master_state.specs.declared.step.Refusal.{Refusal}
use Rattle.master_state.specs.declared.step.Refusal.TheVariants.{TooBig, Full, VersionsSpent, HistoryFull, NoMemory}
use Rattle.master_state.specs.declared.step.Refusal.TheVariants.{Halted, Rolling, Nothing, Spent, SegmentsSpent}
use Rattle.master_state.specs.declared.step.Refusal.TheVariants.{NoTablet, Pass, Lost, Overcommit}
use Rattle.master_state.specs.declared.config.ConfigFault.{ConfigFault}
use Rattle.master_state.specs.declared.config.ConfigFault.TheVariants.{BadBackups, BadStep, BadSegment, BadSeglet}
use Rattle.master_state.specs.declared.config.ConfigFault.TheVariants.{BadBudget, BadTablets, BadHistory, BadFormat}
use Rattle.master_state.specs.declared.config.ConfigFault.TheVariants.{BadLive}

-- the text that is printed for a refusal: its name, and behind some names a segment or a backup
abbrev pub refusal_text : Refusal → List ℕ
refusal_text TooBig = codes "TooBig"
refusal_text Full = codes "Full"
refusal_text VersionsSpent = codes "VersionsSpent"
refusal_text HistoryFull = codes "HistoryFull"
refusal_text NoMemory = codes "NoMemory"
refusal_text Halted = codes "Halted"
refusal_text Rolling = codes "Rolling"
refusal_text Nothing = codes "Nothing"
refusal_text (Pass fault) = pass_fault_text fault
refusal_text Spent = codes "Spent"
refusal_text SegmentsSpent = codes "SegmentsSpent"
refusal_text NoTablet = codes "NoTablet"
refusal_text (Lost backup) = codes "Lost " ++ decimal backup
refusal_text Overcommit = codes "Overcommit"

abbrev pub config_fault_name : ConfigFault → List ℕ
config_fault_name BadBackups = codes "BadBackups"
config_fault_name BadStep = codes "BadStep"
config_fault_name BadSegment = codes "BadSegment"
config_fault_name BadSeglet = codes "BadSeglet"
config_fault_name BadBudget = codes "BadBudget"
config_fault_name BadTablets = codes "BadTablets"
config_fault_name BadHistory = codes "BadHistory"
config_fault_name BadFormat = codes "BadFormat"
config_fault_name BadLive = codes "BadLive"
