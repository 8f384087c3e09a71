-- What the program does, from its words to its exit status.
use Rattle.std.specs.Prelude.{◌≡◌, ◌⊎◌, ℕ, Bool, true, false, List, Option, Some, None, Ok, Err}
use Rattle.clap.specs.Words.{Row}
use Rattle.command_line.specs.CommandLine.{HasOptions}
use Rattle.command_line.specs.declared.settings.Options.{Options}
use Rattle.next_master.specs.master.master_state.declared.config.Config.{Config}
use Rattle.next_master.specs.master.master_state.declared.config.ConfigFault.{ConfigFault}
use Rattle.next_master.specs.master.master_state.Config.{config_fault}
use Rattle.next_master.specs.answers.declared.fault.ScriptFault.TheVariants.{NoMemory}
use Rattle.next_master.specs.Configuration.{config_of}
use Rattle.next_master.specs.Limits.{SetsLimit}
use Rattle.next_master.specs.answers.Errors.{Errors, Writes}
use Rattle.script.specs.Runs.{RunResult, RunsScript}
use Rattle.next_master.specs.answers.Texts.{config_lines, exit_status, fault_lines}

-- what is left to read of the input, and what the output and the error output hold
pub record Streams : Type 0 where
  pub input : Option (List ℕ)
  pub output : Option (List ℕ)
  pub errors : Errors

-- the exit status of a run that came to its end: that of a bad line if one was skipped
abbrev pub end_status : Bool → ℕ
end_status false = 0
end_status true = 2

-- how the end of a run is reported: Ok by its status alone, and a fault by its lines and its status
abbrev pub IsReported : RunResult → Errors → Errors → ℕ → Type 0
IsReported (Ok skipped) old new status = (new ≡ old) × (status ≡ end_status skipped)
IsReported (Err fault) old new status = Writes old new (fault_lines old.explains fault) × (status ≡ exit_status fault)

-- The configuration fails its check. Its fault is named on the error output. Nothing is read, and nothing else
-- written.
pub record IsMisuse (config : Config) (old new : Streams) (status : ℕ) : Type 0 where
  pub fault : ConfigFault
  pub found : config_fault config ≡ Some fault
  pub lines : Writes old.errors new.errors (config_lines old.errors.explains config fault)
  pub unread : new.input ≡ old.input
  pub unwritten : new.output ≡ old.output
  pub ends_with : status ≡ 2

-- The script, with raw bytes or of words alone, was run under options whose configuration passes its check, or memory
-- ran out. Behind what the run reported, its end is reported.
pub record IsRunOf (keeps is_raw : Bool) (options : Options) (old new : Streams) (status : ℕ) : Type 0 where
  pub result : RunResult
  pub errors : Errors
  pub checked : (config_fault (config_of options 1) ≡ None) ⊎ (result ≡ Err NoMemory)
  pub run : RunsScript keeps is_raw options old.input new.input old.output new.output old.errors errors result
  pub reported : IsReported result errors new.errors status

-- what the program does with its options
abbrev pub RunsOptions : Bool → Bool → Options → Streams → Streams → ℕ → Type 0
RunsOptions keeps is_raw options old new status =
    IsMisuse (config_of options 1) old new status ⊎ IsRunOf keeps is_raw options old new status

-- What the program does with the options that these matches of its words have. They may ask for the greatest limit of
-- live bytes.
abbrev pub RunsMatches : Bool → Bool → List Row → Streams → Streams → ℕ → Type 0
RunsMatches keeps is_raw rows old new status = (asked : Options) × HasOptions rows asked
    × (options : Options) × SetsLimit asked options × RunsOptions keeps is_raw options old new status
