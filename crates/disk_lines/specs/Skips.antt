-- A run of lines over a store in a folder that may go on behind bad lines.
use Rattle.std.specs.Prelude.{[], ◌≡◌, ◌<◌, ◌+◌, ◌-◌, ◌^◌, ℕ, Bool, true, false, List, ◌∷◌, Option, Some, None}
use Rattle.std.specs.Prelude.{Result, Ok, Err, IfErr, IfOk}
use Rattle.std.specs.List.{flat_map}
use Rattle.lines.specs.declared.reason.Reason.{Reason}
use Rattle.lines.specs.declared.reason.Reason.TheVariants.{TooLong, TooMany}
use Rattle.answers.specs.Errors.{Errors, Reports}
use Rattle.answers.specs.Texts.{fault_lines}
use Rattle.answers.specs.declared.fault.ScriptFault.{ScriptFault}
use Rattle.answers.specs.declared.fault.ScriptFault.TheVariants.{BadLine}
use Rattle.answers.specs.driving.master.master_state.Data.{MasterData}
use Rattle.disk_lines.specs.Runs.{RunsFrom}
use Rattle.disk_lines.specs.Turns.{Known}

-- A bad line that was skipped: its number, why it is bad, and what the master knew, the reader had left and the writer
-- held behind it.
pub record Skipped : Type 0 where
  pub number : ℕ
  pub why : Reason
  pub knows : MasterData
  pub left : Known
  pub holds : Known

-- a run can go on behind a line that is bad for this reason: all of the line was taken, and one more has a number
abbrev pub MaySkip : Reason → Type 0
MaySkip TooLong = ⊥
MaySkip TooMany = ⊥
MaySkip _ = Unit {0}

-- Lines were run, from the one with this number on. The run came to these bad lines, and went on behind each. Then it
-- ended so.
abbrev pub RunsPast : Bool → ℕ → MasterData → MasterData → Known → Known → Known → Known → List Skipped
    → Result (Unit {0}) ScriptFault → Type 0
RunsPast is_raw first old new had left held holds [] result = RunsFrom is_raw first old new had left held holds result
RunsPast is_raw first old new had left held holds (s ∷ ss) result = MaySkip s.why
    × RunsFrom is_raw first old s.knows had s.left held s.holds (Err (BadLine s.number s.why))
    × RunsPast is_raw (s.number + 1) s.knows new s.left left s.holds holds ss result

-- what is reported of bad lines that were skipped: what would be reported if the line had ended the run
abbrev pub reports_of : Bool → List Skipped → List ℕ
reports_of explains skipped = flat_map (λ (s : Skipped). fault_lines explains (BadLine s.number s.why)) skipped

abbrev pub has_some : List Skipped → Bool
has_some [] = false
has_some (s ∷ ss) = true

-- the fault ends even a run that goes on behind bad lines
abbrev pub EndsRun : ScriptFault → Type 0
EndsRun (BadLine number why) = MaySkip why → ⊥
EndsRun _ = Unit {0}

-- how the run behind the last skipped line ended
abbrev pub ending : Result Bool ScriptFault → Result (Unit {0}) ScriptFault
ending (Ok skipped) = Ok tt
ending (Err f) = Err f

-- A run of all lines, which keeps going behind bad lines or doesn't. With Ok it says whether a bad line was skipped.
pub record RunsLines (keeps is_raw : Bool) (old new : MasterData) (had left held holds : Known) (before after : Errors)
    (result : Result Bool ScriptFault) : Type 0 where
  pub skipped : List Skipped
  pub runs : RunsPast is_raw 1 old new had left held holds skipped (ending result)
  -- without leave no bad line is skipped, and with it each that can be
  pub stops : keeps ≡ false → skipped ≡ []
  pub goes_on : keeps ≡ true → IfErr result EndsRun
  pub tells : IfOk result (λ some. some ≡ has_some skipped)
  -- each line that was skipped was reported, and nothing else
  pub reports : Reports before after (reports_of before.explains skipped)

-- ---- one bad line

-- the run can't go on behind this fault, or no line behind it has a number
abbrev pub IsLast : ScriptFault → Type 0
IsLast (BadLine number why) = MaySkip why → number < 2 ^ 64 - 1 → ⊥
IsLast _ = Unit {0}

-- A fault ended a run of lines. It was a bad line, which was reported, and the next line has this number. Or the run
-- ends, and nothing was reported.
abbrev pub Skips : Bool → ScriptFault → Errors → Errors → Option ℕ → Type 0
Skips keeps f before after None = (after ≡ before) × (keeps ≡ true → IsLast f)
Skips keeps (BadLine number why) before after (Some next) = (keeps ≡ true) × MaySkip why × (number < 2 ^ 64 - 1)
    × (next ≡ number + 1) × Reports before after (fault_lines before.explains (BadLine number why))
Skips keeps _ before after (Some next) = ⊥
