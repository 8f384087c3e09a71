-- What a turn over a store in a folder comes to: a group, and a line by itself.
use Rattle.std.specs.Prelude.{[], ◌≡◌, ◌⊎◌, ◌+◌, ◌-◌, ◌<◌, ◌≤◌, ℕ, zero, suc, Bool, true, List, ◌++◌, length}
use Rattle.std.specs.Prelude.{Option, Some, None, Result, Ok, Err, if◌then◌else◌, nat_lt, unwrap_or}
use Rattle.std.specs.Io.KnownBytes.{Appends, Consumes, Keeps}
use Rattle.lines.specs.Grammar.{LineValue}
use Rattle.lines.specs.Reading.{StopsIn, TakesLine}
use Rattle.lines.specs.declared.reading.ReadFault.{ReadFault}
use Rattle.lines.specs.declared.reading.Taken.{Taken}
use Rattle.raw_lines.specs.Raw.{SaysIn}
use Rattle.versioned_map.specs.declared.command.Record.{Record}
use Rattle.versioned_map.specs.declared.command.Reply.TheVariants as said
use Rattle.answers.specs.Errors.{AppendsFront}
use Rattle.answers.specs.declared.fault.ScriptFault.{ScriptFault}
use Rattle.answers.specs.declared.fault.ScriptFault.TheVariants as fault
use Rattle.answers.specs.driving.Served.{LivesOn, is_of_push}
use Rattle.answers.specs.driving.master.log_laws.Data.{durable_of}
use Rattle.answers.specs.driving.master.master_state.Data.{MasterData}
use Rattle.answers.specs.driving.master.master_state.Log.{log_of}
use Rattle.answers.specs.driving.master.master_state.declared.step.Refusal.{Refusal}
use Rattle.raw_answers.specs.Texts.{reply_in}
use Rattle.embedded.specs.Replies.{GoesOn, kept_reply, number_of}
use Rattle.disk_lines.specs.Groups.{AppliesLine, AskFor, unsure_line}
use Rattle.disk_lines.specs.Lines.{RunsLine, word_of}
use Rattle.disk_lines.specs.Runs.{AreSaid, AreTold, RunsFrom, Said, SaysNone, Told, lines_of, printed_of, said_in}
use Rattle.disk_lines.specs.Runs.{texts_of}

-- what a reader has left or a writer holds, if that is known
abbrev pub Known : Type 0
Known = Option (List ℕ)

-- these bytes were written, or the writer failed and took a front of them
abbrev pub IsWritten : Known → Known → List ℕ → Result (Unit {0}) ScriptFault → Type 0
IsWritten held holds bytes (Ok done) = Appends held holds bytes
IsWritten held holds bytes (Err f) = (f ≡ fault.WriteFailed) × AppendsFront held holds bytes

-- The line of a text was run, and what is printed of it was written. Or the writer failed. Or the text says no line,
-- and the reason says why.
abbrev pub PrintsText : Bool → MasterData → MasterData → List ℕ → ℕ → Known → Known → Result (Unit {0}) ScriptFault
    → Type 0
PrintsText is_raw old new text number held holds (Err (fault.BadLine n why)) = (n ≡ number)
    × SaysNone is_raw text why × Keeps held holds × (new ≡ old)
PrintsText is_raw old new text number held holds result = (line : LineValue) × (printed : List ℕ)
    × SaysIn is_raw text line × RunsLine is_raw old line new printed × IsWritten held holds printed result

-- ---- a group

-- So many lines were taken, each with its line feed, and the commands of them were applied, one after another. If there
-- are none, nothing changed.
pub record IsGathered (is_raw : Bool) (count : ℕ) (old new : MasterData) (had left : Known) : Type 0 where
  pub said : List Said
  pub records : List Record
  pub many : length said ≡ count
  pub consumed : Consumes had left (texts_of said)
  pub says : AreSaid is_raw said
  pub asked : AskFor (lines_of said) records
  pub applied : LivesOn old new records
  pub none : count ≡ 0 → new ≡ old

-- What was taken of a reader for a group, and behind it: nothing, if one line or more is in the group, or a line that
-- isn't in it, or part of a line at a fault.
abbrev pub Gathers : Bool → MasterData → MasterData → Known → Known → List ℕ → ℕ → Result (Option Taken) ReadFault
    → Type 0
Gathers is_raw old new had left text count (Ok None) = (0 < count) × IsGathered is_raw count old new had left
Gathers is_raw old new had left text count (Ok (Some taken)) =
    (mid : Known) × IsGathered is_raw count old new had mid × TakesLine is_raw mid left text taken
Gathers is_raw old new had left text count (Err f) =
    (mid : Known) × IsGathered is_raw count old new had mid × StopsIn is_raw mid left text f

-- the command of a text was applied
abbrev pub AppliesText : Bool → MasterData → List ℕ → MasterData → Type 0
AppliesText is_raw old text new = (line : LineValue) × SaysIn is_raw text line × AppliesLine old line new

-- all records are durable, or the push for the last was refused, and this is the word of its refusal
abbrev pub IsPushed : MasterData → List ℕ → Type 0
IsPushed d why = (length d.history ≤ durable_of (log_of d))
    ⊎ ((r : Refusal) × (is_of_push r ≡ true) × (why ≡ word_of (number_of r)))

-- what is printed of the record at a place: its reply if it is durable, or else that it is unsure, and why
abbrev pub told_at : Bool → MasterData → List ℕ → ℕ → List ℕ
told_at is_raw d why place =
    if nat_lt place (durable_of (log_of d)) then reply_in is_raw (unwrap_or (kept_reply d place) said.None)
    else unsure_line why

-- what is printed of so many records from a place on
abbrev pub told_from : Bool → MasterData → List ℕ → ℕ → ℕ → List ℕ
told_from is_raw d why place zero = []
told_from is_raw d why place (suc count) = told_at is_raw d why place ++ told_from is_raw d why (suc place) count

-- The last records, so many of them, were pushed for, and then answered. If there are none, nothing was done.
abbrev pub AnswersGroup : Bool → ℕ → MasterData → MasterData → Known → Known → Result (Unit {0}) ScriptFault → Type 0
AnswersGroup is_raw zero old new held holds result = (result ≡ Ok tt) × (new ≡ old) × Keeps held holds
AnswersGroup is_raw (suc more) old new held holds result = (why : List ℕ) × (pushed : MasterData)
    × LivesOn old pushed [] × IsPushed pushed why × GoesOn pushed new []
    × IsWritten held holds (told_from is_raw pushed why (length old.history - suc more) (suc more)) result

-- ---- a turn

-- Lines were run, each with its line feed. The first and the next one have these numbers.
pub record HasRun (is_raw : Bool) (first next : ℕ) (old new : MasterData) (had left held holds : Known) : Type 0 where
  pub told : List Told
  pub count : next ≡ first + length (said_in told)
  pub consumed : Consumes had left (texts_of (said_in told))
  pub tells : AreTold is_raw old told new
  pub printed : Appends held holds (printed_of told)

-- What came of a turn that begins with the line of this number: lines were run, and more may come; or the run ended.
abbrev pub TakesTurn : Bool → ℕ → MasterData → MasterData → Known → Known → Known → Known
    → Result (Option ℕ) ScriptFault → Type 0
TakesTurn is_raw first old new had left held holds (Ok (Some next)) =
    (first < next) × HasRun is_raw first next old new had left held holds
TakesTurn is_raw first old new had left held holds (Ok None) =
    RunsFrom is_raw first old new had left held holds (Ok tt)
TakesTurn is_raw first old new had left held holds (Err f) =
    RunsFrom is_raw first old new had left held holds (Err f)
