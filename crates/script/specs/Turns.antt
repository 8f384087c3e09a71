-- What one line of a script comes to.
use Rattle.std.specs.Prelude.{[], ◌≡◌, ◌⊎◌, ◌<◌, ◌≤◌, ◌+◌, ◌-◌, ◌^◌, ℕ, List, ◌∷◌, ◌++◌, length, Bool, true, false}
use Rattle.std.specs.Prelude.{Option}
use Rattle.std.specs.Prelude.{Result, Ok, Err}
use Rattle.std.specs.Io.KnownBytes.{Appends, Consumes, IsAtEnd, Keeps}
use Rattle.lines.specs.Grammar.{LineValue, Put, New, Cas, Lose}
use Rattle.lines.specs.Scanning.{line_limit}
use Rattle.raw_lines.specs.Raw.{SaysIn}
use Rattle.raw_answers.specs.Texts.{told_text}
use Rattle.lines.specs.Reading.{IsLineText}
use Rattle.lines.specs.declared.reason.Reason.TheVariants.{TooMany}
use Rattle.next_master.specs.answers.declared.answer.Answer.{Answer}
use Rattle.next_master.specs.answers.declared.fault.ScriptFault.{ScriptFault}
use Rattle.next_master.specs.answers.declared.fault.ScriptFault.TheVariants as fault
use Rattle.script.specs.declared.session.LineFault.{LineFault}
use Rattle.script.specs.declared.session.LineFault.TheVariants as line_fault
use Rattle.script.specs.declared.session.Session.{Session}
use Rattle.script.specs.Runs.{IsOfFleet, IsTakenLine, IsBadLine, IsReasonFor, IsReasonOf, IsRefusedText, IsScriptLine}
use Rattle.script.specs.Runs.{EndsRun, IsTurn, has_command, report_of, skips_as}
use Rattle.script.specs.Sessions.{Forgets, RunsTurn, SetsLater, later_after}
use Rattle.script.specs.Telling.{Told}
use Rattle.next_master.specs.Configuration.{MayBegin}
use Rattle.next_master.specs.answers.Errors.{AppendsFront, Errors, Reports, Writes}
use Rattle.next_master.specs.answers.Texts.{fault_lines}

-- what a reader has left or a writer holds, if that is known
abbrev pub Known : Type 0
Known = Option (List ℕ)

-- an object may have the value of the line
abbrev pub HasValue : LineValue → Type 0
HasValue (Put table key value) = length value ≤ 2097152
HasValue (New table key value) = length value ≤ 2097152
HasValue (Cas table key version value) = length value ≤ 2097152
HasValue _ = Unit {0}

-- why a line wasn't run: it names a backup that isn't there, later masters couldn't begin, or memory ran out
abbrev pub RefusesLine : Session → LineValue → LineFault → Type 0
RefusesLine s line line_fault.NoBackup =
    (backup : ℕ) × (line ≡ Lose backup) × (backup < s.options.backups → ⊥)
RefusesLine s line line_fault.NoLaterMaster =
    SetsLater line × (MayBegin (later_after line s.later) s.options → ⊥)
RefusesLine s line line_fault.NoMemory = Unit {0}

-- the line of a text was run on a session, which became another; behind the answer its master may have forgotten
pub record RunsText (is_raw : Bool) (old : Session) (text : List ℕ) (new : Session) (answer : Answer) : Type 0 where
  pub line : LineValue
  pub says : SaysIn is_raw text line
  pub of_fleet : IsOfFleet old.options.backups line
  pub runs : RunsTurn old line new answer

-- the line of a text was run, and its answer was written; `has` says whether it has a command
abbrev pub AnswersText : Bool → Session → List ℕ → Session → Known → Known → Bool → Type 0
AnswersText is_raw old text new held holds has =
    (answer : Answer) × (runs : RunsText is_raw old text new answer) × Appends held holds (told_text is_raw answer)
    × (has_command runs.line ≡ has)

-- an answer was written, or the writer failed and took a front of it
abbrev pub IsPrinted : Bool → Known → Known → Answer → Result (Unit {0}) ScriptFault → Type 0
IsPrinted is_raw held holds answer (Ok done) = Appends held holds (told_text is_raw answer)
IsPrinted is_raw held holds answer (Err e) = (e ≡ fault.WriteFailed) × AppendsFront held holds (told_text is_raw answer)

-- the same of a line without a command, which Ok says by false
abbrev pub IsPrintedPlain : Bool → Known → Known → Answer → Result Bool ScriptFault → Type 0
IsPrintedPlain is_raw held holds answer (Ok has) = (has ≡ false) × Appends held holds (told_text is_raw answer)
IsPrintedPlain is_raw held holds answer (Err e) =
    (e ≡ fault.WriteFailed) × AppendsFront held holds (told_text is_raw answer)

-- The line was run and its answer written; or the writer failed, or memory ran out. Or the line is bad: then nothing
-- was done, but that the session's master may have forgotten.
abbrev pub PrintsText : Bool → Session → Session → List ℕ → ℕ → Known → Known → Result Bool ScriptFault → Type 0
PrintsText is_raw old new text number held holds (Ok has) = AnswersText is_raw old text new held holds has
PrintsText is_raw old new text number held holds (Err (fault.BadLine n why)) =
    (n ≡ number) × IsRefusedText is_raw old text × Keeps held holds
    × IsReasonOf is_raw old.options.backups text why × Forgets old new
PrintsText is_raw old new text number held holds (Err fault.ReadFailed) = ⊥
PrintsText is_raw old new text number held holds (Err fault.WriteFailed) =
    (answer : Answer) × RunsText is_raw old text new answer × AppendsFront held holds (told_text is_raw answer)
PrintsText is_raw old new text number held holds (Err fault.NoMemory) = Keeps held holds

-- ---- bad lines

-- a bad line was reported; for another fault nothing was done
abbrev pub ReportsBadLine : ScriptFault → Errors → Errors → Bool → Type 0
ReportsBadLine (fault.BadLine n why) before after reported =
    (reported ≡ true) × Writes before after (fault_lines before.explains (fault.BadLine n why))
ReportsBadLine _ before after reported = (reported ≡ false) × (after ≡ before)

-- the fault is no bad line
abbrev pub IsNoBadLine : ScriptFault → Type 0
IsNoBadLine (fault.BadLine n why) = ⊥
IsNoBadLine _ = Unit {0}

-- What is told of the line that has this number. It was run, and its answer was written; or it was skipped, and
-- reported.
pub record TellsTurn (keeps is_raw : Bool) (old : Session) (number : ℕ) (new : Session) (held holds : Known)
    (before after : Errors) (t : Told) : Type 0 where
  pub line : IsScriptLine keeps is_raw old.options.backups t
  pub turn : IsTurn is_raw old t new
  pub prints : Appends held holds (told_text is_raw t.answer)
  pub reports : Reports before after (report_of before.explains number t)

-- What came of a text. It was run, or skipped if it is bad and the run keeps going. Or a fault came.
abbrev pub TakesText : Bool → Bool → Session → Session → List ℕ → ℕ → Known → Known → Errors → Errors → Bool → Bool
    → Result (Unit {0}) ScriptFault → Type 0
TakesText keeps is_raw old new text number held holds before after was skipped (Ok done) =
    (t : Told) × (t.text ≡ text) × TellsTurn keeps is_raw old number new held holds before after t
    × (skipped ≡ skips_as was t.skipped)
TakesText keeps is_raw old new text number held holds before after was skipped (Err f) =
    PrintsText is_raw old new text number held holds (Err f) × (after ≡ before) × (keeps ≡ true → IsNoBadLine f)

-- ---- one line

-- Which fault came of the line with this number. If the writer failed, it took a front of the line's answer, or failed
-- as it was flushed before more was read.
abbrev pub FailsTurn : Bool → Session → Session → ℕ → Known → Known → Known → Known → ScriptFault → Type 0
FailsTurn is_raw old new number had left held holds (fault.BadLine n why) =
    (n ≡ number) × (bad : List ℕ) × Consumes had left bad × IsBadLine is_raw old number bad left
    × Keeps held holds
    × IsReasonFor is_raw old.options.backups number bad left why
FailsTurn is_raw old new number had left held holds fault.ReadFailed =
    (part : List ℕ) × Consumes had left part × IsLineText is_raw part × Keeps held holds
FailsTurn is_raw old new number had left held holds fault.WriteFailed =
    ((text : List ℕ) × (taken : List ℕ) × IsLineText is_raw text × Consumes had left taken × IsTakenLine text taken left
    × (answer : Answer) × RunsText is_raw old text new answer × AppendsFront held holds (told_text is_raw answer))
    ⊎ ((part : List ℕ) × Consumes had left part × IsLineText is_raw part × Keeps held holds)
FailsTurn is_raw old new number had left held holds fault.NoMemory =
    (part : List ℕ) × Consumes had left part × (length part ≤ line_limit is_raw + 1) × Keeps held holds

-- What came of the line with this number. It was run or skipped, and more may come; or it was the last one, or there
-- was none; or a fault came. `skipped` says whether a line was skipped so far.
abbrev pub TakesTurn : Bool → Bool → Session → Session → ℕ → Known → Known → Known → Known → Errors → Errors → Bool
    → Bool → Result Bool ScriptFault → Type 0
TakesTurn keeps is_raw old new number had left held holds before after was skipped (Ok true) =
    (t : Told) × Consumes had left (t.text ++ 10 ∷ [])
    × TellsTurn keeps is_raw old number new held holds before after t × (skipped ≡ skips_as was t.skipped)
TakesTurn keeps is_raw old new number had left held holds before after was skipped (Ok false) =
    ((t : Told) × Consumes had left t.text × IsAtEnd left × (0 < length t.text)
    × TellsTurn keeps is_raw old number new held holds before after t × (skipped ≡ skips_as was t.skipped))
    ⊎ (Consumes had left [] × IsAtEnd left × Keeps held holds × (after ≡ before) × (skipped ≡ was))
TakesTurn keeps is_raw old new number had left held holds before after was skipped (Err f) =
    FailsTurn is_raw old new number had left held holds f × (after ≡ before) × (keeps ≡ true → EndsRun f)

-- What came after the last line that can have a number.
abbrev pub IsNoMore : Bool → Known → Known → Known → Known → Result (Unit {0}) ScriptFault → Type 0
IsNoMore is_raw had left held holds (Ok done) = Consumes had left [] × IsAtEnd left × Keeps held holds
IsNoMore is_raw had left held holds (Err (fault.BadLine n why)) =
    (n ≡ 2 ^ 64 - 1) × (bad : List ℕ) × Consumes had left bad × ((s : Session) → IsBadLine is_raw s n bad left)
    × Keeps held holds × (why ≡ TooMany)
IsNoMore is_raw had left held holds (Err fault.ReadFailed) =
    (part : List ℕ) × Consumes had left part × IsLineText is_raw part × Keeps held holds
IsNoMore is_raw had left held holds (Err fault.WriteFailed) =
    (part : List ℕ) × Consumes had left part × IsLineText is_raw part × Keeps held holds
IsNoMore is_raw had left held holds (Err fault.NoMemory) =
    (part : List ℕ) × Consumes had left part × (length part ≤ line_limit is_raw + 1) × Keeps held holds
