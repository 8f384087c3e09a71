-- What a run of a script takes of its reader, what its lines tell, and what it prints.
use Rattle.std.specs.Prelude.{[], ◌≡◌, ◌⊎◌, ◌<◌, ◌≤◌, ◌+◌, ◌-◌, ◌^◌, ℕ, suc, Bool, true, false, List, ◌∷◌, ◌++◌, length}
use Rattle.std.specs.Prelude.{Option, Some, None, IfSome, is_some, Result, Ok, Err, IfErr, ◌&&◌, nat_lt, codes}
use Rattle.std.specs.Fmt.{decimal}
use Rattle.std.specs.List.{All, flat_map}
use Rattle.std.specs.Io.KnownBytes.{Appends, Consumes, IsAtEnd}
use Rattle.command_line.specs.declared.settings.Options.{Options}
use Rattle.lines.specs.Grammar.{LineValue, Idle, Lose}
use Rattle.lines.specs.Reading.{IsUnbroken, IsLineText}
use Rattle.lines.specs.Scanning.{line_limit}
use Rattle.raw_lines.specs.Raw.{SaysIn}
use Rattle.raw_answers.specs.Texts.{told_text}
use Rattle.lines.specs.Reasons.{HasReason}
use Rattle.lines.specs.declared.reason.Reason.{Reason}
use Rattle.lines.specs.declared.reason.Reason.TheVariants.{NoBackup, NoLaterMaster, TooLong, TooMany}
use Rattle.next_master.specs.answers.declared.answer.Answer.TheVariants.{Silent}
use Rattle.next_master.specs.answers.declared.fault.ScriptFault.{ScriptFault}
use Rattle.next_master.specs.answers.declared.fault.ScriptFault.TheVariants.{BadLine, ReadFailed, WriteFailed, NoMemory}
use Rattle.next_master.specs.answers.Errors.{Errors, Reports}
use Rattle.next_master.specs.answers.Texts.{error_line, fault_lines}
use Rattle.next_master.specs.cluster.Told.{command_of}
use Rattle.next_master.specs.cluster.declared.node.Node.{Node}
use Rattle.next_master.specs.cluster.declared.node.Node.TheVariants.{Up}
use Rattle.next_master.specs.master.log_laws.Data.{durable_of}
use Rattle.next_master.specs.master.master_state.Log.{log_of}
use Rattle.script.specs.declared.session.Session.{Session}
use Rattle.next_master.specs.Configuration.{config_of, MayBegin}
use Rattle.script.specs.Sessions.{RunsTurn, BeginsSession, SetsLater, later_after}
use Rattle.script.specs.Telling.{TellLives, Told}

-- ---- lines

-- a fleet of this many backups has the one that the line names
abbrev pub IsOfFleet : ℕ → LineValue → Type 0
IsOfFleet backups (Lose backup) = backup < backups
IsOfFleet backups _ = Unit {0}

-- the session takes the line: its fleet has the backup that the line names, and later masters may begin after the line
abbrev pub Allows : Session → LineValue → Type 0
Allows s line = IsOfFleet s.options.backups line × MayBegin (later_after line s.later) s.options

-- What is said of a bad text: why it says no line or, if it loses a backup, how many backups the fleet has, or that no
-- master could begin with what it sets for later masters.
abbrev pub IsReasonOf : Bool → ℕ → List ℕ → Reason → Type 0
IsReasonOf is_raw backups text why =
    HasReason text why ⊎ (((why ≡ NoBackup backups) × (backup : ℕ) × SaysIn is_raw text (Lose backup))
    ⊎ ((why ≡ NoLaterMaster) × (line : LineValue) × SetsLater line × SaysIn is_raw text line))

-- a line that was run is one of the script
pub record IsRunLine (is_raw : Bool) (backups : ℕ) (t : Told) : Type 0 where
  pub whole : IsLineText is_raw t.text
  pub says : SaysIn is_raw t.text t.line
  pub of_fleet : IsOfFleet backups t.line

-- a bad line that was skipped did as little as an empty line, and is bad for this reason
pub record IsSkippedLine (is_raw : Bool) (backups : ℕ) (t : Told) (why : Reason) : Type 0 where
  pub whole : IsLineText is_raw t.text
  pub idle : t.line ≡ Idle
  pub silent : t.answer ≡ Silent
  pub reason : IsReasonOf is_raw backups t.text why

abbrev pub IsLineAs : Bool → Bool → ℕ → Told → Option Reason → Type 0
IsLineAs keeps is_raw backups t None = IsRunLine is_raw backups t
IsLineAs keeps is_raw backups t (Some why) = (keeps ≡ true) × IsSkippedLine is_raw backups t why

-- a line was run, or skipped if it is bad and the run keeps going
abbrev pub IsScriptLine : Bool → Bool → ℕ → Told → Type 0
IsScriptLine keeps is_raw backups t = IsLineAs keeps is_raw backups t t.skipped

-- the texts of the lines, each with its line feed
abbrev pub texts_of : List Told → List ℕ
texts_of told = flat_map (λ (t : Told). t.text ++ 10 ∷ []) told

-- the texts of the answers to these lines
abbrev pub answers_of : Bool → List Told → List ℕ
answers_of is_raw told = flat_map (λ (t : Told). told_text is_raw t.answer) told

-- the bytes are those of the lines; the last line may lack its line feed if it has a byte
abbrev pub AreLines : List Told → List ℕ → Type 0
AreLines told bytes = (bytes ≡ texts_of told)
    ⊎ ((before : List Told) × (last : Told) × (told ≡ before ++ last ∷ []) × (bytes ≡ texts_of before ++ last.text)
    × (0 < length last.text))

-- ---- bad lines

-- what was taken of the reader for a line with this text
abbrev pub IsTakenLine : List ℕ → List ℕ → Option (List ℕ) → Type 0
IsTakenLine text taken left = (taken ≡ text ++ 10 ∷ []) ⊎ ((taken ≡ text) × (0 < length text) × IsAtEnd left)

-- a line is bad if it is too long, if its text says no line that the session takes, or if it is line 2^64 - 1
abbrev pub IsBadLine : Bool → Session → ℕ → List ℕ → Option (List ℕ) → Type 0
IsBadLine is_raw s number taken left =
    (IsUnbroken is_raw taken × (length taken ≡ line_limit is_raw + 1))
    ⊎ ((text : List ℕ) × IsLineText is_raw text × IsTakenLine text taken left
    × ((number ≡ 2 ^ 64 - 1) ⊎ ((line : LineValue) → SaysIn is_raw text line → Allows s line → ⊥)))

-- ---- commands that may have been made

-- how many records a node's master has made
abbrev pub made_by : Node → Option ℕ
made_by (Up m) = Some (length m.knows.history)
made_by _ = None

-- A master had made so many records. Now it has more, and not all of them are durable. Or it was dropped.
abbrev pub has_unsure : Option ℕ → Node → Bool
has_unsure (Some made) (Up m) =
    nat_lt made (length m.knows.history) && nat_lt (durable_of (log_of m.knows)) (length m.knows.history)
has_unsure (Some made) _ = true
has_unsure None _ = false

-- whether the line has a command
abbrev pub has_command : LineValue → Bool
has_command line = is_some (command_of line)

-- The line has a command. Its record may be one that a recovery doesn't find, or its master was dropped.
abbrev pub may_be_made : Session → LineValue → Session → Bool
may_be_made old line new = has_command line && has_unsure (made_by old.node) new.node

-- ---- one session

-- the session takes no line with this text
abbrev pub IsRefusedText : Bool → Session → List ℕ → Type 0
IsRefusedText is_raw s text = (line : LineValue) → SaysIn is_raw text line → Allows s line → ⊥

-- A line was run on a session, which became another. If it was skipped, the session doesn't take its text. Its command
-- is unsure just if it may have been made and has no reply.
abbrev pub IsTurn : Bool → Session → Told → Session → Type 0
IsTurn is_raw old t new =
    RunsTurn old t.line new t.answer × IfSome t.skipped (λ (why : Reason). IsRefusedText is_raw old t.text)
    × (t.unsure ≡ may_be_made old t.line new)

-- the lines were run in turn, each on the session that the line before it left
abbrev pub AreRunOn : Bool → Session → List Told → Session → Type 0
AreRunOn is_raw old [] new = new ≡ old
AreRunOn is_raw old (t ∷ ts) new = (mid : Session) × IsTurn is_raw old t mid × AreRunOn is_raw mid ts new

-- One session began under these options, and the lines were run on it.
pub record AreRun (is_raw : Bool) (options : Options) (told : List Told) : Type 0 where
  pub first : Session
  pub last : Session
  pub begins : BeginsSession options first
  pub run : AreRunOn is_raw first told last

-- why a line is bad
abbrev pub IsReasonFor : Bool → ℕ → ℕ → List ℕ → Option (List ℕ) → Reason → Type 0
IsReasonFor is_raw backups number taken left why =
    ((text : List ℕ) × IsTakenLine text taken left × IsReasonOf is_raw backups text why)
    ⊎ ((why ≡ TooLong) × (length taken ≡ line_limit is_raw + 1)) ⊎ ((why ≡ TooMany) × (number ≡ 2 ^ 64 - 1))

-- ---- what is reported

-- how a run ends: with Ok it says whether a bad line was skipped
abbrev pub RunResult : Type 0
RunResult = Result Bool ScriptFault

abbrev pub report_as : Bool → ℕ → Option Reason → List ℕ
report_as explains number None = []
report_as explains number (Some why) = fault_lines explains (BadLine number why)

-- that the command of a line may have been made, if that is so and is to be explained
abbrev pub unsure_line : Bool → Bool → ℕ → List ℕ
unsure_line true true number =
    error_line (codes "the command of line " ++ decimal number ++ codes " may have been made")
unsure_line _ _ _ = []

-- what is reported of a line that has this number: its fault if it was skipped, or that its command is unsure
abbrev pub report_of : Bool → ℕ → Told → List ℕ
report_of explains number t = report_as explains number t.skipped ++ unsure_line t.unsure explains number

-- what is reported of lines, of which the first has this number
abbrev pub reports_of : Bool → ℕ → List Told → List ℕ
reports_of explains number [] = []
reports_of explains number (t ∷ ts) = report_of explains number t ++ reports_of explains (suc number) ts

-- These lines were reported. If the writer failed, the last of them may be left out.
abbrev pub ReportsAll : Errors → Errors → List Told → RunResult → Type 0
ReportsAll before after told (Err WriteFailed) = Reports before after (reports_of before.explains 1 told)
    ⊎ ((front : List Told) × (last : Told) × (told ≡ front ++ last ∷ [])
    × Reports before after (reports_of before.explains 1 front))
ReportsAll before after told result = Reports before after (reports_of before.explains 1 told)

abbrev pub skips_as : Bool → Option Reason → Bool
skips_as before None = before
skips_as before (Some why) = true

-- whether a line was skipped, before these or among them
abbrev pub has_skipped : Bool → List Told → Bool
has_skipped before [] = before
has_skipped before (t ∷ ts) = has_skipped (skips_as before t.skipped) ts

-- ---- a run

-- the fault ends even a run that keeps going: it is no bad line, or the line is too long or one too many
abbrev pub EndsRun : ScriptFault → Type 0
EndsRun (BadLine number why) = (why ≡ TooLong) ⊎ (why ≡ TooMany)
EndsRun _ = Unit {0}

-- What was taken of the reader: the lines that were run, and then nothing, or a bad line, which has the next number,
-- or part of a line at a fault. The session on which the lines were run doesn't take the bad one. If the writer fails,
-- it fails at the answer of the last line that was run, or while part of the next line is read.
abbrev pub EndsWith : Bool → Options → List Told → List ℕ → Option (List ℕ) → RunResult → Type 0
EndsWith is_raw options told taken left (Ok skipped) =
    AreLines told taken × IsAtEnd left × (skipped ≡ has_skipped false told)
EndsWith is_raw options told taken left (Err (BadLine number why)) =
    (number ≡ suc (length told)) × (bad : List ℕ) × (taken ≡ texts_of told ++ bad)
    × (run : AreRun is_raw options told) × IsBadLine is_raw run.last number bad left
    × IsReasonFor is_raw options.backups number bad left why
EndsWith is_raw options told taken left (Err ReadFailed) =
    (part : List ℕ) × (taken ≡ texts_of told ++ part) × IsLineText is_raw part
EndsWith is_raw options told taken left (Err WriteFailed) =
    AreLines told taken ⊎ ((part : List ℕ) × (taken ≡ texts_of told ++ part) × IsLineText is_raw part)
EndsWith is_raw options told taken left (Err NoMemory) =
    (part : List ℕ) × (taken ≡ texts_of told ++ part) × (length part ≤ line_limit is_raw + 1)

-- all answers but the last were written, and a front of the last
abbrev pub CutsLast : Bool → Option (List ℕ) → Option (List ℕ) → List Told → Type 0
CutsLast is_raw old new told = (before : List Told) × (last : Told) × (front : List ℕ) × (rest : List ℕ)
    × (told ≡ before ++ last ∷ []) × (told_text is_raw last.answer ≡ front ++ rest)
    × Appends old new (answers_of is_raw before ++ front)

-- What was written: the answers and nothing else. Only if the writer failed, the end of the last answer may be
-- missing.
abbrev pub Prints : Bool → Option (List ℕ) → Option (List ℕ) → List Told → RunResult → Type 0
Prints is_raw old new told (Err WriteFailed) = Appends old new (answers_of is_raw told) ⊎ CutsLast is_raw old new told
Prints is_raw old new told result = Appends old new (answers_of is_raw told)

-- A run of a script, with raw bytes or of words alone, under options, which keeps going behind bad lines or doesn't:
-- what the reader had and has left, what the writer held and holds, what the error output was and is, and how the run
-- ended.
pub record RunsScript (keeps is_raw : Bool) (options : Options) (had left held holds : Option (List ℕ))
    (before after : Errors) (result : RunResult) : Type 0 where
  pub told : List Told
  pub taken : List ℕ
  pub consumed : Consumes had left taken
  pub lines : All (IsScriptLine keeps is_raw options.backups) told
  -- the lines tell of one life after another, and were run on one session; without a line there may be no session
  pub tells : TellLives (config_of options 1) told
  pub session : (told ≡ []) ⊎ AreRun is_raw options told
  pub ends : EndsWith is_raw options told taken left result
  pub goes_on : keeps ≡ true → IfErr result EndsRun
  pub prints : Prints is_raw held holds told result
  -- each line that was skipped or is unsure was reported, and nothing else
  pub reports : ReportsAll before after told result
