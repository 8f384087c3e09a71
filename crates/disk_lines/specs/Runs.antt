-- A run of lines over a store in a folder.
use Rattle.std.specs.Prelude.{[], ◌≡◌, ◌⊎◌, ◌<◌, ◌+◌, ◌-◌, ◌^◌, ℕ, Bool, List, ◌∷◌, ◌++◌, length, map}
use Rattle.std.specs.Prelude.{Option, Result, Ok, Err}
use Rattle.std.specs.List.{flat_map}
use Rattle.std.specs.Io.KnownBytes.{Appends, Consumes, IsAtEnd}
use Rattle.lines.specs.Grammar.{LineValue}
use Rattle.lines.specs.Reading.{IsLineText, IsUnbroken}
use Rattle.lines.specs.Reasons.{HasReason}
use Rattle.lines.specs.Scanning.{line_limit}
use Rattle.lines.specs.declared.reason.Reason.{Reason}
use Rattle.lines.specs.declared.reason.Reason.TheVariants.{TooLong, TooMany}
use Rattle.raw_lines.specs.Raw.{SaysIn}
use Rattle.answers.specs.declared.fault.ScriptFault.{ScriptFault}
use Rattle.answers.specs.declared.fault.ScriptFault.TheVariants.{BadLine, ReadFailed, WriteFailed, NoMemory}
use Rattle.answers.specs.driving.master.master_state.Data.{MasterData}
use Rattle.disk_lines.specs.Groups.{RunsGroup}
use Rattle.disk_lines.specs.Lines.{RunsLine}

-- a line: its text without the line feed, and what it says
pub record Said : Type 0 where
  pub text : List ℕ
  pub line : LineValue

-- lines that were run together, and what was printed of them: one line by itself, or the commands of a group
pub record Told : Type 0 where
  pub said : List Said
  pub printed : List ℕ

-- each text is that of its line
abbrev pub AreSaid : Bool → List Said → Type 0
AreSaid is_raw [] = Unit {0}
AreSaid is_raw (s ∷ ss) = (IsLineText is_raw s.text × SaysIn is_raw s.text s.line) × AreSaid is_raw ss

abbrev pub lines_of : List Said → List LineValue
lines_of said = map (λ (s : Said). s.line) said

-- the lines were run over a master: one line by itself, or the commands of a group
abbrev pub RunsTogether : Bool → MasterData → List LineValue → MasterData → List ℕ → Type 0
RunsTogether is_raw old lines new printed =
    ((line : LineValue) × (lines ≡ line ∷ []) × RunsLine is_raw old line new printed)
    ⊎ RunsGroup is_raw old lines new printed

pub record IsTold (is_raw : Bool) (old : MasterData) (t : Told) (new : MasterData) : Type 0 where
  pub says : AreSaid is_raw t.said
  pub runs : RunsTogether is_raw old (lines_of t.said) new t.printed

-- they were run in turn, each over what those before it left
abbrev pub AreTold : Bool → MasterData → List Told → MasterData → Type 0
AreTold is_raw old [] new = new ≡ old
AreTold is_raw old (t ∷ ts) new = (mid : MasterData) × IsTold is_raw old t mid × AreTold is_raw mid ts new

-- all lines that were run, in order
abbrev pub said_in : List Told → List Said
said_in told = flat_map (λ (t : Told). t.said) told

-- the texts of lines, each with its line feed
abbrev pub texts_of : List Said → List ℕ
texts_of said = flat_map (λ (s : Said). s.text ++ 10 ∷ []) said

-- what was printed of these lines
abbrev pub printed_of : List Told → List ℕ
printed_of told = flat_map (λ (t : Told). t.printed) told

-- the bytes are those of the lines; the last line may lack its line feed if it has a byte
abbrev pub AreLines : List Said → List ℕ → Type 0
AreLines said bytes = (bytes ≡ texts_of said)
    ⊎ ((before : List Said) × (last : Said) × (said ≡ before ++ last ∷ []) × (bytes ≡ texts_of before ++ last.text)
    × (0 < length last.text))

-- what was taken of the reader for a line with this text
abbrev pub IsTakenLine : List ℕ → List ℕ → Option (List ℕ) → Type 0
IsTakenLine text taken left = (taken ≡ text ++ 10 ∷ []) ⊎ ((taken ≡ text) × (0 < length text) × IsAtEnd left)

-- the text says no line, for this reason
abbrev pub SaysNone : Bool → List ℕ → Reason → Type 0
SaysNone is_raw text why = ((line : LineValue) → SaysIn is_raw text line → ⊥) × HasReason text why

-- a line is bad, for this reason: it is too long, its text says no line, or it is line 2^64 - 1
abbrev pub IsBad : Bool → ℕ → List ℕ → Option (List ℕ) → Reason → Type 0
IsBad is_raw number taken left why =
    ((why ≡ TooLong) × IsUnbroken is_raw taken × (length taken ≡ line_limit is_raw + 1))
    ⊎ (((text : List ℕ) × IsTakenLine text taken left × (number < 2 ^ 64 - 1) × SaysNone is_raw text why)
    ⊎ ((why ≡ TooMany) × (number ≡ 2 ^ 64 - 1)))

-- What was taken of the reader: the lines that were run, of which the first has this number, and then nothing, or a bad
-- line, which has the next number, or part of a line at a fault. If the writer failed, it failed at what is printed of
-- the last lines that were run, or before more was read.
abbrev pub EndsWith : Bool → ℕ → List Said → List ℕ → Option (List ℕ) → Result (Unit {0}) ScriptFault → Type 0
EndsWith is_raw first said taken left (Ok done) = AreLines said taken × IsAtEnd left
EndsWith is_raw first said taken left (Err (BadLine number why)) =
    (number ≡ first + length said) × (bad : List ℕ) × (taken ≡ texts_of said ++ bad)
    × IsBad is_raw number bad left why
EndsWith is_raw first said taken left (Err ReadFailed) = (part : List ℕ) × (taken ≡ texts_of said ++ part)
EndsWith is_raw first said taken left (Err WriteFailed) =
    AreLines said taken ⊎ ((part : List ℕ) × (taken ≡ texts_of said ++ part))
EndsWith is_raw first said taken left (Err NoMemory) = (part : List ℕ) × (taken ≡ texts_of said ++ part)

-- all that is printed of what was run before the last was written, and a front of what is printed of the last, which is
-- one line or a group
abbrev pub CutsLast : Option (List ℕ) → Option (List ℕ) → List Told → Type 0
CutsLast held holds told = (before : List Told) × (last : Told) × (front : List ℕ) × (rest : List ℕ)
    × (told ≡ before ++ last ∷ []) × (last.printed ≡ front ++ rest)
    × Appends held holds (printed_of before ++ front)

-- what was written; only if the writer failed, the end of the last one's may be missing
abbrev pub Prints : Option (List ℕ) → Option (List ℕ) → List Told → Result (Unit {0}) ScriptFault → Type 0
Prints held holds told (Err WriteFailed) = Appends held holds (printed_of told) ⊎ CutsLast held holds told
Prints held holds told result = Appends held holds (printed_of told)

-- A run of lines, from the one with this number on, with raw bytes or of words alone: what the master knew and knows,
-- what the reader had and has left, what the writer held and holds, and how the run ended. Whatever was told of, the
-- master was pushed for before a byte of it was printed: so it holds also if the writer failed at the first byte.
pub record RunsFrom (is_raw : Bool) (first : ℕ) (old new : MasterData) (had left held holds : Option (List ℕ))
    (result : Result (Unit {0}) ScriptFault) : Type 0 where
  pub told : List Told
  pub taken : List ℕ
  pub consumed : Consumes had left taken
  pub tells : AreTold is_raw old told new
  pub ends : EndsWith is_raw first (said_in told) taken left result
  pub prints : Prints held holds told result
