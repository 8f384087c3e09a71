-- Which lines have a command, and which lines a session doesn't take.
use Rattle.std.proofs.Common.{◌≡◌, ◌≤◌, ℕ, List, ◌∷◌, ◌++◌, Bool, true, false, ap, inl, inr, length, length-append}
use Rattle.std.proofs.Common.{refl}
use Rattle.std.proofs.Common.{subst, arith}
use Rattle.std.specs.Prelude.{None, IfErr, Result, Ok, Err}
use Rattle.std.specs.Fmt.{decimal}
use Rattle.lines.specs.Reading.{IsLineText}
use Rattle.raw_lines.specs.Raw.{HasNoKey, IsKeyLine, SaysIn}
use Rattle.lines.specs.declared.command.CommandLine.{CommandLine}
use Rattle.lines.specs.declared.command.CommandLine.TheVariants as command
use Rattle.lines.specs.declared.line.Line.{Line}
use Rattle.lines.specs.declared.line.Line.TheVariants as line
use Rattle.lines.specs.Grammar.{shown_command, shown_line}
use Rattle.next_master.specs.cluster.Told.{command_of}
use Rattle.lines.specs.Grammar.{IsLine, LineValue, Says, Idle, Put, New, Cas, Get, Del}
use Rattle.script.specs.Runs.{Allows, IsOfFleet}
use Rattle.script.specs.Runs.{has_command as tells_command}
use Rattle.script.specs.Turns.{HasValue, RefusesLine}
use Rattle.next_master.specs.answers.declared.answer.Answer.{Answer}
use Rattle.script.specs.declared.session.LineFault.{LineFault}
use Rattle.script.specs.declared.session.LineFault.TheVariants as line_fault
use Rattle.script.specs.declared.session.Session.{Session}

pub has_command : (c : CommandLine) → command_of (shown_command c) ≡ None → ⊥
has_command (command.Put table key value) is = absurd (cc)
has_command (command.New table key value) is = absurd (cc)
has_command (command.Cas table key version value) is = absurd (cc)
has_command (command.Get table key) is = absurd (cc)
has_command (command.Del table key) is = absurd (cc)

pub has_no_command : (l : Line) → ((c : CommandLine) → l ≡ line.Command c → ⊥) → command_of (shown_line l) ≡ None
has_no_command line.Idle other = refl
has_no_command (line.Command c) other = absurd (other c refl)
has_no_command (line.Compact segment) other = refl
has_no_command line.Roll other = refl
has_no_command line.BeginRoll other = refl
has_no_command line.Push other = refl
has_no_command line.Log other = refl
has_no_command line.Room other = refl
has_no_command line.Segments other = refl
has_no_command (line.List table) other = refl
has_no_command (line.Hex segment) other = refl
has_no_command (line.Stop takes) other = refl
has_no_command (line.Fault takes taken) other = refl
has_no_command line.Format other = refl
has_no_command line.Crash other = refl
has_no_command (line.Lose backup) other = refl
has_no_command line.Will other = refl
has_no_command (line.Recover order) other = refl
has_no_command line.Holdings other = refl
has_no_command line.Live other = refl
has_no_command line.Needs other = refl
has_no_command (line.Seglets seglets) other = refl
has_no_command (line.Clean segments) other = refl
has_no_command (line.Begin segments) other = refl
has_no_command line.Copy other = refl
has_no_command line.Seal other = refl
has_no_command line.Free other = refl
has_no_command (line.Tend steps) other = refl
has_no_command (line.Clients clients rounds passes) other = refl

-- the line of a command has one
pub is_command : (c : CommandLine) → tells_command (shown_command c) ≡ true
is_command (command.Put table key value) = refl
is_command (command.New table key value) = refl
is_command (command.Cas table key version value) = refl
is_command (command.Get table key) = refl
is_command (command.Del table key) = refl

-- the line of a command names no backup
pub command_of_fleet : (backups : ℕ) (c : CommandLine) → IsOfFleet backups (shown_command c)
command_of_fleet backups (command.Put table key value) = tt
command_of_fleet backups (command.New table key value) = tt
command_of_fleet backups (command.Cas table key version value) = tt
command_of_fleet backups (command.Get table key) = tt
command_of_fleet backups (command.Del table key) = tt

-- ---- lines that the session doesn't take

pub no_backup : (s : Session) (l : LineValue) → RefusesLine s l line_fault.NoBackup → Allows s l → ⊥
no_backup s l (backup, is, none) allows = none (subst (Allows s) is allows).0

-- a line that wasn't run left the session as it is
pub left_as_it_is : (r : Result Answer LineFault) (s : Session) → IfErr r (λ (f : LineFault). s ≡ s)
left_as_it_is (Ok answer) s = tt
left_as_it_is (Err f) s = refl

-- a text says one line, which isn't taken
pub says_none : (s : Session) (other l : LineValue) → other ≡ l → (Allows s l → ⊥) → Allows s other → ⊥
says_none s other l is none allows = none (subst (Allows s) is allows)

-- ---- lines with raw bytes or without

pub no_key_of : (l : LineValue) → command_of l ≡ None → HasNoKey l
no_key_of (Put table key value) is = absurd (cc)
no_key_of (New table key value) is = absurd (cc)
no_key_of (Cas table key version value) is = absurd (cc)
no_key_of (Get table key) is = absurd (cc)
no_key_of (Del table key) is = absurd (cc)
no_key_of _ is = tt

said_limits : (text : List ℕ) (l : LineValue) → Says text l → IsLine l
said_limits text Idle says = tt
said_limits text _ says = says.limits

key_line : (l : LineValue) → IsKeyLine l → HasNoKey l → ⊥
key_line (Put table key value) limits plain = plain
key_line (New table key value) limits plain = plain
key_line (Cas table key version value) limits plain = plain
key_line (Get table key) limits plain = plain
key_line (Del table key) limits plain = plain
key_line _ limits plain = limits

-- a line without a command is within its limits
pub line_in : (is_raw : Bool) (text : List ℕ) (l : LineValue) → SaysIn is_raw text l → command_of l ≡ None → IsLine l
line_in false text l says none = said_limits text l says
line_in true text l (inl raw) none = absurd (key_line l raw.limits (no_key_of l none))
line_in true text l (inr said) none = said_limits text l said.1

said_value : (text : List ℕ) (l : LineValue) → Says text l → length text ≤ 4096 → HasValue l
said_value text (Put table key value) says short =
    let long = ap length says.spaced in
    omega (arith, long, length-append (decimal table) (32 ∷ (key ++ 32 ∷ value)), length-append key (32 ∷ value))
said_value text (New table key value) says short =
    let long = ap length says.spaced in
    omega (arith, long, length-append (decimal table) (32 ∷ (key ++ 32 ∷ value)), length-append key (32 ∷ value))
said_value text (Cas table key version value) says short =
    let long = ap length says.spaced in
    omega (
      arith,
      long,
      length-append (decimal table) (32 ∷ (key ++ 32 ∷ (decimal version ++ 32 ∷ value))),
      length-append key (32 ∷ (decimal version ++ 32 ∷ value)),
      length-append (decimal version) (32 ∷ value),
    )
said_value text _ says short = tt

raw_value : (l : LineValue) → IsKeyLine l → HasValue l
raw_value (Put table key value) limits = limits.2
raw_value (New table key value) limits = limits.2
raw_value (Cas table key version value) limits = limits.3
raw_value _ limits = tt

plain_value : (l : LineValue) → HasNoKey l → HasValue l
plain_value (Put table key value) plain = absurd plain
plain_value (New table key value) plain = absurd plain
plain_value (Cas table key version value) plain = absurd plain
plain_value _ plain = tt

-- an object may have the value of a line
pub value_in : (is_raw : Bool) (text : List ℕ) (l : LineValue) → SaysIn is_raw text l → IsLineText is_raw text
    → HasValue l
value_in false text l says whole = said_value text l says whole.short
value_in true text l (inl raw) whole = raw_value l raw.limits
value_in true text l (inr said) whole = plain_value l said.0
