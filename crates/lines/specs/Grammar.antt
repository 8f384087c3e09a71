-- What each line of a script is written as.
use Rattle.std.specs.Prelude.{◌≡◌, ◌⊎◌, ◌-◌, ◌<◌, ◌≤◌, ◌^◌, ℕ, List, [], ◌∷◌, length, map, codes}
use Rattle.std.specs.Prelude.{Bool, true, false}
use Rattle.std.specs.List.{All, join_with_byte}
use Rattle.std.specs.Fmt.{decimal}
use Rattle.lines.specs.Keys.{IsKeyWord, IsWord}
use Rattle.lines.specs.Numbers.{numbers_of}
use Rattle.lines.specs.declared.command.CommandLine.{CommandLine}
use Rattle.lines.specs.declared.command.CommandLine.TheVariants as command
use Rattle.lines.specs.declared.line.Line.{Line}
use Rattle.lines.specs.declared.line.Line.TheVariants as line
use Rattle.lines.specs.declared.line.ReplayOrder.{ReplayOrder}
use Rattle.lines.specs.declared.line.ReplayOrder.TheVariants.{Forward, Reverse, Threads}

-- ---- lines

-- a line, with keys and values as lists of bytes, and several segments as a list of numbers
pub data LineValue : Type 0 where
  Idle : LineValue
  Put : (table : ℕ) (key value : List ℕ) → LineValue
  New : (table : ℕ) (key value : List ℕ) → LineValue
  Cas : (table : ℕ) (key : List ℕ) (version : ℕ) (value : List ℕ) → LineValue
  Get : (table : ℕ) (key : List ℕ) → LineValue
  Del : (table : ℕ) (key : List ℕ) → LineValue
  Compact : (segment : ℕ) → LineValue
  Roll : LineValue
  BeginRoll : LineValue
  Push : LineValue
  Log : LineValue
  Room : LineValue
  Segments : LineValue
  Listing : (table : ℕ) → LineValue
  LiveBytes : LineValue
  Needs : LineValue
  Hex : (segment : ℕ) → LineValue
  Stop : (takes : ℕ) → LineValue
  Fault : (takes : ℕ) (taken : Bool) → LineValue
  Format : LineValue
  Seglets : (seglets : ℕ) → LineValue
  Crash : LineValue
  Lose : (backup : ℕ) → LineValue
  Will : LineValue
  Recover : (order : ReplayOrder) → LineValue
  Holdings : LineValue
  Clean : (segments : List ℕ) → LineValue
  Begin : (segments : List ℕ) → LineValue
  Copy : LineValue
  Seal : LineValue
  Free : LineValue
  Tend : (steps : ℕ) → LineValue
  Clients : (clients rounds passes : ℕ) → LineValue

-- the value of a command's line of the program
abbrev pub shown_command : CommandLine → LineValue
shown_command (command.Put table key value) = Put table key.bytes.now value.now
shown_command (command.New table key value) = New table key.bytes.now value.now
shown_command (command.Cas table key version value) = Cas table key.bytes.now version value.now
shown_command (command.Get table key) = Get table key.bytes.now
shown_command (command.Del table key) = Del table key.bytes.now

-- the value of a line of the program
abbrev pub shown_line : Line → LineValue
shown_line line.Idle = Idle
shown_line (line.Command c) = shown_command c
shown_line (line.Compact segment) = Compact segment
shown_line line.Roll = Roll
shown_line line.BeginRoll = BeginRoll
shown_line line.Push = Push
shown_line line.Log = Log
shown_line line.Room = Room
shown_line line.Segments = Segments
shown_line (line.List table) = Listing table
shown_line line.Live = LiveBytes
shown_line line.Needs = Needs
shown_line (line.Hex segment) = Hex segment
shown_line (line.Stop takes) = Stop takes
shown_line (line.Fault takes taken) = Fault takes taken
shown_line line.Format = Format
shown_line (line.Seglets seglets) = Seglets seglets
shown_line line.Crash = Crash
shown_line (line.Lose backup) = Lose backup
shown_line line.Will = Will
shown_line (line.Recover order) = Recover order
shown_line line.Holdings = Holdings
shown_line (line.Clean segments) = Clean (numbers_of segments)
shown_line (line.Begin segments) = Begin (numbers_of segments)
shown_line line.Copy = Copy
shown_line line.Seal = Seal
shown_line line.Free = Free
shown_line (line.Tend steps) = Tend steps
shown_line (line.Clients clients rounds passes) = Clients clients rounds passes

-- ---- how a line is written

-- the words behind `recover` that name the order of the replay; without words the replay goes forward
abbrev pub order_words : ReplayOrder → List (List ℕ)
order_words Forward = []
order_words Reverse = codes "reverse" ∷ []
order_words (Threads workers) = codes "threads" ∷ decimal workers ∷ []

-- the word behind the number of a take that says whether its op is taken
abbrev pub fate_word : Bool → List ℕ
fate_word true = codes "taken"
fate_word false = codes "lost"

-- the words of a line that does something; a number is written in decimal digits without leading zeros
abbrev pub words_of : LineValue → List (List ℕ)
words_of Idle = []
words_of (Put table key value) = codes "put" ∷ decimal table ∷ key ∷ value ∷ []
words_of (New table key value) = codes "new" ∷ decimal table ∷ key ∷ value ∷ []
words_of (Cas table key version value) = codes "cas" ∷ decimal table ∷ key ∷ decimal version ∷ value ∷ []
words_of (Get table key) = codes "get" ∷ decimal table ∷ key ∷ []
words_of (Del table key) = codes "del" ∷ decimal table ∷ key ∷ []
words_of (Compact segment) = codes "compact" ∷ decimal segment ∷ []
words_of Roll = codes "roll" ∷ []
words_of BeginRoll = codes "beginroll" ∷ []
words_of Push = codes "push" ∷ []
words_of Log = codes "log" ∷ []
words_of Room = codes "room" ∷ []
words_of Segments = codes "segments" ∷ []
words_of (Listing table) = codes "list" ∷ decimal table ∷ []
words_of LiveBytes = codes "live" ∷ []
words_of Needs = codes "needs" ∷ []
words_of (Hex segment) = codes "hex" ∷ decimal segment ∷ []
words_of (Stop takes) = codes "stop" ∷ decimal takes ∷ []
words_of (Fault takes taken) = codes "fault" ∷ decimal takes ∷ fate_word taken ∷ []
words_of Format = codes "format" ∷ codes "2" ∷ []
words_of (Seglets seglets) = codes "seglets" ∷ decimal seglets ∷ []
words_of Crash = codes "crash" ∷ []
words_of (Lose backup) = codes "lose" ∷ decimal backup ∷ []
words_of Will = codes "will" ∷ []
words_of (Recover order) = codes "recover" ∷ order_words order
words_of Holdings = codes "holdings" ∷ []
words_of (Clean segments) = codes "clean" ∷ map decimal segments
words_of (Begin segments) = codes "begin" ∷ map decimal segments
words_of Copy = codes "copy" ∷ []
words_of Seal = codes "seal" ∷ []
words_of Free = codes "free" ∷ []
words_of (Tend steps) = codes "tend" ∷ decimal steps ∷ []
words_of (Clients clients rounds passes) = codes "clients" ∷ decimal clients ∷ decimal rounds ∷ decimal passes ∷ []

-- the number is one from `least` to `most`
abbrev pub IsWithin : ℕ → ℕ → ℕ → Type 0
IsWithin least most n = (least ≤ n) × (n ≤ most)

-- there are 1 to 64 workers
abbrev pub IsOrder : ReplayOrder → Type 0
IsOrder Forward = Unit {0}
IsOrder Reverse = Unit {0}
IsOrder (Threads workers) = IsWithin 1 64 workers

-- The numbers of the line have 64 bits, its key is a word of at most 1,024 bytes, and a list of segments names one or
-- more. There are 1 to 63 clients, 1 to 1,000,000 rounds, 1 to 4,294,967,296 seglets, and 1 to 65,536 steps. The takes
-- to a fault count from 1.
abbrev pub IsLine : LineValue → Type 0
IsLine Idle = Unit {0}
IsLine (Put table key value) = (table < 2 ^ 64) × IsKeyWord key
IsLine (New table key value) = (table < 2 ^ 64) × IsKeyWord key
IsLine (Cas table key version value) = (table < 2 ^ 64) × IsKeyWord key × (version < 2 ^ 64)
IsLine (Get table key) = (table < 2 ^ 64) × IsKeyWord key
IsLine (Del table key) = (table < 2 ^ 64) × IsKeyWord key
IsLine (Compact segment) = segment < 2 ^ 64
IsLine Roll = Unit {0}
IsLine BeginRoll = Unit {0}
IsLine Push = Unit {0}
IsLine Log = Unit {0}
IsLine Room = Unit {0}
IsLine Segments = Unit {0}
IsLine (Listing table) = table < 2 ^ 64
IsLine LiveBytes = Unit {0}
IsLine Needs = Unit {0}
IsLine (Hex segment) = segment < 2 ^ 64
IsLine (Stop takes) = takes < 2 ^ 64
IsLine (Fault takes taken) = IsWithin 1 (2 ^ 64 - 1) takes
IsLine Format = Unit {0}
IsLine (Seglets seglets) = IsWithin 1 4294967296 seglets
IsLine Crash = Unit {0}
IsLine (Lose backup) = backup < 2 ^ 64
IsLine Will = Unit {0}
IsLine (Recover order) = IsOrder order
IsLine Holdings = Unit {0}
IsLine (Clean segments) = (0 < length segments) × All (λ n. n < 2 ^ 64) segments
IsLine (Begin segments) = (0 < length segments) × All (λ n. n < 2 ^ 64) segments
IsLine Copy = Unit {0}
IsLine Seal = Unit {0}
IsLine Free = Unit {0}
IsLine (Tend steps) = IsWithin 1 65536 steps
IsLine (Clients clients rounds passes) = IsWithin 1 63 clients × IsWithin 1 1000000 rounds × (passes < 2 ^ 64)

-- the text is empty or begins with `#`
abbrev pub IsIdle : List ℕ → Type 0
IsIdle text = (text ≡ []) ⊎ ((rest : List ℕ) × (text ≡ 35 ∷ rest))

-- the text is the words of the line, with one space between two
pub record IsWritten (text : List ℕ) (line : LineValue) : Type 0 where
  pub spaced : text ≡ join_with_byte 32 (words_of line)
  pub words : All IsWord (words_of line)
  pub limits : IsLine line

-- the text is that of the line
abbrev pub Says : List ℕ → LineValue → Type 0
Says text Idle = IsIdle text
Says text line = IsWritten text line

-- ---- a law

-- no text is that of two lines
abbrev pub EachTextSaysOneLine : Type 0
EachTextSaysOneLine = (text : List ℕ) (one other : LineValue) → Says text one → Says text other → one ≡ other
