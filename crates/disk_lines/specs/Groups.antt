-- Commands of lines that are pushed and answered together.
use Rattle.std.specs.Prelude.{◌≡◌, ◌⊎◌, ◌<◌, ◌≤◌, ℕ, suc, List, [], ◌∷◌, ◌++◌, length, Bool, true, if◌then◌else◌}
use Rattle.std.specs.Prelude.{nat_lt, codes}
use Rattle.std.specs.List.{flat_map}
use Rattle.entry.specs.Key.{IsKeyBytes}
use Rattle.entry.specs.Limits.{IsValue}
use Rattle.lines.specs.Grammar.{LineValue, Put, New, Cas, Get, Del}
use Rattle.versioned_map.specs.History.{IsLegal}
use Rattle.versioned_map.specs.declared.command.Command.{Command}
use Rattle.versioned_map.specs.declared.command.Command.TheVariants as asked
use Rattle.versioned_map.specs.declared.command.If.TheVariants.{Any, Absent, Version}
use Rattle.versioned_map.specs.declared.command.Record.{Record}
use Rattle.versioned_map.specs.declared.command.Reply.{Reply as MapReply}
use Rattle.answers.specs.driving.Served.{LivesOn, is_of_push, record_of}
use Rattle.answers.specs.driving.master.log_laws.Data.{durable_of}
use Rattle.answers.specs.driving.master.master_state.Data.{MasterData}
use Rattle.answers.specs.driving.master.master_state.Log.{log_of, state_now}
use Rattle.answers.specs.driving.master.master_state.declared.step.Refusal.{Refusal}
use Rattle.raw_answers.specs.Texts.{reply_in}
use Rattle.embedded.specs.Lives.{key_of}
use Rattle.embedded.specs.Replies.{GoesOn, number_of}
use Rattle.disk_lines.specs.Lines.{word_of}

-- the line asks for the command, and its key and its value don't have too many bytes
abbrev pub Asks : LineValue → Command → Type 0
Asks (Put table key value) c = (IsKeyBytes key × IsValue value) × (c ≡ asked.Put (key_of table key) value Any)
Asks (New table key value) c = (IsKeyBytes key × IsValue value) × (c ≡ asked.Put (key_of table key) value Absent)
Asks (Cas table key version value) c =
    (IsKeyBytes key × IsValue value) × (c ≡ asked.Put (key_of table key) value (Version version))
Asks (Get table key) c = IsKeyBytes key × (c ≡ asked.Get (key_of table key))
Asks (Del table key) c = IsKeyBytes key × (c ≡ asked.Delete (key_of table key))
Asks _ c = ⊥

-- the lines ask for the commands of these records, each for one, in order
abbrev pub AskFor : List LineValue → List Record → Type 0
AskFor [] [] = Unit {0}
AskFor [] (r ∷ rs) = ⊥
AskFor (l ∷ ls) [] = ⊥
AskFor (l ∷ ls) (r ∷ rs) = Asks l r.command × AskFor ls rs

-- what is printed of a record that isn't durable, since a push was refused for this reason
abbrev pub unsure_line : List ℕ → List ℕ
unsure_line why = codes "unsure " ++ why ++ 10 ∷ []

-- What is printed of records, the first of which is at this place, if a push was refused for this reason and so many
-- records are durable: the reply of each that is, and of each other one that it is unsure.
abbrev pub told_short : Bool → ℕ → List ℕ → ℕ → List Record → List ℕ
told_short is_raw durable why place [] = []
told_short is_raw durable why place (r ∷ rs) =
    (if nat_lt place durable then reply_in is_raw r.reply else unsure_line why)
    ++ told_short is_raw durable why (suc place) rs

-- what is printed of records that are durable: their replies
abbrev pub told_whole : Bool → List Record → List ℕ
told_whole is_raw records = flat_map (λ (r : Record). reply_in is_raw r.reply) records

-- What is printed of these records, of which the first is at this place, by what the master knows after the push for
-- them. Either all are durable, and their replies are printed. Or the push was refused.
abbrev pub IsAnsweredBy : Bool → ℕ → List Record → MasterData → List ℕ → Type 0
IsAnsweredBy is_raw place records pushed printed =
    ((length pushed.history ≤ durable_of (log_of pushed)) × (printed ≡ told_whole is_raw records))
    ⊎ ((why : Refusal) × (is_of_push why ≡ true)
    × (printed ≡ told_short is_raw (durable_of (log_of pushed)) (word_of (number_of why)) place records))

-- A group: the commands of the lines were applied, one after another and nothing else, with the replies of the
-- versioned map. Then they were pushed, and the outcome decides what is printed: each reply is that of a durable
-- record. What followed made no record.
pub record RunsGroup (is_raw : Bool) (old : MasterData) (lines : List LineValue) (new : MasterData)
    (printed : List ℕ) : Type 0 where
  pub records : List Record
  pub some : 0 < length records
  pub asked : AskFor lines records
  pub legal : IsLegal (state_now old) records
  pub pushed : MasterData
  pub applied : GoesOn old pushed records
  pub answered : IsAnsweredBy is_raw (length old.history) records pushed printed
  pub goes_on : GoesOn pushed new []

-- ---- one command of a group

-- the command was applied: it has one record, which is the last, and nothing else changed of history and origin
abbrev pub Applies : MasterData → Command → MasterData → Type 0
Applies old command new = (reply : MapReply) × LivesOn old new (record_of command reply)

-- the command that the line asks for was applied
abbrev pub AppliesLine : MasterData → LineValue → MasterData → Type 0
AppliesLine old line new = (command : Command) × Asks line command × Applies old command new
