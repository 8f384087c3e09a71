-- What a line makes of a store in a folder, and what is printed of it.
use Rattle.std.specs.Prelude.{◌≡◌, ◌⊎◌, ◌==◌, ℕ, List, [], ◌∷◌, ◌++◌, Bool, if◌then◌else◌, codes}
use Rattle.entry.specs.Key.{IsKeyBytes}
use Rattle.entry.specs.Limits.{IsValue}
use Rattle.entry.specs.declared.entry.Object.{Object}
use Rattle.lines.specs.Grammar.{LineValue, Idle, Put, New, Cas, Get, Del, Listing}
use Rattle.versioned_map.specs.declared.command.Command.TheVariants as asked
use Rattle.versioned_map.specs.declared.command.If.TheVariants.{Any, Absent, Version}
use Rattle.versioned_map.specs.declared.command.Reply.{Reply as MapReply}
use Rattle.answers.specs.driving.master.master_space.Objects.{AreObjectsOf}
use Rattle.answers.specs.driving.master.master_state.Data.{MasterData}
use Rattle.answers.specs.driving.master.master_state.Log.{state_now}
use Rattle.raw_answers.specs.Texts.{listed_in, reply_in}
use Rattle.embedded.specs.Lives.{key_of}
use Rattle.embedded.specs.Replies.{IsReadAt}
use Rattle.embedded.specs.declared.reply.Reply.{Reply}
use Rattle.embedded.specs.declared.reply.Status.{Status}
use Rattle.embedded.specs.declared.reply.Status.TheVariants as status
use Rattle.file_store.specs.Started.{CarriesOutIf}

-- ---- commands

-- The line has a command, and the store carried it out. If its key or its value has too many bytes, it was refused.
abbrev pub CarriesOutLine : MasterData → LineValue → Reply → MasterData → Type 0
CarriesOutLine old (Put table key value) r new =
    CarriesOutIf (IsKeyBytes key × IsValue value) old (asked.Put (key_of table key) value Any) r new
CarriesOutLine old (New table key value) r new =
    CarriesOutIf (IsKeyBytes key × IsValue value) old (asked.Put (key_of table key) value Absent) r new
CarriesOutLine old (Cas table key version value) r new =
    CarriesOutIf (IsKeyBytes key × IsValue value) old (asked.Put (key_of table key) value (Version version)) r new
CarriesOutLine old (Get table key) r new = CarriesOutIf (IsKeyBytes key) old (asked.Get (key_of table key)) r new
CarriesOutLine old (Del table key) r new = CarriesOutIf (IsKeyBytes key) old (asked.Delete (key_of table key)) r new
CarriesOutLine old _ r new = ⊥

-- the word of the refusal that has this number
abbrev pub word_of : ℕ → List ℕ
word_of number =
    if number == 1 then codes "TooBig"
    else (if number == 2 then codes "Full"
    else (if number == 3 then codes "VersionsSpent"
    else (if number == 4 then codes "HistoryFull"
    else (if number == 5 then codes "NoMemory"
    else (if number == 6 then codes "Halted"
    else (if number == 7 then codes "Rolling"
    else (if number == 10 then codes "Spent"
    else (if number == 11 then codes "SegmentsSpent"
    else (if number == 12 then codes "NoTablet"
    else (if number == 13 then codes "Lost"
    else (if number == 14 then codes "Overcommit"
    else codes "Down")))))))))))

-- What is printed of a reply: the reply of its record or, if the command has none or isn't known to be durable, why.
abbrev pub IsShownAs : Status → Bool → MasterData → Reply → List ℕ → Type 0
IsShownAs status.Refused is_raw d r printed = printed ≡ codes "refused " ++ word_of r.refusal ++ 10 ∷ []
IsShownAs status.Unsure is_raw d r printed = printed ≡ codes "unsure " ++ word_of r.refusal ++ 10 ∷ []
IsShownAs _ is_raw d r printed = (reply : MapReply) × IsReadAt d r.place reply × (printed ≡ reply_in is_raw reply)

abbrev pub IsShown : Bool → MasterData → Reply → List ℕ → Type 0
IsShown is_raw d r printed = IsShownAs r.status is_raw d r printed

-- ---- other lines

-- the live objects that the master has of the table; or memory ran out
abbrev pub ShowsTable : Bool → MasterData → ℕ → List ℕ → Type 0
ShowsTable is_raw d table printed =
    ((objects : List Object) × AreObjectsOf (state_now d).contents table objects
    × (printed ≡ listed_in is_raw objects))
    ⊎ (printed ≡ codes "refused NoMemory" ++ 10 ∷ [])

-- a line that only a store in memory runs
abbrev pub IsForMemory : LineValue → Type 0
IsForMemory Idle = ⊥
IsForMemory (Put table key value) = ⊥
IsForMemory (New table key value) = ⊥
IsForMemory (Cas table key version value) = ⊥
IsForMemory (Get table key) = ⊥
IsForMemory (Del table key) = ⊥
IsForMemory (Listing table) = ⊥
IsForMemory _ = Unit {0}

-- What a line makes of the master, and what is printed of it.
abbrev pub RunsLine : Bool → MasterData → LineValue → MasterData → List ℕ → Type 0
RunsLine is_raw old line new printed =
    ((r : Reply) × CarriesOutLine old line r new × IsShown is_raw new r printed)
    ⊎ (((line ≡ Idle) × (new ≡ old) × (printed ≡ []))
    ⊎ (((table : ℕ) × (line ≡ Listing table) × (new ≡ old) × ShowsTable is_raw old table printed)
    ⊎ (IsForMemory line × (new ≡ old) × (printed ≡ codes "refused NotOnDisk" ++ 10 ∷ []))))
