-- What is printed. Each line ends with a line feed, byte 10; byte 32 is a space.
use Rattle.std.specs.Prelude.{[], ℕ, ◌-◌, ◌*◌, ◌/◌, ◌%◌, ◌^◌, ◌==◌, if◌then◌else◌, List, ◌∷◌, ◌++◌, length, Bool}
use Rattle.std.specs.Prelude.{true, false, codes, Option, Some, None as nothing}
use Rattle.std.specs.List.{flat_map}
use Rattle.std.specs.Fmt.{decimal, digit_glyph}
use Rattle.std.specs.Int.{w64, to_be_bytes}
use Rattle.recovery.specs.master.cleaner.declared.survivors.Survivors.{Survivors}
use Rattle.recovery.specs.master.cleaner.Passes.{survivor_ids}
use Rattle.entry.specs.declared.entry.Object.{Object}
use Rattle.replica.specs.declared.label.Label.{Label}
use Rattle.replica.specs.declared.op.TakeFault.{TakeFault}
use Rattle.replica.specs.declared.op.TakeFault.TheVariants as take_fault
use Rattle.recovery.specs.claims.declared.rebuilt.Rebuilt.{Rebuilt}
use Rattle.recovery.specs.Texts.{recovery_fault_text}
use Rattle.versioned_map.specs.declared.command.Reply.{Reply}
use Rattle.versioned_map.specs.declared.command.Reply.TheVariants as reply
use Rattle.lines.specs.Grammar.{fate_word}
use Rattle.lines.specs.Texts.{reason_text}
use Rattle.recovery.specs.master.master_state.declared.config.Config.{Config}
use Rattle.recovery.specs.master.master_state.declared.config.ConfigFault.{ConfigFault}
use Rattle.recovery.specs.master.master_state.declared.config.ConfigFault.TheVariants.{BadBackups, BadSegment}
use Rattle.recovery.specs.master.master_state.declared.config.ConfigFault.TheVariants.{BadBudget, BadLive}
use Rattle.recovery.specs.master.master_state.declared.step.StepAnswer.{StepAnswer}
use Rattle.recovery.specs.master.master_state.declared.step.StepAnswer.TheVariants as step_answer
use Rattle.recovery.specs.master.master_state.Names.{refusal_text, config_fault_name}
use Rattle.recovery.specs.master.declared.segments.Role.{Role}
use Rattle.recovery.specs.master.declared.segments.Role.TheVariants as role
use Rattle.recovery.specs.master.declared.segments.SegmentRow.{SegmentRow}
use Rattle.tablet_will.specs.declared.part.Part.{Part}
use Rattle.tablet_will.specs.Parts.{partitions_of}
use Rattle.answers.specs.declared.answer.Answer.{Answer}
use Rattle.answers.specs.declared.answer.Answer.TheVariants as answer
use Rattle.answers.specs.declared.fault.ScriptFault.{ScriptFault}
use Rattle.answers.specs.declared.fault.ScriptFault.TheVariants.{BadLine, ReadFailed, WriteFailed, NoMemory}

-- ---- the parts of an answer

abbrev pub reply_text : Reply → List ℕ
reply_text (reply.Found version value) = decimal version ++ 32 ∷ value ++ 10 ∷ []
reply_text reply.None = codes "none" ++ 10 ∷ []
reply_text (reply.Ok version) = codes "ok " ++ decimal version ++ 10 ∷ []
reply_text (reply.Mismatch nothing) = codes "mismatch none" ++ 10 ∷ []
reply_text (reply.Mismatch (Some version)) = codes "mismatch " ++ decimal version ++ 10 ∷ []

-- two lower case hexadecimal digits
abbrev pub hex_digits : ℕ → List ℕ
hex_digits byte = digit_glyph false (byte / 16) ∷ digit_glyph false (byte % 16) ∷ []

abbrev pub hex_text : List ℕ → List ℕ
hex_text bytes = flat_map hex_digits bytes ++ 10 ∷ []

-- table, key, version and value
abbrev pub object_text : Object → List ℕ
object_text o = decimal o.key.table ++ 32 ∷ o.key.bytes ++ 32 ∷ decimal o.version ++ 32 ∷ o.value ++ 10 ∷ []

-- a line for each object, in order, and a line with these words and their number
abbrev pub objects_text : List ℕ → List Object → List ℕ
objects_text words os = flat_map object_text os ++ words ++ decimal (length os) ++ 10 ∷ []

abbrev pub rebuilt_text : Rebuilt → List ℕ
rebuilt_text r = objects_text (codes "recovered ") r.objects

-- words and two numbers: those of an op's backup and segment, for example
abbrev pub op_text : List ℕ → ℕ → ℕ → List ℕ
op_text words first second = words ++ decimal first ++ 32 ∷ decimal second ++ 10 ∷ []

-- a space and a number
abbrev pub spaced_text : ℕ → List ℕ
spaced_text n = 32 ∷ decimal n

-- the ids of a digest
abbrev pub log_text : List ℕ → List ℕ
log_text ids = codes "log" ++ flat_map spaced_text ids ++ 10 ∷ []

-- the survivors of a pass that began
abbrev pub begun_text : Survivors → List ℕ
begun_text survivors = codes "begun" ++ flat_map spaced_text (survivor_ids survivors) ++ 10 ∷ []

-- the survivors of a cleaning, and the head that it ended with
abbrev pub cleaned_text : Survivors → ℕ → List ℕ
cleaned_text survivors head =
    codes "cleaned" ++ flat_map spaced_text (survivor_ids survivors) ++ spaced_text head ++ 10 ∷ []

-- the seglets of memory that are counted, and those that are free
abbrev pub room_text : ℕ → ℕ → List ℕ
room_text used free = codes "used " ++ decimal used ++ 32 ∷ codes "free " ++ decimal free ++ 10 ∷ []

-- the bytes that puts may make of the live objects; no limit is the greatest number of 64 bits
abbrev pub limit_text : ℕ → List ℕ
limit_text most = if most == 2 ^ 64 - 1 then codes "none" else decimal most

-- the bytes of all live objects, and their limit
abbrev pub live_text : ℕ → ℕ → List ℕ
live_text bytes most = codes "live " ++ decimal bytes ++ 32 ∷ limit_text most ++ 10 ∷ []

-- the seglets that a new master needs; none are enough if a digest lists too few segments
abbrev pub needs_text : Option ℕ → List ℕ
needs_text nothing = codes "needs segments" ++ 10 ∷ []
needs_text (Some seglets) = codes "needs " ++ decimal seglets ++ 10 ∷ []

abbrev pub state_text : Bool → List ℕ
state_text true = codes " open\n"
state_text false = codes " closed\n"

-- backup, master, segment, length and state of a replica
abbrev pub label_text : Label → List ℕ
label_text l =
    decimal l.backup ++ 32 ∷ decimal l.master ++ 32 ∷ decimal l.segment ++ 32 ∷ decimal l.len ++ state_text l.is_open

-- what a segment is to its master
abbrev pub role_text : Role → List ℕ
role_text role.Head = codes "head"
role_text role.Opening = codes "opening"
role_text role.Closed = codes "closed"
role_text role.Victim = codes "victim"
role_text role.Survivor = codes "survivor"
role_text role.Waiting = codes "waiting"

-- id, role, length, kept bytes and replicas of a segment
abbrev pub segment_text : SegmentRow → List ℕ
segment_text row =
    decimal row.id ++ 32 ∷ role_text row.role ++ 32 ∷ decimal row.len ++ 32 ∷ decimal row.kept
    ++ 32 ∷ decimal row.replicas ++ 10 ∷ []

-- in which take from now a fault was asked for, 1 for the next one, and whether its op is taken
abbrev pub asked_text : ℕ → Bool → List ℕ
asked_text takes taken = codes "fault " ++ decimal takes ++ 32 ∷ fate_word taken ++ 10 ∷ []

-- the name that is printed for a fault of a take; a fault of a backup halts the master, and is called Halted
abbrev pub take_fault_text : TakeFault → List ℕ
take_fault_text take_fault.NoMemory = codes "NoMemory"
take_fault_text take_fault.Wrong = codes "Wrong"
take_fault_text take_fault.Fault = codes "Halted"
take_fault_text take_fault.Spent = codes "Spent"

-- a place as 16 hexadecimal digits
abbrev pub place_text : ℕ → List ℕ
place_text place = flat_map hex_digits (to_be_bytes w64 place)

-- table, first and last place, and partition
abbrev pub part_text : Part → List ℕ
part_text q =
    decimal q.table ++ 32 ∷ place_text q.first ++ 32 ∷ place_text q.last ++ 32 ∷ decimal q.partition ++ 10 ∷ []

-- a line for each part, in order, and a line with the number of partitions
abbrev pub will_text : List Part → List ℕ
will_text qs = flat_map part_text qs ++ codes "partitions " ++ decimal (partitions_of qs) ++ 10 ∷ []

-- a step that was made; of a command that was applied, just its reply
abbrev pub step_text : StepAnswer → List ℕ
step_text (step_answer.Applied place reply) = reply_text reply
step_text (step_answer.Extended backup segment) = op_text (codes "extend ") backup segment
step_text (step_answer.Opened backup segment) = op_text (codes "open ") backup segment
step_text (step_answer.Closed backup segment) = op_text (codes "close ") backup segment
step_text (step_answer.Rolling id) = codes "opening " ++ decimal id ++ 10 ∷ []
step_text (step_answer.Compacted segment len) = op_text (codes "compacted ") segment len
step_text (step_answer.Begun survivors) = begun_text survivors
step_text step_answer.Moved = codes "moved" ++ 10 ∷ []
step_text step_answer.Carried = codes "carried" ++ 10 ∷ []
step_text step_answer.Dropped = codes "dropped" ++ 10 ∷ []
step_text (step_answer.Sealed backup) = codes "sealed " ++ decimal backup ++ 10 ∷ []
step_text (step_answer.Freed segment backup) = op_text (codes "freed ") segment backup
step_text (step_answer.Raised id) = codes "raise " ++ decimal id ++ 10 ∷ []
step_text (step_answer.Repaired backup segment) = op_text (codes "repair ") backup segment

-- ---- answers

abbrev pub answer_text : Answer → List ℕ
answer_text answer.Silent = []
answer_text (answer.Reply reply) = reply_text reply
answer_text (answer.Refused refusal) = codes "refused " ++ refusal_text refusal ++ 10 ∷ []
answer_text (answer.Hex bytes) = hex_text bytes
answer_text (answer.NotInLog segment) = codes "refused NotInLog " ++ decimal segment ++ 10 ∷ []
answer_text (answer.Stop takes) = codes "stop " ++ decimal takes ++ 10 ∷ []
answer_text (answer.Fault takes taken) = asked_text takes taken
answer_text answer.Format = codes "format 2" ++ 10 ∷ []
answer_text answer.Stopped = codes "stopped" ++ 10 ∷ []
answer_text answer.Crashed = codes "crashed" ++ 10 ∷ []
answer_text (answer.Lost backup) = codes "lost " ++ decimal backup ++ 10 ∷ []
answer_text (answer.Recovered rebuilt) = rebuilt_text rebuilt
answer_text (answer.NotRecovered fault) = codes "refused " ++ recovery_fault_text fault ++ 10 ∷ []
answer_text (answer.Head id) = codes "head " ++ decimal id ++ 10 ∷ []
answer_text (answer.Step made) = step_text made
answer_text (answer.Cleaned survivors head) = cleaned_text survivors head
answer_text (answer.Tended made) = codes "tended " ++ decimal made ++ 10 ∷ []
answer_text (answer.Counted clients rounds calls) = codes "clients " ++ decimal clients ++ 32 ∷ op_text [] rounds calls
answer_text (answer.Log ids) = log_text ids
answer_text (answer.Room used free) = room_text used free
answer_text (answer.Segments rows) = flat_map segment_text rows
answer_text (answer.Listed objects) = objects_text (codes "listed ") objects
answer_text (answer.Live bytes most) = live_text bytes most
answer_text (answer.Needs needed) = needs_text needed
answer_text (answer.Seglets seglets) = codes "seglets " ++ decimal seglets ++ 10 ∷ []
answer_text (answer.Will parts limits) = will_text parts
answer_text (answer.BadLimits limits) = codes "refused BadLimits" ++ 10 ∷ []
answer_text (answer.Holdings labels) = flat_map label_text labels
answer_text answer.Down = codes "refused Down" ++ 10 ∷ []
answer_text (answer.NotRetired fault) = codes "refused " ++ take_fault_text fault ++ 10 ∷ []
answer_text answer.NumbersSpent = codes "refused NumbersSpent" ++ 10 ∷ []
answer_text answer.Up = codes "refused Up" ++ 10 ∷ []
answer_text answer.SeatUnknown = codes "refused SeatUnknown" ++ 10 ∷ []
answer_text answer.CellRefused = codes "refused CellRefused" ++ 10 ∷ []

-- ---- faults of a run

abbrev pub script_fault_text : ScriptFault → List ℕ
script_fault_text (BadLine number why) = codes "bad line " ++ decimal number
script_fault_text ReadFailed = codes "cannot read"
script_fault_text WriteFailed = codes "cannot write"
script_fault_text NoMemory = codes "no memory"

-- a line of the error output
abbrev pub error_line : List ℕ → List ℕ
error_line text = codes "ramlog: " ++ text ++ 10 ∷ []

-- the second line of a fault, if faults are explained
abbrev pub why_line : Bool → ScriptFault → List ℕ
why_line true (BadLine number why) = error_line (reason_text why)
why_line _ _ = []

-- the lines of a fault
abbrev pub fault_lines : Bool → ScriptFault → List ℕ
fault_lines explains fault = error_line (script_fault_text fault) ++ why_line explains fault

-- which options disagree, and by how much; a limit of live bytes is named alone
abbrev pub config_why : Config → ConfigFault → List ℕ
config_why c BadBackups = codes "--replicas is more than --backups by " ++ decimal (c.replicas - c.backups)
config_why c BadSegment = codes "--segment is more than a multiple of --seglet by " ++ decimal (c.segment % c.seglet)
config_why c BadBudget =
    codes "--seglets is less than those of four segments by " ++ decimal (4 * (c.segment / c.seglet) - c.seglets)
config_why c BadLive = codes "--live is more than a new master can always load"
config_why c _ = []

-- the second line of a bad configuration, if faults are explained; options can't make it bad in another way
abbrev pub config_why_line : Bool → Config → ConfigFault → List ℕ
config_why_line true c BadBackups = error_line (config_why c BadBackups)
config_why_line true c BadSegment = error_line (config_why c BadSegment)
config_why_line true c BadBudget = error_line (config_why c BadBudget)
config_why_line true c BadLive = error_line (config_why c BadLive)
config_why_line _ _ _ = []

-- the lines of a bad configuration
abbrev pub config_lines : Bool → Config → ConfigFault → List ℕ
config_lines explains c fault =
    error_line (codes "bad configuration " ++ config_fault_name fault) ++ config_why_line explains c fault

-- the exit status of a fault
abbrev pub exit_status : ScriptFault → ℕ
exit_status (BadLine number why) = 2
exit_status _ = 1
