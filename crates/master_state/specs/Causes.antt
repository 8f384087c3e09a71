-- Why a step is refused.
use Rattle.std.specs.Prelude.{ℕ, ◌+◌, ◌-◌, ◌*◌, ◌/◌, ◌^◌, ◌==◌, ◌&&◌, length, Bool, nat_le, nat_lt, not, Option, Some}
use Rattle.std.specs.Prelude.{None}
use Rattle.std.specs.Prelude.{List}
use Rattle.std.specs.Prelude.{is_none, is_some, true, false, [], ◌∷◌, ◌||◌, if◌then◌else◌}
use Rattle.std.specs.Option.{option_map_or}
use Rattle.cleaner.specs.declared.fault.PassFault.{PassFault}
use Rattle.cleaner.specs.declared.fault.PassFault.TheVariants.{IsHead, NotInLog, PassOpen, NoVictims, TooMany, TooMuch}
use Rattle.cleaner.specs.declared.fault.PassFault.TheVariants.{Twice}
use Rattle.cleaner.specs.declared.pass.Pass.{Pass as OpenPass}
use Rattle.cleaner.specs.KeptLengths.{survivors_over}
use Rattle.cleaner.specs.Passes.{images_in, is_at_end}
use Rattle.cleaner.specs.compactor.Kept.{has_id}
use Rattle.entry.specs.declared.entry.Entry.{Entry}
use Rattle.entry.specs.Tablet.{have_key}
use Rattle.entry.specs.Text.{text_of}
use Rattle.versioned_map.specs.declared.command.Command.{Command}
use Rattle.versioned_map.specs.declared.command.Command.TheVariants.{Get, Put, Delete}
use Rattle.versioned_map.specs.Command.{command_key}
use Rattle.versioned_map.specs.Represents.{unit_of}
use Rattle.versioned_map.specs.Versioned.{is_spent}
use Rattle.log_head.specs.log_laws.Heads.{fewest}
use Rattle.log_head.specs.declared.head.Roll.{Roll}
use Rattle.log_head.specs.Head.{HeadValue, is_open, digest_of}
use Rattle.master_state.specs.declared.step.Refusal.{Refusal}
use Rattle.master_state.specs.declared.step.Refusal.TheVariants.{Halted, TooBig, NoTablet, HistoryFull, VersionsSpent}
use Rattle.master_state.specs.declared.step.Refusal.TheVariants.{Full, Rolling, Nothing, Overcommit}
use Rattle.master_state.specs.declared.step.Refusal.TheVariants.{SegmentsSpent, Pass}
use Rattle.master_state.specs.Budget.{is_working, segments_for, may_roll, may_clean, victims_of}
use Rattle.master_state.specs.Data.{MasterData}
use Rattle.master_state.specs.Index.{segment_at}
use Rattle.master_state.specs.Live.{object_bytes, live_after}
use Rattle.master_state.specs.Log.{state_now, find, log_set_ids}
use Rattle.master_state.specs.Waits.{next_seal}

-- ---- a command

-- a put whose tombstone and object are longer than a quarter of a segment of this many bytes
abbrev pub is_too_big : Command → ℕ → Bool
is_too_big (Get k) segment = false
is_too_big (Put k value when) segment = nat_lt (segment / 4) (50 + 2 * length k.bytes + length value)
is_too_big (Delete k) segment = false

-- a put whose object is longer than the configuration allows
abbrev pub is_longer : Command → ℕ → Bool
is_longer (Get k) largest = false
is_longer (Put k value when) largest = nat_lt largest (object_bytes k value)
is_longer (Delete k) largest = false

-- the first test that refuses the command before its key is looked up
abbrev pub early_refusal : MasterData → Command → Option Refusal
early_refusal d command =
    if d.is_halted then Some Halted
    else if is_too_big command d.config.segment || is_longer command d.config.largest then Some TooBig
    else if not (have_key d.config.tablets (command_key command)) then Some NoTablet
    else if nat_le d.config.history (length d.history - d.forgotten) then Some HistoryFull
    else None

-- the head's image with the unit isn't longer than a segment
abbrev pub has_room : MasterData → List Entry → Bool
has_room d unit = nat_le (length (text_of d.head.image) + length (text_of unit)) d.config.segment

abbrev pub is_empty : List Entry → Bool
is_empty [] = true
is_empty (e ∷ es) = false

-- why the unit of a command is not appended. Full: the unit doesn't fit the open head, and no roll may begin for the
-- command. Rolling: the unit doesn't fit but a roll may begin, the head isn't open, or a failover is open.
abbrev pub unit_refusal : MasterData → Command → List Entry → Option Refusal
unit_refusal d command unit =
    if is_empty unit then None
    else if is_working d && (not (has_room d unit) && not (may_roll d (segments_for command))) then Some Full
    else if not (is_working d && has_room d unit) then Some Rolling
    else None

-- the segment in which the index finds the command's key; 0, which nothing depends on, if the index doesn't find it
abbrev pub dead_segment : MasterData → Command → ℕ
dead_segment d command = segment_at (find d (command_key command))

-- the unit that the command appends now
abbrev pub unit_now : MasterData → Command → List Entry
unit_now d command = unit_of (state_now d) (dead_segment d command) command

-- the bytes of the live objects once the command is done
abbrev pub live_now : MasterData → Command → ℕ
live_now d command = live_after d.live ((state_now d).contents (command_key command)) command

-- so many bytes of live objects are more than the limit, and more than there are
abbrev pub is_overcommitted : MasterData → ℕ → Bool
is_overcommitted d live = nat_lt d.config.most_live live && nat_lt d.live live

-- the test that refuses a command once its key was looked up
abbrev pub late_refusal : MasterData → Command → Option Refusal
late_refusal d command =
    if is_spent (state_now d).safe ((state_now d).contents (command_key command)) command then Some VersionsSpent
    else if is_overcommitted d (live_now d command) then Some Overcommit
    else unit_refusal d command (unit_now d command)

-- the first test that refuses the command, want of memory apart; None if the command passes all tests
abbrev pub command_refusal : MasterData → Command → Option Refusal
command_refusal d command =
    if is_none (early_refusal d command) then late_refusal d command else early_refusal d command

-- ---- other steps

-- the test that comes first for a compaction, a pass, a copy, a seal and a free: none of these steps is made once the
-- master is halted or while a failover is open
abbrev pub step_refusal : MasterData → Option Refusal
step_refusal d = if d.is_halted then Some Halted else if is_some d.failover then Some Rolling else None

-- ---- a roll

-- the test that refuses a roll that is asked for by itself, want of memory apart
abbrev pub roll_refusal : MasterData → Option Refusal
roll_refusal d =
    if d.is_halted then Some Halted
    else if not (is_working d) then Some Rolling
    else if nat_lt (2 ^ 62) d.next then Some SegmentsSpent
    else if not (may_roll d 2) then Some Full
    else None

-- ---- a compaction

-- the id is that of the head, or that of the head that a roll is opening
abbrev pub is_head : HeadValue → ℕ → Bool
is_head h id = (h.id == id) || option_map_or (λ (r : Roll). r.id == id) h.roll false

-- the test that refuses a compaction of this segment, want of memory apart
abbrev pub compact_refusal : MasterData → ℕ → Option Refusal
compact_refusal d id =
    if is_some (step_refusal d) then step_refusal d
    else if is_head d.head id then Some (Pass (IsHead id))
    else if not (has_id (digest_of d.head.image) id) then Some (Pass (NotInLog id))
    else if has_id (victims_of d.pass) id then Some (Pass PassOpen)
    else None

-- ---- a pass

-- Why the first segment that may not be a victim may not. Twice: the segment is also among those before it. IsHead: the
-- segment is the head, or the head that a roll is opening. NotInLog: the digest in force doesn't list the segment.
abbrev pub victim_fault : MasterData → List ℕ → List ℕ → Option PassFault
victim_fault d before [] = None
victim_fault d before (id ∷ ids) =
    if has_id before id then Some (Twice id)
    else if is_head d.head id then Some (IsHead id)
    else if not (has_id (digest_of d.head.image) id) then Some (NotInLog id)
    else victim_fault d (id ∷ before) ids

-- why these segments may not be the victims of a pass, whatever bytes they have
abbrev pub victims_fault : MasterData → List ℕ → Option PassFault
victims_fault d ids =
    if is_some d.pass then Some PassOpen
    else if length ids == 0 then Some NoVictims
    else if nat_lt 32 (length ids) then Some TooMany
    else victim_fault d [] ids

-- how many survivors a pass over these victims has: as many as the kept entries of the victims fill
abbrev pub survivors_for : MasterData → List ℕ → ℕ
survivors_for d ids = survivors_over d.config.segment (log_set_ids d) d.index (images_in d.closed) ids

-- The test that refuses a pass over segments that may be victims, want of memory apart. The pass may have at most four
-- survivors, and these take the next ids.
abbrev pub space_refusal : MasterData → List ℕ → Option Refusal
space_refusal d ids =
    if nat_lt 4 (survivors_for d ids) then Some (Pass TooMuch)
    else if not (may_clean d (length ids) (survivors_for d ids)) then Some Full
    else if nat_lt (2 ^ 62 + 1) (d.next + survivors_for d ids) then Some SegmentsSpent
    else None

-- the test that refuses a pass over these victims, want of memory apart
abbrev pub clean_refusal : MasterData → List ℕ → Option Refusal
clean_refusal d ids =
    if is_some (step_refusal d) then step_refusal d
    else option_map_or (λ (fault : PassFault). Some (Pass fault)) (victims_fault d ids) (space_refusal d ids)

-- the test that refuses a copy, want of memory apart. Nothing: no pass is open, or the open pass has copied all.
abbrev pub copy_refusal : MasterData → Option Refusal
copy_refusal d =
    if is_some (step_refusal d) then step_refusal d
    else if option_map_or (λ (p : OpenPass). not (is_at_end p)) d.pass false then None
    else Some Nothing

-- the test that refuses a seal, what the fleet answers apart. Nothing: no pass is open, the open pass has something to
-- copy, or all replicas of its survivors are sealed.
abbrev pub seal_refusal : MasterData → Option Refusal
seal_refusal d =
    if is_some (step_refusal d) then step_refusal d
    else if is_none (next_seal d) then Some Nothing
    else None

-- the test that refuses a free, what the fleet answers apart. Nothing: no segment waits to be freed.
abbrev pub free_refusal : MasterData → Option Refusal
free_refusal d =
    if is_some (step_refusal d) then step_refusal d
    else if length d.waiting == 0 then Some Nothing
    else None

-- ---- a push

-- each replica of the head is open and has each unit, and no roll is under way
abbrev pub is_pushed : HeadValue → Bool
is_pushed h = is_open h && (fewest (length h.units) h.taken == length h.units)

-- nothing is left to be pushed: no failover is open, and the head and its roll need no push
abbrev pub is_done : MasterData → Bool
is_done d = is_none d.failover && is_pushed d.head

-- The test that refuses a push, what the fleet answers apart. If the new head of a failover may not be opened, this
-- test doesn't refuse the push; the master halts then.
abbrev pub push_refusal : MasterData → Option Refusal
push_refusal d =
    if d.is_halted then Some Halted
    else if is_done d then Some Nothing
    else None
