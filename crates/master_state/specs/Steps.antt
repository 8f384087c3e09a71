-- What a master's core becomes when a command is applied, a roll or a pass begins, a segment is compacted, an entry is
-- copied, an op was taken, or a take failed.
use Rattle.std.specs.Prelude.{◌≡◌, ◌⊎◌, ℕ, suc, ◌+◌, ◌≤◌, ◌==◌, ◌&&◌, ◌-◌, List, [], ◌∷◌, ◌++◌, length, map, filter}
use Rattle.std.specs.Prelude.{Bool, false, true, not, nat_lt, is_none, is_some, Option, Some, None}
use Rattle.std.specs.Prelude.{if◌then◌else◌}
use Rattle.std.specs.Option.{option_map, option_map_or}
use Rattle.log_memory.specs.log_laws.Intact.{IsCommit}
use Rattle.log_memory.specs.log_laws.Data.{Rolls}
use Rattle.log_memory.specs.log_laws.Steps.{applied, MayApply, next_start, rolling}
use Rattle.log_memory.specs.Steps.{commit_start, ids_taken}
use Rattle.cleaner.specs.declared.pass.Copied.{Copied}
use Rattle.cleaner.specs.declared.pass.Copied.TheVariants as copied
use Rattle.cleaner.specs.declared.pass.Cursor.{Cursor}
use Rattle.cleaner.specs.declared.pass.Pass.{Pass}
use Rattle.cleaner.specs.declared.survivors.Survivors.{Survivors}
use Rattle.cleaner.specs.Passes.{images_in, survivor_ids, places_of, rest_of, CopiesOne, is_ready as is_ready_pass}
use Rattle.entry.specs.declared.digest.Listed.{Listed}
use Rattle.entry.specs.declared.entry.Entry.{Entry}
use Rattle.entry.specs.declared.key.Key.{Key}
use Rattle.entry.specs.Text.{text_of, IsSegment}
use Rattle.places.specs.declared.place.Place.{Place}
use Rattle.images.specs.declared.image.Image.{Image}
use Rattle.images.specs.Sorted.{changed}
use Rattle.images.specs.Steps.{replaced_by, more_replicas, fewer_replicas}
use Rattle.cleaner.specs.compactor.Kept.{kept_of, moved_all}
use Rattle.log_head.specs.declared.head.Roll.{Roll}
use Rattle.log_head.specs.declared.next.Next.{Next}
use Rattle.log_head.specs.declared.next.Next.TheVariants as next
use Rattle.log_head.specs.Head.{HeadValue, is_open}
use Rattle.log_head.specs.Steps.{with_unit_end, with_opened_replica, with_all_taken, with_roll, with_new_replica}
use Rattle.log_head.specs.Steps.{with_closed_replica, with_whole_replica, lost}
use Rattle.log_head.specs.Log.{head_of, start_of}
use Rattle.log_head.specs.Steps.{old_image, start_after}
use Rattle.log_head.specs.Next.{replica_of, segment_of}
use Rattle.log_head.specs.log_laws.Heads.{Start, start_entries}
use Rattle.replica.specs.declared.op.TakeFault.{TakeFault}
use Rattle.replica.specs.declared.op.TakeFault.TheVariants as take_fault
use Rattle.versioned_map.specs.declared.command.Command.{Command}
use Rattle.versioned_map.specs.declared.command.Record.{Record}
use Rattle.versioned_map.specs.declared.command.Reply.{Reply}
use Rattle.versioned_map.specs.declared.command.Reply.TheVariants as reply
use Rattle.versioned_map.specs.Versioned.{reply_to}
use Rattle.master_state.specs.declared.step.Refusal.{Refusal}
use Rattle.master_state.specs.declared.step.Refusal.TheVariants as refusal
use Rattle.master_state.specs.declared.step.StepAnswer.{StepAnswer}
use Rattle.master_state.specs.declared.step.StepAnswer.TheVariants.{Applied, Rolling as RollingTo, Compacted, Begun}
use Rattle.master_state.specs.declared.step.StepAnswer.TheVariants.{Moved, Carried, Dropped}
use Rattle.master_state.specs.Budget.{victims_of, survivors_of, is_ready}
use Rattle.master_state.specs.Causes.{command_refusal, roll_refusal, compact_refusal, clean_refusal, copy_refusal}
use Rattle.master_state.specs.Causes.{dead_segment, live_now, unit_now, survivors_for}
use Rattle.master_state.specs.declared.config.Config.{Config}
use Rattle.master_state.specs.declared.failover.Failover.{Failover}
use Rattle.master_state.specs.declared.failover.Part.TheVariants as part
use Rattle.master_state.specs.declared.waiting.Waiting.{Waiting}
use Rattle.master_state.specs.Waits.{next_seal}
use Rattle.master_state.specs.declared.ledger.Posting.{Posting}
use Rattle.master_state.specs.declared.ledger.Posting.TheVariants as posting
use Rattle.master_state.specs.Data.{MasterData}
use Rattle.master_state.specs.Images.{with_closed, survivor_images, after_pass, leaving}
use Rattle.master_state.specs.Ledger.{ended_with}
use Rattle.master_state.specs.Log.{home, place_in, is_opened, durable_now, log_of, memory_of, state_now, images_of}
use Rattle.master_state.specs.Log.{find, log_set_ids}

-- the head with the unit of the record of this number; the same head if the unit has no entries
abbrev pub appended : HeadValue → ℕ → List Entry → HeadValue
appended h number [] = h
appended h number (e ∷ es) = with_unit_end h number (e ∷ es)

-- what the versioned map replies to a command now
abbrev pub reply_now : MasterData → Command → Reply
reply_now d command = reply_to (state_now d) command

-- the reply has a value, so making it takes memory
abbrev pub IsFound : Reply → Type 0
IsFound (reply.Found version value) = Unit {0}
IsFound reply.None = ⊥
IsFound (reply.Ok version) = ⊥
IsFound (reply.Mismatch version) = ⊥

abbrev pub record_now : MasterData → ℕ → Command → Record
record_now d seat command = record { seat = seat; command = command; reply = reply_now d command }

-- A command that no test refuses gets the reply of the versioned map, and its record and its unit are added to the log.
pub record Applies (d : MasterData) (seat : ℕ) (command : Command) (answer : StepAnswer) (e : MasterData) : Type 0 where
  pub passed : command_refusal d command ≡ None
  pub told : answer ≡ Applied (length d.history) (reply_now d command)
  pub config : e.config ≡ d.config
  pub running : e.is_halted ≡ false
  pub log : log_of e ≡ applied (log_of d) (dead_segment d command) (record_now d seat command)
  -- each place that the index finds it found before, or the place is in the head
  pub found : (k : Key) (p : Place) → find e k ≡ Some p → (find d k ≡ Some p) ⊎ (p.segment ≡ d.head.id)
  -- the head has the unit; apart from the head only the index, the safe version, the history
  -- and the bytes of the live objects changed
  pub rest : e ≡ record d {
    head = appended d.head (length d.history) (unit_now d command);
    index = e.index;
    safe = e.safe;
    history = e.history;
    live = live_now d command;
  }

-- The command of a record is applied, and the answer has the record's place and reply.
abbrev pub AppliesAs : MasterData → Record → ℕ → MasterData → Type 0
AppliesAs d r place e = Applies d r.seat r.command (Applied place r.reply) e

-- The head is open, and its image with the unit is a valid segment within the greatest length.
pub record Fits (d : MasterData) (unit : List Entry) : Type 0 where
  pub opened : is_open d.head ≡ true
  pub segment : IsSegment (d.head.image ++ unit)
  pub limit : length (text_of (d.head.image ++ unit)) ≤ 8388608

-- The laws of the log let the command be applied, and its unit is empty or fits the head.
abbrev pub MayApplyNow : MasterData → ℕ → Command → Type 0
MayApplyNow d seat command = MayApply (log_of d) (dead_segment d command) (record_now d seat command)
    × ((unit_now d command ≡ []) ⊎ Fits d (unit_now d command))

-- the segments with these ids, each with the length of its image in bytes
abbrev pub listed_in : List Image → List ℕ → List Listed
listed_in closed ids = map (λ (s : ℕ). record { id = s; len = length (text_of (images_in closed s)) }) ids

-- The opening of the next head. Its digest lists the log, and it records the present safe version. If a pass is ready,
-- its digest lists the survivors of the pass in place of the victims.
abbrev pub start_now : MasterData → Start
start_now d =
    if is_ready d then start_after d.head (victims_of d.pass) (listed_in d.closed (survivors_of d.pass)) d.next d.safe
    else start_after d.head [] [] d.next d.safe

-- what a core becomes when a roll begins; if a pass is ready, the roll is its commit
abbrev pub rolling_data : MasterData → MasterData
rolling_data d = record d {
  head = with_roll d.head d.config.master (start_now d);
  next = d.next + 1;
  pass = option_map (λ (p : Pass). record p { is_committing = is_ready_pass d.config.replicas d.closed p }) d.pass;
  ledger = posting.Began d.next ∷ d.ledger;
}

-- the opening of the next head by the log's own steps
abbrev pub next_now : MasterData → Start
next_now d = if is_ready d then commit_start (log_of d) (memory_of d) else next_start (log_of d)

-- A roll that no test refuses begins. If a pass is ready, the roll is its commit.
pub record BeginsRoll (d : MasterData) (answer : StepAnswer) (e : MasterData) : Type 0 where
  pub passed : roll_refusal d ≡ None
  pub told : answer ≡ RollingTo d.next
  pub log : log_of e ≡ rolling (log_of d) (next_now d) (Rolls (next_now d))
  pub rest : e ≡ rolling_data d

-- the opening of a head is a valid segment within the greatest length
pub record IsOpening (master : ℕ) (n : Start) : Type 0 where
  pub segment : IsSegment (start_entries master n)
  pub limit : length (text_of (start_entries master n)) ≤ 8388608

-- What a roll that begins needs: the head is open, and the opening of the next head is a valid segment. If a pass is
-- ready, the next digest is that of its commit.
pub record MayRollNow (d : MasterData) : Type 0 where
  pub opened : is_open d.head ≡ true
  pub opening : IsOpening d.config.master (next_now d)
  pub commit : is_ready d ≡ true → IsCommit (log_of d).head.start (memory_of d).pass (next_now d)

-- the entries of a segment that compaction keeps
abbrev pub kept_now : MasterData → ℕ → List Entry
kept_now d id = kept_of (log_set_ids d) d.index id (images_of d id)

-- what a core becomes when a segment is compacted: its image has the kept entries alone, and the index names their new
-- places
abbrev pub compacted_data : MasterData → ℕ → MasterData
compacted_data d id = record d {
  closed = changed d.closed id (replaced_by (kept_now d id));
  index = moved_all (log_set_ids d) d.index id (images_of d id);
}

-- A compaction that no test refuses replaces the segment's image, and answers the new length in bytes. The log stays as
-- it was.
pub record Compacts (d : MasterData) (id : ℕ) (answer : StepAnswer) (e : MasterData) : Type 0 where
  pub passed : compact_refusal d id ≡ None
  pub told : answer ≡ Compacted id (length (text_of (kept_now d id)))
  pub log : log_of e ≡ log_of d
  pub rest : e ≡ compacted_data d id

-- ---- a pass

-- a pass at its beginning
abbrev pub fresh_pass : List ℕ → Survivors → Cursor → Pass
fresh_pass victims survivors cursor = record {
  victims = victims;
  cursor = cursor;
  survivors = survivors;
  filling = 0;
  is_committing = false;
}

-- the survivors of a pass that begins now over these victims: they take the next ids
abbrev pub next_survivors : MasterData → List ℕ → Survivors
next_survivors d victims = record { first = d.next; count = survivors_for d victims }

-- A pass that no test refuses begins. Its survivors take the next ids, and each counts a whole segment of memory. The
-- pass has yet to treat all objects and tombstones of its victims.
pub record BeginsPass (d : MasterData) (victims : List ℕ) (answer : StepAnswer) (e : MasterData) : Type 0 where
  pub passed : clean_refusal d victims ≡ None
  pub told : answer ≡ Begun (next_survivors d victims)
  pub cursor : Cursor
  pub begins : rest_of (images_in d.closed) (fresh_pass victims (next_survivors d victims) cursor)
      ≡ places_of (images_in d.closed) victims
  pub log : log_of e ≡ ids_taken (survivors_for d victims) (log_of d)
  pub rest : e ≡ record d {
    closed = d.closed ++ survivor_images d.config (survivor_ids (next_survivors d victims));
    next = d.next + survivors_for d victims;
    pass = Some (fresh_pass victims (next_survivors d victims) cursor);
    ledger = posting.Survivors d.next (survivors_for d victims) ∷ d.ledger;
  }

-- what a copy answers, by the fate of the entry
abbrev pub copy_answer : Copied → StepAnswer
copy_answer copied.Moved = Moved
copy_answer copied.Carried = Carried
copy_answer copied.Dropped = Dropped

-- A copy that no test refuses treats the next entry of the pass. A live object is moved to a survivor, and the index
-- then names the copy. A tombstone that is kept is carried to a survivor. Any other entry is dropped. The log stays as
-- it was.
pub record Copies (d : MasterData) (answer : StepAnswer) (e : MasterData) : Type 0 where
  pub passed : copy_refusal d ≡ None
  pub pass : Pass
  pub after : Pass
  pub copied : Copied
  pub opened : d.pass ≡ Some pass
  pub treats : CopiesOne d.config.segment (log_set_ids d) pass d.closed d.index copied after e.closed e.index
  pub told : answer ≡ copy_answer copied
  pub log : log_of e ≡ log_of d
  pub rest : e ≡ record d { closed = e.closed; index = e.index; pass = Some after }

-- what a core becomes when the next replica of the pass's survivors was sealed
abbrev pub sealed_data : MasterData → MasterData
sealed_data d =
    option_map_or (λ (x : ℕ × ℕ). record d { closed = changed d.closed x.0 more_replicas }) (next_seal d) d

-- the waiting segments once the next replica of the first one was freed; the segment waits no more if that was its last
-- replica
abbrev pub freed_one : List Waiting → List Waiting
freed_one [] = []
freed_one (w ∷ ws) = if suc w.freed == w.replicas then ws else record w { freed = suc w.freed } ∷ ws

-- what a core becomes when the next replica of the first waiting segment was freed
abbrev pub freed_data : MasterData → MasterData
freed_data d = record d { waiting = freed_one d.waiting }

-- ---- an op of the head

-- The core once a pass has ended: the victims are no longer in memory, and those that some backup holds wait to be
-- freed.
abbrev pub pass_ended : Pass → MasterData → MasterData
pass_ended p d = record d {
  closed = after_pass p d.closed;
  pass = None;
  waiting = d.waiting ++ leaving p.victims d.closed;
}

-- the core once a roll has ended: if the roll was a pass's commit, the pass has ended too
abbrev pub roll_ended : Option Pass → MasterData → MasterData
roll_ended None d = d
roll_ended (Some p) d = if p.is_committing then pass_ended p d else d

-- The core once one more replica of the old head was closed. Once its last replica was closed, the old head is one of
-- the closed segments. If the roll was a commit, its pass has then ended.
abbrev pub closed_data : MasterData → Roll → MasterData
closed_data d r =
    let e = record d {
      head = with_closed_replica d.head r;
      closed = with_closed d.closed d.head.id d.config.replicas (old_image d.head r);
    } in
    if suc r.closed == d.head.replicas then roll_ended d.pass e else e

-- what a core becomes when the op of a push was taken
abbrev pub taken_data : MasterData → Next → MasterData
taken_data d (next.OpenFirst j) = record d { head = with_opened_replica d.head }
taken_data d (next.Extend j) = record d { head = with_all_taken d.head j }
taken_data d (next.OpenWhole j) = record d { head = with_whole_replica d.head }
taken_data d (next.OpenNew j) =
    option_map_or (λ (r : Roll). record d { head = with_new_replica d.head r }) d.head.roll d
taken_data d (next.CloseOld j) = option_map_or (closed_data d) d.head.roll d

-- the home of the replica that a push is for
abbrev pub backup_of : MasterData → Next → ℕ
backup_of d next = home d.config d.failed (segment_of d.head next) (replica_of next)

-- the ledger once the op of a push was taken
abbrev pub ledger_after : MasterData → Next → List Posting
ledger_after d (next.OpenFirst j) =
    ended_with (suc j == d.config.replicas)
    (posting.Took (segment_of d.head (next.OpenFirst j)) (backup_of d (next.OpenFirst j)) ∷ d.ledger)
ledger_after d (next.Extend j) = posting.Has (backup_of d (next.Extend j)) (length d.head.units) ∷ d.ledger
ledger_after d (next.OpenWhole j) =
    posting.Has (backup_of d (next.OpenWhole j)) (length d.head.units)
    ∷ posting.Took (segment_of d.head (next.OpenWhole j)) (backup_of d (next.OpenWhole j)) ∷ d.ledger
ledger_after d (next.OpenNew j) =
    posting.Took (segment_of d.head (next.OpenNew j)) (backup_of d (next.OpenNew j)) ∷ d.ledger
ledger_after d (next.CloseOld j) =
    ended_with (suc j == d.config.replicas) (posting.Shut (backup_of d (next.CloseOld j)) ∷ d.ledger)

-- what a core becomes when the op of a push was taken and posted
abbrev pub pushed_data : MasterData → Next → MasterData
pushed_data d next = taken_data (record d { ledger = ledger_after d next }) next

-- the master takes no further step
abbrev pub halted : MasterData → MasterData
halted d = record d { is_halted = true }

-- ---- a backup fails

-- A failure of a backup opens a failover if the format is 2, no failover is open, and at least as many backups are left
-- after it as a segment has replicas.
abbrev pub may_lose : MasterData → Bool
may_lose d =
    (d.config.format == 2) && is_none d.failover
    && nat_lt (length d.failed + d.config.replicas) d.config.backups

-- how many of the first n replicas are left if the one at this place is lost
abbrev pub less_by : ℕ → Option ℕ → ℕ
less_by n None = n
less_by n (Some place) = if nat_lt place n then n - 1 else n

-- the image of a closed segment once backup b has failed: if b was one of its homes, it has one replica less
abbrev pub lost_image : Config → List ℕ → ℕ → Image → Image
lost_image c failed b image =
    if is_some (place_in c failed image.id image.replicas b) then fewer_replicas image else image

-- a waiting segment once backup b has failed: if b was one of its homes, it has one replica less
abbrev pub lost_waiting : Config → List ℕ → ℕ → Waiting → Waiting
lost_waiting c failed b w =
    let place = place_in c failed w.segment w.replicas b in
    record w { freed = less_by w.freed place; replicas = less_by w.replicas place }

-- some replica of the segment is still to be freed
abbrev pub still_waits : Waiting → Bool
still_waits w = nat_lt w.freed w.replicas

-- which opened replica of the head is on backup b, if any is
abbrev pub place_of : MasterData → ℕ → Option ℕ
place_of d b = place_in d.config d.failed d.head.id (length d.head.taken) b

-- the head that a roll is opening, as a list of at most one; the master's own head if it isn't opened yet
abbrev pub new_heads_in : HeadValue → List Start
new_heads_in h =
    if is_opened h then option_map_or (λ (r : Roll). start_of r ∷ []) h.roll [] else (head_of h).start ∷ []

-- the failover that begins when backup b fails
abbrev pub opened_failover : MasterData → ℕ → Failover
opened_failover d b = record {
  part = part.Mends;
  frozen = durable_now d;
  closed = less_by (option_map_or (λ (r : Roll). r.closed) d.head.roll 0) (place_of d b);
  abandoned = option_map (λ (r : Roll). r.image) d.head.roll;
  is_first = not (is_opened d.head);
}

-- What a core becomes when backup b has failed and a failover begins. The head of a roll that was under way is
-- abandoned. The replicas on the backup are no longer counted.
abbrev pub lost_data : MasterData → ℕ → MasterData
lost_data d b = record d {
  failed = b ∷ d.failed;
  head = lost d.head (place_of d b);
  closed = map (lost_image d.config d.failed b) d.closed;
  pass = option_map (λ (p : Pass). record p { is_committing = false }) d.pass;
  waiting = filter still_waits (map (lost_waiting d.config d.failed b) d.waiting);
  failover = Some (opened_failover d b);
  abandoned = new_heads_in d.head;
}

-- ---- faults of a take

-- what the step is refused as, if a take on backup b ends in this fault
abbrev pub refusal_of : MasterData → ℕ → TakeFault → Refusal
refusal_of d b take_fault.NoMemory = refusal.NoMemory
refusal_of d b take_fault.Spent = refusal.Spent
refusal_of d b take_fault.Wrong = refusal.Halted
refusal_of d b take_fault.Fault = if may_lose d then refusal.Lost b else refusal.Halted

-- what a core becomes when a take on backup b ends in this fault
abbrev pub failed_data : MasterData → ℕ → TakeFault → MasterData
failed_data d b take_fault.NoMemory = d
failed_data d b take_fault.Spent = d
failed_data d b take_fault.Wrong = halted d
failed_data d b take_fault.Fault = if may_lose d then lost_data d b else halted d
