-- The pushes of a core: which comes next, its op, and what it makes of a core.
use Rattle.std.specs.Prelude.{◌≡◌, ◌⊎◌, ℕ, suc, ◌+◌, ◌<◌, ◌==◌, List, [], ◌∷◌, length, true, false, Bool}
use Rattle.std.specs.Prelude.{Option, Some, None, IsSome, is_none, if◌then◌else◌}
use Rattle.std.specs.Option.{option_map, option_map_or}
use Rattle.master_state.specs.cleaner.declared.pass.Pass.{Pass}
use Rattle.master_state.specs.cleaner.Passes.{is_ready as is_ready_pass}
use Rattle.master_state.specs.cleaner.Seals.{first_lacking}
use Rattle.entry.specs.declared.entry.Entry.{Entry}
use Rattle.entry.specs.Text.{text_of}
use Rattle.images.specs.Sorted.{changed}
use Rattle.images.specs.Steps.{more_replicas}
use Rattle.log_head.specs.declared.head.Roll.{Roll}
use Rattle.log_head.specs.declared.next.Next.TheVariants as next
use Rattle.log_head.specs.Head.{HeadValue, IsLagging, IsRollValue}
use Rattle.log_head.specs.Log.{head_of}
use Rattle.log_head.specs.Next.{IsNextPush, op_of, replica_of, segment_of}
use Rattle.log_head.specs.Steps.{lone_start, fresh_head, fresh_roll, with_opened_replica, with_new_replica}
use Rattle.log_head.specs.log_laws.Heads.{Start, start_entries}
use Rattle.replica.specs.Op.{OpValue, Open, Seal}
use Rattle.master_state.specs.declared.failover.Failover.{Failover}
use Rattle.master_state.specs.declared.failover.Part.{Part}
use Rattle.master_state.specs.declared.failover.Part.TheVariants as part
use Rattle.master_state.specs.declared.ledger.Posting.TheVariants as posting
use Rattle.master_state.specs.Data.{MasterData}
use Rattle.master_state.specs.Log.{home, images_of}
use Rattle.master_state.specs.Steps.{start_now, closed_data, pushed_data}
use Rattle.master_failover.specs.declared.push.Push.{Push}
use Rattle.master_failover.specs.declared.push.Push.TheVariants as push
use Rattle.master_failover.specs.declared.turning.NewHead.{NewHead}
use Rattle.master_failover.specs.declared.turning.NewHead.TheVariants as new_head

-- ---- which comes next

-- a failover is open, and this part of it is under way
abbrev pub IsInPart : MasterData → Part → Type 0
IsInPart d p = (f : Failover) × (d.failover ≡ Some f) × (f.part ≡ p)

-- a failover is open, and no head was open on all its backups when it began
abbrev pub was_headless : MasterData → Bool
was_headless d = option_map_or (λ (f : Failover). f.is_first) d.failover false

-- how many replicas of the new head are open; the new head is that of the roll, or else the first head
abbrev pub opened_now : MasterData → ℕ
opened_now d = option_map_or (λ (r : Roll). r.opened) d.head.roll (length d.head.taken)

-- the number of the new head
abbrev pub new_id : MasterData → ℕ
new_id d = option_map_or (λ (r : Roll). r.id) d.head.roll d.head.id

-- the first segment of the digest in force that lacks a replica, and how many it has
abbrev pub first_lost : MasterData → Option (ℕ × ℕ)
first_lost d = first_lacking d.config.replicas d.closed (head_of d.head).start.others

-- one more replica of the new head is to be opened
abbrev pub IsNextOpen : MasterData → ℕ → Type 0
IsNextOpen d j = IsInPart d part.Opens × (j ≡ opened_now d) × (j < d.config.replicas)

-- The push is the next one of the failover. The pushes come in this order: The head's replicas that are left get all
-- its units, the one with the fewest units first. The head's lost replica is replaced. The new head is made, and opened
-- replica by replica. The registry is raised to the new head. The old head is closed, replica by replica. Each other
-- lost replica is sealed anew, segment by segment. If no head was open when the failover began, the Turn is its first
-- push, and the raise its last.
abbrev pub IsNextMend : MasterData → Push → Type 0
IsNextMend d (push.Head (next.Extend j)) = IsInPart d part.Mends × (was_headless d ≡ false)
    × IsLagging (length d.head.units) d.head.taken (Some j)
IsNextMend d (push.Head (next.OpenWhole j)) = IsInPart d part.Mends × (was_headless d ≡ false)
    × IsLagging (length d.head.units) d.head.taken None × (j ≡ length d.head.taken) × (j < d.config.replicas)
IsNextMend d push.Turn = IsInPart d part.Mends × ((was_headless d ≡ true)
    ⊎ (IsLagging (length d.head.units) d.head.taken None × (length d.head.taken ≡ d.config.replicas)))
IsNextMend d (push.Head (next.OpenNew j)) = IsNextOpen d j × IsSome d.head.roll
IsNextMend d (push.Head (next.OpenFirst j)) = IsNextOpen d j × (d.head.roll ≡ None)
IsNextMend d (push.Raise id) = IsInPart d part.Opens × (opened_now d ≡ d.config.replicas) × (id ≡ new_id d)
IsNextMend d (push.Head (next.CloseOld j)) = IsInPart d part.Closes
    × (r : Roll) × (d.head.roll ≡ Some r) × (j ≡ r.closed)
IsNextMend d (push.Repair s j) = IsInPart d part.Repairs × (first_lost d ≡ Some (s, j))

-- The push comes next: while no failover is open, the head's own next push, and else the failover's. None means that
-- nothing is left to push.
abbrev pub IsNextPushOf : MasterData → Option Push → Type 0
IsNextPushOf d None = (d.failover ≡ None) × IsNextPush d.head None
IsNextPushOf d (Some (push.Head n)) =
    ((d.failover ≡ None) × IsNextPush d.head (Some n)) ⊎ IsNextMend d (push.Head n)
IsNextPushOf d (Some push.Turn) = IsNextMend d push.Turn
IsNextPushOf d (Some (push.Raise id)) = IsNextMend d (push.Raise id)
IsNextPushOf d (Some (push.Repair s j)) = IsNextMend d (push.Repair s j)

-- the push is no Turn
abbrev pub IsLater : Push → Type 0
IsLater (push.Head n) = Unit {0}
IsLater push.Turn = ⊥
IsLater (push.Raise id) = Unit {0}
IsLater (push.Repair s j) = Unit {0}

-- the push is neither a Turn nor a raise
abbrev pub IsOnReplica : Push → Type 0
IsOnReplica (push.Head n) = Unit {0}
IsOnReplica push.Turn = ⊥
IsOnReplica (push.Raise id) = ⊥
IsOnReplica (push.Repair s j) = Unit {0}

-- ---- the new head

-- what the new head begins with: its digest lists the log, or what a commit leaves of the log. If no head was open when
-- the failover began, the digest lists the new head alone.
abbrev pub turn_start : MasterData → Start
turn_start d = if was_headless d then lone_start d.next d.config.format d.safe else start_now d

-- how many replicas of the old head are left that were closed by the roll that was under way when the failover began
abbrev pub closed_before : MasterData → ℕ
closed_before d = option_map_or (λ (f : Failover). f.closed) d.failover 0

-- the roll to the new head; replicas of the old head that an earlier roll closed stay closed
abbrev pub turn_roll : MasterData → Roll
turn_roll d = record (fresh_roll d.config.master (start_now d)) { closed = closed_before d }

-- the new head's image, which is its opening
abbrev pub new_text : NewHead → List Entry
new_text (new_head.First h) = h.image
new_text (new_head.Next r) = r.image

-- this is the new head that the core's Turn makes
abbrev pub IsNewHead : MasterData → NewHead → Type 0
IsNewHead d (new_head.First h) = (was_headless d ≡ true)
    × (h ≡ fresh_head d.config.master d.config.replicas (lone_start d.next d.config.format d.safe))
IsNewHead d (new_head.Next r) = (was_headless d ≡ false) × (r ≡ turn_roll d)

-- The core's head once the new head is put: the new head takes the place of the first one, or a roll to it begins.
abbrev pub put_data : NewHead → HeadValue → HeadValue
put_data (new_head.First h) old = h
put_data (new_head.Next r) old = record old { roll = Some r }

-- the new head may be put: a roll to it begins only if no roll is under way
abbrev pub MayPut : HeadValue → NewHead → Type 0
MayPut old (new_head.First h) = Unit {0}
MayPut old (new_head.Next r) = (old.roll ≡ None) × IsRollValue old.replicas (length old.taken) r

-- ---- what a push makes of a core

-- the failover goes on with this part
abbrev pub with_part : MasterData → Part → MasterData
with_part d p = record d { failover = option_map (λ (f : Failover). record f { part = p }) d.failover }

-- the failover goes on with the Opens of the new head, and the image of an abandoned head is dropped
abbrev pub opening : Failover → Failover
opening f = record f { part = part.Opens; abandoned = None }

-- The new head is put, and none of its replicas is open. If no head was open when the failover began, the new head
-- takes the place of the first one. Otherwise a roll to it begins, which is a commit if a pass is ready. Replicas of
-- the old head that an earlier roll closed stay closed.
abbrev pub turned_data : MasterData → MasterData
turned_data d =
    if was_headless d then record d {
      head = fresh_head d.config.master d.config.replicas (lone_start d.next d.config.format d.safe);
      next = d.next + 1;
      failover = option_map opening d.failover;
      ledger = posting.Began d.next ∷ d.ledger;
    } else record d {
      head = record d.head { roll = Some (turn_roll d) };
      next = d.next + 1;
      pass =
          option_map (λ (p : Pass). record p { is_committing = is_ready_pass d.config.replicas d.closed p }) d.pass;
      failover = option_map opening d.failover;
      ledger = posting.Began d.next ∷ d.ledger;
    }

-- one more replica of the new head is open
abbrev pub opened_more : MasterData → ℕ → MasterData
opened_more d j = record d {
  head = option_map_or (with_new_replica d.head) d.head.roll (with_opened_replica d.head);
  ledger = posting.Took (new_id d) (home d.config d.failed (new_id d) j) ∷ d.ledger;
}

-- the registry was raised to the new head; a first head is then in force, and the failover has ended
abbrev pub raised_data : MasterData → MasterData
raised_data d =
    if was_headless d then record d {
      failover = None;
      abandoned = [];
      ledger = posting.Ended ∷ d.ledger;
    } else with_part d part.Closes

-- the failover has ended if no replica is lost any more
abbrev pub repaired_data : MasterData → MasterData
repaired_data d = if is_none (first_lost d) then record d { failover = None } else d

-- One more replica of the old head is closed. With the last Close the new head is in force, and the failover goes on
-- with its Seals, or has ended if no replica is lost.
abbrev pub closed_more : MasterData → ℕ → Roll → MasterData
closed_more d j r =
    let e = closed_data (record d { ledger = posting.Shut (home d.config d.failed d.head.id j) ∷ d.ledger }) r in
    if suc j == d.config.replicas
    then repaired_data (with_part (record e { abandoned = []; ledger = posting.Ended ∷ e.ledger }) part.Repairs)
    else e

-- a lost replica was sealed anew
abbrev pub sealed_anew : MasterData → ℕ → ℕ → MasterData
sealed_anew d s j = repaired_data (record d {
  closed = changed d.closed s more_replicas;
  ledger = posting.Took s (home d.config d.failed s j) ∷ d.ledger;
})

-- what a core becomes when a push was taken while a failover is open
abbrev pub mended_data : MasterData → Push → MasterData
mended_data d (push.Head (next.Extend j)) = pushed_data d (next.Extend j)
mended_data d (push.Head (next.OpenWhole j)) = pushed_data d (next.OpenWhole j)
mended_data d push.Turn = opened_more (turned_data d) 0
mended_data d (push.Head (next.OpenNew j)) = opened_more d j
mended_data d (push.Head (next.OpenFirst j)) = opened_more d j
mended_data d (push.Raise id) = raised_data d
mended_data d (push.Head (next.CloseOld j)) = option_map_or (closed_more d j) d.head.roll d
mended_data d (push.Repair s j) = sealed_anew d s j

-- what a core becomes when a push was taken
abbrev pub pushed : MasterData → Push → MasterData
pushed d (push.Head n) =
    option_map_or (λ (f : Failover). mended_data d (push.Head n)) d.failover (pushed_data d n)
pushed d push.Turn = mended_data d push.Turn
pushed d (push.Raise id) = mended_data d (push.Raise id)
pushed d (push.Repair s j) = mended_data d (push.Repair s j)

-- ---- the op of a push

-- the segment that the push is for
abbrev pub segment_for : MasterData → Push → ℕ
segment_for d (push.Head n) = segment_of d.head n
segment_for d push.Turn = d.next
segment_for d (push.Raise id) = id
segment_for d (push.Repair s j) = s

-- the number of the replica that the push is for
abbrev pub replica_for : Push → ℕ
replica_for (push.Head n) = replica_of n
replica_for push.Turn = 0
replica_for (push.Raise id) = 0
replica_for (push.Repair s j) = j

-- the backup that the push is for
abbrev pub backup_for : MasterData → Push → ℕ
backup_for d p = home d.config d.failed (segment_for d p) (replica_for p)

-- the op that the push hands to a backup; a raise has none
abbrev pub op_now : MasterData → Push → Option OpValue
op_now d (push.Head n) = Some (op_of d.config.master d.head n)
op_now d push.Turn = Some (record {
  master = d.config.master;
  segment = d.next;
  act = Open (text_of (start_entries d.config.master (turn_start d)));
})
op_now d (push.Raise id) = None
op_now d (push.Repair s j) = Some (record {
  master = d.config.master;
  segment = s;
  act = Seal (text_of (images_of d s));
})
