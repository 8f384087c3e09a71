-- How a master and its memory change by a command, compaction, a pass, a roll, a commit, a seal or a free.
use Rattle.std.specs.Prelude.{◌≡◌, ℕ, zero, suc, ◌⊎◌, ◌==◌, ◌&&◌, List, [], ◌∷◌, ◌++◌, length, map, filter, Bool, false}
use Rattle.std.specs.Prelude.{not, Some, None, if◌then◌else◌}
use Rattle.std.specs.List.{flat_map}
use Rattle.entry.specs.declared.entry.Entry.{Entry}
use Rattle.entry.specs.declared.entry.Entry.TheVariants as entry
use Rattle.entry.specs.Bag.{IsAmong}
use Rattle.entry.specs.Text.{text_of}
use Rattle.versioned_map.specs.declared.command.Record.{Record}
use Rattle.versioned_map.specs.Command.{command_key}
use Rattle.log_bytes.specs.log_laws.Heads.{Start, digest_for, lens_next, start_entries}
use Rattle.log_bytes.specs.log_laws.Ids.{has, all_inserted, without}
use Rattle.log_bytes.specs.log_laws.Compaction.{kept_from, moved_index, places}
use Rattle.log_bytes.specs.log_laws.Memory.{Place, Index, no_pass, with_image, grown, StandsAt}
use Rattle.log_bytes.specs.log_laws.ImageSteps.{with_place, next_place, is_copied, images_with, index_with}
use Rattle.log_bytes.specs.log_laws.Intact.{survivor_entries, IsCommit}
use Rattle.log_bytes.specs.log_laws.Shown.{Seal, Free, Op, On}
use Rattle.log_bytes.specs.log_laws.Data.{is_failing, Mode, Calm, Rolls, Mends, Opens, FailConfig, FailData, homes}
use Rattle.log_bytes.specs.log_laws.Data.{state_of}
use Rattle.log_bytes.specs.log_laws.Steps.{restored_start, id_taken, unit_now, ids_now, len_now}
use Rattle.log_memory.specs.Intact.{IsReady}
use Rattle.log_memory.specs.Memory.{Spot, FailMemory, log_ids, text_in}

-- memory of a new master, whose first head records this safe version: each image is the head's opening
abbrev pub first_memory : FailConfig → ℕ → FailMemory
first_memory c safe = record {
  images = λ s. start_entries c.master (restored_start c.format safe);
  index = λ k. None;
  pass = no_pass;
  rest = [];
  commits = false;
  waiting = [];
}

-- ---- a command

-- memory once the record is applied: its unit goes to the head
abbrev pub recorded : FailData → FailMemory → ℕ → Record → FailMemory
recorded d m segment r = record m {
  images = images_with m.images d.head.start.id (unit_now d segment r);
  index = index_with m.images m.index d.head.start.id (unit_now d segment r);
}

-- the segment is the one in which the index finds the object of the command's key, if there is one
abbrev pub IsNamed : FailMemory → ℕ → Record → Type 0
IsNamed m segment r = (p : Place) → m.index (command_key r.command) ≡ Some p → segment ≡ p.segment

-- ---- compaction

-- memory once the segment's image has only its kept entries, and the index names their new places
abbrev pub compacted : FailData → FailMemory → ℕ → FailMemory
compacted d m s = record m {
  images = with_image m.images s (kept_from (log_ids d m) m.index s 0 (m.images s));
  index = moved_index (log_ids d m) m.images m.index s;
}

-- The segment may be compacted: it is in the log set, and is no victim and no survivor.
pub record MayCompact (d : FailData) (m : FailMemory) (s : ℕ) : Type 0 where
  pub counts : IsAmong s (log_ids d m)
  pub no_survivor : IsAmong s m.pass.survivors → ⊥
  pub no_victim : IsAmong s m.pass.victims → ⊥

-- ---- a pass begins

-- the master once so many segments that are no heads have the next ids
abbrev pub ids_taken : ℕ → FailData → FailData
ids_taken zero d = d
ids_taken (suc n) d = id_taken (ids_taken n d)

-- memory once a pass is open that has no survivor yet; all places of the victims lie ahead of its cursor
abbrev pub pass_opened : FailMemory → List ℕ → FailMemory
pass_opened m victims = record m {
  pass = record { victims = victims; survivors = [] };
  rest = places victims m.images;
}

-- memory once the open pass has one more survivor, which has the next id, and whose image is its header
abbrev pub survivor_added : FailData → FailMemory → FailMemory
survivor_added d m = record m {
  images = with_image m.images d.next (survivor_entries d.config.master d.next);
  pass = record { victims = m.pass.victims; survivors = m.pass.survivors ++ d.next ∷ [] };
}

-- memory once a pass with so many survivors has begun
abbrev pub pass_begun : FailData → FailMemory → List ℕ → ℕ → FailMemory
pass_begun d m victims zero = pass_opened m victims
pass_begun d m victims (suc n) = survivor_added (ids_taken n d) (pass_begun d m victims n)

-- A pass may begin: no pass is open and no commit is under way. There are victims, and the digest in force lists each
-- of them before the head.
pub record MayBeginClean (d : FailData) (m : FailMemory) (victims : List ℕ) : Type 0 where
  pub none : m.pass ≡ no_pass
  pub no_commit : m.commits ≡ false
  pub some : victims ≡ [] → ⊥
  pub older : (s : ℕ) → IsAmong s victims → IsAmong s d.head.start.others

-- ---- a copy

-- the index once the entry at the cursor is copied to survivor `s`: an object's key gets the copy's place
abbrev pub index_moved : FailMemory → ℕ → Entry → Index
index_moved m s (entry.Header h) = m.index
index_moved m s (entry.Digest l) = m.index
index_moved m s (entry.Safe version) = m.index
index_moved m s (entry.Object o) = with_place m.index o.key (Some (next_place m.images s))
index_moved m s (entry.Tombstone t) = m.index

-- memory once the entry is at the end of a survivor's image, and the cursor is past it
abbrev pub with_copy : FailMemory → List Place → ℕ → Entry → FailMemory
with_copy m rest s e = record m { images = grown m.images s e; index = index_moved m s e; rest = rest }

-- memory once the entry at the cursor is copied, if it is one to copy, or else dropped
abbrev pub copy_done : FailData → FailMemory → Place → List Place → ℕ → Entry → FailMemory
copy_done d m first rest s e =
    if is_copied (log_ids d m) m.index first e then with_copy m rest s e else record m { rest = rest }

-- The entry may be treated: the cursor is at it, it is in a victim, and segment `s` is a survivor.
pub record MayCopy (d : FailData) (m : FailMemory) (first : Place) (rest : List Place) (s : ℕ) (e : Entry)
    : Type 0 where
  pub cursor : m.rest ≡ first ∷ rest
  pub victim : IsAmong first.segment m.pass.victims
  pub survivor : IsAmong s m.pass.survivors
  pub at : StandsAt m.images first e

-- ---- rolls and failovers

-- memory once a roll has begun: the new head's image is its opening
abbrev pub rolled : FailData → FailMemory → Start → Bool → FailMemory
rolled d m n commits =
    record m { images = with_image m.images n.id (start_entries d.config.master n); commits = commits }

-- memory once a backup has failed: no commit is under way any more
abbrev pub stopped : FailMemory → FailMemory
stopped m = record m { commits = false }

-- ---- a commit

-- the length that a commit's digest lists for a segment: for a survivor the bytes of its image
abbrev pub commit_len : FailData → FailMemory → ℕ → ℕ
commit_len d m s = if has m.pass.survivors s then length (text_of (m.images s)) else len_now d s

-- the next head of a commit: the digest in force less the victims, with the survivors at their places
abbrev pub commit_start : FailData → FailMemory → Start
commit_start d m =
    let others = all_inserted m.pass.survivors (without m.pass.victims (ids_now d.head.start)) in
    record {
      id = d.next;
      others = others;
      lens = lens_next (digest_for d.head.start) (commit_len d m) others;
      safe = (state_of d).safe;
    }

-- A roll to this head, or the opening of a failover's new head, may begin as the commit of the open pass, which is
-- ready.
pub record MayCommit (d : FailData) (m : FailMemory) (n : Start) (mode : Mode) : Type 0 where
  pub may : ((d.mode ≡ Calm) × (mode ≡ Rolls n)) ⊎ ((d.mode ≡ Mends) × (mode ≡ Opens n))
  pub real : d.head.start.id ≡ 0 → ⊥
  pub ready : IsReady d m
  pub commit : IsCommit d.head.start m.pass n
  pub next : n.id ≡ d.next
  pub lens : n.lens ≡ lens_next (digest_for d.head.start) (commit_len d m) n.others
  pub safe : n.safe ≡ (state_of d).safe

-- the replicas of these segments on backups that haven't failed
abbrev pub spots_of : FailData → List ℕ → List Spot
spots_of d ids =
    flat_map (λ (s : ℕ). map (λ (b : ℕ). record { segment = s; backup = b }) (homes d s)) ids

-- memory once the pass has ended: the replicas of its victims wait to be freed
abbrev pub finished : FailData → FailMemory → FailMemory
finished d m = record m {
  pass = no_pass;
  commits = false;
  waiting = spots_of d m.pass.victims ++ m.waiting;
}

-- ---- a seal

-- the op that seals a segment's image on a backup: that of a survivor, or, in a failover, of another segment
abbrev pub seal_op : FailMemory → ℕ → ℕ → Op
seal_op m s b = On b s (Seal (text_in m s))

-- A survivor may be sealed on a backup that hasn't failed and didn't take the survivor. The pass has nothing more to
-- copy, and no commit and no failover is under way.
pub record MaySeal (d : FailData) (m : FailMemory) (s b : ℕ) : Type 0 where
  pub survivor : IsAmong s m.pass.survivors
  pub done : m.rest ≡ []
  pub no_commit : m.commits ≡ false
  pub calm : is_failing d.mode ≡ false
  pub works : has d.failed b ≡ false
  pub apart : has (d.took s) b ≡ false

-- ---- a free

-- the op that frees a replica
abbrev pub free_op : ℕ → ℕ → Op
free_op s b = On b s Free

-- true if these are the same replica
abbrev pub is_spot : Spot → Spot → Bool
is_spot w v = (w.segment == v.segment) && (w.backup == v.backup)

-- memory once this replica no longer waits to be freed
abbrev pub freed : FailMemory → Spot → FailMemory
freed m w = record m { waiting = filter (λ (v : Spot). not (is_spot w v)) m.waiting }

-- The replica may be freed: it waits for this on a backup that hasn't failed, and no failover is open.
pub record MayFree (d : FailData) (m : FailMemory) (s b : ℕ) : Type 0 where
  pub waits : IsAmong (record { segment = s; backup = b }) m.waiting
  pub works : has d.failed b ≡ false
  pub calm : is_failing d.mode ≡ false
