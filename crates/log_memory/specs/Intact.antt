-- When the log of a master is intact: what is true of the master, its memory and the backups, also if some failed.
use Rattle.std.specs.Prelude.{◌≡◌, ℕ, ◌<◌, ◌≤◌, ◌⊎◌, List, [], length, true, false, Some, None, IsSome}
use Rattle.entry.specs.declared.key.Key.{Key}
use Rattle.entry.specs.declared.entry.Entry.{Entry}
use Rattle.entry.specs.Bag.{IsAmong}
use Rattle.entry.specs.Meaning.{IsOfKey}
use Rattle.log_bytes.specs.log_laws.Heads.{Start}
use Rattle.log_bytes.specs.log_laws.Ids.{has}
use Rattle.log_bytes.specs.log_laws.Intact.{IsPassOf, IsCommit}
use Rattle.log_bytes.specs.log_laws.Tracked.{IsTracked, IsPassing, IsAround}
use Rattle.log_bytes.specs.log_laws.Text.{Replica}
use Rattle.log_bytes.specs.log_laws.Shown.{Shown}
use Rattle.log_bytes.specs.log_laws.Data.{Calm, Repairs, FailData, HasTaken, homes, new_of, is_failing, state_of}
use Rattle.log_bytes.specs.log_laws.Durable.{TakenHead}
use Rattle.log_bytes.specs.log_laws.Log.{Texts, IsKept}
use Rattle.log_bytes.specs.log_laws.Steps.{ids_now, IsKnown}
use Rattle.log_memory.specs.Covered.{map_of}
use Rattle.log_memory.specs.Memory.{Spot, FailMemory, log_ids, log_set_of, data_of, AreImages}
use Rattle.log_memory.specs.Past.{ArePast}

-- ---- a pass

-- A replica of a survivor is closed and has the survivor's image, and the pass has nothing more to copy.
pub record IsSealed (m : FailMemory) (texts : Texts) (s : ℕ) (r : Replica) : Type 0 where
  pub done : m.rest ≡ []
  pub image : (texts.text s).entries ≡ data_of m s
  pub text : r.text ≡ texts.text s
  pub closed : r.is_open ≡ false

-- What texts and backups have of the survivors of the open pass.
pub record AreSealed (d : FailData) (m : FailMemory) (texts : Texts) (p : Shown) : Type 0 where
  pub bare : (s : ℕ) → IsAmong s m.pass.survivors → (texts.text s).opening ≡ None
  -- no failover sealed a survivor's image anew
  pub one : (s : ℕ) → IsAmong s m.pass.survivors → texts.images s ≡ []
  pub each : (s b : ℕ) (r : Replica) → IsAmong s m.pass.survivors → p.holds b s ≡ Some r → IsSealed m texts s r
  pub held : (s b : ℕ) → IsAmong s m.pass.survivors → HasTaken d s b → IsSome (p.holds b s)

-- The pass is ready: it has nothing more to copy, and each survivor has as many homes, which haven't failed, as a
-- segment has replicas.
pub record IsReady (d : FailData) (m : FailMemory) : Type 0 where
  pub done : m.rest ≡ []
  pub sealed : (s : ℕ) → IsAmong s m.pass.survivors → d.config.replicas ≤ length (homes d s)

-- What is true while a commit is under way: there is a head in force, the pass has nothing more to copy, and the text
-- of each survivor is its image.
pub record IsCommitting (d : FailData) (m : FailMemory) (texts : Texts) : Type 0 where
  pub real : d.head.start.id ≡ 0 → ⊥
  pub done : m.rest ≡ []
  pub images : (s : ℕ) → IsAmong s m.pass.survivors → (texts.text s).entries ≡ data_of m s

-- the roll to this head is an ordinary one, or, if memory says so, the commit of the open pass
abbrev pub IsRollOf : FailData → FailMemory → Start → Type 0
IsRollOf d m n = (m.commits ≡ false → n.others ≡ ids_now d.head.start)
    × (m.commits ≡ true → IsCommit d.head.start m.pass n)

-- ---- all

-- The replicas that wait to be freed are of segments outside the log set, whose ids were used.
pub record AreGone (d : FailData) (m : FailMemory) : Type 0 where
  pub out : (w : Spot) → IsAmong w m.waiting → IsAmong w.segment (log_ids d m) → ⊥
  pub below : (w : Spot) → IsAmong w m.waiting → w.segment < d.next
  -- nothing waits to be freed before the first head
  pub real : (w : Spot) → IsAmong w m.waiting → d.head.start.id ≡ 0 → ⊥

-- The master knows what the backups that haven't failed hold. They hold each replica that waits to be freed.
pub record Knows (d : FailData) (m : FailMemory) (p : Shown) : Type 0 where
  pub log : IsKnown d p
  pub waiting : (w : Spot) → IsAmong w m.waiting → has d.failed w.backup ≡ false
      → IsSome (p.holds w.backup w.segment)

-- each image that a failover sealed has all objects and tombstones of the segment's image in memory
abbrev pub AreRepaired : FailMemory → Texts → Type 0
AreRepaired m texts = (s : ℕ) (es : List Entry) (k : Key) (e : Entry) → IsAmong es (texts.images s) → IsOfKey k e
    → IsAmong e (m.images s) → IsAmong e es

-- While no backup has failed, no failover sealed an image, and none is open.
pub record AreUnrepaired (d : FailData) (texts : Texts) : Type 0 where
  pub one : d.failed ≡ [] → (s : ℕ) → texts.images s ≡ []
  pub failed : is_failing d.mode ≡ true → d.failed ≡ [] → ⊥

-- The log is intact: it is kept, images and index track the map over the log's texts, and all is in order with the
-- open pass, its survivors, its commit, and the replicas that wait to be freed.
pub record IsIntact (d : FailData) (m : FailMemory) (p : Shown) : Type 0 where
  pub log : IsKept d p
  pub tracked : IsTracked (log_set_of d m log.texts) m.pass m.index (map_of d)
  pub passing : IsPassing (log_ids d m) m.images m.pass m.index m.rest
  pub around : IsAround (log_set_of d m log.texts) m.pass (map_of d) (state_of d).safe d.next
  pub images : AreImages d m log.texts
  pub repaired : AreRepaired m log.texts
  pub whole : AreUnrepaired d log.texts
  pub chosen : IsPassOf d.head.start (new_of d.mode) m.pass
  pub sealing : AreSealed d m log.texts p
  pub rolling : (n : Start) → new_of d.mode ≡ Some n → IsRollOf d m n
  pub committed : m.commits ≡ true → IsCommitting d m log.texts
  pub waiting : AreGone d m
  -- a new head records the present safe version or a greater one, and so does the head in force while a failover seals
  -- lost replicas anew
  pub recorded : (n : Start) → new_of d.mode ≡ Some n → (state_of d).safe ≤ n.safe
  pub repairs : d.mode ≡ Repairs → (state_of d).safe ≤ d.head.start.safe
  -- there is a head while no roll is under way and no new head is opened
  pub real : (d.mode ≡ Calm) ⊎ (d.mode ≡ Repairs) → d.head.start.id ≡ 0 → ⊥
  -- the earlier heads
  pub past : List TakenHead
  pub before : ArePast d log.texts past

-- the log is intact, and these are its earlier heads
abbrev pub IsIntactWith : List TakenHead → FailData → FailMemory → Shown → Type 0
IsIntactWith past d m p = (i : IsIntact d m p) × (i.past ≡ past)
