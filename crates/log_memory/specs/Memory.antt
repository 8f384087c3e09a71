-- What a master's memory has of a log whose backups may fail.
use Rattle.std.specs.Prelude.{ℕ, ◌≡◌, ◌++◌, List, Bool, filter}
use Rattle.entry.specs.declared.entry.Entry.{Entry}
use Rattle.entry.specs.Bag.{IsAmong}
use Rattle.entry.specs.Text.{is_data, opening_of}
use Rattle.log_bytes.specs.log_laws.Rising.{Texts as EntriesOf}
use Rattle.log_bytes.specs.log_laws.Memory.{Place, Index, Images, Pass, new_ids, LogSet}
use Rattle.log_bytes.specs.log_laws.Text.{Text}
use Rattle.log_bytes.specs.log_laws.Data.{FailData, new_of}
use Rattle.log_bytes.specs.log_laws.Log.{Texts}
use Rattle.log_bytes.specs.log_laws.Steps.{ids_now}
use Rattle.log_bytes.specs.Text.{entries_for}

-- a replica that may be freed
pub record Spot : Type 0 where
  pub segment : ℕ
  pub backup : ℕ

-- A master's memory: images, index, the open pass, and the replicas that wait to be freed.
pub record FailMemory : Type 0 where
  pub images : Images
  pub index : Index
  pub pass : Pass
  -- the places that lie ahead of the pass's cursor
  pub rest : List Place
  -- true if the roll that is under way is the commit of the pass
  pub commits : Bool
  -- the replicas of victims of earlier passes that wait to be freed
  pub waiting : List Spot

-- the objects and tombstones of each segment's text
abbrev pub entries_in : Texts → EntriesOf
entries_in texts = λ s. (texts.text s).entries

-- the log set: the ids of the digest in force, the new head, and the survivors of the open pass
abbrev pub log_ids : FailData → FailMemory → List ℕ
log_ids d m = ids_now d.head.start ++ (new_ids (new_of d.mode) ++ m.pass.survivors)

-- the log set of a master and its memory, with these texts
abbrev pub log_set_of : FailData → FailMemory → Texts → LogSet
log_set_of d m texts = record { ids = log_ids d m; image = m.images; text = entries_in texts }

-- ---- images

-- the objects and tombstones that memory has of a segment
abbrev pub data_of : FailMemory → ℕ → List Entry
data_of m s = filter is_data (m.images s)

-- the text that a segment's image spells: its opening, if it has one, and its objects and tombstones
abbrev pub text_in : FailMemory → ℕ → Text
text_in m s = record { opening = opening_of (m.images s); entries = data_of m s }

-- the image of each segment of the log set has the header and opening of the segment's text, and then objects and
-- tombstones
abbrev pub AreImages : FailData → FailMemory → Texts → Type 0
AreImages d m texts = (s : ℕ) → IsAmong s (log_ids d m)
    → m.images s ≡ entries_for d.config.master s (record (texts.text s) { entries = data_of m s })
