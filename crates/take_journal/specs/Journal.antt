-- What a journal knows of its file.
use Rattle.std.specs.Prelude.{◌≡◌, ℕ, Bool, true, false, List, ◌∷◌, length}
use Rattle.take_journal.specs.Device.{LeavesJust}
use Rattle.take_journal.specs.Frames.{AreShort, at_rest, frames, recovered}
use Rattle.take_journal.specs.declared.journal.Journal.{Journal}

-- The file is whole frames and a closed gate behind them, at `end`, and all of it is on the disk.
pub record IsSettled {D : Type 0} (contents : D → List ℕ) (may_leave : D → List ℕ → Type 0) (has_failed : D → Bool)
    (device : D) (end : ℕ) : Type 0 where
  pub file : contents device ≡ at_rest (recovered (contents device))
  pub short : AreShort (recovered (contents device))
  pub gate : end ≡ length (frames (recovered (contents device)))
  pub durable : LeavesJust (contents device) (may_leave device)
  pub unfailed : has_failed device ≡ false

-- if the journal is open, its file is settled
abbrev pub IsSound : {D : Type 0} → (D → List ℕ) → (D → List ℕ → Type 0) → (D → Bool) → Journal D → Type 0
IsSound contents may_leave has_failed journal =
    journal.is_open ≡ true → IsSettled contents may_leave has_failed journal.device journal.end

-- The journal is open, its file is settled, and it stands for these texts.
pub record StandsFor {D : Type 0} (contents : D → List ℕ) (may_leave : D → List ℕ → Type 0) (has_failed : D → Bool)
    (journal : Journal D) (texts : List (List ℕ)) : Type 0 where
  pub ready : journal.is_open ≡ true
  pub settled : IsSettled contents may_leave has_failed journal.device journal.end
  pub texts_are : recovered (contents journal.device) ≡ texts

-- one frame or more, and a closed gate behind them
pub record IsBatch (bytes : List ℕ) : Type 0 where
  pub spelled : bytes ≡ at_rest (recovered bytes)
  pub short : AreShort (recovered bytes)
  pub behind : List ℕ
  pub starts : bytes ≡ 1 ∷ behind

-- the parts of a journal, by name for other crates
abbrev pub device_of : {D : Type 0} → Journal D → D
device_of journal = journal.device

abbrev pub end_at : {D : Type 0} → Journal D → ℕ
end_at journal = journal.end

abbrev pub takes_more : {D : Type 0} → Journal D → Bool
takes_more journal = journal.is_open
