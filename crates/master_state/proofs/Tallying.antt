-- Tallies of a core stay right where the index and the images stay, and where a segment begins.
use Rattle.std.proofs.Common.{◌≡◌, inl, ℕ, ◌<◌, Bool, ◌==◌, ◌||◌, List, [], ◌∷◌, refl, sym, ap, subst, ◌∙◌}
use Rattle.std.specs.Prelude.{filter}
use Rattle.entry.specs.Bag.{IsAmong}
use Rattle.entry.specs.declared.entry.Entry.{Entry}
use Rattle.entry.specs.Text.{is_data}
use Rattle.log_head.specs.log_laws.Ids.{has}
use Rattle.places.specs.Map.{Places}
use Rattle.cleaner.specs.compactor.Kept.{has_id}
use Rattle.tally.specs.declared.tallies.Tally.{Tally}
use Rattle.tally.specs.Rows.{AreRight, WithOne, of_nothing}
use Rattle.tally.specs.Right.{NameSame, StaysOrBegins}
use Rattle.tally.proofs.Rights.{stay_right, begin_right}
use Rattle.master_state.specs.Data.{MasterData}
use Rattle.master_state.specs.Invariant.{NameBelow, AreTallied}
use Rattle.master_state.specs.Log.{images_of, log_set_ids}

-- ---- tests of ids

-- the test of compaction and that of the log are one
pub has_same : (ids : List ℕ) (s : ℕ) → has_id ids s ≡ has ids s
has_same [] s = refl
has_same (z ∷ ids) s = ap (λ (b : Bool). (z == s) || b) (has_same ids s)

-- ---- which tombstones name the log

-- the same ids are in both logs
pub same_ids : (ids again : List ℕ) (images : ℕ → List Entry) → ((s : ℕ) → has again s ≡ has ids s)
    → NameSame ids again images
same_ids ids again images same s t m = has_same again t.segment ∙ same t.segment ∙ sym (has_same ids t.segment)

-- of the ids that tombstones name, which are below an unused one, the same are in both logs
pub same_below : (ids again : List ℕ) (images : ℕ → List Entry) (unused : ℕ) → NameBelow images unused
    → ((s : ℕ) → s < unused → has again s ≡ has ids s) → NameSame ids again images
same_below ids again images unused below same s t m =
    has_same again t.segment ∙ same t.segment (below s t m) ∙ sym (has_same ids t.segment)

-- ---- tallies of a core

pub none_right : (ids : List ℕ) (held : Places) (images : ℕ → List Entry) (rows : List Tally) → rows ≡ []
    → AreRight ids held images rows
none_right ids held images rows none row m = absurd (subst (λ (rs : List Tally). IsAmong row rs) none m)

-- The index stays. Each image stays or begins, and the same tombstones name the log.
pub tallied_begun : (d e : MasterData) (rows : List Tally) → e.index ≡ d.index
    → ((s : ℕ) → StaysOrBegins (images_of d s) (images_of e s))
    → NameSame (log_set_ids d) (log_set_ids e) (images_of d) → AreTallied d rows → AreTallied e rows
tallied_begun d e rows index images names right =
    subst (λ (held : Places). AreRight (log_set_ids e) held (images_of e) rows) (sym index)
    (stay_right (log_set_ids d) (log_set_ids e) d.index (images_of d) (images_of e) rows images names right)

-- The index and the images stay.
pub tallied_again : (d e : MasterData) (rows : List Tally) → e.index ≡ d.index
    → ((s : ℕ) → images_of e s ≡ images_of d s)
    → NameSame (log_set_ids d) (log_set_ids e) (images_of d) → AreTallied d rows → AreTallied e rows
tallied_again d e rows index images names right = tallied_begun d e rows index (λ s. inl (images s)) names right

-- The ids of the log stay, too.
pub tallied_alike : (d e : MasterData) (rows : List Tally) → e.index ≡ d.index
    → ((s : ℕ) → images_of e s ≡ images_of d s) → log_set_ids e ≡ log_set_ids d
    → AreTallied d rows → AreTallied e rows
tallied_alike d e rows index images ids right =
    tallied_again d e rows index images
    (same_ids (log_set_ids d) (log_set_ids e) (images_of d) (λ s. ap (λ (l : List ℕ). has l s) ids)) right

-- A segment that has neither objects nor tombstones gets a tally.
pub tallied_more : (d : MasterData) (s : ℕ) (old new : List Tally) → filter is_data (images_of d s) ≡ []
    → WithOne (of_nothing s) old new → AreTallied d old → AreTallied d new
tallied_more d s old new none with right =
    begin_right (log_set_ids d) d.index (images_of d) s old new none with right
