-- Where the images of a master grow, an index finds the same objects at the same places, by entries too.
use Rattle.std.proofs.Common.{◌≡◌, ℕ, true, List, ◌∷◌, ◌++◌, refl, sym, ap, ◌∙◌, append_assoc}
use Rattle.std.specs.Prelude.{Option, Some, None}
use Rattle.std.specs.Option.{option_map}
use Rattle.entry.specs.declared.key.Key.{Key}
use Rattle.entry.specs.declared.entry.Entry.{Entry}
use Rattle.entry.specs.Meaning.{Versioned, object_at}
use Rattle.master_core.specs.log_laws.Memory.{Place as EntryPlace}
use Rattle.places.specs.declared.place.Place.{Place}
use Rattle.places.specs.Relocation.{names}
use Rattle.places.proofs.Words.{named_found, found_named}
use Rattle.master_core.specs.compactor.Places.{LiesAt, IsAtPlace, keys_in}
use Rattle.master_core.specs.master_state.Data.{MasterData}
use Rattle.master_core.specs.master_state.Index.{LiesFound}
use Rattle.master_core.specs.master_state.Invariant.{IsCore}
use Rattle.master_core.specs.master_state.Log.{images_of, find, state_now, entry_place, memory_of}
use Rattle.master_core.proofs.master_state.Finding.{each_of, found_place}
use Rattle.master_core.proofs.master_state.Indexing.{Grow, key_seen}
use Rattle.master.proofs.KeptByEntries.{position_is}

-- an entry stays where it is if there is more behind
pub lies_on : (image longer more : List Entry) (at : ℕ) (e : Entry) → longer ≡ image ++ more → LiesAt image at e
    → LiesAt longer at e
lies_on image longer more at e is l = record {
  before = l.before;
  after = l.after ++ more;
  split = is ∙ ap (λ (es : List Entry). es ++ more) l.split ∙ append_assoc l.before (e ∷ l.after) more;
  offset = l.offset;
}

-- nothing is found of a key that has none
pub no_place : (d : MasterData) → IsCore d → (k : Key) → (state_now d).contents k ≡ None → find d k ≡ None
no_place d core k none = go (find d k) ((state_now d).contents k) refl none (core.index.lies k) where
  go : (f : Option Place) (x : Option Versioned) → find d k ≡ f → x ≡ None
      → LiesFound (images_of d) k f x → find d k ≡ None
  go None x is none lies = is
  go (Some q) None is none lies = absurd lies
  go (Some q) (Some v) is none lies = absurd (cc)

module _ (d x : MasterData) (core : IsCore d) (core_then : IsCore x)
    (same : (k : Key) → (state_now x).contents k ≡ (state_now d).contents k)
    (grow : Grow (images_of d) (images_of x)) where
  lies_then : (u : Place) (e : Entry) → IsAtPlace (images_of d) u e → IsAtPlace (images_of x) u e
  lies_then u e l = lies_on (images_of d u.segment) (images_of x u.segment) (grow u.segment).0 u.at e
      (grow u.segment).1 l

  pub place_then : (u : Place) (e : Entry) → IsAtPlace (images_of d) u e → entry_place x u ≡ entry_place d u
  unfolding lies_then lies_on
  place_then u e l =
      let now = position_is (images_of x u.segment) u.at e (each_of x core_then u.segment) (lies_then u e l) in
      let was = position_is (images_of d u.segment) u.at e (each_of d core u.segment) l in
      λ i. record { segment = u.segment; position = (now ∙ sym was) i }

  -- what is found is found again where it is still named
  pub index_then : (k : Key) → ((u : Place) → keys_in (images_of d) u ≡ Some k
      → names d.index k u ≡ true → names x.index k u ≡ true) → (memory_of x).index k ≡ (memory_of d).index k
  index_then k named = go ((state_now d).contents k) refl where
    go : (v : Option Versioned) → (state_now d).contents k ≡ v
        → option_map (entry_place x) (find x k) ≡ option_map (entry_place d) (find d k)
    go None none =
        ap (option_map (entry_place x)) (no_place x core_then k (same k ∙ none))
        ∙ ap (option_map (entry_place d)) (sym (no_place d core k none))
    go (Some v) has =
        let at = found_place d core k v has in
        let key = key_seen (images_of d) (each_of d core) at.0 k v at.2 in
        let was = found_named (keys_in (images_of d)) k at.0 d.index core.index.kept at.1 in
        let now = named_found (keys_in (images_of x)) k at.0
        (key_seen (images_of x) (each_of x core_then) at.0 k v (lies_then at.0 (object_at k v) at.2))
        x.index core_then.index.kept (named at.0 key was) in
        ap (option_map (entry_place x)) now ∙ ap (λ (p : EntryPlace). Some p) (place_then at.0 (object_at k v) at.2)
        ∙ ap (option_map (entry_place d)) (sym at.1)
