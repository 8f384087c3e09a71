-- What the index of a core finds.
use Rattle.std.proofs.Common.{◌≡◌, ℕ, List, length, refl, sym, ap, subst, ◌∙◌}
use Rattle.std.specs.Prelude.{Option, Some, None, IfSome}
use Rattle.std.specs.List.{AllByRecursion}
use Rattle.std.proofs.lemmas.Option.{same_Some}
use Rattle.entry.specs.declared.key.Key.{Key}
use Rattle.entry.specs.declared.entry.Entry.{Entry}
use Rattle.entry.specs.declared.entry.Object.{Object}
use Rattle.entry.specs.declared.view.ObjectRef.{ObjectRef}
use Rattle.entry.specs.Format.{IsEntry}
use Rattle.entry.specs.Meaning.{Versioned, versioned, object_at}
use Rattle.entry.specs.Text.{IsSegment}
use Rattle.entry.specs.View.{shown_object}
use Rattle.places.specs.declared.place.Place.{Place}
use Rattle.places.specs.Map.{Places, found}
use Rattle.log_head.specs.declared.head.Roll.{Roll}
use Rattle.log_head.specs.Head.{HeadValue, IsHeadValue, IsRollValue}
use Rattle.images.specs.Image.{Image}
use Rattle.master_state.specs.Data.{MasterData}
use Rattle.master_state.specs.Images.{images_among}
use Rattle.cleaner.specs.compactor.Places.{IsAtPlace, object_there, keys_in}
use Rattle.master_state.specs.Index.{LiesFound, place_found, FindsObject, object_found}
use Rattle.master_state.specs.Invariant.{IsCore}
use Rattle.master_state.specs.Log.{find, Finds, images_of, IsIndexed, state_now}
use Rattle.master_state.proofs.Imaging.{each_image}
use Rattle.master_state.proofs.Indexing.{Grow, Indexes, stands_at, object_seen, index_grown}

-- each image is whole entries
pub each_among : (h : HeadValue) (cs : List Image) → IsHeadValue h
    → AllByRecursion (λ (c : Image). IsSegment c.segment) cs → (s : ℕ) → AllByRecursion IsEntry (images_among h cs s)
each_among h cs valid closed s = each_image h cs valid.segment.each (of_roll h.roll valid.roll) closed s where
  of_roll : (o : Option Roll) → IfSome o (IsRollValue h.replicas (length h.taken))
      → IfSome o (λ (r : Roll). AllByRecursion IsEntry r.image)
  of_roll None valid = tt
  of_roll (Some r) valid = valid.segment.each

pub each_of : (d : MasterData) → IsCore d → (s : ℕ) → AllByRecursion IsEntry (images_of d s)
each_of d core s = each_among d.head d.closed core.head core.segments s

pub index_of : (d : MasterData) → IsCore d → Indexes (images_of d) d.index (state_now d).contents
index_of d core = record { kept = core.index.kept; lies = core.index.lies }

-- the index of images that grew
pub index_again : (d : MasterData) (core : IsCore d) (h : HeadValue) (cs : List Image)
    → Grow (images_of d) (images_among h cs)
    → IsHeadValue h → AllByRecursion (λ (c : Image). IsSegment c.segment) cs
    → Indexes (images_among h cs) d.index (state_now d).contents
index_again d core h cs grow valid closed =
    index_grown (images_of d) (images_among h cs) grow (each_among h cs valid closed) d.index
    (state_now d).contents (index_of d core)

finds : (images : ℕ → List Entry) → ((s : ℕ) → AllByRecursion IsEntry (images s))
    → (k : Key) (f : Option Place) (x : Option Versioned)
    → LiesFound images k f x → Finds images k f x
finds images each k None None lies = tt
finds images each k None (Some x) lies = absurd lies
finds images each k (Some p) None lies = absurd lies
finds images each k (Some p) (Some x) lies = stands_at (images p.segment) p.at (object_at k x) (each p.segment) lies

pub indexed : (d : MasterData) → IsCore d → IsIndexed d
indexed d core k = finds (images_of d) (each_of d core) k (find d k) ((state_now d).contents k) (core.index.lies k)

-- a present key's object is where the index finds it
pub found_place : (d : MasterData) → IsCore d → (k : Key) (x : Versioned) → (state_now d).contents k ≡ Some x
    → (q : Place) × (find d k ≡ Some q) × IsAtPlace (images_of d) q (object_at k x)
found_place d core k x has = go (find d k) ((state_now d).contents k) refl has (core.index.lies k) where
  go : (f : Option Place) (y : Option Versioned) → find d k ≡ f → y ≡ Some x → LiesFound (images_of d) k f y
      → (q : Place) × (find d k ≡ Some q) × IsAtPlace (images_of d) q (object_at k x)
  go None None is same lies = absurd (cc)
  go None (Some v) is same lies = absurd lies
  go (Some q) None is same lies = absurd lies
  go (Some q) (Some v) is same lies = (
    q,
    is,
    subst (λ (w : Versioned). IsAtPlace (images_of d) q (object_at k w))
        (same_Some v x same) lies,
  )

-- ---- what a search finds

pub finds_place : (images : ℕ → List Entry) (hs : Places) (k : Key) (f : Option (Place × ObjectRef))
    → FindsObject images hs k f
    → place_found f ≡ found (keys_in images) k hs
finds_place images hs k None is = sym is
finds_place images hs k (Some f) is = sym is.0

-- the object that is found is what the key has
pub finds_held : (d : MasterData) → IsCore d → (k : Key) (f : Option (Place × ObjectRef))
    → FindsObject (images_of d) d.index k f
    → object_found f ≡ (state_now d).contents k
finds_held d core k None is = go (find d k) ((state_now d).contents k) is (core.index.lies k) where
  go : (p : Option Place) (x : Option Versioned) → p ≡ None → LiesFound (images_of d) k p x → None ≡ x
  go None None none lies = refl
  go None (Some x) none lies = absurd lies
  go (Some p) x none lies = absurd (cc)
finds_held d core k (Some f) is = go (find d k) ((state_now d).contents k) is.0 (core.index.lies k) where
  go : (p : Option Place) (x : Option Versioned) → p ≡ Some f.0 → LiesFound (images_of d) k p x
      → Some (versioned (shown_object f.1)) ≡ x
  go None x same lies = absurd (cc)
  go (Some p) None same lies = absurd lies
  go (Some p) (Some x) same lies =
      let o : Object = record { key = k; version = x.version; value = x.value } in
      let there : object_there (images_of d) p ≡ Some o = object_seen (images_of d) (each_of d core) p o lies in
      let here : object_there (images_of d) p ≡ Some (shown_object f.1) =
      ap (object_there (images_of d)) (same_Some p f.0 same) ∙ is.1 in
      ap (λ (q : Object). Some (versioned q)) (same_Some (shown_object f.1) o (sym here ∙ there))
