-- What the index leads to after a segment was compacted.
use Rattle.std.proofs.Common.{◌≡◌, ℕ, Bool, true, false, ◌==◌, List, refl, sym, ap, subst, ◌∙◌, if◌then◌else◌}
use Rattle.std.specs.Prelude.{Option, Some, None}
use Rattle.std.proofs.lemmas.Bool.{eqb-true}
use Rattle.std.proofs.lemmas.Option.{same_Some}
use Rattle.std.specs.Option.{option_map}
use Rattle.entry.specs.declared.key.Key.{Key}
use Rattle.entry.specs.declared.entry.Entry.{Entry}
use Rattle.entry.specs.declared.entry.Entry.TheVariants as entry
use Rattle.entry.specs.declared.entry.Object.{Object}
use Rattle.entry.specs.Meaning.{Versioned, Contents}
use Rattle.places.specs.declared.place.Place.{Place}
use Rattle.places.specs.Map.{Places, found, AreKept}
use Rattle.places.proofs.Words.{HasKey, each_told, all_then}
use Rattle.compactor.specs.Kept.{moved_at, moved_place, moved_all}
use Rattle.compactor.specs.Laws.{compacted_images, LeadsOn, CompactionFollows}
use Rattle.compactor.specs.Places.{IsAtPlace, keys_in, LieIn}
use Rattle.master_state.specs.Data.{MasterData}
use Rattle.master_state.specs.Index.{LiesFound}
use Rattle.master_state.specs.Invariant.{IsCore, IsIndex}
use Rattle.master_state.specs.Log.{images_of, find, state_now, log_set_ids}
use Rattle.master_state.specs.Steps.{compacted_data}
use Rattle.master_space.proofs.CompactedCore.{IsAdmitted, old_segment, images_then}
use Rattle.master_state.proofs.Finding.{index_of}
use Rattle.master_state.proofs.Indexing.{Indexes, found_lies}

-- at each place that an index of some contents leads to lies an object
pub held_lie : (images : ℕ → List Entry) (hs : Places) (contents : Contents)
    → Indexes images hs contents → LieIn images hs
held_lie images hs contents index =
    all_then (HasKey (keys_in images) hs) (λ (p : Place). (o : Object) × IsAtPlace images p (entry.Object o)) hs
    (λ p at.
    let k = at.0 in
    let there = found_lies images k (found (keys_in images) k hs) (contents k) (index.lies k) p at.2 in
    (record { key = k; version = there.0.version; value = there.0.value }, there.2))
    (each_told (keys_in images) hs index.kept)

-- what lay where a key was found lies where it is found then
moved_lies : (images later : ℕ → List Entry) (goes : Place → Place) (old new : Places)
    → LeadsOn images later goes old new
    → (k : Key) (f : Option Place) (x : Option Versioned) → found (keys_in images) k old ≡ f → LiesFound images k f x
    → LiesFound later k (option_map goes f) x
moved_lies images later goes old new followed k None None is lies = tt
moved_lies images later goes old new followed k None (Some x) is lies = absurd lies
moved_lies images later goes old new followed k (Some p) None is lies = absurd lies
moved_lies images later goes old new followed k (Some p) (Some x) is lies =
    followed.carries k p (record { key = k; version = x.version; value = x.value }) is lies

module _ (follows : CompactionFollows) (d : MasterData) (core : IsCore d) (id : ℕ) (is : IsAdmitted d id) where
  abbrev ids : List ℕ
  ids = log_set_ids d

  abbrev e : MasterData
  e = compacted_data d id

  pub lie_now : LieIn (images_of d) d.index
  lie_now = held_lie (images_of d) d.index (state_now d).contents (index_of d core)

  abbrev later : ℕ → List Entry
  later = compacted_images ids d.index (images_of d) id

  followed : LeadsOn (images_of d) later (moved_place ids d.index id (images_of d id)) d.index
      (moved_all ids d.index id (images_of d id))
  followed = follows ids d.index (images_of d) id (old_segment d core id is) lie_now core.index.kept

  same_images : later ≡ images_of e
  same_images = λ i s. sym (images_then d core id is s) i

  lies_then : (k : Key) → LiesFound later k (found (keys_in later) k (moved_all ids d.index id (images_of d id)))
      ((state_now d).contents k)
  lies_then k =
      subst (λ (f : Option Place). LiesFound later k f ((state_now d).contents k)) (sym (followed.finds k))
      (moved_lies (images_of d) later (moved_place ids d.index id (images_of d id)) d.index
      (moved_all ids d.index id (images_of d id))
      followed k (find d k) ((state_now d).contents k) refl (core.index.lies k))

  pub compacted_index : IsIndex (compacted_data d id)
  compacted_index = record {
    kept = subst (λ (images : ℕ → List Entry). AreKept (keys_in images) e.index) same_images followed.kept;
    lies = λ k. subst (λ (images : ℕ → List Entry). LiesFound images k (found (keys_in images) k e.index)
        ((state_now d).contents k))
        same_images (lies_then k);
    safe = core.index.safe;
  }

  abbrev goes : Place → Place
  goes = moved_place ids d.index id (images_of d id)

  -- a place that has gone to another segment has stayed
  pub stayed : (r q : Place) → (q.segment ≡ id → ⊥) → moved_place ids d.index id (images_of d id) r ≡ q → r ≡ q
  stayed r q other moved = test (r.segment == id) refl where
    test : (t : Bool) → (r.segment == id) ≡ t → r ≡ q
    test true own =
        let at : goes r ≡ record r { at = moved_at ids d.index id (images_of d id) r.at } =
        ap (λ (b : Bool). if b then record r { at = moved_at ids d.index id (images_of d id) r.at } else r) own in
        absurd (other (ap (λ (p : Place). p.segment) (sym moved ∙ at) ∙ eqb-true r.segment id own))
    test false away =
        let at : goes r ≡ r =
        ap (λ (b : Bool). if b then record r { at = moved_at ids d.index id (images_of d id) r.at } else r) away in
        sym at ∙ moved

  -- a key that is found elsewhere was found there before
  pub found_elsewhere : (k : Key) (q : Place) → find e k ≡ Some q → (q.segment ≡ id → ⊥) → find d k ≡ Some q
  found_elsewhere k q finds other = go (find d k) refl where
    follows_to : find e k ≡ option_map goes (find d k)
    follows_to =
        subst (λ (images : ℕ → List Entry). found (keys_in images) k e.index ≡ option_map goes (find d k))
        same_images (followed.finds k)

    go : (o : Option Place) → find d k ≡ o → find d k ≡ Some q
    go None is = let none = sym finds ∙ follows_to ∙ ap (option_map goes) is in absurd (cc)
    go (Some r) is =
        is ∙ ap Some (stayed r q other (same_Some (goes r) q (sym (follows_to ∙ ap (option_map goes) is) ∙ finds)))
