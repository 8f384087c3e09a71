-- An object is loaded.
use Rattle.std.proofs.Common.{◌≡◌, ℕ, ◌<◌, inl, inr, List, [], ◌∷◌, ◌++◌, length, refl, sym, ap, subst, ◌∙◌}
use Rattle.std.proofs.Common.{append_assoc, arith}
use Rattle.std.specs.Prelude.{Some, None}
use Rattle.entry.specs.declared.key.Key.{Key}
use Rattle.entry.specs.declared.entry.Object.{Object as ObjectValue}
use Rattle.entry.specs.declared.entry.Entry.{Entry}
use Rattle.entry.specs.declared.entry.Entry.TheVariants.{Object, Tombstone}
use Rattle.entry.specs.Bag.{IsAmong}
use Rattle.entry.specs.Meaning.{Contents, IsOfKey, among, versioned}
use Rattle.entry.specs.Tablet.{have_key}
use Rattle.entry.proofs.BagLemmas.{among_either, among_push}
use Rattle.versioned_map.specs.Represents.{Represents}
use Rattle.versioned_map.specs.Versioned.{with_contents}
use Rattle.versioned_map.proofs.Keys.{at_key, at_other}
use Rattle.log_bytes.specs.log_laws.Adopt.{with_loaded}
use Rattle.log_bytes.specs.log_laws.Heads.{Start, LogUnit, entries_of}
use Rattle.log_bytes.proofs.log_laws.Fronts.{unit_entries}
use Rattle.log_bytes.proofs.log_laws.IdLists.{below_at}
use Rattle.log_bytes.proofs.log_laws.LoadedObjects.{loaded_is_represented}
use Rattle.log_bytes.specs.log_laws.Loading.{HasOnly}
use Rattle.log_bytes.specs.log_laws.Memory.{Index, LogSet, copied}
use Rattle.log_bytes.specs.log_laws.ImageSteps.{with_place, next_place}
use Rattle.log_bytes.specs.log_laws.Tracked.{IsTracked, IsAround}
use Rattle.log_bytes.proofs.log_laws.AddedEntries.{added_copied, object_added}
use Rattle.log_bytes.proofs.log_laws.IndexPlaces.{place_set}
use Rattle.log_bytes.proofs.log_laws.ImageLists.{grown_out}
use Rattle.log_bytes.proofs.log_laws.LogSetChanges.{told_in, texts_changed}
use Rattle.log_bytes.proofs.log_laws.Premises.{IsAdded, IsSet}
use Rattle.log_bytes.proofs.log_laws.TrackedBags.{of_same}
use Rattle.log_bytes.specs.log_laws.Text.{Text}
use Rattle.log_bytes.specs.log_laws.Shown.{Shown}
use Rattle.log_bytes.specs.log_laws.Data.{front_entries, Calm, Repairs, FailData, new_of}
use Rattle.log_bytes.specs.log_laws.Log.{Texts, IsBase, AreOfTablets, IsLogHeld}
use Rattle.log_bytes.specs.log_laws.Steps.{texts_appended, IsKnown}
use Rattle.log_bytes.proofs.log_laws.Adopting.{opening_held, opening_is_apart}
use Rattle.log_bytes.proofs.log_laws.Appending.{appended_is_held}
use Rattle.log_bytes.proofs.log_laws.Images.{base_out}
use Rattle.log_bytes.proofs.log_laws.KnownSteps.{appended_known}
use Rattle.log_bytes.proofs.log_laws.States.{whole_front}
use Rattle.log_bytes.proofs.log_laws.Texts.{base_moves, at_text, variant_back}
use Rattle.log_memory.specs.Intact.{AreRepaired}
use Rattle.log_memory.specs.Loading.{with_object, object_loaded, MayLoad, IsLoading, LoadKeeps}
use Rattle.log_memory.specs.Memory.{FailMemory, entries_in, log_set_of, AreImages}
use Rattle.log_memory.proofs.Appending.{appended_from, appended_texted, appended_images}
use Rattle.log_memory.proofs.Ids.{in_digest, now_own, now_others}

-- what a base has some text has
pub base_told : (d : FailData) (texts : Texts) (p : Shown) → IsLogHeld d texts p → (ids : List ℕ) (base : List Entry)
    → IsBase texts ids base → (e : Entry) → IsAmong e base → (s : ℕ) × IsAmong s ids × IsAmong e (entries_in texts s)
base_told d texts p held ids base is e m =
    let from = base_out texts ids base is e m in (
      from.s,
      from.listed,
      elim from.variant as (λ _. IsAmong e (entries_in texts from.s)) [
        | inl text ↦ subst (IsAmong e) text from.has
        | inr image ↦ held.logged.images from.s from.es e image from.has
      ],
    )

module _ (d : FailData) (m : FailMemory) (p : Shown) (o : ObjectValue) (i : IsLoading d m p) (may : MayLoad d o) where
  abbrev id : ℕ
  id = d.head.start.id

  abbrev us : List LogUnit
  us = d.head.units

  abbrev unit : List Entry
  unit = Object o ∷ []

  abbrev e : FailData
  e = with_object d o

  abbrev now : Texts
  now = texts_appended d i.texts unit

  abbrev contents : Contents
  contents = d.opening.contents

  abbrev after : Contents
  after = with_contents contents o.key (Some (versioned o))

  abbrev moved : Index
  moved = with_place m.index o.key (Some (next_place m.images id))

  abbrev log : LogSet
  log = log_set_of d m i.texts

  abbrev new : LogSet
  new = log_set_of e (object_loaded d m o) now

  some : id ≡ 0 → ⊥
  some = i.real (inl may.calm)

  -- ---- texts

  unit_keys : AreOfTablets d.config unit
  unit_keys f k (inl is) at = ap (have_key d.config.tablets) (sym (of_same k (Object o) f is at)) ∙ may.key
  unit_keys f k (inr never) at = absurd never

  -- the master with the object as a unit of this record
  abbrev numbered : ℕ → FailData
  numbered number = record d {
    head = record d.head { units = us ++ record { number = number; entries = unit } ∷ [] };
  }

  numbered_held : IsLogHeld (numbered 0) now p
  numbered_held = subst (λ (number : ℕ). IsLogHeld (numbered number) now p) (ap length i.begins)
      (appended_is_held d i.texts p d.history unit i.held (record { keys = unit_keys; calm = inr may.calm }))

  held : IsLogHeld e now p
  held = opening_held (numbered 0) now p (with_loaded d.opening o) numbered_held

  known : IsKnown d p → IsKnown e p
  known was = (opening_is_apart (numbered 0) now p (with_loaded d.opening o) numbered_held
      (subst (λ (number : ℕ). IsKnown (numbered number) p) (ap length i.begins)
      (appended_known d i.texts p d.history unit i.held was))).1

  numbers : (u : LogUnit) → IsAmong u e.head.units → u.number ≡ 0
  numbers u c = elim (among_push u us (record { number = 0; entries = unit }) c) as (λ _. u.number ≡ 0) [
    | inl l ↦ i.numbers u l
    | inr is ↦ ap (λ (x : LogUnit). x.number) (sym is)
  ]

  -- ---- what they stand for

  base_before : (base : List Entry) → IsBase now d.head.start.others base → IsBase i.texts d.head.start.others base
  base_before base at = base_moves now i.texts d.head.start.others (λ s es c variant.
      variant_back i.texts now s es
      (at_text i.texts id _ s (λ same. let lt = below_at id d.head.start.others s i.held.logged.head.below c in
      omega arith)) variant)
      base at

  not_there : (base : List Entry) → IsBase i.texts d.head.start.others base → (f : Entry)
      → among (base ++ front_entries d.head (length us)) f → IsOfKey o.key f → ⊥
  not_there base at f c key = elim (among_either f base (front_entries d.head (length us)) c) as (λ _. ⊥) [
    | inl l ↦ (
        let s = base_told d i.texts p i.held d.head.start.others base at f l in
        i.only o.key s.0 f may.absent (record {
          counts = in_digest d m s.0 (now_others d.head.start s.0 i.held.logged.head.below s.1);
          among = inr s.2;
        }) key)
    | inr l ↦ i.only o.key id f may.absent (record {
      counts = in_digest d m id (now_own d.head.start some);
      among = inr (subst (λ (t : Text). IsAmong f t.entries) (sym i.held.logged.text) l);
    }) key
  ]

  longer : (base : List Entry) → (base ++ front_entries d.head (length us)) ++ unit
      ≡ base ++ front_entries e.head (length e.head.units)
  longer base =
      ap (λ (es : List Entry). (base ++ es) ++ unit) (whole_front d.head)
      ∙ append_assoc base (d.head.loaded ++ entries_of us) unit
      ∙ ap (λ (es : List Entry). base ++ es) (append_assoc d.head.loaded (entries_of us) unit)
      ∙ ap (λ (es : List Entry). base ++ (d.head.loaded ++ es)) (sym (unit_entries us 0 unit))
      ∙ ap (λ (es : List Entry). base ++ es) (sym (whole_front e.head))

  stands : (base : List Entry) → IsBase now d.head.start.others base
      → Represents d.head.start.safe (base ++ front_entries e.head (length e.head.units)) e.opening
  stands base at =
      let was = base_before base at in
      subst (λ (bag : List Entry). Represents d.head.start.safe bag e.opening) (longer base)
      (loaded_is_represented d.head.start.safe (base ++ front_entries d.head (length us)) d.opening o
      (i.stands some base was) (not_there base was) may.low)

  no_new : (n : Start) → new_of d.mode ≡ Some n → ⊥
  no_new n is = let never : None ≡ Some n = sym (ap new_of may.calm) ∙ is in cc

  -- ---- images and index

  added : IsAdded log (copied log id (Object o)) id (Object o)
  added = added_copied log id (Object o)

  changes : IsSet contents after o.key (Some (versioned o))
  changes = record {
    here = at_key contents o.key (Some (versioned o)) o.key refl;
    there = λ q other. at_other contents o.key (Some (versioned o)) q other;
  }

  -- a key that is absent then was so before, and isn't the object's
  was_absent : (k : Key) → after k ≡ None → (k ≡ o.key → ⊥) × (contents k ≡ None)
  was_absent k none =
      let other : k ≡ o.key → ⊥ =
      λ same. let e = at_key contents o.key (Some (versioned o)) k same in absurd (cc) in
      (other, sym (at_other contents o.key (Some (versioned o)) k other) ∙ none)

  only : HasOnly new after
  only k s f none l at =
      elim (added.out s f
      (told_in (copied log id (Object o)) (entries_in now) (appended_from d m i.texts i.held.logged unit) s f l))
      as (λ _. ⊥) [
        | inl a ↦ i.only k s f (was_absent k none).1 a at
        | inr w ↦ (was_absent k none).0 (sym (of_same k (Object o) f w.1 at))
      ]

  tracked : IsTracked new m.pass moved after
  tracked = texts_changed (copied log id (Object o)) (entries_in now) (appended_from d m i.texts i.held.logged unit)
      m.pass moved after
      (object_added log (copied log id (Object o)) id o added m.pass m.index moved contents after i.tracked
      (in_digest d m id (now_own d.head.start some)) (place_set m.index o.key (Some (next_place m.images id))) changes
      may.absent (λ z f l at. absurd (i.only o.key z f may.absent l at)))

  around : IsAround new m.pass after d.opening.safe d.next
  around = record {
    below = i.around.below;
    named_below = λ s t c l. elim (grown_out m.images id (Object o) s (Tombstone t) l) as (λ _. t.segment < d.next) [
      | inl a ↦ i.around.named_below s t c a
      | inr w ↦ (let never = w.1 in absurd (cc))
    ];
    versions = λ k none s f l at. absurd (only k s f none l at);
    texted = appended_texted d m i.texts i.held.logged unit i.around.texted;
  }

  images : AreImages e (object_loaded d m o) now
  images = appended_images d m i.texts i.held.logged unit refl i.images

  -- the head has no image
  repaired : AreRepaired (object_loaded d m o) now
  repaired z es k f image at l = elim (grown_out m.images id (Object o) z f l) as (λ _. IsAmong f es) [
    | inl a ↦ i.repaired z es k f image at a
    | inr w ↦ absurd (subst (λ (l : List (List Entry)). IsAmong es l) (ap i.texts.images w.0 ∙ i.held.logged.one)
        image)
  ]

  loading : IsLoading e (object_loaded d m o) p
  loading = record {
    texts = now;
    held = held;
    begins = i.begins;
    numbers = numbers;
    stands = λ _. stands;
    new = λ n is. absurd (no_new n is);
    rolling = λ n is. absurd (no_new n is);
    empty = λ none. absurd (some none);
    blank = λ none. absurd (some none);
    real = i.real;
    only = only;
    tracked = tracked;
    around = around;
    recorded = λ n is. absurd (no_new n is);
    repairs = λ is. absurd (let never : Calm ≡ Repairs = sym may.calm ∙ is in cc);
    images = images;
    repaired = repaired;
    whole = record { one = i.whole.one; failed = i.whole.failed };
    idle = record { pass = i.idle.pass; rest = i.idle.rest; commits = i.idle.commits; waiting = i.idle.waiting };
  }

pub load_keeps : LoadKeeps
load_keeps d m p o i may = (
  loading d m p o i may,
  λ was. record { log = known d m p o i may was.log; waiting = was.waiting },
)
