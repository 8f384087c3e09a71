-- Which entries lie at the places that a pass has still to treat, and which of them are kept.
use Rattle.std.proofs.Common.{◌≡◌, ◌⊎◌, inl, inr, ℕ, ◌+◌, ◌<◌, Bool, true, false, List, [], ◌∷◌, ◌++◌, length}
use Rattle.std.proofs.Common.{drop, refl, sym, ap, subst, ◌∙◌, append_assoc}
use Rattle.std.specs.Prelude.{Some, filter, nat_le, ◌==◌}
use Rattle.std.specs.List.{AllByRecursion}
use Rattle.std.proofs.lemmas.Option.{same_Some}
use Rattle.cleaner.specs.declared.pass.Pass.{Pass}
use Rattle.cleaner.specs.Laws.{KeepsNoMore}
use Rattle.cleaner.specs.Passes.{images_in, places_from, places_of, places_on, rest_of}
use Rattle.cleaner.proofs.Keeping.{stands}
use Rattle.cleaner.proofs.Places.{length_last}
use Rattle.entry.specs.declared.entry.Entry.{Entry}
use Rattle.entry.specs.declared.entry.Entry.TheVariants as entry
use Rattle.entry.specs.declared.entry.Tombstone.{Tombstone}
use Rattle.entry.specs.Bag.{IsAmong}
use Rattle.entry.specs.Format.{IsEntry, spelling}
use Rattle.entry.specs.Text.{text_of, is_data, IsSegment}
use Rattle.entry.proofs.BagLemmas.{among_either, among_right}
use Rattle.entry.proofs.ListLemmas.{all_among}
use Rattle.segment.specs.Bytes.{standing_at}
use Rattle.places.specs.declared.place.Place.{Place}
use Rattle.places.specs.Map.{Places}
use Rattle.images.specs.Image.{Image}
use Rattle.cleaner.specs.compactor.Kept.{has_id}
use Rattle.cleaner.specs.compactor.Places.{LiesAt, IsAtPlace}

-- ---- an entry lies at each place

among_filter : {X : Type 0} (P : X → Bool) (xs : List X) (x : X) → IsAmong x (filter P xs) → IsAmong x xs
among_filter P [] x m = m
among_filter P (y ∷ ys) x m = go (P y) refl (among_filter P ys x) where
  go : (t : Bool) → P y ≡ t → (IsAmong x (filter P ys) → IsAmong x ys) → IsAmong x (y ∷ ys)
  go true is later =
      let all : (y ≡ x) ⊎ IsAmong x (filter P ys) = rw is at m in
      elim all [ inl same ↦ inl same | inr rest ↦ inr (later rest) ]
  go false is later = inr (later (rw is at m))

from_lies : (s : ℕ) (before es : List Entry) (q : Place) → IsAmong q (places_from s (length (text_of before)) es)
    → (q.segment ≡ s) × ((e : Entry) × LiesAt (before ++ es) q.at e)
from_lies s before [] q m = absurd m
from_lies s before (e ∷ es) q m = go (is_data e) refl (from_lies s (before ++ e ∷ []) es q) where
  further : (IsAmong q (places_from s (length (text_of (before ++ e ∷ []))) es) → (q.segment ≡ s)
      × ((x : Entry) × LiesAt ((before ++ e ∷ []) ++ es) q.at x))
      → IsAmong q (places_from s (length (text_of before) + length (spelling e)) es) → (q.segment ≡ s)
      × ((x : Entry) × LiesAt (before ++ e ∷ es) q.at x)
  further later rest =
      let found = later (subst (λ (at : ℕ). IsAmong q (places_from s at es)) (sym (length_last before e)) rest) in
      let lies = found.1 in (
        found.0,
        (
          lies.0,
          subst (λ (image : List Entry). LiesAt image q.at lies.0)
              (append_assoc before (e ∷ []) es) lies.1,
        ),
      )

  go : (t : Bool) → is_data e ≡ t
      → (IsAmong q (places_from s (length (text_of (before ++ e ∷ []))) es) → (q.segment ≡ s)
      × ((x : Entry) × LiesAt ((before ++ e ∷ []) ++ es) q.at x))
      → (q.segment ≡ s) × ((x : Entry) × LiesAt (before ++ e ∷ es) q.at x)
  go true is later =
      let here : Place = record { segment = s; at = length (text_of before) } in
      let all : (here ≡ q) ⊎ IsAmong q (places_from s (length (text_of before) + length (spelling e))
      es) = rw is at m in
      elim all [
        | inl same ↦ (
          ap (λ (p : Place). p.segment) (sym same),
          (e, record { before = before; after = es; split = refl; offset = ap (λ (p : Place). p.at) (sym same) }),
        )
        | inr rest ↦ further later rest
      ]
  go false is later = further later (rw is at m)

of_lies : (images : ℕ → List Entry) (ids : List ℕ) (q : Place) → IsAmong q (places_of images ids) → (e : Entry)
    × IsAtPlace images q e
of_lies images [] q m = absurd m
of_lies images (s ∷ ids) q m =
    elim (among_either q (places_from s 0 (images s)) (places_of images ids) m) [
      | inl here ↦ (let found = from_lies s [] (images s) q here in
          (found.1.0, subst (λ (z : ℕ). LiesAt (images z) q.at found.1.0) (sym found.0) found.1.1))
      | inr rest ↦ of_lies images ids q rest
    ]

on_lies : (images : ℕ → List Entry) (ids : List ℕ) (at : ℕ) (q : Place) → IsAmong q (places_on images ids at)
    → (e : Entry) × IsAtPlace images q e
on_lies images [] at q m = absurd m
on_lies images (s ∷ ids) at q m =
    elim (among_either q (filter (λ (p : Place). nat_le at p.at) (places_from s 0 (images s)))
    (places_of images ids) m) [
      | inl here ↦ (
          let found = from_lies s [] (images s) q (among_filter (λ (p : Place). nat_le at p.at)
          (places_from s 0 (images s)) q here) in
          (found.1.0, subst (λ (z : ℕ). LiesAt (images z) q.at found.1.0) (sym found.0) found.1.1))
      | inr rest ↦ of_lies images ids q rest
    ]

-- what is read at such a place is an entry of the image
module _ (images : ℕ → List Entry) (each : (s : ℕ) → AllByRecursion IsEntry (images s)) (p : Pass) (q : Place)
    (m : IsAmong q (rest_of images p)) where
  pub read_among : (e : Entry) → standing_at q.at (text_of (images q.segment)) ≡ Some e → IsAmong e (images q.segment)
  read_among e read =
      let there = on_lies images (drop p.cursor.victim p.victims) p.cursor.at q m in
      let lies = there.1 in
      let own : IsAmong there.0 (images q.segment) =
      subst (λ (image : List Entry). IsAmong there.0 image) (sym lies.split)
      (among_right there.0 lies.before (there.0 ∷ lies.after) (inl refl)) in
      let seen = stands (images q.segment) q.at there.0 (all_among IsEntry (images q.segment) there.0
      (each q.segment) own) lies in
      subst (λ (x : Entry). IsAmong x (images q.segment)) (same_Some there.0 e (sym seen ∙ read)) own

-- ---- other ids of the log set

-- If tombstones name ids below one, and no id below that one is new in the log set, no more is kept.
module _ (ids again : List ℕ) (held : Places) (images : ℕ → List Entry)
    (each : (s : ℕ) → AllByRecursion IsEntry (images s))
    (p : Pass) (unused : ℕ)
    (named : (q : Place) (t : Tombstone) → IsAmong q (rest_of images p) → IsAmong (entry.Tombstone t) (images q.segment)
    → t.segment < unused)
    (covers : (z : ℕ) → z < unused → has_id again z ≡ true → has_id ids z ≡ true) where
  pub no_more : KeepsNoMore ids again held held images (rest_of images p)
  no_more q (entry.Header h) m read is = refl
  no_more q (entry.Digest l) m read is = refl
  no_more q (entry.Safe version) m read is = refl
  no_more q (entry.Object o) m read is = is
  no_more q (entry.Tombstone t) m read is =
      covers t.segment (named q t m (read_among images each p q m (entry.Tombstone t) read)) is

-- each closed image is of entries
pub closed_each : (cs : List Image) → AllByRecursion (λ (c : Image). IsSegment c.segment) cs → (s : ℕ)
    → AllByRecursion IsEntry (images_in cs s)
closed_each [] all s = tt
closed_each (c ∷ cs) all s = go (c.id == s) refl (closed_each cs all.1 s) where
  go : (t : Bool) → (c.id == s) ≡ t → AllByRecursion IsEntry (images_in cs s)
      → AllByRecursion IsEntry (images_in (c ∷ cs) s)
  go true is rest = rw is all.0.each
  go false is rest = rw is rest
