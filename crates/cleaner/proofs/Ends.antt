-- The places that a pass still has to treat.
use Rattle.std.proofs.Common.{◌≡◌, ℕ, ◌+◌, ◌≤◌, true, List, [], ◌∷◌, length, drop, refl, sym, ap, subst, inl, inr}
use Rattle.std.proofs.Common.{arith}
use Rattle.std.specs.Prelude.{◌↔◌, Option, IsSome, unwrap_or}
use Rattle.std.specs.List.{AllByRecursion}
use Rattle.std.proofs.lemmas.Bool.{eqb-true, eq-eqb}
use Rattle.std.proofs.lemmas.List.{length-drop, drop_all}
use Rattle.entry.specs.declared.entry.Entry.{Entry}
use Rattle.entry.specs.Bag.{IsAmong}
use Rattle.entry.specs.Format.{spelling}
use Rattle.places.specs.declared.place.Place.{Place}
use Rattle.images.specs.Image.{Image}
use Rattle.images.specs.Sorted.{IsWhole, segment_of}
use Rattle.cleaner.specs.declared.pass.Cursor.{Cursor}
use Rattle.cleaner.specs.declared.pass.Pass.{Pass}
use Rattle.cleaner.specs.Passes.{images_in, survivor_ids, AreVictims, rest_of, is_at_end, places_on, IsAhead}
use Rattle.cleaner.specs.Passes.{IsCursorAt, IsPass}
use Rattle.cleaner.specs.Laws.{AreSameAt}
use Rattle.cleaner.proofs.Places.{place_at, on_data, on_same, on_segment, among_drop}
use Rattle.cleaner.proofs.Reading.{ahead_data}

pub rest_same : (images again : ℕ → List Entry) (p : Pass) → AreSameAt images again p.victims
    → rest_of again p ≡ rest_of images p
rest_same images again p same =
    on_same images again (drop p.cursor.victim p.victims) p.cursor.at
    (λ s m. same s (among_drop p.cursor.victim p.victims s m))

pub cursor_same : (seed : List ℕ) (images again : ℕ → List Entry) (ids : List ℕ) (cursor : Cursor)
    → AreSameAt images again ids → IsCursorAt seed images ids cursor → IsCursorAt seed again ids cursor
cursor_same seed images again [] cursor same is = tt
cursor_same seed images again (s ∷ ids) cursor same is =
    subst (λ (es : List Entry). IsAhead seed es cursor.at cursor.ahead) (sym (same s (inl refl))) is

pub cursor_agrees : (seed : List ℕ) (images again : ℕ → List Entry) (p : Pass) → AreSameAt images again p.victims
    → IsCursorAt seed images (drop p.cursor.victim p.victims) p.cursor
    → IsCursorAt seed again (drop p.cursor.victim p.victims) p.cursor
cursor_agrees seed images again p same is =
    cursor_same seed images again (drop p.cursor.victim p.victims) p.cursor
    (λ s m. same s (among_drop p.cursor.victim p.victims s m)) is

-- victims that are found as before
victims_agree : (images again : List Image) (survivor : ℕ) (ids : List ℕ)
    → ((s : ℕ) → IsAmong s ids → segment_of again s ≡ segment_of images s) → AreVictims images survivor ids
    → AreVictims again survivor ids
victims_agree images again survivor [] same all = tt
victims_agree images again survivor (s ∷ ids) same all = (
  (subst (λ (o : Option (List Entry)). IsSome o) (sym (same s (inl refl))) all.0.0, all.0.1),
  victims_agree images again survivor ids (λ t m. same t (inr m)) all.1,
)

pub pass_agrees : (seed : List ℕ) (images again : List Image) (p : Pass) → IsPass seed images p
    → ((s : ℕ) → IsAmong s p.victims → segment_of again s ≡ segment_of images s)
    → AllByRecursion (IsWhole again) (survivor_ids p.survivors)
    → IsPass seed again p × (rest_of (images_in again) p ≡ rest_of (images_in images) p)
pass_agrees seed images again p pass same whole =
    let all : AreSameAt (images_in images) (images_in again) p.victims = λ s m.
    ap (λ (o : Option (List Entry)). unwrap_or o []) (same s m) in (
      record {
        victims = victims_agree images again p.survivors.first p.victims same pass.victims;
        whole = whole;
        numbers = pass.numbers;
        within = pass.within;
        cursor = cursor_agrees seed (images_in images) (images_in again) p all pass.cursor;
      },
      rest_same (images_in images) (images_in again) p all,
    )

pub rest_segment : (images : ℕ → List Entry) (p : Pass) (place : Place) → IsAmong place (rest_of images p)
    → IsAmong place.segment p.victims
rest_segment images p place m =
    among_drop p.cursor.victim p.victims place.segment
    (on_segment images (drop p.cursor.victim p.victims) p.cursor.at place m)

-- ---- the end

pub end_none : (images : ℕ → List Entry) (p : Pass) → is_at_end p ≡ true → rest_of images p ≡ []
end_none images p is =
    let past : length p.victims ≤ p.cursor.victim =
    omega (arith, eqb-true p.cursor.victim (length p.victims) is) in
    ap (λ (ids : List ℕ). places_on images ids p.cursor.at) (drop_all p.cursor.victim p.victims past)

not_none : {X : Type 0} (x : X) (xs ys : List X) → ys ≡ x ∷ xs → ys ≡ [] → ⊥
not_none x xs ys some none = absurd (cc)

-- where a segment is left, a place is left
none_left : (seed : List ℕ) (images : ℕ → List Entry) (ids : List ℕ) (cursor : Cursor)
    → IsCursorAt seed images ids cursor → places_on images ids cursor.at ≡ [] → ids ≡ []
none_left seed images [] cursor is none = refl
none_left seed images (s ∷ ids) cursor is none =
    let at = cursor.at in
    let there = ahead_data seed (images s) at cursor.ahead is in
    absurd (not_none (place_at s at) (places_on images (s ∷ ids) (at + length (spelling there.0)))
    (places_on images (s ∷ ids) at)
    (on_data images s ids at there.0 there.1 there.2) none)

pub none_end : (seed : List ℕ) (images : List Image) (p : Pass) → IsPass seed images p
    → rest_of (images_in images) p ≡ [] → is_at_end p ≡ true
none_end seed images p pass none =
    let left = none_left seed (images_in images) (drop p.cursor.victim p.victims) p.cursor pass.cursor none in
    eq-eqb p.cursor.victim (length p.victims)
    (omega (arith, pass.within, length-drop p.cursor.victim p.victims, ap length left))

pub end_is_none : (seed : List ℕ) (images : List Image) (p : Pass) → IsPass seed images p
    → (is_at_end p ≡ true) ↔ (rest_of (images_in images) p ≡ [])
end_is_none seed images p pass = (end_none (images_in images) p, none_end seed images p pass)
