-- The places of a segment's objects and tombstones.
use Rattle.std.proofs.Common.{◌≡◌, ℕ, zero, suc, ◌+◌, ◌≤◌, Bool, true, false, cond, List, [], ◌∷◌, ◌++◌, length, drop}
use Rattle.std.proofs.Common.{refl, sym, ap, ◌∙◌, inl, inr, append_assoc, arith}
use Rattle.std.specs.Prelude.{filter, nat_le}
use Rattle.std.proofs.lemmas.Bool.{le-leb, lt-leb}
use Rattle.std.proofs.lemmas.List.{length-append, append-nil}
use Rattle.std.proofs.lemmas.List.Elements.{filter-append}
use Rattle.entry.specs.declared.entry.Entry.{Entry}
use Rattle.entry.specs.Bag.{IsAmong}
use Rattle.entry.specs.Format.{spelling}
use Rattle.entry.specs.Text.{text_of, is_data}
use Rattle.entry.proofs.BagLemmas.{among_either}
use Rattle.entry.proofs.TextLemmas.{length_first, spelling-some}
use Rattle.segment.proofs.RowLemmas.{text_of-append}
use Rattle.places.specs.declared.place.Place.{Place}
use Rattle.compactor.specs.Places.{LiesAt}
use Rattle.cleaner.specs.Passes.{places_from, places_past, places_of, places_on}

-- the place at an offset of a segment
abbrev pub place_at : ℕ → ℕ → Place
place_at s at = record { segment = s; at = at }

pub length_last : (xs : List Entry) (x : Entry) → length (text_of (xs ++ x ∷ []))
    ≡ length (text_of xs) + length (spelling x)
length_last xs x =
    omega (
      arith,
      ap length (text_of-append xs (x ∷ [])),
      length-append (text_of xs) (text_of (x ∷ [])),
      ap length (append-nil (spelling x)),
    )

-- ---- by whether an entry is an object or a tombstone

pub from_data : (s at : ℕ) (e : Entry) (es : List Entry) (b : Bool) → is_data e ≡ b
    → places_from s at (e ∷ es)
    ≡ cond b (place_at s at ∷ places_from s (at + length (spelling e)) es) (places_from s (at + length (spelling e)) es)
from_data s at e es b is =
    ap (λ (t : Bool). cond t (place_at s at ∷ places_from s (at + length (spelling e)) es)
    (places_from s (at + length (spelling e)) es)) is

cond_append : {X : Type 0} (b : Bool) (x : X) (r t : List X) → cond b (x ∷ (r ++ t)) (r ++ t) ≡ cond b (x ∷ r) r ++ t
cond_append true x r t = refl
cond_append false x r t = refl

-- of two rows, one after the other
pub from_append : (s at : ℕ) (xs ys : List Entry)
    → places_from s at (xs ++ ys) ≡ places_from s at xs ++ places_from s (at + length (text_of xs)) ys
from_append s at [] ys = ap (λ (n : ℕ). places_from s n ys) (omega arith)
from_append s at (x ∷ xs) ys =
    let next = at + length (spelling x) in
    let behind : next + length (text_of xs) ≡ at + length (text_of (x ∷ xs)) = omega (arith, length_first x xs) in
    ap (λ (r : List Place). cond (is_data x) (place_at s at ∷ r) r)
    (from_append s next xs ys ∙ ap (λ (n : ℕ). places_from s next xs ++ places_from s n ys) behind)
    ∙ cond_append (is_data x) (place_at s at) (places_from s next xs)
    (places_from s (at + length (text_of (x ∷ xs))) ys)

-- ---- from an offset on

abbrev Past : ℕ → List Place → List Place
Past at ps = filter (λ (p : Place). nat_le at p.at) ps

past_out : (b : Bool) (at : ℕ) (p : Place) (ps : List Place) → nat_le at p.at ≡ false → Past at ps ≡ []
    → Past at (cond b (p ∷ ps) ps) ≡ []
past_out true at p ps out none = ap (λ (t : Bool). cond t (p ∷ Past at ps) (Past at ps)) out ∙ none
past_out false at p ps out none = none

past_in : (b : Bool) (at : ℕ) (p : Place) (ps : List Place) → nat_le at p.at ≡ true → Past at ps ≡ ps
    → Past at (cond b (p ∷ ps) ps) ≡ cond b (p ∷ ps) ps
past_in true at p ps within same =
    ap (λ (t : Bool). cond t (p ∷ Past at ps) (Past at ps)) within ∙ ap (λ (qs : List Place). p ∷ qs) same
past_in false at p ps within same = same

-- none of those that begin before it
all_before : (s at n : ℕ) (es : List Entry) → n + length (text_of es) ≤ at → Past at (places_from s n es) ≡ []
all_before s at n [] le = refl
all_before s at n (e ∷ es) le =
    let len = length_first e es in
    let some = spelling-some e in
    past_out (is_data e) at (place_at s n) (places_from s (n + length (spelling e)) es)
    (lt-leb at n (omega arith)) (all_before s at (n + length (spelling e)) es (omega arith))

-- all of those that begin there or behind it
all_past : (s at n : ℕ) (es : List Entry) → at ≤ n → Past at (places_from s n es) ≡ places_from s n es
all_past s at n [] le = refl
all_past s at n (e ∷ es) le =
    past_in (is_data e) at (place_at s n) (places_from s (n + length (spelling e)) es) (le-leb at n le)
    (all_past s at (n + length (spelling e)) es (omega arith))

-- those of the entries from the offset on
pub past_cut : (s at : ℕ) (es before rest : List Entry) → es ≡ before ++ rest → at ≡ length (text_of before)
    → places_past s at es ≡ places_from s at rest
past_cut s at es before rest split offset =
    let there : 0 + length (text_of before) ≡ at = omega (arith, offset) in
    ap (λ (xs : List Entry). Past at (places_from s 0 xs)) split
    ∙ ap (Past at) (from_append s 0 before rest)
    ∙ filter-append (λ (p : Place). nat_le at p.at) (places_from s 0 before)
    (places_from s (0 + length (text_of before)) rest)
    ∙ ap (λ (ps : List Place). ps ++ Past at (places_from s (0 + length (text_of before)) rest))
    (all_before s at 0 before (omega (arith, offset)))
    ∙ ap (λ (n : ℕ). Past at (places_from s n rest)) there
    ∙ all_past s at at rest (omega arith)

-- from the start on, all
pub past_start : (s : ℕ) (es : List Entry) → places_past s 0 es ≡ places_from s 0 es
past_start s es = all_past s 0 0 es (omega arith)

-- the entries from a victim's start on
pub on_start : (images : ℕ → List Entry) (ids : List ℕ) → places_on images ids 0 ≡ places_of images ids
on_start images [] = refl
on_start images (s ∷ ids) = ap (λ (ps : List Place). ps ++ places_of images ids) (past_start s (images s))

-- ---- whose they are

-- what is among a list that begins with one more, or not
among_cond : (b : Bool) (q p : Place) (ps : List Place) → IsAmong p (cond b (q ∷ ps) ps) → IsAmong p (q ∷ ps)
among_cond true q p ps m = m
among_cond false q p ps m = inr m

from_segment : (s at : ℕ) (es : List Entry) (p : Place) → IsAmong p (places_from s at es) → p.segment ≡ s
from_segment s at [] p m = absurd m
from_segment s at (e ∷ es) p m =
    let next = places_from s (at + length (spelling e)) es in
    elim (among_cond (is_data e) (place_at s at) p next m) as (λ _. p.segment ≡ s) [
      | inl is ↦ sym (ap (λ (q : Place). q.segment) is)
      | inr n ↦ from_segment s (at + length (spelling e)) es p n
    ]

among_past : (at : ℕ) (ps : List Place) (p : Place) → IsAmong p (Past at ps) → IsAmong p ps
among_past at [] p m = m
among_past at (q ∷ qs) p m =
    elim (among_cond (nat_le at q.at) q p (Past at qs) m) as (λ _. IsAmong p (q ∷ qs)) [
      | inl is ↦ inl is
      | inr n ↦ inr (among_past at qs p n)
    ]

pub of_segment : (images : ℕ → List Entry) (ids : List ℕ) (p : Place) → IsAmong p (places_of images ids)
    → IsAmong p.segment ids
of_segment images [] p m = m
of_segment images (s ∷ ids) p m =
    elim (among_either p (places_from s 0 (images s)) (places_of images ids) m) as (λ _. IsAmong p.segment (s ∷ ids)) [
      | inl here ↦ inl (sym (from_segment s 0 (images s) p here))
      | inr later ↦ inr (of_segment images ids p later)
    ]

pub on_segment : (images : ℕ → List Entry) (ids : List ℕ) (at : ℕ) (p : Place) → IsAmong p (places_on images ids at)
    → IsAmong p.segment ids
on_segment images [] at p m = m
on_segment images (s ∷ ids) at p m =
    elim (among_either p (places_past s at (images s)) (places_of images ids) m) as (λ _. IsAmong p.segment (s ∷ ids)) [
      | inl here ↦ inl (sym (from_segment s 0 (images s) p (among_past at (places_from s 0 (images s)) p here)))
      | inr later ↦ inr (of_segment images ids p later)
    ]

-- ---- images that agree

pub of_same : (images again : ℕ → List Entry) (ids : List ℕ) → ((s : ℕ) → IsAmong s ids → again s ≡ images s)
    → places_of again ids ≡ places_of images ids
of_same images again [] same = refl
of_same images again (s ∷ ids) same =
    ap (λ (es : List Entry). places_from s 0 es ++ places_of again ids) (same s (inl refl))
    ∙ ap (λ (ps : List Place). places_from s 0 (images s) ++ ps) (of_same images again ids (λ t m. same t (inr m)))

pub on_same : (images again : ℕ → List Entry) (ids : List ℕ) (at : ℕ)
    → ((s : ℕ) → IsAmong s ids → again s ≡ images s) → places_on again ids at ≡ places_on images ids at
on_same images again [] at same = refl
on_same images again (s ∷ ids) at same =
    ap (λ (es : List Entry). places_past s at es ++ places_of again ids) (same s (inl refl))
    ∙ ap (λ (ps : List Place). places_past s at (images s) ++ ps) (of_same images again ids (λ t m. same t (inr m)))

-- what is left of a list
pub among_drop : {X : Type 0} (n : ℕ) (xs : List X) (x : X) → IsAmong x (drop n xs) → IsAmong x xs
among_drop zero xs x m = m
among_drop (suc n) [] x m = m
among_drop (suc n) (y ∷ ys) x m = inr (among_drop n ys x m)

-- ---- an object or a tombstone at the offset

-- the first of the places is its own, and the others begin behind it
pub past_data : (es : List Entry) (s at : ℕ) (e : Entry) → LiesAt es at e → is_data e ≡ true
    → places_past s at es ≡ place_at s at ∷ places_past s (at + length (spelling e)) es
past_data es s at e lies is =
    let behind : at + length (spelling e) ≡ length (text_of (lies.before ++ e ∷ [])) =
    omega (arith, lies.offset, length_last lies.before e) in
    past_cut s at es lies.before (e ∷ lies.after) lies.split lies.offset
    ∙ from_data s at e lies.after true is
    ∙ ap (λ (ps : List Place). place_at s at ∷ ps)
    (sym (past_cut s (at + length (spelling e)) es (lies.before ++ e ∷ []) lies.after
    (lies.split ∙ sym (append_assoc lies.before (e ∷ []) lies.after)) behind))

pub on_data : (images : ℕ → List Entry) (s : ℕ) (ids : List ℕ) (at : ℕ) (e : Entry) → LiesAt (images s) at e
    → is_data e ≡ true
    → places_on images (s ∷ ids) at ≡ place_at s at ∷ places_on images (s ∷ ids) (at + length (spelling e))
on_data images s ids at e lies is =
    ap (λ (ps : List Place). ps ++ places_of images ids) (past_data (images s) s at e lies is)
