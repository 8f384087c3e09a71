-- Sums of live bytes, entry by entry.
use Rattle.std.proofs.Common.{◌≡◌, ℕ, ◌+◌, ◌<◌, ◌≤◌, Bool, true, false, cond, ◌&&◌, List, [], ◌∷◌, ◌++◌, length, refl}
use Rattle.std.proofs.Common.{ap, ◌∙◌, arith, if◌then◌else◌}
use Rattle.std.specs.Prelude.{filter}
use Rattle.std.proofs.lemmas.List.{length-append}
use Rattle.entry.specs.declared.key.Key.{Key}
use Rattle.entry.specs.declared.entry.Object.{Object}
use Rattle.entry.specs.declared.entry.Entry.{Entry}
use Rattle.entry.specs.declared.entry.Entry.TheVariants as entry
use Rattle.entry.specs.Format.{spelling}
use Rattle.entry.specs.Text.{text_of, is_data}
use Rattle.entry.proofs.TextLemmas.{length_first, spelling-some}
use Rattle.places.specs.declared.place.Place.{Place}
use Rattle.places.specs.Map.{Places}
use Rattle.places.specs.Relocation.{names}
use Rattle.compactor.specs.Kept.{kept, kept_from}
use Rattle.compactor.specs.Places.{LiesAt}
use Rattle.tally.specs.Live.{live_one, live_from, live_bytes, stone_one, stone_bytes}
use Rattle.tally.specs.Laws.{KeptIsBoth}

-- ---- what is kept is both

kept_one : (b t : Bool) (e : Entry) (r : List Entry) → is_data e ≡ b
    → length (text_of (filter is_data (cond t (e ∷ r) r)))
    ≡ cond (b && t) (length (spelling e)) 0 + length (text_of (filter is_data r))
kept_one true true e r is =
    ap (λ (c : Bool). length (text_of (cond c (e ∷ filter is_data r) (filter is_data r)))) is
    ∙ length-append (spelling e) (text_of (filter is_data r))
kept_one false true e r is =
    ap (λ (c : Bool). length (text_of (cond c (e ∷ filter is_data r) (filter is_data r)))) is ∙ omega arith
kept_one true false e r is = omega arith
kept_one false false e r is = omega arith

one_is_both : (ids : List ℕ) (held : Places) (p : Place) (e : Entry)
    → cond (is_data e && kept ids held p e) (length (spelling e)) 0 ≡ live_one held p e + stone_one ids e
one_is_both ids held p (entry.Header h) = omega arith
one_is_both ids held p (entry.Digest l) = omega arith
one_is_both ids held p (entry.Safe v) = omega arith
one_is_both ids held p (entry.Object o) = omega arith
one_is_both ids held p (entry.Tombstone t) = omega arith

both_from : (ids : List ℕ) (held : Places) (segment at : ℕ) (es : List Entry)
    → length (text_of (filter is_data (kept_from ids held segment at es)))
    ≡ live_from held segment at es + stone_bytes ids es
both_from ids held segment at [] = omega arith
both_from ids held segment at (e ∷ es) =
    let p : Place = record { segment = segment; at = at } in
    let one = kept_one (is_data e) (kept ids held p e) e (kept_from ids held segment (at + length (spelling e)) es)
    refl in
    let both = one_is_both ids held p e in
    let rest = both_from ids held segment (at + length (spelling e)) es in
    omega (arith, one, both, rest)

pub kept_is_both : KeptIsBoth
kept_is_both ids held segment es = both_from ids held segment 0 es

-- ---- entries behind others

pub live_append : (held : Places) (segment at : ℕ) (xs ys : List Entry) → live_from held segment at (xs ++ ys)
    ≡ live_from held segment at xs + live_from held segment (at + length (text_of xs)) ys
live_append held segment at [] ys =
    let same : at + length (text_of []) ≡ at = omega arith in
    omega (arith, ap (λ (n : ℕ). live_from held segment n ys) same)
live_append held segment at (x ∷ xs) ys =
    let next = at + length (spelling x) in
    let behind : next + length (text_of xs) ≡ at + length (text_of (x ∷ xs)) = omega (arith, length_first x xs) in
    let rest = live_append held segment next xs ys in
    let there = ap (λ (n : ℕ). live_from held segment n ys) behind in
    omega (arith, rest, there)

-- ---- other places

module _ (old new : Places) (segment : ℕ) where
  -- what is named at an offset was named there
  abbrev pub SameAt : ℕ → Type 0
  SameAt n = (q : Key) → names new q (record { segment = segment; at = n })
      ≡ names old q (record { segment = segment; at = n })

  one_same : (n : ℕ) (e : Entry) → SameAt n
      → live_one new (record { segment = segment; at = n }) e ≡ live_one old (record { segment = segment; at = n }) e
  one_same n (entry.Header h) same = refl
  one_same n (entry.Digest l) same = refl
  one_same n (entry.Safe v) same = refl
  one_same n (entry.Object o) same =
      ap (λ (b : Bool). if b then length (spelling (entry.Object o)) else 0) (same o.key)
  one_same n (entry.Tombstone t) same = refl

  -- entries between two offsets
  pub all_same : (low top at : ℕ) (xs : List Entry) → ((n : ℕ) → low ≤ n → n < top → SameAt n) → low ≤ at
      → at + length (text_of xs) ≤ top → live_from new segment at xs ≡ live_from old segment at xs
  all_same low top at [] each from to = refl
  all_same low top at (x ∷ xs) each from to =
      let first = length_first x xs in
      let some = spelling-some x in
      let here = one_same at x (each at from (omega (arith, to, first, some))) in
      let rest = all_same low top (at + length (spelling x)) xs each (omega (arith, from))
      (omega (arith, to, first)) in
      omega (arith, here, rest)

  -- one object dies
  pub one_dies : (es : List Entry) (at : ℕ) (o : Object) → LiesAt es at (entry.Object o)
      → names old o.key (record { segment = segment; at = at }) ≡ true
      → names new o.key (record { segment = segment; at = at }) ≡ false
      → ((n : ℕ) → n < length (text_of es) → (n ≡ at → ⊥) → SameAt n)
      → live_bytes old segment es ≡ live_bytes new segment es + length (spelling (entry.Object o))
  one_dies es at o s was gone others =
      let e : Entry = entry.Object o in
      let start : 0 + length (text_of s.before) ≡ at = omega (arith, s.offset) in
      let whole : length (text_of es) ≡ length (text_of (s.before ++ e ∷ s.after)) =
      ap (λ (xs : List Entry). length (text_of xs)) s.split in
      let parts = length_both s.before (e ∷ s.after) in
      let first = length_first e s.after in
      let some = spelling-some e in
      let front = all_same 0 at 0 s.before
      (λ n from to. others n (omega (arith, to, whole, parts, first, some, s.offset)) (λ is. omega (arith, to, is)))
      (omega arith) (omega (arith, s.offset)) in
      let back = all_same (at + length (spelling e)) (length (text_of es)) (at + length (spelling e)) s.after
      (λ n from to. others n to (λ is. omega (arith, from, is, some)))
      (omega arith) (omega (arith, whole, parts, first, s.offset)) in
      let old_one : live_one old (record { segment = segment; at = at }) e ≡ length (spelling e) =
      ap (λ (b : Bool). if b then length (spelling e) else 0) was in
      let new_one : live_one new (record { segment = segment; at = at }) e ≡ 0 =
      ap (λ (b : Bool). if b then length (spelling e) else 0) gone in
      let olds = ap (live_bytes old segment) s.split ∙ live_append old segment 0 s.before (e ∷ s.after) in
      let news = ap (live_bytes new segment) s.split ∙ live_append new segment 0 s.before (e ∷ s.after) in
      let old_there = ap (λ (n : ℕ). live_from old segment n (e ∷ s.after)) start in
      let new_there = ap (λ (n : ℕ). live_from new segment n (e ∷ s.after)) start in
      omega (arith, olds, news, old_there, new_there, front, back, old_one, new_one)
    where
      length_both : (xs ys : List Entry) → length (text_of (xs ++ ys)) ≡ length (text_of xs) + length (text_of ys)
      length_both [] ys = omega arith
      length_both (x ∷ xs) ys =
          omega (arith, length_first x (xs ++ ys), length_first x xs, length_both xs ys)
