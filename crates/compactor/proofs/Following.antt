-- How the places of an index follow the objects of a segment, entry by entry.
use Rattle.std.proofs.Common.{◌≡◌, ℕ, ◌+◌, ◌<◌, ◌≤◌, Bool, true, false, cond, ◌&&◌, ◌==◌, List, [], ◌∷◌, ◌++◌, length}
use Rattle.std.proofs.Common.{refl, sym, ap, subst, ◌∙◌, inl, inr, arith}
use Rattle.std.specs.Prelude.{Some, nat_lt}
use Rattle.std.specs.List.{AllByRecursion}
use Rattle.std.proofs.lemmas.Bool.{and_parts, and_from, and_left, and_right, ltb-true, lt-ltb, le-ltb, cases_lt}
use Rattle.std.proofs.lemmas.Bool.{eqb-true, eq-eqb}
use Rattle.segment.proofs.RowLemmas.{text_of-append}
use Rattle.std.proofs.lemmas.List.{length-append}
use Rattle.entry.specs.declared.entry.Object.{Object}
use Rattle.entry.specs.declared.entry.Entry.{Entry}
use Rattle.entry.specs.declared.entry.Entry.TheVariants as entry
use Rattle.entry.specs.Format.{spelling, IsEntry}
use Rattle.entry.specs.Text.{text_of}
use Rattle.entry.proofs.TextLemmas.{length_first, spelling-some}
use Rattle.places.specs.declared.place.Place.{Place}
use Rattle.places.specs.Map.{Places, AreKept}
use Rattle.places.specs.Relocation.{moved, goes_all}
use Rattle.places.proofs.Words.{all_then, all_of, goes_alike, goes_nowhere, moves_alike}
use Rattle.compactor.specs.Kept.{kept_of, moved_at, moved_place}
use Rattle.compactor.specs.Places.{LiesAt, IsAtPlace, keys_in, LieIn}
use Rattle.compactor.proofs.KeptEntries.{kept_length}
use Rattle.compactor.proofs.Cutting.{IsCut, before_cut}
use Rattle.compactor.proofs.StandingKeys.{key_in, key_lies}

-- ---- where entries begin

cons_same : (x y : Entry) (xs ys : List Entry) → x ∷ xs ≡ y ∷ ys → (x ≡ y) × (xs ≡ ys)
cons_same x y xs ys is = (cc, cc)

-- no entry begins within another one
one_beginning : (b c after later : List Entry) (f e : Entry) → b ++ f ∷ after ≡ c ++ e ∷ later
    → length (text_of c) ≤ length (text_of b) → length (text_of b) < length (text_of c) + length (spelling e)
    → (length (text_of b) ≡ length (text_of c)) × (f ≡ e)
one_beginning [] [] after later f e is low high = (refl, (cons_same f e after later is).0)
one_beginning [] (y ∷ ys) after later f e is low high = absurd (omega (arith, low, length_first y ys, spelling-some y))
one_beginning (x ∷ xs) [] after later f e is low high =
    let first : x ≡ e = (cons_same x e (xs ++ f ∷ after) later is).0 in
    absurd (omega (arith, high, length_first x xs, ap (λ (z : Entry). length (spelling z)) first))
one_beginning (x ∷ xs) (y ∷ ys) after later f e is low high =
    let parts = cons_same x y (xs ++ f ∷ after) (ys ++ e ∷ later) is in
    let size : length (spelling x) ≡ length (spelling y) = ap (λ (z : Entry). length (spelling z)) parts.0 in
    let rest =
    one_beginning xs ys after later f e parts.1
    (omega (arith, low, size, length_first x xs, length_first y ys))
    (omega (arith, high, size, length_first x xs, length_first y ys)) in
    (omega (arith, rest.0, size, length_first x xs, length_first y ys), rest.1)

-- ---- the places that have moved

module _ (ids : List ℕ) (held : Places) (segment : ℕ) (es : List Entry) where
  -- the place lies in the segment, before an offset
  abbrev is_passed : ℕ → Place → Bool
  is_passed cut p = (p.segment == segment) && nat_lt p.at cut

  abbrev goes : Place → Place
  goes p = moved_place ids held segment es p

  -- where a place is once the cursor is at an offset
  abbrev until : ℕ → Place → Place
  until cut p = cond (is_passed cut p) (goes p) p

  -- the places then
  abbrev pub all_until : ℕ → Places → Places
  all_until cut ps = goes_all (until cut) ps

  moved_here : (p : Place) → p.segment ≡ segment
      → goes p ≡ record p { at = moved_at ids held segment es p.at }
  moved_here p here =
      ap (λ (b : Bool). cond b (record p { at = moved_at ids held segment es p.at }) p) (eq-eqb p.segment segment here)

  passed_true : (cut : ℕ) (p : Place) → p.segment ≡ segment → p.at < cut → is_passed cut p ≡ true
  passed_true cut p here lt =
      and_from (p.segment == segment) (nat_lt p.at cut) (eq-eqb p.segment segment here) (lt-ltb p.at cut lt)

  passed_false : (cut : ℕ) (p : Place) → cut ≤ p.at → is_passed cut p ≡ false
  passed_false cut p le = and_right (p.segment == segment) (nat_lt p.at cut) (le-ltb p.at cut le)

  passed_out : (cut : ℕ) (p : Place) → (p.segment == segment) ≡ false → is_passed cut p ≡ false
  passed_out cut p out = and_left (p.segment == segment) (nat_lt p.at cut) out

  until_test : (cut : ℕ) (p : Place) (b : Bool) → is_passed cut p ≡ b → until cut p ≡ cond b (goes p) p
  until_test cut p b is = ap (λ (t : Bool). cond t (goes p) p) is

  -- a place that isn't at an entry stays as the cursor passes it
  until_same : (at next : ℕ) (p : Place) → at ≤ next → (p.segment ≡ segment → at ≤ p.at → p.at < next → ⊥)
      → until at p ≡ until next p
  until_same at next p le outside = go (p.segment == segment) refl
    where
      go : (b : Bool) → (p.segment == segment) ≡ b → until at p ≡ until next p
      go false out = until_test at p false (passed_out at p out) ∙ sym (until_test next p false (passed_out next p out))
      go true eq =
          let here : p.segment ≡ segment = eqb-true p.segment segment eq in
          elim (cases_lt p.at at) as (λ _. until at p ≡ until next p) [
            | inl before ↦ until_test at p true (passed_true at p here before)
                ∙ sym (until_test next p true (passed_true next p here (omega arith)))
            | inr behind ↦ elim (cases_lt p.at next) as (λ _. until at p ≡ until next p) [
              | inl within ↦ absurd (outside here behind within)
              | inr past ↦ until_test at p false (passed_false at p behind)
                  ∙ sym (until_test next p false (passed_false next p past))
            ]
          ]

  pub until_start : (ps : Places) → all_until 0 ps ≡ ps
  until_start ps =
      goes_nowhere (until 0) ps
      (all_of (λ (p : Place). until 0 p ≡ p) ps (λ p. until_test 0 p false (passed_false 0 p (omega arith))))

  -- ---- in images

  module _ (images : ℕ → List Entry) (is : images segment ≡ es) (all : AllByRecursion IsEntry es) where
    abbrev Lies : Place → Type 0
    Lies p = (o : Object) × IsAtPlace images p (entry.Object o)

    lies_here : (p : Place) → (l : Lies p) → p.segment ≡ segment → LiesAt es p.at (entry.Object l.0)
    lies_here p l here = subst (λ (x : List Entry). LiesAt x p.at (entry.Object l.0)) (ap images here ∙ is) l.1

    -- an entry moves to no later offset
    moved_low : (at : ℕ) (e : Entry) → LiesAt es at e → moved_at ids held segment es at ≤ at
    moved_low at e lies =
        let cut : IsCut es lies.before (e ∷ lies.after) at = record { split = lies.split; offset = lies.offset } in
        let before = before_cut es lies.before (e ∷ lies.after) at cut all in
        let same : moved_at ids held segment es at ≡ length (text_of (kept_of ids held segment lies.before)) =
        ap (λ (xs : List Entry). length (text_of (kept_of ids held segment xs))) before in
        omega (arith, same, lies.offset, kept_length ids held segment 0 lies.before)

    pub until_end : (ps : Places) → LieIn images ps → all_until (length (text_of es)) ps ≡ goes_all goes ps
    until_end ps lie =
        goes_alike (until (length (text_of es))) goes ps
        (all_then Lies (λ (p : Place). until (length (text_of es)) p ≡ goes p) ps
        (λ p lies. passes p lies (p.segment == segment) refl) lie)
      where
        passes : (p : Place) → Lies p → (b : Bool) → (p.segment == segment) ≡ b
            → until (length (text_of es)) p ≡ goes p
        passes p l false out =
            let stays : goes p ≡ p =
            ap (λ (b : Bool). cond b (record p { at = moved_at ids held segment es p.at }) p) out in
            until_test (length (text_of es)) p false (passed_out (length (text_of es)) p out) ∙ sym stays
        passes p l true eq =
            let here : p.segment ≡ segment = eqb-true p.segment segment eq in
            let lies = lies_here p l here in
            let o = l.0 in
            let whole : length (text_of es) ≡ length (text_of lies.before) + length
            (text_of (entry.Object o ∷ lies.after)) =
            ap length (ap text_of lies.split ∙ text_of-append lies.before (entry.Object o ∷ lies.after))
            ∙ length-append (text_of lies.before) (text_of (entry.Object o ∷ lies.after)) in
            let within : p.at < length (text_of es) =
            omega (
              arith,
              whole,
              lies.offset,
              length_first (entry.Object o) lies.after,
              spelling-some (entry.Object o),
            ) in
            until_test (length (text_of es)) p true (passed_true (length (text_of es)) p here within)

    -- ---- one entry

    module _ (before later : List Entry) (e : Entry) (at : ℕ) (cut : IsCut es before (e ∷ later) at) where
      abbrev next : ℕ
      next = at + length (spelling e)

      -- an object that lies within the entry lies at it
      here_alone : (p : Place) → (l : Lies p) → p.segment ≡ segment → at ≤ p.at → p.at < next
          → (p.at ≡ at) × (entry.Object l.0 ≡ e)
      here_alone p l here low high =
          let lies = lies_here p l here in
          let one =
          one_beginning lies.before before lies.after later (entry.Object l.0) e (sym lies.split ∙ cut.split)
          (omega (arith, low, cut.offset, lies.offset)) (omega (arith, high, cut.offset, lies.offset)) in
          (omega (arith, one.0, cut.offset, lies.offset), one.1)

      -- behind an entry that is no object each place is where it was
      pub until_plain : ((o : Object) → entry.Object o ≡ e → ⊥) → (ps : Places) → LieIn images ps
          → all_until at ps ≡ all_until next ps
      until_plain plain ps lie =
          goes_alike (until at) (until next) ps
          (all_then Lies (λ (p : Place). until at p ≡ until next p) ps
          (λ p l. until_same at next p (omega arith) (λ here low high. plain l.0 (here_alone p l here low high).1)) lie)

      module _ (o : Object) (object : e ≡ entry.Object o) (m : ℕ)
          (copied : m ≡ length (text_of (kept_of ids held segment before))) where
        abbrev old : Place
        old = record { segment = segment; at = at }

        abbrev to : Place
        to = record { segment = segment; at = m }

        -- its key stands at its place
        key_old : keys_in images old ≡ Some o.key
        key_old =
            ap (λ (image : List Entry). key_in image at) is
            ∙ key_lies es at o all (record {
              before = before;
              after = later;
              split = cut.split ∙ ap (λ (x : Entry). before ++ x ∷ later) object;
              offset = cut.offset;
            })

        until_other : (p : Place) → Lies p → (p ≡ old → ⊥) → until at p ≡ until next p
        until_other p l other =
            until_same at next p (omega arith)
            (λ here low high. other (λ i. record { segment = here i; at = (here_alone p l here low high).0 i }))

        not_until : (p : Place) → Lies p → (p ≡ old → ⊥) → until at p ≡ old → ⊥
        not_until p l other = go (is_passed at p) refl
          where
            go : (b : Bool) → is_passed at p ≡ b → until at p ≡ old → ⊥
            go false not same = other (sym (until_test at p false not) ∙ same)
            go true passed same =
                let parts = and_parts (p.segment == segment) (nat_lt p.at at) passed in
                let here : p.segment ≡ segment = eqb-true p.segment segment parts.0 in
                let lt : p.at < at = ltb-true p.at at parts.1 in
                let low = moved_low p.at (entry.Object l.0) (lies_here p l here) in
                let new : (goes p).at ≡ moved_at ids held segment es p.at =
                ap (λ (q : Place). q.at) (moved_here p here) in
                let there : (goes p).at ≡ at =
                ap (λ (q : Place). q.at) (sym (until_test at p true passed) ∙ same) in
                omega (arith, there, new, low, lt)

        -- the place itself stays up to there, and is passed behind it
        until_old : until at old ≡ old
        until_old = until_test at old false (passed_false at old (omega arith))

        until_new : until next old ≡ to
        until_new =
            let offset : moved_at ids held segment es at ≡ m =
            ap (λ (xs : List Entry). length (text_of (kept_of ids held segment xs)))
            (before_cut es before (e ∷ later) at cut all)
            ∙ sym copied in
            until_test next old true (passed_true next old refl (omega (arith, spelling-some e)))
            ∙ moved_here old refl
            ∙ ap (λ (n : ℕ). record old { at = n }) offset

        pub until_object : (ps : Places) → LieIn images ps → AreKept (keys_in images) ps
            → moved (all_until at ps) o.key old to ≡ all_until next ps
        until_object ps lie kept =
            moves_alike (keys_in images) (until at) (until next) o.key old to key_old until_old until_new ps kept
            (all_then Lies (λ (p : Place). (p ≡ old → ⊥) → (until at p ≡ until next p) × (until at p ≡ old → ⊥)) ps
            (λ p l other. (until_other p l other, not_until p l other)) lie)
