-- The kept entries of a segment, and that they are a segment.
use Rattle.std.proofs.Common.{◌≡◌, ℕ, ◌+◌, ◌≤◌, Bool, true, false, cond, List, [], ◌∷◌, ◌++◌, length, refl, ap, ◌∙◌}
use Rattle.std.proofs.Common.{arith}
use Rattle.std.specs.List.{AllByRecursion}
use Rattle.std.proofs.lemmas.Bool.{and_parts, and_from}
use Rattle.std.proofs.lemmas.List.{length-append}
use Rattle.entry.specs.declared.entry.Role.{Role}
use Rattle.entry.specs.declared.entry.Role.TheVariants.{Head, Survivor}
use Rattle.entry.specs.declared.entry.Entry.{Entry}
use Rattle.entry.specs.declared.entry.Entry.TheVariants as entry
use Rattle.entry.specs.Format.{spelling, IsEntry}
use Rattle.entry.specs.Text.{text_of, is_data, are_data, listed_ids, ends_with, is_rest, is_whole, IsSegment}
use Rattle.places.specs.Map.{Places}
use Rattle.compactor.specs.Kept.{kept, kept_from, kept_of}

-- ---- one more entry, which is kept or not

module _ (b : Bool) (e : Entry) where
  cond_append : (r t : List Entry) → cond b (e ∷ (r ++ t)) (r ++ t) ≡ cond b (e ∷ r) r ++ t
  cond_append r t = go b
    where
      go : (b : Bool) → cond b (e ∷ (r ++ t)) (r ++ t) ≡ cond b (e ∷ r) r ++ t
      go true = refl
      go false = refl

  cond_length : (r es : List Entry) → length (text_of r) ≤ length (text_of es)
      → length (text_of (cond b (e ∷ r) r)) ≤ length (text_of (e ∷ es))
  cond_length r es le = go b
    where
      go : (b : Bool) → length (text_of (cond b (e ∷ r) r)) ≤ length (text_of (e ∷ es))
      go true =
          omega (arith, le, length-append (spelling e) (text_of r), length-append (spelling e) (text_of es))
      go false = omega (arith, le, length-append (spelling e) (text_of es))

  cond_each : (r : List Entry) → IsEntry e → AllByRecursion IsEntry r → AllByRecursion IsEntry (cond b (e ∷ r) r)
  cond_each r is all = go b
    where
      go : (b : Bool) → AllByRecursion IsEntry (cond b (e ∷ r) r)
      go true = (is, all)
      go false = all

  cond_data : (r : List Entry) → is_data e ≡ true → are_data r ≡ true → are_data (cond b (e ∷ r) r) ≡ true
  cond_data r is all = go b
    where
      go : (b : Bool) → are_data (cond b (e ∷ r) r) ≡ true
      go true = and_from (is_data e) (are_data r) is all
      go false = all

-- ---- the kept ones

module _ (ids : List ℕ) (held : Places) (segment : ℕ) where
  abbrev Keeps : ℕ → Entry → Bool
  Keeps at e = kept ids held (record { segment = segment; at = at }) e

  abbrev From : ℕ → List Entry → List Entry
  From at es = kept_from ids held segment at es

  -- of two rows, one after the other
  pub kept_append : (at : ℕ) (xs ys : List Entry) → From at (xs ++ ys)
      ≡ From at xs ++ From (at + length (text_of xs)) ys
  kept_append at [] ys = ap (λ (n : ℕ). From n ys) (omega arith)
  kept_append at (x ∷ xs) ys =
      let next = at + length (spelling x) in
      let behind : next + length (text_of xs) ≡ at + length (text_of (x ∷ xs)) =
      omega (arith, length-append (spelling x) (text_of xs)) in
      ap (λ (r : List Entry). cond (Keeps at x) (x ∷ r) r)
      (kept_append next xs ys ∙ ap (λ (n : ℕ). From next xs ++ From n ys) behind)
      ∙ cond_append (Keeps at x) x (From next xs) (From (at + length (text_of (x ∷ xs))) ys)

  -- an entry behind others
  pub kept_push : (xs : List Entry) (x : Entry) (at : ℕ) (b : Bool) → at ≡ length (text_of xs) → Keeps at x ≡ b
      → From 0 (xs ++ x ∷ []) ≡ From 0 xs ++ cond b (x ∷ []) []
  kept_push xs x at b is keeps =
      kept_append 0 xs (x ∷ [])
      ∙ ap (λ (n : ℕ). From 0 xs ++ From n (x ∷ [])) (omega (arith, is))
      ∙ ap (λ (t : Bool). From 0 xs ++ cond t (x ∷ []) []) keeps

  pub kept_length : (at : ℕ) (es : List Entry) → length (text_of (From at es)) ≤ length (text_of es)
  kept_length at [] = omega arith
  kept_length at (e ∷ es) =
      cond_length (Keeps at e) e (From (at + length (spelling e)) es) es (kept_length (at + length (spelling e)) es)

  kept_each : (at : ℕ) (es : List Entry) → AllByRecursion IsEntry es → AllByRecursion IsEntry (From at es)
  kept_each at [] all = tt
  kept_each at (e ∷ es) all =
      cond_each (Keeps at e) e (From (at + length (spelling e)) es) all.0
      (kept_each (at + length (spelling e)) es all.1)

  kept_data : (at : ℕ) (es : List Entry) → are_data es ≡ true → are_data (From at es) ≡ true
  kept_data at [] is = refl
  kept_data at (e ∷ es) is =
      let parts = and_parts (is_data e) (are_data es) is in
      cond_data (Keeps at e) e (From (at + length (spelling e)) es) parts.0
      (kept_data (at + length (spelling e)) es parts.1)

  kept_rest : (role : Role) (s at : ℕ) (es : List Entry) → is_rest role s es ≡ true → is_rest role s (From at es) ≡ true
  kept_rest Survivor s at es is = kept_data at es is
  kept_rest Head s at [] is = absurd (cc)
  kept_rest Head s at (entry.Header h ∷ es) is = absurd (cc)
  kept_rest Head s at (entry.Safe v ∷ es) is = absurd (cc)
  kept_rest Head s at (entry.Object o ∷ es) is = absurd (cc)
  kept_rest Head s at (entry.Tombstone t ∷ es) is = absurd (cc)
  kept_rest Head s at (entry.Digest l ∷ []) is = absurd (cc)
  kept_rest Head s at (entry.Digest l ∷ entry.Header h ∷ es) is = absurd (cc)
  kept_rest Head s at (entry.Digest l ∷ entry.Digest m ∷ es) is = absurd (cc)
  kept_rest Head s at (entry.Digest l ∷ entry.Object o ∷ es) is = absurd (cc)
  kept_rest Head s at (entry.Digest l ∷ entry.Tombstone t ∷ es) is = absurd (cc)
  kept_rest Head s at (entry.Digest l ∷ entry.Safe v ∷ es) is =
      let parts = and_parts (ends_with s (listed_ids l)) (are_data es) is in
      let n = at + length (spelling (entry.Digest l)) + length (spelling (entry.Safe v)) in
      and_from (ends_with s (listed_ids l)) (are_data (From n es)) parts.0 (kept_data n es parts.1)

  kept_whole : (es : List Entry) → is_whole es ≡ true → is_whole (From 0 es) ≡ true
  kept_whole [] is = absurd (cc)
  kept_whole (entry.Header h ∷ es) is =
      kept_rest h.role h.segment (0 + length (spelling (entry.Header h))) es is
  kept_whole (entry.Digest l ∷ es) is = absurd (cc)
  kept_whole (entry.Safe v ∷ es) is = absurd (cc)
  kept_whole (entry.Object o ∷ es) is = absurd (cc)
  kept_whole (entry.Tombstone t ∷ es) is = absurd (cc)

  -- The kept entries of a segment are a segment.
  pub kept_segment : (es : List Entry) → IsSegment es → IsSegment (kept_of ids held segment es)
  kept_segment es is = record { each = kept_each 0 es is.each; order = kept_whole es is.order }
