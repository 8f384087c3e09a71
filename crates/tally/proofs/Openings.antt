-- What is kept of a segment is its opening, and what is kept of its objects and tombstones.
use Rattle.std.proofs.Common.{◌≡◌, ℕ, ◌+◌, Bool, true, false, cond, List, [], ◌∷◌, length, refl, sym, ap, ◌∙◌}
use Rattle.std.proofs.Common.{arith}
use Rattle.std.specs.Prelude.{filter}
use Rattle.std.proofs.lemmas.Bool.{and_parts}
use Rattle.entry.specs.declared.entry.Role.{Role}
use Rattle.entry.specs.declared.entry.Role.TheVariants.{Head, Survivor}
use Rattle.entry.specs.declared.entry.Entry.{Entry}
use Rattle.entry.specs.declared.entry.Entry.TheVariants as entry
use Rattle.entry.specs.Format.{spelling}
use Rattle.entry.specs.Text.{text_of, is_data, are_data, listed_ids, ends_with, is_rest, is_whole, IsSegment}
use Rattle.entry.proofs.TextLemmas.{length_first}
use Rattle.places.specs.Map.{Places}
use Rattle.compactor.specs.Kept.{kept, kept_from, kept_of}
use Rattle.tally.specs.Fills.{kept_len}
use Rattle.tally.specs.Opening.{front_of}

-- an object or a tombstone more, which is kept or not
data_more : (b : Bool) (e : Entry) (r : List Entry) → is_data e ≡ true
    → length (text_of r) ≡ length (text_of (filter is_data r))
    → length (text_of (cond b (e ∷ r) r)) ≡ length (text_of (filter is_data (cond b (e ∷ r) r)))
data_more false e r is same = same
data_more true e r is same =
    let both : length (text_of (e ∷ r)) ≡ length (text_of (e ∷ filter is_data r)) =
    omega (arith, same, length_first e r, length_first e (filter is_data r)) in
    both
    ∙ ap (λ (c : Bool). length (text_of (cond c (e ∷ filter is_data r) (filter is_data r)))) (sym is)

no_front : (es : List Entry) → are_data es ≡ true → front_of es ≡ []
no_front [] is = refl
no_front (e ∷ es) is =
    ap (λ (c : Bool). cond c [] (e ∷ front_of es)) (and_parts (is_data e) (are_data es) is).0

module _ (ids : List ℕ) (held : Places) (segment : ℕ) where
  -- the bytes of what is kept from an offset on
  abbrev All : ℕ → List Entry → ℕ
  All at es = length (text_of (kept_from ids held segment at es))

  -- those of its objects and tombstones
  abbrev Data : ℕ → List Entry → ℕ
  Data at es = length (text_of (filter is_data (kept_from ids held segment at es)))

  abbrev Front : List Entry → ℕ
  Front es = length (text_of (front_of es))

  data_only : (at : ℕ) (es : List Entry) → are_data es ≡ true → All at es ≡ Data at es
  data_only at [] is = refl
  data_only at (e ∷ es) is =
      let parts = and_parts (is_data e) (are_data es) is in
      let next = at + length (spelling e) in
      data_more (kept ids held (record { segment = segment; at = at }) e) e (kept_from ids held segment next es) parts.0
      (data_only next es parts.1)

  all_data : (at : ℕ) (es : List Entry) → are_data es ≡ true → All at es ≡ Data at es + Front es
  all_data at es is =
      omega (arith, data_only at es is, ap (λ (fs : List Entry). length (text_of fs)) (no_front es is))

  -- an opening entry in front
  opening_more : (e : Entry) (at : ℕ) (es : List Entry) → is_data e ≡ false
      → kept ids held (record { segment = segment; at = at }) e ≡ true
      → All (at + length (spelling e)) es ≡ Data (at + length (spelling e)) es + Front es
      → All at (e ∷ es) ≡ Data at (e ∷ es) + Front (e ∷ es)
  opening_more e at es other keeps rest =
      let r = kept_from ids held segment (at + length (spelling e)) es in
      let all : All at (e ∷ es) ≡ length (spelling e) + length (text_of r) =
      ap (λ (c : Bool). length (text_of (cond c (e ∷ r) r))) keeps ∙ length_first e r in
      let data_too : Data at (e ∷ es) ≡ length (text_of (filter is_data r)) =
      ap (λ (c : Bool). length (text_of (filter is_data (cond c (e ∷ r) r)))) keeps
      ∙ ap (λ (c : Bool). length (text_of (cond c (e ∷ filter is_data r) (filter is_data r)))) other in
      let front : Front (e ∷ es) ≡ length (spelling e) + Front es =
      ap (λ (c : Bool). length (text_of (cond c [] (e ∷ front_of es)))) other ∙ length_first e (front_of es) in
      omega (arith, rest, all, data_too, front)

  opening_rest : (role : Role) (s at : ℕ) (es : List Entry) → is_rest role s es ≡ true
      → All at es ≡ Data at es + Front es
  opening_rest Survivor s at es is = all_data at es is
  opening_rest Head s at [] is = absurd (cc)
  opening_rest Head s at (entry.Header h ∷ es) is = absurd (cc)
  opening_rest Head s at (entry.Safe v ∷ es) is = absurd (cc)
  opening_rest Head s at (entry.Object o ∷ es) is = absurd (cc)
  opening_rest Head s at (entry.Tombstone t ∷ es) is = absurd (cc)
  opening_rest Head s at (entry.Digest l ∷ []) is = absurd (cc)
  opening_rest Head s at (entry.Digest l ∷ entry.Header h ∷ es) is = absurd (cc)
  opening_rest Head s at (entry.Digest l ∷ entry.Digest m ∷ es) is = absurd (cc)
  opening_rest Head s at (entry.Digest l ∷ entry.Object o ∷ es) is = absurd (cc)
  opening_rest Head s at (entry.Digest l ∷ entry.Tombstone t ∷ es) is = absurd (cc)
  opening_rest Head s at (entry.Digest l ∷ entry.Safe v ∷ es) is =
      let parts = and_parts (ends_with s (listed_ids l)) (are_data es) is in
      let next = at + length (spelling (entry.Digest l)) in
      opening_more (entry.Digest l) at (entry.Safe v ∷ es) refl refl
      (opening_more (entry.Safe v) next es refl refl
      (all_data (next + length (spelling (entry.Safe v))) es parts.1))

  opening_whole : (es : List Entry) → is_whole es ≡ true → All 0 es ≡ Data 0 es + Front es
  opening_whole [] is = absurd (cc)
  opening_whole (entry.Header h ∷ es) is =
      opening_more (entry.Header h) 0 es refl refl
      (opening_rest h.role h.segment (0 + length (spelling (entry.Header h))) es is)
  opening_whole (entry.Digest l ∷ es) is = absurd (cc)
  opening_whole (entry.Safe v ∷ es) is = absurd (cc)
  opening_whole (entry.Object o ∷ es) is = absurd (cc)
  opening_whole (entry.Tombstone t ∷ es) is = absurd (cc)

  -- all that is kept of a segment
  pub kept_with_opening : (es : List Entry) → IsSegment es
      → length (text_of (kept_of ids held segment es)) ≡ kept_len ids held segment es + length (text_of (front_of es))
  kept_with_opening es is = opening_whole es is.order
