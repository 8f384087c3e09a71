-- What is read of the bytes of a text, and how many there are.
use Rattle.std.proofs.Common.{◌≡◌, ℕ, ◌+◌, true, List, [], ◌∷◌, ◌++◌, length, Some, refl, sym, ap, subst}
use Rattle.std.proofs.Common.{◌∙◌, arith}
use Rattle.std.specs.Prelude.{Option, None, IsSomeAnd, filter}
use Rattle.std.proofs.lemmas.Bool.{and_parts}
use Rattle.entry.specs.declared.digest.Digest.{Digest}
use Rattle.entry.specs.declared.digest.Digest.TheVariants as digest
use Rattle.entry.specs.declared.entry.Header.{Header}
use Rattle.entry.specs.declared.entry.Entry.{Entry}
use Rattle.entry.specs.declared.entry.Entry.TheVariants as entry
use Rattle.entry.specs.Format.{spelling}
use Rattle.entry.specs.Text.{text_of, is_data, are_data, is_whole, ends_with, listed_ids, entries_in, data_in}
use Rattle.entry.specs.Text.{header_of, opening_in, opening_of, Opening, IsSegment}
use Rattle.entry.proofs.SpellingLemmas.{length-header, length-digest, length-lengths, length-safe}
use Rattle.entry.proofs.TextLemmas.{entries_in-text, length_first}
use Rattle.log_laws.specs.ReplicaBytes.{IsTextOfSegment}
use Rattle.log_laws.proofs.Segments.{data_alone}
use Rattle.log_laws.specs.Text.{Text, opening_length}
use Rattle.log_bytes.specs.Text.{role_for, opening_entries, entries_for, bytes_for, IsWholeText}
use Rattle.log_bytes.specs.Laws.{LengthIsSame}

-- ---- lengths

abbrev pub header_for : ℕ → ℕ → Option Opening → Header
header_for master s o = record { master = master; segment = s; role = role_for o }

digest_length : (d : Digest) (safe : ℕ) → 18 + length (spelling (entry.Digest d)) + length (spelling (entry.Safe safe))
    ≡ opening_length (Some (record { digest = d; safe = safe }))
digest_length (digest.Ids ids) safe =
    let first = length-digest ids in let last = length-safe safe in omega (arith, first, last)
digest_length (digest.Lengths segments) safe =
    let first = length-lengths segments in let last = length-safe safe in omega (arith, first, last)

length_for : (master s : ℕ) (o : Option Opening) (es : List Entry)
    → length (text_of (entry.Header (header_for master s o) ∷ opening_entries o ++ es))
    ≡ opening_length o + length (text_of es)
length_for master s None es =
    length_first (entry.Header (header_for master s None)) es
    ∙ ap (λ (n : ℕ). n + length (text_of es)) (length-header (header_for master s None))
length_for master s (Some o) es =
    let first = length_first (entry.Header (header_for master s (Some o))) (opening_entries (Some o) ++ es) in
    let second = length_first (entry.Digest o.digest) (entry.Safe o.safe ∷ es) in
    let third = length_first (entry.Safe o.safe) es in
    let header = length-header (header_for master s (Some o)) in
    let opening = digest_length o.digest o.safe in
    omega (arith, first, second, third, header, opening)

pub length_is : LengthIsSame
length_is master s t = length_for master s t.opening t.entries

-- ---- what is read

-- behind the header and the opening come objects and tombstones
data_behind : (master s : ℕ) (o : Option Opening) (es : List Entry)
    → is_whole (entry.Header (header_for master s o) ∷ opening_entries o ++ es) ≡ true → are_data es ≡ true
data_behind master s None es whole = whole
data_behind master s (Some o) es whole = (and_parts (ends_with s (listed_ids o.digest)) (are_data es) whole).1

-- which begin with no digest
pub no_opening : (h : Header) (es : List Entry) → are_data es ≡ true → opening_of (entry.Header h ∷ es) ≡ None
no_opening h [] are = refl
no_opening h (entry.Header g ∷ es) are = refl
no_opening h (entry.Digest d ∷ es) are = absurd (cc)
no_opening h (entry.Safe v ∷ es) are = refl
no_opening h (entry.Object o ∷ es) are = refl
no_opening h (entry.Tombstone t ∷ es) are = refl

opening_for : (master s : ℕ) (o : Option Opening) (es : List Entry) → are_data es ≡ true
    → opening_of (entry.Header (header_for master s o) ∷ opening_entries o ++ es) ≡ o
opening_for master s None es are = no_opening (header_for master s None) es are
opening_for master s (Some o) es are = refl

only_data : (master s : ℕ) (o : Option Opening) (es : List Entry)
    → filter is_data (entry.Header (header_for master s o) ∷ opening_entries o ++ es) ≡ filter is_data es
only_data master s None es = refl
only_data master s (Some o) es = refl

module _ (master s : ℕ) (t : Text) (is : IsWholeText master s t) where
  read : entries_in (bytes_for master s t) ≡ entries_for master s t
  read = entries_in-text (entries_for master s t) is.segment_is.each

  are : are_data t.entries ≡ true
  are = data_behind master s t.opening t.entries is.segment_is.order

  pub reads_opening : opening_in (bytes_for master s t) ≡ t.opening
  reads_opening = ap opening_of read ∙ opening_for master s t.opening t.entries are

  pub reads_data : data_in (bytes_for master s t) ≡ t.entries
  reads_data = ap (filter is_data) read ∙ only_data master s t.opening t.entries ∙ data_alone t.entries are

  pub reads_text : IsTextOfSegment (bytes_for master s t) master s
  reads_text = record {
    text = record {
      text = record { segment = subst IsSegment (sym read) is.segment_is; text = ap text_of (sym read) };
      limit = is.limit;
    };
    header = subst (λ (o : Option Header). IsSomeAnd o (λ (h : Header). (h.master ≡ master) × (h.segment ≡ s)))
        (sym (ap header_of read)) (refl, refl);
  }
