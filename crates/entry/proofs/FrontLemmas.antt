-- The entry at the front of bytes that pass a reader's tests.
use Rattle.std.proofs.Common.{◌≡◌, ℕ, zero, suc, ◌+◌, ◌^◌, ◌<◌, ◌≤◌, Bool, true, false, List, [], ◌∷◌, ◌++◌}
use Rattle.std.proofs.Common.{length, take, drop, Option, Some, None, refl, sym, ap, ◌∙◌, arith}
use Rattle.std.specs.Prelude.{slice_index, ◌&&◌, nat_le, nat_lt, not, if◌then◌else◌}
use Rattle.std.specs.Prelude.{Result, Ok, Err, IfOk, IfErr, IsOkAnd}
use Rattle.std.proofs.lemmas.Bool.{leb-true, ltb-false, and_parts}
use Rattle.std.proofs.lemmas.List.{length-take, take-append-drop}
use Rattle.std.proofs.lemmas.Option.{none-some}
use Rattle.entry.specs.declared.entry.Entry.{Entry}
use Rattle.entry.specs.declared.kind.Kind.{Kind}
use Rattle.entry.specs.declared.kind.Kind.TheVariants as kind
use Rattle.entry.specs.declared.fault.EntryFault.{EntryFault}
use Rattle.entry.specs.declared.fault.EntryFault.TheVariants.{Short, UnknownKind, BadField}
use Rattle.entry.specs.declared.view.EntryRef.{EntryRef}
use Rattle.entry.specs.Key.{IsBytes}
use Rattle.entry.specs.Limits.{IsVersion}
use Rattle.entry.specs.Format.{number_at, kind_of, kind_byte, role_of, role_byte, fixed_len, whole_len}
use Rattle.entry.specs.Format.{is_within, are_fields, has_order, fault_in, entry_of, ids_at, listed_at, spelling}
use Rattle.entry.specs.Format.{front_of, first_fault, IsEntry, Begins}
use Rattle.entry.specs.View.{shown, Reads}
use Rattle.entry.proofs.PrefixFree.{prefix_free}
use Rattle.entry.proofs.Passing.{passes}
use Rattle.entry.proofs.ReadingLemmas.{header_begins, digest_begins, lengths_begins, safe_begins, object_begins}
use Rattle.entry.proofs.ReadingLemmas.{tombstone_begins}

-- each test of a reader passes
pub record Passes (k : Kind) (bytes : List ℕ) : Type 0 where
  pub fixed : fixed_len k ≤ length bytes
  pub fields : are_fields k bytes ≡ true
  pub whole : whole_len k bytes ≤ length bytes
  pub order : has_order k bytes ≡ true

abbrev some : EntryFault → Option EntryFault
some f = Some f

each_test : (a b c d : Bool)
    → (if a then some Short else if not b then some BadField else if c then some Short else if not d then some BadField
    else None) ≡ None
    → (a ≡ false) × (b ≡ true) × (c ≡ false) × (d ≡ true)
each_test true b c d e = absurd (cc)
each_test false false c d e = absurd (cc)
each_test false true true d e = absurd (cc)
each_test false true false false e = absurd (cc)
each_test false true false true e = (refl, refl, refl, refl)

pub Passes-from_none : (k : Kind) (bytes : List ℕ) → fault_in k bytes ≡ None → Passes k bytes
Passes-from_none k bytes e =
    let tests =
    each_test (nat_lt (length bytes) (fixed_len k)) (are_fields k bytes) (nat_lt (length bytes) (whole_len k bytes))
    (has_order k bytes) e in
    record {
      fixed = ltb-false (length bytes) (fixed_len k) tests.0;
      fields = tests.1;
      whole = ltb-false (length bytes) (whole_len k bytes) tests.2;
      order = tests.3;
    }

within_limits : (least greatest n : ℕ) → is_within least greatest n ≡ true → (least ≤ n) × (n ≤ greatest)
within_limits least greatest n e =
    let tests = and_parts (nat_le least n) (nat_le n greatest) e in
    (leb-true least n tests.0, leb-true n greatest tests.1)

version_from : (n : ℕ) → is_within 1 (2 ^ 62) n ≡ true → IsVersion n
version_from n e = let limits = within_limits 1 (2 ^ 62) n e in record { least = limits.0; greatest = limits.1 }

role_back : (byte : ℕ) → byte ≤ 1 → byte ≡ role_byte (role_of byte)
role_back zero le = refl
role_back (suc zero) le = refl
role_back (suc (suc n)) le = absurd (omega arith)

-- what passes the tests begins with the entry of its fields
pub begins_of : (k : Kind) (bytes : List ℕ) → IsBytes bytes → slice_index bytes 0 ≡ kind_byte k
    → fault_in k bytes ≡ None → Begins bytes (entry_of k bytes) (whole_len k bytes)
begins_of kind.Header bytes fits first e =
    let tests = Passes-from_none kind.Header bytes e in
    let role = role_back (slice_index bytes 17) (leb-true (slice_index bytes 17) 1 tests.fields) in
    header_begins bytes (role_of (slice_index bytes 17)) (number_at 8 1 bytes) (number_at 8 9 bytes) fits tests.fixed
    first role refl refl
begins_of kind.Digest bytes fits first e =
    let tests = Passes-from_none kind.Digest bytes e in
    digest_begins bytes (number_at 4 1 bytes) (ids_at (number_at 4 1 bytes) 5 bytes) fits tests.whole first refl refl
    tests.order
begins_of kind.Safe bytes fits first e =
    let tests = Passes-from_none kind.Safe bytes e in
    let limits = within_limits 1 (2 ^ 62 + 1) (number_at 8 1 bytes) tests.fields in
    safe_begins bytes (number_at 8 1 bytes) fits tests.fixed first (record { least = limits.0; greatest = limits.1 })
    refl
begins_of kind.Object bytes fits first e =
    let tests = Passes-from_none kind.Object bytes e in
    let n = number_at 8 9 bytes in
    let k = number_at 2 17 bytes in
    let v = number_at 4 19 bytes in
    let outer = and_parts (is_within 1 (2 ^ 62) n && is_within 1 1024 k) (nat_le v 2097152) tests.fields in
    let inner = and_parts (is_within 1 (2 ^ 62) n) (is_within 1 1024 k) outer.0 in
    let limits = within_limits 1 1024 k inner.1 in
    object_begins bytes (number_at 8 1 bytes) n k v (take k (drop 23 bytes)) (take v (drop (23 + k) bytes)) fits
    tests.whole first refl refl refl refl refl refl
    (version_from n inner.0) limits.0 limits.1 (leb-true v 2097152 outer.1)
begins_of kind.Tombstone bytes fits first e =
    let tests = Passes-from_none kind.Tombstone bytes e in
    let n = number_at 8 9 bytes in
    let k = number_at 2 25 bytes in
    let inner = and_parts (is_within 1 (2 ^ 62) n) (is_within 1 1024 k) tests.fields in
    let limits = within_limits 1 1024 k inner.1 in
    tombstone_begins bytes (number_at 8 1 bytes) n (number_at 8 17 bytes) k (take k (drop 27 bytes)) fits tests.whole
    first refl refl refl refl refl
    (version_from n inner.0) limits.0 limits.1
begins_of kind.Lengths bytes fits first e =
    let tests = Passes-from_none kind.Lengths bytes e in
    lengths_begins bytes (number_at 4 1 bytes) (listed_at (number_at 4 1 bytes) 5 bytes) fits tests.whole first refl
    refl
    tests.order

-- the tests of the first byte's kind are those of the bytes
pub front_of-kind : (k : Kind) (bytes : List ℕ) → 0 < length bytes → kind_of (slice_index bytes 0) ≡ Some k
    → fault_in k bytes ≡ None → front_of bytes ≡ Some (entry_of k bytes, whole_len k bytes)
front_of-kind k [] lt first e = absurd (omega arith)
front_of-kind k (b ∷ bs) lt first e = rw (first, e) refl

pub first_fault-kind : (k : Kind) (bytes : List ℕ) → 0 < length bytes → kind_of (slice_index bytes 0) ≡ Some k
    → first_fault bytes ≡ fault_in k bytes
first_fault-kind k [] lt first = absurd (omega arith)
first_fault-kind k (b ∷ bs) lt first = rw first refl

-- what is spelled at the front is read
pub complete : (bytes : List ℕ) (r : Result (EntryRef × ℕ) EntryFault)
    → IfOk r (λ read. Begins bytes (shown read.0) read.1) → IfErr r (λ fault. first_fault bytes ≡ Some fault)
    → (e : Entry) (rest : List ℕ) → IsEntry e → bytes ≡ spelling e ++ rest
    → IsOkAnd r (λ read. (shown read.0 ≡ e) × (read.1 ≡ length (spelling e)))
complete bytes (Ok x) found fault e rest fits is =
    let cut : bytes ≡ spelling (shown x.0) ++ drop x.1 bytes =
    sym (take-append-drop x.1 bytes) ∙ ap (λ (l : List ℕ). l ++ drop x.1 bytes) found.text in
    let same = prefix_free (shown x.0) e (drop x.1 bytes) rest found.entry fits (sym cut ∙ is) in
    let whole = found.within in
    let len : x.1 ≡ length (spelling (shown x.0)) = omega (arith, length-take x.1 bytes, ap length found.text) in
    (same.0, len ∙ ap (λ (z : Entry). length (spelling z)) same.0)
complete bytes (Err f) found fault e rest fits is =
    absurd (none-some f (sym (passes e rest fits) ∙ sym (ap first_fault is) ∙ fault))

-- what a reader of the first byte's kind answers is at the front
pub found_of : (k : Kind) (bytes : List ℕ) (r : Result (EntryRef × ℕ) EntryFault) → IsBytes bytes
    → slice_index bytes 0 ≡ kind_byte k → Reads k bytes r
    → IfOk r (λ read. Begins bytes (shown read.0) read.1)
found_of k bytes (Ok x) fits first reads = rw (reads.1, reads.2) (begins_of k bytes fits first reads.0)
found_of k bytes (Err f) fits first reads = tt

-- what begins with another byte is of no known kind
pub unknown_of : (bytes : List ℕ) (byte : ℕ) → 0 < length bytes → slice_index bytes 0 ≡ byte → kind_of byte ≡ None
    → first_fault bytes ≡ Some UnknownKind
unknown_of [] byte any first none = absurd (omega (arith, any))
unknown_of (b ∷ rest) byte any first none = rw (first, none) refl
