-- A reader finds the spelled entry at the front, and reads from a text exactly the entries that it was made of.
use Rattle.std.proofs.Common.{◌≡◌, ℕ, zero, suc, ◌+◌, ◌<◌, ◌≤◌, List, [], ◌∷◌, ◌++◌}
use Rattle.std.proofs.Common.{length, drop, Some, refl, ap, append_assoc, arith}
use Rattle.std.specs.Prelude.{slice_index}
use Rattle.std.specs.List.{flat_map, AllByRecursion}
use Rattle.std.proofs.lemmas.List.{length-append, take_at, drop_at}
use Rattle.entry.specs.declared.digest.Listed.{Listed}
use Rattle.entry.specs.declared.digest.Digest.TheVariants as digest
use Rattle.entry.specs.declared.entry.Role.{Role}
use Rattle.entry.specs.declared.entry.Role.TheVariants.{Head, Survivor}
use Rattle.entry.specs.declared.entry.Header.{Header}
use Rattle.entry.specs.declared.entry.Object.{Object}
use Rattle.entry.specs.declared.entry.Tombstone.{Tombstone}
use Rattle.entry.specs.declared.entry.Entry.{Entry}
use Rattle.entry.specs.declared.entry.Entry.TheVariants as entry
use Rattle.entry.specs.declared.kind.Kind.TheVariants as kind
use Rattle.entry.specs.Limits.{AreIds, AreLengths, IsSafeVersion}
use Rattle.entry.specs.Format.{number_bytes, number_at, role_byte, role_of, spelling, IsHeader, IsObject}
use Rattle.entry.specs.Format.{IsTombstone, IsEntry, part_of, whole_len, ids_at, entry_of, front_of}
use Rattle.entry.specs.Format.{listed_bytes, listed_at}
use Rattle.entry.specs.Text.{text_of, entries_within, entries_in}
use Rattle.entry.proofs.Numbers.{length-number_bytes}
use Rattle.entry.proofs.SpellingLemmas.{length-header, length-digest, length-lengths, length-safe, length-object}
use Rattle.entry.proofs.SpellingLemmas.{length-tombstone}
use Rattle.entry.proofs.PrefixFree.{object-same, tombstone-same}
use Rattle.entry.proofs.Passing.{field, byte_there, ids_there, listed_behind, header_passes, digest_passes}
use Rattle.entry.proofs.Passing.{lengths_passes, safe_passes, object_passes, tombstone_passes}

-- bytes behind a front
part_there : (at count : ℕ) (part front rest bytes : List ℕ) → bytes ≡ front ++ (part ++ rest) → length front ≡ at
    → length part ≡ count → part_of count at bytes ≡ part
part_there at count part front rest bytes is len size =
    rw (is, drop_at front (part ++ rest) at len, take_at part rest count size) refl

role_of-byte : (role : Role) → role_of (role_byte role) ≡ role
role_of-byte Head = refl
role_of-byte Survivor = refl

header_there : (h : Header) (rest : List ℕ) → IsHeader h
    → entry_of kind.Header (spelling (entry.Header h) ++ rest) ≡ entry.Header h
header_there h rest fits =
    let text = spelling (entry.Header h) ++ rest in
    let front = 1 ∷ number_bytes 8 h.master ++ number_bytes 8 h.segment in
    let front_len : length front ≡ 17 = simp (length-append, length-number_bytes) refl in
    let role : slice_index text 17 ≡ role_byte h.role =
    byte_there front rest text (role_byte h.role) 17 (simp append_assoc) front_len in
    let master : number_at 8 1 text ≡ h.master =
    field 8 1 h.master (1 ∷ []) (number_bytes 8 h.segment ++ (role_byte h.role ∷ rest)) text (simp append_assoc)
    refl fits.master in
    let segment : number_at 8 9 text ≡ h.segment =
    field 8 9 h.segment (1 ∷ number_bytes 8 h.master) (role_byte h.role ∷ rest) text (simp append_assoc)
    (simp length-number_bytes refl) fits.segment in
    rw (master, segment, role, role_of-byte) refl

digest_there : (ids : List ℕ) (rest : List ℕ) → AreIds ids
    → entry_of kind.Digest (spelling (entry.Digest (digest.Ids ids)) ++ rest) ≡ entry.Digest (digest.Ids ids)
digest_there ids rest fits =
    let text = spelling (entry.Digest (digest.Ids ids)) ++ rest in
    let front = 2 ∷ number_bytes 4 (length ids) in
    let front_len : length front ≡ 5 = simp length-number_bytes refl in
    let parts : text ≡ front ++ (flat_map (number_bytes 8) ids ++ rest) =
    append_assoc front (flat_map (number_bytes 8) ids) rest in
    let count : number_at 4 1 text ≡ length ids =
    field 4 1 (length ids) (2 ∷ []) (flat_map (number_bytes 8) ids ++ rest) text parts refl fits.count in
    let ids_are : ids_at (length ids) 5 text ≡ ids = rw parts (ids_there ids front rest 5 front_len fits.each) in
    rw (count, ids_are) refl

digest_len : (ids : List ℕ) (rest : List ℕ) → AreIds ids
    → whole_len kind.Digest (spelling (entry.Digest (digest.Ids ids)) ++ rest)
    ≡ length (spelling (entry.Digest (digest.Ids ids)))
digest_len ids rest fits =
    let text = spelling (entry.Digest (digest.Ids ids)) ++ rest in
    let front = 2 ∷ number_bytes 4 (length ids) in
    let parts : text ≡ front ++ (flat_map (number_bytes 8) ids ++ rest) =
    append_assoc front (flat_map (number_bytes 8) ids) rest in
    let count : number_at 4 1 text ≡ length ids =
    field 4 1 (length ids) (2 ∷ []) (flat_map (number_bytes 8) ids ++ rest) text parts refl fits.count in
    rw (count, length-digest) refl

lengths_there : (ss : List Listed) (rest : List ℕ) → AreLengths ss
    → entry_of kind.Lengths (spelling (entry.Digest (digest.Lengths ss)) ++ rest) ≡ entry.Digest (digest.Lengths ss)
lengths_there ss rest fits =
    let text = spelling (entry.Digest (digest.Lengths ss)) ++ rest in
    let front = 6 ∷ number_bytes 4 (length ss) in
    let front_len : length front ≡ 5 = simp length-number_bytes refl in
    let parts : text ≡ front ++ (flat_map listed_bytes ss ++ rest) =
    append_assoc front (flat_map listed_bytes ss) rest in
    let count : number_at 4 1 text ≡ length ss =
    field 4 1 (length ss) (6 ∷ []) (flat_map listed_bytes ss ++ rest) text parts refl fits.count in
    let they_are : listed_at (length ss) 5 text ≡ ss =
    rw parts (listed_behind ss front rest 5 front_len fits.each) in
    rw (count, they_are) refl

lengths_len : (ss : List Listed) (rest : List ℕ) → AreLengths ss
    → whole_len kind.Lengths (spelling (entry.Digest (digest.Lengths ss)) ++ rest)
    ≡ length (spelling (entry.Digest (digest.Lengths ss)))
lengths_len ss rest fits =
    let text = spelling (entry.Digest (digest.Lengths ss)) ++ rest in
    let front = 6 ∷ number_bytes 4 (length ss) in
    let parts : text ≡ front ++ (flat_map listed_bytes ss ++ rest) =
    append_assoc front (flat_map listed_bytes ss) rest in
    let count : number_at 4 1 text ≡ length ss =
    field 4 1 (length ss) (6 ∷ []) (flat_map listed_bytes ss ++ rest) text parts refl fits.count in
    rw (count, length-lengths) refl

safe_there : (n : ℕ) (rest : List ℕ) → IsSafeVersion n
    → entry_of kind.Safe (spelling (entry.Safe n) ++ rest) ≡ entry.Safe n
safe_there n rest fits =
    let greatest = fits.greatest in
    let version : number_at 8 1 (spelling (entry.Safe n) ++ rest) ≡ n =
    field 8 1 n (3 ∷ []) rest (spelling (entry.Safe n) ++ rest) refl refl (omega arith) in
    rw version refl

-- the lengths in an object's fixed part, and its fields
record ObjectThere (o : Object) (rest : List ℕ) : Type 0 where
  key_len : number_at 2 17 (spelling (entry.Object o) ++ rest) ≡ length o.key.bytes
  value_len : number_at 4 19 (spelling (entry.Object o) ++ rest) ≡ length o.value
  same : entry_of kind.Object (spelling (entry.Object o) ++ rest) ≡ entry.Object o

object_there : (o : Object) (rest : List ℕ) → IsObject o → ObjectThere o rest
object_there o rest fits =
    let text = spelling (entry.Object o) ++ rest in
    let t = o.key.table in
    let n = o.version in
    let k = length o.key.bytes in
    let v = length o.value in
    let greatest = fits.version.greatest in
    let key_limit = fits.key.bytes.limit in
    let value_limit = fits.value.limit in
    let a = 4 ∷ number_bytes 8 t in
    let b = a ++ number_bytes 8 n in
    let c = b ++ number_bytes 2 k in
    let d = c ++ number_bytes 4 v in
    let last = o.key.bytes ++ (o.value ++ rest) in
    let t-is : number_at 8 1 text ≡ t =
    field 8 1 t (4 ∷ []) (number_bytes 8 n ++ (number_bytes 2 k ++ (number_bytes 4 v ++ last))) text
    (simp append_assoc) refl fits.key.table in
    let n-is : number_at 8 9 text ≡ n =
    field 8 9 n a (number_bytes 2 k ++ (number_bytes 4 v ++ last)) text (simp append_assoc)
    (simp length-number_bytes refl) (omega arith) in
    let k-is : number_at 2 17 text ≡ k =
    field 2 17 k b (number_bytes 4 v ++ last) text (simp append_assoc)
    (simp (length-append, length-number_bytes) refl) (omega arith) in
    let v-is : number_at 4 19 text ≡ v =
    field 4 19 v c last text (simp append_assoc) (simp (length-append, length-number_bytes) refl) (omega arith) in
    let d_len : length d ≡ 23 = simp (length-append, length-number_bytes) refl in
    let key-is : part_of k 23 text ≡ o.key.bytes =
    part_there 23 k o.key.bytes d (o.value ++ rest) text (simp append_assoc) d_len refl in
    let front_len : length (d ++ o.key.bytes) ≡ 23 + k = omega (arith, length-append d o.key.bytes, d_len) in
    let value-is : part_of v (23 + k) text ≡ o.value =
    part_there (23 + k) v o.value (d ++ o.key.bytes) rest text (simp append_assoc) front_len refl in
    let key-field : part_of (number_at 2 17 text) 23 text ≡ o.key.bytes = rw k-is key-is in
    let value-field : part_of (number_at 4 19 text) (23 + number_at 2 17 text) text ≡ o.value =
    rw (k-is, v-is) value-is in
    record {
      key_len = k-is;
      value_len = v-is;
      same = ap (λ (z : Object). entry.Object z) (object-same
          (record {
            key = record { table = number_at 8 1 text; bytes = part_of (number_at 2 17 text) 23 text };
            version = number_at 8 9 text;
            value = part_of (number_at 4 19 text) (23 + number_at 2 17 text) text;
          })
          o t-is key-field n-is value-field);
    }

record TombstoneThere (t : Tombstone) (rest : List ℕ) : Type 0 where
  key_len : number_at 2 25 (spelling (entry.Tombstone t) ++ rest) ≡ length t.key.bytes
  same : entry_of kind.Tombstone (spelling (entry.Tombstone t) ++ rest) ≡ entry.Tombstone t

tombstone_there : (o : Tombstone) (rest : List ℕ) → IsTombstone o → TombstoneThere o rest
tombstone_there o rest fits =
    let text = spelling (entry.Tombstone o) ++ rest in
    let t = o.key.table in
    let n = o.version in
    let s = o.segment in
    let k = length o.key.bytes in
    let greatest = fits.version.greatest in
    let key_limit = fits.key.bytes.limit in
    let a = 5 ∷ number_bytes 8 t in
    let b = a ++ number_bytes 8 n in
    let c = b ++ number_bytes 8 s in
    let d = c ++ number_bytes 2 k in
    let last = o.key.bytes ++ rest in
    let t-is : number_at 8 1 text ≡ t =
    field 8 1 t (5 ∷ []) (number_bytes 8 n ++ (number_bytes 8 s ++ (number_bytes 2 k ++ last))) text
    (simp append_assoc) refl fits.key.table in
    let n-is : number_at 8 9 text ≡ n =
    field 8 9 n a (number_bytes 8 s ++ (number_bytes 2 k ++ last)) text (simp append_assoc)
    (simp length-number_bytes refl) (omega arith) in
    let s-is : number_at 8 17 text ≡ s =
    field 8 17 s b (number_bytes 2 k ++ last) text (simp append_assoc)
    (simp (length-append, length-number_bytes) refl) fits.segment in
    let k-is : number_at 2 25 text ≡ k =
    field 2 25 k c last text (simp append_assoc) (simp (length-append, length-number_bytes) refl) (omega arith) in
    let d_len : length d ≡ 27 = simp (length-append, length-number_bytes) refl in
    let key-is : part_of k 27 text ≡ o.key.bytes =
    part_there 27 k o.key.bytes d rest text (simp append_assoc) d_len refl in
    let key-field : part_of (number_at 2 25 text) 27 text ≡ o.key.bytes = rw k-is key-is in
    record {
      key_len = k-is;
      same = ap (λ (z : Tombstone). entry.Tombstone z) (tombstone-same
          (record {
            key = record { table = number_at 8 1 text; bytes = part_of (number_at 2 25 text) 27 text };
            version = number_at 8 9 text;
            segment = number_at 8 17 text;
          })
          o t-is key-field n-is s-is);
    }

-- what is spelled is at the front
pub front_of-spelling : (e : Entry) (rest : List ℕ) → IsEntry e
    → front_of (spelling e ++ rest) ≡ Some (e, length (spelling e))
front_of-spelling (entry.Header h) rest fits =
    rw (header_passes h rest fits, header_there h rest fits, length-header h) refl
front_of-spelling (entry.Digest (digest.Lengths ss)) rest fits =
    rw (lengths_passes ss rest fits, lengths_there ss rest fits, lengths_len ss rest fits) refl
front_of-spelling (entry.Digest (digest.Ids ids)) rest fits =
    rw (digest_passes ids rest fits, digest_there ids rest fits, digest_len ids rest fits) refl
front_of-spelling (entry.Safe n) rest fits =
    rw (safe_passes n rest fits, safe_there n rest fits, length-safe n) refl
front_of-spelling (entry.Object o) rest fits =
    let there = object_there o rest fits in
    let len : whole_len kind.Object (spelling (entry.Object o) ++ rest) ≡ length (spelling (entry.Object o)) =
    rw (there.key_len, there.value_len, length-object o) refl in
    rw (object_passes o rest fits, there.same, len) refl
front_of-spelling (entry.Tombstone t) rest fits =
    let there = tombstone_there t rest fits in
    let len : whole_len kind.Tombstone (spelling (entry.Tombstone t) ++ rest) ≡ length (spelling (entry.Tombstone t)) =
    rw (there.key_len, length-tombstone t) refl in
    rw (tombstone_passes t rest fits, there.same, len) refl

-- a spelling is not empty
pub spelling-some : (e : Entry) → 0 < length (spelling e)
spelling-some (entry.Header h) = omega arith
spelling-some (entry.Digest (digest.Ids ids)) = omega arith
spelling-some (entry.Digest (digest.Lengths ss)) = omega arith
spelling-some (entry.Safe n) = omega arith
spelling-some (entry.Object o) = omega arith
spelling-some (entry.Tombstone t) = omega arith

-- an entry and what comes behind it
pub length_first : (x : Entry) (xs : List Entry) → length (text_of (x ∷ xs)) ≡ length (spelling x) + length (text_of xs)
length_first x xs = length-append (spelling x) (text_of xs)

pub length-text_of : (es : List Entry) → length es ≤ length (text_of es)
length-text_of [] = omega arith
length-text_of (e ∷ es) = omega (arith, length-append (spelling e) (text_of es), length-text_of es, spelling-some e)

pub entries_within-text : (count : ℕ) (es : List Entry) → length es ≤ count → AllByRecursion IsEntry es
    → entries_within count (text_of es) ≡ es
entries_within-text zero [] le fits = refl
entries_within-text (suc count) [] le fits = refl
entries_within-text zero (e ∷ es) le fits = absurd (omega arith)
entries_within-text (suc count) (e ∷ es) le fits =
    let front = front_of-spelling e (text_of es) fits.0 in
    let rest : drop (length (spelling e)) (spelling e ++ text_of es) ≡ text_of es =
    drop_at (spelling e) (text_of es) (length (spelling e)) refl in
    rw (front, rest) (ap (λ (xs : List Entry). e ∷ xs) (entries_within-text count es (omega arith) fits.1))

-- the entries that are read from a text are those that it was made of
pub entries_in-text : (es : List Entry) → AllByRecursion IsEntry es → entries_in (text_of es) ≡ es
entries_in-text es fits = entries_within-text (length (text_of es)) es (length-text_of es) fits
