-- The entry that a view shows.
use Rattle.std.specs.Prelude.{◌≡◌, ℕ, List, Some, None, Result, Ok, Err}
use Rattle.entry.specs.declared.key.Key.{Key}
use Rattle.entry.specs.declared.digest.Digest.{Digest}
use Rattle.entry.specs.declared.entry.Object.{Object}
use Rattle.entry.specs.declared.entry.Tombstone.{Tombstone}
use Rattle.entry.specs.declared.entry.Entry.{Entry}
use Rattle.entry.specs.declared.entry.Entry.TheVariants as entry
use Rattle.entry.specs.declared.kind.Kind.{Kind}
use Rattle.entry.specs.declared.fault.EntryFault.{EntryFault}
use Rattle.entry.specs.declared.view.KeyRef.{KeyRef}
use Rattle.entry.specs.declared.view.ObjectRef.{ObjectRef}
use Rattle.entry.specs.declared.view.TombstoneRef.{TombstoneRef}
use Rattle.entry.specs.declared.view.DigestRef.{DigestRef}
use Rattle.entry.specs.declared.view.EntryRef.{EntryRef}
use Rattle.entry.specs.declared.view.EntryRef.TheVariants as view
use Rattle.entry.specs.Format.{digest_at, fault_in, entry_of, whole_len}
use Rattle.entry.specs.Text.{listed_ids}

abbrev pub shown_key : KeyRef → Key
shown_key k = record { table = k.table; bytes = k.bytes.now }

abbrev pub shown_object : ObjectRef → Object
shown_object o = record { key = shown_key o.key; version = o.version; value = o.value.now }

abbrev pub shown_tombstone : TombstoneRef → Tombstone
shown_tombstone t = record { key = shown_key t.key; version = t.version; segment = t.segment }

abbrev pub shown_digest : DigestRef → Digest
shown_digest d = digest_at d.has_lengths d.count d.text.now

-- the ids of the segments that the digest lists
abbrev pub shown_ids : DigestRef → List ℕ
shown_ids d = listed_ids (shown_digest d)

abbrev pub shown : EntryRef → Entry
shown (view.Header h) = entry.Header h
shown (view.Digest d) = entry.Digest (shown_digest d)
shown (view.Safe version) = entry.Safe version
shown (view.Object o) = entry.Object (shown_object o)
shown (view.Tombstone t) = entry.Tombstone (shown_tombstone t)

-- what the reader of this kind answers: the entry in the bytes and its length, or the fault of the first failing test
abbrev pub Reads : Kind → List ℕ → Result (EntryRef × ℕ) EntryFault → Type 0
Reads k bytes (Ok x) = (fault_in k bytes ≡ None) × (shown x.0 ≡ entry_of k bytes) × (x.1 ≡ whole_len k bytes)
Reads k bytes (Err f) = fault_in k bytes ≡ Some f
