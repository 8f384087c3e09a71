-- The entries and the bytes of a segment's text of the model.
use Rattle.std.specs.Prelude.{ℕ, ◌≤◌, List, [], ◌∷◌, ◌++◌, length, Option, Some, None}
use Rattle.entry.specs.declared.entry.Role.{Role}
use Rattle.entry.specs.declared.entry.Role.TheVariants as role
use Rattle.entry.specs.declared.entry.Entry.{Entry}
use Rattle.entry.specs.declared.entry.Entry.TheVariants as entry
use Rattle.entry.specs.Text.{text_of, IsSegment, Opening}
use Rattle.log_laws.specs.Text.{Text}

-- the role in the header: a segment with an opening is a head, one without is a survivor
abbrev pub role_for : Option Opening → Role
role_for (Some o) = role.Head
role_for None = role.Survivor

-- the entries of an opening behind the header: digest and safe version, or none for a survivor
abbrev pub opening_entries : Option Opening → List Entry
opening_entries (Some o) = entry.Digest o.digest ∷ entry.Safe o.safe ∷ []
opening_entries None = []

-- all entries of the segment: the header, which names master and segment, the opening, and the text's entries
abbrev pub entries_for : ℕ → ℕ → Text → List Entry
entries_for master segment t = entry.Header (record {
  master = master;
  segment = segment;
  role = role_for t.opening;
}) ∷ opening_entries t.opening ++ t.entries

-- the bytes that spell these entries
abbrev pub bytes_for : ℕ → ℕ → Text → List ℕ
bytes_for master segment t = text_of (entries_for master segment t)

-- The text is that of a whole segment, of at most 8 MiB.
pub record IsWholeText (master segment : ℕ) (t : Text) : Type 0 where
  pub segment_is : IsSegment (entries_for master segment t)
  pub limit : length (bytes_for master segment t) ≤ 8388608
