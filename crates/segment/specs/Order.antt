-- What has to come next in a segment, at the point where its reader is.
use Rattle.std.specs.Prelude.{◌≡◌, List, ◌∷◌, ◌++◌, Bool, false}
use Rattle.entry.specs.declared.entry.Entry.{Entry}
use Rattle.entry.specs.declared.entry.Entry.TheVariants as entry
use Rattle.entry.specs.Text.{is_whole, is_head_rest, are_data}
use Rattle.segment.specs.declared.expected.Expected.{Expected}
use Rattle.segment.specs.declared.expected.Expected.TheVariants as expected

-- the entries may come after the digest of a head: a safe version, and then objects and tombstones
abbrev pub is_safe_rest : List Entry → Bool
is_safe_rest (entry.Safe version ∷ rest) = are_data rest
is_safe_rest _ = false

-- where this has to come next, these entries make the segment whole
abbrev pub completes : Expected → List Entry → Bool
completes expected.Header more = is_whole more
completes (expected.Digest segment) more = is_head_rest segment more
completes expected.Safe more = is_safe_rest more
completes expected.Data more = are_data more

-- after these entries this has to come next: further entries make a whole segment with them just if they complete this
abbrev pub Expects : List Entry → Expected → Type 0
Expects before x = (more : List Entry) → is_whole (before ++ more) ≡ completes x more
