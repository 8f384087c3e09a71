-- The image of a segment.
use Rattle.std.specs.Prelude.{ℕ, List, Bool, true, false, if◌then◌else◌}
use Rattle.entry.specs.declared.entry.Entry.{Entry}

pub record Image : Type 0 where
  -- the segment's number
  pub id : ℕ
  -- its entries
  pub segment : List Entry
  -- true if the image still takes appends
  pub is_whole : Bool
  -- for how many bytes of text the image is sure to have memory
  pub room : ℕ
  -- how many backups hold the segment
  pub replicas : ℕ

-- the image of a segment that takes no appends, and that so many backups hold
abbrev pub closed_image : ℕ → List Entry → ℕ → Image
closed_image id segment replicas =
    record { id = id; segment = segment; is_whole = false; room = 0; replicas = replicas }

-- the image of a segment that takes appends, with memory for so many bytes; no backup holds the segment yet
abbrev pub whole_image : ℕ → List Entry → ℕ → Image
whole_image id segment room =
    record { id = id; segment = segment; is_whole = true; room = room; replicas = 0 }

-- the image of a segment that takes appends or not, and that no backup holds yet
abbrev pub new_image : ℕ → ℕ → List Entry → Bool → Image
new_image room id segment is_whole = record {
  id = id;
  segment = segment;
  is_whole = is_whole;
  room = if is_whole then room else 0;
  replicas = 0;
}
