-- What steps make of an image.
use Rattle.std.specs.Prelude.{◌≡◌, ℕ, suc, ◌-◌, List, ◌++◌, drop, length, true, false, Option, IsSomeAnd}
use Rattle.std.specs.Option.{option_map_or, option_and_then}
use Rattle.entry.specs.declared.entry.Entry.{Entry}
use Rattle.entry.specs.Format.{Begins}
use Rattle.entry.specs.Text.{text_of, is_data}
use Rattle.segment.specs.Bytes.{standing_at}
use Rattle.images.specs.Image.{Image}
use Rattle.images.specs.Sorted.{segment_of}

-- the image with a unit at its end
abbrev pub with_unit : List Entry → Image → Image
with_unit unit image = record image { segment = image.segment ++ unit }

-- the image once it takes no more appends; its room is then 0
abbrev pub trimmed : Image → Image
trimmed image = record image { is_whole = false; room = 0 }

-- the image with another segment in place of its own; it takes no appends
abbrev pub replaced_by : List Entry → Image → Image
replaced_by segment image = record image { segment = segment; is_whole = false; room = 0 }

-- the image once one more backup holds the segment
abbrev pub more_replicas : Image → Image
more_replicas image = record image { replicas = suc image.replicas }

-- the image once one backup fewer holds the segment; a count of 0 stays 0
abbrev pub fewer_replicas : Image → Image
fewer_replicas image = record image { replicas = image.replicas - 1 }

-- how many bytes the image of this id has; 0 if there is no such image
abbrev pub len_at : List Image → ℕ → ℕ
len_at images id = option_map_or (λ (es : List Entry). length (text_of es)) (segment_of images id) 0

-- the entry that can be read at this offset of the image of this id, if any
abbrev pub entry_at : List Image → ℕ → ℕ → Option Entry
entry_at images from at = option_and_then (λ (es : List Entry). standing_at at (text_of es)) (segment_of images from)

-- an object or tombstone of this length can be read at this offset of the bytes
abbrev pub StandsData : List ℕ → ℕ → ℕ → Type 0
StandsData bytes at len =
    IsSomeAnd (standing_at at bytes) (λ (e : Entry). (is_data e ≡ true) × Begins (drop at bytes) e len)

-- an object or tombstone of this length can be read at this offset of the image of this id
abbrev pub HasData : List Image → ℕ → ℕ → ℕ → Type 0
HasData images from at len = IsSomeAnd (segment_of images from) (λ (es : List Entry). StandsData (text_of es) at len)
