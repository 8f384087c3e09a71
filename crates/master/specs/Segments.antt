-- What each segment of a master is to it, and how many bytes of it are kept.
use Rattle.std.specs.Prelude.{ℕ, ◌-◌, nat_lt, List, [], ◌∷◌, ◌++◌, length, map, Option}
use Rattle.std.specs.Prelude.{if◌then◌else◌}
use Rattle.std.specs.Option.{option_map_or}
use Rattle.entry.specs.declared.entry.Entry.{Entry}
use Rattle.entry.specs.Text.{text_of}
use Rattle.images.specs.Image.{Image}
use Rattle.log_head.specs.declared.head.Roll.{Roll}
use Rattle.master_core.specs.cleaner.declared.pass.Pass.{Pass}
use Rattle.master_core.specs.cleaner.Passes.{survivor_ids}
use Rattle.compactor.specs.Kept.{has_id}
use Rattle.master_core.specs.master_space.Choosing.{kept_bytes}
use Rattle.master_core.specs.master_state.Data.{MasterData}
use Rattle.master_core.specs.master_state.declared.waiting.Waiting.{Waiting}
use Rattle.master.specs.declared.segments.Role.{Role}
use Rattle.master.specs.declared.segments.Role.TheVariants as role
use Rattle.master.specs.declared.segments.SegmentRow.{SegmentRow}

-- ---- rows of images

-- the row of a segment that has an image with these entries, and that so many backups hold
abbrev pub image_row : MasterData → Role → ℕ → List Entry → ℕ → SegmentRow
image_row d what id es replicas =
    record { id = id; role = what; len = length (text_of es); kept = kept_bytes d id; replicas = replicas }

-- the row of the master's head
abbrev pub head_row : MasterData → SegmentRow
head_row d = image_row d role.Head d.head.id d.head.image (length d.head.taken)

-- the row of the head that a roll is opening
abbrev pub opening_row : MasterData → Roll → SegmentRow
opening_row d r = image_row d role.Opening r.id r.image r.opened

-- what the segment with this id is to an open pass
abbrev pub role_in : Pass → ℕ → Role
role_in p id =
    if has_id p.victims id then role.Victim
    else if has_id (survivor_ids p.survivors) id then role.Survivor
    else role.Closed

-- what the segment with this id is, if it is no head
abbrev pub role_of : Option Pass → ℕ → Role
role_of pass id = option_map_or (λ (p : Pass). role_in p id) pass role.Closed

-- the row of a closed segment or a survivor
abbrev pub closed_row : MasterData → Image → SegmentRow
closed_row d image = image_row d (role_of d.pass image.id) image.id image.segment image.replicas

-- the rows with one more, in front of the first row that has a greater id
abbrev pub with_row : SegmentRow → List SegmentRow → List SegmentRow
with_row row [] = row ∷ []
with_row row (x ∷ xs) = if nat_lt row.id x.id then row ∷ x ∷ xs else x ∷ with_row row xs

-- the rows of the closed segments, the survivors and the head
abbrev pub settled_rows : MasterData → List SegmentRow
settled_rows d = with_row (head_row d) (map (closed_row d) d.closed)

-- the rows of all segments that have an image, by rising id
abbrev pub image_rows : MasterData → List SegmentRow
image_rows d =
    option_map_or (λ (r : Roll). with_row (opening_row d r) (settled_rows d)) d.head.roll (settled_rows d)

-- ---- all rows

-- the row of a segment that waits to be freed: it has no image, and some replicas are left to be freed
abbrev pub waiting_row : Waiting → SegmentRow
waiting_row w =
    record { id = w.segment; role = role.Waiting; len = 0; kept = 0; replicas = w.replicas - w.freed }

-- the rows of the segments that have an image, and then those of the segments that wait to be freed, in the order in
-- which they are freed
abbrev pub segment_rows : MasterData → List SegmentRow
segment_rows d = image_rows d ++ map waiting_row d.waiting
