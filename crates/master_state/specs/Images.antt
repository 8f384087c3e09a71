-- The images of a log.
use Rattle.std.specs.Prelude.{◌==◌, ◌&&◌, ℕ, List, [], map, filter, not, nat_lt, Option, Some, None, unwrap_or}
use Rattle.std.specs.Prelude.{if◌then◌else◌}
use Rattle.cleaner.specs.declared.pass.Pass.{Pass}
use Rattle.cleaner.specs.Passes.{survivor_ids}
use Rattle.log_memory.specs.log_laws.Intact.{survivor_entries}
use Rattle.entry.specs.declared.entry.Entry.{Entry}
use Rattle.images.specs.Image.{Image, closed_image, whole_image}
use Rattle.images.specs.Sorted.{segment_of, added}
use Rattle.images.specs.Steps.{trimmed}
use Rattle.log_head.specs.log_laws.Ids.{has}
use Rattle.master_state.specs.declared.config.Config.{Config}
use Rattle.master_state.specs.declared.waiting.Waiting.{Waiting}
use Rattle.log_head.specs.declared.head.Roll.{Roll}
use Rattle.log_head.specs.Head.{HeadValue}

-- the image of the head that a roll is opening, if that head has this id, and else the other image
abbrev pub new_image_or : Option Roll → ℕ → Option (List Entry) → Option (List Entry)
new_image_or None id other = other
new_image_or (Some r) id other = if r.id == id then Some r.image else other

-- the image of the segment with this id: the head, the head that a roll is opening, or a closed segment
abbrev pub image_among : HeadValue → List Image → ℕ → Option (List Entry)
image_among h cs id = if h.id == id then Some h.image else new_image_or h.roll id (segment_of cs id)

-- the entries that memory has of a segment; no entries if there is no image of it
abbrev pub images_among : HeadValue → List Image → ℕ → List Entry
images_among h cs id = unwrap_or (image_among h cs id) []

-- the closed segments with one more at its place, which has so many replicas; the same ones if there is no image
abbrev pub with_closed : List Image → ℕ → ℕ → Option (List Entry) → List Image
with_closed cs id replicas None = cs
with_closed cs id replicas (Some image) = added (closed_image id image replicas) cs

-- ---- a pass

-- the image of a new survivor: it has its header, and counts a whole segment of memory
abbrev pub survivor_image : Config → ℕ → Image
survivor_image c id = whole_image id (survivor_entries c.master id) c.segment

-- the images of new survivors with these ids
abbrev pub survivor_images : Config → List ℕ → List Image
survivor_images c ids = map (survivor_image c) ids

-- the images without those of the victims
abbrev pub staying : List ℕ → List Image → List Image
staying victims cs = filter (λ (image : Image). not (has victims image.id)) cs

-- a segment that leaves the log, before any of its replicas is freed
abbrev pub waiting_for : Image → Waiting
waiting_for image = record { segment = image.id; freed = 0; replicas = image.replicas }

-- the victims that some backup holds, in the order of the images, which is that of their ids
abbrev pub leaving : List ℕ → List Image → List Waiting
leaving victims cs =
    map waiting_for (filter (λ (image : Image). has victims image.id && nat_lt 0 image.replicas) cs)

-- the images once the segments with these ids take no more appends
abbrev pub all_trimmed : List ℕ → List Image → List Image
all_trimmed ids cs = map (λ (image : Image). if has ids image.id then trimmed image else image) cs

-- the images once a pass has ended: those of its victims are gone, and its survivors take no more appends
abbrev pub after_pass : Pass → List Image → List Image
after_pass p cs = all_trimmed (survivor_ids p.survivors) (staying p.victims cs)
