-- What is true of a pass as it goes on.
use Rattle.std.specs.Prelude.{◌≡◌, ℕ, zero, suc, ◌+◌, ◌<◌, ◌≤◌, ◌↔◌, ◌==◌, if◌then◌else◌, true}
use Rattle.std.specs.Prelude.{List, [], ◌∷◌, ◌++◌, length, drop, Option, Some, None, IsSome}
use Rattle.std.specs.List.{AllByRecursion}
use Rattle.entry.specs.declared.entry.Entry.{Entry}
use Rattle.entry.specs.Bag.{IsAmong}
use Rattle.entry.specs.Text.{text_of, IsSegment}
use Rattle.segment.specs.Bytes.{standing_at}
use Rattle.places.specs.declared.place.Place.{Place}
use Rattle.places.specs.Map.{Places}
use Rattle.images.specs.Image.{Image}
use Rattle.images.specs.Sorted.{IsWhole, image_of, segment_of, replicas_of, changed}
use Rattle.images.specs.Steps.{more_replicas}
use Rattle.compactor.specs.Kept.{kept}
use Rattle.cleaner.specs.declared.pass.Pass.{Pass}
use Rattle.cleaner.specs.declared.pass.Copied.{Copied}
use Rattle.cleaner.specs.Filling.{survivors_for, total, AreSome}
use Rattle.cleaner.specs.KeptLengths.{kept_lengths, survivors_over, segment_lengths, HasRoomsIn}
use Rattle.cleaner.specs.Passes.{images_in, ids_in, survivor_ids, places_from, places_of, rest_of, is_at_end}
use Rattle.cleaner.specs.Passes.{IsCursorAt, IsPass, CopiesOne}
use Rattle.cleaner.specs.Seals.{first_lacking}

-- ---- the places of a pass

-- each of these segments has the same entries in both images
abbrev pub AreSameAt : (ℕ → List Entry) → (ℕ → List Entry) → List ℕ → Type 0
AreSameAt images again ids = (s : ℕ) → IsAmong s ids → again s ≡ images s

-- If the images of the victims are the same, a pass still has the same places to treat.
abbrev pub RestsAgree : Type 0
RestsAgree = (images again : ℕ → List Entry) (p : Pass) → AreSameAt images again p.victims
    → rest_of again p ≡ rest_of images p

-- If the images of the victims are the same, what the cursor read ahead is right for both.
abbrev pub CursorsAgree : Type 0
CursorsAgree = (seed : List ℕ) (images again : ℕ → List Entry) (p : Pass) → AreSameAt images again p.victims
    → IsCursorAt seed images (drop p.cursor.victim p.victims) p.cursor
    → IsCursorAt seed again (drop p.cursor.victim p.victims) p.cursor

-- A pass over images is also a pass over other images, and has the same places to treat, if the victims are the same
-- there and the survivors are whole.
abbrev pub PassesAgree : Type 0
PassesAgree = (seed : List ℕ) (images again : List Image) (p : Pass) → IsPass seed images p
    → ((s : ℕ) → IsAmong s p.victims → segment_of again s ≡ segment_of images s)
    → AllByRecursion (IsWhole again) (survivor_ids p.survivors)
    → IsPass seed again p × (rest_of (images_in again) p ≡ rest_of (images_in images) p)

-- A pass is at its end exactly if no place is left.
abbrev pub EndHasNoRest : Type 0
EndHasNoRest = (seed : List ℕ) (images : List Image) (p : Pass) → IsPass seed images p
    → (is_at_end p ≡ true) ↔ (rest_of (images_in images) p ≡ [])

-- The places that are left are in victims.
abbrev pub RestIsOfVictims : Type 0
RestIsOfVictims = (images : ℕ → List Entry) (p : Pass) (place : Place) → IsAmong place (rest_of images p)
    → IsAmong place.segment p.victims

-- A step of a pass doesn't change the ids of the log set.
abbrev pub CopyKeepsIds : Type 0
CopyKeepsIds = (segment : ℕ) (ids : List ℕ) (p q : Pass) (images images_after : List Image) (held held_after : Places)
    (copied : Copied) (head : ℕ) (new : Option ℕ)
    → CopiesOne segment ids p images held copied q images_after held_after
    → ids_in images_after head new ≡ ids_in images head new

-- ---- how many survivors

-- Some of the entries, in their order, fill no more survivors than all of them.
abbrev pub FewerFillNoMore : Type 0
FewerFillNoMore = (segment : ℕ) (ks ns : List ℕ) → AreSome ks ns → survivors_for segment ks ≤ survivors_for segment ns

-- One survivor is enough exactly if all fit one segment behind a header.
abbrev pub OneIfAllFit : Type 0
OneIfAllFit = (segment : ℕ) (ns : List ℕ) → 18 ≤ segment → (survivors_for segment ns ≡ 1) ↔ (18 + total ns ≤ segment)

-- More entries fill no fewer survivors.
abbrev pub MoreFillNoFewer : Type 0
MoreFillNoFewer = (segment : ℕ) (ns ks : List ℕ) → survivors_for segment ns ≤ survivors_for segment (ns ++ ks)

-- More entries that fit one segment behind a header fill at most one more survivor.
abbrev pub SegmentFillsOneMore : Type 0
SegmentFillsOneMore = (segment : ℕ) (ns ks : List ℕ) → 18 + total ks ≤ segment
    → survivors_for segment (ns ++ ks) ≤ suc (survivors_for segment ns)

-- so many entries of 100 bytes
abbrev pub hundreds : ℕ → List ℕ
hundreds zero = []
hundreds (suc n) = 100 ∷ hundreds n

-- In segments of 512 bytes, 4 such entries fill one survivor, 8 fill two, 9 three, 16 four, and 20 five. No entries
-- fill one.
abbrev pub HundredsFill : Type 0
HundredsFill = (survivors_for 512 (hundreds 4) ≡ 1) × (survivors_for 512 (hundreds 8) ≡ 2)
    × (survivors_for 512 (hundreds 9) ≡ 3) × (survivors_for 512 (hundreds 16) ≡ 4)
    × (survivors_for 512 (hundreds 20) ≡ 5) × (survivors_for 512 [] ≡ 1)

-- ---- what is kept has room

-- The lengths at a segment's places are those of the objects and tombstones that are kept of it.
abbrev pub LengthsOfSegment : Type 0
LengthsOfSegment = (ids : List ℕ) (held : Places) (images : ℕ → List Entry) (s : ℕ) → IsSegment (images s)
    → kept_lengths ids held images (places_from s 0 (images s)) ≡ segment_lengths ids held s (images s)

-- What is kept of a segment that is no longer than the limit fits a segment behind a header.
abbrev pub SegmentFits : Type 0
SegmentFits = (segment : ℕ) (ids : List ℕ) (held : Places) (s : ℕ) (es : List Entry) → IsSegment es
    → length (text_of es) ≤ segment → 18 + total (segment_lengths ids held s es) ≤ segment

-- A pass begins with room for all that its victims keep, if it has at least as many survivors as the kept entries
-- fill, and if each survivor has its header alone.
abbrev pub BeginHasRoomsIn : Type 0
BeginHasRoomsIn = (segment : ℕ) (ids : List ℕ) (p : Pass) (images : List Image) (held : Places) → 18 ≤ segment
    → p.filling ≡ 0 → rest_of (images_in images) p ≡ places_of (images_in images) p.victims
    → AllByRecursion (λ (s : ℕ). IsSegment (images_in images s) × (length (text_of (images_in images s)) ≤ segment))
    p.victims
    → survivors_over segment ids held (images_in images) p.victims ≤ p.survivors.count
    → ((s : ℕ) → IsAmong s (survivor_ids p.survivors) → length (text_of (images_in images s)) ≡ 18)
    → HasRoomsIn segment ids p images held

-- After a step of a pass the survivors have room for what is still to be copied.
abbrev pub CopyLeavesRooms : Type 0
CopyLeavesRooms = (segment : ℕ) (ids : List ℕ) (p q : Pass) (images images_after : List Image)
    (held held_after : Places) (copied : Copied) → IsPass held.seed images p
    → CopiesOne segment ids p images held copied q images_after held_after
    → HasRoomsIn segment ids p images held → HasRoomsIn segment ids q images_after held_after

-- What is kept afterwards at one of the places was kept there before.
abbrev pub KeepsNoMore : List ℕ → List ℕ → Places → Places → (ℕ → List Entry) → List Place → Type 0
KeepsNoMore ids again held later images places = (p : Place) (e : Entry) → IsAmong p places
    → standing_at p.at (text_of (images p.segment)) ≡ Some e → kept again later p e ≡ true → kept ids held p e ≡ true

-- If no more is kept than before, victims that didn't change fill no more survivors than before.
abbrev pub SurvivorsDoNotGrow : Type 0
SurvivorsDoNotGrow = (segment : ℕ) (ids again : List ℕ) (held later : Places) (images after : ℕ → List Entry)
    (victims : List ℕ) → AreSameAt images after victims
    → KeepsNoMore ids again held later images (places_of images victims)
    → survivors_over segment again later after victims ≤ survivors_over segment ids held images victims

-- If no more is kept than before, and victims and survivors didn't change, the survivors still have room.
abbrev pub RoomsStay : Type 0
RoomsStay = (segment : ℕ) (ids again : List ℕ) (p : Pass) (images after : List Image) (held later : Places)
    → AreSameAt (images_in images) (images_in after) p.victims
    → AreSameAt (images_in images) (images_in after) (survivor_ids p.survivors)
    → KeepsNoMore ids again held later (images_in images) (rest_of (images_in images) p)
    → HasRoomsIn segment ids p images held → HasRoomsIn segment again p after later

-- ---- seals

-- The first segment that lacks replicas is one of these, and the number that comes with it is how many it has.
abbrev pub LackingIsOne : Type 0
LackingIsOne = (replicas : ℕ) (images : List Image) (ids : List ℕ) (s n : ℕ)
    → first_lacking replicas images ids ≡ Some (s, n)
    → IsAmong s ids × (n ≡ replicas_of images s) × (n < replicas)

-- No segment lacks replicas exactly if each has at least that many.
abbrev pub NoneIsLacking : Type 0
NoneIsLacking = (replicas : ℕ) (images : List Image) (ids : List ℕ)
    → (first_lacking replicas images ids ≡ None)
    ↔ ((s : ℕ) → IsAmong s ids → replicas ≤ replicas_of images s)

-- A seal gives one more replica to a segment that has an image, and changes no other segment's replicas.
abbrev pub SealAddsOne : Type 0
SealAddsOne = (images : List Image) (s other : ℕ) → IsSome (image_of images s)
    → replicas_of (changed images s more_replicas) other
    ≡ (if other == s then suc (replicas_of images s) else replicas_of images other)

-- A step of a pass changes no segment's replicas.
abbrev pub CopyKeepsReplicas : Type 0
CopyKeepsReplicas = (segment : ℕ) (ids : List ℕ) (p q : Pass) (images images_after : List Image)
    (held held_after : Places) (copied : Copied)
    → CopiesOne segment ids p images held copied q images_after held_after
    → (s : ℕ) → replicas_of images_after s ≡ replicas_of images s
