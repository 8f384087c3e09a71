-- How a bucket packs its places: as tags, offsets and segments.
use Rattle.std.specs.Prelude.{ℕ, ◌+◌, ◌*◌, ◌/◌, ◌%◌, nat_lt, ◌<◌, ◌==◌, List, [], ◌∷◌, Bool, not, filter}
use Rattle.std.specs.List.{AllByRecursion}
use Rattle.places.specs.declared.place.Held.{Held}

-- The place that a slot packs. Its hash is the tag, followed by the upper nine bits of the offset's word. Its offset
-- is the lower 23 bits of this word.
abbrev pub unpacked : ℕ → ℕ → ℕ → Held
unpacked tag at segment = record {
  hash = tag * 512 + at / 8388608;
  place = record { segment = segment; at = at % 8388608 };
}

-- the slots that these tags, words of offsets and segments make
abbrev pub slots_of : List ℕ → List ℕ → List ℕ → List Held
slots_of [] xs ss = []
slots_of (t ∷ ts) [] ss = []
slots_of (t ∷ ts) (x ∷ xs) [] = []
slots_of (t ∷ ts) (x ∷ xs) (s ∷ ss) = unpacked t x s ∷ slots_of ts xs ss

-- the slot has the tag
abbrev pub has_tag : ℕ → Held → Bool
has_tag tag slot = slot.hash / 512 == tag

-- the hash of the slot has these lower nine bits
abbrev pub has_low : ℕ → Held → Bool
has_low low slot = slot.hash % 512 == low

-- a slot is free if its tag is 0
abbrev pub is_free : Held → Bool
is_free slot = nat_lt slot.hash 512

-- the places in slots that aren't free
abbrev pub taken : List Held → List Held
taken slots = filter (λ (slot : Held). not (is_free slot)) slots

-- a slot can have this hash and this offset
abbrev pub IsPackable : Held → Type 0
IsPackable h = (h.hash < 33554432) × (h.place.at < 8388608)

-- each of the numbers is below `most`
abbrev pub AreWords : ℕ → List ℕ → Type 0
AreWords most xs = AllByRecursion (λ (x : ℕ). x < most) xs
