-- How objects are packed into a new log as they are loaded, one after another, and the memory that this takes.
use Rattle.std.specs.Prelude.{ℕ, ◌+◌, ◌*◌, ◌/◌, ◌≤◌, ◌==◌, ◌&&◌, List, [], ◌∷◌}
use Rattle.std.specs.Prelude.{Bool, nat_le, if◌then◌else◌}
use Rattle.std.specs.Int.{div_ceil}
use Rattle.packing.specs.declared.sizes.Sizes.{Sizes}
use Rattle.packing.specs.declared.new_log.NewLog.{NewLog}

-- ---- sizes

-- sizes that a configuration may have
pub record AreSound (s : Sizes) : Type 0 where
  pub seglet : 64 ≤ s.seglet
  pub least : 512 ≤ s.segment
  pub most : s.segment ≤ 8388608

-- the seglets of a whole segment
abbrev pub whole : Sizes → ℕ
whole s = s.segment / s.seglet

-- how many segments a digest may list
abbrev pub most_ids : Sizes → ℕ
most_ids s = s.segment / 32

-- ---- one object after another

-- the bytes of the opening of a head whose digest lists so many segments: header, digest and safe version
abbrev pub opening_len : Sizes → ℕ → ℕ
opening_len s listed = 32 + (if s.format == 2 then 16 * listed else 8 * listed)

-- a log whose first head has its opening alone
abbrev pub empty_log : Sizes → NewLog
empty_log s = record { closed = 0; used = 0; len = opening_len s 1 }

-- The head is closed, and the next one is open. Its digest lists the closed segments and itself.
abbrev pub rolled : Sizes → NewLog → NewLog
rolled s l = record {
  closed = l.closed + 1;
  used = l.used + div_ceil l.len s.seglet;
  len = opening_len s (l.closed + 2);
}

-- so many bytes more in the head
abbrev pub longer : NewLog → ℕ → NewLog
longer l n = record l { len = l.len + n }

-- the head has room for so many bytes more
abbrev pub takes : Sizes → NewLog → ℕ → Bool
takes s l n = nat_le (l.len + n) s.segment

-- with one object more, of this length: in the head if it has room, and else in the next one
abbrev pub with_object : Sizes → NewLog → ℕ → NewLog
with_object s l n = if takes s l n then longer l n else longer (rolled s l) n

-- objects of these lengths, one after another
abbrev pub packed : Sizes → NewLog → List ℕ → NewLog
packed s l [] = l
packed s l (n ∷ lengths) = packed s (with_object s l n) lengths

-- The digest has places for the segments of this log and for one more, and no sum of its numbers can overflow.
pub record IsSmall (s : Sizes) (l : NewLog) : Type 0 where
  pub places : l.closed + 2 ≤ most_ids s
  pub used : l.used ≤ l.closed * 67108864
  pub len : l.len ≤ 33554432

-- ---- the memory

-- The seglets that a master needs so that every roll up to this log may begin: those of the closed segments, and three
-- whole segments. One of these is the head, and two have to be free as a roll begins.
abbrev pub seglets_at : Sizes → NewLog → ℕ
seglets_at s l = 3 * whole s + l.used

-- The digest has places for the segments of this log and for one more, and the master has the seglets.
abbrev pub is_within : Sizes → NewLog → Bool
is_within s l = nat_le (l.closed + 2) (most_ids s) && nat_le (seglets_at s l) s.seglets

-- the seglets that a new master needs to load objects of these lengths
abbrev pub seglets_needed : Sizes → List ℕ → ℕ
seglets_needed s lengths = seglets_at s (packed s (empty_log s) lengths)

-- the digest has places for the heads that objects of these lengths close
abbrev pub fits_digest : Sizes → List ℕ → Bool
fits_digest s lengths = nat_le ((packed s (empty_log s) lengths).closed + 2) (most_ids s)

-- a new master of these sizes can load objects of these lengths
abbrev pub can_load : Sizes → List ℕ → Bool
can_load s lengths = is_within s (packed s (empty_log s) lengths)
