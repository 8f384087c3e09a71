-- How a head changes by each call.
use Rattle.std.specs.Prelude.{◌≡◌, ◌≤◌, ℕ, suc, ◌==◌, List, [], ◌∷◌, ◌++◌, length, Option, Some, None, slice_set}
use Rattle.std.specs.Prelude.{unwrap_or, if◌then◌else◌}
use Rattle.std.specs.List.{AllByRecursion, remove}
use Rattle.entry.specs.declared.digest.Listed.{Listed}
use Rattle.entry.specs.declared.entry.Entry.{Entry}
use Rattle.entry.specs.Limits.{ids_in, IsListed}
use Rattle.entry.specs.Text.{text_of, len_in}
use Rattle.log_head.specs.declared.head.Roll.{Roll}
use Rattle.log_head.specs.declared.rolling.Leaving.{Leaving}
use Rattle.log_head.specs.Head.{HeadValue, digest_in, digest_of}
use Rattle.log_laws.specs.Heads.{Start, len_next, lens_next, start_entries}
use Rattle.log_laws.specs.Ids.{all_inserted, without}
use Rattle.log_laws.specs.HeadSteps.{no_lens, no_units}

-- the start of a head with this id, in this format, that is the log's only segment: its digest lists it alone
abbrev pub lone_start : ℕ → ℕ → ℕ → Start
lone_start id format safe = record { id = id; others = []; lens = no_lens format; safe = safe }

-- a head with this many replicas, none of them open
abbrev pub fresh_head : ℕ → ℕ → Start → HeadValue
fresh_head master replicas start = record {
  id = start.id;
  replicas = replicas;
  image = start_entries master start;
  base = length (text_of (start_entries master start));
  units = [];
  taken = [];
  roll = None;
}

-- the head once this unit of the record with this number is appended
abbrev pub with_unit_end : HeadValue → ℕ → List Entry → HeadValue
with_unit_end h number unit = record h {
  image = h.image ++ unit;
  units = h.units ++ record { number = number; end = length (text_of (h.image ++ unit)) } ∷ [];
}

-- the head once one more replica is open, which holds all that comes before the units
abbrev pub with_opened_replica : HeadValue → HeadValue
with_opened_replica h = record h { taken = h.taken ++ 0 ∷ [] }

-- the head once the replacement of a lost replica is open, which holds all units
abbrev pub with_whole_replica : HeadValue → HeadValue
with_whole_replica h = record h { taken = h.taken ++ length h.units ∷ [] }

-- the head once this replica has all units
abbrev pub with_all_taken : HeadValue → ℕ → HeadValue
with_all_taken h j = record h { taken = slice_set h.taken j (length h.units) }

-- the head once all that it holds counts as loaded: it has no units, so each open replica has none
abbrev pub settled : HeadValue → HeadValue
settled h = record h { base = length (text_of h.image); units = []; taken = no_units (length h.taken) }

-- ---- a backup fails

-- the counts of the replicas that are left, if this one is lost
abbrev pub counts_without : List ℕ → Option ℕ → List ℕ
counts_without ns None = ns
counts_without ns (Some j) = remove ns j

-- the head once this replica, if one is named, is lost, and a roll that was under way is abandoned
abbrev pub lost : HeadValue → Option ℕ → HeadValue
lost h replica = record h { taken = counts_without h.taken replica; roll = None }

-- ---- a roll

-- the length that the next digest lists for a segment, after the head of this id with this image; for a survivor it is
-- the length that comes with it
abbrev pub len_after : ℕ → List Entry → List Listed → ℕ → ℕ
len_after head image survivors s =
    unwrap_or (len_in s survivors) (len_next (digest_in image) head (length (text_of image)) s)

-- the lengths that the next digest lists for these segments, or None if it lists no lengths
abbrev pub lens_after : ℕ → List Entry → List Listed → List ℕ → Option (List ℕ)
lens_after head image survivors others = lens_next (digest_in image) (len_after head image survivors) others

-- the start of the next head: its id, the ids of the digest in force without the victims and with the survivors, their
-- lengths if the digest in force lists lengths, and the safe version
abbrev pub start_after : HeadValue → List ℕ → List Listed → ℕ → ℕ → Start
start_after h victims survivors id safe =
    let others = all_inserted (ids_in survivors) (without victims (digest_of h.image)) in
    record { id = id; others = others; lens = lens_after h.id h.image survivors others; safe = safe }

-- the other ids of the next head's digest, after the head with this image
abbrev pub others_after : List Entry → Leaving → List ℕ
others_after image l = all_inserted (ids_in l.survivors.now) (without l.victims.now (digest_of image))

-- A segment may have this length in bytes: at least a header's, and at most 8 MiB.
pub record IsLen (len : ℕ) : Type 0 where
  pub least : 18 ≤ len
  pub greatest : len ≤ 8388608

-- each of these listed segments has the length that `len` gives for its id
abbrev pub AreListedBy : (ℕ → ℕ) → List Listed → Type 0
AreListedBy len segments = AllByRecursion (λ (s : Listed). IsListed s × (s.len ≡ len s.id)) segments

-- a roll to this head, with no replica opened or closed yet
abbrev pub fresh_roll : ℕ → Start → Roll
fresh_roll master start =
    record { id = start.id; image = start_entries master start; opened = 0; closed = 0 }

-- the head once a roll to the head with this start has begun
abbrev pub with_roll : HeadValue → ℕ → Start → HeadValue
with_roll h master start = record h { roll = Some (fresh_roll master start) }

-- the head once one more replica of the roll's new head is open
abbrev pub with_new_replica : HeadValue → Roll → HeadValue
with_new_replica h r = record h { roll = Some (record r { opened = suc r.opened }) }

-- the new head once it is in force: each of its replicas has the opening alone
abbrev pub in_force : HeadValue → Roll → HeadValue
in_force h r = record {
  id = r.id;
  replicas = h.replicas;
  image = r.image;
  base = length (text_of r.image);
  units = [];
  taken = no_units h.replicas;
  roll = None;
}

-- the head once one more replica of it is closed; the last Close puts the new head in force
abbrev pub with_closed_replica : HeadValue → Roll → HeadValue
with_closed_replica h r =
    if suc r.closed == h.replicas then in_force h r else record h { roll = Some (record r { closed = suc r.closed }) }

-- the image of the old head, if the next Close is the last one
abbrev pub old_image : HeadValue → Roll → Option (List Entry)
old_image h r = if suc r.closed == h.replicas then Some h.image else None
