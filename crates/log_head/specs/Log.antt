-- Which head of a log an image holds: its opening, what was loaded, and the units between the ends.
use Rattle.std.specs.Prelude.{◌≡◌, ℕ, ◌+◌, ◌-◌, List, [], ◌∷◌, length, take, drop, Option, Some, None}
use Rattle.std.specs.Prelude.{map, IfSome}
use Rattle.entry.specs.declared.digest.Listed.{Listed}
use Rattle.entry.specs.declared.digest.Digest.{Digest}
use Rattle.entry.specs.declared.digest.Digest.TheVariants as digest
use Rattle.entry.specs.declared.entry.Entry.{Entry}
use Rattle.entry.specs.Text.{text_of, entries_in, data_in, Opening, opening_of, listed_ids}
use Rattle.log_laws.specs.Heads.{Start, LogUnit, Head, start_entries, front_entries, head_entries}
use Rattle.log_laws.specs.HeadSteps.{no_units}
use Rattle.log_head.specs.declared.head.Roll.{Roll}
use Rattle.log_head.specs.declared.head.UnitEnd.{UnitEnd}
use Rattle.log_head.specs.Head.{HeadValue}

-- the ids of a digest without the last, which is the head's own
abbrev pub but_last : List ℕ → List ℕ
but_last [] = []
but_last (x ∷ []) = []
but_last (x ∷ y ∷ ys) = x ∷ but_last (y ∷ ys)

-- the lengths of a digest without the last, if it lists lengths
abbrev pub other_lens : Digest → Option (List ℕ)
other_lens (digest.Ids ids) = None
other_lens (digest.Lengths segments) = Some (but_last (map (λ (s : Listed). s.len) segments))

-- the start of a head with this id, whose image has this opening
abbrev pub start_in : ℕ → Option Opening → Start
start_in id None = record { id = id; others = []; lens = None; safe = 0 }
start_in id (Some o) = record {
  id = id;
  others = but_last (listed_ids o.digest);
  lens = other_lens o.digest;
  safe = o.safe;
}

-- if there are lengths, there is one for each other id
abbrev pub HasLens : Start → Type 0
HasLens n = IfSome n.lens (λ (ns : List ℕ). length ns ≡ length n.others)

-- the entries in the bytes between two offsets
abbrev pub entries_between : List ℕ → ℕ → ℕ → List Entry
entries_between bytes from to = entries_in (take (to - from) (drop from bytes))

-- the units with these ends; the first unit begins at the offset
abbrev pub units_from : List ℕ → ℕ → List UnitEnd → List LogUnit
units_from bytes from [] = []
units_from bytes from (e ∷ es) =
    record { number = e.number; entries = entries_between bytes from e.end } ∷ units_from bytes e.end es

-- what was loaded: the objects and tombstones before the units
abbrev pub loaded_in : HeadValue → List Entry
loaded_in h = data_in (take h.base (text_of h.image))

-- the head of the log that is read from the image, with the counts of its replicas
abbrev pub head_of : HeadValue → Head
head_of h = record {
  start = start_in h.id (opening_of h.image);
  loaded = loaded_in h;
  units = units_from (text_of h.image) h.base h.units;
  taken = h.taken;
}

-- a head of the log once all that it holds counts as loaded, and each of its replicas has it
abbrev pub settled_head : ℕ → Head → Head
settled_head replicas l = record {
  start = l.start;
  loaded = front_entries l (length l.units);
  units = [];
  taken = no_units replicas;
}

-- the start of a roll's new head
abbrev pub start_of : Roll → Start
start_of r = start_in r.id (opening_of r.image)

-- the image of a roll is the opening of its new head
abbrev pub IsNewImage : ℕ → Roll → Type 0
IsNewImage master r = r.image ≡ start_entries master (start_of r)

-- these are the ends of the units; the first unit begins at the offset
abbrev pub AreEnds : ℕ → List UnitEnd → List LogUnit → Type 0
AreEnds from [] [] = Unit {0}
AreEnds from (e ∷ es) (u ∷ us) =
    (e.number ≡ u.number) × (e.end ≡ from + length (text_of u.entries)) × AreEnds e.end es us
AreEnds from [] (u ∷ us) = ⊥
AreEnds from (e ∷ es) [] = ⊥

-- The image holds this head of the log, and the units end where `h` says.
pub record IsImageOf (master : ℕ) (h : HeadValue) (l : Head) : Type 0 where
  pub id : l.start.id ≡ h.id
  pub lens : HasLens l.start
  pub image : h.image ≡ head_entries master l (length l.units)
  pub base : h.base ≡ length (text_of (head_entries master l 0))
  pub ends : AreEnds h.base h.units l.units
  pub taken : l.taken ≡ h.taken
