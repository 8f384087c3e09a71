-- The rule of wills: where partitions begin, and how the tablets are cut there.
use Rattle.std.specs.Prelude.{ℕ, ◌+◌, ◌-◌, ◌==◌, ◌&&◌, ◌||◌, Bool, nat_lt, if◌then◌else◌, List, [], ◌∷◌}
use Rattle.std.specs.List.{flat_map}
use Rattle.entry.specs.declared.tablet.Tablet.{Tablet}
use Rattle.entry.specs.declared.tablet.Size.{Size}
use Rattle.tablet_will.specs.declared.part.Part.{Part}
use Rattle.tablet_will.specs.declared.group.Group.{Group}
use Rattle.tablet_will.specs.declared.group.Start.{Start}
use Rattle.tablet_will.specs.declared.group.Load.{Load}
use Rattle.tablet_will.specs.Parts.{is_in_tablet}
use Rattle.tablet_will.specs.Order.{is_up_to}

-- ---- groups

abbrev pub is_same_place : Group → Group → Bool
is_same_place g h = (g.table == h.table) && (g.place == h.place)

-- the group in front of the others; it is joined with the first of them if both have the same place
abbrev pub joined : Group → List Group → List Group
joined g [] = g ∷ []
joined g (h ∷ hs) =
    if is_same_place g h
    then record g { bytes = g.bytes + h.bytes; objects = g.objects + h.objects } ∷ hs
    else g ∷ h ∷ hs

-- the groups of the sizes: neighbours with the same place are joined to one group
abbrev pub groups : List Size → List Group
groups [] = []
groups (s ∷ ss) =
    joined (record { table = s.table; place = s.place; bytes = s.bytes; objects = 1 }) (groups ss)

-- ---- where partitions begin

-- The next partition begins at the group if three things are true: the present partition has objects, more partitions
-- are allowed, and the present one would have too many bytes or objects with the group.
abbrev pub begins_next : ℕ → ℕ → Load → Group → Bool
begins_next max_bytes max_objects load g = nat_lt 0 load.objects && (nat_lt load.partition 4294967294
    && (nat_lt max_bytes (load.bytes + g.bytes) || nat_lt max_objects (load.objects + g.objects)))

-- the next partition, which begins with this group
abbrev pub next_load : Load → Group → Load
next_load load g = record { partition = load.partition + 1; bytes = g.bytes; objects = g.objects }

-- the present partition with this group added
abbrev pub with_group : Load → Group → Load
with_group load g =
    record { partition = load.partition; bytes = load.bytes + g.bytes; objects = load.objects + g.objects }

-- where the later partitions begin, if the present one has this load and these groups are still to come
abbrev pub starts_from : ℕ → ℕ → Load → List Group → List Start
starts_from max_bytes max_objects load [] = []
starts_from max_bytes max_objects load (g ∷ gs) =
    if begins_next max_bytes max_objects load g
    then record { table = g.table; place = g.place } ∷ starts_from max_bytes max_objects (next_load load g) gs
    else starts_from max_bytes max_objects (with_group load g) gs

-- where the partitions 1, 2, .. begin
abbrev pub starts_of : ℕ → ℕ → List Size → List Start
starts_of max_bytes max_objects ss =
    starts_from max_bytes max_objects (record { partition = 0; bytes = 0; objects = 0 }) (groups ss)

-- ---- parts

-- The parts of a tablet, which is cut wherever a partition begins inside it. n is the number of the partition before
-- the first of these starts.
abbrev pub cut : ℕ → Tablet → List Start → List Part
cut n t [] = record { table = t.table; first = t.first; last = t.last; partition = n } ∷ []
cut n t (s ∷ ss) =
    if is_up_to s.table s.place t.table t.first
    then cut (n + 1) t ss
    else (if is_in_tablet t s.table s.place
    then record { table = t.table; first = t.first; last = s.place - 1; partition = n }
    ∷ cut (n + 1) (record t { first = s.place }) ss
    else record { table = t.table; first = t.first; last = t.last; partition = n } ∷ [])

-- the parts of all tablets, each cut where partitions begin
abbrev pub parts_by_rule : ℕ → ℕ → List Tablet → List Size → List Part
parts_by_rule max_bytes max_objects ts ss =
    flat_map (λ (t : Tablet). cut 0 t (starts_of max_bytes max_objects ss)) ts
