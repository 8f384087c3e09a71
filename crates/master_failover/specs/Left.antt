-- How many pushes an open failover still needs, at most.
use Rattle.std.specs.Prelude.{ℕ, suc, ◌+◌, ◌-◌, List, [], ◌∷◌, length, ◌==◌, nat_lt, if◌then◌else◌}
use Rattle.std.specs.Option.{option_map_or}
use Rattle.images.specs.Image.{Image}
use Rattle.images.specs.Sorted.{replicas_of}
use Rattle.log_head.specs.declared.head.Roll.{Roll}
use Rattle.log_head.specs.Log.{head_of, start_of}
use Rattle.master_state.specs.declared.failover.Failover.{Failover}
use Rattle.master_state.specs.declared.failover.Part.{Part}
use Rattle.master_state.specs.declared.failover.Part.TheVariants as part
use Rattle.master_state.specs.Data.{MasterData}
use Rattle.master_failover.specs.Mending.{was_headless, opened_now}

-- how many of these numbers are below n
abbrev pub count_below : ℕ → List ℕ → ℕ
count_below n [] = 0
count_below n (m ∷ ms) = if nat_lt m n then suc (count_below n ms) else count_below n ms

-- how many replicas these segments lost; the segment `head` counts as one that has all
abbrev pub lost_of : ℕ → List Image → ℕ → List ℕ → ℕ
lost_of replicas closed head [] = 0
lost_of replicas closed head (s ∷ ids) =
    if s == head then lost_of replicas closed head ids
    else (replicas - replicas_of closed s) + lost_of replicas closed head ids

-- the segments that the newest digest lists, without the head that bears this digest: the head that a roll is opening,
-- or else the core's head
abbrev pub others_now : MasterData → List ℕ
others_now d = option_map_or (λ (r : Roll). (start_of r).others) d.head.roll (head_of d.head).start.others

-- how many replicas these segments lost; the head in force lost none, for it is mended before a new head is opened
abbrev pub lost_now : MasterData → ℕ
lost_now d = lost_of d.config.replicas d.closed d.head.id (others_now d)

-- how many replicas of the head lack some unit or are lost; if no head was open when the failover began, all count
abbrev pub unmended : MasterData → ℕ
unmended d =
    if was_headless d then d.config.replicas
    else count_below (length d.head.units) d.head.taken + (d.config.replicas - length d.head.taken)

-- how many replicas of the old head aren't closed yet
abbrev pub to_close : MasterData → ℕ
to_close d = option_map_or (λ (r : Roll). d.config.replicas - r.closed) d.head.roll 0

-- How many pushes the failover needs from this part on, at most. Mends mends the head's replicas, Opens opens the new
-- head and raises the registry, Closes closes the old head, and Repairs seals the lost replicas.
abbrev pub left_in : MasterData → Part → ℕ
left_in d part.Mends = unmended d + (d.config.replicas + 1) + d.config.replicas + lost_now d
left_in d part.Opens = (d.config.replicas - opened_now d) + 1 + to_close d + lost_now d
left_in d part.Closes = to_close d + lost_now d
left_in d part.Repairs = lost_now d

-- how many pushes the open failover still needs, at most; 0 if no failover is open
abbrev pub left_now : MasterData → ℕ
left_now d = option_map_or (λ (f : Failover). left_in d f.part) d.failover 0
