-- How much memory a master counts, in seglets, and when a roll or a pass may begin.
use Rattle.std.specs.Prelude.{ℕ, ◌+◌, ◌-◌, ◌*◌, ◌/◌, ◌^◌, ◌==◌, ◌&&◌, ◌||◌, List, [], length, sum_by, Bool, false}
use Rattle.std.specs.Prelude.{nat_le, Option, is_some, is_none, if◌then◌else◌}
use Rattle.std.specs.Int.{div_ceil}
use Rattle.std.specs.Option.{option_map_or}
use Rattle.cleaner.specs.declared.pass.Pass.{Pass}
use Rattle.cleaner.specs.Passes.{survivor_ids, is_ready as is_ready_pass}
use Rattle.entry.specs.declared.entry.Entry.{Entry}
use Rattle.entry.specs.Text.{text_of}
use Rattle.images.specs.Images.{count_of}
use Rattle.log_head.specs.declared.head.Roll.{Roll}
use Rattle.log_head.specs.Head.{HeadValue, is_open, digest_of}
use Rattle.versioned_map.specs.declared.command.Command.{Command}
use Rattle.versioned_map.specs.declared.command.Command.TheVariants.{Get, Put, Delete}
use Rattle.master_state.specs.declared.config.Config.{Config}
use Rattle.master_state.specs.declared.failover.Failover.{Failover}
use Rattle.master_state.specs.Data.{MasterData}

-- the seglets of a whole segment
abbrev pub whole_seglets : Config → ℕ
whole_seglets c = c.segment / c.seglet

-- the seglets that an image fills, the last one perhaps in part
abbrev pub seglets_of : Config → List Entry → ℕ
seglets_of c image = div_ceil (length (text_of image)) c.seglet

-- a failover is open that still has the image of an abandoned head
abbrev pub has_abandoned : MasterData → Bool
has_abandoned d = option_map_or (λ (f : Failover). is_some f.abandoned) d.failover false

-- How many seglets the head counts: a whole segment. While a roll is under way or a failover has the image of an
-- abandoned head, that new head counts a whole segment, and the old head counts its own length.
abbrev pub head_seglets : MasterData → ℕ
head_seglets d =
    if is_some d.head.roll || has_abandoned d then seglets_of d.config d.head.image + whole_seglets d.config
    else whole_seglets d.config

-- how many seglets are counted: those of the head, of each closed segment by its length, and of each survivor of the
-- open pass as a whole segment
abbrev pub used_seglets : MasterData → ℕ
used_seglets d = head_seglets d + sum_by (count_of d.config.segment d.config.seglet) d.closed

-- how many seglets of the configuration aren't counted
abbrev pub free_seglets : MasterData → ℕ
free_seglets d = d.config.seglets - used_seglets d

-- ---- passes

-- the ids of the victims of the open pass; no ids if none is open
abbrev pub victims_of : Option Pass → List ℕ
victims_of pass = option_map_or (λ (p : Pass). p.victims) pass []

-- the ids of the survivors of the open pass; no ids if none is open
abbrev pub survivors_of : Option Pass → List ℕ
survivors_of pass = option_map_or (λ (p : Pass). survivor_ids p.survivors) pass []

-- a pass is open and ready for its commit: nothing is left to copy, and each replica of its survivors is sealed
abbrev pub is_ready : MasterData → Bool
is_ready d = option_map_or (is_ready_pass d.config.replicas d.closed) d.pass false

-- a pass is open, and the roll that is under way is its commit
abbrev pub is_committing : MasterData → Bool
is_committing d = option_map_or (λ (p : Pass). p.is_committing) d.pass false

-- ---- when a roll may begin

-- all replicas of the head are open, no roll is under way, and no failover is open
abbrev pub is_working : MasterData → Bool
is_working d = is_open d.head && is_none d.failover

-- the ids of the newest digest: the digest of the head that a roll is opening, or else the digest of the head
abbrev pub newest_digest : HeadValue → List ℕ
newest_digest h = option_map_or (λ (r : Roll). digest_of r.image) h.roll (digest_of h.image)

-- how many ids a digest may list at most, and so how many segments a log may have
abbrev pub most_segments : Config → ℕ
most_segments c = c.segment / 32

-- how many whole segments have to be free when a roll begins for a command: a put leaves one more free than a delete
abbrev pub segments_for : Command → ℕ
segments_for (Get k) = 2
segments_for (Put k value when) = 3
segments_for (Delete k) = 2

-- how many of these segments an open pass has taken already: it has at least one survivor, and one is counted
abbrev pub segments_taken : MasterData → ℕ
segments_taken d = option_map_or (λ (p : Pass). 1) d.pass 0

-- how many segments the next commit takes out of the digest: the victims of the open pass, or one if none is open
abbrev pub segments_leaving : MasterData → ℕ
segments_leaving d = option_map_or (λ (p : Pass). length p.victims) d.pass 1

-- how many segments the next commit takes into the digest beside the head: the survivors of the open pass, or one if
-- none is open
abbrev pub segments_entering : MasterData → ℕ
segments_entering d = option_map_or (λ (p : Pass). p.survivors.count) d.pass 1

-- There is space for a roll. Its digest may list one id more than the newest digest. The digest of the next commit may
-- then list the commit's survivors and head in place of its victims. So many whole segments are free once the old head
-- counts its length. An open pass has taken one of them already.
abbrev pub has_space : MasterData → ℕ → Bool
has_space d segments =
    let more = length (newest_digest d.head) + 1 in
    nat_le more (most_segments d.config)
    && nat_le more (most_segments d.config - 1 - segments_entering d + segments_leaving d)
    && nat_le ((segments - segments_taken d) * whole_seglets d.config + seglets_of d.config d.head.image)
    (free_seglets d)

-- how many ids the digest of the next commit lists
abbrev pub commit_listed : MasterData → ℕ
commit_listed d = length (digest_of d.head.image) - segments_leaving d + segments_entering d + 1

-- The commit of a pass that is ready may always begin under format 1. Under format 2 a failover may have used what was
-- kept for the commit. So the commit may begin if its digest has places for its ids, and if the seglets that the old
-- head counts are free.
abbrev pub may_commit : MasterData → Bool
may_commit d =
    (d.config.format == 1)
    || nat_le (commit_listed d) (most_segments d.config) && nat_le (seglets_of d.config d.head.image) (free_seglets d)

-- The rule of a roll that begins with so many whole segments free. If a pass is ready, the roll is its commit.
abbrev pub may_roll : MasterData → ℕ → Bool
may_roll d segments = if is_ready d then may_commit d else has_space d segments

-- ---- when the new head of a failover may be opened

-- how many ids the digest of a failover's new head lists
abbrev pub turn_listed : MasterData → ℕ
turn_listed d = if is_ready d then commit_listed d else length (digest_of d.head.image) + 1

-- how many seglets have to be free for a failover's new head: those of the old head, unless it counts its length
-- already
abbrev pub turn_need : MasterData → ℕ
turn_need d = if has_abandoned d then 0 else seglets_of d.config d.head.image

-- The rule of a failover's new head: an id is left, the digest has places for its ids, and the needed seglets are free.
-- The new head may use what is kept for other rolls. If no head was opened on all its homes yet, the new head takes the
-- place of the first head, and only the id is needed.
abbrev pub may_turn : MasterData → Bool
may_turn d =
    nat_le d.next (2 ^ 62)
    && (option_map_or (λ (f : Failover). f.is_first) d.failover false
    || nat_le (turn_listed d) (most_segments d.config) && nat_le (turn_need d) (free_seglets d))

-- ---- when a pass may begin

-- a whole segment is free for each of so many survivors, and for one more
abbrev pub has_memory_for : MasterData → ℕ → Bool
has_memory_for d survivors = nat_le ((survivors + 1) * whole_seglets d.config) (free_seglets d)

-- the digest of the commit may list so many survivors and its own head in place of so many victims
abbrev pub has_places_for : MasterData → ℕ → ℕ → Bool
has_places_for d victims survivors =
    nat_le (length (newest_digest d.head) - victims + survivors + 1) (most_segments d.config)

-- The rule of a pass with so many victims and survivors.
abbrev pub may_clean : MasterData → ℕ → ℕ → Bool
may_clean d victims survivors = has_memory_for d survivors && has_places_for d victims survivors
