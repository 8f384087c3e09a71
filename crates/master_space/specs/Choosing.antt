-- Which victims the next pass takes, and which step a cleaner takes next.
use Rattle.std.specs.Prelude.{◌≡◌, true, ℕ, suc, ◌==◌, ◌&&◌, ◌||◌, Bool, not, nat_lt, if◌then◌else◌}
use Rattle.std.specs.Prelude.{List, [], ◌∷◌, length, map, filter, take, Option, Some, None, is_some}
use Rattle.std.specs.Option.{option_map_or}
use Rattle.cleaner.specs.declared.pass.Pass.{Pass}
use Rattle.cleaner.specs.declared.level.Level.{Level}
use Rattle.cleaner.specs.Filling.{first_level, filled}
use Rattle.cleaner.specs.KeptLengths.{segment_lengths}
use Rattle.cleaner.specs.Passes.{images_in, is_at_end, next_seal as next_seal_of}
use Rattle.entry.specs.Text.{text_of, is_data}
use Rattle.log_head.specs.Head.{is_open, digest_of}
use Rattle.master_space.specs.declared.candidates.Candidate.{Candidate}
use Rattle.master_state.specs.declared.step.Step.{Step}
use Rattle.master_state.specs.declared.step.Step.TheVariants.{Push, BeginRoll, BeginClean, Copy, Seal, Free}
use Rattle.master_state.specs.Budget.{is_working, has_memory_for, has_places_for}
use Rattle.master_state.specs.Causes.{is_head, survivors_for}
use Rattle.master_state.specs.Data.{MasterData}
use Rattle.master_state.specs.Log.{log_set_ids}
use Rattle.master_state.specs.Steps.{kept_now}

-- ---- candidates, in order

-- a pass takes the candidate c before x: c keeps fewer bytes, or as many and has the lower id
abbrev pub is_before : Candidate → Candidate → Bool
is_before c x = nat_lt c.kept x.kept || ((c.kept == x.kept) && nat_lt c.id x.id)

-- sorted candidates, with one more at its place
abbrev pub placed : Candidate → List Candidate → List Candidate
placed c [] = c ∷ []
placed c (x ∷ xs) = if is_before c x then c ∷ x ∷ xs else x ∷ placed c xs

-- candidates, sorted by how few bytes they keep
abbrev pub sorted : List Candidate → List Candidate
sorted [] = []
sorted (c ∷ cs) = placed c (sorted cs)

-- ---- the choice

-- the segments of the digest in force that are no heads
abbrev pub older_ids : MasterData → List ℕ
older_ids d = filter (λ (id : ℕ). not (is_head d.head id)) (digest_of d.head.image)

-- how many bytes of a segment's objects and tombstones are kept
abbrev pub kept_bytes : MasterData → ℕ → ℕ
kept_bytes d id = length (text_of (filter is_data (kept_now d id)))

-- the segments that may be victims of the next pass
abbrev pub candidates : MasterData → List Candidate
candidates d = map (λ (id : ℕ). record { id = id; kept = kept_bytes d id }) (older_ids d)

-- how far the survivors are filled after the kept entries of one more segment
abbrev pub filled_by : MasterData → Level → ℕ → Level
filled_by d level id =
    filled d.config.segment level (segment_lengths (log_set_ids d) d.index id (images_in d.closed id))

-- the ids of the candidates before the first one whose kept entries would need a fifth survivor, or a survivor for
-- which no memory is free
abbrev pub fitting : MasterData → Level → List Candidate → List ℕ
fitting d level [] = []
fitting d level (c ∷ cs) =
    let next = filled_by d level c.id in
    if nat_lt next.survivor 4 && has_memory_for d (suc next.survivor) then c.id ∷ fitting d next cs else []

-- The victims of the next pass. They are at most 32 segments, and those that keep the fewest bytes. Their kept entries
-- fill at most four survivors, for which there is memory.
abbrev pub chosen : MasterData → List ℕ
chosen d = fitting d first_level (take 32 (sorted (candidates d)))

-- ---- the next step

-- the next step of an open pass: its copies come first, then its seals, and then its commit, once a roll can begin
abbrev pub pass_step : MasterData → Pass → Step
pass_step d p =
    if not (is_at_end p) then Copy
    else if is_some (next_seal_of d.config.replicas d.closed p) then Seal
    else if is_open d.head then BeginRoll
    else Push

-- the next step of what is under way if no failover and no pass is open: pushes come first, until the head is open, and
-- then the replicas that wait are freed
abbrev pub pending_without : MasterData → Option Step
pending_without d =
    if not (is_open d.head) then Some Push
    else if not (length d.waiting == 0) then Some Free
    else None

-- the next step of what is under way: an open failover goes on first, then an open pass, then pushes and frees
abbrev pub pending_step : MasterData → Option Step
pending_step d =
    if is_some d.failover then Some Push
    else option_map_or (λ (p : Pass). Some (pass_step d p)) d.pass (pending_without d)

-- without an open pass the next step needs a choice of victims: the head is open, no failover is open, and no replica
-- waits to be freed
abbrev pub NeedsChoice : MasterData → Type 0
NeedsChoice d = (is_working d ≡ true) × (length d.waiting ≡ 0)

-- the next pass may begin: it has victims, and the log has places for its survivors and the head of its commit
abbrev pub may_begin_next : MasterData → Bool
may_begin_next d =
    has_places_for d (length (chosen d)) (survivors_for d (chosen d)) && not (length (chosen d) == 0)

-- The step that a cleaner takes if no failover and no pass is open. Pushes come first, until the head is open. Then the
-- replicas that wait are freed, and then the next pass begins, if it may.
abbrev pub step_without : MasterData → Option Step
step_without d =
    if not (is_open d.head) then Some Push
    else if not (length d.waiting == 0) then Some Free
    else if may_begin_next d then Some (BeginClean (chosen d))
    else None

-- the step that a cleaner takes next: an open failover goes on first, then an open pass, then what `step_without` says
abbrev pub next_step : MasterData → Option Step
next_step d =
    if is_some d.failover then Some Push
    else option_map_or (λ (p : Pass). Some (pass_step d p)) d.pass (step_without d)
