-- A load of a list that can be adopted isn't refused as Full, unless a backup fails.
use Rattle.std.proofs.Common.{◌≡◌, ◌⊎◌, ◌≤◌, ◌+◌, ◌*◌, ◌/◌, ℕ, zero, suc, Bool, true, false, List, [], ◌∷◌, ◌++◌}
use Rattle.std.proofs.Common.{length, refl, sym, ap, subst, inl, inr, ◌∙◌, append_assoc, arith}
use Rattle.std.specs.Prelude.{Option, Some, None, IsSome, nat_le, ◌==◌, if◌then◌else◌}
use Rattle.std.proofs.lemmas.Bool.{le-leb, ltb-false, false_from_ne_true}
use Rattle.entry.specs.declared.entry.Entry.{Entry}
use Rattle.entry.specs.declared.entry.Entry.TheVariants as entry
use Rattle.entry.specs.declared.entry.Object.{Object}
use Rattle.entry.specs.Text.{lists_lengths}
use Rattle.entry.proofs.SpellingLemmas.{length-object}
use Rattle.entry.proofs.TextLemmas.{length_first}
use Rattle.replica.specs.Picture.{FleetState}
use Rattle.packing.specs.declared.new_log.NewLog.{NewLog}
use Rattle.packing.specs.declared.sizes.Sizes.{Sizes}
use Rattle.packing.specs.Packing.{empty_log, rolled, longer, takes, with_object, packed, can_load}
use Rattle.packing.proofs.Packed.{may_roll as may_roll_at}
use Rattle.packing.proofs.Packed.{never_full}
use Rattle.driving.specs.master.log_head.Head.{is_open}
use Rattle.driving.specs.master.log_head.Steps.{lone_start}
use Rattle.driving.specs.master.log_laws.Heads.{digest_for, start_entries}
use Rattle.driving.specs.master_core.master_state.declared.config.Config.{Config}
use Rattle.driving.specs.master_core.master_state.declared.failover.Failover.{Failover}
use Rattle.driving.specs.master_core.master_state.declared.step.Refusal.TheVariants as refusal
use Rattle.driving.specs.master_core.master_state.declared.step.Step.TheVariants.{Push}
use Rattle.driving.specs.master_core.master_state.declared.step.StepAnswer.{StepAnswer}
use Rattle.driving.specs.master_core.master_state.Budget.{is_working, may_roll}
use Rattle.driving.specs.master_core.master_state.Causes.{has_room, is_done}
use Rattle.driving.specs.master_core.master_state.Config.{config_fault, sizes_of}
use Rattle.driving.specs.master_core.master_state.Data.{MasterData}
use Rattle.driving.specs.master_core.master_state.Loading.{load_refusal, loaded_unit, is_object_too_big, restored_data}
use Rattle.driving.specs.master_core.master_state.Loading.{Loads}
use Rattle.driving.specs.master.Steps.{Accepts, Declines}
use Rattle.driving.specs.master.World.{World, world_of}
use Rattle.claims.specs.declared.rebuilt.Rebuilt.{Rebuilt}
use Rattle.driving.specs.Rolls.{Advances, ArePushed, PushesUntil, GoesRolling, IsRolled}
use Rattle.driving.proofs.Losses.{push_lost}
use Rattle.driving.proofs.MasterSteps.{accepted_fixed, nothing_waits, push_tested, open_push}
use Rattle.driving.proofs.Heads.{no_roll, works_parts}
use Rattle.driving.proofs.of_master.PushKinds.{kinds}
use Rattle.driving.proofs.of_master.log_head.Heads.{text_more}
use Rattle.driving.proofs.of_master.master_state.Refusals.{sizes_of as config_sizes}
use Rattle.replay.specs.Adopting.{HasToWait, HasRoomMade, LoadsOne, HasLoaded, DeclinesOne, IsStuck, Stops}
use Rattle.replay.specs.Needs.{length_of, lengths_of, CanBeAdopted}
use Rattle.replay.proofs.LoadTests.{full_tells, wait_tells, load_tells, roll_full_tells, rolls_tell}
use Rattle.replay.proofs.LoadedLogs.{lens_on, opening_at, IsQuiet, IsBusy, IsBusyOrNext, quiet_pushed, busy_pushed}
use Rattle.replay.proofs.LoadedLogs.{begins, may_now, may_listed}

-- ---- no backup has failed

-- a push that is accepted leaves which backups have failed
pub push_unfailing : (old new : World) (a : StepAnswer) → Accepts old Push a new
    → new.knows.failed ≡ old.knows.failed
push_unfailing old new a push i = (accepted_fixed old new a push i).2

-- none had failed before a push, if none has after it
push_unfailed : (old new : World) → Advances Push old new → new.knows.failed ≡ [] → old.knows.failed ≡ []
push_unfailed old new (inl (a, push)) none = sym (push_unfailing old new a push) ∙ none
push_unfailed old new (inr (b, push)) none =
    absurd (let never = sym (ap (λ (d : MasterData). d.failed) (push_lost old new b push).knows) ∙ none in cc)

pushes_unfailed : (count : ℕ) (old new : World) → ArePushed count old new → new.knows.failed ≡ []
    → old.knows.failed ≡ []
pushes_unfailed zero old new same none = ap (λ (w : World). w.knows.failed) (sym same) ∙ none
pushes_unfailed (suc count) old new (mid, before, push) none =
    pushes_unfailed count old mid before (push_unfailed mid new push none)

until_unfailed : (old new : World) → PushesUntil old refusal.Nothing new → new.knows.failed ≡ []
    → old.knows.failed ≡ []
until_unfailed old new (count, mid, pushes, declines, lost) none =
    pushes_unfailed count old mid pushes
    (ap (λ (w : World). w.knows.failed) (sym (nothing_waits mid new declines).0) ∙ none)

rolling_unfailed : (old new : World) → GoesRolling old new → new.knows.failed ≡ [] → old.knows.failed ≡ []
rolling_unfailed old new (inl (a, roll)) none = sym (ap (λ (d : MasterData). d.failed) roll.0.rest) ∙ none
rolling_unfailed old new (inr (same, why)) none = ap (λ (w : World). w.knows.failed) (sym same) ∙ none

rolled_unfailed : (id : ℕ) (old new : World) → IsRolled old id new → new.knows.failed ≡ [] → old.knows.failed ≡ []
rolled_unfailed id old new h none =
    rolling_unfailed old h.mid h.rolling (until_unfailed h.mid new h.pushed none)

room_unfailed : (count : ℕ) (o : Object) (old new : World) → HasRoomMade count o old new → new.knows.failed ≡ []
    → old.knows.failed ≡ []
room_unfailed zero o old new same none = ap (λ (w : World). w.knows.failed) (sym same) ∙ none
room_unfailed (suc count) o old new (mid, before, waits, rolls) none =
    room_unfailed count o old mid before (rolled_unfailed new.knows.head.id mid new rolls none)

loads_unfailed : (o : Object) (old new : World) → Loads old.knows o new.knows → new.knows.failed ≡ []
    → old.knows.failed ≡ []
loads_unfailed o old new h none = sym (ap (λ (d : MasterData). d.failed) h.rest) ∙ none

one_unfailed : (o : Object) (old new : World) → LoadsOne o old new → new.knows.failed ≡ [] → old.knows.failed ≡ []
one_unfailed o old new (rooms, mid, made, loads, fleet) none =
    room_unfailed rooms o old mid made (loads_unfailed o mid new loads none)

loaded_unfailed : (os : List Object) (old new : World) → HasLoaded os old new → new.knows.failed ≡ []
    → old.knows.failed ≡ []
loaded_unfailed [] old new same none = ap (λ (w : World). w.knows.failed) (sym same) ∙ none
loaded_unfailed (o ∷ os) old new (mid, one, rest) none =
    one_unfailed o old mid one (loaded_unfailed os mid new rest none)

-- ---- refused as Full

push_never_full : (old new : World) → Declines old Push refusal.Full new → ⊥
push_never_full old new (inl h) = tested (push_tested old.knows.is_halted (is_done old.knows) _ h.0)
  where
    tested : (refusal.Full ≡ refusal.Halted) ⊎ ((refusal.Full ≡ refusal.Nothing) × (is_done old.knows ≡ true)) → ⊥
    tested (inl is) = cc
    tested (inr both) = let never = both.0 in cc
push_never_full old new (inr (test, inl h)) = let never = h.2 in cc
push_never_full old new (inr (test, inr (inl h))) = let never = h.2 in cc
push_never_full old new (inr (test, inr (inr h))) = h.1

-- no push is refused as Full
pub until_never_full : (old new : World) → PushesUntil old refusal.Full new → ⊥
until_never_full old new (count, mid, pushes, declines, lost) = push_never_full mid new declines

-- and a load that is refused so changes nothing
pub declined_same : (o : Object) (old new : World) → DeclinesOne o old refusal.Full new → new ≡ old
declined_same o old new (inl (declines, fleet)) = λ i. record { knows = declines.0 i; fleet = fleet i }
declined_same o old new (inr (waits, inl (declines, not_rolling))) = declines.0
declined_same o old new (inr (waits, inr (mid, rolling, until, not_nothing))) =
    absurd (until_never_full mid new until)

-- ---- pushes

not_failing : (f : Option Failover) → f ≡ None → IsSome f → ⊥
not_failing None is some = cc
not_failing (Some g) is some = cc

module _ (c : Config) (l : NewLog) where
  quiet_on : (old new : World) → Advances Push old new → new.knows.failed ≡ [] → IsQuiet c l old.knows
      → IsQuiet c l new.knows
  quiet_on old new (inl (a, push)) none q = elim (kinds old a new push) as (λ _. IsQuiet c l new.knows) [
    | inl head ↦ subst (IsQuiet c l) (sym head.rest) (quiet_pushed c l old.knows head.push q)
    | inr mend ↦ absurd (not_failing old.knows.failover q.at.calm mend.failing)
  ]
  quiet_on old new (inr (b, push)) none q =
      absurd (let never = sym (ap (λ (d : MasterData). d.failed) (push_lost old new b push).knows) ∙ none in cc)

  busy_on : (old new : World) → Advances Push old new → new.knows.failed ≡ [] → IsBusy c l old.knows
      → IsBusyOrNext c l new.knows
  busy_on old new (inl (a, push)) none q = elim (kinds old a new push) as (λ _. IsBusyOrNext c l new.knows) [
    | inl head ↦ subst (IsBusyOrNext c l) (sym head.rest) (busy_pushed c l old.knows head.push q)
    | inr mend ↦ absurd (not_failing old.knows.failover q.at.calm mend.failing)
  ]
  busy_on old new (inr (b, push)) none q =
      absurd (let never = sym (ap (λ (d : MasterData). d.failed) (push_lost old new b push).knows) ∙ none in cc)

quiets_on : (c : Config) (l : NewLog) (count : ℕ) (old new : World) → ArePushed count old new
    → new.knows.failed ≡ [] → IsQuiet c l old.knows → IsQuiet c l new.knows
quiets_on c l zero old new same none q = subst (λ (w : World). IsQuiet c l w.knows) (sym same) q
quiets_on c l (suc count) old new (mid, before, push) none q =
    quiet_on c l mid new push none
    (quiets_on c l count old mid before (push_unfailed mid new push none) q)

busies_on : (c : Config) (l : NewLog) (count : ℕ) (old new : World) → ArePushed count old new
    → new.knows.failed ≡ [] → IsBusy c l old.knows → IsBusyOrNext c l new.knows
busies_on c l zero old new same none q = subst (λ (w : World). IsBusyOrNext c l w.knows) (sym same) (inl q)
busies_on c l (suc count) old new (mid, before, push) none q =
    go (busies_on c l count old mid before (push_unfailed mid new push none) q)
  where
    go : IsBusyOrNext c l mid.knows → IsBusyOrNext c l new.knows
    go (inl q) = busy_on c l mid new push none q
    go (inr q) = inr (quiet_on c (rolled (sizes_of c) l) mid new push none q)

quiet_until : (c : Config) (l : NewLog) (old new : World) → PushesUntil old refusal.Nothing new
    → new.knows.failed ≡ [] → IsQuiet c l old.knows → IsQuiet c l new.knows
quiet_until c l old new (count, mid, pushes, declines, lost) none q =
    let done = (nothing_waits mid new declines).0 in
    subst (λ (w : World). IsQuiet c l w.knows) (sym done)
    (quiets_on c l count old mid pushes (ap (λ (w : World). w.knows.failed) (sym done) ∙ none) q)

-- once nothing waits a roll has come to its end
busy_until : (c : Config) (l : NewLog) (old new : World) → PushesUntil old refusal.Nothing new
    → new.knows.failed ≡ [] → IsBusy c l old.knows → IsQuiet c (rolled (sizes_of c) l) new.knows
busy_until c l old new (count, mid, pushes, declines, lost) none q =
    go (subst (λ (w : World). IsBusyOrNext c l w.knows) (sym done)
    (busies_on c l count old mid pushes (ap (λ (w : World). w.knows.failed) (sym done) ∙ none) q))
  where
    done : new ≡ mid
    done = (nothing_waits mid new declines).0

    opened : is_open new.knows.head ≡ true
    opened = (works_parts new.knows (open_push mid new refusal.Nothing declines refl)).0

    go : IsBusyOrNext c l new.knows → IsQuiet c (rolled (sizes_of c) l) new.knows
    go (inl q) = absurd (let never = sym (no_roll _ new.knows.head.roll opened) ∙ q.roll in cc)
    go (inr q) = q

-- ---- room is made

-- The head has no room for the object, and its digest takes one more id.
record IsOver (c : Config) (l : NewLog) (o : Object) : Type 0 where
  full : takes (sizes_of c) l (length_of o) ≡ false
  listed : l.closed + 2 ≤ c.segment / 32

room_is : (c : Config) (l : NewLog) (d : MasterData) (o : Object) → IsQuiet c l d
    → has_room d (loaded_unit o) ≡ takes (sizes_of c) l (length_of o)
room_is c l d o q i = nat_le (q.at.len i + length_of o) (q.at.config i).segment

-- how long an object is that isn't too big
pub small_is : (segment : ℕ) (o : Object) → is_object_too_big o segment ≡ false → length_of o ≤ segment / 4
small_is segment o test =
    let le = ltb-false (segment / 4) (50 + 2 * length o.key.bytes + length o.value) test in
    let a = length_first (entry.Object o) [] in
    let b = length-object o in
    omega arith

-- the next head has room for it
fits_next : (c : Config) (l : NewLog) (n : ℕ) → config_fault c ≡ None → l.closed + 2 ≤ c.segment / 32
    → n ≤ c.segment / 4 → takes (sizes_of c) (rolled (sizes_of c) l) n ≡ true
fits_next c l n ok listed small = le-leb _ _ (go (c.format == 2))
  where
    go : (t : Bool) → 32 + (if t then 16 * (l.closed + 2) else 8 * (l.closed + 2)) + n ≤ c.segment
    go true = let sizes = (config_sizes c ok).least_segment in omega arith
    go false = let sizes = (config_sizes c ok).least_segment in omega arith

-- what making room leaves: the log as it was, or with one roll more
abbrev IsMade : Config → NewLog → Object → MasterData → Type 0
IsMade c l o d = IsQuiet c l d ⊎ (IsOver c l o × IsQuiet c (rolled (sizes_of c) l) d)

module _ (c : Config) (ok : config_fault c ≡ None) (l : NewLog) (o : Object) where
  waits_small : (d : MasterData) → d.config ≡ c → load_refusal d o ≡ Some refusal.Rolling
      → length_of o ≤ c.segment / 4
  waits_small d config waits =
      subst (λ (k : Config). length_of o ≤ k.segment / 4) config
      (small_is d.config.segment o (wait_tells _ _ _ _ _ waits).0)

  next_made : (old new : World) → HasToWait o old → IsRolled old new.knows.head.id new → new.knows.failed ≡ []
      → IsMade c l o old.knows → IsMade c l o new.knows
  next_made old new waits h none (inl q) = go h.rolling
    where
      go : GoesRolling old h.mid → IsMade c l o new.knows
      go (inl (a, roll)) = inr (
        record {
          full = sym (room_is c l old.knows o q) ∙ ((wait_tells _ _ _ _ _ waits).1 tests.0).0;
          listed = may_listed c l old.knows q tests.1;
        },
        busy_until c l h.mid new h.pushed none (subst (IsBusy c l) (sym roll.0.rest) (begins c l old.knows q.at)),
      )
        where
          tests : (is_working old.knows ≡ true) × (may_roll old.knows 2 ≡ true)
          tests = rolls_tell old.knows.is_halted (is_working old.knows) _ _ roll.0.passed
      go (inr (same, why)) =
          inl (quiet_until c l h.mid new h.pushed none (subst (λ (w : World). IsQuiet c l w.knows) (sym same) q))
  next_made old new waits h none (inr (over, q)) = go h.rolling
    where
      next : NewLog
      next = rolled (sizes_of c) l

      go : GoesRolling old h.mid → IsMade c l o new.knows
      go (inl (a, roll)) = absurd (
          let works = (rolls_tell old.knows.is_halted (is_working old.knows) _ _ roll.0.passed).0 in
          let none = ((wait_tells _ _ _ _ _ waits).1 works).0 in
          let some = fits_next c l (length_of o) ok over.listed (waits_small old.knows q.at.config waits) in
          let both = sym some ∙ sym (room_is c (rolled (sizes_of c) l) old.knows o q) ∙ none in cc)
      go (inr (same, why)) = inr (
        over,
        quiet_until c (rolled (sizes_of c) l) h.mid new h.pushed none
            (subst (λ (w : World). IsQuiet c (rolled (sizes_of c) l) w.knows) (sym same) q),
      )

  made : (count : ℕ) (old new : World) → HasRoomMade count o old new → new.knows.failed ≡ [] → IsQuiet c l old.knows
      → IsMade c l o new.knows
  made zero old new same none q = inl (subst (λ (w : World). IsQuiet c l w.knows) (sym same) q)
  made (suc count) old new (mid, before, waits, rolls) none q =
      next_made mid new waits rolls none
      (made count old mid before (rolled_unfailed new.knows.head.id mid new rolls none) q)

-- ---- an object is loaded

loaded_at : (c : Config) (l : NewLog) (d e : MasterData) (o : Object) → Loads d o e → IsQuiet c l d
    → IsQuiet c (longer l (length_of o)) e
loaded_at c l d e o h q = subst (IsQuiet c (longer l (length_of o))) (sym h.rest) (record {
  at = record {
    config = q.at.config;
    unfailed = q.at.unfailed;
    calm = q.at.calm;
    passless = q.at.passless;
    start = q.at.start;
    more = q.at.more ++ loaded_unit o;
    image = ap (λ (es : List Entry). es ++ loaded_unit o) q.at.image
        ∙ append_assoc (start_entries c.master q.at.start) q.at.more (loaded_unit o);
    own = q.at.own;
    lens = q.at.lens;
    len = text_more d.head.image (loaded_unit o) ∙ (λ i. q.at.len i + length_of o);
    used = q.at.used;
  };
  roll = q.roll;
})

-- the head takes it, or the next one does
taken_at : (s : Sizes) (l : NewLog) (n : ℕ) → takes s l n ≡ true → longer l n ≡ with_object s l n
taken_at s l n is = sym (ap (λ (t : Bool). if t then longer l n else longer (rolled s l) n) is)

over_at : (s : Sizes) (l : NewLog) (n : ℕ) → takes s l n ≡ false → longer (rolled s l) n ≡ with_object s l n
over_at s l n is = sym (ap (λ (t : Bool). if t then longer l n else longer (rolled s l) n) is)

module _ (c : Config) (ok : config_fault c ≡ None) where
  abbrev s : Sizes
  s = sizes_of c

  one_at : (l : NewLog) (o : Object) (old new : World) → LoadsOne o old new → new.knows.failed ≡ []
      → IsQuiet c l old.knows → IsQuiet c (with_object s l (length_of o)) new.knows
  one_at l o old new (rooms, mid, room, loads, fleet) none q =
      go (made c ok l o rooms old mid room (loads_unfailed o mid new loads none) q)
    where
      go : IsMade c l o mid.knows → IsQuiet c (with_object s l (length_of o)) new.knows
      go (inl q) =
          let room = (load_tells _ _ _ _ _ loads.passed).1 in
          subst (λ (x : NewLog). IsQuiet c x new.knows)
          (taken_at s l (length_of o) (sym (room_is c l mid.knows o q) ∙ room))
          (loaded_at c l mid.knows new.knows o loads q)
      go (inr (over, q)) =
          subst (λ (x : NewLog). IsQuiet c x new.knows) (over_at s l (length_of o) over.full)
          (loaded_at c (rolled s l) mid.knows new.knows o loads q)

  all_at : (os : List Object) (l : NewLog) (old new : World) → HasLoaded os old new → new.knows.failed ≡ []
      → IsQuiet c l old.knows → IsQuiet c (packed s l (lengths_of os)) new.knows
  all_at [] l old new same none q = subst (λ (w : World). IsQuiet c l w.knows) (sym same) q
  all_at (o ∷ os) l old new (mid, one, rest) none q =
      all_at os (with_object s l (length_of o)) mid new rest none
      (one_at l o old mid one (loaded_unfailed os mid new rest none) q)

  -- the head takes no more, and no roll may begin
  abbrev IsFullAt : NewLog → ℕ → Type 0
  IsFullAt l n = (takes s l n ≡ false) × (may_roll_at s l ≡ false)

  module _ (l : NewLog) (o : Object) where
    load_full : (d : MasterData) → load_refusal d o ≡ Some refusal.Full → IsMade c l o d → IsFullAt l (length_of o)
    load_full d full (inl q) =
        let tests = full_tells _ _ _ _ _ full in (
          sym (room_is c l d o q) ∙ tests.1,
          false_from_ne_true (may_roll_at s l)
              (λ is. let both = sym (may_now c l d q is) ∙ tests.2 in cc),
        )
    load_full d full (inr (over, q)) =
        let tests = full_tells _ _ _ _ _ full in
        let small = subst (λ (k : Config). length_of o ≤ k.segment / 4) q.at.config
        (small_is d.config.segment o tests.0) in
        let fits = fits_next c l (length_of o) ok over.listed small in
        absurd (let both = sym fits ∙ sym (room_is c (rolled s l) d o q) ∙ tests.1 in cc)

    declined_full : (old new : World) → DeclinesOne o old refusal.Full new → IsMade c l o old.knows
        → IsFullAt l (length_of o)
    declined_full old new (inl ((same, inl full), fleet)) is = load_full old.knows full is
    declined_full old new (inl ((same, inr (none, memory)), fleet)) is = absurd (cc)
    declined_full old new (inr (waits, inl ((same, inl full), not_rolling))) is = absurd (
        let roll = roll_full_tells old.knows.is_halted (is_working old.knows) _ _ full in
        let may = ((wait_tells _ _ _ _ _ waits).1 roll.0).1 in
        let both = sym may ∙ roll.1 in cc)
    declined_full old new (inr (waits, inl ((same, inr (none, memory)), not_rolling))) is = absurd (cc)
    declined_full old new (inr (waits, inr (mid, rolling, until, not_nothing))) is =
        absurd (until_never_full mid new until)

  -- ---- the first head

  first_quiet : (safe : ℕ) → IsQuiet c (empty_log s) (restored_data c safe)
  first_quiet safe = record {
    at = record {
      config = refl;
      unfailed = refl;
      calm = refl;
      passless = refl;
      start = lone_start 1 c.format safe;
      more = [];
      image = refl;
      own = refl;
      lens = lens;
      len = opening_at c (lone_start 1 c.format safe) 1 lens refl;
      used = refl;
    };
    roll = refl;
  }
    where
      lens : lists_lengths (digest_for (lone_start 1 c.format safe)) ≡ (c.format == 2)
      lens = lens_on (c.format == 2) [] [] 1

lengths_append : (os ps : List Object) → lengths_of (os ++ ps) ≡ lengths_of os ++ lengths_of ps
lengths_append [] ps = refl
lengths_append (o ∷ os) ps = ap (λ (ns : List ℕ). length_of o ∷ ns) (lengths_append os ps)

-- a master that was loaded with such a list, and of which no backup has failed, isn't refused as Full
pub full_is_for_want : (c : Config) (r : Rebuilt) (old new : FleetState) (after : MasterData) → config_fault c ≡ None
    → CanBeAdopted c r.objects
    → Stops r.objects (world_of (restored_data c r.safe) old) refusal.Full (world_of after new)
    → after.failed ≡ [] → ⊥
full_is_for_want c r old new after ok can stops none = go stops.left stops.parts stops.cause
  where
    start : World
    start = world_of (restored_data c r.safe) old

    end : World
    end = world_of after new

    go : (left : List Object) → r.objects ≡ stops.loaded ++ left → IsStuck left stops.mid refusal.Full end → ⊥
    go [] parts until = until_never_full stops.mid end until
    go (o ∷ os) parts (rooms, mid, room, declines) = both
      where
        none_mid : mid.knows.failed ≡ []
        none_mid = ap (λ (w : World). w.knows.failed) (sym (declined_same o mid end declines)) ∙ none

        none_before : stops.mid.knows.failed ≡ []
        none_before = room_unfailed rooms o stops.mid mid room none_mid

        level : NewLog
        level = packed (sizes_of c) (empty_log (sizes_of c)) (lengths_of stops.loaded)

        quiet : IsQuiet c level stops.mid.knows
        quiet = all_at c ok stops.loaded (empty_log (sizes_of c)) start stops.mid stops.steps none_before
            (first_quiet c ok r.safe)

        full : (takes (sizes_of c) level (length_of o) ≡ false) × (may_roll_at (sizes_of c) level ≡ false)
        full = declined_full c ok level o mid end declines (made c ok level o rooms stops.mid mid room none_mid quiet)

        may : may_roll_at (sizes_of c) level ≡ true
        may = never_full (sizes_of c) (lengths_of stops.loaded) (lengths_of os) (length_of o)
            (ap (can_load (sizes_of c)) (sym (lengths_append stops.loaded (o ∷ os)))
            ∙ ap (λ (ps : List Object). can_load (sizes_of c) (lengths_of ps)) (sym parts) ∙ can) full.0

        both : ⊥
        both = let never = sym may ∙ full.1 in cc
