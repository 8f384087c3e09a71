use Rattle.std.proofs.Common.{◌≡◌, ◌+◌, ◌*◌, ◌<◌, ◌≤◌, ◌++◌, ◌∷◌, [], Bool, true, ℕ, List, length, refl, sym, ap, subst}
use Rattle.std.proofs.Common.{◌∙◌, vec_capacity, arith}
use Rattle.std.specs.Prelude.{if◌then◌else◌}
use Rattle.std.specs.Prelude.{Option, Some, None, IfSome, IsSome}
use Rattle.std.specs.List.Sorted.{IsStrictlyIncreasing}
use Rattle.std.specs.Result.{result_err}
use Rattle.cleaner.specs.declared.pass.Pass.{Pass}
use Rattle.entry.specs.Limits.{AreLengths}
use Rattle.images.specs.Image.{Image}
use Rattle.images.specs.Images.{ImagesValue}
use Rattle.log_head.specs.Head.{HeadValue, IsHeadValue}
use Rattle.log_head.specs.Steps.{start_after, with_roll}
use Rattle.log_head.specs.log_laws.Heads.{Start}
use Rattle.master_state.specs.contracts.state.Core.{the_view}
use Rattle.master_state.specs.declared.waiting.Waiting.{Waiting}
use Rattle.master_state.specs.declared.ledger.Posting.TheVariants.{Began}
use Rattle.master_state.specs.declared.step.StepAnswer.TheVariants.{Rolling}
use Rattle.master_state.specs.Budget.{is_ready, victims_of, survivors_of}
use Rattle.master_state.specs.Causes.{roll_refusal}
use Rattle.master_state.specs.Data.{MasterData}
use Rattle.master_state.specs.Invariant.{IsCore, AreImagesOf, AreTallied}
use Rattle.master_state.specs.Ledger.{posted}
use Rattle.master_state.specs.Steps.{BeginsRoll, MayRollNow, listed_in, start_now}
use Rattle.std.proofs.lemmas.Grind.{div_ceil_times}
use Rattle.std.proofs.lemmas.Result.{err_from_is_err_and}
use Rattle.master_state.proofs.Refusals.{may_begin, sizes_of}
use Rattle.master_rolls.proofs.RollLaws.{roll_begins, may_roll_now}
use Rattle.master_rolls.proofs.NextIds.{next_rise, start_parts, start_others}
use Rattle.master_rolls.proofs.RollStarts.{new_ids, new_count, pass_now, pass_marked, room_marked, unposted}
use Rattle.master_rolls.proofs.RollStarts.{rolled_core}
use Rattle.master_rolls.proofs.RollStarts.{rolled_tallied}
use Rattle.master_state.proofs.SurvivorLens.{entering_listed}
use Rattle.master_rolls.proofs.rolling.begin_roll.Goals as goal
use Rattle.master_rolls.proofs.rolling.begin_roll.Goals.{After-as_slice, After-mark, After-reserve-2}

-- the images are the same beside their room
kept_closed : (old mid new : ImagesValue) → mid ≡ record old { room = mid.room } → new ≡ mid
    → new ≡ record old { room = new.room }
kept_closed old mid new grown same =
    same ∙ grown ∙ (λ i. record old { room = sym (ap (λ (v : ImagesValue). v.room) same) i })

module _ (c : After-as_slice) where
  abbrev d : MasterData
  d = the_view c.core.inside

  core : IsCore d
  core = c.core.invariant.2

  passed : roll_refusal d ≡ None
  passed = ap roll_refusal c.core.view_is ∙ sym c.admit_roll.ensures ∙ ap result_err c.in_ok-admit_roll.was

  ready : is_ready d ≡ c.is_ready-is_commit.result
  ready = ap is_ready c.core.view_is ∙ sym c.is_ready-is_commit.ensures

  -- the images have not changed but for their room
  images : c.take_spare.new.self.images ≡ d.closed
  images = ap (λ (v : ImagesValue). v.images)
      (kept_closed c.core.inside.closed c.reserve.new.self c.take_spare.new.self c.reserve.ensures.same
      c.take_spare.ensures)

  entering : c.as_slice.result.now ≡ (if is_ready d then listed_in d.closed (survivors_of d.pass) else [])
  entering =
      c.as_slice.ensures.value
      ∙ c.in_ok-survivors.ensures
      ∙ (λ i. if sym ready i then listed_in (c.reserve.ensures.same i).images (survivors_of d.pass) else [])

  -- the next head begins as it is to
  start_is : start_after d.head c.leaving_victims-victims.result.now c.as_slice.result.now d.next d.safe ≡ start_now d
  start_is =
      start_parts d (is_ready d) c.leaving_victims-victims.result.now c.as_slice.result.now
      (c.leaving_victims-victims.ensures ∙ ap (λ (b : Bool). if b then victims_of d.pass else []) (sym ready))
      entering

  ids_are : new_ids d
      ≡ (start_after d.head c.leaving_victims-victims.result.now c.as_slice.result.now d.next d.safe).others
  ids_are = sym (ap (λ (n : Start). n.others) start_is ∙ start_others d (is_ready d))

pub begin_roll-requires-clause-open : goal.begin_roll-requires-clause-open
begin_roll-requires-clause-open c =
    let a = (goal.at.begin_roll-requires-clause-open c).After-as_slice in (may_begin (d a) (passed a)).opened

pub begin_roll-requires-clause-rise : goal.begin_roll-requires-clause-rise
begin_roll-requires-clause-rise c =
    let a = (goal.at.begin_roll-requires-clause-rise c).After-as_slice in
    subst (λ (ids : List ℕ). IsStrictlyIncreasing (ids ++ c.core.inside.next_id ∷ [])) (ids_are a)
    (next_rise (d a) (core a) (is_ready (d a)))

pub begin_roll-requires-clause-count : goal.begin_roll-requires-clause-count
begin_roll-requires-clause-count c =
    let a = (goal.at.begin_roll-requires-clause-count c).After-as_slice in
    subst (λ (ids : List ℕ). length ids < 262144) (ids_are a) (new_count (d a) (core a) (passed a))

pub begin_roll-requires-clause-survivors : goal.begin_roll-requires-clause-survivors
begin_roll-requires-clause-survivors c =
    let a = (goal.at.begin_roll-requires-clause-survivors c).After-as_slice in
    subst AreLengths (sym (entering a)) (entering_listed (d a) (core a) (is_ready (d a)))

module _ (c : After-mark) where
  abbrev k : MasterData
  k = the_view c.core.inside

  core' : IsCore k
  core' = c.core.invariant.2

  passed' : roll_refusal k ≡ None
  passed' = ap roll_refusal c.core.view_is ∙ sym c.admit_roll.ensures ∙ ap result_err c.in_ok-admit_roll.was

  ready' : is_ready k ≡ c.is_ready-is_commit.result
  ready' = ap is_ready c.core.view_is ∙ sym c.is_ready-is_commit.ensures

  images' : c.take_spare.new.self.images ≡ k.closed
  images' = ap (λ (v : ImagesValue). v.images)
      (kept_closed c.core.inside.closed c.reserve.new.self c.take_spare.new.self c.reserve.ensures.same
      c.take_spare.ensures)

  start_is' : start_after k.head c.leaving_victims-victims.result.now c.as_slice.result.now k.next k.safe ≡ start_now k
  start_is' =
      start_parts k (is_ready k) c.leaving_victims-victims.result.now c.as_slice.result.now
      (c.leaving_victims-victims.ensures ∙ ap (λ (b : Bool). if b then victims_of k.pass else []) (sym ready'))
      (c.as_slice.ensures.value ∙ c.in_ok-survivors.ensures
      ∙ (λ i. if sym ready' i then listed_in (c.reserve.ensures.same i).images (survivors_of k.pass) else []))

  abbrev begun : c.begin_roll.new.self ≡ with_roll k.head k.config.master (start_now k)
  begun = c.in_ok-begin_roll.ensures.begun ∙ ap (with_roll k.head k.config.master) start_is'

  valid : IsHeadValue (with_roll k.head k.config.master (start_now k))
  valid = subst IsHeadValue begun c.in_ok-begin_roll.ensures.valid

  marked : c.mark.new.pass ≡ pass_now k
  marked = c.mark.ensures ∙ pass_marked k c.is_ready-is_commit.result ready'

  abbrev left : MasterData
  left = record k {
    head = c.begin_roll.new.self;
    closed = c.take_spare.new.self.images;
    next = k.next + 1;
    pass = c.mark.new.pass;
    waiting = c.reserve-2.new.self.items;
  }

  is : unposted k ≡ left
  is = λ i. record k {
    head = sym begun i;
    closed = sym images' i;
    next = k.next + 1;
    pass = sym marked i;
    waiting = sym c.reserve-2.ensures.items i;
  }

  room_then : IsSome c.begin_roll.new.self.roll → length c.take_spare.new.self.images < c.take_spare.new.self.room
  room_then some =
      let enough = c.in_ok-reserve.ensures.ok in
      let room = ap (λ (v : ImagesValue). v.room) c.take_spare.ensures in
      let same = ap (λ (xs : List Image). length xs) images' in
      omega (arith, enough, room, same)

  sizes_then : AreImagesOf k.config c.take_spare.new.self
  sizes_then =
      subst (AreImagesOf k.config) (sym (kept_closed c.core.inside.closed c.reserve.new.self c.take_spare.new.self
      c.reserve.ensures.same c.take_spare.ensures)) (let own = c.core.invariant.1 in
      record { segment = own.segment; seglet = own.seglet; seglets = own.seglets })

  valid_then : IsCore left
  valid_then =
      subst IsCore is (rolled_core k core' passed' valid)

  begins : BeginsRoll k (Rolling k.next) (posted left (Began k.next))
  begins =
      subst (λ (m : MasterData). BeginsRoll k (Rolling k.next) (posted m (Began k.next))) is
      (roll_begins k core' passed' valid)

  tallied_then : AreTallied left c.core.inside.tallies
  tallied_then =
      subst (λ (m : MasterData). AreTallied m c.core.inside.tallies) is
      (rolled_tallied k core' passed' valid c.core.inside.tallies c.core.invariant.4)

pub invariant_of-core-2 : goal.invariant_of-core-2
invariant_of-core-2 c = let m = (goal.at.invariant_of-core-2 c).After-mark in (
  λ some. room_then m some,
  sizes_then m,
  valid_then m,
  rw (c.mark.ensures) (room_marked (k m).pass c.is_ready-is_commit.result c.leaving_victims-victims.result.now
      (length c.reserve-2.new.self.items)
      _ c.leaving_victims-victims.ensures
      (let enough = c.in_ok-reserve-2.ensures.ok in let same = ap length c.reserve-2.ensures.items in omega arith)),
  subst (AreTallied (left m)) (sym c.reserve-3.ensures) (tallied_then m),
)

pub returns-clause-begun : goal.returns-clause-begun
returns-clause-begun c =
    let m = (goal.at.returns-clause-begun c).After-mark in
    rw (← c.core.view_is) (subst (BeginsRoll (k m) (Rolling (k m).next)) (sym c.post.ensures.posted) (begins m))

pub returns-clause-may : goal.returns-clause-may
returns-clause-may c =
    let m = (goal.at.returns-clause-may c).After-mark in
    subst MayRollNow c.core.view_is (may_roll_now (k m) (core' m) (passed' m) (valid m))

pub returns-clause-valid : goal.returns-clause-valid
returns-clause-valid c = c.post.ensures.valid

pub overflow_mul-memory : goal.overflow_mul-memory
overflow_mul-memory c =
    let sizes = sizes_of c.core.inside.config c.core.invariant.2.config in
    let least = sizes.least_seglet in
    let most = sizes.most_seglet in
    let limit = c.bytes.ensures.limit in
    let kept : c.div_ceil.result * c.core.inside.config.seglet
    < length c.bytes.result.now + c.core.inside.config.seglet =
    rw c.div_ceil.ensures (div_ceil_times (length c.bytes.result.now) c.core.inside.config.seglet (omega arith)).1 in
    omega arith

-- no memory for one more closed segment: nothing has changed but the room for them
pub invariant_of-core : goal.invariant_of-core
invariant_of-core c =
    let images : c.reserve.new.self.images ≡ c.core.inside.closed.images =
    ap (λ (v : ImagesValue). v.images) c.reserve.ensures.same in (
      (λ some.
          let room = c.core.invariant.0 some in
          let grown = c.reserve.ensures.grown in
          let same = ap (λ (xs : List Image). length xs) images in
          omega arith),
      subst (AreImagesOf c.core.inside.config) (sym c.reserve.ensures.same) (let own = c.core.invariant.1 in
          record { segment = own.segment; seglet = own.seglet; seglets = own.seglets }),
      subst IsCore (λ i. record (the_view c.core.inside) { closed = sym images i }) c.core.invariant.2,
      c.core.invariant.3,
      subst (λ (cs : List Image). AreTallied (record (the_view c.core.inside) { closed = cs }) c.core.inside.tallies)
          (sym images) c.core.invariant.4,
    )

pub returns-in_err-reserve-clause-err : goal.returns-in_err-reserve-clause-err
returns-in_err-reserve-clause-err c =
    let failed = err_from_is_err_and c.from_residual-in_err-reserve.result c.from_residual-in_err-reserve.ensures.1 in
    let images : c.reserve.new.self.images ≡ c.core.inside.closed.images =
    ap (λ (v : ImagesValue). v.images) c.reserve.ensures.same in
    let same : record (the_view c.core.inside) { closed = c.reserve.new.self.images } ≡ the_view c.core.inside =
    λ i. record (the_view c.core.inside) { closed = images i } in
    rw failed.1 (same ∙ c.core.view_is)

-- ---- no memory: nothing has changed but what was reserved

reserved : (P : MasterData → Type 0) (d : MasterData) (h : HeadValue) (cs : List Image) (ws : List Waiting)
    → h ≡ d.head → cs ≡ d.closed → ws ≡ d.waiting → P d → P (record d { head = h; closed = cs; waiting = ws })
reserved P d h cs ws head closed waiting all =
    subst P (λ i. record d { head = sym head i; closed = sym closed i; waiting = sym waiting i }) all

room_kept : (o : Option Pass) (n m room more : ℕ) → m ≡ n → room ≤ more
    → IfSome o (λ (p : Pass). p.is_committing ≡ true → n + length p.victims ≤ room)
    → IfSome o (λ (p : Pass). p.is_committing ≡ true → m + length p.victims ≤ more)
room_kept None n m room more same le all = tt
room_kept (Some p) n m room more same le all = λ commits. (let enough = all commits in omega arith)

module _ (c : After-reserve-2) where
  abbrev f : MasterData
  f = the_view c.core.inside

  images-r : c.reserve.new.self.images ≡ f.closed
  images-r = ap (λ (v : ImagesValue). v.images) c.reserve.ensures.same

  room-r : length c.reserve.new.self.images < c.reserve.new.self.room
  room-r =
      let enough = c.in_ok-reserve.ensures.ok in
      let same = ap (λ (xs : List Image). length xs) images-r in
      omega arith

  sizes-r : AreImagesOf f.config c.reserve.new.self
  sizes-r =
      subst (AreImagesOf f.config) (sym c.reserve.ensures.same) (let own = c.core.invariant.1 in
      record { segment = own.segment; seglet = own.seglet; seglets = own.seglets })

  waits-r : IfSome f.pass (λ (p : Pass). p.is_committing ≡ true
      → length c.reserve-2.new.self.items + length p.victims ≤ vec_capacity c.reserve-2.new.self)
  waits-r =
      room_kept f.pass (length c.core.inside.waiting.items) (length c.reserve-2.new.self.items)
      (vec_capacity c.core.inside.waiting) (vec_capacity c.reserve-2.new.self)
      (ap length c.reserve-2.ensures.items) c.reserve-2.ensures.capacity c.core.invariant.3

  still-r : (P : MasterData → Type 0) → P f
      → P (record f { closed = c.reserve.new.self.images; waiting = c.reserve-2.new.self.items })
  still-r P all =
      reserved P f f.head c.reserve.new.self.images c.reserve-2.new.self.items refl images-r c.reserve-2.ensures.items
      all

pub invariant_of-core-in_err-reserve-2 : goal.invariant_of-core-in_err-reserve-2
invariant_of-core-in_err-reserve-2 c = let m = (goal.at.invariant_of-core-in_err-reserve-2 c).After-reserve-2 in (
  λ some. room-r m,
  sizes-r m,
  still-r m IsCore c.core.invariant.2,
  waits-r m,
  still-r m (λ (d : MasterData). AreTallied d c.core.inside.tallies) c.core.invariant.4,
)

pub invariant_of-core-in_err-survivors : goal.invariant_of-core-in_err-survivors
invariant_of-core-in_err-survivors c = let m = (goal.at.invariant_of-core-in_err-survivors c).After-reserve-2 in (
  λ some. room-r m,
  sizes-r m,
  still-r m IsCore c.core.invariant.2,
  waits-r m,
  still-r m (λ (d : MasterData). AreTallied d c.core.inside.tallies) c.core.invariant.4,
)

pub invariant_of-core-in_err-begin_roll : goal.invariant_of-core-in_err-begin_roll
invariant_of-core-in_err-begin_roll c =
    let m = (goal.at.invariant_of-core-in_err-begin_roll c).After-reserve-2 in
    let images : c.take_spare.new.self.images ≡ c.core.inside.closed.images =
    ap (λ (v : ImagesValue). v.images) c.take_spare.ensures ∙ images-r m in
    let still : (P : MasterData → Type 0) → P (f m) → P (record (f m) {
      head = c.begin_roll.new.self;
      closed = c.take_spare.new.self.images;
      waiting = c.reserve-2.new.self.items;
    }) =
    λ P all. reserved P (f m) c.begin_roll.new.self c.take_spare.new.self.images c.reserve-2.new.self.items
    c.in_err-begin_roll.ensures.err images c.reserve-2.ensures.items all in (
      λ some. subst (λ (v : ImagesValue). length v.images < v.room) (sym c.take_spare.ensures) (room-r m),
      subst (AreImagesOf c.core.inside.config) (sym c.take_spare.ensures) (sizes-r m),
      still IsCore c.core.invariant.2,
      waits-r m,
      still (λ (d : MasterData). AreTallied d c.core.inside.tallies) c.core.invariant.4,
    )
