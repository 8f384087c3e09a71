-- What a fleet shows once its power was cut amid a call: what the images show.
use Rattle.std.proofs.Common.{◌≡◌, ◌⊎◌, inl, inr, ℕ, zero, suc, ◌+◌, ◌<◌, ◌==◌, ◌∷◌, List, [], length, refl, sym, ◌∙◌}
use Rattle.std.proofs.Common.{ap}
use Rattle.std.proofs.Common.{subst, Bool, true, false, cond, Option, None, Some, Err, arith}
use Rattle.std.specs.Prelude.{Result, nat_lt}
use mathlib.Core.Path.{fun_ext}
use Rattle.std.specs.List.{slice_get}
use Rattle.std.proofs.lemmas.Bool.{eqb-true}
use Rattle.std.proofs.lemmas.Bool.Decides.{nat_tests}
use Rattle.std.proofs.lemmas.Option.{none-some, same_Some}
use Rattle.replica.specs.Op.{OpValue}
use Rattle.replica.specs.Picture.{Ack, FleetState, Picture, Replica, with_replica}
use Rattle.replica.specs.Registry.{RaiseGives, with_least}
use Rattle.replica.specs.Take.{Refuses, TakeGives, Takes, effect, faulted, taken, unanswered, with_effect}
use Rattle.replica.specs.declared.op.TakeFault.{TakeFault}
use Rattle.replica.specs.declared.op.TakeFault.TheVariants as take_fault
use Rattle.file_backup.specs.Replay.{no_replicas}
use Rattle.registry_file.specs.declared.file.RegistryFile.{RegistryFile}
use Rattle.file_fleet.specs.Files.{Files, Noted, ShowsUnder, named}
use Rattle.file_fleet.specs.Fleet.{FleetValue, ShowsBetween, ShowsState, TakesOp, TakesRaise, fleet_state}
use Rattle.file_fleet.specs.Members.{picture_of, replica_on}
use Rattle.file_fleet.specs.Noting.{noted_by}
use Rattle.file_fleet.specs.declared.member.Member.{Member}
use Rattle.crash_fleet.specs.Images.{imaged, images_of}
use Rattle.crash_fleet.specs.State.{IsRead, IsUnder, ReadsRaise, ReadsTake, state_under, was_read}
use Rattle.crash_fleet.specs.declared.power.Power.{Power}
use Rattle.crash_fleet.specs.declared.power.Power.TheVariants.{Cut, On, Unread}
use Rattle.crash_fleet.proofs.Showing.{imaged_is}

-- ---- an op that was taken

abbrev given : FleetState → ℕ → OpValue → Option Replica → FleetState
given f b op r = record {
  backups = f.backups;
  picture = with_replica f.picture b op.master op.segment r;
  takes = f.takes + 1;
  end = f.end;
  faults = f.faults;
  least = f.least;
  acks = record { backup = b; op = op } ∷ f.acks;
}

record Gives (f : FleetState) (b : ℕ) (op : OpValue) (g : FleetState) : Type 0 where
  within : b < f.backups
  r : Option Replica
  same : g ≡ given f b op r

gives : (f : FleetState) (b : ℕ) (op : OpValue) (g : FleetState) → taken f b op ≡ Some g → Gives f b op g
gives f b op g took = by_test (nat_lt b f.backups) refl took where
  by_effect : nat_lt b f.backups ≡ true → (x : Option (Option Replica)) → with_effect f b op x ≡ Some g → Gives f b op g
  by_effect within None e = absurd (cc)
  by_effect within (Some r) e = record {
    within = grind (arith, nat_tests, within);
    r = r;
    same = sym (same_Some (given f b op r) g e);
  }

  by_test : (t : Bool) → nat_lt b f.backups ≡ t
      → cond t (with_effect f b op (effect op.act (f.picture b op.master op.segment))) None ≡ Some g → Gives f b op g
  by_test false is e = absurd (cc)
  by_test true is e = by_effect is (effect op.act (f.picture b op.master op.segment)) e

-- ---- pictures

there_at : {X : Type 0} (xs : List X) (i : ℕ) → i < length xs → slice_get xs i ≡ None → ⊥
there_at [] i lt none = absurd (omega arith)
there_at (x ∷ xs) zero lt none = absurd (cc)
there_at (x ∷ xs) (suc i) lt none = there_at xs i (omega arith) none

none_beyond : {D : Type 0} (list : List (Member D)) (c : ℕ) → slice_get list c ≡ None
    → picture_of list c ≡ no_replicas
none_beyond list c none = ap (λ (place : Option (Member _)). λ m s. replica_on place m s) none

-- a replica on another backup
elsewhere : (p : Picture) (b m s : ℕ) (r : Option Replica) (c : ℕ) → (b == c) ≡ false
    → with_replica p b m s r c ≡ p c
elsewhere p b m s r c other = fun_ext (λ n. fun_ext (λ t. rw other refl))

-- the picture with a replica on a backup that shows the same with it
unchanged : (p : Picture) (b m s : ℕ) (r : Option Replica) → with_replica p b m s r b ≡ p b
    → with_replica p b m s r ≡ p
unchanged p b m s r same = fun_ext (λ c. by_test c (b == c) refl) where
  by_test : (c : ℕ) (t : Bool) → (b == c) ≡ t → with_replica p b m s r c ≡ p c
  by_test c true is = subst (λ k. with_replica p b m s r k ≡ p k) (eqb-true b c is) same
  by_test c false is = elsewhere p b m s r c is

-- ---- a state by its parts

abbrev built : ℕ → Picture → ℕ → ℕ → ℕ → (ℕ → ℕ) → List Ack → FleetState
built n p t e f l a = record {
  backups = n;
  picture = p;
  takes = t;
  end = e;
  faults = f;
  least = l;
  acks = a;
}

rebuilt : (n m : ℕ) (p q : Picture) (t u e d f g : ℕ) (l k : ℕ → ℕ) (a b : List Ack) → n ≡ m → p ≡ q → t ≡ u → e ≡ d
    → f ≡ g → l ≡ k → a ≡ b → built n p t e f l a ≡ built m q u d g k b
rebuilt n m p q t u e d f g l k a b en ep et ee ef el ea i = built (en i) (ep i) (et i) (ee i) (ef i) (el i) (ea i)

no_more : (n : ℕ) → n ≡ n + 1 → ⊥
no_more n bad = omega (arith, bad)

module _ {D : Type 0} (image : D → List ℕ) (v w : FleetValue D (RegistryFile D)) where
  abbrev before : FleetState
  before = fleet_state (λ r. noted_by r) v

  abbrev behind : FleetState
  behind = fleet_state (λ r. noted_by r) w

  abbrev files : Files
  files = images_of image w.members

  -- The call ended in a fault. The images show this picture and these least heads.
  module _ (fault : behind ≡ faulted before) (r : RegistryFile D) (takes : ℕ) (notes : files.registry ≡ noted_by r)
      (p : Picture) (l : ℕ → ℕ) (imaged_p : imaged image w.members ≡ p) (least : files.registry.least ≡ l) where
    -- then this is the state once the power is cut
    state_is : state_under image w (Cut r takes)
        ≡ built before.backups p takes before.end (before.faults + 1) l before.acks
    state_is = rebuilt _ _ _ _ _ _ _ _ _ _ _ _ _ _ (ap (λ (f : FleetState). f.backups) fault) imaged_p refl
        (ap (λ (f : FleetState). f.end) fault) (ap (λ (f : FleetState). f.faults) fault)
        (ap (λ (n : Noted). n.least) (sym notes) ∙ least) (ap (λ (f : FleetState). f.acks) fault)

    under : ((b : ℕ) → b < before.backups → ShowsUnder (files.registry.span b) (p b) (named files b))
        → IsUnder image w (Cut r takes)
    under each = record {
      heads = ap (λ (n : Noted). n.least) notes;
      each = λ b lt. subst (λ (q : Picture). ShowsUnder (files.registry.span b) (q b) (named files b)) (sym imaged_p)
          (each b (subst (λ (n : ℕ). b < n) (ap (λ (f : FleetState). f.backups) fault) lt));
    }

  count : behind ≡ faulted before → before.backups ≡ length w.members.list.items
  count fault = sym (ap (λ (f : FleetState). f.backups) fault)

  same_takes : behind ≡ faulted before → w.takes ≡ v.takes
  same_takes fault = ap (λ (f : FleetState). f.takes) fault

  -- what no backup holds before the call
  beyond : behind ≡ faulted before → (c : ℕ) → slice_get w.members.list.items c ≡ None → before.picture c ≡ no_replicas
  beyond fault c none = ap (λ (f : FleetState). f.picture c) (sym fault) ∙ none_beyond w.members.list.items c none

  -- ---- a take

  module _ (fault : behind ≡ faulted before) (b : ℕ) (op : OpValue) (r : RegistryFile D) (takes : ℕ)
      (read : ReadsTake image w b r takes) where
    abbrev Given : Type 0
    Given = Refuses before b op take_fault.Fault (state_under image w (Cut r takes)) × IsUnder image w (Cut r takes)

    take_lost : ShowsState before files → Given
    take_lost shows = elim read.counts [
      | inl same ↦ (
        inl (state_is fault r takes read.notes before.picture before.least is shows.heads
            ∙ ap (λ (t : ℕ). built before.backups before.picture t before.end (before.faults + 1) before.least
            before.acks) (same.1 ∙ same_takes fault)),
        under fault r takes read.notes before.picture before.least is shows.heads shows.each,
      )
      | inr other ↦ absurd (other.0 (ap (λ (p : Picture). p b) is ∙ ap (λ (f : FleetState). f.picture b) (sym fault)))
    ]
      where
        is : imaged image w.members ≡ before.picture
        is = imaged_is image w.members before.picture before.backups (count fault) (beyond fault) shows.each

    module _ (mid : FleetState) (took : Takes before b op mid) (shows : ShowsState mid files) where
      gave : Gives before b op mid
      gave = gives before b op mid took.1

      abbrev held : Picture
      held = with_replica before.picture b op.master op.segment gave.r

      shows_held : ShowsState (given before b op gave.r) files
      shows_held = subst (λ (f : FleetState). ShowsState f files) gave.same shows

      none_there : (c : ℕ) → slice_get w.members.list.items c ≡ None → held c ≡ no_replicas
      none_there c none = by_test (b == c) refl where
        by_test : (t : Bool) → (b == c) ≡ t → held c ≡ no_replicas
        by_test true is = absurd (there_at w.members.list.items b (subst (λ n. b < n) (count fault) gave.within)
            (ap (slice_get w.members.list.items) (eqb-true b c is) ∙ none))
        by_test false is = elsewhere before.picture b op.master op.segment gave.r c is ∙ beyond fault c none

      holds : imaged image w.members ≡ held
      holds = imaged_is image w.members held before.backups (count fault) none_there shows_held.each

      take_kept : Given
      take_kept = elim read.counts [
        | inl same ↦ (
          inl (state_is fault r takes read.notes held before.least holds shows_held.heads
              ∙ rebuilt _ _ held before.picture takes before.takes _ _ _ _ _ _ _ _ refl
              (unchanged before.picture b op.master op.segment gave.r
              (ap (λ (p : Picture). p b) (sym holds) ∙ same.0 ∙ ap (λ (f : FleetState). f.picture b) fault))
              (same.1 ∙ same_takes fault) refl refl refl refl),
          under fault r takes read.notes held before.least holds shows_held.heads shows_held.each,
        )
        | inr other ↦ (
          inr (
            mid,
            took,
            state_is fault r takes read.notes held before.least holds shows_held.heads
                ∙ ap (λ (t : ℕ). built before.backups held t before.end (before.faults + 1) before.least before.acks)
                (other.1 ∙ ap (λ (t : ℕ). t + 1) (same_takes fault))
                ∙ ap (unanswered before) (sym gave.same),
          ),
          under fault r takes read.notes held before.least holds shows_held.heads shows_held.each,
        )
      ]

    take_between : ShowsBetween before (TakesOp b op) files → Given
    take_between (inl shows) = take_lost shows
    take_between (inr after) = take_kept after.0 after.1 after.2

  -- a fault of a fleet that took no more
  faulted_take : (b : ℕ) (op : OpValue) → w.takes ≡ v.takes → Refuses before b op take_fault.Fault behind
      → behind ≡ faulted before
  faulted_take b op same (inl fault) = fault
  faulted_take b op same (inr after) =
      let gave = gives before b op after.0 after.1.1 in
      absurd (no_more v.takes (sym same ∙ ap (λ (f : FleetState). f.takes) after.2
      ∙ ap (λ (f : FleetState). f.takes) gave.same))

  -- the power was cut amid a take: the fleet is what the images show
  pub cut_take : (b : ℕ) (op : OpValue) (result : Result Unit TakeFault) (power : Power D)
      → result ≡ Err take_fault.Fault → w.takes ≡ v.takes → TakeGives before b op result behind
      → ShowsBetween before (TakesOp b op) files → IsRead (ReadsTake image w b) power
      → TakeGives before b op result (state_under image w power) × IsUnder image w power
  cut_take b op result On is same does between read = absurd read
  cut_take b op result Unread is same does between read = (does, tt)
  cut_take b op result (Cut r takes) is same does between read =
      let fault = faulted_take b op same (subst (λ x. TakeGives before b op x behind) is does) in
      let cut = take_between fault b op r takes read between in
      (subst (λ x. TakeGives before b op x (state_under image w (Cut r takes))) (sym is) cut.0, cut.1)

  -- ---- a raise

  module _ (fault : behind ≡ faulted before) (master id : ℕ) (r : RegistryFile D) (takes : ℕ)
      (read : ReadsRaise image w master r takes) where
    abbrev GivenRaise : Type 0
    GivenRaise = RaiseGives before master id (Err take_fault.Fault) (state_under image w (Cut r takes))
        × IsUnder image w (Cut r takes)

    least_was : (noted_by w.members.registry).least ≡ before.least
    least_was = ap (λ (f : FleetState). f.least) fault

    least_now : (l : ℕ → ℕ) → files.registry.least ≡ l → (noted_by r).least ≡ l
    least_now l heads = ap (λ (n : Noted). n.least) (sym read.notes) ∙ heads

    -- the images show what the backups held
    is_held : ((b : ℕ) → b < before.backups → ShowsUnder (files.registry.span b) (before.picture b) (named files b))
        → imaged image w.members ≡ before.picture
    is_held each = imaged_is image w.members before.picture before.backups (count fault) (beyond fault) each

    raise_lost : ShowsState before files → GivenRaise
    raise_lost shows = elim read.counts [
      | inl same ↦ (
        inl (state_is fault r takes read.notes before.picture before.least (is_held shows.each) shows.heads
            ∙ ap (λ (t : ℕ). built before.backups before.picture t before.end (before.faults + 1) before.least
            before.acks) (same.1 ∙ same_takes fault)),
        under fault r takes read.notes before.picture before.least (is_held shows.each) shows.heads shows.each,
      )
      | inr other ↦ absurd (other.0 (ap (λ (l : ℕ → ℕ). l master) (least_now before.least shows.heads ∙ sym least_was)))
    ]

    not_raised : with_least before.least master id master ≡ before.least master
        → with_least before.least master id ≡ before.least
    not_raised same = fun_ext (λ m. by_test m (master == m) refl) where
      by_test : (m : ℕ) (t : Bool) → (master == m) ≡ t → with_least before.least master id m ≡ before.least m
      by_test m true is = subst (λ k. with_least before.least master id k ≡ before.least k) (eqb-true master m is) same
      by_test m false is = rw is refl

    module _ (mid : FleetState) (raises : TakesRaise master id before mid) (shows : ShowsState mid files) where
      abbrev high : ℕ → ℕ
      high = with_least before.least master id

      high_shown : files.registry.least ≡ high
      high_shown = shows.heads ∙ ap (λ (f : FleetState). f.least) raises.1

      each_shown : (b : ℕ) → b < before.backups
          → ShowsUnder (files.registry.span b) (before.picture b) (named files b)
      each_shown = (subst (λ (f : FleetState). ShowsState f files) raises.1 shows).each

      raise_kept : GivenRaise
      raise_kept = elim read.counts [
        | inl same ↦ (
          inl (state_is fault r takes read.notes before.picture high (is_held each_shown) high_shown
              ∙ rebuilt _ _ before.picture before.picture takes before.takes _ _ _ _ high before.least _ _ refl refl
              (same.1 ∙ same_takes fault) refl refl
              (not_raised (ap (λ (l : ℕ → ℕ). l master) (sym (least_now high high_shown)) ∙ same.0
              ∙ ap (λ (l : ℕ → ℕ). l master) least_was)) refl),
          under fault r takes read.notes before.picture high (is_held each_shown) high_shown each_shown,
        )
        | inr other ↦ (
          inr (
            mid,
            raises,
            state_is fault r takes read.notes before.picture high (is_held each_shown) high_shown
                ∙ ap (λ (t : ℕ). built before.backups before.picture t before.end (before.faults + 1) high before.acks)
                (other.1 ∙ ap (λ (t : ℕ). t + 1) (same_takes fault))
                ∙ ap (unanswered before) (sym raises.1),
          ),
          under fault r takes read.notes before.picture high (is_held each_shown) high_shown each_shown,
        )
      ]

    raise_between : ShowsBetween before (TakesRaise master id) files → GivenRaise
    raise_between (inl shows) = raise_lost shows
    raise_between (inr after) = raise_kept after.0 after.1 after.2

  faulted_raise : (master id : ℕ) → w.takes ≡ v.takes → RaiseGives before master id (Err take_fault.Fault) behind
      → behind ≡ faulted before
  faulted_raise master id same (inl fault) = fault
  faulted_raise master id same (inr after) =
      absurd (no_more v.takes (sym same ∙ ap (λ (f : FleetState). f.takes) after.2
      ∙ ap (λ (f : FleetState). f.takes) after.1.1))

  -- the power was cut amid a raise: the fleet is what the images show
  pub cut_raise : (master id : ℕ) (result : Result Unit TakeFault) (power : Power D)
      → result ≡ Err take_fault.Fault → w.takes ≡ v.takes → RaiseGives before master id result behind
      → ShowsBetween before (TakesRaise master id) files → IsRead (ReadsRaise image w master) power
      → RaiseGives before master id result (state_under image w power) × IsUnder image w power
  cut_raise master id result On is same does between read = absurd read
  cut_raise master id result Unread is same does between read = (does, tt)
  cut_raise master id result (Cut r takes) is same does between read =
      let fault = faulted_raise master id same (subst (λ x. RaiseGives before master id x behind) is does) in
      let cut = raise_between fault master id r takes read between in
      (subst (λ x. RaiseGives before master id x (state_under image w (Cut r takes))) (sym is) cut.0, cut.1)

-- what is known of the images is what the fleet shows
pub known_shown : {D : Type 0} (image : D → List ℕ) (v : FleetValue D (RegistryFile D)) (power : Power D)
    → IsUnder image v power → was_read power ≡ true
    → (v.members.is_halted ≡ false → ShowsState (fleet_state (λ r. noted_by r) v) (images_of image v.members))
    → ShowsState (state_under image v power) (images_of image v.members)
known_shown image v On goes_on known shows = shows goes_on
known_shown image v Unread under known shows = absurd (cc)
known_shown image v (Cut r takes) under known shows = under
