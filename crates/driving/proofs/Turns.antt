-- What is under way: which step is made next, and what each leaves to do.
use Rattle.std.proofs.Common.{◌≡◌, ◌<◌, ◌≤◌, ◌+◌, ◌-◌, ◌*◌, ℕ, suc, Bool, true, false, List, [], ◌∷◌, length, refl, sym}
use Rattle.std.proofs.Common.{ap, subst, inl, inr, ◌∙◌, arith}
use Rattle.std.proofs.lemmas.Bool.{eqb-true}
use Rattle.std.proofs.lemmas.List.{nil_from_length}
use Rattle.std.proofs.Math.Bool.{and-false}
use Rattle.std.specs.Option.{option_map, option_map_or}
use Rattle.std.specs.Prelude.{Option, Some, None, IsSome, Result, Ok, is_none, is_some, not, ◌==◌, ◌&&◌}
use Rattle.std.specs.Prelude.{if◌then◌else◌, unwrap_or}
use Rattle.master.specs.cleaner.declared.pass.Pass.{Pass}
use Rattle.master.specs.cleaner.Passes.{images_in, is_at_end, is_ready as is_ready_pass, next_seal as next_seal_of}
use Rattle.master.specs.cleaner.Passes.{rest_of}
use Rattle.master.specs.cleaner.Passes.{survivor_ids}
use Rattle.master.specs.cleaner.Seals.{first_lacking}
use Rattle.master.specs.log_head.declared.head.Roll.{Roll}
use Rattle.master.specs.log_head.declared.next.Next.{Next}
use Rattle.master.specs.log_head.declared.next.Next.TheVariants as next
use Rattle.master.specs.log_head.Head.{HeadValue, is_open}
use Rattle.master.specs.master_failover.declared.push.Push.{Push as PushKind}
use Rattle.master.specs.master_failover.declared.push.Push.TheVariants as push
use Rattle.master.specs.master_failover.Mending.{closed_more, mended_data, was_headless}
use Rattle.master.specs.master_space.Choosing.{pass_step, pending_step, pending_without}
use Rattle.master.specs.master_rolls.Ends.{pass_left}
use Rattle.versioned_map.specs.declared.command.Record.{Record}
use Rattle.replica.specs.Picture.{FleetState}
use Rattle.master.specs.master_state.declared.config.Config.{Config}
use Rattle.master.specs.master_state.declared.failover.Failover.{Failover}
use Rattle.master.specs.master_state.declared.step.Refusal.{Refusal}
use Rattle.master.specs.master_state.declared.step.Refusal.TheVariants as refusal
use Rattle.master.specs.master_state.declared.step.Step.{Step}
use Rattle.master.specs.master_state.declared.step.Step.TheVariants.{Apply, Push, BeginRoll, Compact, BeginClean, Copy}
use Rattle.master.specs.master_state.declared.step.Step.TheVariants.{Seal}
use Rattle.master.specs.master_state.declared.step.Step.TheVariants.{Free}
use Rattle.master.specs.master_state.declared.step.StepAnswer.{StepAnswer}
use Rattle.master.specs.master_state.Causes.{copy_refusal}
use Rattle.master.specs.master_state.Data.{MasterData}
use Rattle.master.specs.master_state.Log.{rest_now}
use Rattle.master.specs.master_state.Steps.{rolling_data}
use Rattle.master.specs.Keeps.{Keeps}
use Rattle.master.specs.Steps.{Accepts, Declines, Steps}
use Rattle.master.specs.World.{World}
use Rattle.master.proofs.PushKinds.{kinds}
use Rattle.driving.specs.Cleans.{AreMended, AreTurned}
use Rattle.driving.specs.GoesOn.{goes_further}
use Rattle.driving.specs.Rolls.{Advances}
use Rattle.driving.specs.Served.{IsSpent, LivesOn}
use Rattle.driving.proofs.AnyStep.{makes_no_record, step_goes_on, step_spent}
use Rattle.driving.proofs.Heads.{begins_working, works_parts}
use Rattle.driving.proofs.Losses.{IsLoss, backups_left, begin_unlost, copy_unlost, free_lost, loss_lowers, ops_left}
use Rattle.driving.proofs.Losses.{push_counts, push_lost, seal_lost}
use Rattle.driving.proofs.MasterSteps.{accepted_fixed}
use Rattle.driving.proofs.Ops.{fewer_to_take}
use Rattle.driving.proofs.Outlines.{Outline, closed_more_outline, fixed, fixed_in, outline, pass_after, push_outline}
use Rattle.driving.proofs.Outlines.{raised_outline, sealed_anew_outline, turned_is, turned_outline, opened_head}
use Rattle.driving.proofs.PassSteps.{seals_outline}

-- ---- which step is next

-- the step is one of those that are made of what is under way
abbrev pub IsTurn : Step → Type 0
IsTurn (Apply seat command) = ⊥
IsTurn Push = Unit {0}
IsTurn BeginRoll = Unit {0}
IsTurn (Compact id) = ⊥
IsTurn (BeginClean ids) = ⊥
IsTurn Copy = Unit {0}
IsTurn Seal = Unit {0}
IsTurn Free = Unit {0}

-- the pass has more to copy
abbrev pub copies_left : Option Pass → Bool
copies_left o = option_map_or (λ (p : Pass). not (is_at_end p)) o false

-- What is known of the next step of a pass: at the end of its copies and seals it is ready, and a roll begins where the
-- head is open.
pub record IsPassStep (d : MasterData) (p : Pass) (s : Step) : Type 0 where
  pub turn : IsTurn s
  pub copies : (s ≡ Copy → ⊥) → is_at_end p ≡ true
  pub begins : s ≡ BeginRoll → (is_at_end p ≡ true) × (is_none (next_seal_of d.config.replicas d.closed p) ≡ true)
      × (is_open d.head ≡ true)

pass_stepped : (d : MasterData) (p : Pass) → IsPassStep d p (pass_step d p)
pass_stepped d p = go (is_at_end p) (next_seal_of d.config.replicas d.closed p) (is_open d.head) refl refl refl
  where
    gives : Bool → Option (ℕ × ℕ) → Bool → Step
    gives ended seal opened =
        if not ended then Copy else if is_some seal then Seal else if opened then BeginRoll else Push

    go : (ended : Bool) (seal : Option (ℕ × ℕ)) (opened : Bool) → is_at_end p ≡ ended
        → next_seal_of d.config.replicas d.closed p ≡ seal → is_open d.head ≡ opened
        → IsPassStep d p (gives ended seal opened)
    go false seal opened e f g = record { turn = tt; copies = λ other. absurd (other refl); begins = λ is. absurd (cc) }
    go true (Some x) opened e f g = record { turn = tt; copies = λ other. e; begins = λ is. absurd (cc) }
    go true None true e f g = record {
      turn = tt;
      copies = λ other. e;
      begins = λ is. (e, ap (λ (o : Option (ℕ × ℕ)). is_none o) f, g);
    }
    go true None false e f g = record { turn = tt; copies = λ other. e; begins = λ is. absurd (cc) }

-- What is known of the next step.
pub record IsNextTurn (d : MasterData) (s : Step) : Type 0 where
  pub turn : IsTurn s
  -- a copy is made only while no failover is open, and comes before all else of a pass
  pub copies : (s ≡ Copy → ⊥) → copies_left d.pass ≡ true → d.failover ≡ None → ⊥
  -- a roll begins only as the commit of a pass that is ready, at an open head
  pub begins : s ≡ BeginRoll → (p : Pass) × (d.pass ≡ Some p)
      × (is_ready_pass d.config.replicas d.closed p ≡ true) × (is_open d.head ≡ true)

ready_is : (replicas : ℕ) (d : MasterData) (p : Pass) → is_at_end p ≡ true
    → is_none (next_seal_of replicas d.closed p) ≡ true → is_ready_pass replicas d.closed p ≡ true
ready_is replicas d p ended sealed =
    go (is_at_end p) (first_lacking replicas d.closed (survivor_ids p.survivors)) ended sealed
  where
    go : (at_end : Bool) (lacks : Option (ℕ × ℕ)) → at_end ≡ true → is_none (if at_end then lacks else None) ≡ true
        → (at_end && is_none lacks) ≡ true
    go true lacks e f = f
    go false lacks e f = absurd (cc)

pub next_turn : (d : MasterData) (s : Step) → pending_step d ≡ Some s → IsNextTurn d s
next_turn d s is = go d.failover d.pass refl refl is
  where
    without : (opened none : Bool) → copies_left d.pass ≡ false
        → (if not opened then Some Push else if not none then Some Free else None) ≡ Some s → IsNextTurn d s
    without opened none done e = named opened none e
      where
        by : (step : Step) → IsTurn step → (step ≡ BeginRoll → ⊥) → Some step ≡ Some s → IsNextTurn d s
        by step turn other e =
            let same : step ≡ s = ap (λ (x : Option Step). unwrap_or x s) e in record {
              turn = subst IsTurn same turn;
              copies = λ more left calm. (let never = sym done ∙ left in absurd (cc));
              begins = λ begins. absurd (other (same ∙ begins));
            }

        named : (opened none : Bool)
            → (if not opened then Some Push else if not none then Some Free else None) ≡ Some s → IsNextTurn d s
        named false none e = by Push tt (λ b. cc) e
        named true false e = by Free tt (λ b. cc) e
        named true true e = absurd (cc)

    go : (o : Option Failover) (pass : Option Pass) → d.failover ≡ o → d.pass ≡ pass
        → (if is_some o then Some Push else option_map_or (λ (p : Pass). Some (pass_step d p)) pass (pending_without d))
        ≡ Some s → IsNextTurn d s
    go (Some f) pass open_now has e =
        let same : Push ≡ s = ap (λ (x : Option Step). unwrap_or x s) e in record {
          turn = subst IsTurn same tt;
          copies = λ other left calm. (let never = sym calm ∙ open_now in absurd (cc));
          begins = λ begins. (let never = same ∙ begins in absurd (cc));
        }
    go None None calm has e = without (is_open d.head) (length d.waiting == 0) (ap copies_left has) e
    go None (Some p) calm has e =
        let same : pass_step d p ≡ s = ap (λ (x : Option Step). unwrap_or x s) e in
        let step = subst (IsPassStep d p) same (pass_stepped d p) in record {
          turn = step.turn;
          copies = λ other left none. (
              let ended = ap (λ (b : Bool). not b) (step.copies other) in
              let never = sym left ∙ ap copies_left has ∙ ended in
              absurd (cc)
              );
          begins = λ begins. (
            p,
            has,
            ready_is d.config.replicas d p (step.begins begins).0 (step.begins begins).1,
            (step.begins begins).2,
          );
        }

-- Nothing is under way.
pub record IsIdle (d : MasterData) : Type 0 where
  pub calm : d.failover ≡ None
  pub ended : d.pass ≡ None
  pub opened : is_open d.head ≡ true
  pub freed : d.waiting ≡ []

pub nothing_next : (d : MasterData) → pending_step d ≡ None → IsIdle d
nothing_next d is = go d.failover d.pass refl refl is
  where
    last : (opened none : Bool) → (if not opened then Some Push else if not none then Some Free else None) ≡ None
        → (opened ≡ true) × (none ≡ true)
    last false none e = absurd (cc)
    last true false e = absurd (cc)
    last true true e = (refl, refl)

    go : (o : Option Failover) (pass : Option Pass) → d.failover ≡ o → d.pass ≡ pass
        → (if is_some o then Some Push else option_map_or (λ (p : Pass). Some (pass_step d p)) pass (pending_without d))
        ≡ None → IsIdle d
    go (Some f) pass open_now has e = absurd (cc)
    go None (Some p) calm has e = absurd (cc)
    go None None calm has e =
        let both = last (is_open d.head) (length d.waiting == 0) e in record {
          calm = calm;
          ended = has;
          opened = both.0;
          freed = nil_from_length d.waiting (eqb-true (length d.waiting) 0 both.1);
        }

-- ---- what of an open pass all steps but copies keep

module _ (P : Option Pass → Type 0) (none : P None)
    (marked : (b : Bool) (p : Pass) → P (Some p) → P (Some (record p { is_committing = b }))) where
  each_marked : (b : Bool) (o : Option Pass) → P o → P (option_map (λ (p : Pass). record p { is_committing = b }) o)
  each_marked b None held = held
  each_marked b (Some p) held = marked b p held

  -- by whether the pass is ready
  each_ready : (f : Pass → Bool) (o : Option Pass) → P o
      → P (option_map (λ (p : Pass). record p { is_committing = f p }) o)
  each_ready f None held = held
  each_ready f (Some p) held = marked (f p) p held

  left_keeps : (last : Bool) (o : Option Pass) → P o → P (if last then pass_left o else o)
  left_keeps false o held = held
  left_keeps true None held = held
  left_keeps true (Some p) held = go p.is_committing
    where
      go : (commits : Bool) → P (if commits then None else Some p)
      go true = none
      go false = held

  after_keeps : (h : HeadValue) (o : Option Pass) (push : Next) → P o → P (pass_after h o push)
  after_keeps h o (next.OpenFirst j) held = held
  after_keeps h o (next.Extend j) held = held
  after_keeps h o (next.OpenWhole j) held = held
  after_keeps h o (next.OpenNew j) held = held
  after_keeps h o (next.CloseOld j) held = go h.roll
    where
      go : (x : Option Roll)
          → P (option_map_or (λ (r : Roll). if suc r.closed == h.replicas then pass_left o else o) x o)
      go None = held
      go (Some r) = left_keeps (suc r.closed == h.replicas) o held

  mend_keeps : (d : MasterData) (m : PushKind) → P d.pass → P (mended_data d m).pass
  mend_keeps d (push.Head (next.Extend j)) held = held
  mend_keeps d (push.Head (next.OpenWhole j)) held = held
  mend_keeps d push.Turn held =
      subst (λ (o : Outline). P o.pass)
      (sym (ap (λ (o : Outline). record o { head = opened_head o.head }) (turned_is d))) (go (was_headless d))
    where
      go : (first : Bool) → P (turned_outline d first).pass
      go true = held
      go false = each_ready (is_ready_pass d.config.replicas d.closed) d.pass held
  mend_keeps d (push.Head (next.OpenNew j)) held = held
  mend_keeps d (push.Head (next.OpenFirst j)) held = held
  mend_keeps d (push.Raise id) held = subst (λ (o : Outline). P o.pass) (sym (raised_outline d)) held
  mend_keeps d (push.Head (next.CloseOld j)) held = go d.head.roll
    where
      go : (o : Option Roll) → P (option_map_or (closed_more d j) o d).pass
      go None = held
      go (Some r) = subst (λ (o : Outline). P o.pass) (sym (closed_more_outline d j r).1)
          (left_keeps (suc r.closed == d.head.replicas) d.pass held)
  mend_keeps d (push.Repair s j) held =
      subst (λ (o : Outline). P o.pass) (sym (sealed_anew_outline d s j).1) held

  accepted_keeps : (old new : World) (a : StepAnswer) → Accepts old Push a new → P old.knows.pass → P new.knows.pass
  accepted_keeps old new a accepts held = elim (kinds old a new accepts) as (λ _. P new.knows.pass) [
    | inl push ↦ subst (λ (o : Outline). P o.pass) (sym (ap outline push.rest ∙ push_outline old.knows push.push))
        (after_keeps old.knows.head old.knows.pass push.push held)
    | inr push ↦ subst (λ (d : MasterData). P d.pass) (sym push.rest) (mend_keeps old.knows push.mend held)
  ]

  loss_keeps : (old new : World) (b : ℕ) → IsLoss old b new → P old.knows.pass → P new.knows.pass
  loss_keeps old new b lost held =
      subst (λ (d : MasterData). P d.pass) (sym lost.knows) (each_marked false old.knows.pass held)

  pub turn_keeps : (s : Step) → IsTurn s → (s ≡ Copy → ⊥) → (old new : World) → Advances s old new → P old.knows.pass
      → P new.knows.pass
  turn_keeps (Apply seat command) turn other old new steps held = absurd turn
  turn_keeps (Compact id) turn other old new steps held = absurd turn
  turn_keeps (BeginClean ids) turn other old new steps held = absurd turn
  turn_keeps Copy turn other old new steps held = absurd (other refl)
  turn_keeps Push turn other old new (inl (a, push)) held = accepted_keeps old new a push held
  turn_keeps Push turn other old new (inr (b, push)) held = loss_keeps old new b (push_lost old new b push) held
  turn_keeps BeginRoll turn other old new (inl (a, begins)) held =
      subst (λ (d : MasterData). P d.pass) (sym begins.0.rest)
      (each_ready (is_ready_pass old.knows.config.replicas old.knows.closed) old.knows.pass held)
  turn_keeps BeginRoll turn other old new (inr (b, begins)) held = absurd (begin_unlost old new b begins)
  turn_keeps Seal turn other old new (inl (a, seal)) held =
      subst (λ (o : Outline). P o.pass) (sym (seals_outline old new a seal)) held
  turn_keeps Seal turn other old new (inr (b, seal)) held = loss_keeps old new b (seal_lost old new b seal) held
  turn_keeps Free turn other old new (inl (a, free)) held =
      subst (λ (d : MasterData). P d.pass) (sym free.rest) held
  turn_keeps Free turn other old new (inr (b, free)) held = loss_keeps old new b (free_lost old new b free) held

-- ---- what is left to do

-- no failover is open while there is something to copy
abbrev pub IsLate : World → Type 0
IsLate w = copies_left w.knows.pass ≡ true → w.knows.failover ≡ None

-- the places that are still to be copied
abbrev places_left : MasterData → ℕ
places_left d = if copies_left d.pass then length (rest_now d) else 0

-- a roll may begin at an open head
abbrev rolls_left : MasterData → ℕ
rolls_left d = if is_open d.head then 1 else 0

abbrev pub left_to_turn : World → ℕ
left_to_turn w =
    2 * ops_left w + 2 * backups_left w + places_left w.knows + rolls_left w.knows

at_most_one : (b : Bool) → (if b then 1 else 0) ≤ 1
at_most_one true = omega arith
at_most_one false = omega arith

at_most : (b : Bool) (n : ℕ) → (if b then n else 0) ≤ n
at_most true n = omega arith
at_most false n = omega arith

-- all is copied
abbrev AllCopied : Option Pass → Type 0
AllCopied o = copies_left o ≡ false

no_places : (d : MasterData) → AllCopied d.pass → places_left d ≡ 0
no_places d done = ap (λ (b : Bool). if b then length (rest_now d) else 0) done

turn_copied : (s : Step) → IsTurn s → (s ≡ Copy → ⊥) → (old new : World) → Advances s old new → AllCopied old.knows.pass
    → AllCopied new.knows.pass
turn_copied = turn_keeps AllCopied refl (λ b p done. done)

no_copies : (d : MasterData) (s : Step) → IsNextTurn d s → (s ≡ Copy → ⊥)
    → (copies_left d.pass ≡ true → d.failover ≡ None) → AllCopied d.pass
no_copies d s next other late = go (copies_left d.pass) refl
  where
    go : (b : Bool) → copies_left d.pass ≡ b → AllCopied d.pass
    go false is = is
    go true is = absurd (next.copies other is (late is))

-- a step that the fleet took, or without a backup that failed in it, leaves less, whatever else
fewer : (old new : World) → AllCopied old.knows.pass → AllCopied new.knows.pass
    → ops_left new + backups_left new < ops_left old + backups_left old
    → left_to_turn new < left_to_turn old
fewer old new done after less =
    let none = no_places old.knows done in
    let never = no_places new.knows after in
    let one = at_most_one (is_open new.knows.head) in
    omega arith

same_backups : (old new : World) → fixed new.knows ≡ fixed old.knows → backups_left new ≡ backups_left old
same_backups old new same = ap (λ (f : Config × List Record × List ℕ). f.0.backups - length f.2) same

took : (old new : World) → fixed new.knows ≡ fixed old.knows → ops_left new < ops_left old
    → ops_left new + backups_left new < ops_left old + backups_left old
took old new same less = let backups = same_backups old new same in omega arith

lost : (old new : World) (b : ℕ) → IsLoss old b new
    → ops_left new + backups_left new < ops_left old + backups_left old
lost old new b loss = let both = loss_lowers old new b loss in let ops = both.1 in let backups = both.0 in omega arith

-- what the test of a copy lets pass
copy_tested : (d : MasterData) → copy_refusal d ≡ None → copies_left d.pass ≡ true
copy_tested d passed = go d.is_halted (is_some d.failover) (copies_left d.pass) passed
  where
    test : Bool → Bool → Option Refusal
    test halted failing =
        if halted then Some refusal.Halted else if failing then Some refusal.Rolling else None

    go : (halted failing left : Bool) → (if is_some (test halted failing) then test halted failing
        else if left then None else Some refusal.Nothing) ≡ None → left ≡ true
    go true failing left e = absurd (cc)
    go false true left e = absurd (cc)
    go false false true e = refl
    go false false false e = absurd (cc)

-- with nothing to copy a failover may be open
all_late : (w : World) → AllCopied w.knows.pass → IsLate w
all_late w done left = let never = sym done ∙ left in absurd (cc)

copies_less : (old new : World) (a : StepAnswer) → Accepts old Copy a new
    → (copies_left old.knows.pass ≡ true) × (length (rest_now new.knows) < length (rest_now old.knows))
copies_less old new a (copies, same) =
    let was : rest_now old.knows ≡ copies.treats.place ∷ copies.treats.later =
    ap (λ (p : Option Pass). option_map_or (rest_of (images_in old.knows.closed)) p []) copies.opened
    ∙ copies.treats.first in
    let is : rest_now new.knows ≡ copies.treats.later =
    ap (λ (d : MasterData). option_map_or (rest_of (images_in new.knows.closed)) d.pass []) copies.rest
    ∙ copies.treats.rest in
    let before = ap length was in
    let after = ap length is in
    (copy_tested old.knows copies.passed, omega arith)

-- a head that a roll leaves isn't open
rolls_none : (d e : MasterData) → e ≡ rolling_data d → rolls_left e ≡ 0
rolls_none d e is = ap rolls_left is
    ∙ ap (λ (b : Bool). if b then 1 else 0) (and-false (length d.head.taken == d.head.replicas))

-- each step that goes on leaves less, and a copy is made only while no failover is open
pub turn_lowers : (s : Step) → (old new : World) → IsNextTurn old.knows s → IsLate old → Advances s old new
    → left_to_turn new < left_to_turn old
turn_lowers (Apply seat command) old new next late steps = absurd next.turn
turn_lowers (Compact id) old new next late steps = absurd next.turn
turn_lowers (BeginClean ids) old new next late steps = absurd next.turn
turn_lowers Copy old new next late (inl (a, copies)) =
    let less = copies_less old new a copies in
    let all : places_left old.knows ≡ length (rest_now old.knows) =
    ap (λ (b : Bool). if b then length (rest_now old.knows) else 0) less.0 in
    let most = at_most (copies_left new.knows.pass) (length (rest_now new.knows)) in
    let fewer = less.1 in
    let ops : ops_left new ≡ ops_left old = ap (λ (f : FleetState). f.end - f.takes) copies.1 in
    let backups : backups_left new ≡ backups_left old =
    ap (λ (d : MasterData). d.config.backups - length d.failed) copies.0.rest in
    let heads : rolls_left new.knows ≡ rolls_left old.knows = ap rolls_left copies.0.rest in
    omega arith
turn_lowers Copy old new next late (inr (b, copies)) = absurd (copy_unlost old new b copies)
turn_lowers Push old new next late (inl (a, push)) =
    let done = no_copies old.knows Push next (λ e. cc) late in
    fewer old new done (turn_copied Push tt (λ e. cc) old new (inl (a, push)) done)
    (took old new (accepted_fixed old new a push) (push_counts old new a push))
turn_lowers Push old new next late (inr (b, push)) =
    let done = no_copies old.knows Push next (λ e. cc) late in
    fewer old new done (turn_copied Push tt (λ e. cc) old new (inr (b, push)) done)
    (lost old new b (push_lost old new b push))
turn_lowers Seal old new next late (inl (a, seal)) =
    let done = no_copies old.knows Seal next (λ e. cc) late in
    fewer old new done (turn_copied Seal tt (λ e. cc) old new (inl (a, seal)) done)
    (took old new (ap fixed_in (seals_outline old new a seal))
    (fewer_to_take old.knows.config.master old.fleet seal.op new.fleet seal.takes))
turn_lowers Seal old new next late (inr (b, seal)) =
    let done = no_copies old.knows Seal next (λ e. cc) late in
    fewer old new done (turn_copied Seal tt (λ e. cc) old new (inr (b, seal)) done)
    (lost old new b (seal_lost old new b seal))
turn_lowers Free old new next late (inl (a, free)) =
    let done = no_copies old.knows Free next (λ e. cc) late in
    fewer old new done (turn_copied Free tt (λ e. cc) old new (inl (a, free)) done)
    (took old new (ap fixed free.rest)
    (fewer_to_take old.knows.config.master old.fleet free.op new.fleet free.takes))
turn_lowers Free old new next late (inr (b, free)) =
    let done = no_copies old.knows Free next (λ e. cc) late in
    fewer old new done (turn_copied Free tt (λ e. cc) old new (inr (b, free)) done)
    (lost old new b (free_lost old new b free))
turn_lowers BeginRoll old new next late (inl (a, begins)) =
    let done = no_copies old.knows BeginRoll next (λ e. cc) late in
    let after = turn_copied BeginRoll tt (λ e. cc) old new (inl (a, begins)) done in
    let none = no_places old.knows done in
    let never = no_places new.knows after in
    let works = works_parts old.knows (begins_working old.knows begins.0.passed) in
    let was : rolls_left old.knows ≡ 1 = ap (λ (b : Bool). if b then 1 else 0) works.0 in
    let is = rolls_none old.knows new.knows begins.0.rest in
    let ops : ops_left new ≡ ops_left old = ap (λ (f : FleetState). f.end - f.takes) begins.1 in
    let backups : backups_left new ≡ backups_left old =
    ap (λ (d : MasterData). d.config.backups - length d.failed) begins.0.rest in
    omega arith
turn_lowers BeginRoll old new next late (inr (b, begins)) = absurd (begin_unlost old new b begins)

pub turn_late : (s : Step) → (old new : World) → IsNextTurn old.knows s → IsLate old → Advances s old new → IsLate new
turn_late (Apply seat command) old new next late steps = absurd next.turn
turn_late (Compact id) old new next late steps = absurd next.turn
turn_late (BeginClean ids) old new next late steps = absurd next.turn
turn_late Copy old new next late (inl (a, copies)) =
    λ left. ap (λ (d : MasterData). d.failover) copies.0.rest ∙ late (copies_less old new a copies).0
turn_late Copy old new next late (inr (b, copies)) = absurd (copy_unlost old new b copies)
turn_late Push old new next late steps =
    all_late new (turn_copied Push tt (λ e. cc) old new steps (no_copies old.knows Push next (λ e. cc) late))
turn_late BeginRoll old new next late steps =
    all_late new (turn_copied BeginRoll tt (λ e. cc) old new steps (no_copies old.knows BeginRoll next (λ e. cc) late))
turn_late Seal old new next late steps =
    all_late new (turn_copied Seal tt (λ e. cc) old new steps (no_copies old.knows Seal next (λ e. cc) late))
turn_late Free old new next late steps =
    all_late new (turn_copied Free tt (λ e. cc) old new steps (no_copies old.knows Free next (λ e. cc) late))

-- ---- many steps

-- one step more
pub one_turn : (from old new : World) (s : Step) → pending_step old.knows ≡ Some s → Advances s old new
    → ((count : ℕ) × AreTurned count from old) → (count : ℕ) × AreTurned count from new
one_turn from old new s pending steps (count, before) = (suc count, (old, before, s, pending, steps))

no_record : (s : Step) → IsTurn s → makes_no_record s ≡ true
no_record (Apply seat command) turn = absurd turn
no_record Push turn = refl
no_record BeginRoll turn = refl
no_record (Compact id) turn = absurd turn
no_record (BeginClean ids) turn = absurd turn
no_record Copy turn = refl
no_record Seal turn = refl
no_record Free turn = refl

pub turn_goes_on : (from : MasterData) (old new : World) (s : Step) (r : Result StepAnswer Refusal) → IsTurn s
    → LivesOn from old.knows [] → Steps old s r new → Keeps 1 old new → LivesOn from new.knows []
turn_goes_on from old new s r turn before gives keeps =
    goes_further from old.knows new.knows before (step_goes_on s (no_record s turn) old new r gives keeps)

pub turn_spent : (old new : World) (s : Step) (r : Refusal) → IsTurn s → Declines old s r new → r ≡ refusal.Spent
    → IsSpent new.fleet
turn_spent old new s r turn declines is = (step_spent s (no_record s turn) old new r declines is).0

-- ---- an open failover

-- one push more
pub one_mend : (from old new : World) (r : Result StepAnswer Refusal) (a : StepAnswer) → r ≡ Ok a
    → Steps old Push r new → IsSome old.knows.failover
    → ((count : ℕ) × AreMended count from old) → (count : ℕ) × AreMended count from new
one_mend from old new r a is push failing (count, before) = (
  suc count,
  (old, before, failing, a, subst (λ (x : Result StepAnswer Refusal). Steps old Push x new) is push),
)

-- a failover that has something left is open
pub some_left : (o : Option Failover) (n : ℕ) → (n ≡ 0 → o ≡ None) → (o ≡ None → n ≡ 0) → 0 < n → IsSome o
some_left None n none zeroed more = let never = zeroed refl in absurd (omega arith)
some_left (Some f) n none zeroed more = refl
