-- A whole cleaning commits its pass: the digest in force lists its survivors for its victims, and nothing waits.
use Rattle.std.proofs.Common.{◌≡◌, ◌<◌, ℕ, zero, suc, Bool, true, false, List, [], ◌∷◌, ◌++◌, length, refl, sym, ap}
use Rattle.std.proofs.Common.{subst, inl, inr, ◌∙◌, arith}
use Rattle.std.proofs.lemmas.Bool.{leb-true}
use Rattle.std.proofs.lemmas.List.{append-nil}
use Rattle.std.specs.List.{AllByRecursion}
use Rattle.std.specs.Option.{option_map_or}
use Rattle.std.specs.Prelude.{Option, Some, None, IfSome, is_some, not, if◌then◌else◌}
use Rattle.master.specs.cleaner.declared.pass.Pass.{Pass}
use Rattle.master.specs.cleaner.declared.survivors.Survivors.{Survivors}
use Rattle.master.specs.cleaner.Passes.{survivor_ids}
use Rattle.entry.specs.Text.{Opening, opening_of}
use Rattle.master.specs.log_head.declared.head.Roll.{Roll}
use Rattle.master.specs.log_head.Head.{digest_of}
use Rattle.master.specs.log_head.Log.{head_of, start_in, start_of}
use Rattle.master.proofs.log_head.RollLog.{digest_is}
use Rattle.master.specs.log_laws.Heads.{ids_of}
use Rattle.master.specs.log_laws.Ids.{has}
use Rattle.master.proofs.log_laws.ListedIds.{ids_listed}
use Rattle.master.specs.master_state.declared.step.Refusal.{Refusal}
use Rattle.master.specs.master_state.declared.step.Refusal.TheVariants as refusal
use Rattle.master.specs.master_state.declared.step.Step.TheVariants.{BeginClean}
use Rattle.master.specs.master_state.declared.step.StepAnswer.{StepAnswer}
use Rattle.master.specs.master_state.declared.step.StepAnswer.TheVariants.{Begun}
use Rattle.master.specs.master_state.Budget.{is_committing, newest_digest, survivors_of, victims_of}
use Rattle.master.specs.master_state.Causes.{clean_refusal}
use Rattle.master.specs.master_state.Data.{MasterData}
use Rattle.master.specs.master_state.Invariant.{AreVictims, IsCore, IsOpenPass, IsRollOf, listed_with}
use Rattle.master.specs.master_state.Log.{is_headless, is_opened}
use Rattle.master.specs.master_state.Steps.{fresh_pass, next_survivors}
use Rattle.master.specs.Steps.{Accepts}
use Rattle.master.specs.World.{World}
use Rattle.driving.specs.Cleans.{AreMended, AreTurned, IsCleaned, IsMended, TurnsOut}
use Rattle.driving.proofs.Calm.{IsCalmFrom, calm_ends, step_calm}
use Rattle.driving.proofs.Digests.{IsHeaded, IsListed, IsTurning, first_of, step_turning}
use Rattle.driving.proofs.Outlines.{outline}
use Rattle.driving.proofs.MasterSteps.{accepted_fixed}
use Rattle.driving.proofs.Turns.{next_turn, nothing_next}
use Rattle.versioned_map.specs.declared.command.Record.{Record}
use Rattle.master.specs.master_state.declared.config.Config.{Config}
use Rattle.master.specs.master_state.declared.failover.Failover.{Failover}

-- ---- where a pass begins

-- what the test of a pass lets pass
clean_tested : (d : MasterData) (ids : List ℕ) → clean_refusal d ids ≡ None → d.failover ≡ None
clean_tested d ids passed = go d.is_halted d.failover _ passed
  where
    test : Bool → Option Failover → Option Refusal
    test halted o =
        if halted then Some refusal.Halted else if is_some o then Some refusal.Rolling else None

    go : (halted : Bool) (o : Option Failover) (rest : Option Refusal)
        → (if is_some (test halted o) then test halted o else rest) ≡ None → o ≡ None
    go true o rest e = absurd (cc)
    go false (Some f) rest e = absurd (cc)
    go false None rest e = refl

pub begun_calm : (old new : World) (victims : List ℕ) (a : StepAnswer) → Accepts old (BeginClean victims) a new
    → new.knows.failover ≡ None
begun_calm old new victims a (begins, same) =
    ap (λ (d : MasterData). d.failover) begins.rest ∙ clean_tested old.knows victims begins.passed

-- an open pass has a victim that the digest lists, so that there is a head in force
passes_headed : (d : MasterData) (p : Pass) → IsCore d → d.pass ≡ Some p → is_headless d ≡ false
passes_headed d p core opened = go (is_headless d) refl
  where
    victims : AreVictims d p.victims
    victims = (subst (λ (o : Option Pass). IfSome o (IsOpenPass d)) opened core.pass).victims

    none : (ids : List ℕ) → 0 < length ids → AllByRecursion (λ (s : ℕ). has [] s ≡ true) ids → ⊥
    none [] some older = omega arith
    none (s ∷ ids) some older = let never = older.0 in cc

    go : (headless : Bool) → is_headless d ≡ headless → is_headless d ≡ false
    go false is = is
    go true is = absurd (none p.victims victims.some
        (subst (λ (others : List ℕ). AllByRecursion (λ (s : ℕ). has others s ≡ true) p.victims)
        (core.first is).others victims.older))

start_in_id : (id : ℕ) (o : Option Opening) → (start_in id o).id ≡ id
start_in_id id None = refl
start_in_id id (Some o) = refl

-- an ordinary roll lists the log
roll_lists : (d : MasterData) (r : Roll) → IsCore d → is_committing d ≡ false → d.head.roll ≡ Some r
    → digest_of r.image ≡ digest_of d.head.image ++ r.id ∷ []
roll_lists d r core waits is =
    let of : IsRollOf d r = subst (λ (o : Option Roll). IfSome o (IsRollOf d)) is core.roll in
    ap digest_of of.image ∙ ids_listed (start_of r)
    ∙ ap (λ (i : ℕ). (start_of r).others ++ i ∷ []) (start_in_id r.id (opening_of r.image))
    ∙ ap (λ (l : List ℕ). l ++ r.id ∷ [])
    (of.lists ∙ ap (λ (b : Bool). if b then listed_with d (victims_of d.pass) (survivors_of d.pass)
    else ids_of (head_of d.head).start) waits
    ∙ sym (digest_is d.config.master d.head (head_of d.head) core.image))

begun_headed : (d : MasterData) (p : Pass) → IsCore d → d.pass ≡ Some p → d.failover ≡ None → IsHeaded (outline d)
begun_headed d p core opened calm = (
  core.replicas,
  ap first_of calm,
  inl (leb-true d.head.replicas (length d.head.taken) (not_false (is_opened d.head)
      (ap (λ (o : Option Failover). option_map_or (λ (f : Failover). f.is_first) o (not (is_opened d.head))) (sym calm)
      ∙ passes_headed d p core opened))),
)
  where
    not_false : (b : Bool) → not b ≡ false → b ≡ true
    not_false true e = refl
    not_false false e = absurd (cc)

-- ---- many steps

module _ (victims survivors ids : List ℕ) where
  turned_keep : (count : ℕ) (old new : World) → AreTurned count old new → IsTurning victims survivors ids old
      → IsTurning victims survivors ids new
  turned_keep zero old new same held = subst (IsTurning victims survivors ids) (sym same) held
  turned_keep (suc count) old new (mid, before, step, pending, turn) held =
      step_turning victims survivors ids step (next_turn mid.knows step pending).turn mid new turn
      (turned_keep count old mid before held)

  turned_calm : (failed count : ℕ) (old new : World) → AreTurned count old new
      → IsCalmFrom victims survivors ids failed old → IsCalmFrom victims survivors ids failed new
  turned_calm failed zero old new same held = subst (IsCalmFrom victims survivors ids failed) (sym same) held
  turned_calm failed (suc count) old new (mid, before, step, pending, turn) held =
      step_calm victims survivors ids failed step mid new (next_turn mid.knows step pending) turn
      (turned_calm failed count old mid before held)

-- no backup fails while a failover is pushed to its end
mended_failed : (count : ℕ) (old new : World) → AreMended count old new → new.knows.failed ≡ old.knows.failed
mended_failed zero old new same = ap (λ (w : World). w.knows.failed) same
mended_failed (suc count) old new (mid, before, failing, answer, push) =
    ap (λ (f : Config × List Record × List ℕ). f.2) (accepted_fixed mid new answer push)
    ∙ mended_failed count old mid before

-- ---- whole

abbrev survivors_in : StepAnswer → Survivors
survivors_in (Begun s) = s
survivors_in _ = record { first = 0; count = 0 }

module _ (old ready begun new : World) (victims : List ℕ) (survivors : Survivors) (a : StepAnswer)
    (is : a ≡ Begun survivors) (mended : IsMended old ready) (begins : Accepts ready (BeginClean victims) a begun)
    (core : IsCore begun.knows) (turned : TurnsOut begun new) where
  abbrev pass : Pass
  pass = fresh_pass victims survivors begins.0.cursor

  they : next_survivors ready.knows victims ≡ survivors
  they = sym (ap survivors_in begins.0.told) ∙ ap survivors_in is

  opened : begun.knows.pass ≡ Some pass
  opened = ap (λ (d : MasterData). d.pass) begins.0.rest
      ∙ ap (λ (s : Survivors). Some (fresh_pass victims s begins.0.cursor)) they

  calm : begun.knows.failover ≡ None
  calm = begun_calm ready begun victims a begins

  digest : digest_of begun.knows.head.image ≡ digest_of ready.knows.head.image ++ []
  digest = ap (λ (d : MasterData). digest_of d.head.image) begins.0.rest
      ∙ sym (append-nil (digest_of ready.knows.head.image))

  rolls : (o : Option Roll) → begun.knows.head.roll ≡ o → IfSome o
      (λ (r : Roll). digest_of r.image ≡ (digest_of ready.knows.head.image ++ []) ++ r.id ∷ [])
  rolls None none = tt
  rolls (Some r) some =
      roll_lists begun.knows r core
      (ap (λ (o : Option Pass). option_map_or (λ (p : Pass). p.is_committing) o false) opened) some
      ∙ ap (λ (l : List ℕ). l ++ r.id ∷ []) digest

  turning : IsTurning victims (survivor_ids survivors) (digest_of ready.knows.head.image) begun
  turning = (
    begun_headed begun.knows pass core opened calm,
    inl ([], pass, opened, refl, refl, (digest, rolls begun.knows.head.roll refl)),
  )

  waiting : IsCalmFrom victims (survivor_ids survivors) (newest_digest ready.knows.head) (length begun.knows.failed)
      begun
  waiting = (
    omega arith,
    λ same. (
      calm,
      inl (pass, opened, refl, refl, refl, ap (λ (d : MasterData). newest_digest d.head) begins.0.rest),
    ),
  )

  same_failed : new.knows.failed ≡ old.knows.failed → length new.knows.failed ≡ length begun.knows.failed
  same_failed same = ap length same ∙ sym (ap length (mended_failed mended.0 old ready mended.1))
      ∙ sym (ap (λ (d : MasterData). length d.failed) begins.0.rest)

  pub cleaned : IsCleaned old victims survivors new.knows.head.id new
  cleaned = made (turned_keep victims (survivor_ids survivors) (digest_of ready.knows.head.image) turned.0 begun new
      turned.1 turning).1
    where
      made : IsListed victims (survivor_ids survivors) (digest_of ready.knows.head.image) (outline new.knows)
          → IsCleaned old victims survivors new.knows.head.id new
      made (inl (before, p, opens, v, s, lists)) =
          let never = sym (nothing_next new.knows turned.2).ended ∙ opens in absurd (cc)
      made (inr (before, after, ended, lists)) = record {
        ready = ready;
        mended = mended;
        begun = begun;
        begins = subst (λ (x : StepAnswer). Accepts ready (BeginClean victims) x begun) is begins;
        turned = turned;
        head = refl;
        before = before;
        after = after;
        digest = lists.0;
        calm = λ same. calm_ends victims (survivor_ids survivors) (newest_digest ready.knows.head)
            (outline new.knows) ended (nothing_next new.knows turned.2).opened
            ((turned_calm victims (survivor_ids survivors) (newest_digest ready.knows.head)
            (length begun.knows.failed) turned.0 begun new turned.1 waiting).1 (same_failed same));
        ended = ended;
        freed = (nothing_next new.knows turned.2).freed;
      }
