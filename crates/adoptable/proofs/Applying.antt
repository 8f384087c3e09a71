-- A command that is applied keeps the limit.
use Rattle.std.proofs.Common.{◌≡◌, ◌⊎◌, ◌≤◌, ℕ, Bool, true, false, [], ◌∷◌, ◌++◌, refl, sym, ap}
use Rattle.std.proofs.Common.{subst, inl, inr}
use Rattle.std.specs.Prelude.{not, Option, Some, None, nat_lt, is_none, ◌&&◌, ◌||◌, if◌then◌else◌}
use Rattle.std.proofs.lemmas.Bool.{and_cases, ltb-false, not-false}
use Rattle.entry.specs.Tablet.{have_key}
use Rattle.versioned_map.specs.declared.command.Command.{Command}
use Rattle.versioned_map.specs.declared.command.Record.{Record}
use Rattle.versioned_map.specs.Command.{command_key}
use Rattle.versioned_map.specs.Versioned.{is_spent}
use Rattle.replay.specs.master.log_laws.Data.{FailData, state_of}
use Rattle.replay.specs.master.master_state.declared.config.Config.{Config}
use Rattle.replay.specs.master.master_state.declared.step.Refusal.{Refusal}
use Rattle.replay.specs.master.master_state.declared.step.Refusal.TheVariants as refusal
use Rattle.replay.specs.master.master_state.declared.step.StepAnswer.{StepAnswer}
use Rattle.replay.specs.master.master_state.Causes.{command_refusal, early_refusal, late_refusal, is_too_big, is_longer}
use Rattle.replay.specs.master.master_state.Causes.{is_overcommitted, live_now}
use Rattle.replay.specs.master.master_state.Data.{MasterData}
use Rattle.replay.specs.master.master_state.Log.{log_of, state_now, opening_of}
use Rattle.replay.specs.master.master_state.Steps.{Applies, record_now}
use Rattle.replay.proofs.of_driving.of_master.master_state.Refusals.{passes}
use Rattle.adoptable.specs.Limit.{HasLimit, IsAdmitted, IsAllowed, IsSum, KeepsLimit}
use Rattle.adoptable.proofs.Growing.{Admits, admits_more, sum_goes_on}

-- ---- what the tests let through

if_none : (t : Bool) (a b : Option Refusal) → t ≡ is_none a → (if t then b else a) ≡ None → (a ≡ None) × (b ≡ None)
if_none true None b is e = (refl, e)
if_none true (Some r) b is e = absurd (cc)
if_none false None b is e = absurd (cc)
if_none false (Some r) b is e = absurd (cc)

module _ (d : MasterData) (command : Command) (passed : command_refusal d command ≡ None) where
  both : (early_refusal d command ≡ None) × (late_refusal d command ≡ None)
  both = if_none _ (early_refusal d command) (late_refusal d command) refl passed

  passed_allowed : IsAllowed d.config command
  passed_allowed =
      let a = passes d.is_halted refusal.Halted _ both.0 in
      let b = passes (is_too_big command d.config.segment || is_longer command d.config.largest) refusal.TooBig _ a.1 in
      let t = passes (not (have_key d.config.tablets (command_key command))) refusal.NoTablet _ b.1 in
      (not-false (have_key d.config.tablets (command_key command)) t.0, b.0)

  -- the bytes are within the limit, or no more than there were
  passed_live : (live_now d command ≤ d.config.most_live) ⊎ (live_now d command ≤ d.live)
  passed_live =
      let a = passes (is_spent (state_now d).safe ((state_now d).contents (command_key command)) command)
      refusal.VersionsSpent _ both.1 in
      let b = passes (is_overcommitted d (live_now d command)) refusal.Overcommit _ a.1 in
      go (and_cases _ _ b.0)
    where
      go : (nat_lt d.config.most_live (live_now d command) ≡ false) ⊎ (nat_lt d.live (live_now d command) ≡ false)
          → (live_now d command ≤ d.config.most_live) ⊎ (live_now d command ≤ d.live)
      go (inl e) = inl (ltb-false _ _ e)
      go (inr e) = inr (ltb-false _ _ e)

-- ---- a command that is applied

pub applied_keeps : (d e : MasterData) (seat : ℕ) (command : Command) (answer : StepAnswer)
    → Applies d seat command answer e → KeepsLimit d → KeepsLimit e
applied_keeps d e seat command answer h keeps = record {
  limit = subst HasLimit (sym h.config) keeps.limit;
  counted = subst (IsSum (state_now e).contents) (sym live)
      (subst (λ (l : FailData). IsSum (state_of l).contents (live_now d command)) (sym h.log) counted);
  admitted = subst (λ (c : Config). IsAdmitted c (log_of e)) (sym h.config)
      (subst (IsAdmitted d.config) (sym h.log) admitted);
}
  where
    live : e.live ≡ live_now d command
    live = ap (λ (x : MasterData). x.live) h.rest

    r : Record
    r = record_now d seat command

    counted : IsSum (state_of (record (log_of d) { history = d.history ++ r ∷ [] })).contents (live_now d command)
    counted = sum_goes_on d.config keeps.limit.limited d.live (opening_of d) d.history keeps.admitted keeps.counted r
        (passed_allowed d command h.passed) (passed_live d command h.passed)

    admitted : Admits d.config (opening_of d) (d.history ++ r ∷ [])
    admitted = admits_more d.config keeps.limit.limited d.live (opening_of d) d.history keeps.admitted keeps.counted r
        (passed_allowed d command h.passed) (passed_live d command h.passed)
