-- When a master that is loaded pushes, and when it begins a roll.
use Rattle.std.proofs.Common.{◌≡◌, ◌<◌, ◌+◌, ◌-◌, ℕ, zero, suc, Bool, true, false, length, refl, sym, ap, subst, inl}
use Rattle.std.proofs.Common.{inr, ◌∙◌}
use Rattle.std.specs.Prelude.{Some, None, if◌then◌else◌, not, ◌&&◌, ◌⊎◌, is_none}
use Rattle.std.proofs.Math.Bool.{and-false}
use Rattle.std.proofs.Math.Nat.{lt_trans}
use Rattle.replica.specs.Picture.{FleetState}
use Rattle.driving.specs.master_core.master_state.declared.step.Refusal.{Refusal}
use Rattle.driving.specs.master_core.master_state.declared.step.Refusal.TheVariants as refusal
use Rattle.driving.specs.master_core.master_state.declared.step.Step.TheVariants.{Push, BeginRoll}
use Rattle.driving.specs.master_core.master_state.declared.step.StepAnswer.{StepAnswer}
use Rattle.driving.specs.master_core.master_state.Budget.{is_working}
use Rattle.driving.specs.master_core.master_state.Causes.{is_done}
use Rattle.driving.specs.master_core.master_state.Data.{MasterData}
use Rattle.driving.specs.master.Steps.{Accepts, Declines}
use Rattle.driving.specs.master.World.{World}
use Rattle.driving.specs.Rolls.{ArePushed, PushesUntil, GoesRolling, IsRolled, IsNotRolled}
use Rattle.driving.proofs.Losses.{left_to_push, push_lowers}
use Rattle.driving.proofs.MasterSteps.{done_works, nothing_waits}
use Rattle.replay.specs.Adopting.{IsFinal}

-- ---- pushes

-- no push is refused as Rolling
not_rolling : (old new : World) (r : Refusal) → Declines old Push r new → r ≡ refusal.Rolling → ⊥
not_rolling old new r h is = go (subst (λ (x : Refusal). Declines old Push x new) is h)
  where
    tested : (halted done : Bool)
        → (if halted then Some refusal.Halted else if done then Some refusal.Nothing else None)
        ≡ Some refusal.Rolling → ⊥
    tested true done e = cc
    tested false true e = cc
    tested false false e = cc

    go : Declines old Push refusal.Rolling new → ⊥
    go (inl h) = tested old.knows.is_halted (is_done old.knows) h.0
    go (inr (test, inl h)) = let never = h.2 in cc
    go (inr (test, inr (inl h))) = let never = h.2 in cc
    go (inr (test, inr (inr h))) = h.1

pub push_final : (old new : World) (r : Refusal) → PushesUntil old r new → (r ≡ refusal.Nothing → ⊥) → IsFinal r
push_final old new r (count, mid, pushes, declines, lost) not_nothing = (not_rolling mid new r declines, not_nothing)

-- pushes leave less to push, if there were any
fewer_pushed : (count : ℕ) (a c : World) → ArePushed count a c → (c ≡ a) ⊎ (left_to_push c < left_to_push a)
fewer_pushed zero a c same = inl same
fewer_pushed (suc count) a c (b, before, push) = inr (less (fewer_pushed count a b before))
  where
    less : (b ≡ a) ⊎ (left_to_push b < left_to_push a) → left_to_push c < left_to_push a
    less (inl same) = subst (λ (w : World). left_to_push c < left_to_push w) same (push_lowers b c push)
    less (inr low) = lt_trans (push_lowers b c push) low

-- something waited, so a push was made
fewer_until : (a c : World) → PushesUntil a refusal.Nothing c → is_done a.knows ≡ false
    → left_to_push c < left_to_push a
fewer_until a c (count, b, before, declines, lost) waits = go (fewer_pushed count a b before)
  where
    done : (c ≡ b) × (is_done c.knows ≡ true)
    done = nothing_waits b c declines

    go : (b ≡ a) ⊎ (left_to_push b < left_to_push a) → left_to_push c < left_to_push a
    go (inl same) =
        absurd (let both = sym done.1 ∙ ap (λ (w : World). is_done w.knows) (done.0 ∙ same) ∙ waits in cc)
    go (inr low) = subst (λ (w : World). left_to_push w < left_to_push a) (sym done.0) low

-- ---- rolls

-- something waits unless the head is open and no failover is
unworking_waits : (d : MasterData) → is_working d ≡ false → is_done d ≡ false
unworking_waits d is = go (is_done d) refl
  where
    go : (t : Bool) → is_done d ≡ t → is_done d ≡ false
    go true e = absurd (let both = sym (done_works d e) ∙ is in cc)
    go false e = e

-- a head that a roll leaves is not open
rolling_waits : (old new : World) (a : StepAnswer) → Accepts old BeginRoll a new → is_done new.knows ≡ false
rolling_waits old new a h =
    unworking_waits new.knows (ap is_working h.0.rest
    ∙ ap (λ (b : Bool). b && is_none old.knows.failover) (and-false _))

shut_head : (old new : World) → Declines old BeginRoll refusal.Rolling new → is_working old.knows ≡ false
shut_head old new (same, inl test) = tested old.knows.is_halted (is_working old.knows) _ _ test
  where
    tested : (halted works spent may : Bool)
        → (if halted then Some refusal.Halted else if not works then Some refusal.Rolling
        else if spent then Some refusal.SegmentsSpent else if may then Some refusal.Full else None)
        ≡ Some refusal.Rolling → works ≡ false
    tested true works spent may e = absurd (cc)
    tested false false spent may e = refl
    tested false true true may e = absurd (cc)
    tested false true false true e = absurd (cc)
    tested false true false false e = absurd (cc)
shut_head old new (same, inr memory) = let none = memory.1 in absurd (cc)

not_nothing : (old new : World) (r : Refusal) → Declines old BeginRoll r new → r ≡ refusal.Nothing → ⊥
not_nothing old new r h is = go (subst (λ (x : Refusal). Declines old BeginRoll x new) is h)
  where
    tested : (halted opened spent may : Bool)
        → (if halted then Some refusal.Halted else if opened then Some refusal.Rolling
        else if spent then Some refusal.SegmentsSpent else if may then Some refusal.Full else None)
        ≡ Some refusal.Nothing → ⊥
    tested true opened spent may e = cc
    tested false true spent may e = cc
    tested false false true may e = cc
    tested false false false true e = cc
    tested false false false false e = cc

    go : Declines old BeginRoll refusal.Nothing new → ⊥
    go (same, inl test) = tested _ _ _ _ test
    go (same, inr memory) = let none = memory.1 in cc

pub roll_final : (old new : World) (r : Refusal) → IsNotRolled old r new → IsFinal r
roll_final old new r (inl (declines, not_rolling)) = (not_rolling, not_nothing old new r declines)
roll_final old new r (inr (mid, rolling, until, not_nothing)) = push_final mid new r until not_nothing

-- the begin of a roll leaves as much to push
same_left : (old new : World) (a : StepAnswer) → Accepts old BeginRoll a new → left_to_push new ≡ left_to_push old
same_left old new a (roll, fleet) i =
    ap (λ (f : FleetState). f.end - f.takes) fleet i
    + ap (λ (d : MasterData). d.config.backups - length d.failed) roll.rest i

-- a roll leaves less to push
rolling_fewer : (a b c : World) → GoesRolling a b → PushesUntil b refusal.Nothing c
    → left_to_push c < left_to_push a
rolling_fewer a b c (inl (answer, roll)) until =
    subst (λ (n : ℕ). left_to_push c < n) (same_left a b answer roll)
    (fewer_until b c until (rolling_waits a b answer roll))
rolling_fewer a b c (inr (same, why)) until =
    subst (λ (w : World). left_to_push c < left_to_push w) same (fewer_until b c until waits)
  where
    waits : is_done b.knows ≡ false
    waits = ap (λ (w : World). is_done w.knows) same ∙ unworking_waits a.knows (shut_head a b (same, why))

pub rolled_fewer : (id : ℕ) (a c : World) → IsRolled a id c → left_to_push c < left_to_push a
rolled_fewer id a c h = rolling_fewer a h.mid c h.rolling h.pushed
