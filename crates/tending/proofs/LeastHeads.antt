-- Whatever steps a cleaner makes, no least head of another master is raised.
use Rattle.std.proofs.Common.{◌≡◌, ℕ, zero, suc, inl, inr, ap, ◌∙◌}
use Rattle.std.specs.Prelude.{Bool, Result, Ok, Err}
use Rattle.driving.specs.Rolls.{Advances}
use Rattle.driving.specs.master.World.{World}
use Rattle.driving.specs.master.master_state.declared.config.Config.{Config}
use Rattle.driving.specs.master.master_state.declared.step.Refusal.{Refusal}
use Rattle.driving.specs.master.master_state.declared.step.Refusal.TheVariants as refusal
use Rattle.driving.specs.master.master_state.declared.step.Step.{Step}
use Rattle.driving.proofs.LeastHeads.{LeavesOthers, step_leaves}
use Rattle.tending.specs.declared.policy.Policy.{Policy}
use Rattle.tending.specs.Tends.{AreShort, AreTended, IsRefused, Tends, TendsBehind, TendsUntil}
use Rattle.tending.specs.Rounds.{AreContinued, IsFinished, MakesRound}

pub leaves_on : (a b c : World) → LeavesOthers a b → LeavesOthers b c → LeavesOthers a c
leaves_on a b c first later = record {
  config = later.config ∙ first.config;
  least = λ m other.
      later.least m (λ is. other (is ∙ ap (λ (x : Config). x.master) first.config)) ∙ first.least m other;
}

pub nowhere : (old new : World) → new ≡ old → LeavesOthers old new
nowhere old new same = record {
  config = ap (λ (w : World). w.knows.config) same;
  least = λ m other. ap (λ (w : World). w.fleet.least m) same;
}

advance_leaves : (old new : World) (s : Step) → Advances s old new → LeavesOthers old new
advance_leaves old new s (inl (a, h)) = step_leaves old new s (Ok a) h
advance_leaves old new s (inr (b, h)) = step_leaves old new s (Err (refusal.Lost b)) h

tended_leaves : (count : ℕ) (old new : World) → AreTended count old new → LeavesOthers old new
tended_leaves zero old new is = nowhere old new is
tended_leaves (suc count) old new (mid, before, s, is, goes) =
    leaves_on old mid new (tended_leaves count old mid before) (advance_leaves mid new s goes)

refused_leaves : (old : World) (r : Refusal) (new : World) → IsRefused old r new → LeavesOthers old new
refused_leaves old r new (inl (s, is, declines, lost)) = step_leaves old new s (Err r) declines
refused_leaves old r new (inr (memory, same)) = nowhere old new same

until_leaves : (most : ℕ) (old : World) (r : Refusal) (new : World) → TendsUntil most old r new → LeavesOthers old new
until_leaves most old r new (count, few, mid, tended, refused) =
    leaves_on old mid new (tended_leaves count old mid tended) (refused_leaves mid r new refused)

pub tends_leave : (policy : Policy) (most : ℕ) (old new : World) (result : Result ℕ Refusal)
    → Tends policy most old result new → LeavesOthers old new
tends_leave policy most old new (Ok made) is = tended_leaves made old new is.0.tended
tends_leave policy most old new (Err r) is = until_leaves most old r new is

short_leaves : (policy : Policy) (count : ℕ) (old new : World) → AreShort policy count old new → LeavesOthers old new
short_leaves policy zero old new is = nowhere old new is
short_leaves policy (suc count) old new (mid, before, s, is, short, goes) =
    leaves_on old mid new (short_leaves policy count old mid before) (advance_leaves mid new s goes)

pub behind_leaves : (policy : Policy) (most : ℕ) (old new : World) (result : Result ℕ Refusal)
    → TendsBehind policy most old result new → LeavesOthers old new
behind_leaves policy most old new (Ok made) (inl (few, short, rests)) = short_leaves policy made old new short
behind_leaves policy most old new (Ok made) (inr (count, one, few, mid, short, s, is, long, goes)) =
    leaves_on old mid new (short_leaves policy count old mid short) (advance_leaves mid new s goes)
behind_leaves policy most old new (Err r) (count, few, mid, short, refused) =
    leaves_on old mid new (short_leaves policy count old mid short) (refused_leaves mid r new refused)

continued_leaves : (count : ℕ) (old new : World) → AreContinued count old new → LeavesOthers old new
continued_leaves zero old new is = nowhere old new is
continued_leaves (suc count) old new (mid, before, s, is, goes) =
    leaves_on old mid new (continued_leaves count old mid before) (advance_leaves mid new s goes)

finished_leaves : (old new : World) → IsFinished old new → LeavesOthers old new
finished_leaves old new is = continued_leaves is.count old new is.continued

pub round_leaves : (policy : Policy) (old new : World) (result : Result Bool Refusal)
    → MakesRound policy old result new → LeavesOthers old new
round_leaves policy old new (Ok gained) (inl (inl (is, rests), gains)) = finished_leaves old new is
round_leaves policy old new (Ok gained) (inl (inr (mid, first, begun, s, is, goes, last), gains)) =
    leaves_on old mid new (finished_leaves old mid first)
    (leaves_on mid begun new (advance_leaves mid begun s goes) (finished_leaves begun new last))
round_leaves policy old new (Ok gained) (inr (up, gains)) = tended_leaves up.0 old new up.2
round_leaves policy old new (Err r) is = until_leaves is.0 old r new is.1
