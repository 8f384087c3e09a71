use Rattle.std.proofs.Common.{◌≡◌, ℕ, ◌-◌, List, take, sym, ap, subst, ◌∙◌, arith}
use Rattle.std.specs.Prelude.{Some}
use Rattle.cleaner.specs.Passes.{ids_in}
use Rattle.compactor.specs.Kept.{has_id}
use Rattle.images.specs.Image.{Image}
use Rattle.images.specs.Sorted.{AreRising, segment_of}
use Rattle.master_state.specs.contracts.state.Core.{the_view}
use Rattle.master_space.specs.declared.candidates.Candidate.{Candidate}
use Rattle.master_state.specs.Budget.{survivors_of}
use Rattle.master_space.specs.Choosing.{placed, sorted, candidates}
use Rattle.master_state.specs.Data.{MasterData}
use Rattle.master_space.proofs.Chosen.{best_from, of_images, candidate_of, best_end, walk_passed, walk_placed}
use Rattle.master_space.proofs.Chosen.{candidates_are}
use Rattle.master_state.specs.Log.{log_set_ids}
use Rattle.tally.specs.Fills.{kept_len}
use Rattle.master_space.proofs.Tallied.{read_there}
use Rattle.master_space.proofs.choosing.best.Goals as goal

pub loop-at-init : goal.loop-at-init
loop-at-init c = record {
  best = c.in_ok-best.ensures.items ∙ sym (best_end c.args.core.now c.as_slice-images.result.now);
  few = omega (arith, c.in_ok-best.ensures.len);
  room = omega (arith, c.in_ok-best.ensures.exact);
}

pub loop-at-preserved : goal.loop-at-preserved
loop-at-preserved c =
    let d = c.args.core.now in
    let survivor = ap (λ (n : ℕ). has_id (survivors_of d.pass) n) (sym c.id-id.ensures)
    ∙ sym c.is_survivor.ensures ∙ c.if-not-is_survivor.false in
    record {
      best = c.loop-at.invariant.best
          ∙ walk_passed d c.as_slice-images.result.now c.loop-at.at c.index-images-at.result
          c.loop-at-test.true c.loop-at.auto.at
          c.index-images-at.is survivor;
      few = c.loop-at.invariant.few;
      room = c.loop-at.invariant.room;
    }

pub kept_in-kept-requires-clause-there : goal.kept_in-kept-requires-clause-there
kept_in-kept-requires-clause-there c =
    let cs = c.as_slice-images.result.now in
    let rising = subst AreRising (sym c.as_slice-images.ensures.images) c.as_slice-images.ensures.valid.rising in
    (λ i. segment_of ((ap (λ (m : MasterData). m.closed) (sym c.core.view_is) ∙ sym c.as_slice-images.ensures.images) i)
    (c.id-id.ensures i))
    ∙ read_there cs (c.loop-at.at - 1) c.index-images-at.result rising
    (omega (arith, c.loop-at-test.true, c.loop-at.auto.at)) c.index-images-at.is
    ∙ ap Some (sym c.segment.ensures)

pub kept_in-kept-requires-clause-log : goal.kept_in-kept-requires-clause-log
kept_in-kept-requires-clause-log c =
    (λ i. ids_in (the_view c.core.inside).closed (c.id.ensures.id i) (c.opening_id.ensures i))
    ∙ ap log_set_ids c.core.view_is

pub loop-at-preserved-then-not-is_survivor : goal.loop-at-preserved-then-not-is_survivor
loop-at-preserved-then-not-is_survivor c =
    let d = c.args.core.now in
    let image = c.index-images-at.result in
    let other = ap (λ (n : ℕ). has_id (survivors_of d.pass) n) (sym c.id-id.ensures)
    ∙ sym c.is_survivor.ensures ∙ c.if-not-is_survivor.true in
    let kept : c.kept_in-kept.result ≡ (candidate_of d image).kept =
    c.kept_in-kept.ensures
    ∙ (λ i. kept_len (log_set_ids d) d.index (c.id-id.ensures i) (c.segment.ensures i)) in
    record {
      best = c.rank.ensures.placed
          ∙ ap (λ (xs : List Candidate).
          take 32 (placed (record { id = c.id-id.result; kept = c.kept_in-kept.result }) xs))
          c.loop-at.invariant.best
          ∙ walk_placed d c.as_slice-images.result.now c.loop-at.at image c.loop-at-test.true c.loop-at.auto.at
          c.index-images-at.is
          (record { id = c.id-id.result; kept = c.kept_in-kept.result })
          (λ i. record { id = c.id-id.ensures i; kept = kept i }) other;
      few = c.rank.ensures.few;
      room = c.rank.ensures.room;
    }

pub returns : goal.returns
returns c =
    let d = the_view c.core.inside in
    let none : c.loop-at.at ≡ 0 = omega (arith, c.loop-at-test.false) in
    subst (λ (m : MasterData). c.loop-at.best.items ≡ best_from m c.as_slice-images.result.now c.loop-at.at)
    (sym c.core.view_is) c.loop-at.invariant.best
    ∙ ap (best_from d c.as_slice-images.result.now) none
    ∙ ap (λ (cs : List Image). take 32 (sorted (of_images d cs))) c.as_slice-images.ensures.images
    ∙ ap (λ (xs : List Candidate). take 32 (sorted xs)) (sym
    (candidates_are d c.core.invariant.2 c.as_slice-images.ensures.valid.rising))
    ∙ ap (λ (m : MasterData). take 32 (sorted (candidates m))) c.core.view_is
