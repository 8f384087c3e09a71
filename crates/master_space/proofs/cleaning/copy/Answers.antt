use Rattle.std.proofs.Common.{◌≡◌, ◌+◌, ◌<◌, ◌≤◌, true, false, List, ℕ, length, refl, sym, ap, subst, ◌∙◌, arith}
use Rattle.std.specs.Prelude.{Option, Some, None, IfSome, IsSome}
use Rattle.std.specs.Vec.{vec_capacity}
use Rattle.std.specs.Result.{result_err}
use Rattle.cleaner.specs.declared.pass.Pass.{Pass}
use Rattle.cleaner.specs.Passes.{ids_in, is_at_end, CopiesOne}
use Rattle.images.specs.Images.{ImagesValue}
use Rattle.master_state.specs.contracts.state.Core.{the_view}
use Rattle.master_state.specs.Causes.{copy_refusal, step_refusal}
use Rattle.master_state.specs.Data.{MasterData}
use Rattle.master_state.specs.Invariant.{IsCore, AreImagesOf, AreTallied}
use Rattle.master_state.specs.Log.{log_set_ids}
use Rattle.master_state.proofs.Calm.{calm_parts}
use Rattle.master_space.proofs.CopiedCore.{copied_core, copied_tallies}
use Rattle.master_space.proofs.CopiedImages.{length_same}
use Rattle.master_space.proofs.cleaning.copy.Goals as goal

-- no test refused it
no_refusal : (d : MasterData) (p : Pass) → step_refusal d ≡ None → d.pass ≡ Some p → is_at_end p ≡ false
    → copy_refusal d ≡ None
no_refusal d p step opened more = rw (step, opened, more) refl

module _ (c : goal.After-copy_answer) where
  abbrev d : MasterData
  d = the_view c.core.inside

  abbrev p : Pass
  p = c.in-Some.pass

  abbrev q : Pass
  q = c.copy_next-copied.new.pass

  opened : d.pass ≡ Some p
  opened = c.in-Some.is

  step : step_refusal d ≡ None
  step = ap step_refusal c.core.view_is ∙ sym c.admit.ensures ∙ ap result_err c.in_ok-admit.was

  one : CopiesOne d.config.segment (log_set_ids d) p d.closed d.index c.copy_next-copied.result q
      c.copy_next-copied.new.closed.images c.copy_next-copied.new.index.held
  one =
      subst (λ (x : ℕ × List ℕ). CopiesOne x.0 x.1 p d.closed d.index c.copy_next-copied.result q
      c.copy_next-copied.new.closed.images c.copy_next-copied.new.index.held)
      (λ i. (c.core.invariant.1.segment i, ids_in d.closed (c.id-head.ensures.id i) (c.opening_id-new.ensures i)))
      c.copy_next-copied.ensures.copied

  valid_then : IsCore (record d {
    closed = c.copy_next-copied.new.closed.images;
    index = c.copy_next-copied.new.index.held;
    pass = Some q;
  })
  valid_then =
      copied_core d c.core.invariant.2 p q c.copy_next-copied.result c.copy_next-copied.new.closed.images
      c.copy_next-copied.new.index.held opened
      (sym c.is_at_end.ensures ∙ c.if-is_at_end.false) c.show_valid.ensures.rising (calm_parts d step).1 one
      c.copy_next-copied.ensures.pass

  room_then : IsSome d.head.roll → length c.copy_next-copied.new.closed.images < c.copy_next-copied.new.closed.room
  room_then some =
      let was = c.core.invariant.0 some in
      let len = ap length one.survivor ∙ length_same d.closed (p.survivors.first + q.filling) one.entry _ in
      let room = ap (λ (v : ImagesValue). v.room) c.copy_next-copied.ensures.images in
      omega (arith, was, len, room)

  sizes_then : AreImagesOf d.config c.copy_next-copied.new.closed
  sizes_then = (let own = c.core.invariant.1 in
      subst (AreImagesOf d.config) (sym c.copy_next-copied.ensures.images)
      (record { segment = own.segment; seglet = own.seglet; seglets = own.seglets }))

  waiting_then : q.is_committing ≡ true → length d.waiting + length q.victims ≤ vec_capacity c.core.inside.waiting
  waiting_then commits =
      let was = subst (λ (o : Option Pass). IfSome o
      (λ z. z.is_committing ≡ true → length d.waiting + length z.victims ≤ vec_capacity c.core.inside.waiting)) opened
      c.core.invariant.3 in
      subst (λ (z : Pass). length d.waiting + length z.victims ≤ vec_capacity c.core.inside.waiting) (sym one.pass)
      (was (ap (λ (z : Pass). z.is_committing) (sym one.pass) ∙ commits))

  tallied_then : AreTallied (record d {
    closed = c.copy_next-copied.new.closed.images;
    index = c.copy_next-copied.new.index.held;
    pass = Some q;
  }) c.copy_next-copied.new.tallies
  tallied_then =
      copied_tallies d c.core.invariant.2 p q c.copy_next-copied.result c.copy_next-copied.new.closed.images
      c.copy_next-copied.new.index.held c.core.inside.tallies c.copy_next-copied.new.tallies opened
      (sym c.is_at_end.ensures ∙ c.if-is_at_end.false) c.show_valid.ensures.rising (calm_parts d step).1 one
      c.copy_next-copied.ensures.counted c.core.invariant.4

pub invariant_of-core-2 : goal.invariant_of-core-2
invariant_of-core-2 c = (
  λ some. room_then c some,
  sizes_then c,
  valid_then c,
  λ commits. waiting_then c commits,
  tallied_then c,
)

pub returns-clause-valid : goal.returns-clause-valid
returns-clause-valid c = valid_then c

pub returns-clause-copied : goal.returns-clause-copied
returns-clause-copied c = rw (← c.core.view_is) (record {
  passed = no_refusal (d c) (p c) (step c) (opened c) (sym c.is_at_end.ensures ∙ c.if-is_at_end.false);
  pass = p c;
  after = q c;
  copied = c.copy_next-copied.result;
  opened = opened c;
  treats = one c;
  told = c.copy_answer.ensures;
  log = refl;
  rest = refl;
})
