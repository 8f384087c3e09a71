use Rattle.std.proofs.Common.{◌≡◌, ◌<◌, ℕ, None, length, refl, sym, ap, subst, ◌∙◌}
use Rattle.std.specs.Prelude.{IsSome}
use Rattle.std.specs.Result.{result_err}
use Rattle.master_state.specs.compactor.Places.{keys_in}
use Rattle.entry.specs.declared.entry.Object.{Object}
use Rattle.entry.specs.Text.{text_of}
use Rattle.entry.specs.View.{shown_object}
use Rattle.log_head.specs.Head.{HeadValue, IsHeadValue}
use Rattle.log_head.specs.Steps.{with_unit_end}
use Rattle.master_state.specs.contracts.state.Core.{the_view}
use Rattle.master_commands.specs.declared.change.Change.TheVariants as change
use Rattle.master_state.specs.Data.{MasterData}
use Rattle.master_state.specs.Images.{images_among}
use Rattle.master_commands.proofs.Indexed.{IsMovedBy}
use Rattle.master_state.specs.Invariant.{AreTallied, IsCore}
use Rattle.master_state.specs.Live.{object_bytes, with_bytes}
use Rattle.master_commands.proofs.Changes.{length_object_entry}
use Rattle.master_state.specs.Loading.{IsBare, IsNewObject, loaded_unit, load_refusal, Loads, MayLoadNow}
use Rattle.master_commands.proofs.LoadedCore.{is_admitted, absent_then, loaded, may_load, loaded_core, loads}
use Rattle.master_commands.proofs.Tallied.{object_tallied}
use Rattle.tally.specs.Rows.{more, IsChangedAt}
use Rattle.master_commands.proofs.loading.load.Goals as goal
use Rattle.master_commands.proofs.loading.load.Goals.{After-from_residual-in_err-append_object, After-with-core-inside}

pub append_object-requires-clause-fits : goal.append_object-requires-clause-fits
append_object-requires-clause-fits c =
    let d = the_view c.core.inside in
    let o = shown_object c.args.object.now in
    let passed : load_refusal d o ≡ None =
    subst (λ (m : MasterData). load_refusal m o ≡ None) (sym c.core.view_is)
    (sym c.admit_object.ensures ∙ ap result_err c.in_ok-admit_object.was) in
    (is_admitted d o passed).room

module _ (c : goal.After-with-core-inside) where
  abbrev d : MasterData
  d = the_view c.core.inside

  abbrev o : Object
  o = shown_object c.args.object.now

  bare : IsBare d
  bare = subst IsBare (sym c.core.view_is) c.requires.bare

  is_new : IsNewObject d o
  is_new = subst (λ (m : MasterData). IsNewObject m o) (sym c.core.view_is) c.requires.new

  passed : load_refusal d o ≡ None
  passed =
      subst (λ (m : MasterData). load_refusal m o ≡ None) (sym c.core.view_is)
      (sym c.admit_object.ensures ∙ ap result_err c.in_ok-admit_object.was)

  head_is : c.append_object.new.head ≡ with_unit_end d.head 0 (loaded_unit o)
  head_is = c.in_ok-append_object.ensures.head

  head : IsHeadValue (with_unit_end d.head 0 (loaded_unit o))
  head = subst IsHeadValue head_is c.in_ok-append_object.ensures.valid

  moved : IsMovedBy (keys_in (images_among (with_unit_end d.head 0 (loaded_unit o)) d.closed)) d.index
      (change.Create o.version) o.key
      (record { segment = d.head.id; at = length (text_of d.head.image) }) c.append_object.new.index.held
  moved = λ kept tells.
      c.in_ok-append_object.ensures.index (keys_in (images_among
      (with_unit_end d.head 0 (loaded_unit o)) d.closed)) kept
      (absent_then d c.core.invariant.2 bare o is_new head) tells

  abbrev left : MasterData
  left = record d {
    head = c.append_object.new.head;
    index = c.append_object.new.index.held;
    origin = record { objects = c.with-core-inside.result.objects; safe = d.origin.safe };
    live = c.saturating_add-live.result;
  }

  len : c.object_len-len.result ≡ object_bytes o.key o.value
  len = c.object_len-len.ensures.len ∙ length_object_entry o.key o.version o.value

  live : c.saturating_add-live.result ≡ with_bytes d.live (object_bytes o.key o.value)
  live = c.saturating_add-live.ensures ∙ ap (with_bytes d.live) len

  knows : loaded d c.core.invariant.2 bare o is_new passed c.append_object.new.index.held head moved ≡ left
  knows = λ i. record d {
    head = sym head_is i;
    index = c.append_object.new.index.held;
    origin = record { objects = sym c.with-core-inside.ensures i; safe = d.origin.safe };
    live = sym live i;
  }

  core : IsCore left
  core = subst IsCore knows (loaded_core d c.core.invariant.2 bare o is_new passed
      c.append_object.new.index.held head moved)

  loads_left : Loads d o left
  loads_left =
      subst (λ (m : MasterData). Loads d o m) knows
      (loads d c.core.invariant.2 bare o is_new passed c.append_object.new.index.held head moved)

  may : MayLoadNow d o
  may = may_load d c.core.invariant.2 bare o is_new passed c.append_object.new.index.held head moved

  roll_then : c.append_object.new.head.roll ≡ d.head.roll
  roll_then = ap (λ (h : HeadValue). h.roll) head_is

  counted : IsChangedAt d.head.id (more (object_bytes o.key o.value) 0) c.core.inside.tallies c.grow.new.self
  counted =
      let id = c.id-head.ensures.id ∙ ap (λ (h : HeadValue). h.id) head_is in
      subst (λ (n : ℕ). IsChangedAt d.head.id (more n 0) c.core.inside.tallies c.grow.new.self) len
      (subst (λ (n : ℕ). IsChangedAt n (more c.object_len-len.result 0) c.core.inside.tallies c.grow.new.self) id
      c.grow.ensures.grown)

  tallied : AreTallied left c.grow.new.self
  tallied =
      subst (λ (m : MasterData). AreTallied m c.grow.new.self) knows
      (object_tallied d c.core.invariant.2 (with_unit_end d.head 0 (loaded_unit o)) (loaded_unit o) refl refl refl head
      o
      c.append_object.new.index.held c.core.inside.tallies c.grow.new.self refl moved
      (absent_then d c.core.invariant.2 bare o is_new head) counted c.core.invariant.4)

-- ---- the core as it was, where memory was refused

module _ (c : goal.After-from_residual-in_err-append_object) where
  abbrev was : MasterData
  was = the_view c.core.inside

  kept : (c.append_object.new.head ≡ was.head) × (c.append_object.new.index.held ≡ was.index)
  kept = c.in_err-append_object.ensures.err

  unchanged : was ≡ record was { head = c.append_object.new.head; index = c.append_object.new.index.held }
  unchanged = λ i. record was { head = sym kept.0 i; index = sym kept.1 i }

pub invariant_of-core : goal.invariant_of-core
invariant_of-core c = (
  subst (λ (h : HeadValue). IsSome h.roll → length c.core.inside.closed.images < c.core.inside.closed.room)
      (sym (kept c).0) c.core.invariant.0,
  c.core.invariant.1,
  subst IsCore (unchanged c) c.core.invariant.2,
  c.core.invariant.3,
  subst (λ (m : MasterData). AreTallied m c.core.inside.tallies) (unchanged c) c.core.invariant.4,
)

pub invariant_of-core-2 : goal.invariant_of-core-2
invariant_of-core-2 c =
    let t = (goal.at.invariant_of-core-2 c).After-with-core-inside in (
      λ some. c.core.invariant.0 (subst IsSome (roll_then t) some),
      c.core.invariant.1,
      core t,
      c.core.invariant.3,
      tallied t,
    )

pub returns-clause-loaded : goal.returns-clause-loaded
returns-clause-loaded c =
    let t = (goal.at.returns-clause-loaded c).After-with-core-inside in
    subst (λ (m : MasterData). Loads m (o t) (left t)) c.core.view_is (loads_left t)

pub returns-clause-may : goal.returns-clause-may
returns-clause-may c =
    let t = (goal.at.returns-clause-may c).After-with-core-inside in
    subst (λ (m : MasterData). MayLoadNow m (o t)) c.core.view_is (may t)

pub returns-clause-valid : goal.returns-clause-valid
returns-clause-valid c = core (goal.at.returns-clause-valid c).After-with-core-inside
