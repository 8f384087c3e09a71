use Rattle.std.proofs.Common.{◌≡◌, ℕ, suc, ◌+◌, ◌-◌, ◌≤◌, true, List, length, refl, sym, ap, subst, ◌∙◌, vec_capacity}
use Rattle.std.specs.Prelude.{Option, Some, None, IfSome, IsSome}
use Rattle.std.proofs.lemmas.Option.{slice_get_within}
use Rattle.cleaner.specs.declared.pass.Pass.{Pass}
use Rattle.images.specs.Sorted.{image_of, added}
use Rattle.entry.specs.declared.entry.Entry.{Entry}
use Rattle.log_head.specs.declared.head.Roll.{Roll}
use Rattle.log_head.specs.declared.next.Next.{Next}
use Rattle.log_head.specs.declared.next.Next.TheVariants as next
use Rattle.log_head.specs.Head.{HeadValue, IsHeadValue}
use Rattle.log_head.specs.Next.{IsNextPush}
use Rattle.log_head.specs.Steps.{with_new_replica}
use Rattle.master_state.specs.contracts.state.Core.{the_view}
use Rattle.master_state.specs.Data.{MasterData}
use Rattle.images.specs.Images.{ImagesValue}
use Rattle.master_rolls.specs.Ends.{closed_left, waiting_left, IsCountedOut}
use Rattle.images.specs.Image.{Image, closed_image}
use Rattle.master_state.specs.Invariant.{IsCore, AreImagesOf, AreTallied}
use Rattle.master_state.specs.Budget.{seglets_of}
use Rattle.master_state.specs.Steps.{closed_data, taken_data}
use Rattle.master_state.proofs.LogIds.{absent, no_head}
use Rattle.master_rolls.proofs.Taken.{taken_core, opened_core}
use Rattle.master_rolls.proofs.Closing.{left_early, core_ended, ended_taken, ended_valid, early_taken, early_valid}
use Rattle.master_rolls.proofs.Closing.{none_then, old_is, closing_roll, ended_tallied, early_tallied}
use Rattle.master_rolls.proofs.Tallied.{on_tallied}
use Rattle.master_state.proofs.PassIds.{numbers_of}
use Rattle.master_rolls.proofs.Budgets.{closed_seglets, closing_fits, free_again}
use Rattle.master_rolls.proofs.rolling.took.Goals as goal

-- ---- a replica of a first head

module _ (c : goal.After-open) where
  abbrev d : MasterData
  d = the_view c.core.inside

  waits : IsNextPush d.head (Some (next.OpenFirst c.in-OpenFirst.field-0))
  waits =
      subst (λ (n : Next). IsNextPush d.head (Some n)) c.in-OpenFirst.is
      (subst (λ (m : MasterData). IsNextPush m.head (Some c.args.next)) (sym c.core.view_is) c.requires.next)

  calm : d.failover ≡ None
  calm = ap (λ (m : MasterData). m.failover) c.core.view_is ∙ c.requires.calm

  opened : IsCore (record d { head = c.open.new.self })
  opened =
      subst (λ (h : HeadValue). IsCore (record d { head = h })) (sym c.open.ensures.opened)
      (taken_core d c.core.invariant.2 calm (next.OpenFirst c.in-OpenFirst.field-0) waits
      (subst IsHeadValue c.open.ensures.opened c.open.ensures.valid))

  tallied : AreTallied (record d { head = c.open.new.self }) c.core.inside.tallies
  tallied =
      subst (λ (h : HeadValue). AreTallied (record d { head = h }) c.core.inside.tallies) (sym c.open.ensures.opened)
      c.core.invariant.4

  room : c.open.new.self.roll ≡ d.head.roll
  room = ap (λ (h : HeadValue). h.roll) c.open.ensures.opened

pub invariant_of-core : goal.invariant_of-core
invariant_of-core c = (
  λ some. c.core.invariant.0 (subst IsSome (room c) some),
  c.core.invariant.1,
  opened c,
  c.core.invariant.3,
  tallied c,
)

pub returns-in-OpenFirst-clause-valid : goal.returns-in-OpenFirst-clause-valid
returns-in-OpenFirst-clause-valid c = opened c

-- ---- a unit

pub extend-requires : goal.extend-requires
extend-requires c =
    let waits : IsNextPush (the_view c.core.inside).head (Some (next.Extend c.in-Extend.replica)) =
    subst (λ (n : Next). IsNextPush (the_view c.core.inside).head (Some n)) c.in-Extend.is
    (subst (λ (m : MasterData). IsNextPush m.head (Some c.args.next)) (sym c.core.view_is) c.requires.next) in
    slice_get_within _ c.in-Extend.replica waits.1.0 waits.1.1

module _ (c : goal.After-extend) where
  abbrev d' : MasterData
  d' = the_view c.core.inside

  lags : IsNextPush d'.head (Some (next.Extend c.in-Extend.replica))
  lags =
      subst (λ (n : Next). IsNextPush d'.head (Some n)) c.in-Extend.is
      (subst (λ (m : MasterData). IsNextPush m.head (Some c.args.next)) (sym c.core.view_is) c.requires.next)

  calm' : d'.failover ≡ None
  calm' = ap (λ (m : MasterData). m.failover) c.core.view_is ∙ c.requires.calm

  extended : IsCore (record d' { head = c.extend.new.self })
  extended =
      subst (λ (h : HeadValue). IsCore (record d' { head = h })) (sym c.extend.ensures.extended)
      (taken_core d' c.core.invariant.2 calm' (next.Extend c.in-Extend.replica) lags
      (subst IsHeadValue c.extend.ensures.extended c.extend.ensures.valid))

  tallied' : AreTallied (record d' { head = c.extend.new.self }) c.core.inside.tallies
  tallied' =
      subst (λ (h : HeadValue). AreTallied (record d' { head = h }) c.core.inside.tallies)
      (sym c.extend.ensures.extended) c.core.invariant.4

  room' : c.extend.new.self.roll ≡ d'.head.roll
  room' = ap (λ (h : HeadValue). h.roll) c.extend.ensures.extended

pub invariant_of-core-in-Extend : goal.invariant_of-core-in-Extend
invariant_of-core-in-Extend c = (
  λ some. c.core.invariant.0 (subst IsSome (room' c) some),
  c.core.invariant.1,
  extended c,
  c.core.invariant.3,
  tallied' c,
)

pub returns-in-Extend-clause-valid : goal.returns-in-Extend-clause-valid
returns-in-Extend-clause-valid c = extended c

-- ---- a replica of the new head

module _ (c : goal.After-open_new) where
  abbrev m : MasterData
  m = the_view c.core.inside

  rolls : IsNextPush m.head (Some (next.OpenNew c.in-OpenNew.field-0))
  rolls =
      subst (λ (n : Next). IsNextPush m.head (Some n)) c.in-OpenNew.is
      (subst (λ (x : MasterData). IsNextPush x.head (Some c.args.next)) (sym c.core.view_is) c.requires.next)

  calm-m : m.failover ≡ None
  calm-m = ap (λ (x : MasterData). x.failover) c.core.view_is ∙ c.requires.calm

  new_opened : c.open_new.new.self ≡ with_new_replica m.head rolls.1
  new_opened = subst (λ (o : Option Roll). IfSome o (λ r. c.open_new.new.self ≡ with_new_replica m.head r)) rolls.2
      c.open_new.ensures.opened

  core_opened : IsCore (record m { head = c.open_new.new.self })
  core_opened =
      subst (λ (h : HeadValue). IsCore (record m { head = h })) (sym new_opened)
      (opened_core m c.core.invariant.2 rolls.1 rolls.2 calm-m (subst IsHeadValue new_opened c.open_new.ensures.valid))

  tallied-m : AreTallied (record m { head = c.open_new.new.self }) c.core.inside.tallies
  tallied-m =
      subst (λ (h : HeadValue). AreTallied (record m { head = h }) c.core.inside.tallies) (sym new_opened)
      (on_tallied m c.core.invariant.2 rolls.1 rolls.2 (record rolls.1 { opened = suc rolls.1.opened }) refl refl
      c.core.inside.tallies c.core.invariant.4)

  some_roll : IsSome m.head.roll
  some_roll = subst IsSome (sym rolls.2) refl

pub invariant_of-core-in-OpenNew : goal.invariant_of-core-in-OpenNew
invariant_of-core-in-OpenNew c =
    (λ some. c.core.invariant.0 (some_roll c), c.core.invariant.1, core_opened c, c.core.invariant.3, tallied-m c)

pub returns-in-OpenNew-clause-valid : goal.returns-in-OpenNew-clause-valid
returns-in-OpenNew-clause-valid c = core_opened c

-- ---- a replica of the old head

module _ (c : goal.After-end_pass) where
  abbrev k : MasterData
  k = the_view c.core.inside

  ends : (r : Roll) × (k.head.roll ≡ Some r) × (taken_data k c.args.next ≡ closed_data k r)
  ends =
      closing_roll k c.args.next c.in-CloseOld.field-0 c.in-CloseOld.is
      (subst (λ (x : MasterData). IsNextPush x.head (Some c.args.next)) (sym c.core.view_is) c.requires.next)

  cs : c.add_closed.new.self.images
      ≡ added (closed_image k.head.id c.in-Some.image k.config.replicas) k.closed
  cs =
      ap (λ (v : ImagesValue). v.images) c.add_closed.ensures
      ∙ ap (λ (id : ℕ). added (closed_image id c.in-Some.image k.config.replicas) k.closed) c.id-id.ensures.id

  abbrev left : MasterData
  left = record k {
    head = c.close_old.new.self;
    closed = c.end_pass.new.closed.images;
    pass = c.end_pass.new.pass;
    waiting = c.end_pass.new.waiting.items;
  }

  ended_left : core_ended k c.core.invariant.2 ends.0 ends.1 c.close_old.new.self c.close_old.result
      c.close_old.ensures.closed c.close_old.ensures.old c.close_old.ensures.valid c.in-Some.image c.in-Some.is ≡ left
  ended_left = λ i. record k {
    head = c.close_old.new.self;
    closed = sym (ap (λ (v : ImagesValue). v.images) c.end_pass.ensures.closed ∙ ap (closed_left k.pass) cs) i;
    pass = sym c.end_pass.ensures.pass i;
    waiting = sym (c.end_pass.ensures.waiting ∙ ap (λ (images : List Image). waiting_left k.pass
        images k.waiting) cs) i;
  }

  core_then : IsCore left
  core_then =
      subst IsCore ended_left (ended_valid k c.core.invariant.2 ends.0 ends.1 c.close_old.new.self
      c.close_old.result c.close_old.ensures.closed c.close_old.ensures.old c.close_old.ensures.valid
      c.in-Some.image c.in-Some.is (ap (λ (x : MasterData). x.failover) c.core.view_is ∙ c.requires.calm))

  taken_then : left ≡ taken_data k c.args.next
  taken_then =
      sym (ends.2 ∙ ended_taken k c.core.invariant.2 ends.0 ends.1 c.close_old.new.self
      c.close_old.result c.close_old.ensures.closed c.close_old.ensures.old c.close_old.ensures.valid c.in-Some.image
      c.in-Some.is ∙ ended_left)

  no_roll : IsSome c.close_old.new.self.roll → ⊥
  no_roll some =
      let none = none_then k c.core.invariant.2 ends.0 ends.1 c.close_old.new.self c.close_old.result
      c.close_old.ensures.closed c.close_old.ensures.old c.close_old.ensures.valid c.in-Some.image c.in-Some.is in
      let never : IsSome {T = Roll} None = subst IsSome none some in cc

  sizes_then : AreImagesOf k.config c.end_pass.new.closed
  sizes_then =
      subst (AreImagesOf k.config) (sym c.end_pass.ensures.closed)
      (let own = subst (AreImagesOf k.config) (sym c.add_closed.ensures) (let first = c.core.invariant.1 in
      record { segment = first.segment; seglet = first.seglet; seglets = first.seglets }) in
      record { segment = own.segment; seglet = own.seglet; seglets = own.seglets })

  room_left : IfSome c.end_pass.new.pass (λ p. p.is_committing ≡ true
      → length c.end_pass.new.waiting.items + length p.victims ≤ vec_capacity c.end_pass.new.waiting)
  room_left =
      subst (λ (o : Option Pass). IfSome o (λ p. p.is_committing ≡ true
      → length c.end_pass.new.waiting.items + length p.victims ≤ vec_capacity c.end_pass.new.waiting))
      (sym c.end_pass.ensures.pass)
      (left_early k.pass (λ p. length c.end_pass.new.waiting.items + length p.victims
      ≤ vec_capacity c.end_pass.new.waiting))

  tallied_then : AreTallied left c.count_end.new.tallies
  tallied_then =
      subst (λ (g : MasterData). AreTallied g c.count_end.new.tallies) ended_left
      (ended_tallied k c.core.invariant.2 ends.0 ends.1 c.close_old.new.self c.close_old.result
      c.close_old.ensures.closed c.close_old.ensures.old c.close_old.ensures.valid c.in-Some.image c.in-Some.is
      c.core.inside.tallies c.count_end.new.tallies
      (subst (λ (id : ℕ). IsCountedOut k.pass id c.core.inside.tallies c.count_end.new.tallies) c.id.ensures.id
      c.count_end.ensures) c.core.invariant.4)

pub invariant_of-core-in-Some : goal.invariant_of-core-in-Some
invariant_of-core-in-Some c =
    (λ some. absurd (no_roll c some), sizes_then c, core_then c, room_left c, tallied_then c)

pub returns-in-Some-clause-taken : goal.returns-in-Some-clause-taken
returns-in-Some-clause-taken c = rw (← c.core.view_is) (taken_then c)

pub returns-in-Some-clause-valid : goal.returns-in-Some-clause-valid
returns-in-Some-clause-valid c = core_then c

-- the old image goes to the closed ones: none of them has its number, and its seglets are free
module _ (c : goal.After-add_closed-arg-1) where
  abbrev w : MasterData
  w = the_view c.core.inside

  ends-w : (r : Roll) × (w.head.roll ≡ Some r) × (taken_data w c.args.next ≡ closed_data w r)
  ends-w =
      closing_roll w c.args.next c.in-CloseOld.field-0 c.in-CloseOld.is
      (subst (λ (x : MasterData). IsNextPush x.head (Some c.args.next)) (sym c.core.view_is) c.requires.next)

  image_is : c.in-Some.image ≡ w.head.image
  image_is =
      old_is w c.core.invariant.2 ends-w.0 ends-w.1 c.close_old.new.self c.close_old.result
      c.close_old.ensures.closed c.close_old.ensures.old c.close_old.ensures.valid c.in-Some.image c.in-Some.is

  has_roll : IsSome w.head.roll
  has_roll = subst IsSome (sym ends-w.1) refl

pub add_closed-requires-clause-other : goal.add_closed-requires-clause-other
add_closed-requires-clause-other c =
    subst (λ (id : ℕ). image_of c.core.inside.closed.images id ≡ None) (sym c.id-id.ensures.id)
    (absent (w c).closed (w c).head.id (no_head (w c) c.core.invariant.2))

pub add_closed-requires-clause-within : goal.add_closed-requires-clause-within
add_closed-requires-clause-within c =
    rw (image_is c, c.core.invariant.1.segment) c.core.invariant.2.within

pub add_closed-requires-clause-room : goal.add_closed-requires-clause-room
add_closed-requires-clause-room c = c.core.invariant.0 (has_roll c)

pub add_closed-requires-clause-free : goal.add_closed-requires-clause-free
add_closed-requires-clause-free c =
    free_again c.core.inside.config c.core.inside.closed
    (closed_image c.id-id.result c.in-Some.image c.core.inside.config.replicas)
    c.core.invariant.1
    (subst (λ (es : List Entry). seglets_of c.core.inside.config es
    ≤ c.core.inside.config.seglets - closed_seglets (w c)) (sym (image_is c))
    (closing_fits (w c) c.core.invariant.2 (has_roll c)))

module _ (c : goal.In_default) where
  abbrev k'' : MasterData
  k'' = the_view c.core.inside

  ends'' : (r : Roll) × (k''.head.roll ≡ Some r) × (taken_data k'' c.args.next ≡ closed_data k'' r)
  ends'' =
      closing_roll k'' c.args.next c.in-CloseOld.field-0 c.in-CloseOld.is
      (subst (λ (x : MasterData). IsNextPush x.head (Some c.args.next)) (sym c.core.view_is) c.requires.next)

  core_still : IsCore (record k'' { head = c.close_old.new.self })
  core_still =
      early_valid k'' c.core.invariant.2 ends''.0 ends''.1 c.close_old.new.self c.close_old.result
      c.close_old.ensures.closed c.close_old.ensures.old c.close_old.ensures.valid c.in_default.is
      (ap (λ (x : MasterData). x.failover) c.core.view_is ∙ c.requires.calm)

  taken_still : record k'' { head = c.close_old.new.self } ≡ taken_data k'' c.args.next
  taken_still =
      sym (ends''.2 ∙ early_taken k'' c.core.invariant.2 ends''.0 ends''.1 c.close_old.new.self c.close_old.result
      c.close_old.ensures.closed c.close_old.ensures.old c.close_old.ensures.valid c.in_default.is)

  room_still : IsSome k''.head.roll
  room_still = subst IsSome (sym ends''.1) refl

  tallied_still : AreTallied (record k'' { head = c.close_old.new.self }) c.core.inside.tallies
  tallied_still =
      early_tallied k'' c.core.invariant.2 ends''.0 ends''.1 c.close_old.new.self c.close_old.result
      c.close_old.ensures.closed c.close_old.ensures.old c.close_old.ensures.valid c.in_default.is
      c.core.inside.tallies c.core.invariant.4

pub invariant_of-core-in_default : goal.invariant_of-core-in_default
invariant_of-core-in_default c = (
  λ some. c.core.invariant.0 (room_still c),
  c.core.invariant.1,
  core_still c,
  c.core.invariant.3,
  tallied_still c,
)

pub returns-in_default-clause-taken : goal.returns-in_default-clause-taken
returns-in_default-clause-taken c = rw (← c.core.view_is) (taken_still c)

pub returns-in_default-clause-valid : goal.returns-in_default-clause-valid
returns-in_default-clause-valid c = core_still c

-- what ends a pass wants of its survivors
pub end_pass-requires-clause-numbers : goal.end_pass-requires-clause-numbers
end_pass-requires-clause-numbers c = numbers_of (the_view c.core.inside) c.core.invariant.2
