use Rattle.std.proofs.Common.{ℕ, ◌<◌, length, sym, ap, subst, ◌∙◌}
use Rattle.std.specs.Prelude.{IsSome}
use Rattle.std.proofs.lemmas.List.{length-map}
use Rattle.images.specs.Images.{ImagesValue}
use Rattle.master_state.specs.contracts.state.Core.{the_view}
use Rattle.master_state.specs.Data.{MasterData}
use Rattle.master_state.specs.Invariant.{IsCore, AreImagesOf, AreTallied}
use Rattle.master_state.specs.Waits.{next_seal}
use Rattle.master_space.proofs.SealedCore.{SealsNext, seals_next, few_before, sealed_core, sealed_tallies}
use Rattle.master_space.proofs.cleaning.sealed.Goals as goal

module _ (c : goal.After-add_replica) where
  abbrev d : MasterData
  d = the_view c.core.inside

  next : SealsNext d c.in-Some.survivor c.in-Some.field-0-1
  next = seals_next d c.in-Some.survivor c.in-Some.field-0-1
      (ap next_seal c.core.view_is ∙ sym c.to_seal.ensures.next ∙ c.in-Some.is)

  valid_then : IsCore (record d { closed = c.add_replica.new.self.images })
  valid_then =
      subst (λ (v : ImagesValue). IsCore (record d { closed = v.images })) (sym c.add_replica.ensures)
      (sealed_core d c.core.invariant.2 next.pass next.opened c.in-Some.survivor c.in-Some.field-0-1 next.next)

  room_then : IsSome d.head.roll → length c.add_replica.new.self.images < c.add_replica.new.self.room
  room_then some =
      subst (λ (v : ImagesValue). length v.images < v.room) (sym c.add_replica.ensures)
      (subst (λ (n : ℕ). n < c.core.inside.closed.room) (sym (length-map d.closed _)) (c.core.invariant.0 some))

  sizes_then : AreImagesOf d.config c.add_replica.new.self
  sizes_then = (let own = c.core.invariant.1 in
      subst (AreImagesOf d.config) (sym c.add_replica.ensures)
      (record { segment = own.segment; seglet = own.seglet; seglets = own.seglets }))

  tallied_then : AreTallied (record d { closed = c.add_replica.new.self.images }) c.core.inside.tallies
  tallied_then =
      subst (λ (v : ImagesValue). AreTallied (record d { closed = v.images }) c.core.inside.tallies)
      (sym c.add_replica.ensures)
      (sealed_tallies d c.core.invariant.2 next.pass next.opened c.in-Some.survivor c.in-Some.field-0-1 next.next
      c.core.inside.tallies c.core.invariant.4)

pub add_replica-requires : goal.add_replica-requires
add_replica-requires c =
    let d : MasterData = the_view c.core.inside in
    let next = seals_next d c.in-Some.survivor c.in-Some.field-0-1
    (ap next_seal c.core.view_is ∙ sym c.to_seal.ensures.next ∙ c.in-Some.is) in
    few_before d c.core.invariant.2 next.pass next.opened c.in-Some.survivor c.in-Some.field-0-1 next.next

pub invariant_of-core : goal.invariant_of-core
invariant_of-core c = (λ some. room_then c some, sizes_then c, valid_then c, c.core.invariant.3, tallied_then c)

pub returns-clause-valid : goal.returns-clause-valid
returns-clause-valid c = valid_then c
