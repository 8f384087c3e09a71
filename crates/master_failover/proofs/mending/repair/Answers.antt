use Rattle.std.proofs.Common.{◌≡◌, ℕ, ◌<◌, ◌∷◌, sym, ap, subst, ◌∙◌}
use Rattle.std.specs.Prelude.{None, IsSome, is_none, if◌then◌else◌}
use Rattle.master_state.specs.cleaner.Seals.{first_lacking}
use Rattle.images.specs.Images.{ImagesValue}
use Rattle.images.specs.Sorted.{changed}
use Rattle.images.specs.Steps.{more_replicas}
use Rattle.log_head.specs.declared.head.Roll.{Roll}
use Rattle.log_head.specs.Head.{digest_of}
use Rattle.log_head.specs.Log.{but_last}
use Rattle.master_state.specs.contracts.state.Core.{the_view}
use Rattle.master_state.specs.declared.ledger.Posting.TheVariants.{Took}
use Rattle.master_state.specs.Data.{MasterData}
use Rattle.master_state.specs.Invariant.{IsCore, AreImagesOf, AreTallied}
use Rattle.master_failover.specs.declared.push.Push.TheVariants as push
use Rattle.master_failover.specs.Mending.{IsNextMend, first_lost, repaired_data}
use Rattle.master_failover.proofs.Losses.{others_are, none_from}
use Rattle.master_failover.proofs.Resealed.{sealed_core, sealed_is, sealed_few, sealed_tallied}
use Rattle.master_failover.proofs.Sought.{fewer, no_roll}
use Rattle.master_failover.proofs.mending.repair.Goals as goal

pub home-backup-requires : goal.home-backup-requires
home-backup-requires c =
    let next = subst (λ (m : MasterData). IsNextMend m (push.Repair c.args.segment c.args.replica))
    (sym c.core.view_is) c.requires in
    let lt = fewer (the_view c.core.inside) c.core.invariant.2 c.args.segment c.args.replica next in
    subst (λ (m : MasterData). c.args.replica < m.config.replicas) c.core.view_is lt

pub add_replica-requires : goal.add_replica-requires
add_replica-requires c =
    let next = subst (λ (m : MasterData). IsNextMend m (push.Repair c.args.segment c.args.replica))
    (sym (c.core-2.view_is ∙ c.post.ensures.posted)) c.requires in
    sealed_few (the_view c.core-2.inside) c.core-2.invariant.2 c.args.segment c.args.replica next

module _ (c : goal.After-end_if) where
  abbrev d : MasterData
  d = the_view c.core-2.inside

  next : IsNextMend d (push.Repair c.args.segment c.args.replica)
  next = subst (λ (m : MasterData). IsNextMend m (push.Repair c.args.segment c.args.replica))
      (sym (c.core-2.view_is ∙ c.post.ensures.posted)) c.requires

  images : c.add_replica.new.self.images ≡ changed d.closed c.args.segment more_replicas
  images = ap (λ (v : ImagesValue). v.images) c.add_replica.ensures

  test : is_none (first_lost (record d { closed = changed d.closed c.args.segment more_replicas }))
      ≡ c.is_none-is_whole.result
  test =
      (λ i. is_none (first_lacking d.config.replicas (sym images i) (others_are d.head i)))
      ∙ (λ i. is_none (first_lacking (config i) c.add_replica.new.self.images (but_last (digest_of (sym
      c.image.ensures.image i)))))
      ∙ ap is_none (sym c.first_lost.ensures)
      ∙ none_from c.first_lost.result c.is_none-is_whole.result (sym c.is_none-is_whole.ensures)
    where
      config : d.config.replicas ≡ c.core.inside.config.replicas
      config =
          ap (λ (m : MasterData). m.config.replicas) (c.core-2.view_is ∙ c.post.ensures.posted)
          ∙ ap (λ (m : MasterData). m.config.replicas) (sym c.core.view_is)

  is : record d {
    closed = changed d.closed c.args.segment more_replicas;
    failover = if c.is_none-is_whole.result then None else d.failover;
  } ≡ record d { closed = c.add_replica.new.self.images; failover = c.end_if.new.failover }
  is = λ i. record d { closed = sym images i; failover = sym c.end_if.ensures i }

  valid : IsCore (record d { closed = c.add_replica.new.self.images; failover = c.end_if.new.failover })
  valid =
      subst IsCore is (sealed_core d c.core-2.invariant.2 c.args.segment c.args.replica next
      c.is_none-is_whole.result test)

pub invariant_of-core : goal.invariant_of-core
invariant_of-core c = (
  (λ some. (let never : IsSome {T = Roll} None = subst IsSome (no_roll (d c) c.core-2.invariant.2 c.args.segment
      c.args.replica (next c)) some in absurd (cc))),
  subst (AreImagesOf c.core-2.inside.config) (sym c.add_replica.ensures) (let own = c.core-2.invariant.1 in
      record { segment = own.segment; seglet = own.seglet; seglets = own.seglets }),
  valid c,
  c.core-2.invariant.3,
  subst (λ (m : MasterData). AreTallied m c.core-2.inside.tallies) (is c)
      (sealed_tallied (d c) c.core-2.invariant.2 c.args.segment c.args.replica (next c)
      (if c.is_none-is_whole.result then None else (d c).failover) c.core-2.inside.tallies c.core-2.invariant.4),
)

pub returns-clause-valid : goal.returns-clause-valid
returns-clause-valid c = valid c

pub returns-clause-repaired : goal.returns-clause-repaired
returns-clause-repaired c =
    sym (is c)
    ∙ sealed_is (d c) c.core-2.invariant.2 c.args.segment c.args.replica (next c) c.is_none-is_whole.result (test c)
    ∙ ap (λ (m : MasterData). repaired_data (record m { closed = changed m.closed c.args.segment more_replicas }))
    (c.core-2.view_is ∙ c.post.ensures.posted)
    ∙ ap (λ (b : ℕ). repaired_data (record c.args.core.now {
      closed = changed c.args.core.now.closed c.args.segment more_replicas;
      ledger = Took c.args.segment b ∷ c.args.core.now.ledger;
    })) c.home-backup.ensures.home
