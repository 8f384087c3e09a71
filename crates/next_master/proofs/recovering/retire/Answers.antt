use Rattle.std.proofs.Common.{◌≡◌, refl, sym, ap, subst, ◌∙◌}
use Rattle.std.specs.Prelude.{None, Some, Ok, Err}
use Rattle.replica.specs.declared.op.TakeFault.{TakeFault}
use Rattle.std.proofs.lemmas.Option.{same_Some}
use Rattle.backup.specs.State.{fleet_state}
use Rattle.cluster.specs.master.Valid.{IsValid}
use Rattle.cluster.specs.master.World.{World, world, retired_data}
use Rattle.cluster.specs.master.master_state.Data.{MasterData}
use Rattle.cluster.specs.answers.declared.answer.Answer.TheVariants.{NotRetired}
use Rattle.cluster.specs.declared.node.Node.{Node}
use Rattle.cluster.specs.declared.node.Node.TheVariants.{Up}
use Rattle.next_master.specs.Recoveries.{EndsFreeing, HasNoOther}
use Rattle.cluster.specs.Served.{IsOf, world_of}
use Rattle.next_master.proofs.NextLife.{cut_freeing, cut_spent, unspent_fault}
use Rattle.cluster.specs.Lives.{left_now}
use Rattle.next_master.proofs.Halted.{valid_cut, left_cut}
use Rattle.next_master.proofs.Retired.{others_gone, spent_retire}
use Rattle.next_master.proofs.recovering.retire.Goals as goal

pub returns-in-Ok-clause-others : goal.returns-in-Ok-clause-others
returns-in-Ok-clause-others c = λ d of.
    let up = c.in-Up.up in
    let m = c.retire.new.self in
    let was : IsOf (Up up) None d = subst (λ (n : Node). IsOf n None d) c.in-Up.is of in
    let same : m.knows ≡ d = c.in-Ok.ensures.knows ∙ was.1 in (
      m,
      refl,
      same,
      subst (λ (x : MasterData). IsValid x (fleet_state m.fleet)) same c.in-Ok.ensures.valid,
      subst (λ (x : MasterData). HasNoOther (fleet_state m.fleet) x.config.master) was.1
          (others_gone (fleet_state up.fleet) (fleet_state m.fleet) up.knows.config.master _ c.in-Ok.ensures.retires),
    )

pub returns-in-Spent-clause-others : goal.returns-in-Spent-clause-others
returns-in-Spent-clause-others c = λ d of.
    let up = c.in-Up.up in
    let m = c.retire.new.self in
    let was : IsOf (Up up) None d = subst (λ (n : Node). IsOf n None d) c.in-Up.is of in
    let same : m.knows ≡ d = c.in-Err.ensures.knows
    ∙ ap (λ (e : TakeFault). retired_data (Err e) up.knows) c.in-Spent.is ∙ was.1 in
    cut_spent d m c.refuse.new.self c.refuse.result same (subst
    (λ (x : MasterData). IsValid x (fleet_state m.fleet)) same c.in-Err.ensures.valid)
    (spent_retire (fleet_state up.fleet) (fleet_state m.fleet) up.knows.config.master c.in-Err.fault
    c.in-Err.ensures.retires c.in-Spent.is) c.refuse.ensures

pub returns-in_default-fault-clause-others : goal.returns-in_default-fault-clause-others
returns-in_default-fault-clause-others c = λ d of.
    let up = c.in-Up.up in
    let m = c.retire.new.self in
    let was : IsOf (Up up) None d = subst (λ (n : Node). IsOf n None d) c.in-Up.is of in
    let f = fleet_state m.fleet in
    let new = c.drop_master.new.self in
    let fault = c.in-Err.fault in
    let same : m.knows ≡ retired_data (Err fault) d =
    c.in-Err.ensures.knows ∙ ap (retired_data (Err fault)) was.1 in (
      f,
      valid_cut d fault f (subst (λ (x : MasterData). IsValid x f) same c.in-Err.ensures.valid),
      left_cut d fault f new (subst (λ (x : MasterData). IsOf new (Some (left_now x f)) x) same
          (c.drop_master.ensures.left m.knows f (refl, refl, c.in-Err.ensures.valid) refl)),
      c.in_default-fault.not-Spent,
    )

pub returns-in-Ok-clause-frees : goal.returns-in-Ok-clause-frees
returns-in-Ok-clause-frees c = λ w is.
    let m = c.retire.new.self in
    let was : world fleet_state c.in-Up.up ≡ w = same_Some _ w (sym (ap world_of c.in-Up.is) ∙ is) in
    subst (λ (x : World). EndsFreeing x (Up m) (Ok tt)) was (
      world fleet_state m,
      record {
        knows = c.in-Ok.ensures.knows;
        valid = c.in-Ok.ensures.valid;
        retires = c.in-Ok.ensures.retires;
      },
      refl,
    )

pub returns-in-Spent-clause-frees : goal.returns-in-Spent-clause-frees
returns-in-Spent-clause-frees c = λ w is.
    let m = c.retire.new.self in
    let was : world fleet_state c.in-Up.up ≡ w = same_Some _ w (sym (ap world_of c.in-Up.is) ∙ is) in
    subst (λ (x : World). EndsFreeing x c.refuse.new.self (Err c.refuse.result)) was
    (cut_freeing (world fleet_state c.in-Up.up) m c.refuse.new.self c.refuse.result c.in-Err.fault
    (record { knows = c.in-Err.ensures.knows; valid = c.in-Err.ensures.valid; retires = c.in-Err.ensures.retires })
    c.in-Spent.is c.refuse.ensures)

pub returns-in_default-fault-clause-frees : goal.returns-in_default-fault-clause-frees
returns-in_default-fault-clause-frees c = λ w is.
    let m = c.retire.new.self in
    let was : world fleet_state c.in-Up.up ≡ w = same_Some _ w (sym (ap world_of c.in-Up.is) ∙ is) in
    subst (λ (x : World). EndsFreeing x c.drop_master.new.self (Err (NotRetired c.in-Err.fault))) was (
      c.in-Err.fault,
      world fleet_state m,
      record { knows = c.in-Err.ensures.knows; valid = c.in-Err.ensures.valid; retires = c.in-Err.ensures.retires },
      sym (unspent_fault c.in-Err.fault c.in_default-fault.not-Spent),
      (c.drop_master.ensures.down, c.drop_master.ensures.fleet),
    )
