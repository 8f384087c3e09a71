use Rattle.std.proofs.Common.{◌≡◌, ℕ, suc, max, List, refl, sym, ap, subst, inl, inr, ◌∙◌, rules, arith}
use Rattle.backup.specs.State.{fleet_state}
use Rattle.command_line.specs.declared.settings.Options.{Options}
use Rattle.cluster.specs.master.master_state.declared.config.Config.{Config}
use Rattle.replica.specs.declared.holding.Holding.{Holding}
use Rattle.cluster.specs.answers.declared.answer.Answer.{Answer}
use Rattle.cluster.specs.declared.node.Node.TheVariants.{Down}
use Rattle.cluster.specs.recovery.Recovered.{IsRebuiltFrom, IsRefusedFrom}
use Rattle.next_master.specs.Configuration.{config_of, later_options}
use Rattle.next_master.specs.Numbers.{greatest_of}
use Rattle.next_master.specs.Recoveries.{FindsNothing, ask, order_named}
use Rattle.cluster.specs.Served.{life_of}
use Rattle.cluster.specs.Told.{Tells}
use Rattle.next_master.proofs.NextLife.{next_unused}
use Rattle.next_master.proofs.Recovered.{loss_told, names_groups, table_found, want_told}
use Rattle.next_master.proofs.recovering.find_inheritance.Goals as goal

pub returns-in-Err-clause-none : goal.returns-in-Err-clause-none
returns-in-Err-clause-none g c = λ line d at asks s.
    let old = config_of c.args.request.options c.args.request.master in
    subst (λ (a : Answer). Tells old (life_of d) at line a at) (sym c.want.ensures)
    (want_told (Down c.args.fleet.now) c.args.fleet.now old d at refl s line asks)

pub returns-in-Err-recover_by-clause-none : goal.returns-in-Err-recover_by-clause-none
returns-in-Err-recover_by-clause-none g c = λ line d at asks s.
    let e = c.in-Err-recover_by in
    loss_told (Down c.args.fleet.now) c.args.fleet.now (config_of c.args.request.options c.args.request.master) d at
    refl s
    c.in-Ok.inventory c.least.result c.args.request.master c.least.ensures refl
    c.in-Ok.ensures.shown e.fault c.args.will.now (order_named c.args.order) e.ensures.refused e.ensures.fault
    c.requires.covers (names_groups c.args.order c.in-Ok.inventory c.least.result c.args.request.master
    c.args.will.now) line asks

pub returns-in_default-clause-none : goal.returns-in_default-clause-none
returns-in_default-clause-none g c = λ line d at asks s. (asks, (s.node_of.0, s.node_of.1), refl)

pub returns-in-Ok-configuration-clause-found : goal.returns-in-Ok-configuration-clause-found
returns-in-Ok-configuration-clause-found g c =
    let r = c.in-Ok-recover_by in
    let is = c.in-Ok-configuration.ensures.config in
    let number : c.in-Ok-configuration.config.master ≡ c.in-Some.number = ap (λ (k : Config). k.master) is in
    let least : c.max-greatest.result ≡ max c.args.request.master c.args.request.used = search rules in
    let next : c.in-Some.number ≡ suc (max c.max-greatest.result (greatest_of c.in-Ok.inventory)) =
    subst (λ (hs : List Holding). c.in-Some.number ≡ suc (max c.max-greatest.result (greatest_of hs)))
    c.as_slice.ensures
    c.in-Some.ensures.next in
    let next_number = c.in-Some.ensures.next in
    record {
      table = λ d at s. table_found (Down c.args.fleet.now) c.args.fleet.now
          (config_of c.args.request.options c.args.request.master) d at refl s c.in-Ok.inventory c.least.result
          c.args.request.master c.least.ensures refl c.in-Ok.ensures.shown r.rebuilt r.ensures.ok c.args.will.now
          (order_named c.args.order) r.ensures.rebuilt;
      configured = is ∙ ap (λ (o : Options). config_of o c.in-Some.number) c.later_options-later.ensures
          ∙ ap (λ (n : ℕ). config_of (later_options c.args.request.later c.args.request.options) n) (sym number);
      greater = omega arith;
      unused = next_unused c.in-Ok.inventory (fleet_state c.args.fleet.now).picture c.max-greatest.result
          c.in-Ok-configuration.config.master c.in-Ok.ensures.shown
          (number ∙ next);
      least = c.requires.later c.in-Ok-configuration.config.master (omega (arith, number, least, next_number));
    }

pub returns-clause-none : goal.returns-clause-none
returns-clause-none g c = λ line d at asks s.
    let old = config_of c.args.request.options c.args.request.master in
    subst (λ (a : Answer). Tells old (life_of d) at line a at) (sym c.want-in-Err-configuration.ensures)
    (want_told (Down c.args.fleet.now) c.args.fleet.now old d at refl s line asks)

pub returns-in-Ok-configuration-clause-fresh : goal.returns-in-Ok-configuration-clause-fresh
returns-in-Ok-configuration-clause-fresh g c =
    let is = c.in-Ok-configuration.ensures.config in
    let number : c.in-Ok-configuration.config.master ≡ c.in-Some.number = ap (λ (k : Config). k.master) is in
    let least : c.max-greatest.result ≡ max c.args.request.master c.args.request.used = search rules in
    let next = c.in-Some.ensures.next in
    omega (arith, number, least, next)

pub returns-in-Ok-configuration-clause-least : goal.returns-in-Ok-configuration-clause-least
returns-in-Ok-configuration-clause-least g c =
    let least : c.max-greatest.result ≡ max c.args.request.master c.args.request.used = search rules in
    let is = c.in-Ok-configuration.ensures.config in
    let hs = c.in-Ok.inventory in
    let number : c.in-Ok-configuration.config.master ≡ c.in-Some.number = ap (λ (k : Config). k.master) is in
    let next : c.in-Some.number ≡ suc (max c.max-greatest.result (greatest_of hs)) =
    subst (λ (xs : List Holding). c.in-Some.number ≡ suc (max c.max-greatest.result (greatest_of xs)))
    c.as_slice.ensures
    c.in-Some.ensures.next in
    (hs, c.in-Ok.ensures.shown, number ∙ next ∙ ap (λ (m : ℕ). suc (max m (greatest_of hs))) least)

pub returns-in-Err-clause-nothing : goal.returns-in-Err-clause-nothing
returns-in-Err-clause-nothing g c =
    subst (λ (a : Answer). FindsNothing (fleet_state c.args.fleet.now)
    (ask c.args.request.master c.args.request.used c.args.will.now (order_named c.args.order)) a) (sym c.want.ensures)
    (inl tt)

pub returns-in-Err-recover_by-clause-nothing : goal.returns-in-Err-recover_by-clause-nothing
returns-in-Err-recover_by-clause-nothing g c = inr (
  c.in-Ok.inventory,
  c.in-Ok.ensures.shown,
  subst (λ (n : ℕ). IsRefusedFrom c.in-Ok.inventory n c.args.request.master c.args.will.now (order_named c.args.order)
      c.in-Err-recover_by.fault) c.least.ensures c.in-Err-recover_by.ensures.fault,
)

pub returns-in_default-clause-nothing : goal.returns-in_default-clause-nothing
returns-in_default-clause-nothing g c = (
  c.in-Ok-recover_by.rebuilt,
  (
    c.in-Ok.inventory,
    c.in-Ok.ensures.shown,
    subst (λ (n : ℕ). IsRebuiltFrom c.in-Ok.inventory n c.args.request.master c.args.will.now (order_named c.args.order)
        c.in-Ok-recover_by.rebuilt) c.least.ensures c.in-Ok-recover_by.ensures.rebuilt,
  ),
)

pub returns-in-Ok-configuration-clause-rebuilt : goal.returns-in-Ok-configuration-clause-rebuilt
returns-in-Ok-configuration-clause-rebuilt g c = (
  c.in-Ok.inventory,
  c.in-Ok.ensures.shown,
  subst (λ (n : ℕ). IsRebuiltFrom c.in-Ok.inventory n c.args.request.master c.args.will.now (order_named c.args.order)
      c.in-Ok-recover_by.rebuilt) c.least.ensures c.in-Ok-recover_by.ensures.rebuilt,
)

pub returns-clause-nothing : goal.returns-clause-nothing
returns-clause-nothing g c =
    subst (λ (a : Answer). FindsNothing (fleet_state c.args.fleet.now)
    (ask c.args.request.master c.args.request.used c.args.will.now (order_named c.args.order)) a)
    (sym c.want-in-Err-configuration.ensures) (inl tt)
