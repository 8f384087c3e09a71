use Rattle.std.proofs.Common.{◌≡◌, suc, ap, subst, ◌∙◌, arith}
use Rattle.replay.specs.Adopting.{DeclinesList}
use Rattle.replay.specs.master.master_state.declared.config.Config.{Config}
use Rattle.recovery.specs.Succession.{with_number}
use Rattle.replay.specs.master.master_state.Config.{config_fault}
use Rattle.recovery.proofs.Following.{any_number, config_next, is_successor, adopted_newest}
use Rattle.recovery.proofs.succession.succeed.Goals as goal

pub adopt_list-requires-clause-least : goal.adopt_list-requires-clause-least
adopt_list-requires-clause-least g c =
    let same = config_next c.args.config.now c.in-Ok.config c.args.number c.in-Some.next c.in-Ok.ensures
    c.in-Some.ensures.1 in
    let number : c.in-Ok.config.master ≡ suc c.args.number = ap (λ (x : Config). x.master) same in
    c.requires.newest.least c.in-Ok.config.master (omega (arith, number))

pub returns-in-Err-adopt_list-clause-refused : goal.returns-in-Err-adopt_list-clause-refused
returns-in-Err-adopt_list-clause-refused g c =
    let state = g.F.Fleet.state in
    let same = config_next c.args.config.now c.in-Ok.config c.args.number c.in-Some.next c.in-Ok.ensures
    c.in-Some.ensures.1 in
    subst (λ (x : Config). DeclinesList x c.args.rebuilt.now (state c.args.fleet) c.in-Err-adopt_list.refusal
    (state c.in-Err-adopt_list.fleet)) same c.in-Err-adopt_list.ensures.refused

pub returns-clause-succeeds : goal.returns-clause-succeeds
returns-clause-succeeds g c =
    let state = g.F.Fleet.state in
    let new = c.retire-retired.new.self in
    let same = config_next c.args.config.now c.in-Ok.config c.args.number c.in-Some.next c.in-Ok.ensures
    c.in-Some.ensures.1 in
    is_successor (with_number (suc c.args.number) c.args.config.now) c.in-Ok.config c.args.rebuilt.now
    (state c.args.fleet) (state c.in-Ok-adopt_list.master.fleet) (state new.fleet) c.in-Ok-adopt_list.master.knows
    new.knows c.retire-retired.result same c.retire-retired.ensures.knows c.in-Ok-adopt_list.ensures.adopted
    c.in-Ok-adopt_list.ensures.fleet c.retire-retired.ensures.retires c.retire-retired.ensures.valid

pub returns-clause-newest : goal.returns-clause-newest
returns-clause-newest g c =
    let state = g.F.Fleet.state in
    let same = config_next c.args.config.now c.in-Ok.config c.args.number c.in-Some.next c.in-Ok.ensures
    c.in-Some.ensures.1 in
    adopted_newest c.args.number c.args.config.now c.in-Ok.config c.args.rebuilt.now (state c.args.fleet)
    (state c.in-Ok-adopt_list.master.fleet) (state c.retire-retired.new.self.fleet) c.in-Ok-adopt_list.master.knows
    c.retire-retired.result same c.in-Ok-adopt_list.ensures.adopted c.in-Ok-adopt_list.ensures.fleet
    c.retire-retired.ensures.retires c.requires.newest

pub adopt_list-requires-clause-config : goal.adopt_list-requires-clause-config
adopt_list-requires-clause-config g c =
    ap config_fault c.in-Ok.ensures ∙ any_number c.in-Some.next c.args.config.now ∙ c.requires.config
