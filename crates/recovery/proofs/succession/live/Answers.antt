use Rattle.std.proofs.Common.{suc, refl, sym, ap, subst, ◌∙◌}
use Rattle.std.specs.Prelude.{Result}
use Rattle.claims.specs.declared.rebuilt.Rebuilt.{Rebuilt}
use Rattle.replay.specs.master.World.{world}
use Rattle.recovery.specs.declared.recovery.RecoveryFault.{RecoveryFault}
use Rattle.replay.specs.master.master_state.declared.config.Config.{Config}
use Rattle.recovery.specs.Succession.{IsDrillBy, IsSuccessor}
use Rattle.replay.specs.master.master_state.Config.{config_fault}
use Rattle.recovery.proofs.Following.{any_number, config_of_next, drill_by, drill_newest, newest_again, is_not_adopted}
use Rattle.recovery.proofs.succession.live.Goals as goal

pub succeed-requires-clause-newest : goal.succeed-requires-clause-newest
succeed-requires-clause-newest g c =
    let state = g.F.Fleet.state in
    let start = world state c.args.master in
    let k = c.args.course.now in
    let d = c.in-Ok.drill in
    drill_newest start k d.answers.items d.recovered (state d.fleet) c.number-number.result c.number-number.ensures
    (drill_by start k c.as_slice.result.now c.as_slice-2.result.now d.answers.items d.recovered (state d.fleet)
    c.as_slice.ensures.value c.as_slice-2.ensures.value c.in-Ok.ensures.drill) c.requires.newest

pub returns-in-Ok-succeed-clause-newest : goal.returns-in-Ok-succeed-clause-newest
returns-in-Ok-succeed-clause-newest g c =
    let next = c.in-Ok-succeed.master in
    newest_again c.args.config.now next.knows.config (suc c.number-number.result) (g.F.Fleet.state next.fleet)
    c.in-Ok-succeed.ensures.succeeds.adopted.config c.in-Ok-succeed.ensures.newest

pub returns-in-Ok-succeed-clause-lived : goal.returns-in-Ok-succeed-clause-lived
returns-in-Ok-succeed-clause-lived g c =
    let state = g.F.Fleet.state in
    let start = world state c.args.master in
    let k = c.args.course.now in
    let d = c.in-Ok.drill in
    let r = c.in-Ok-recovered.rebuilt in
    let left = state d.fleet in
    let next = world state c.in-Ok-succeed.master in
    record {
      left = left;
      drill = subst (λ (x : Result Rebuilt RecoveryFault). IsDrillBy start k d.answers.items x left)
          c.in-Ok-recovered.is
          (drill_by start k c.as_slice.result.now c.as_slice-2.result.now d.answers.items d.recovered left
          c.as_slice.ensures.value c.as_slice-2.ensures.value c.in-Ok.ensures.drill);
      succeeds = subst (λ (x : Config). IsSuccessor x r left c.in-Ok-succeed.retired next)
          (config_of_next c.args.config.now c.args.master.knows.config c.number-number.result c.requires.config
          c.number-number.ensures) c.in-Ok-succeed.ensures.succeeds;
    }

pub returns-in-Err-succeed-clause-ends : goal.returns-in-Err-succeed-clause-ends
returns-in-Err-succeed-clause-ends g c =
    let state = g.F.Fleet.state in
    let start = world state c.args.master in
    let k = c.args.course.now in
    let d = c.in-Ok.drill in
    let r = c.in-Ok-recovered.rebuilt in
    let left = state d.fleet in (
      r,
      refl,
      left,
      subst (λ (x : Result Rebuilt RecoveryFault). IsDrillBy start k d.answers.items x left) c.in-Ok-recovered.is
          (drill_by start k c.as_slice.result.now c.as_slice-2.result.now d.answers.items d.recovered left
          c.as_slice.ensures.value c.as_slice-2.ensures.value c.in-Ok.ensures.drill),
      is_not_adopted c.args.config.now c.args.master.knows.config c.number-number.result r left
          (state c.in-Err-succeed.fleet) c.in-Err-succeed.why c.requires.config c.number-number.ensures
          c.in-Err-succeed.ensures.refused,
    )

pub succeed-requires-clause-config : goal.succeed-requires-clause-config
succeed-requires-clause-config g c =
    sym (any_number c.args.master.knows.config.master c.args.config.now) ∙ ap config_fault (sym c.requires.config)
    ∙ c.show_valid.ensures.config
