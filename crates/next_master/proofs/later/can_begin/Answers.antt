use Rattle.std.proofs.Common.{ap, subst, sym, ◌∙◌}
use Rattle.std.specs.Prelude.{◌&&◌}
use Rattle.command_line.specs.declared.settings.Options.{Options}
use Rattle.cluster.specs.master.master_state.Config.{config_fault, has_budget, has_live}
use Rattle.next_master.specs.Configuration.{config_of, later_options, AreSizes}
use Rattle.next_master.proofs.NextConfig.{later_sizes, later_tested, may_begin}
use Rattle.next_master.proofs.later.can_begin.Goals as goal

pub has_room-requires : goal.has_room-requires
has_room-requires c =
    subst (λ (o : Options). AreSizes o) (sym c.later_options.ensures)
    (later_sizes c.args.later.now c.args.options.now c.requires)

pub returns : goal.returns
returns c =
    let next = later_options c.args.later.now c.args.options.now in
    may_begin (config_fault (config_of next 1)) _ c.has_room.result
    (later_tested c.args.later.now c.args.options.now c.requires)
    (c.has_room.ensures ∙ ap (λ (o : Options). has_budget (config_of o 1) && has_live (config_of o 1))
    c.later_options.ensures)
