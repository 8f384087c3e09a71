use Rattle.std.proofs.Common.{rules, not}
use Rattle.std.proofs.lemmas.Fn.{filter_same}
use Rattle.compactor.specs.Kept.{has_id}
use Rattle.tally.specs.declared.tallies.Tally.{Tally}
use Rattle.tally.proofs.placing.take_out.Goals as goal

pub returns : goal.returns
returns c =
    filter_same _ (λ (x : Tally). not (has_id c.args.victims.now x.segment)) _ (λ x b q r. search rules)
    c.args.rows.now.items c.retain.new.self.items c.retain.ensures.filtered
