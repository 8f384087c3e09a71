use Rattle.std.proofs.Common.{ℕ, ◌∷◌, [], ◌++◌, ◌∙◌, ap}
use Rattle.entry.specs.Format.{ids_at}
use Rattle.registry_text.proofs.Options.{options-more}
use Rattle.registry_text.proofs.reading.options_in.Goals as goal

pub loop-i-preserved : goal.loop-i-preserved
loop-i-preserved c =
    options-more c.loop-i.options.items c.push.new.self.items c.args.count c.loop-i.i c.args.rest.now
    (ids_at c.args.count 10 c.args.rest.now) c.loop-i-test.true c.loop-i.invariant
    (c.in_ok-push.ensures.items ∙ ap (λ (n : ℕ). c.loop-i.options.items ++ n ∷ []) c.number_at.ensures)
