use Rattle.std.proofs.Common.{◌∙◌, sym, subst}
use Rattle.counted_calls.specs.locked_log.store_seat.Made.{Made}
use Rattle.counted_calls.specs.locked_log.Made.{IsMade, made_now}
use Rattle.counted_calls.proofs.of_locked_log.Lasting.{made_at_first}
use Rattle.counted_calls.specs.master.World.{MasterValue, world}
use Rattle.loads.proofs.store.load_in.Goals as goal

pub share-requires-clause-made : goal.share-requires-clause-made
share-requires-clause-made g c =
    let w = world g.F.Fleet.state c.args.master in
    subst (λ (m : Made). IsMade m w) (sym c.requires.made) (made_at_first c.args.plan.threads w)

-- a store that isn't made hands back the master as it was
pub returns-in-Err-clause-made : goal.returns-in-Err-clause-made
returns-in-Err-clause-made g c =
    let w = world g.F.Fleet.state c.args.master in
    subst (λ (m : MasterValue _). IsMade (made_now c.args.plan.threads w) (world g.F.Fleet.state m))
    (sym (c.refused.ensures ∙ c.in-Err.ensures)) (made_at_first c.args.plan.threads w)
