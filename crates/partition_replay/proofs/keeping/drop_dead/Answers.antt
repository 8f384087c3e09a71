use Rattle.std.proofs.Common.{rules, not}
use Rattle.std.proofs.lemmas.List.Elements.{filter_from_retain}
use Rattle.claims.specs.declared.claim.Claim.{Claim}
use Rattle.partition_replay.proofs.keeping.drop_dead.Goals as goal

pub returns : goal.returns
returns c =
    filter_from_retain _ (λ (x : Claim). not x.dead) (λ p x b q r. search rules) _ c.args.claims.now.items
    c.retain.new.self.items c.retain.ensures.filtered
