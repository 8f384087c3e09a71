use Rattle.std.proofs.Common.{◌≡◌, ◌++◌, List, map, sym, ap, subst, ◌∙◌}
use Rattle.std.proofs.lemmas.List.{append-nil}
use Rattle.entry.specs.Bag.{IsAmong}
use Rattle.claims.specs.Claims.{Claimed, claimed}
use Rattle.partition_replay.specs.Keeping.{claims_kept}
use Rattle.partition_replay.proofs.MapLemmas.{Entries, kept_from_among, among_from_kept}
use Rattle.partition_replay.proofs.keeping.kept_claims.Goals.{In-None}
use Rattle.partition_replay.proofs.keeping.kept_claims.Goals as goal

whole : (c : In-None) → map claimed c.loop-key.claims.items ≡ claims_kept c.args.kept.now.entries
whole c =
    let front = map claimed c.loop-key.claims.items in
    sym (append-nil front) ∙ ap (λ (es : Entries). front ++ claims_kept es) (sym c.in-None.ensures.steps.0)
    ∙ c.loop-key.invariant ∙ ap claims_kept c.into_iter-key-iterator.ensures.into_iter_gives.0

pub returns-clause-only : goal.returns-clause-only
returns-clause-only c =
    λ d m. kept_from_among c.args.kept.now.entries c.len.ensures.unique d
    (subst (λ (cs : List Claimed). IsAmong d cs) (whole c) m)

pub returns-clause-each : goal.returns-clause-each
returns-clause-each c =
    λ d kept. subst (λ (cs : List Claimed). IsAmong d cs) (sym (whole c))
    (among_from_kept c.args.kept.now.entries d kept)
