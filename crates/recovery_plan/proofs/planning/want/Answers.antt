use Rattle.entry.specs.Text.{Opening, listed_ids}
use Rattle.entry.specs.View.{shown_digest}
use Rattle.recovery_plan.proofs.Digests.{digest-of, ends-some}
use Rattle.recovery_plan.proofs.Plans.{taken-good}
use Rattle.recovery_plan.proofs.Lost.{lost_missing, none_lost}
use Rattle.recovery_plan.proofs.planning.want.Goals as goal

pub first_missing-requires : goal.first_missing-requires
first_missing-requires c =
    let head = c.args.head.now in
    let o : Opening = record { digest = shown_digest c.opening.result.0; safe = c.opening.result.1 } in
    let good = taken-good c.args.holdings.now c.args.master head c.requires in
    ends-some head.segment (listed_ids o.digest) (digest-of head o good c.opening.ensures).ends

pub returns-in-Some : goal.returns-in-Some
returns-in-Some c least usable =
    let o : Opening = record { digest = shown_digest c.opening.result.0; safe = c.opening.result.1 } in
    lost_missing c.args.holdings.now least c.args.master o c.args.head.now c.in-Some.id c.requires usable
    c.opening.ensures c.in-Some.ensures

pub returns-in-None : goal.returns-in-None
returns-in-None c least usable =
    let o : Opening = record { digest = shown_digest c.opening.result.0; safe = c.opening.result.1 } in
    none_lost c.args.holdings.now least c.args.master o c.args.head.now c.requires usable c.opening.ensures
    c.in-None.ensures
