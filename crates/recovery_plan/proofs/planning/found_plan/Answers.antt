use Rattle.std.proofs.Common.{◌-◌, take, length, refl}
use Rattle.std.specs.Ordering.{nat_cmp}
use Rattle.std.specs.BTreeMap.{get}
use Rattle.entry.specs.Text.{Opening, listed_ids}
use Rattle.entry.specs.View.{shown_digest}
use Rattle.recovery_plan.proofs.Digests.{digest-of, ends-some}
use Rattle.recovery_plan.proofs.Plans.{taken-good, found-taken, lack-later, chosen-good, found-plan}
use Rattle.recovery_plan.proofs.planning.found_plan.Goals as goal

pub others-requires : goal.others-requires
others-requires c =
    let head = c.args.head.now in
    let o : Opening = record { digest = shown_digest c.opening-safe.result.0; safe = c.opening-safe.result.1 } in
    let good = taken-good c.args.holdings.now c.args.master head c.requires in
    ends-some head.segment (listed_ids o.digest) (digest-of head o good c.opening-safe.ensures).ends

pub returns-in-Err-clause-fault : goal.returns-in-Err-clause-fault
returns-in-Err-clause-fault c least usable =
    let o : Opening = record { digest = shown_digest c.opening-safe.result.0; safe = c.opening-safe.result.1 } in
    lack-later c.args.holdings.now c.args.master (get nat_cmp c.in_ok-best.best) c.in_ok-best.ensures o least
    c.args.head.now
    c.in-Err.fault c.requires usable c.opening-safe.ensures
    c.in-Err.ensures.fault

pub segments_of-requires : goal.segments_of-requires
segments_of-requires c =
    let o : Opening = record { digest = shown_digest c.opening-safe.result.0; safe = c.opening-safe.result.1 } in
    let ids = listed_ids o.digest in
    let all =
    found-taken c.args.holdings.now c.args.master (get nat_cmp c.in_ok-best.best) c.in_ok-best.ensures o
    (take (length ids - 1) ids) c.in-Ok.others.items
    c.in-Ok.ensures.found in
    chosen-good c.args.holdings.now c.args.master c.args.head.now o c.in-Ok.others.items
    c.push.new.self.items c.replica.result
    c.requires all c.replica.ensures c.in_ok-push.ensures.items

pub returns-in-Ok-segments_of-clause-ok : goal.returns-in-Ok-segments_of-clause-ok
returns-in-Ok-segments_of-clause-ok c least usable =
    let o : Opening = record { digest = shown_digest c.opening-safe.result.0; safe = c.opening-safe.result.1 } in (
      _,
      found-plan c.args.holdings.now least c.args.master c.args.head.now o (get nat_cmp c.in_ok-best.best)
          c.in-Ok.others.items c.push.new.self.items c.replica.result _
          c.requires usable c.opening-safe.ensures c.in_ok-best.ensures c.in-Ok.ensures.found c.replica.ensures
          c.in_ok-push.ensures.items c.in-Ok-segments_of.ensures refl,
    )
