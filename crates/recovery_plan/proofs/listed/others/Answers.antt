use Rattle.std.proofs.Common.{◌≡◌, ◌++◌, ◌∷◌, [], ◌<◌, ◌+◌, length, arith}
use Rattle.std.proofs.lemmas.Grind.{common_steps}
use Rattle.std.specs.Ordering.{nat_cmp}
use Rattle.std.specs.BTreeMap.{get}
use Rattle.entry.specs.View.{shown_digest, shown_ids}
use Rattle.recovery_plan.proofs.Lookups.{get-at, found-more, lacking-first}
use Rattle.recovery_plan.proofs.listed.others.Goals as goal

pub returns-in-None-clause-fault : goal.returns-in-None-clause-fault
returns-in-None-clause-fault c =
    let ids = shown_ids c.args.digest.now in
    let i = c.loop-place.place in
    let lt : i + 1 < length ids = omega arith in
    lacking-first (get nat_cmp c.args.best.now) (shown_digest c.args.digest.now) i c.id.result c.loop-place.others.items
    c.loop-place.invariant lt (get-at ids i c.id.result c.id.ensures) c.in-None.ensures

pub loop-place-preserved : goal.loop-place-preserved
loop-place-preserved c =
    let ids = shown_ids c.args.digest.now in
    let i = c.loop-place.place in
    let lt : i < length ids = omega arith in
    let all : c.push.new.self.items ≡ c.loop-place.others.items ++ c.in-Some.holding ∷ [] =
    grind (arith, common_steps) in
    found-more (get nat_cmp c.args.best.now) (shown_digest c.args.digest.now) ids i c.loop-place.others.items
    c.push.new.self.items c.in-Some.holding c.loop-place.invariant lt c.in-Some.ensures all
