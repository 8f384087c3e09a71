use Rattle.std.proofs.Common.{◌≡◌, ℕ, ◌+◌, List, drop, sym, ap, ◌∙◌, arith}
use Rattle.entry.specs.Text.{listed_ids}
use Rattle.entry.specs.View.{shown_digest, shown_ids}
use Rattle.log_head.specs.Head.{digest_of}
use Rattle.log_head.specs.Log.{but_last}
use Rattle.log_head.proofs.Digests.{digest_some}
use Rattle.master_failover.specs.Left.{lost_of}
use Rattle.master_failover.proofs.Losses.{other_here, others_end, lost_whole, lost_here}
use Rattle.master_failover.proofs.lost.lost_of.Goals as goal

pub loop-place-preserved-then-id-whole : goal.loop-place-preserved-then-id-whole
loop-place-preserved-then-id-whole c =
    let ids = shown_ids c.in-Some.digest in
    let closed = c.args.closed.now.images in
    let place = c.loop-place.place in
    let before = c.loop-place.invariant.lost in
    let few = c.loop-place.invariant.few in
    let count = c.count.ensures in
    let end = c.saturating_sub-others.ensures in
    let lt = c.loop-place-test.true in
    let split = ap (lost_of c.args.replicas closed c.args.whole)
    (other_here ids place c.id-id.result c.id-id.ensures (omega arith)) in
    let step = lost_whole c.args.replicas closed c.args.whole c.id-id.result (drop (place + 1) (but_last ids))
    c.if-id-whole.true in
    record { lost = omega arith; few = omega arith }

pub loop-place-preserved : goal.loop-place-preserved
loop-place-preserved c =
    let ids = shown_ids c.in-Some.digest in
    let closed = c.args.closed.now.images in
    let place = c.loop-place.place in
    let before = c.loop-place.invariant.lost in
    let few = c.loop-place.invariant.few in
    let most = c.requires.few in
    let count = c.count.ensures in
    let end = c.saturating_sub-others.ensures in
    let lt = c.loop-place-test.true in
    let held = c.replicas.ensures in
    let lost = c.saturating_sub.ensures in
    let split = ap (lost_of c.args.replicas closed c.args.whole)
    (other_here ids place c.id-id.result c.id-id.ensures (omega arith)) in
    let step = lost_here c.args.replicas closed c.args.whole c.id-id.result (drop (place + 1) (but_last ids))
    c.if-id-whole.false in
    record { lost = omega arith; few = omega arith }

pub returns-clause-lost : goal.returns-clause-lost
returns-clause-lost c =
    let ids = shown_ids c.in-Some.digest in
    let closed = c.args.closed.now.images in
    let before = c.loop-place.invariant.lost in
    let count = c.count.ensures in
    let end = c.saturating_sub-others.ensures in
    let last = c.loop-place-test.false in
    let in_force : ids ≡ digest_of c.args.image.now =
    ap listed_ids (sym (digest_some _ (shown_digest c.in-Some.digest) c.in-Some.ensures))
    ∙ ap digest_of c.view.ensures in
    let none = ap (lost_of c.args.replicas closed c.args.whole) (others_end ids c.loop-place.place (omega arith)) in
    let all = ap (λ (xs : List ℕ). lost_of c.args.replicas closed c.args.whole (but_last xs)) in_force in
    omega arith
