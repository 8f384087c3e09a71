use Rattle.std.proofs.Common.{◌≡◌, ℕ, ◌+◌, List, drop, sym, ap, ◌∙◌, arith}
use Rattle.std.specs.Prelude.{Some}
use Rattle.master_state.specs.cleaner.Seals.{first_lacking}
use Rattle.entry.specs.Text.{listed_ids}
use Rattle.entry.specs.View.{shown_digest, shown_ids}
use Rattle.log_head.specs.Head.{digest_of}
use Rattle.log_head.specs.Log.{but_last}
use Rattle.log_head.proofs.Digests.{digest_some}
use Rattle.master_failover.proofs.Losses.{other_here, others_end, lacks_here, lacks_later}
use Rattle.master_failover.proofs.lost.first_lost.Goals as goal

pub returns-then-held-replicas : goal.returns-then-held-replicas
returns-then-held-replicas c =
    let ids = shown_ids c.in-Some.digest in
    let closed = c.args.closed.now.images in
    let place = c.loop-place.place in
    let held = c.replicas-held.ensures in
    let count = c.count.ensures in
    let end = c.saturating_sub-others.ensures in
    let lt = c.loop-place-test.true in
    let less = c.if-held-replicas.true in
    let in_force : ids ≡ digest_of c.args.image.now =
    ap listed_ids (sym (digest_some _ (shown_digest c.in-Some.digest) c.in-Some.ensures))
    ∙ ap digest_of c.view.ensures in
    (λ i. Some (c.id-id.result, held i))
    ∙ sym (lacks_here c.args.replicas closed c.id-id.result (drop (place + 1) (but_last ids)) (omega arith))
    ∙ ap (first_lacking c.args.replicas closed)
    (sym (other_here ids place c.id-id.result c.id-id.ensures (omega arith)))
    ∙ c.loop-place.invariant
    ∙ ap (λ (xs : List ℕ). first_lacking c.args.replicas closed (but_last xs)) in_force

pub loop-place-preserved : goal.loop-place-preserved
loop-place-preserved c =
    let ids = shown_ids c.in-Some.digest in
    let closed = c.args.closed.now.images in
    let place = c.loop-place.place in
    let held = c.replicas-held.ensures in
    let count = c.count.ensures in
    let end = c.saturating_sub-others.ensures in
    let lt = c.loop-place-test.true in
    let least = c.if-held-replicas.false in
    sym (lacks_later c.args.replicas closed c.id-id.result (drop (place + 1) (but_last ids)) (omega arith))
    ∙ ap (first_lacking c.args.replicas closed)
    (sym (other_here ids place c.id-id.result c.id-id.ensures (omega arith)))
    ∙ c.loop-place.invariant

pub returns : goal.returns
returns c =
    let ids = shown_ids c.in-Some.digest in
    let closed = c.args.closed.now.images in
    let count = c.count.ensures in
    let end = c.saturating_sub-others.ensures in
    let last = c.loop-place-test.false in
    let in_force : ids ≡ digest_of c.args.image.now =
    ap listed_ids (sym (digest_some _ (shown_digest c.in-Some.digest) c.in-Some.ensures))
    ∙ ap digest_of c.view.ensures in
    ap (first_lacking c.args.replicas closed) (sym (others_end ids c.loop-place.place (omega arith)))
    ∙ c.loop-place.invariant
    ∙ ap (λ (xs : List ℕ). first_lacking c.args.replicas closed (but_last xs)) in_force
