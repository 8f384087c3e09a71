use Rattle.std.proofs.Common.{ℕ, ◌<◌, ◌*◌, length, subst, sym}
use Rattle.entry.specs.Bag.{IsAmong}
use Rattle.rebuilding.specs.Rebuilds.{IsDouble}
use Rattle.rebuilding.proofs.Twins.{short_apart, short_without, twins_low, twin_double}
use Rattle.rebuilding.proofs.want.want_of_memory.Goals as goal

pub returns-in_default : goal.returns-in_default
returns-in_default c =
    let segments = c.args.segments.now in
    let order = c.args.order.now in
    short_apart segments c.args.will.now order
    (subst (λ p. (n : ℕ) → IsAmong n order → n < length segments * p) c.partitions-partitions.ensures.count
    (c.has_stranger.ensures.no c.if-has_stranger.false)) c.in_default.ensures.none

pub returns-then-not-names_first : goal.returns-then-not-names_first
returns-then-not-names_first c =
    let segments = c.args.segments.now in
    let qs = c.args.will.now in
    let order = c.args.order.now in
    let some = c.partitions-partitions.ensures.valid.some in
    let e = c.partitions-partitions.ensures.count in
    let low = twins_low segments qs order some c.in-Some.first c.in-Some.second c.in-Some.ensures.some in
    short_without segments qs order c.in-Some.first some low.0
    (subst (λ p. (n : ℕ) → IsAmong n order → n < length segments * p) e
    (c.has_stranger.ensures.no c.if-has_stranger.false))
    (subst (λ p. ¬ IsAmong (c.in-Some.first * p) order) e (c.names_first.ensures.no c.if-not-names_first.true))

pub returns-then-not-names_first-2 : goal.returns-then-not-names_first-2
returns-then-not-names_first-2 c =
    let segments = c.args.segments.now in
    let qs = c.args.will.now in
    let order = c.args.order.now in
    let some = c.partitions-partitions.ensures.valid.some in
    let e = c.partitions-partitions.ensures.count in
    let low = twins_low segments qs order some c.in-Some.first c.in-Some.second c.in-Some.ensures.some in
    short_without segments qs order c.in-Some.second some low.1
    (subst (λ p. (n : ℕ) → IsAmong n order → n < length segments * p) e
    (c.has_stranger.ensures.no c.if-has_stranger.false))
    (subst (λ p. ¬ IsAmong (c.in-Some.second * p) order) e (c.names_first-2.ensures.no c.if-not-names_first-2.true))

pub returns : goal.returns
returns c =
    let segments = c.args.segments.now in
    let qs = c.args.will.now in
    let order = c.args.order.now in
    let some = c.partitions-partitions.ensures.valid.some in
    let e = c.partitions-partitions.ensures.count in
    subst (λ id. IsDouble segments qs order id) (sym c.id_at.ensures)
    (twin_double segments qs order some c.in-Some.first c.in-Some.second c.in-Some.ensures.some
    (subst (λ p. IsAmong (c.in-Some.first * p) order) e (c.names_first.ensures.yes c.if-not-names_first.false))
    (subst (λ p. IsAmong (c.in-Some.second * p) order) e (c.names_first-2.ensures.yes c.if-not-names_first-2.false)))
