use Rattle.std.proofs.Common.{sym, ◌∙◌, arith}
use Rattle.packing.proofs.Numbers.{some_bytes}
use Rattle.packing.proofs.Greatest.{above_all, none_above}
use Rattle.packing.proofs.limits.greatest_limit.Goals as goal

pub returns-then-not-is_limit-clause-none : goal.returns-then-not-is_limit-clause-none
returns-then-not-is_limit-clause-none c = λ is m.
    none_above c.args.sizes.now c.args.largest c.requires.sound 0 m (omega arith)
    (sym c.is_limit.ensures ∙ c.if-not-is_limit.true)

pub loop-above-init : goal.loop-above-init
loop-above-init c = record {
  below = some_bytes c.args.sizes.now.segment c.requires.sound.least;
  limit = sym c.is_limit.ensures ∙ c.if-not-is_limit.false;
  none = above_all c.args.sizes.now c.args.largest c.requires.sound;
}

pub loop-above-preserved : goal.loop-above-preserved
loop-above-preserved c =
    let more = c.loop-above-test.true in
    record {
      below = omega arith;
      limit = c.loop-above.invariant.limit;
      none = sym c.is_limit-in-loop-above.ensures ∙ c.if-is_limit.false;
    }

pub returns-clause-limit : goal.returns-clause-limit
returns-clause-limit c = c.loop-above.invariant.limit

pub returns-clause-greatest : goal.returns-clause-greatest
returns-clause-greatest c = λ m lt.
    none_above c.args.sizes.now c.args.largest c.requires.sound c.loop-above.above m
    (let end = c.loop-above-test.false in omega arith) c.loop-above.invariant.none
