use Rattle.std.proofs.Common.{ℕ, ◌+◌, take, sym, subst, arith}
use Rattle.std.specs.Prelude.{Option, Some}
use Rattle.log_head.proofs.Heads.{Lags, lags_here, lags_before}
use Rattle.log_head.proofs.lagging.lagging_of_all.Goals.{then-taken-place, else-taken-place}
use Rattle.log_head.proofs.lagging.lagging_of_all.Goals as goal

pub loop-place-preserved : goal.loop-place-preserved
loop-place-preserved c =
    let ns = c.args.taken.now in
    let i = c.loop-place.place in
    let least = c.loop-place.least in
    let found = c.loop-place.found in
    let units = c.args.units in
    let below = c.loop-place-test.true in
    let before = c.loop-place.invariant.lags in
    record {
      lags = elim c.if-taken-place.branch [
        | then-taken-place w ↦ subst (λ (o : Option ℕ). Lags units c.if-taken-place.least o (take (i + 1) ns))
            (sym w.found-is) (subst (λ (n : ℕ). Lags units n (Some i) (take (i + 1) ns)) (sym w.least-is)
            (lags_here units least found ns i below before w.if-taken-place.true))
        | else-taken-place w ↦ subst (λ (o : Option ℕ). Lags units c.if-taken-place.least o (take (i + 1) ns))
            (sym w.found-is) (subst (λ (n : ℕ). Lags units n found (take (i + 1) ns)) (sym w.least-is)
            (lags_before units least found ns i below before w.if-taken-place.false))
      ];
      within = omega (arith, below);
    }
