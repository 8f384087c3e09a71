use Rattle.std.proofs.Common.{◌≤◌, ℕ, sym, subst, ◌∙◌}
use Rattle.cleaner.proofs.Lacking.{range_later}
use Rattle.cleaner.proofs.survivors.+first_lacking.Goals as goal

pub returns : goal.returns
returns t c =
    let s = c.args.survivors in
    c.first_lacking.ensures ∙ sym (range_later c.args.replicas c.args.images.now.images s.first s.count
    c.if-survivors-eq0.false
    (subst (λ (n : ℕ). c.args.replicas ≤ n) c.replicas-sealed.ensures c.if-sealed-replicas.false))
