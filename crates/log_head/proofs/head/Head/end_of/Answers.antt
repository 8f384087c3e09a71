use Rattle.std.proofs.Common.{◌≡◌, ap, length, arith}
use Rattle.log_head.specs.Head.{HeadValue}
use Rattle.log_head.proofs.Heads.{EndAt_le, end_of_le, end_of_last}
use Rattle.log_head.proofs.head.Head.end_of.Goals as goal

pub returns-in-None-clause-within : goal.returns-in-None-clause-within
returns-in-None-clause-within c = rw (← c.self.view_is)
    (EndAt_le c.self.inside.units.items c.self.inside.base _ c.self.invariant.1.units)

pub returns-in-Some-clause-within : goal.returns-in-Some-clause-within
returns-in-Some-clause-within c =
    let count : length c.self.inside.units.items ≡ length c.args.self.now.units =
    ap (λ (h : HeadValue). length h.units) c.self.view_is in
    let here = end_of_last c.self.inside.units.items c.self.inside.base c.in-Some.last
    c.index.result.now (omega arith) in
    rw (← c.self.view_is, c.index.ensures, ← here) (end_of_le c.self.inside.units.items c.self.inside.base _ _
    c.self.invariant.1.units)
