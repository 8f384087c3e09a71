use Rattle.std.proofs.Common.{Result, Ok, Err, arith}
use Rattle.std.specs.Result.{OnErr}
use Rattle.entry.proofs.writing.write_entry.Goals as goal

on_err : {T E P : Type 0} (r : Result T E) → P → OnErr r P
on_err (Ok x) p = tt
on_err (Err e) p = p

pub returns-clause-ok : goal.returns-clause-ok
returns-clause-ok c = rw (← c.in_ok-reserve.ensures.items) c.put_entry.ensures

pub returns-in_err-reserve-clause-full : goal.returns-in_err-reserve-clause-full
returns-in_err-reserve-clause-full c =
    on_err c.from_residual.result (omega (arith, c.in_err-reserve.ensures.full, c.spelled_len.ensures.len))
