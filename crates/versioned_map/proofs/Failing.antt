-- A true claim also holds if a call failed.
use Rattle.std.specs.Prelude.{Result, Ok, Err, OnErr}

-- what holds at all
pub failing_from_all : {T E : Type 0} (r : Result T E) (P : Type 0) → P → OnErr r P
failing_from_all (Ok x) P p = tt
failing_from_all (Err e) P p = p
