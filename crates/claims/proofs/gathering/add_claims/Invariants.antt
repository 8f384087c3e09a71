use Rattle.std.proofs.Common.{◌≡◌, ◌++◌, ◌+◌, ◌≤◌, map, length}
use Rattle.std.specs.Prelude.{vec_len, vec_capacity}
use Rattle.claims.specs.Claims.{claimed, claims_of}
use Rattle.claims.proofs.gathering.add_claims.Given as goal

abbrev pub invariant-loop-entry : goal.invariant-loop-entry
invariant-loop-entry l = record {
  held : map claimed l.claims.items ++ claims_of l.entry-iterator
      ≡ map claimed l.initial.claims.items ++ claims_of l.initial.entry-iterator;
  room : vec_len l.claims + length l.entry-iterator ≤ vec_capacity l.claims;
}
