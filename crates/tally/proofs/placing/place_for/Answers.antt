use Rattle.std.proofs.Common.{◌≤◌, ◌<◌, ℕ, length, get_or, leb, leb-true, leb-false, arith, rules}
use Rattle.std.proofs.lemmas.List.Sorted.{IsPartitionPoint-from_clause, IsPartitionedBy-leb}
use Rattle.tally.specs.declared.tallies.Tally.{Tally}
use Rattle.tally.proofs.Searching.{rise}
use Rattle.tally.proofs.placing.place_for.Goals as goal

pub returns : goal.returns
returns c =
    let xs = c.args.rows.now in
    let s = c.args.segment in
    let at = c.partition_point.result in
    let parted = IsPartitionedBy-leb (λ (x : Tally). x.segment) xs s (rise xs c.requires) in
    let point = IsPartitionPoint-from_clause (λ (x : Tally). leb x.segment s) xs at
    c.partition_point.ensures.partitioned
    parted (λ a r q k. search rules) in
    record {
      within = c.partition_point.ensures.bound;
      low = λ (k : ℕ) (d : Tally) (lt : k < at). leb-true (get_or xs k d).segment s (point.0 k d (omega arith) lt);
      high = λ (k : ℕ) (d : Tally) (le : at ≤ k) (lt : k < length xs).
          leb-false (get_or xs k d).segment s (point.1 k d le lt);
    }
