use Rattle.std.proofs.Common.{◌≤◌, ◌<◌, ℕ, length, get_or, leb, leb-true, leb-false, arith, rules}
use Rattle.std.proofs.lemmas.List.Sorted.{IsPartitionPoint-from_clause, IsPartitionedBy-leb}
use Rattle.images.specs.Image.{Image}
use Rattle.images.proofs.Adding.{added_at, ids_rise}
use Rattle.images.proofs.placing.place_for.Goals as goal

pub returns-clause-place : goal.returns-clause-place
returns-clause-place c =
    let xs = c.args.images.now in
    let id = c.args.id in
    let at = c.partition_point.result in
    let parted = IsPartitionedBy-leb (λ (x : Image). x.id) xs id (ids_rise xs c.requires) in
    let point = IsPartitionPoint-from_clause (λ (x : Image). leb x.id id) xs at c.partition_point.ensures.partitioned
    parted (λ a r q k. search rules) in
    λ image is. added_at xs at image c.partition_point.ensures.bound
    (λ (k : ℕ) (d : Image) (lt : k < at). (let le = leb-true (get_or xs k d).id id
    (point.0 k d (omega arith) lt) in omega arith))
    (λ (k : ℕ) (d : Image) (le : at ≤ k) (lt : k < length xs).
    (let above = leb-false (get_or xs k d).id id (point.1 k d le lt) in omega arith))
