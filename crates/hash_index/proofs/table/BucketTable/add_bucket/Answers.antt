use Rattle.std.proofs.Common.{List, subst}
use Rattle.places.specs.declared.place.Held.{Held}
use Rattle.place_index.specs.Steps.{IsShuffled}
use Rattle.place_index.specs.Parted.{places_in}
use Rattle.hash_index.proofs.Halves.{grown_own, grown_shuffled}
use Rattle.hash_index.proofs.table.BucketTable.add_bucket.Goals as goal

pub invariant_of-self-2 : goal.invariant_of-self-2
invariant_of-self-2 c =
    let parts = c.in_ok-parts.parts in
    grown_own c.self.inside.buckets c.push-2.new.self c.put.new.self c.len-count.result c.bucket_at-source.result
    c.get.result.now parts.stays parts.goes c.len-count.ensures.len c.bucket_at-source.ensures.bucket
    c.bucket_at-source.ensures.within c.get.ensures c.in_ok-parts.ensures c.in_ok-push.ensures.ok c.put.ensures
    c.self.invariant

pub returns-clause-ok : goal.returns-clause-ok
returns-clause-ok c =
    let parts = c.in_ok-parts.parts in
    subst (λ (xs : List Held). IsShuffled xs (places_in c.put.new.self)) c.self.view_is
    (grown_shuffled c.self.inside.buckets c.push-2.new.self c.put.new.self c.len-count.result c.bucket_at-source.result
    c.get.result.now parts.stays parts.goes c.len-count.ensures.len c.bucket_at-source.ensures.bucket
    c.bucket_at-source.ensures.within c.get.ensures c.in_ok-parts.ensures c.in_ok-push.ensures.ok c.put.ensures)
