use Rattle.hash_index.proofs.Halves.{shuffled_either}
use Rattle.hash_index.proofs.table.BucketTableTable.grow.Goals as goal

pub returns-then-len-buckets_for : goal.returns-then-len-buckets_for
returns-then-len-buckets_for c = shuffled_either c.args.self.now c.add_bucket.new.self c.add_bucket.result
    c.add_bucket.ensures.ok
    c.add_bucket.ensures.err
