use Rattle.std.proofs.Common.{length, ◌∙◌}
use Rattle.hash_index.specs.Buckets.{bucket_of}
use Rattle.hash_index.proofs.Emptiness.{empty_parts, empty_more}
use Rattle.hash_index.proofs.table.BucketTable.add_empty.Goals as goal

pub invariant_of-self : goal.invariant_of-self
invariant_of-self c =
    empty_parts (bucket_of (length c.push.new.self)) 0 c.push.new.self
    (empty_more c.push.result c.self.inside.buckets c.push.new.self c.new.result c.new.ensures
    (c.self.view_is ∙ c.requires) c.push.ensures.ok c.push.ensures.err)

pub returns : goal.returns
returns c =
    empty_more c.push.result c.self.inside.buckets c.push.new.self c.new.result c.new.ensures
    (c.self.view_is ∙ c.requires) c.push.ensures.ok c.push.ensures.err
