use Rattle.hash_index.proofs.Halves.{deals_new, deals_old}
use Rattle.hash_index.proofs.dividing.deal.Goals as goal

pub returns-then-bucket_at-count : goal.returns-then-bucket_at-count
returns-then-bucket_at-count c = λ start d.
    deals_new c.args.count start c.args.to.now.stays c.args.to.now.goes c.args.held d c.bucket_at.result
    c.bucket_at.ensures.bucket c.push.new.self c.if-bucket_at-count.true c.push.result c.push.ensures.ok
    c.push.ensures.hashes

pub returns-else-bucket_at-count : goal.returns-else-bucket_at-count
returns-else-bucket_at-count c = λ start d.
    deals_old c.args.count start c.args.to.now.stays c.args.to.now.goes c.args.held d c.bucket_at.result
    c.bucket_at.ensures.bucket c.push-else-bucket_at-count.new.self c.if-bucket_at-count.false
    c.push-else-bucket_at-count.result c.push-else-bucket_at-count.ensures.ok
    c.push-else-bucket_at-count.ensures.hashes
