use Rattle.std.proofs.Common.{◌≡◌, ℕ, ◌<◌, List, [], ap, sym, ◌∙◌, length, arith}
use Rattle.places.specs.declared.place.Held.{Held}
use Rattle.places.specs.Lists.{holds_in}
use Rattle.place_index.proofs.Parted.{holds_part}
use Rattle.hash_index.specs.Buckets.{bucket_of}
use Rattle.hash_index.proofs.table.BucketTableTable.holds_first.Goals as goal

pub returns : goal.returns
returns c first =
    let h = c.args.held in
    let bs = c.self.inside.buckets in
    let t = c.bucket_at-at.result in
    let at : t ≡ bucket_of (length bs) h.hash =
    c.bucket_at-at.ensures.bucket ∙ ap (λ (n : ℕ). bucket_of n h.hash) c.len-2.ensures.len in
    let below : t < length bs = omega (arith, c.bucket_at-at.ensures.within, c.len-2.ensures.len) in
    ap (λ (xs : List Held). holds_in xs h) (sym c.self.view_is)
    ∙ holds_part h (bucket_of (length bs)) t at bs c.self.invariant below []
    ∙ ap (λ (x : List Held). holds_in x h) (sym c.get-bucket.ensures)
    ∙ c.holds_first.ensures first
