use Rattle.std.proofs.Common.{◌≡◌, ℕ, ◌<◌, List, [], ap, sym, subst, ◌∙◌, length, arith}
use Rattle.entry.specs.View.{shown_key}
use Rattle.places.specs.declared.place.Held.{Held}
use Rattle.places.specs.Lists.{AreKeptIn, found_in}
use Rattle.place_index.proofs.Parted.{kept_part, found_part}
use Rattle.hash_index.specs.Buckets.{bucket_of}
use Rattle.hash_index.proofs.table.BucketTableTable.get.Goals as goal

pub returns : goal.returns
returns g c = λ hash_of of all.
    let keys = g.R.Resolve.keys c.args.resolver.now in
    let k = shown_key c.args.key.now in
    let bs = c.self.inside.buckets in
    let t = c.bucket_at-at.result in
    let at : t ≡ bucket_of (length bs) (hash_of k) =
    c.bucket_at-at.ensures.bucket ∙ ap (λ (n : ℕ). bucket_of n c.args.hash) c.len-2.ensures.len
    ∙ ap (λ (h : ℕ). bucket_of (length bs) h) of in
    let below : t < length bs = omega (arith, c.bucket_at-at.ensures.within, c.len-2.ensures.len) in
    let whole = subst (λ (xs : List Held). AreKeptIn hash_of keys xs) (sym c.self.view_is) all in
    let kept = kept_part hash_of keys k (bucket_of (length bs)) t at bs c.self.invariant below [] whole in
    c.get.ensures hash_of of (subst (λ (x : List Held). AreKeptIn hash_of keys x) (sym c.get-bucket.ensures) kept)
    ∙ ap (λ (x : List Held). found_in keys k x) c.get-bucket.ensures
    ∙ sym (found_part hash_of keys k (bucket_of (length bs)) t at bs c.self.invariant below [] whole)
    ∙ ap (λ (xs : List Held). found_in keys k xs) c.self.view_is
