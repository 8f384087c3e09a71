use Rattle.std.proofs.Common.{◌≡◌, ℕ, ◌<◌, List, [], ap, refl, sym, subst, ◌∙◌, length, get_or, arith}
use Rattle.places.specs.declared.place.Held.{Held}
use Rattle.places.specs.Lists.{holds_in, relocated_in}
use Rattle.place_index.specs.Parted.{places_in, AreInParts}
use Rattle.place_index.proofs.Parted.{own_brings, holds_part, relocated_part}
use Rattle.place_index.proofs.Relocating.{relocated_brings}
use Rattle.hash_index.specs.Buckets.{bucket_of}
use Rattle.hash_index.proofs.table.BucketTableTable.relocate.Goals as goal

at : (c : goal.After-relocate) → c.bucket_at-at.result ≡ bucket_of (length c.self.inside.buckets) c.args.held.hash
at c = c.bucket_at-at.ensures.bucket ∙ ap (λ (n : ℕ). bucket_of n c.args.held.hash) c.len-2.ensures.len

below : (c : goal.After-relocate) → c.bucket_at-at.result < length c.self.inside.buckets
below c = omega (arith, c.bucket_at-at.ensures.within, c.len-2.ensures.len)

pub invariant_of-self : goal.invariant_of-self
invariant_of-self c =
    let bs = c.self.inside.buckets in
    let t = c.bucket_at-at.result in
    let bucket = get_or bs t [] in
    subst (λ (xs : List (List Held)). AreInParts (bucket_of (length xs)) 0 xs) (sym c.relocate.ensures.moved)
    (own_brings bucket_of bs t [] (relocated_in c.args.held c.args.to bucket) c.self.invariant (below c)
    (relocated_brings c.args.held c.args.to bucket))

pub returns-clause-had : goal.returns-clause-had
returns-clause-had c =
    let h = c.args.held in
    let bs = c.self.inside.buckets in
    c.relocate.ensures.had
    ∙ sym (holds_part h (bucket_of (length bs)) c.bucket_at-at.result (at c) bs c.self.invariant (below c) [])
    ∙ ap (λ (xs : List Held). holds_in xs h) c.self.view_is

pub returns-clause-moved : goal.returns-clause-moved
returns-clause-moved c =
    let h = c.args.held in
    let bs = c.self.inside.buckets in
    let t = c.bucket_at-at.result in
    ap (λ (xs : List (List Held)). places_in xs) c.relocate.ensures.moved
    ∙ relocated_part h (bucket_of (length bs)) t (at c) bs c.self.invariant (below c) [] c.args.to
    (relocated_in h c.args.to (get_or bs t [])) refl
    ∙ ap (λ (xs : List Held). relocated_in h c.args.to xs) c.self.view_is
