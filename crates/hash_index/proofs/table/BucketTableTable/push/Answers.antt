use Rattle.std.proofs.Common.{◌≡◌, ℕ, ◌<◌, List, [], ◌∷◌, ◌++◌, ap, sym, subst, ◌∙◌, length, get_or, arith}
use Rattle.std.specs.Prelude.{OnOk}
use Rattle.places.specs.declared.place.Held.{Held}
use Rattle.place_index.specs.Steps.{IsShuffled}
use Rattle.place_index.specs.Parted.{places_in, AreInParts}
use Rattle.place_index.proofs.Parted.{own_result, pushed_result}
use Rattle.hash_index.specs.Buckets.{bucket_of}
use Rattle.hash_index.proofs.Halves.{same_on_err}
use Rattle.hash_index.proofs.table.BucketTableTable.push.Goals as goal

pub invariant_of-self : goal.invariant_of-self
invariant_of-self c =
    let h = c.args.held in
    let bs = c.self.inside.buckets in
    let new = c.add.new.self in
    let t = c.bucket_at-at.result in
    let at : t ≡ bucket_of (length bs) h.hash =
    c.bucket_at-at.ensures.bucket ∙ ap (λ (n : ℕ). bucket_of n h.hash) c.len-2.ensures.len in
    let below : t < length bs = omega (arith, c.bucket_at-at.ensures.within, c.len-2.ensures.len) in
    subst (λ (xs : List (List Held)). AreInParts (bucket_of (length xs)) 0 xs) (sym c.add.ensures.only)
    (own_result bucket_of bs t [] (get_or new t []) h c.add.result c.self.invariant below at c.add.ensures.hashes
    (same_on_err bs new t c.add.result c.add.ensures.err))

pub returns-clause-ok : goal.returns-clause-ok
returns-clause-ok c =
    let h = c.args.held in
    let bs = c.self.inside.buckets in
    let new = c.add.new.self in
    let t = c.bucket_at-at.result in
    let below : t < length bs = omega (arith, c.bucket_at-at.ensures.within, c.len-2.ensures.len) in
    subst (λ (xs : List Held). OnOk c.add.result (IsShuffled (xs ++ h ∷ []) (places_in new))) c.self.view_is
    (subst (λ (xs : List (List Held)). OnOk c.add.result (IsShuffled (places_in bs ++ h ∷ []) (places_in xs)))
    (sym c.add.ensures.only) (pushed_result bs t [] (get_or new t []) h c.add.result below c.add.ensures.ok))
