use Rattle.std.proofs.Common.{◌≡◌, ℕ, ◌<◌, List, [], ap, refl, sym, subst, ◌∙◌, length, get_or, arith}
use Rattle.places.specs.declared.place.Held.{Held}
use Rattle.places.specs.Lists.{holds_in, without}
use Rattle.place_index.specs.Steps.{IsShuffled}
use Rattle.place_index.specs.Parted.{places_in, AreInParts}
use Rattle.place_index.proofs.Joining.{shuffled_itself}
use Rattle.place_index.proofs.Parted.{own_brings, holds_part, without_part}
use Rattle.place_index.proofs.TakingOut.{without_brings, without_none}
use Rattle.hash_index.specs.Buckets.{bucket_of}
use Rattle.hash_index.proofs.table.BucketTableTable.take_out.Goals as goal

at : (c : goal.After-take_out) → c.bucket_at-at.result ≡ bucket_of (length c.self.inside.buckets) c.args.held.hash
at c = c.bucket_at-at.ensures.bucket ∙ ap (λ (n : ℕ). bucket_of n c.args.held.hash) c.len-2.ensures.len

below : (c : goal.After-take_out) → c.bucket_at-at.result < length c.self.inside.buckets
below c = omega (arith, c.bucket_at-at.ensures.within, c.len-2.ensures.len)

had : (c : goal.After-take_out) → c.take_out.result ≡ holds_in c.args.self.now c.args.held
had c =
    let h = c.args.held in
    let bs = c.self.inside.buckets in
    c.take_out.ensures.had
    ∙ sym (holds_part h (bucket_of (length bs)) c.bucket_at-at.result (at c) bs c.self.invariant (below c) [])
    ∙ ap (λ (xs : List Held). holds_in xs h) c.self.view_is

taken : (c : goal.After-take_out) → places_in c.take_out.new.self ≡ without c.args.held c.args.self.now
taken c =
    let h = c.args.held in
    let bs = c.self.inside.buckets in
    let t = c.bucket_at-at.result in
    ap (λ (xs : List (List Held)). places_in xs) c.take_out.ensures.taken
    ∙ without_part h (bucket_of (length bs)) t (at c) bs c.self.invariant (below c) []
    (without h (get_or bs t [])) refl
    ∙ ap (λ (xs : List Held). without h xs) c.self.view_is

pub invariant_of-self : goal.invariant_of-self
invariant_of-self c =
    let bs = c.self.inside.buckets in
    let t = c.bucket_at-at.result in
    let bucket = get_or bs t [] in
    subst (λ (xs : List (List Held)). AreInParts (bucket_of (length xs)) 0 xs) (sym c.take_out.ensures.taken)
    (own_brings bucket_of bs t [] (without c.args.held bucket) c.self.invariant (below c)
    (without_brings c.args.held bucket))

pub returns-clause-had : goal.returns-clause-had
returns-clause-had c = had c

pub returns-clause-taken : goal.returns-clause-taken
returns-clause-taken c =
    let rest = without c.args.held c.args.self.now in
    subst (λ (xs : List Held). IsShuffled rest xs) (sym (taken c)) (shuffled_itself rest)

pub returns-clause-same : goal.returns-clause-same
returns-clause-same c = λ isnt. taken c ∙ without_none c.args.held c.args.self.now (sym (had c) ∙ isnt)
