use Rattle.std.proofs.Common.{◌++◌, refl, subst}
use Rattle.std.specs.Prelude.{Option}
use Rattle.entry.specs.declared.key.Key.{Key}
use Rattle.places.specs.declared.place.Place.{Place}
use Rattle.places.specs.Hashing.{pieces}
use Rattle.places.specs.Map.{IndexValue, AreKeptBy, IsSameMapBy}
use Rattle.place_index.proofs.Joining.{shuffled_left, shuffled_then}
use Rattle.place_index.proofs.index.PlaceIndex.grow.Goals as goal

-- the table grew, and took in what waited, as far as there was memory
pub returns-clause-same : goal.returns-clause-same
returns-clause-same g c =
    let hash_of = g.H.KeyHash.hash_of in
    let seed = g.H.KeyHash.seed c.self.inside.hasher in
    let table = g.T.Table.places c.self.inside.table in
    let grown = g.T.Table.places c.grow.new.self in
    let new = g.T.Table.places c.take_in.new.table in
    let waiting = c.self.inside.waiting.held in
    let others = c.take_in.new.waiting.held in
    let whole = shuffled_then (table ++ waiting) (grown ++ waiting) (new ++ others)
    (shuffled_left table grown waiting c.grow.ensures) c.take_in.ensures.places in
    subst (λ (v : IndexValue). (keys : Place → Option Key) → AreKeptBy hash_of keys v.held
    → IsSameMapBy hash_of keys v.held (record { seed = seed; list = new ++ others })) c.self.view_is
    (λ keys all. (let same = whole.same (pieces hash_of seed) keys all in
    record { seed = refl; kept = same.kept; finds = same.finds }))
