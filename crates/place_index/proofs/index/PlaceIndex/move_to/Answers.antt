use Rattle.std.proofs.Common.{sym, subst, if◌then◌else◌}
use Rattle.std.specs.Prelude.{Option, Some, None, is_some}
use Rattle.entry.specs.View.{shown_key}
use Rattle.places.specs.declared.place.Held.{Held}
use Rattle.places.specs.declared.place.Place.{Place}
use Rattle.places.specs.Map.{Places, IsSetBy}
use Rattle.places.proofs.Words.{relocates_set}
use Rattle.place_index.proofs.index.PlaceIndex.move_to.Goals as goal

pub returns-in-Some-clause-moved : goal.returns-in-Some-clause-moved
returns-in-Some-clause-moved g c = λ kept there.
    let hash_of = g.H.KeyHash.hash_of in
    let keys = g.R.Resolve.keys c.args.resolver.now in
    let k = shown_key c.args.key.now in
    let held = c.args.self.now.held in
    let was : Held = record { hash = c.hash-hash.result; place = c.in-Some.there } in
    subst (λ (o : Option Place).
    IsSetBy hash_of keys held k (if is_some o then Some c.args.place else None) c.relocate.new.self.held)
    (c.in-Some.ensures kept)
    (subst (λ (ps : Places). IsSetBy hash_of keys held k (Some c.args.place) ps) (sym c.relocate.ensures.moved)
    (relocates_set hash_of keys k held was c.args.place kept (sym (c.in-Some.ensures kept)) c.hash-hash.ensures there))
