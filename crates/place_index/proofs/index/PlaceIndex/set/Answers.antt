use Rattle.std.proofs.Common.{sym, subst}
use Rattle.std.specs.Prelude.{Some}
use Rattle.entry.specs.View.{shown_key}
use Rattle.places.specs.declared.place.Held.{Held}
use Rattle.places.specs.Map.{Places, IsSetBy}
use Rattle.places.proofs.Words.{relocates_set}
use Rattle.place_index.proofs.index.PlaceIndex.set.Goals as goal

pub returns-in-Some-clause-set : goal.returns-in-Some-clause-set
returns-in-Some-clause-set g c = λ kept there.
    let hash_of = g.H.KeyHash.hash_of in
    let keys = g.R.Resolve.keys c.args.resolver.now in
    let k = shown_key c.args.key.now in
    let held = c.args.self.now.held in
    let was : Held = record { hash = c.hash-hash.result; place = c.in-Some.was } in
    subst (λ (ps : Places). IsSetBy hash_of keys held k (Some c.args.place) ps) (sym c.relocate.ensures.moved)
    (relocates_set hash_of keys k held was c.args.place kept (sym (c.in-Some.ensures kept)) c.hash-hash.ensures there)
