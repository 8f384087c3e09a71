use Rattle.std.proofs.Common.{◌≡◌, sym, subst, ◌∙◌}
use Rattle.std.specs.Prelude.{Some}
use Rattle.entry.specs.View.{shown_key}
use Rattle.places.specs.Hashing.{pieces}
use Rattle.places.specs.Map.{IndexValue, AreKeptBy, found}
use Rattle.place_index.proofs.Joining.{kept_left, kept_right}
use Rattle.place_index.proofs.Whole.{found_table, found_waiting}
use Rattle.place_index.proofs.index.PlaceIndex.get_hashed.Goals as goal

pub returns-in-Some : goal.returns-in-Some
returns-in-Some g c =
    let keys = g.R.Resolve.keys c.args.resolver.now in
    let k = shown_key c.args.key.now in
    let hash_of = g.H.KeyHash.hash_of in
    let here = pieces hash_of (g.H.KeyHash.seed c.self.inside.hasher) in
    let table = g.T.Table.places c.self.inside.table in
    let waiting = c.self.inside.waiting.held in
    subst (λ (v : IndexValue). c.args.hash ≡ pieces hash_of v.held.seed k → AreKeptBy hash_of keys v.held
    → Some c.in-Some.place ≡ found keys k v.held) c.self.view_is
    (λ of all. sym (found_table keys k table waiting c.in-Some.place
    (sym (c.in-Some.ensures here of (kept_left keys table waiting all))))) c.requires

pub returns-in-None : goal.returns-in-None
returns-in-None g c =
    let keys = g.R.Resolve.keys c.args.resolver.now in
    let k = shown_key c.args.key.now in
    let hash_of = g.H.KeyHash.hash_of in
    let here = pieces hash_of (g.H.KeyHash.seed c.self.inside.hasher) in
    let table = g.T.Table.places c.self.inside.table in
    let waiting = c.self.inside.waiting.held in
    subst (λ (v : IndexValue). c.args.hash ≡ pieces hash_of v.held.seed k → AreKeptBy hash_of keys v.held
    → c.get_rarely.result ≡ found keys k v.held) c.self.view_is
    (λ of all.
    c.get_rarely.ensures here of (kept_right keys table waiting all)
    ∙ sym (found_waiting keys k table waiting (sym (c.in-None.ensures here of (kept_left keys table waiting all)))))
    c.requires
