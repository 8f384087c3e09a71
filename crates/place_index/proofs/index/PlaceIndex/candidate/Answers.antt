use Rattle.std.proofs.Common.{◌≡◌, ◌++◌, subst}
use Rattle.std.specs.Prelude.{Some}
use Rattle.places.specs.Hashing.{pieces}
use Rattle.places.specs.Map.{IndexValue, AreKeptBy, IsCandidate}
use Rattle.place_index.proofs.Joining.{kept_left, kept_right}
use Rattle.place_index.proofs.Slots.{candidate_same}
use Rattle.place_index.proofs.Whole.{found_table, found_waiting}
use Rattle.place_index.proofs.index.PlaceIndex.candidate.Goals as goal

pub returns-in-Some : goal.returns-in-Some
returns-in-Some g c = λ keys k.
    let hash_of = g.H.KeyHash.hash_of in
    let here = pieces hash_of (g.H.KeyHash.seed c.self.inside.hasher) in
    let table = g.T.Table.places c.self.inside.table in
    let waiting = c.self.inside.waiting.held in
    let p = c.in-Some.place in
    subst (λ (v : IndexValue). c.args.hash ≡ pieces hash_of v.held.seed k → AreKeptBy hash_of keys v.held
    → IsCandidate keys k v.held (Some p)) c.self.view_is
    (λ of all there. found_table keys k table waiting p (c.in-Some.ensures here keys k of
    (kept_left keys table waiting all) there))

pub returns-in-None : goal.returns-in-None
returns-in-None g c = λ keys k.
    let hash_of = g.H.KeyHash.hash_of in
    let here = pieces hash_of (g.H.KeyHash.seed c.self.inside.hasher) in
    let table = g.T.Table.places c.self.inside.table in
    let waiting = c.self.inside.waiting.held in
    let o = c.candidate_rarely.result in
    subst (λ (v : IndexValue). c.args.hash ≡ pieces hash_of v.held.seed k → AreKeptBy hash_of keys v.held
    → IsCandidate keys k v.held o) c.self.view_is
    (λ of all.
    candidate_same keys k c.args.hash waiting (table ++ waiting) o
    (found_waiting keys k table waiting (c.in-None.ensures here keys k of (kept_left keys table waiting all)))
    (c.candidate_rarely.ensures here keys k of (kept_right keys table waiting all)))
