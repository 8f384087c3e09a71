use Rattle.std.proofs.Common.{List, ◌++◌, subst}
use Rattle.std.specs.Prelude.{Some}
use Rattle.places.specs.declared.place.Held.{Held}
use Rattle.places.specs.Lists.{AreKeptIn, IsCandidateIn}
use Rattle.place_index.proofs.Joining.{kept_left, kept_right}
use Rattle.place_index.proofs.Slots.{candidate_same}
use Rattle.place_index.proofs.Whole.{found_table, found_waiting}
use Rattle.chain_index.proofs.chain.Chain.candidate.Goals as goal

pub returns-in-Some : goal.returns-in-Some
returns-in-Some c = λ hash_of keys k of.
    let front = c.self.inside.front in
    let more = c.self.inside.more.held in
    let p = c.in-Some.place in
    subst (λ (v : List Held). AreKeptIn hash_of keys v → IsCandidateIn keys k v (Some p)) c.self.view_is
    (λ all there. found_table keys k front more p
    (c.in-Some.ensures hash_of keys k of (kept_left keys front more all) there))

pub returns-in-None : goal.returns-in-None
returns-in-None c = λ hash_of keys k of.
    let front = c.self.inside.front in
    let more = c.self.inside.more.held in
    let o = c.candidate-in-None.result in
    subst (λ (v : List Held). AreKeptIn hash_of keys v → IsCandidateIn keys k v o) c.self.view_is
    (λ all.
    candidate_same keys k c.args.hash more (front ++ more) o
    (found_waiting keys k front more (c.in-None.ensures hash_of keys k of (kept_left keys front more all)))
    (c.candidate-in-None.ensures hash_of keys k of (kept_right keys front more all)))
