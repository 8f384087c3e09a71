use Rattle.std.proofs.Common.{List, ◌≡◌, sym, subst, ◌∙◌}
use Rattle.std.specs.Prelude.{Some}
use Rattle.entry.specs.View.{shown_key}
use Rattle.places.specs.declared.place.Held.{Held}
use Rattle.places.specs.Lists.{AreKeptIn, found_in}
use Rattle.place_index.proofs.Joining.{kept_left, kept_right}
use Rattle.place_index.proofs.Whole.{found_table, found_waiting}
use Rattle.chain_index.proofs.chain.Chain.get.Goals as goal

pub returns-in-Some : goal.returns-in-Some
returns-in-Some g c = λ hash_of of.
    let keys = g.R.Resolve.keys c.args.resolver.now in
    let k = shown_key c.args.key.now in
    let front = c.self.inside.front in
    let more = c.self.inside.more.held in
    subst (λ (v : List Held). AreKeptIn hash_of keys v → Some c.in-Some.place ≡ found_in keys k v) c.self.view_is
    (λ all.
    let there : found_in keys k front ≡ Some c.in-Some.place =
    sym (c.in-Some.ensures hash_of of (kept_left keys front more all)) in
    sym (found_table keys k front more c.in-Some.place there))

pub returns-in-None : goal.returns-in-None
returns-in-None g c = λ hash_of of.
    let keys = g.R.Resolve.keys c.args.resolver.now in
    let k = shown_key c.args.key.now in
    let front = c.self.inside.front in
    let more = c.self.inside.more.held in
    subst (λ (v : List Held). AreKeptIn hash_of keys v → c.get-in-None.result ≡ found_in keys k v) c.self.view_is
    (λ all.
    c.get-in-None.ensures hash_of of (kept_right keys front more all)
    ∙ sym (found_waiting keys k front more (sym (c.in-None.ensures hash_of of (kept_left keys front more all)))))
