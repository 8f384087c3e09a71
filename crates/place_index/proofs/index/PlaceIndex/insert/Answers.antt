use Rattle.std.proofs.Common.{◌≡◌, List, [], ◌∷◌, ◌++◌, refl, sym, subst, ◌∙◌}
use Rattle.std.specs.Prelude.{Some, None}
use Rattle.places.specs.declared.place.Held.{Held}
use Rattle.places.specs.Hashing.{pieces}
use Rattle.places.specs.Map.{IndexValue, AreKeptBy, IsSetBy, found}
use Rattle.place_index.specs.Steps.{IsShuffled}
use Rattle.place_index.proofs.Adding.{shuffled_set}
use Rattle.place_index.proofs.Joining.{shuffled_itself}
use Rattle.place_index.proofs.TwoLists.{filled_shuffled, pushed_is}
use Rattle.place_index.proofs.Whole.{on_err, on_not_err}
use Rattle.place_index.proofs.index.PlaceIndex.insert.Goals as goal

-- the table got no memory, and it waits
pub returns-then-is_err-clause-set : goal.returns-then-is_err-clause-set
returns-then-is_err-clause-set g c = λ keys k.
    let h = c.args.held in
    let hash_of = g.H.KeyHash.hash_of in
    let seed = g.H.KeyHash.seed c.self.inside.hasher in
    let table = g.T.Table.places c.self.inside.table in
    let waiting = c.self.inside.waiting.held in
    let new = g.T.Table.places c.push.new.self in
    let others = c.insert.new.self.held in
    let same : new ≡ table = on_err c.push.result c.push.ensures.err (sym c.is_err.ensures.value ∙ c.if-is_err.true) in
    let is = pushed_is h table waiting new others same c.insert.ensures.held in
    let shuffled = subst (λ (xs : List Held). IsShuffled ((table ++ waiting) ++ h ∷ []) xs) is
    (shuffled_itself ((table ++ waiting) ++ h ∷ [])) in
    subst (λ (v : IndexValue). AreKeptBy hash_of keys v.held → found keys k v.held ≡ None → keys h.place ≡ Some k
    → h.hash ≡ pieces hash_of v.held.seed k
    → IsSetBy hash_of keys v.held k (Some h.place) (record { seed = seed; list = new ++ others })) c.self.view_is
    (λ all none there of. (let set = shuffled_set (pieces hash_of seed) keys k (table ++ waiting) (new ++ others) h
    shuffled all none there of in record { seed = refl; kept = set.kept; finds = set.finds }))

-- it is in the table
pub returns-else-is_err-clause-set : goal.returns-else-is_err-clause-set
returns-else-is_err-clause-set g c = λ keys k.
    let h = c.args.held in
    let hash_of = g.H.KeyHash.hash_of in
    let seed = g.H.KeyHash.seed c.self.inside.hasher in
    let table = g.T.Table.places c.self.inside.table in
    let waiting = c.self.inside.waiting.held in
    let new = g.T.Table.places c.push.new.self in
    let pushed = on_not_err c.push.result c.push.ensures.ok (sym c.is_err.ensures.value ∙ c.if-is_err.false) in
    let shuffled = filled_shuffled h table waiting new pushed in
    subst (λ (v : IndexValue). AreKeptBy hash_of keys v.held → found keys k v.held ≡ None → keys h.place ≡ Some k
    → h.hash ≡ pieces hash_of v.held.seed k
    → IsSetBy hash_of keys v.held k (Some h.place) (record { seed = seed; list = new ++ waiting })) c.self.view_is
    (λ all none there of. (let set = shuffled_set (pieces hash_of seed) keys k (table ++ waiting) (new ++ waiting) h
    shuffled all none there of in record { seed = refl; kept = set.kept; finds = set.finds }))
