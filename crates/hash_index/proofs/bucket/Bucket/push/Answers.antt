use Rattle.std.proofs.Common.{List, [], ◌∷◌, ◌++◌, refl, subst}
use Rattle.std.specs.Prelude.{OnOk}
use Rattle.places.specs.declared.place.Held.{Held}
use Rattle.place_index.specs.Steps.{BringsNoHash, IsShuffled}
use Rattle.place_index.proofs.TwoLists.{filled_shuffled, filled_brings, pushed_shuffled}
use Rattle.place_index.proofs.TwoLists.{pushed_brings}
use Rattle.hash_index.proofs.bucket.Bucket.push.Goals as goal

pub returns-then-fill-clause-ok : goal.returns-then-fill-clause-ok
returns-then-fill-clause-ok c =
    let h = c.args.held in
    let front = c.self.inside.near in
    let more = c.self.inside.overflow in
    let new = c.fill.new.self in
    subst (λ (v : List Held). IsShuffled (v ++ h ∷ []) (new ++ more)) c.self.view_is
    (filled_shuffled h front more new (c.if-fill.ensures.filled refl))

pub returns-then-fill-clause-hashes : goal.returns-then-fill-clause-hashes
returns-then-fill-clause-hashes c =
    let h = c.args.held in
    let front = c.self.inside.near in
    let more = c.self.inside.overflow in
    let new = c.fill.new.self in
    subst (λ (v : List Held). BringsNoHash (v ++ h ∷ []) (new ++ more)) c.self.view_is
    (filled_brings h front more new (c.if-fill.ensures.hashes refl))

pub returns-clause-ok : goal.returns-clause-ok
returns-clause-ok c =
    let h = c.args.held in
    let front = c.self.inside.near in
    let more = c.self.inside.overflow in
    let new = c.fill.new.self in
    let others = c.push.new.self in
    let r = c.push.result in
    subst (λ (v : List Held). OnOk r (IsShuffled (v ++ h ∷ []) (new ++ others))) c.self.view_is
    (pushed_shuffled h front more new others r (c.if-fill.ensures.same refl) c.push.ensures.ok)

pub returns-clause-hashes : goal.returns-clause-hashes
returns-clause-hashes c =
    let h = c.args.held in
    let front = c.self.inside.near in
    let more = c.self.inside.overflow in
    let new = c.fill.new.self in
    let others = c.push.new.self in
    let r = c.push.result in
    subst (λ (v : List Held). OnOk r (BringsNoHash (v ++ h ∷ []) (new ++ others))) c.self.view_is
    (pushed_brings h front more new others r (c.if-fill.ensures.same refl) c.push.ensures.ok)
