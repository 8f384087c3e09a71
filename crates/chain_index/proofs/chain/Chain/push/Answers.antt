use Rattle.std.proofs.Common.{List, [], ◌∷◌, ◌++◌, refl, subst}
use Rattle.std.specs.Prelude.{OnOk}
use Rattle.places.specs.declared.place.Held.{Held}
use Rattle.place_index.specs.Steps.{BringsNoHash, IsShuffled}
use Rattle.place_index.proofs.TwoLists.{filled_shuffled, filled_brings, filled_itself, filled_same, pushed_shuffled}
use Rattle.place_index.proofs.TwoLists.{pushed_brings}
use Rattle.chain_index.proofs.chain.Chain.push.Goals as goal

pub returns-then-fill-clause-ok : goal.returns-then-fill-clause-ok
returns-then-fill-clause-ok c =
    let h = c.args.held in
    let front = c.self.inside.front in
    let more = c.self.inside.more.held in
    let new = c.fill.new.self in
    subst (λ (v : List Held). IsShuffled (v ++ h ∷ []) (new ++ more)) c.self.view_is
    (filled_shuffled h front more new (filled_itself h front new (c.if-fill.ensures.filled refl)))

pub returns-then-fill-clause-hashes : goal.returns-then-fill-clause-hashes
returns-then-fill-clause-hashes c =
    let h = c.args.held in
    let front = c.self.inside.front in
    let more = c.self.inside.more.held in
    let new = c.fill.new.self in
    subst (λ (v : List Held). BringsNoHash (v ++ h ∷ []) (new ++ more)) c.self.view_is
    (filled_brings h front more new (filled_same h front new (c.if-fill.ensures.filled refl)))

pub returns-clause-ok : goal.returns-clause-ok
returns-clause-ok c =
    let h = c.args.held in
    let front = c.self.inside.front in
    let more = c.self.inside.more.held in
    let new = c.fill.new.self in
    let others = c.push_exact.new.self.held in
    let r = c.push_exact.result in
    subst (λ (v : List Held). OnOk r (IsShuffled (v ++ h ∷ []) (new ++ others))) c.self.view_is
    (pushed_shuffled h front more new others r (c.if-fill.ensures.same refl) c.push_exact.ensures.ok)

pub returns-clause-hashes : goal.returns-clause-hashes
returns-clause-hashes c =
    let h = c.args.held in
    let front = c.self.inside.front in
    let more = c.self.inside.more.held in
    let new = c.fill.new.self in
    let others = c.push_exact.new.self.held in
    let r = c.push_exact.result in
    subst (λ (v : List Held). OnOk r (BringsNoHash (v ++ h ∷ []) (new ++ others))) c.self.view_is
    (pushed_brings h front more new others r (c.if-fill.ensures.same refl) c.push_exact.ensures.ok)
