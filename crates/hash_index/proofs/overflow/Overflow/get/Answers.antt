use Rattle.std.proofs.Common.{◌≡◌, ℕ, List, sym, ap, subst, ◌∙◌}
use Rattle.entry.specs.declared.key.Key.{Key}
use Rattle.entry.specs.View.{shown_key}
use Rattle.places.specs.declared.place.Held.{Held}
use Rattle.places.specs.Lists.{AreKeptIn, found_in}
use Rattle.place_index.specs.Steps.{ListValue}
use Rattle.hash_index.specs.Buckets.{listed}
use Rattle.hash_index.proofs.overflow.Overflow.get.Goals as goal

pub returns-in-Some : goal.returns-in-Some
returns-in-Some g c =
    let keys = g.R.Resolve.keys c.args.resolver.now in
    let k = shown_key c.args.key.now in
    let here =
    ap (λ (v : ListValue). v.held) c.deref.ensures ∙ sym (ap (λ o. listed o) c.in-Some.is) ∙ c.self.view_is in
    subst (λ (hs : List Held). (hash_of : Key → ℕ) → c.args.hash ≡ hash_of k → AreKeptIn hash_of keys hs
    → c.get_rarely.result ≡ found_in keys k hs) here c.get_rarely.ensures
