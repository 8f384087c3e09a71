use Rattle.std.proofs.Common.{◌≡◌, ℕ, List, sym, ap, subst, ◌∙◌}
use Rattle.std.specs.Prelude.{Option}
use Rattle.entry.specs.declared.key.Key.{Key}
use Rattle.places.specs.declared.place.Held.{Held}
use Rattle.places.specs.declared.place.Place.{Place}
use Rattle.places.specs.Lists.{AreKeptIn, IsCandidateIn}
use Rattle.place_index.specs.Steps.{ListValue}
use Rattle.hash_index.specs.Buckets.{listed}
use Rattle.hash_index.proofs.overflow.Overflow.candidate.Goals as goal

pub returns-in-Some : goal.returns-in-Some
returns-in-Some c =
    let here =
    ap (λ (v : ListValue). v.held) c.deref.ensures ∙ sym (ap (λ o. listed o) c.in-Some.is) ∙ c.self.view_is in
    subst (λ (hs : List Held). (hash_of : Key → ℕ) (keys : Place → Option Key) (k : Key) → c.args.hash ≡ hash_of k
    → AreKeptIn hash_of keys hs → IsCandidateIn keys k hs c.candidate_rarely.result) here c.candidate_rarely.ensures
