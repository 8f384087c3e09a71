-- A memory that agrees with one that all holds of, but for what its cursor passed over.
use Rattle.std.proofs.Common.{◌≡◌, ℕ, true, List, [], refl, sym, subst, ◌∙◌}
use Rattle.std.specs.Prelude.{Option, Some, None}
use Rattle.std.proofs.lemmas.Option.{same_Some}
use Rattle.entry.specs.declared.key.Key.{Key}
use Rattle.entry.specs.declared.entry.Entry.{Entry}
use Rattle.entry.specs.declared.entry.Entry.TheVariants as entry
use Rattle.entry.specs.Bag.{IsAmong}
use Rattle.entry.specs.Meaning.{Versioned, object_at}
use Rattle.entry.specs.Text.{is_data}
use Rattle.replica.specs.Picture.{FleetState}
use Rattle.master_core.specs.log_laws.Memory.{Place, StandsAt}
use Rattle.master_core.specs.log_laws.Data.{FailData}
use Rattle.master_core.specs.log_memory.Covered.{map_of}
use Rattle.master_core.specs.log_memory.Fleet.{read_of, HoldsAll}
use Rattle.master_core.specs.log_memory.Intact.{IsIntact}
use Rattle.master_core.specs.log_memory.Memory.{Spot, FailMemory}
use Rattle.master_core.specs.log_memory.Same.{IsFoundInBoth}
use Rattle.master_core.proofs.log_memory.FleetSteps.{same_holds_all}

pub record Agree (d : FailData) (m n : FailMemory) : Type 0 where
  pub pass : n.pass ≡ m.pass
  pub images : (s : ℕ) → n.images s ≡ m.images s
  pub index : (k : Key) → n.index k ≡ m.index k
  -- a victim's object or tombstone that is to come in the one is to come in the other
  pub rest : (p : Place) (e : Entry) → IsAmong p.segment m.pass.victims → StandsAt m.images p e → is_data e ≡ true
      → IsAmong p m.rest → IsAmong p n.rest
  pub done : m.rest ≡ [] → n.rest ≡ []
  pub commits : n.commits ≡ m.commits
  pub waiting : (w : Spot) → IsAmong w n.waiting → IsAmong w m.waiting

module _ (d : FailData) (m n : FailMemory) (f : FleetState) (holds : HoldsAll d m f) (agree : Agree d m n) where
  abbrev i : IsIntact d m (read_of d f)
  i = holds.keeps.intact

  found : (k : Key) (x : Versioned) → map_of d k ≡ Some x → IsFoundInBoth m n k x
  found k x has =
      let was = i.tracked.found k x has in
      record {
        place = was.place;
        other = was.place;
        indexed = was.indexed;
        other_indexed = agree.index k ∙ was.indexed;
        segment = refl;
        stands = was.stands;
      }

  live : (k : Key) (q : Place) → n.index k ≡ Some q → IsAmong q.segment m.pass.victims → IsAmong q n.rest
  live k q named victim = go (map_of d k) refl where
    before : m.index k ≡ Some q
    before = sym (agree.index k) ∙ named

    go : (x : Option Versioned) → map_of d k ≡ x → IsAmong q n.rest
    go None none = (let never = sym (i.tracked.unindexed k none) ∙ before in absurd (cc))
    go (Some x) has =
        let was = i.tracked.found k x has in
        let same : was.place ≡ q = same_Some was.place q (sym was.indexed ∙ before) in
        agree.rest q (object_at k x) victim (subst (λ (y : Place). StandsAt m.images y (object_at k x))
        same was.stands) refl
        (i.passing.live k q before victim)

  pub agreeing_holds : HoldsAll d n f
  agreeing_holds = (same_holds_all d m n f (record {
    pass = agree.pass;
    images = λ s counts. agree.images s;
    fewer = λ s e among. subst (λ (es : List Entry). IsAmong e es) (agree.images s) among;
    found = found;
    unindexed = λ k none. agree.index k ∙ i.tracked.unindexed k none;
    live = live;
    carried = λ q t victim stands kept to_come. agree.rest q (entry.Tombstone t) victim stands refl to_come;
    done = agree.done;
    commits = agree.commits;
    waiting = agree.waiting;
  })).0 holds
