-- Two lists of the same contents have as many bytes, and a table that was loaded is counted right.
use Rattle.std.proofs.Common.{◌≡◌, ◌≤◌, ℕ, zero, suc, true, List, [], ◌∷◌, length, take, refl, sym, ap}
use Rattle.std.proofs.Common.{inl, inr, ◌∙◌, arith}
use Rattle.std.specs.Prelude.{Some, None, sum}
use Rattle.entry.specs.declared.entry.Object.{Object}
use Rattle.entry.specs.declared.key.Key.{Key}
use Rattle.entry.specs.Meaning.{Contents, versioned, contents_of}
use Rattle.entry.specs.Order.{key_eq}
use Rattle.entry.proofs.KeyOrder.{key_eq_tells, key_eq_decides}
use Rattle.versioned_map.specs.declared.command.Record.{Record}
use Rattle.versioned_map.specs.History.{commands_of}
use Rattle.versioned_map.specs.Versioned.{State, with_contents, after}
use Rattle.replay.specs.master.master_state.declared.config.Config.{Config}
use Rattle.replay.specs.master.master_state.Live.{bytes_of}
use Rattle.replay.specs.master.master_state.Sizes.{AreOnce}
use Rattle.replay.specs.Needs.{length_of, lengths_of}
use Rattle.adoptable.specs.Limit.{IsSum, IsWithin}
use Rattle.adoptable.proofs.Dropped.{dropped, dropped_has, dropped_once, dropped_sum, length_is, sum_first}
use Rattle.adoptable.proofs.Sums.{AreAllowed, all_allowed}
use Rattle.adoptable.proofs.Growing.{Admits}

-- ---- the same contents

-- what a list has at the key of its first object
own_there : (o : Object) (os : List Object) → contents_of (o ∷ os) o.key ≡ Some (versioned o)
own_there o os = let t : key_eq o.key o.key ≡ true = (key_eq_decides o.key o.key).1 refl in rw t refl

-- without that key it has what the rest has
rest_has : (o : Object) (os : List Object) → contents_of os o.key ≡ None
    → with_contents (contents_of (o ∷ os)) o.key None ≡ contents_of os
rest_has o os none = λ i q. go q i
  where
    go : (q : Key) → with_contents (contents_of (o ∷ os)) o.key None q ≡ contents_of os q
    go q = elim (key_eq_tells q o.key) as (λ _. with_contents (contents_of (o ∷ os)) o.key None q ≡ contents_of os q) [
      | inl t ↦ (let e = t.0 in rw e (sym (ap (contents_of os) t.1 ∙ none)))
      | inr f ↦ (let e = f.0 in rw e refl)
    ]

-- The second list has as many bytes, and its objects are allowed if those of the first are.
record Same (c : Config) (os ps : List Object) : Type 0 where
  sum : sum (lengths_of ps) ≡ sum (lengths_of os)
  allowed : AreAllowed c os → AreAllowed c ps

none_listed : (c : Config) (ps : List Object) → contents_of ps ≡ contents_of [] → Same c [] ps
none_listed c [] has = record { sum = refl; allowed = λ s. s }
none_listed c (p ∷ ps) has =
    absurd (let never = sym (own_there p ps) ∙ ap (λ (cs : Contents). cs p.key) has in cc)

same_lists : (c : Config) (os ps : List Object) → AreOnce os → AreOnce ps → contents_of ps ≡ contents_of os
    → Same c os ps
same_lists c [] ps once other has = none_listed c ps has
same_lists c (o ∷ os) ps once other has =
    go (same_lists c os (dropped o.key ps) once.1 (dropped_once o.key ps other) left)
  where
    there : contents_of ps o.key ≡ Some (versioned o)
    there = ap (λ (cs : Contents). cs o.key) has ∙ own_there o os

    left : contents_of (dropped o.key ps) ≡ contents_of os
    left = (λ i q. dropped_has o.key ps q i) ∙ ap (λ (cs : Contents). with_contents cs o.key None) has
        ∙ rest_has o os once.0

    go : Same c os (dropped o.key ps) → Same c (o ∷ os) ps
    go rest = record {
      sum =
          let less = dropped_sum o.key ps other in
          let own : bytes_of o.key (contents_of ps o.key) ≡ length_of o =
          ap (bytes_of o.key) there ∙ sym (length_is o) in
          let first = sum_first o os in
          let same = rest.sum in
          omega arith;
      allowed = λ all. all_allowed c o.key ps other (rest.allowed all.1) (rw there (all.0));
    }

pub sum_is : (c : Config) (os : List Object) → AreOnce os → IsSum (contents_of os) (sum (lengths_of os))
sum_is c os once ps other same = (same_lists c os ps once other same).sum

-- ---- a log that begins with a list

at_first : (opening : State) (records : List Record) (count : ℕ) → count ≤ length records → records ≡ []
    → after opening (take count (commands_of records)) ≡ opening
at_first opening [] zero le none = refl
at_first opening [] (suc count) le none = absurd (omega arith)
at_first opening (r ∷ rs) count le none = absurd (cc)

pub begun_admits : (c : Config) (opening : State) (history : List Record) (os : List Object) → history ≡ []
    → opening.contents ≡ contents_of os → AreOnce os → IsWithin c os → Admits c opening history
begun_admits c opening history os none has once within count ps le other same =
    let first = at_first opening history count le none in
    let lists = same_lists c os ps once other (same ∙ ap (λ (s : State). s.contents) first ∙ has) in
    let sums = lists.sum in
    let most = within.sum in
    record { sum = omega arith; allowed = lists.allowed within.allowed }
