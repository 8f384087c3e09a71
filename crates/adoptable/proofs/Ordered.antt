-- A list in order has each key once.
use Rattle.std.proofs.Common.{◌≡◌, List, [], ◌∷◌, refl, sym}
use Rattle.std.specs.Prelude.{Option, Some, None, map}
use Rattle.std.specs.List.Sorted.{IsStrictlySortedBy}
use Rattle.std.specs.declared.cmp.Ordering.TheVariants.{Less, Equal}
use Rattle.entry.specs.declared.entry.Object.{Object}
use Rattle.entry.specs.declared.key.Key.{Key}
use Rattle.entry.specs.Bag.{IsAmong}
use Rattle.entry.specs.Meaning.{Versioned, contents_of}
use Rattle.entry.specs.Order.{key_cmp}
use Rattle.entry.proofs.BagLemmas.{among_image}
use Rattle.entry.proofs.KeyOrder.{key_cmp_same}
use Rattle.entry.proofs.ListLemmas.{all_among}
use Rattle.claims.specs.Listed.{AreOrdered}
use Rattle.claims.proofs.MeaningLemmas.{contents_of-among}
use Rattle.replay.specs.master.master_state.Sizes.{AreOnce}

first_apart : (o p : Object) (os : List Object) → AreOrdered (o ∷ os) → IsAmong p os → o.key ≡ p.key → ⊥
unfolding IsStrictlySortedBy
first_apart o p os sorted m same =
    let less : key_cmp o.key p.key ≡ Less =
    all_among (λ (k : Key). key_cmp o.key k ≡ Less) (map (λ (z : Object). z.key) os) p.key sorted.0
    (among_image (λ (z : Object). z.key) os p m) in
    let equal : key_cmp o.key p.key ≡ Equal = key_cmp_same o.key p.key same in
    cc

rest_ordered : (o : Object) (os : List Object) → AreOrdered (o ∷ os) → AreOrdered os
unfolding IsStrictlySortedBy
rest_ordered o os sorted = sorted.1

-- the first key comes no more
first_gone : (o : Object) (os : List Object) → AreOrdered (o ∷ os) → contents_of os o.key ≡ None
first_gone o os sorted = go (contents_of os o.key) refl
  where
    go : (x : Option Versioned) → contents_of os o.key ≡ x → x ≡ None
    go None is = refl
    go (Some x) is =
        let has = contents_of-among os o.key x is in
        absurd (first_apart o has.0 os sorted has.1 (sym has.2))

pub ordered_once : (os : List Object) → AreOrdered os → AreOnce os
ordered_once [] sorted = tt
ordered_once (o ∷ os) sorted = (first_gone o os sorted, ordered_once os (rest_ordered o os sorted))
