-- A bucket is divided between itself and one bucket more.
use Rattle.std.proofs.Common.{◌≡◌, ℕ, zero, suc, ◌+◌, ◌<◌, Bool, true, false, not, List, [], ◌∷◌, ◌++◌, length}
use Rattle.std.proofs.Common.{get_or, set, take, drop, length-append, length-set, append_assoc, refl, sym, ap, subst}
use Rattle.std.proofs.Common.{◌∙◌, arith}
use Rattle.std.specs.Prelude.{◌==◌, Result, Ok, Err, OnOk, OnErr}
use Rattle.std.proofs.lemmas.List.{append-nil, get_or-set_same, take_more}
use Rattle.std.proofs.lemmas.Grind.{flat_map-append}
use Rattle.std.proofs.lemmas.Bool.Decides.{Decides-eqb}
use Rattle.entry.proofs.ListLemmas.{all_append, all_split}
use Rattle.places.specs.declared.place.Held.{Held}
use Rattle.place_index.specs.Steps.{HashesPass, BringsNoHash, IsShuffled}
use Rattle.place_index.specs.Parted.{belongs, places_in, AreInParts}
use Rattle.place_index.proofs.Joining.{shuffled_itself, shuffled_then, shuffled_left, shuffled_right, shuffled_turned}
use Rattle.place_index.proofs.Parted.{places_split, places_set, part_own, part_put}
use Rattle.hash_index.specs.Buckets.{Divides, bucket_of}
use Rattle.hash_index.proofs.Addresses.{bucket_stays, bucket_source}

-- the new bucket, which is number n, is to have the hash, or not
abbrev goes_on : ℕ → ℕ → Bool
goes_on n hash = belongs (bucket_of (suc n)) n hash

abbrev stays_on : ℕ → ℕ → Bool
stays_on n hash = not (goes_on n hash)

pub divides_nothing : (n : ℕ) → Divides n [] [] []
divides_nothing n = record { same = shuffled_itself []; new = tt; old_ones = tt; hashes = λ p all. tt }

module _ (n : ℕ) (start stays goes : List Held) (x : Held) (d : Divides n start stays goes) where
  -- it goes to the new bucket
  divides_new : (new : List Held) → goes_on n x.hash ≡ true → IsShuffled (goes ++ x ∷ []) new
      → BringsNoHash (goes ++ x ∷ []) new → Divides n (start ++ x ∷ []) stays new
  divides_new new is pushed brings =
      let P = λ (h : Held). goes_on n h.hash ≡ true in
      let both = subst (λ (xs : List Held). IsShuffled (start ++ x ∷ []) xs) (append_assoc stays goes (x ∷ []))
      (shuffled_left start (stays ++ goes) (x ∷ []) d.same) in
      record {
        same = shuffled_then (start ++ x ∷ []) (stays ++ (goes ++ x ∷ [])) (stays ++ new) both
            (shuffled_right stays (goes ++ x ∷ []) new pushed);
        new = brings (goes_on n) (all_append P goes (x ∷ []) d.new (is, tt));
        old_ones = d.old_ones;
        hashes = λ p all. d.hashes p (all_split (λ (h : Held). p h.hash ≡ true) start (x ∷ []) all).0;
      }

  -- it stays
  divides_old : (new : List Held) → goes_on n x.hash ≡ false → IsShuffled (stays ++ x ∷ []) new
      → BringsNoHash (stays ++ x ∷ []) new → Divides n (start ++ x ∷ []) new goes
  divides_old new isnt pushed brings =
      let Q = λ (h : Held). stays_on n h.hash ≡ true in
      let not_it : stays_on n x.hash ≡ true = ap not isnt in
      let both = shuffled_left start (stays ++ goes) (x ∷ []) d.same in
      let turned = subst (λ (xs : List Held). IsShuffled xs (stays ++ (x ∷ goes)))
      (sym (append_assoc stays goes (x ∷ [])))
      (shuffled_right stays (goes ++ x ∷ []) (x ∷ goes) (shuffled_turned goes (x ∷ []))) in
      let last = subst (λ (xs : List Held). IsShuffled xs (new ++ goes)) (append_assoc stays (x ∷ []) goes)
      (shuffled_left (stays ++ x ∷ []) new goes pushed) in
      record {
        same = shuffled_then (start ++ x ∷ []) (stays ++ (x ∷ goes)) (new ++ goes)
            (shuffled_then (start ++ x ∷ []) ((stays ++ goes) ++ x ∷ []) (stays ++ (x ∷ goes)) both turned) last;
        new = d.new;
        old_ones = brings (stays_on n) (all_append Q stays (x ∷ []) d.old_ones (not_it, tt));
        hashes = λ p all.
            let P = λ (h : Held). p h.hash ≡ true in
            let parts = all_split P start (x ∷ []) all in
            brings p (all_append P stays (x ∷ []) (d.hashes p parts.0) parts.1);
      }

  module _ (at : ℕ) (is : at ≡ bucket_of (n + 1) x.hash) (new : List Held) where
    there : at ≡ bucket_of (suc n) x.hash
    there = is ∙ ap (λ (m : ℕ). bucket_of m x.hash) (omega arith)

    pub deals_new : {E : Type 0} → at ≡ n → (r : Result (Unit {0}) E) → OnOk r (IsShuffled (goes ++ x ∷ []) new)
        → OnOk r (BringsNoHash (goes ++ x ∷ []) new) → OnOk r (Divides n (start ++ x ∷ []) stays new)
    deals_new here (Ok u) pushed brings =
        divides_new new ((Decides-eqb (bucket_of (suc n) x.hash) n).1 (sym there ∙ here)) pushed brings
    deals_new here (Err e) pushed brings = pushed

    pub deals_old : {E : Type 0} → (at ≡ n → ⊥) → (r : Result (Unit {0}) E) → OnOk r (IsShuffled (stays ++ x ∷ []) new)
        → OnOk r (BringsNoHash (stays ++ x ∷ []) new) → OnOk r (Divides n (start ++ x ∷ []) new goes)
    deals_old other (Ok u) pushed brings = go (goes_on n x.hash) refl
      where
        go : (b : Bool) → goes_on n x.hash ≡ b → Divides n (start ++ x ∷ []) new goes
        go true so = absurd (other (there ∙ (Decides-eqb (bucket_of (suc n) x.hash) n).0 so))
        go false isnt = divides_old new isnt pushed brings
    deals_old other (Err e) pushed brings = pushed

-- one more of a list
pub divides_more : (n : ℕ) (start all stays goes : List Held) (i : ℕ) (d : Held) → i < length all
    → Divides n ((start ++ take i all) ++ get_or all i d ∷ []) stays goes
    → Divides n (start ++ take (i + 1) all) stays goes
divides_more n start all stays goes i d below one =
    let h = get_or all i d in
    let same : start ++ take (i + 1) all ≡ (start ++ take i all) ++ h ∷ [] =
    ap (λ (xs : List Held). start ++ xs) (take_more all i d below) ∙ sym (append_assoc start (take i all) (h ∷ [])) in
    subst (λ (xs : List Held). Divides n xs stays goes) (sym same) one

-- ---- the buckets afterwards

module _ (n : ℕ) where
  -- a place that isn't the new bucket's stays where it was
  stay_one : (x j : ℕ) → belongs (bucket_of n) j x ≡ true → (bucket_of (suc n) x ≡ n → ⊥)
      → belongs (bucket_of (suc n)) j x ≡ true
  stay_one x j own other =
      let at : bucket_of n x ≡ j = (Decides-eqb (bucket_of n x) j).0 own in
      (Decides-eqb (bucket_of (suc n) x) j).1 (bucket_stays n x other ∙ at)

  -- another bucket than the one that is divided has none of the new bucket's
  stay_other : (hs : List Held) (j : ℕ) → HashesPass (belongs (bucket_of n) j) hs → (j ≡ bucket_of n n → ⊥)
      → HashesPass (belongs (bucket_of (suc n)) j) hs
  stay_other [] j own other = tt
  stay_other (h ∷ hs) j own other =
      let at : bucket_of n h.hash ≡ j = (Decides-eqb (bucket_of n h.hash) j).0 own.0 in
      (stay_one h.hash j own.0 (λ is. other (sym at ∙ bucket_source n h.hash is)), stay_other hs j own.1 other)

  -- nor has what stays of that one
  stay_divided : (hs : List Held) (j : ℕ) → HashesPass (belongs (bucket_of n) j) hs → HashesPass (stays_on n) hs
      → HashesPass (belongs (bucket_of (suc n)) j) hs
  stay_divided [] j own stay = tt
  stay_divided (h ∷ hs) j own stay = (
    stay_one h.hash j own.0
        (λ is. refute (goes_on n h.hash) ((Decides-eqb (bucket_of (suc n) h.hash) n).1 is) stay.0),
    stay_divided hs j own.1 stay.1,
  )
    where
      refute : (b : Bool) → b ≡ true → not b ≡ true → ⊥
      refute true e f = absurd (cc)
      refute false e f = absurd (cc)

  stay_all : (bs : List (List Held)) (j : ℕ) → AreInParts (bucket_of n) j bs
      → ((i : ℕ) → j + i ≡ bucket_of n n → i < length bs → HashesPass (stays_on n) (get_or bs i []))
      → AreInParts (bucket_of (suc n)) j bs
  stay_all [] j own rest = tt
  stay_all (b ∷ bs) j own rest = (
    go (j == bucket_of n n) refl,
    stay_all bs (suc j) own.1 (λ i sum lt. rest (suc i) (omega (arith, sum)) (omega (arith, lt))),
  )
    where
      go : (t : Bool) → (j == bucket_of n n) ≡ t → HashesPass (belongs (bucket_of (suc n)) j) b
      go true is =
          let at : j ≡ bucket_of n n = (Decides-eqb j (bucket_of n n)).0 is in
          stay_divided b j own.0 (rest 0 (omega (arith, at)) (omega arith))
      go false isnt = stay_other b j own.0 (λ at. refuted ((Decides-eqb j (bucket_of n n)).1 at) isnt)
        where
          refuted : {t : Bool} → t ≡ true → t ≡ false → ⊥
          refuted e f = absurd (cc)

  -- one bucket more behind them
  one_more : (bs : List (List Held)) (j : ℕ) (b : List Held) → AreInParts (bucket_of n) j bs
      → HashesPass (belongs (bucket_of n) (j + length bs)) b → AreInParts (bucket_of n) j (bs ++ b ∷ [])
  one_more [] j b own last = (subst (λ (i : ℕ). HashesPass (belongs (bucket_of n) i) b) (omega arith) last, tt)
  one_more (x ∷ bs) j b own last = (
    own.0,
    one_more bs (suc j) b own.1 (subst (λ (i : ℕ). HashesPass (belongs (bucket_of n) i) b) (omega arith) last),
  )

set_front : (bs rest : List (List Held)) (i : ℕ) (b : List Held) → i < length bs
    → set (bs ++ rest) i b ≡ set bs i b ++ rest
set_front [] rest i b below = absurd (omega arith)
set_front (x ∷ bs) rest zero b below = refl
set_front (x ∷ bs) rest (suc i) b below =
    ap (λ (xs : List (List Held)). x ∷ xs) (set_front bs rest i b (omega (arith, below)))

-- the buckets, with one of them divided: the new one is pushed, and then the other one is replaced
module _ (bs mid new : List (List Held)) (n s : ℕ) (d stays goes : List Held) (count : n ≡ length bs)
    (at : s ≡ bucket_of n n) (below : s < n) (here : d ≡ get_or bs s []) (parts : Divides n d stays goes)
    (pushed : mid ≡ bs ++ goes ∷ []) (put : new ≡ set mid s stays) where
  within : s < length bs
  within = omega (arith, below, count)

  is : new ≡ set bs s stays ++ goes ∷ []
  is = put ∙ ap (λ (xs : List (List Held)). set xs s stays) pushed ∙ set_front bs (goes ∷ []) s stays within

  pub grown_own : AreInParts (bucket_of (length bs)) 0 bs → AreInParts (bucket_of (length new)) 0 new
  grown_own all =
      let own : AreInParts (bucket_of n) 0 bs =
      subst (λ (m : ℕ). AreInParts (bucket_of m) 0 bs) (sym count) all in
      let left = set bs s stays in
      let old : HashesPass (belongs (bucket_of n) s) d =
      subst (λ (xs : List Held). HashesPass (belongs (bucket_of n) s) xs) (sym here)
      (part_own (bucket_of n) bs 0 s s [] own within (omega arith)) in
      let kept = part_put (bucket_of n) bs 0 s s stays own within (omega arith)
      (parts.hashes (belongs (bucket_of n) s) old) in
      let len : length left ≡ n = length-set bs s stays ∙ sym count in
      let stay = stay_all n left 0 kept (λ i sum lt.
      let there : i ≡ s = omega (arith, sum, at) in
      let value : get_or left i [] ≡ stays =
      ap (λ (j : ℕ). get_or left j []) there ∙ get_or-set_same bs s stays [] within in
      subst (λ (xs : List Held). HashesPass (stays_on n) xs) (sym value) parts.old_ones) in
      let last : n ≡ 0 + length left = omega (arith, len) in
      let both = one_more (suc n) left 0 goes stay
      (subst (λ (j : ℕ). HashesPass (belongs (bucket_of (suc n)) j) goes) last parts.new) in
      let more : suc n ≡ length (left ++ goes ∷ []) = omega (arith, len, length-append left (goes ∷ [])) in
      subst (λ (xs : List (List Held)). AreInParts (bucket_of (length xs)) 0 xs) (sym is)
      (subst (λ (m : ℕ). AreInParts (bucket_of m) 0 (left ++ goes ∷ [])) more both)

  pub grown_shuffled : IsShuffled (places_in bs) (places_in new)
  grown_shuffled =
      let before = places_in (take s bs) in
      let after = places_in (drop (suc s) bs) in
      let turned = shuffled_right stays (goes ++ after) (after ++ goes) (shuffled_turned goes after) in
      let first = subst (λ (xs : List Held). IsShuffled (d ++ after) xs) (append_assoc stays goes after)
      (shuffled_left d (stays ++ goes) after parts.same) in
      let both = shuffled_then (d ++ after) (stays ++ (goes ++ after)) (stays ++ (after ++ goes)) first turned in
      let all = shuffled_right before (d ++ after) (stays ++ (after ++ goes)) both in
      let old : before ++ (d ++ after) ≡ places_in bs =
      ap (λ (xs : List Held). before ++ (xs ++ after)) here ∙ sym (places_split bs s [] within) in
      let now : before ++ (stays ++ (after ++ goes)) ≡ places_in new =
      ap (λ (xs : List Held). before ++ xs) (sym (append_assoc stays after goes))
      ∙ sym (append_assoc before (stays ++ after) goes)
      ∙ ap (λ (xs : List Held). xs ++ goes) (sym (places_set bs s stays within))
      ∙ ap (λ (xs : List Held). places_in (set bs s stays) ++ xs) (sym (append-nil goes))
      ∙ sym (flat_map-append (λ (b : List Held). b) (set bs s stays) (goes ∷ []))
      ∙ ap (λ (xs : List (List Held)). places_in xs) (sym is) in
      subst (λ (xs : List Held). IsShuffled (places_in bs) xs) now
      (subst (λ (xs : List Held). IsShuffled xs (before ++ (stays ++ (after ++ goes)))) old all)

-- ---- where it may fail

pub shuffled_either : {E : Type 0} (old new : List Held) (r : Result (Unit {0}) E) → OnOk r (IsShuffled old new)
    → OnErr r (new ≡ old) → IsShuffled old new
shuffled_either old new (Ok u) grown same = grown
shuffled_either old new (Err e) grown same =
    subst (λ (xs : List Held). IsShuffled old xs) (sym same) (shuffled_itself old)

pub same_on_err : {E : Type 0} (old new : List (List Held)) (i : ℕ) (r : Result (Unit {0}) E) → OnErr r (new ≡ old)
    → OnErr r (get_or new i [] ≡ get_or old i [])
same_on_err old new i (Ok u) same = same
same_on_err old new i (Err e) same = ap (λ (xs : List (List Held)). get_or xs i []) same
