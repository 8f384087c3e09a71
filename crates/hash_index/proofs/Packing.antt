-- The slots of a bucket as a list of places.
use Rattle.std.proofs.Common.{◌≡◌, ℕ, zero, suc, ◌+◌, ◌-◌, ◌*◌, ◌/◌, ◌%◌, ◌<◌, ◌≤◌, Bool, true, false, ◌&&◌, ◌==◌, List}
use Rattle.std.proofs.Common.{[], ◌∷◌, length, get_or, set, drop, refl, sym, ap, ◌∙◌, arith, cond, not}
use Rattle.std.proofs.Common.{ltb-true, ltb-false}
use Rattle.std.proofs.Common.{if◌then◌else◌}
use Rattle.std.specs.List.{AllByRecursion, position_or_len}
use Rattle.std.proofs.lemmas.Bool.{and_parts, and_from}
use Rattle.std.proofs.Math.Dec.{eqb-suc-zero}
use Rattle.std.proofs.lemmas.Bool.Decides.{Decides-eqb}
use Rattle.places.specs.declared.place.Held.{Held}
use Rattle.places.specs.Lists.{has_hash, is_same}
use Rattle.hash_index.specs.Packing.{unpacked, slots_of, has_tag, has_low, is_free, AreWords, IsPackable}

pub slots_len : (m : ℕ) (ts xs ss : List ℕ) → length ts ≡ m → length xs ≡ m → length ss ≡ m
    → length (slots_of ts xs ss) ≡ m
slots_len m [] xs ss a b c = a
slots_len m (t ∷ ts) [] ss a b c = absurd (omega (arith, a, b))
slots_len m (t ∷ ts) (x ∷ xs) [] a b c = absurd (omega (arith, a, c))
slots_len zero (t ∷ ts) (x ∷ xs) (s ∷ ss) a b c = absurd (omega (arith, a))
slots_len (suc m) (t ∷ ts) (x ∷ xs) (s ∷ ss) a b c =
    ap (λ (k : ℕ). suc k) (slots_len m ts xs ss (omega (arith, a)) (omega (arith, b)) (omega (arith, c)))

pub slots_get : (ts xs ss : List ℕ) (i : ℕ) (d : Held) → i < length ts → i < length xs → i < length ss
    → get_or (slots_of ts xs ss) i d ≡ unpacked (get_or ts i 0) (get_or xs i 0) (get_or ss i 0)
slots_get [] xs ss i d a b c = absurd (omega (arith, a))
slots_get (t ∷ ts) [] ss i d a b c = absurd (omega (arith, b))
slots_get (t ∷ ts) (x ∷ xs) [] i d a b c = absurd (omega (arith, c))
slots_get (t ∷ ts) (x ∷ xs) (s ∷ ss) zero d a b c = refl
slots_get (t ∷ ts) (x ∷ xs) (s ∷ ss) (suc i) d a b c =
    slots_get ts xs ss i d (omega (arith, a)) (omega (arith, b)) (omega (arith, c))

pub slots_set : (ts xs ss : List ℕ) (i t x s : ℕ) → slots_of (set ts i t) (set xs i x) (set ss i s)
    ≡ set (slots_of ts xs ss) i (unpacked t x s)
slots_set [] xs ss i t x s = refl
slots_set (y ∷ ts) [] ss zero t x s = refl
slots_set (y ∷ ts) [] ss (suc i) t x s = refl
slots_set (y ∷ ts) (z ∷ xs) [] zero t x s = refl
slots_set (y ∷ ts) (z ∷ xs) [] (suc i) t x s = refl
slots_set (y ∷ ts) (z ∷ xs) (w ∷ ss) zero t x s = refl
slots_set (y ∷ ts) (z ∷ xs) (w ∷ ss) (suc i) t x s =
    ap (λ (hs : List Held). unpacked y z w ∷ hs) (slots_set ts xs ss i t x s)

-- a slot keeps its tag
pub slots_moved : (ts xs ss : List ℕ) (i x s : ℕ) → slots_of ts (set xs i x) (set ss i s)
    ≡ set (slots_of ts xs ss) i (unpacked (get_or ts i 0) x s)
slots_moved [] xs ss i x s = refl
slots_moved (y ∷ ts) [] ss zero x s = refl
slots_moved (y ∷ ts) [] ss (suc i) x s = refl
slots_moved (y ∷ ts) (z ∷ xs) [] zero x s = refl
slots_moved (y ∷ ts) (z ∷ xs) [] (suc i) x s = refl
slots_moved (y ∷ ts) (z ∷ xs) (w ∷ ss) zero x s = refl
slots_moved (y ∷ ts) (z ∷ xs) (w ∷ ss) (suc i) x s =
    ap (λ (hs : List Held). unpacked y z w ∷ hs) (slots_moved ts xs ss i x s)

-- ---- words

pub words_set : (most : ℕ) (xs : List ℕ) (i x : ℕ) → AreWords most xs → x < most → AreWords most (set xs i x)
words_set most [] i x all below = tt
words_set most (y ∷ xs) zero x all below = (below, all.1)
words_set most (y ∷ xs) (suc i) x all below = (all.0, words_set most xs i x all.1 below)

pub word_at : (most : ℕ) (xs : List ℕ) (i : ℕ) → AreWords most xs → 0 < most → get_or xs i 0 < most
word_at most [] i all some = some
word_at most (y ∷ xs) zero all some = all.0
word_at most (y ∷ xs) (suc i) all some = word_at most xs i all.1 some

pub packable : (ts xs ss : List ℕ) → AreWords 65536 ts → AreWords 4294967296 xs
    → AllByRecursion IsPackable (slots_of ts xs ss)
packable [] xs ss a b = tt
packable (t ∷ ts) [] ss a b = tt
packable (t ∷ ts) (x ∷ xs) [] a b = tt
packable (t ∷ ts) (x ∷ xs) (s ∷ ss) a b = ((omega (arith, a.0, b.0), omega arith), packable ts xs ss a.1 b.1)

-- ---- a walk from the end

-- what stands before a place of a list, from there on
pub position_step : (p : Held → Bool) (hs : List Held) (i : ℕ) (d : Held) → i < length hs
    → position_or_len p (drop i hs) ≡ (if p (get_or hs i d) then 0 else suc (position_or_len p (drop (suc i) hs)))
position_step p [] i d below = absurd (omega (arith, below))
position_step p (h ∷ hs) zero d below = go (p h)
  where
    go : (b : Bool) → cond (not b) (1 + position_or_len p hs) 0 ≡ (if b then 0 else suc (position_or_len p hs))
    go true = refl
    go false = omega arith
position_step p (h ∷ hs) (suc i) d below = position_step p hs i d (omega (arith, below))

-- ---- two packed places

-- two words are the same if their parts are
pub same_words : (t u x y : ℕ) → x < 4294967296 → y < 4294967296 → t * 512 + x / 8388608 ≡ u * 512 + y / 8388608
    → x % 8388608 ≡ y % 8388608 → (t ≡ u) × (x ≡ y)
same_words t u x y a b hash at = (omega (arith, a, b, hash, at), omega (arith, a, b, hash, at))

-- one slot more of a walk from the end
module _ (p : Held → Bool) (hs : List Held) (i : ℕ) (d : Held) (some : 0 < i) (below : i ≤ length hs) where
  next : suc (i - 1) ≡ i
  next = omega (arith, some)

  from_here : position_or_len p (drop (i - 1) hs)
      ≡ (if p (get_or hs (i - 1) d) then 0 else suc (position_or_len p (drop i hs)))
  from_here =
      position_step p hs (i - 1) d (omega (arith, some, below))
      ∙ ap (λ (j : ℕ). if p (get_or hs (i - 1) d) then 0 else suc (position_or_len p (drop j hs))) next

  pub step_found : p (get_or hs (i - 1) d) ≡ true → i - 1 ≡ i - 1 + position_or_len p (drop (i - 1) hs)
  step_found so =
      let none = from_here ∙ ap (λ (b : Bool). if b then 0 else suc (position_or_len p (drop i hs))) so in
      omega (arith, none)

  pub step_on : (found : ℕ) → p (get_or hs (i - 1) d) ≡ false → found ≡ i + position_or_len p (drop i hs)
      → found ≡ i - 1 + position_or_len p (drop (i - 1) hs)
  step_on found isnt is =
      let one = from_here ∙ ap (λ (b : Bool). if b then 0 else suc (position_or_len p (drop i hs))) isnt in
      omega (arith, one, is, some)

-- ---- the tests of a slot

and_is : (a b c : Bool) → (a ≡ true → b ≡ true → c ≡ true) → (c ≡ true → (a ≡ true) × (b ≡ true)) → (a && b) ≡ c
and_is true true c all parts = sym (all refl refl)
and_is true false true all parts = (parts refl).1
and_is true false false all parts = refl
and_is false b true all parts = (parts refl).0
and_is false b false all parts = refl

pub hashed_is : (t x s u low : ℕ) → x < 4294967296 → low < 512
    → (t == u && x / 8388608 == low) ≡ has_hash (u * 512 + low) (unpacked t x s)
hashed_is t x s u low a b =
    let first = Decides-eqb t u in
    let second = Decides-eqb (x / 8388608) low in
    let both = Decides-eqb (t * 512 + x / 8388608) (u * 512 + low) in
    and_is (t == u) (x / 8388608 == low) (t * 512 + x / 8388608 == u * 512 + low)
    (λ one two. both.1 (let e = first.0 one in let f = second.0 two in omega (arith, e, f)))
    (λ same. (let e = both.0 same in (first.1 (omega (arith, a, b, e)), second.1 (omega (arith, a, b, e)))))

pub same_is : (t x s u y r : ℕ) → x < 4294967296 → y < 4294967296
    → ((t == u && x == y) && s == r) ≡ is_same (unpacked u y r) (unpacked t x s)
same_is t x s u y r a b =
    let tags = Decides-eqb t u in
    let words = Decides-eqb x y in
    let segments = Decides-eqb s r in
    let hashes = Decides-eqb (t * 512 + x / 8388608) (u * 512 + y / 8388608) in
    let ats = Decides-eqb (x % 8388608) (y % 8388608) in
    and_is (t == u && x == y) (s == r)
    ((t * 512 + x / 8388608 == u * 512 + y / 8388608) && ((s == r) && (x % 8388608 == y % 8388608)))
    (λ one two. (let parts = and_parts (t == u) (x == y) one in
    let e = tags.0 parts.0 in let f = words.0 parts.1 in
    and_from (t * 512 + x / 8388608 == u * 512 + y / 8388608) ((s == r) && (x % 8388608 == y % 8388608))
    (hashes.1 (omega (arith, e, f)))
    (and_from (s == r) (x % 8388608 == y % 8388608) two (ats.1 (omega (arith, f))))))
    (λ same. (let parts = and_parts (t * 512 + x / 8388608 == u * 512 + y / 8388608)
    ((s == r) && (x % 8388608 == y % 8388608)) same in
    let places = and_parts (s == r) (x % 8388608 == y % 8388608) parts.1 in
    let is = same_words t u x y a b (hashes.0 parts.0) (ats.0 places.1) in
    (and_from (t == u) (x == y) (tags.1 is.0) (words.1 is.1), places.0)))

pub tagged_is : (t x s u : ℕ) → x < 4294967296 → (t == u) ≡ has_tag u (unpacked t x s)
tagged_is t x s u a =
    let tag : (t * 512 + x / 8388608) / 512 ≡ t = omega (arith, a) in
    ap (λ (y : ℕ). y == u) (sym tag)

-- the first of the tags is that of the first slot that has it
pub tag_slot : (tag : ℕ) (ts xs ss : List ℕ) → AreWords 4294967296 xs → length xs ≡ length ts
    → length ss ≡ length ts
    → position_or_len (λ (t : ℕ). t == tag) ts ≡ position_or_len (has_tag tag) (slots_of ts xs ss)
tag_slot tag [] xs ss all a b = refl
tag_slot tag (t ∷ ts) [] ss all a b = absurd (omega (arith, a))
tag_slot tag (t ∷ ts) (x ∷ xs) [] all a b = absurd (omega (arith, b))
tag_slot tag (t ∷ ts) (x ∷ xs) (s ∷ ss) all a b =
    ap (λ (c : Bool). cond (not c) (1 + position_or_len (λ (u : ℕ). u == tag) ts) 0) (tagged_is t x s tag all.0)
    ∙ ap (λ (n : ℕ). cond (not (has_tag tag (unpacked t x s))) (1 + n) 0)
    (tag_slot tag ts xs ss all.1 (omega (arith, a)) (omega (arith, b)))

pub low_is : (t x s low : ℕ) → x < 4294967296 → (x / 8388608 == low) ≡ has_low low (unpacked t x s)
low_is t x s low a =
    let rest : (t * 512 + x / 8388608) % 512 ≡ x / 8388608 = omega (arith, a) in
    ap (λ (y : ℕ). y == low) (sym rest)

-- a slot of the tag and the other bits of a hash has that hash
pub both_hashed : (tag low : ℕ) (h : Held) → has_tag tag h ≡ true → has_low low h ≡ true
    → has_hash (tag * 512 + low) h ≡ true
both_hashed tag low h is too =
    let upper = (Decides-eqb (h.hash / 512) tag).0 is in
    let rest = (Decides-eqb (h.hash % 512) low).0 too in
    (Decides-eqb h.hash (tag * 512 + low)).1 (omega (arith, upper, rest))

-- a slot of another tag has another place
pub not_same : (tag : ℕ) (sought h : Held) → sought.hash / 512 ≡ tag → has_tag tag h ≡ false → is_same sought h ≡ false
not_same tag sought h of isnt = go (h.hash == sought.hash) refl
  where
    go : (t : Bool) → (h.hash == sought.hash) ≡ t → is_same sought h ≡ false
    go true so =
        let hash = (Decides-eqb h.hash sought.hash).0 so in
        let there = (Decides-eqb (h.hash / 512) tag).1 (ap (λ (n : ℕ). n / 512) hash ∙ of) in
        absurd (cc)
    go false not =
        ap (λ (b : Bool). b && ((h.place.segment == sought.place.segment) && (h.place.at == sought.place.at))) not

-- a slot of another tag has another hash
pub untagged : (tag low : ℕ) (h : Held) → low < 512 → has_tag tag h ≡ false → has_hash (tag * 512 + low) h ≡ false
untagged tag low h small isnt = go (has_hash (tag * 512 + low) h) refl
  where
    go : (t : Bool) → has_hash (tag * 512 + low) h ≡ t → has_hash (tag * 512 + low) h ≡ false
    go true so =
        let hash = (Decides-eqb h.hash (tag * 512 + low)).0 so in
        let there = (Decides-eqb (h.hash / 512) tag).1 (omega (arith, hash, small)) in
        absurd (cc)
    go false not = not

-- ---- the first slot of two tests

-- if the first slot that passes one test passes a stricter one, it is the first to do so
pub first_stays : (p q : Held → Bool) → ((h : Held) → p h ≡ false → q h ≡ false) → (hs : List Held) (d : Held)
    → (position_or_len p hs < length hs → q (get_or hs (position_or_len p hs) d) ≡ true)
    → position_or_len p hs ≡ position_or_len q hs
first_stays p q less [] d met = refl
first_stays p q less (h ∷ hs) d met = go (p h) refl (first_stays p q less hs d)
  where
    go : (t : Bool) → p h ≡ t
        → ((position_or_len p hs < length hs → q (get_or hs (position_or_len p hs) d) ≡ true)
        → position_or_len p hs ≡ position_or_len q hs)
        → position_or_len p (h ∷ hs) ≡ position_or_len q (h ∷ hs)
    go true so rest =
        let first : position_or_len p (h ∷ hs) ≡ 0 =
        ap (λ (b : Bool). cond (not b) (1 + position_or_len p hs) 0) so in
        let here : q h ≡ true =
        sym (ap (λ (i : ℕ). q (get_or (h ∷ hs) i d)) first) ∙ met (omega (arith, first)) in
        first ∙ sym (ap (λ (b : Bool). cond (not b) (1 + position_or_len q hs) 0) here)
    go false isnt rest =
        let one : position_or_len p (h ∷ hs) ≡ 1 + position_or_len p hs =
        ap (λ (b : Bool). cond (not b) (1 + position_or_len p hs) 0) isnt in
        let other : position_or_len q (h ∷ hs) ≡ 1 + position_or_len q hs =
        ap (λ (b : Bool). cond (not b) (1 + position_or_len q hs) 0) (less h isnt) in
        let more : position_or_len p (h ∷ hs) ≡ suc (position_or_len p hs) = omega (arith, one) in
        let same = rest (λ below. sym (ap (λ (i : ℕ). q (get_or (h ∷ hs) i d)) more)
        ∙ met (omega (arith, below, one))) in
        omega (arith, one, other, same)

-- a slot of the tag 0 is free, and no other is
free_tag : (h : Held) → has_tag 0 h ≡ is_free h
free_tag h = go (is_free h) refl
  where
    go : (t : Bool) → is_free h ≡ t → has_tag 0 h ≡ t
    go true is =
        let small = ltb-true h.hash 512 is in
        (Decides-eqb (h.hash / 512) 0).1 (omega (arith, small))
    go false isnt =
        let large = ltb-false h.hash 512 isnt in
        let tag : suc (h.hash / 512 - 1) ≡ h.hash / 512 = omega (arith, large) in
        ap (λ (n : ℕ). n == 0) (sym tag) ∙ eqb-suc-zero (h.hash / 512 - 1)

-- the first slot of the tag 0 is the first that is free
pub free_slot : (hs : List Held) → position_or_len (has_tag 0) hs ≡ position_or_len is_free hs
free_slot [] = refl
free_slot (h ∷ hs) =
    ap (λ (c : Bool). cond (not c) (1 + position_or_len (has_tag 0) hs) 0) (free_tag h)
    ∙ ap (λ (n : ℕ). cond (not (is_free h)) (1 + n) 0) (free_slot hs)

-- ---- the slots as they are read

module _ (ts xs ss : List ℕ) (hs : List Held) (i : ℕ) (view : slots_of ts xs ss ≡ hs) (a : length ts ≡ 8)
    (b : length xs ≡ 8) (c : length ss ≡ 8) (below : i < 8) where
  pub read_slot : (d : Held) → get_or hs i d ≡ unpacked (get_or ts i 0) (get_or xs i 0) (get_or ss i 0)
  read_slot d =
      ap (λ (ys : List Held). get_or ys i d) (sym view)
      ∙ slots_get ts xs ss i d (omega (arith, a, below)) (omega (arith, b, below)) (omega (arith, c, below))

  pub read_len : length hs ≡ 8
  read_len = ap (λ (ys : List Held). length ys) (sym view) ∙ slots_len 8 ts xs ss a b c
