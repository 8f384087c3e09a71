-- Members of lists of ids and of backups, and lengths of a head's fronts.
use Rattle.std.proofs.Common.{◌≡◌, ℕ, zero, suc, ◌+◌, ◌<◌, ◌≤◌, ◌⊎◌, inl, inr, Bool, true, false, cond, List, [], ◌∷◌}
use Rattle.std.proofs.Common.{◌++◌, length, map, take, Some, refl, sym, ap, subst, ◌∙◌, arith}
use Rattle.std.specs.Prelude.{Option, None, IsSome, ◌==◌, ◌||◌, nat_lt}
use Rattle.std.proofs.lemmas.Bool.{cases_eq, cases_Bool}
use Rattle.std.proofs.lemmas.Bool.Decides.{nat_tests}
use Rattle.std.proofs.lemmas.List.{length-append}
use Rattle.std.proofs.lemmas.Grind.{flat_map-append}
use Rattle.entry.specs.declared.entry.Entry.{Entry}
use Rattle.entry.specs.Bag.{IsAmong}
use Rattle.entry.specs.Format.{spelling}
use Rattle.entry.specs.Text.{text_of}
use Rattle.entry.proofs.TextLemmas.{spelling-some}
use Rattle.log_laws.specs.Heads.{LogUnit, entries_of, fewest}
use Rattle.log_laws.specs.Ids.{has, without}
use Rattle.log_laws.specs.Text.{length_of}
use Rattle.log_laws.specs.Data.{Head, front}
use Rattle.log_laws.specs.Steps.{with_taken, with_count}

-- ---- tests of members

pub both_ways : (b : Bool) → b ≡ true → b ≡ false → ⊥
both_ways b is isn't = let never : true ≡ false = sym is ∙ isn't in cc

pub has_here : (b : ℕ) (bs : List ℕ) → has (b ∷ bs) b ≡ true
has_here b bs = let t : (b == b) ≡ true = grind (arith, nat_tests) in rw t refl

pub has_there : (b c : ℕ) (bs : List ℕ) → has bs c ≡ true → has (b ∷ bs) c ≡ true
has_there b c bs is = go (b == c) is where
  go : (t : Bool) → has bs c ≡ true → (t || has bs c) ≡ true
  go true is = refl
  go false is = is

pub has_other : (b c : ℕ) (bs : List ℕ) → (c ≡ b → ⊥) → has (b ∷ bs) c ≡ has bs c
has_other b c bs other = let t : (b == c) ≡ false = grind (arith, nat_tests) in rw t refl

pub has_either : (b c : ℕ) (bs : List ℕ) → has (b ∷ bs) c ≡ true → (c ≡ b) ⊎ (has bs c ≡ true)
has_either b c bs is = elim (cases_eq c b) as (λ _. (c ≡ b) ⊎ (has bs c ≡ true)) [
  | inl same ↦ inl same
  | inr other ↦ inr (sym (has_other b c bs other) ∙ is)
]

-- one that isn't among more isn't among fewer
pub has_fewer : (b c : ℕ) (bs : List ℕ) → has (b ∷ bs) c ≡ false → has bs c ≡ false
has_fewer b c bs none = elim (cases_Bool (has bs c)) as (λ _. has bs c ≡ false) [
  | inl there ↦ absurd (both_ways (has (b ∷ bs) c) (has_there b c bs there) none)
  | inr away ↦ away
]

-- a list that isn't empty has some member
pub some_member : (bs : List ℕ) → 0 < length bs → (b : ℕ) × (has bs b ≡ true)
some_member [] lt = absurd (omega arith)
some_member (b ∷ bs) lt = (b, has_here b bs)

-- ---- the fewest

pub fewest_of : (units : ℕ) (f : ℕ → ℕ) (bs : List ℕ) (b : ℕ) → has bs b ≡ true → fewest units (map f bs) ≤ f b
fewest_of units f [] b is = absurd (cc)
fewest_of units f (c ∷ bs) b is = elim (has_either c b bs is) as (λ _. fewest units (map f (c ∷ bs)) ≤ f b) [
  | inl same ↦ (let e : f b ≡ f c = ap f same in omega arith)
  | inr later ↦ (let le = fewest_of units f bs b later in omega arith)
]

pub fewest_units : (units : ℕ) (f : ℕ → ℕ) (bs : List ℕ) → fewest units (map f bs) ≤ units
fewest_units units f [] = omega arith
fewest_units units f (c ∷ bs) = let le = fewest_units units f bs in omega arith

-- counts that are no lower have no lower fewest
pub fewest_more : (a b : ℕ) (f g : ℕ → ℕ) (bs : List ℕ) → a ≤ b → ((c : ℕ) → has bs c ≡ true → f c ≤ g c)
    → fewest a (map f bs) ≤ fewest b (map g bs)
fewest_more a b f g [] le each = le
fewest_more a b f g (c ∷ bs) le each =
    let here = each c (has_here c bs) in
    let later = fewest_more a b f g bs le (λ x is. each x (has_there c x bs is)) in omega arith

-- ---- options

pub some_is : {A : Type 0} (o : Option A) → IsSome o → (r : A) × (o ≡ Some r)
some_is None h = absurd (cc)
some_is (Some r) h = (r, refl)

pub is_some : {A : Type 0} (o : Option A) (r : A) → o ≡ Some r → IsSome o
is_some o r e = subst IsSome (sym e) refl

-- ---- fronts

text_append : (xs ys : List Entry) → text_of (xs ++ ys) ≡ text_of xs ++ text_of ys
text_append xs ys = flat_map-append spelling xs ys

-- the bytes of some entries
abbrev pub bytes_of : List Entry → ℕ
bytes_of es = length (text_of es)

pub bytes_append : (xs ys : List Entry) → bytes_of (xs ++ ys) ≡ bytes_of xs + bytes_of ys
bytes_append xs ys = ap length (text_append xs ys) ∙ length-append (text_of xs) (text_of ys)

bytes_some : (es : List Entry) → (es ≡ [] → ⊥) → 0 < bytes_of es
bytes_some [] some = absurd (some refl)
bytes_some (e ∷ es) some =
    let one = spelling-some e in
    let all = length-append (spelling e) (text_of es) in omega arith

-- each unit has some entry
abbrev pub AreSome : List LogUnit → Type 0
AreSome us = (u : LogUnit) → IsAmong u us → u.entries ≡ [] → ⊥

pub front_less : (us : List LogUnit) (k j : ℕ) → AreSome us → k < j → j ≤ length us
    → bytes_of (entries_of (take k us)) < bytes_of (entries_of (take j us))
front_less us k zero some lt le = absurd (omega arith)
front_less [] k (suc j) some lt le = absurd (omega arith)
front_less (u ∷ us) zero (suc j) some lt le =
    let here = bytes_some u.entries (some u (inl refl)) in
    let all = bytes_append u.entries (entries_of (take j us)) in omega arith
front_less (u ∷ us) (suc k) (suc j) some lt le =
    let rest = front_less us k j (λ v m. some v (inr m)) (omega arith) (omega arith) in
    let one = bytes_append u.entries (entries_of (take k us)) in
    let two = bytes_append u.entries (entries_of (take j us)) in omega arith

-- a front with fewer units is shorter
pub front_shorter : (h : Head) (k j : ℕ) → AreSome h.units → k < j → j ≤ length h.units
    → length_of (front h k) < length_of (front h j)
front_shorter h k j some lt le =
    let less = front_less h.units k j some lt le in
    let one = bytes_append h.loaded (entries_of (take k h.units)) in
    let two = bytes_append h.loaded (entries_of (take j h.units)) in omega arith

-- ---- what was taken, and counts

pub with_taken_same : (took : ℕ → List ℕ) (id b : ℕ) → with_taken took id b id ≡ b ∷ took id
with_taken_same took id b = let t : (id == id) ≡ true = grind (arith, nat_tests) in rw t refl

pub with_taken_other : (took : ℕ → List ℕ) (id b s : ℕ) → (s ≡ id → ⊥) → with_taken took id b s ≡ took s
with_taken_other took id b s other = let t : (s == id) ≡ false = grind (arith, nat_tests) in rw t refl

-- who had taken it has
pub taken_still : (took : ℕ → List ℕ) (id b s c : ℕ) → has (took s) c ≡ true → has (with_taken took id b s) c ≡ true
taken_still took id b s c is = elim (cases_eq s id) as (λ _. has (with_taken took id b s) c ≡ true) [
  | inl same ↦ (
      let here : with_taken took id b s ≡ b ∷ took s =
      ap (with_taken took id b) same ∙ with_taken_same took id b ∙ ap (λ (t : ℕ). b ∷ took t) (sym same) in
      ap (λ (l : List ℕ). has l c) here ∙ has_there b c (took s) is)
  | inr other ↦ ap (λ (l : List ℕ). has l c) (with_taken_other took id b s other) ∙ is
]

-- who has taken it had, or is the one
pub taken_either : (took : ℕ → List ℕ) (id b s c : ℕ) → has (with_taken took id b s) c ≡ true
    → ((s ≡ id) × (c ≡ b)) ⊎ (has (took s) c ≡ true)
taken_either took id b s c is = elim (cases_eq s id) as (λ _. ((s ≡ id) × (c ≡ b)) ⊎ (has (took s) c ≡ true)) [
  | inl same ↦ (
      let here : with_taken took id b s ≡ b ∷ took s =
      ap (with_taken took id b) same ∙ with_taken_same took id b ∙ ap (λ (t : ℕ). b ∷ took t) (sym same) in
      elim (has_either b c (took s) (sym (ap (λ (l : List ℕ). has l c) here) ∙ is))
      as (λ _. ((s ≡ id) × (c ≡ b)) ⊎ (has (took s) c ≡ true)) [ inl one ↦ inl (same, one) | inr old ↦ inr old ])
  | inr other ↦ inr (sym (ap (λ (l : List ℕ). has l c) (with_taken_other took id b s other)) ∙ is)
]

pub taken_longer : (took : ℕ → List ℕ) (id b s : ℕ) → length (took s) ≤ length (with_taken took id b s)
taken_longer took id b s = elim (cases_eq s id) as (λ _. length (took s) ≤ length (with_taken took id b s)) [
  | inl same ↦ (
      let here : length (with_taken took id b s) ≡ suc (length (took s)) =
      ap (λ (t : ℕ). length (with_taken took id b t)) same ∙ ap length (with_taken_same took id b)
      ∙ ap (λ (t : ℕ). suc (length (took t))) (sym same) in omega arith)
  | inr other ↦ (let here = ap length (with_taken_other took id b s other) in omega arith)
]

pub count_same : (counts : ℕ → ℕ) (b n : ℕ) → with_count counts b n b ≡ n
count_same counts b n = let t : (b == b) ≡ true = grind (arith, nat_tests) in rw t refl

pub count_other : (counts : ℕ → ℕ) (b n c : ℕ) → (c ≡ b → ⊥) → with_count counts b n c ≡ counts c
count_other counts b n c other = let t : (c == b) ≡ false = grind (arith, nat_tests) in rw t refl

pub count_within : (counts : ℕ → ℕ) (b n most : ℕ) → n ≤ most → ((c : ℕ) → counts c ≤ most) → (c : ℕ)
    → with_count counts b n c ≤ most
count_within counts b n most le each c = elim (cases_eq c b) as (λ _. with_count counts b n c ≤ most) [
  | inl same ↦ (let is : with_count counts b n c ≡ n = ap (with_count counts b n) same ∙ count_same counts b n in
      omega arith)
  | inr other ↦ (let is = count_other counts b n c other in let old = each c in omega arith)
]

-- one of those left is one of all, and hasn't failed
pub without_has : (failed bs : List ℕ) (b : ℕ) → has (without failed bs) b ≡ true
    → (has bs b ≡ true) × (has failed b ≡ false)
without_has failed [] b is = absurd (cc)
without_has failed (x ∷ bs) b is = go (has failed x) refl (λ m. without_has failed bs b m) is where
  go : (t : Bool) → has failed x ≡ t
      → (has (without failed bs) b ≡ true → (has bs b ≡ true) × (has failed b ≡ false))
      → has (cond t (without failed bs) (x ∷ without failed bs)) b ≡ true
      → (has (x ∷ bs) b ≡ true) × (has failed b ≡ false)
  go true at more m = let rest = more m in (has_there x b bs rest.0, rest.1)
  go false at more m = elim (has_either x b (without failed bs) m)
      as (λ _. (has (x ∷ bs) b ≡ true) × (has failed b ≡ false)) [
        | inl same ↦ (
          subst (λ (y : ℕ). has (x ∷ bs) y ≡ true) (sym same) (has_here x bs),
          ap (has failed) same ∙ at,
        )
        | inr later ↦ (let rest = more later in (has_there x b bs rest.0, rest.1))
      ]
