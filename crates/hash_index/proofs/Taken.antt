-- The places in slots: what is found among them, and what a change of one slot does.
use Rattle.std.proofs.Common.{◌≡◌, ℕ, zero, suc, ◌+◌, ◌<◌, ◌≤◌, Bool, true, false, ◌&&◌, ◌||◌, ◌==◌, not, cond, List}
use Rattle.std.proofs.Common.{[], ◌∷◌, ◌++◌, length, get_or, set, take, drop, append_assoc, ltb-true, ltb-false, le-ltb}
use Rattle.std.proofs.Common.{refl, sym, ap, subst, ◌∙◌, arith, if◌then◌else◌}
use Rattle.std.specs.Prelude.{Option, Some, None, nat_lt}
use Rattle.std.specs.List.{AllByRecursion, list_any, position_or_len}
use Rattle.std.proofs.Math.Seq.{split_at}
use Rattle.std.proofs.lemmas.Bool.Decides.{Decides-eqb}
use Rattle.std.proofs.lemmas.List.{set_split}
use Rattle.std.proofs.lemmas.List.Elements.{filter-append}
use Rattle.std.proofs.lemmas.List.Folds.{list_any-append}
use Rattle.entry.specs.declared.key.Key.{Key}
use Rattle.places.specs.declared.place.Held.{Held}
use Rattle.places.specs.declared.place.Place.{Place}
use Rattle.places.specs.Lists.{tells, has_hash, is_of, is_same, found_in, IsTold, AreKeptIn, holds_in, relocated_in}
use Rattle.places.specs.Lists.{without}
use Rattle.places.proofs.Finding.{found_later, found_at}
use Rattle.places.proofs.FoundPlaces.{same_true, same_from}
use Rattle.place_index.specs.Steps.{HashesPass, BringsNoHash, IsShuffled}
use Rattle.place_index.proofs.Joining.{shuffled_right, shuffled_turned}
use Rattle.place_index.proofs.Relocating.{relocated_right}
use Rattle.place_index.proofs.Slots.{test_told}
use Rattle.place_index.proofs.TakingOut.{without_right}
use Rattle.entry.proofs.ListLemmas.{all_append, all_split}
use Rattle.hash_index.specs.Packing.{is_free, taken, IsPackable}

-- ---- a test that no slot passes

pub any_taken : (p : Held → Bool) (slots : List Held) → list_any p slots ≡ false → list_any p (taken slots) ≡ false
any_taken p [] none = refl
any_taken p (x ∷ xs) none = go (p x) refl (is_free x) refl (any_taken p xs)
  where
    go : (t : Bool) → p x ≡ t → (f : Bool) → is_free x ≡ f
        → (list_any p xs ≡ false → list_any p (taken xs) ≡ false) → list_any p (taken (x ∷ xs)) ≡ false
    go true so f is rest =
        let some : list_any p (x ∷ xs) ≡ true = ap (λ (b : Bool). b || list_any p xs) so in absurd (cc)
    go false isnt true is rest =
        ap (λ (b : Bool). list_any p (cond (not b) (x ∷ taken xs) (taken xs))) is
        ∙ rest (sym (ap (λ (b : Bool). b || list_any p xs) isnt) ∙ none)
    go false isnt false is rest =
        ap (λ (b : Bool). list_any p (cond (not b) (x ∷ taken xs) (taken xs))) is
        ∙ ap (λ (b : Bool). b || list_any p (taken xs)) isnt
        ∙ rest (sym (ap (λ (b : Bool). b || list_any p xs) isnt) ∙ none)

-- no slot before the first that passes does
pub none_before : (p : Held → Bool) (slots : List Held) (i : ℕ) → i ≤ position_or_len p slots
    → list_any p (take i slots) ≡ false
none_before p slots zero below = refl
none_before p [] (suc i) below = refl
none_before p (x ∷ xs) (suc i) below = go (p x) refl (none_before p xs i)
  where
    go : (t : Bool) → p x ≡ t → (i ≤ position_or_len p xs → list_any p (take i xs) ≡ false)
        → (p x || list_any p (take i xs)) ≡ false
    go true so rest =
        let first : position_or_len p (x ∷ xs) ≡ 0 =
        ap (λ (b : Bool). cond (not b) (1 + position_or_len p xs) 0) so in
        absurd (omega (arith, below, first))
    go false isnt rest =
        let more : position_or_len p (x ∷ xs) ≡ 1 + position_or_len p xs =
        ap (λ (b : Bool). cond (not b) (1 + position_or_len p xs) 0) isnt in
        ap (λ (b : Bool). b || list_any p (take i xs)) isnt ∙ rest (omega (arith, below, more))

pub take_all : (xs : List Held) (n : ℕ) → length xs ≤ n → take n xs ≡ xs
take_all [] zero le = refl
take_all [] (suc n) le = refl
take_all (x ∷ xs) zero le = absurd (omega (arith, le))
take_all (x ∷ xs) (suc n) le = ap (λ (ys : List Held). x ∷ ys) (take_all xs n (omega (arith, le)))

pub none_at_all : (p : Held → Bool) (slots : List Held) → length slots ≤ position_or_len p slots
    → list_any p slots ≡ false
none_at_all p slots past =
    ap (λ (xs : List Held). list_any p xs) (sym (take_all slots (length slots) (omega arith)))
    ∙ none_before p slots (length slots) past

-- what a test that is stricter passes
pub stricter : (p q : Held → Bool) → ((x : Held) → p x ≡ false → q x ≡ false) → (xs : List Held)
    → list_any p xs ≡ false → list_any q xs ≡ false
stricter p q less [] none = refl
stricter p q less (x ∷ xs) none = go (p x) refl (stricter p q less xs)
  where
    go : (t : Bool) → p x ≡ t → (list_any p xs ≡ false → list_any q xs ≡ false) → (q x || list_any q xs) ≡ false
    go true so rest = let some : list_any p (x ∷ xs) ≡ true = ap (λ (b : Bool). b || list_any p xs) so in absurd (cc)
    go false isnt rest =
        ap (λ (b : Bool). b || list_any q xs) (less x isnt)
        ∙ rest (sym (ap (λ (b : Bool). b || list_any p xs) isnt) ∙ none)

-- the test that passes at the first slot that passes
pub passes_at : (p : Held → Bool) (slots : List Held) (i : ℕ) (d : Held) → i ≡ position_or_len p slots
    → i < length slots
    → p (get_or slots i d) ≡ true
passes_at p [] i d is below = absurd (omega (arith, below))
passes_at p (x ∷ xs) i d is below = go (p x) refl i is below (passes_at p xs)
  where
    go : (t : Bool) → p x ≡ t → (j : ℕ) → j ≡ position_or_len p (x ∷ xs) → j < length (x ∷ xs)
        → ((k : ℕ) (e : Held) → k ≡ position_or_len p xs → k < length xs → p (get_or xs k e) ≡ true)
        → p (get_or (x ∷ xs) j d) ≡ true
    go true so j is below rest =
        let first : j ≡ 0 = is ∙ ap (λ (b : Bool). cond (not b) (1 + position_or_len p xs) 0) so in
        ap (λ (k : ℕ). p (get_or (x ∷ xs) k d)) first ∙ so
    go false isnt zero is below rest =
        let more : 0 ≡ 1 + position_or_len p xs =
        is ∙ ap (λ (b : Bool). cond (not b) (1 + position_or_len p xs) 0) isnt in
        absurd (omega (arith, more))
    go false isnt (suc j) is below rest =
        let more : suc j ≡ 1 + position_or_len p xs =
        is ∙ ap (λ (b : Bool). cond (not b) (1 + position_or_len p xs) 0) isnt in
        rest j d (omega (arith, more)) (omega (arith, below))

-- ---- one slot among the others

one_taken : (x : Held) (xs : List Held) → is_free x ≡ false → taken (x ∷ xs) ≡ x ∷ taken xs
one_taken x xs isnt = ap (λ (b : Bool). cond (not b) (x ∷ taken xs) (taken xs)) isnt

one_free : (x : Held) (xs : List Held) → is_free x ≡ true → taken (x ∷ xs) ≡ taken xs
one_free x xs is = ap (λ (b : Bool). cond (not b) (x ∷ taken xs) (taken xs)) is

module _ (slots : List Held) (i : ℕ) (below : i < length slots) where
  abbrev before : List Held
  before = taken (take i slots)

  abbrev after : List Held
  after = taken (drop (suc i) slots)

  parted : (x : Held) → taken (take i slots ++ x ∷ drop (suc i) slots) ≡ before ++ taken (x ∷ drop (suc i) slots)
  parted x = filter-append (λ (slot : Held). not (is_free slot)) (take i slots) (x ∷ drop (suc i) slots)

  pub taken_at : (d : Held) → is_free (get_or slots i d) ≡ false
      → taken slots ≡ before ++ get_or slots i d ∷ after
  taken_at d isnt =
      ap (λ (xs : List Held). taken xs) (split_at slots i d below)
      ∙ parted (get_or slots i d)
      ∙ ap (λ (xs : List Held). before ++ xs) (one_taken (get_or slots i d) (drop (suc i) slots) isnt)

  pub free_at : (d : Held) → is_free (get_or slots i d) ≡ true → taken slots ≡ before ++ after
  free_at d is =
      ap (λ (xs : List Held). taken xs) (split_at slots i d below)
      ∙ parted (get_or slots i d)
      ∙ ap (λ (xs : List Held). before ++ xs) (one_free (get_or slots i d) (drop (suc i) slots) is)

  pub taken_set : (x : Held) → is_free x ≡ false → taken (set slots i x) ≡ before ++ x ∷ after
  taken_set x isnt =
      ap (λ (xs : List Held). taken xs) (set_split slots i x below)
      ∙ parted x
      ∙ ap (λ (xs : List Held). before ++ xs) (one_taken x (drop (suc i) slots) isnt)

  pub free_set : (x : Held) → is_free x ≡ true → taken (set slots i x) ≡ before ++ after
  free_set x is =
      ap (λ (xs : List Held). taken xs) (set_split slots i x below)
      ∙ parted x
      ∙ ap (λ (xs : List Held). before ++ xs) (one_free x (drop (suc i) slots) is)

-- ---- a key among the slots

module _ (hash_of : Key → ℕ) (keys : Place → Option Key) (k : Key) (hash : ℕ) (of : hash ≡ hash_of k) where
  -- no place with the hash is the key's
  pub none_found : (hs : List Held) → AllByRecursion (IsTold hash_of keys) hs → list_any (is_of keys k hash) hs ≡ false
      → found_in keys k hs ≡ None
  none_found [] told none = refl
  none_found (h ∷ hs) told none = go (is_of keys k hash h) refl (none_found hs told.1)
    where
      go : (t : Bool) → is_of keys k hash h ≡ t
          → (list_any (is_of keys k hash) hs ≡ false → found_in keys k hs ≡ None) → found_in keys k (h ∷ hs) ≡ None
      go true so rest =
          let some : list_any (is_of keys k hash) (h ∷ hs) ≡ true =
          ap (λ (b : Bool). b || list_any (is_of keys k hash) hs) so in
          absurd (cc)
      go false isnt rest =
          found_later keys k h hs (test_told hash_of keys k hash h of told.0 isnt)
          ∙ rest (sym (ap (λ (b : Bool). b || list_any (is_of keys k hash) hs) isnt) ∙ none)

  pub none_hashed : (hs : List Held) → AllByRecursion (IsTold hash_of keys) hs → list_any (has_hash hash) hs ≡ false
      → found_in keys k hs ≡ None
  none_hashed hs told none =
      none_found hs told (stricter (has_hash hash) (is_of keys k hash)
      (λ x isnt. ap (λ (b : Bool). b && tells keys k x.place) isnt) hs none)

  -- a key that stands at a place that is taken is found there
  pub found_slot : (slots : List Held) (i : ℕ) (d : Held) → i < length slots → is_free (get_or slots i d) ≡ false
      → AreKeptIn hash_of keys (taken slots) → keys (get_or slots i d).place ≡ Some k
      → found_in keys k (taken slots) ≡ Some (get_or slots i d).place
  found_slot slots i d below isnt all there =
      let parts = taken_at slots i below d isnt in
      ap (λ (hs : List Held). found_in keys k hs) parts
      ∙ found_at keys k (taken (take i slots)) (taken (drop (suc i) slots)) (get_or slots i d)
      (subst (λ (hs : List Held). AreKeptIn hash_of keys hs) parts all) there

-- ---- a hash or a place that no slot can have

pub no_piece : (hash : ℕ) → (hash < 33554432 → hash < 512) → (slots : List Held) → AllByRecursion IsPackable slots
    → list_any (has_hash hash) (taken slots) ≡ false
no_piece hash small [] all = refl
no_piece hash small (x ∷ xs) all = go (is_free x) refl (x.hash == hash) refl (no_piece hash small xs all.1)
  where
    go : (f : Bool) → is_free x ≡ f → (t : Bool) → (x.hash == hash) ≡ t → list_any (has_hash hash) (taken xs) ≡ false
        → list_any (has_hash hash) (taken (x ∷ xs)) ≡ false
    go true is t same rest = ap (λ (hs : List Held). list_any (has_hash hash) hs) (one_free x xs is) ∙ rest
    go false isnt true same rest =
        let e = (Decides-eqb x.hash hash).0 same in
        let large = ltb-false x.hash 512 isnt in
        let low = small (subst (λ (n : ℕ). n < 33554432) e all.0.0) in
        absurd (omega (arith, e, large, low))
    go false isnt false other rest =
        ap (λ (hs : List Held). list_any (has_hash hash) hs) (one_taken x xs isnt)
        ∙ ap (λ (b : Bool). b || list_any (has_hash hash) (taken xs)) other ∙ rest

pub no_place : (h : Held) → (IsPackable h → h.hash < 512) → (slots : List Held) → AllByRecursion IsPackable slots
    → holds_in (taken slots) h ≡ false
no_place h small [] all = refl
no_place h small (x ∷ xs) all = go (is_free x) refl (is_same h x) refl (no_place h small xs all.1)
  where
    go : (f : Bool) → is_free x ≡ f → (t : Bool) → is_same h x ≡ t → holds_in (taken xs) h ≡ false
        → holds_in (taken (x ∷ xs)) h ≡ false
    go true is t same rest = ap (λ (hs : List Held). holds_in hs h) (one_free x xs is) ∙ rest
    go false isnt true same rest =
        let e = same_true h x same in
        let large = ltb-false x.hash 512 isnt in
        let low = small (subst (λ (y : Held). IsPackable y) e all.0) in
        let hash = ap (λ (y : Held). y.hash) e in
        absurd (omega (arith, hash, large, low))
    go false isnt false other rest =
        ap (λ (hs : List Held). holds_in hs h) (one_taken x xs isnt)
        ∙ ap (λ (b : Bool). b || holds_in (taken xs) h) other ∙ rest

-- ---- the first slot that has a place

module _ (h : Held) (slots : List Held) (i : ℕ) (first : i ≡ position_or_len (is_same h) slots) where
  pub lacks : length slots ≤ i → holds_in (taken slots) h ≡ false
  lacks past = any_taken (is_same h) slots (none_at_all (is_same h) slots (omega (arith, past, first)))

  module _ (below : i < length slots) where
    pub same_at : (d : Held) → get_or slots i d ≡ h
    same_at d = same_true h (get_or slots i d) (passes_at (is_same h) slots i d first below)

    not_before : holds_in (taken (take i slots)) h ≡ false
    not_before = any_taken (is_same h) (take i slots) (none_before (is_same h) slots i (omega (arith, first)))

    itself : is_same h h ≡ true
    itself = same_from h h refl refl

    module _ (taken_h : is_free h ≡ false) where
      parts : taken slots ≡ taken (take i slots) ++ h ∷ taken (drop (suc i) slots)
      parts =
          taken_at slots i below h (ap (λ (x : Held). is_free x) (same_at h) ∙ taken_h)
          ∙ ap (λ (x : Held). taken (take i slots) ++ x ∷ taken (drop (suc i) slots)) (same_at h)

      pub has : holds_in (taken slots) h ≡ true
      has =
          ap (λ (hs : List Held). holds_in hs h) parts
          ∙ list_any-append (is_same h) (taken (take i slots)) (h ∷ taken (drop (suc i) slots))
          ∙ ap (λ (b : Bool). b || holds_in (h ∷ taken (drop (suc i) slots)) h) not_before
          ∙ ap (λ (b : Bool). b || holds_in (taken (drop (suc i) slots)) h) itself

      pub moves : (to : Place)
          → taken (set slots i (record { hash = h.hash; place = to })) ≡ relocated_in h to (taken slots)
      moves to =
          let x : Held = record { hash = h.hash; place = to } in
          taken_set slots i below x taken_h
          ∙ ap (λ (hs : List Held). taken (take i slots) ++ hs) (sym (ap (λ (b : Bool).
          if b then x ∷ taken (drop (suc i) slots) else h ∷ relocated_in h to (taken (drop (suc i) slots))) itself))
          ∙ sym (relocated_right h to (taken (take i slots)) (h ∷ taken (drop (suc i) slots)) not_before)
          ∙ ap (λ (hs : List Held). relocated_in h to hs) (sym parts)

      pub leaves : (free : Held) → is_free free ≡ true → taken (set slots i free) ≡ without h (taken slots)
      leaves free is =
          free_set slots i below free is
          ∙ ap (λ (hs : List Held). taken (take i slots) ++ hs) (sym (ap (λ (b : Bool).
          if b then taken (drop (suc i) slots) else h ∷ without h (taken (drop (suc i) slots))) itself))
          ∙ sym (without_right h (taken (take i slots)) (h ∷ taken (drop (suc i) slots)) not_before)
          ∙ ap (λ (hs : List Held). without h hs) (sym parts)

-- ---- a free slot is filled

module _ (h : Held) (slots : List Held) (i : ℕ) (below : i < length slots) (d : Held)
    (is : is_free (get_or slots i d) ≡ true) (isnt : is_free h ≡ false) where
  abbrev first_ones : List Held
  first_ones = taken (take i slots)

  abbrev last_ones : List Held
  last_ones = taken (drop (suc i) slots)

  pub fills : IsShuffled (taken slots ++ h ∷ []) (taken (set slots i h))
  fills =
      let turned =
      shuffled_right first_ones (last_ones ++ h ∷ []) (h ∷ last_ones) (shuffled_turned last_ones (h ∷ [])) in
      let old : taken slots ++ h ∷ [] ≡ first_ones ++ (last_ones ++ h ∷ []) =
      ap (λ (hs : List Held). hs ++ h ∷ []) (free_at slots i below d is) ∙ append_assoc first_ones last_ones (h ∷ []) in
      subst (λ (hs : List Held). IsShuffled (taken slots ++ h ∷ []) hs) (sym (taken_set slots i below h isnt))
      (subst (λ (hs : List Held). IsShuffled hs (first_ones ++ h ∷ last_ones)) (sym old) turned)

  pub fills_brings : BringsNoHash (taken slots ++ h ∷ []) (taken (set slots i h))
  fills_brings p all =
      let P = λ (y : Held). p y.hash ≡ true in
      let parts = all_split P (taken slots) (h ∷ []) all in
      let olds = all_split P first_ones last_ones (subst (λ (hs : List Held). HashesPass p hs)
      (free_at slots i below d is) parts.0) in
      subst (λ (hs : List Held). HashesPass p hs) (sym (taken_set slots i below h isnt))
      (all_append P first_ones (h ∷ last_ones) olds.0 (parts.1.0, olds.1))

-- a tag that isn't 0 makes a hash of at least 512
pub not_free : (h : Held) → 512 ≤ h.hash → is_free h ≡ false
not_free h large = le-ltb h.hash 512 large

pub hashed_taken : (hash : ℕ) (h : Held) → 512 ≤ hash → has_hash hash h ≡ true → is_free h ≡ false
hashed_taken hash h large is =
    let e = (Decides-eqb h.hash hash).0 is in not_free h (omega (arith, large, e))

-- whether a slot has a place, by the first that has it
pub found_same : (h : Held) (slots : List Held) (i : ℕ) → i ≡ position_or_len (is_same h) slots → length slots ≡ 8
    → 512 ≤ h.hash → nat_lt i 8 ≡ holds_in (taken slots) h
found_same h slots i first len large = go (nat_lt i 8) refl
  where
    go : (b : Bool) → nat_lt i 8 ≡ b → nat_lt i 8 ≡ holds_in (taken slots) h
    go true so =
        let less = ltb-true i 8 so in
        so ∙ sym (has h slots i first (omega (arith, len, less)) (not_free h large))
    go false isnt =
        let past = ltb-false i 8 isnt in isnt ∙ sym (lacks h slots i first (omega (arith, len, past)))
