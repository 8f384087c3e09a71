-- The parts of a table: where the places of a key are, and what a change of one part does.
use Rattle.std.proofs.Common.{◌≡◌, ℕ, zero, suc, ◌+◌, ◌<◌, Bool, true, false, ◌||◌, List, [], ◌∷◌, ◌++◌, length, get_or}
use Rattle.std.proofs.Common.{set, take, drop, length-set, append_assoc, refl, sym, ap, subst, ◌∙◌, arith}
use Rattle.std.specs.Prelude.{◌==◌, Option, Some, None, Result, Ok, Err, OnOk, OnErr}
use Rattle.std.specs.List.{AllByRecursion}
use Rattle.std.proofs.Math.Seq.{split_at}
use Rattle.std.proofs.lemmas.List.{set_split, take_more, append-nil}
use Rattle.std.proofs.lemmas.Grind.{flat_map-append}
use Rattle.std.proofs.lemmas.Bool.Decides.{Decides-eqb}
use Rattle.entry.specs.declared.key.Key.{Key}
use Rattle.entry.proofs.ListLemmas.{all_append, all_split}
use Rattle.places.specs.declared.place.Place.{Place}
use Rattle.places.specs.declared.place.Held.{Held}
use Rattle.places.specs.Lists.{tells, found_in, IsTold, AreKeptIn, is_same, is_same_place, holds_in, relocated_in}
use Rattle.places.specs.Lists.{without}
use Rattle.places.proofs.Finding.{tells_is, found_later}
use Rattle.place_index.specs.Steps.{HashesPass, BringsNoHash, IsShuffled}
use Rattle.place_index.specs.Parted.{belongs, places_in, AreInParts}
use Rattle.place_index.proofs.Joining.{found_left, found_right, kept_left, kept_right, shuffled_then, shuffled_left}
use Rattle.place_index.proofs.Joining.{shuffled_right, shuffled_turned}
use Rattle.place_index.proofs.Relocating.{both_first, or_false, holds_append, lacks_both, relocated_left}
use Rattle.place_index.proofs.Relocating.{relocated_right}
use Rattle.place_index.proofs.TakingOut.{without_left, without_right}

-- ---- one part among the others

pub places_split : (cs : List (List Held)) (i : ℕ) (d : List Held) → i < length cs
    → places_in cs ≡ places_in (take i cs) ++ ((get_or cs i d) ++ places_in (drop (suc i) cs))
places_split cs i d below =
    ap (λ (xs : List (List Held)). places_in xs) (split_at cs i d below)
    ∙ flat_map-append (λ (c : List Held). c) (take i cs) (get_or cs i d ∷ drop (suc i) cs)

pub places_set : (cs : List (List Held)) (i : ℕ) (c : List Held) → i < length cs
    → places_in (set cs i c) ≡ places_in (take i cs) ++ (c ++ places_in (drop (suc i) cs))
places_set cs i c below =
    ap (λ (xs : List (List Held)). places_in xs) (set_split cs i c below)
    ∙ flat_map-append (λ (x : List Held). x) (take i cs) (c ∷ drop (suc i) cs)

module _ (part_of : ℕ → ℕ) where
  -- what a part holds_in is its own
  pub part_own : (cs : List (List Held)) (j i t : ℕ) (d : List Held) → AreInParts part_of j cs → i < length cs
      → j + i ≡ t
      → HashesPass (belongs part_of t) (get_or cs i d)
  part_own [] j i t d all below sum = absurd (omega arith)
  part_own (c ∷ cs) j zero t d all below sum =
      let same : j ≡ t = omega arith in
      subst (λ (x : ℕ). HashesPass (belongs part_of x) c) same all.0
  part_own (c ∷ cs) j (suc i) t d all below sum = part_own cs (suc j) i t d all.1 (omega arith) (omega arith)

  pub part_put : (cs : List (List Held)) (j i t : ℕ) (c : List Held) → AreInParts part_of j cs → i < length cs
      → j + i ≡ t
      → HashesPass (belongs part_of t) c → AreInParts part_of j (set cs i c)
  part_put [] j i t c all below sum own = absurd (omega arith)
  part_put (x ∷ cs) j zero t c all below sum own =
      let same : t ≡ j = omega arith in
      (subst (λ (y : ℕ). HashesPass (belongs part_of y) c) same own, all.1)
  part_put (x ∷ cs) j (suc i) t c all below sum own = (
    all.0,
    part_put cs (suc j) i t c all.1 (omega arith) (omega arith) own,
  )

module _ (hash_of : Key → ℕ) (keys : Place → Option Key) (k : Key) (part_of : ℕ → ℕ) (t : ℕ)
    (at : t ≡ part_of (hash_of k)) where
  -- another part has no place of the key
  other_part : (hs : List Held) (j : ℕ) → HashesPass (belongs part_of j) hs → AllByRecursion (IsTold hash_of keys) hs
      → (j ≡ t → ⊥)
      → found_in keys k hs ≡ None
  other_part [] j own told other = refl
  other_part (h ∷ hs) j own told other = go (tells keys k h.place) refl (other_part hs j own.1 told.1 other)
    where
      go : (b : Bool) → tells keys k h.place ≡ b → found_in keys k hs ≡ None → found_in keys k (h ∷ hs) ≡ None
      go true so rest =
          let both : Some told.0.0 ≡ Some k = sym told.0.1 ∙ tells_is keys k h.place so in
          let same : told.0.0 ≡ k = cc in
          let hashes : h.hash ≡ hash_of k = told.0.2 ∙ ap (λ (x : Key). hash_of x) same in
          let here : part_of h.hash ≡ j = (Decides-eqb (part_of h.hash) j).0 own.0 in
          absurd (other (sym here ∙ ap part_of hashes ∙ sym at))
      go false isnt rest = found_later keys k h hs isnt ∙ rest

  none_above : (cs : List (List Held)) (j : ℕ) → AreInParts part_of j cs
      → AllByRecursion (IsTold hash_of keys) (places_in cs) → t < j
      → found_in keys k (places_in cs) ≡ None
  none_above [] j all told above = refl
  none_above (c ∷ cs) j all told above =
      let parts = all_split (IsTold hash_of keys) c (places_in cs) told in
      found_right keys k c (places_in cs) (other_part c j all.0 parts.0 (λ same. omega arith))
      ∙ none_above cs (suc j) all.1 parts.1 (omega arith)

  -- the parts before the key's have no place of it
  none_before : (cs : List (List Held)) (j i : ℕ) → AreInParts part_of j cs
      → AllByRecursion (IsTold hash_of keys) (places_in cs)
      → j + i ≡ t → found_in keys k (places_in (take i cs)) ≡ None
  none_before cs j zero all told sum = refl
  none_before [] j (suc i) all told sum = refl
  none_before (c ∷ cs) j (suc i) all told sum =
      let parts = all_split (IsTold hash_of keys) c (places_in cs) told in
      found_right keys k c (places_in (take i cs)) (other_part c j all.0 parts.0 (λ same. omega arith))
      ∙ none_before cs (suc j) i all.1 parts.1 (omega arith)

  -- nor have those after it
  none_after : (cs : List (List Held)) (j i : ℕ) → AreInParts part_of j cs
      → AllByRecursion (IsTold hash_of keys) (places_in cs)
      → j + i ≡ t → found_in keys k (places_in (drop (suc i) cs)) ≡ None
  none_after [] j i all told sum = refl
  none_after (c ∷ cs) j zero all told sum =
      none_above cs (suc j) all.1 (all_split (IsTold hash_of keys) c (places_in cs) told).1 (omega arith)
  none_after (c ∷ cs) j (suc i) all told sum =
      none_after cs (suc j) i all.1 (all_split (IsTold hash_of keys) c (places_in cs) told).1 (omega arith)

  module _ (cs : List (List Held)) (own : AreInParts part_of 0 cs) (below : t < length cs) where
    none_low : AreKeptIn hash_of keys (places_in cs) → found_in keys k (places_in (take t cs)) ≡ None
    none_low all = none_before cs 0 t own all.told (omega arith)

    none_high : AreKeptIn hash_of keys (places_in cs) → found_in keys k (places_in (drop (suc t) cs)) ≡ None
    none_high all = none_after cs 0 t own all.told (omega arith)

    kept_split : (d : List Held) → AreKeptIn hash_of keys (places_in cs)
        → AreKeptIn hash_of keys (places_in (take t cs) ++ ((get_or cs t d) ++ places_in (drop (suc t) cs)))
    kept_split d all = subst (λ (xs : List Held). AreKeptIn hash_of keys xs) (places_split cs t d below) all

    kept_rest : (d : List Held) → AreKeptIn hash_of keys (places_in cs)
        → AreKeptIn hash_of keys ((get_or cs t d) ++ places_in (drop (suc t) cs))
    kept_rest d all = kept_right keys (places_in (take t cs)) ((get_or cs t d) ++ places_in (drop (suc t) cs))
        (kept_split d all)

    pub kept_part : (d : List Held) → AreKeptIn hash_of keys (places_in cs) → AreKeptIn hash_of keys (get_or cs t d)
    kept_part d all = kept_left keys (get_or cs t d) (places_in (drop (suc t) cs)) (kept_rest d all)

    -- what is found is found in the key's part
    pub found_part : (d : List Held) → AreKeptIn hash_of keys (places_in cs)
        → found_in keys k (places_in cs) ≡ found_in keys k (get_or cs t d)
    found_part d all =
        ap (λ (xs : List Held). found_in keys k xs) (places_split cs t d below)
        ∙ found_right keys k (places_in (take t cs)) ((get_or cs t d) ++ places_in
        (drop (suc t) cs)) (none_low all)
        ∙ found_left keys k (get_or cs t d) (places_in (drop (suc t) cs)) (none_high all)

-- ---- a part that was changed is still its own

pub own_put : (part_among : ℕ → ℕ → ℕ) (cs : List (List Held)) (i : ℕ) (c : List Held)
    → AreInParts (part_among (length cs)) 0 cs → i < length cs
    → HashesPass (belongs (part_among (length cs)) i) c → AreInParts (part_among (length (set cs i c))) 0 (set cs i c)
own_put part_among cs i c own below pass =
    subst (λ (n : ℕ). AreInParts (part_among n) 0 (set cs i c)) (sym (length-set cs i c))
    (part_put (part_among (length cs)) cs 0 i i c own below (omega arith) pass)

pub own_brings : (part_among : ℕ → ℕ → ℕ) (cs : List (List Held)) (i : ℕ) (d c : List Held)
    → AreInParts (part_among (length cs)) 0 cs → i < length cs
    → BringsNoHash (get_or cs i d) c → AreInParts (part_among (length (set cs i c))) 0 (set cs i c)
own_brings part_among cs i d c own below brings =
    own_put part_among cs i c own below
    (brings (belongs (part_among (length cs)) i)
    (part_own (part_among (length cs)) cs 0 i i d own below (omega arith)))

pub own_pushed : (part_among : ℕ → ℕ → ℕ) (cs : List (List Held)) (i : ℕ) (d c : List Held) (h : Held)
    → AreInParts (part_among (length cs)) 0 cs
    → i < length cs → i ≡ part_among (length cs) h.hash → BringsNoHash ((get_or cs i d) ++ h ∷ []) c
    → AreInParts (part_among (length (set cs i c))) 0 (set cs i c)
own_pushed part_among cs i d c h own below at brings =
    let P = λ (y : Held). belongs (part_among (length cs)) i y.hash ≡ true in
    let there : belongs (part_among (length cs)) i h.hash ≡ true =
    (Decides-eqb (part_among (length cs) h.hash) i).1 (sym at) in
    let all = all_append P (get_or cs i d) (h ∷ []) (part_own (part_among (length cs)) cs 0 i i d own below
    (omega arith)) (there, tt) in
    own_put part_among cs i c own below (brings (belongs (part_among (length cs)) i) all)

pub own_result : {E : Type 0} (part_among : ℕ → ℕ → ℕ) (cs : List (List Held)) (i : ℕ) (d c : List Held) (h : Held)
    (r : Result (Unit {0}) E)
    → AreInParts (part_among (length cs)) 0 cs → i < length cs → i ≡ part_among (length cs) h.hash
    → OnOk r (BringsNoHash ((get_or cs i d) ++ h ∷ []) c) → OnErr r (c ≡ get_or cs i d)
    → AreInParts (part_among (length (set cs i c))) 0 (set cs i c)
own_result part_among cs i d c h (Ok u) own below at brings same = own_pushed part_among cs i d c h own below at brings
own_result part_among cs i d c h (Err e) own below at brings same =
    own_brings part_among cs i d c own below
    (λ p all. subst (λ (v : List Held). HashesPass p v) (sym same) all)

pub pushed_part : (cs : List (List Held)) (i : ℕ) (d c : List Held) (h : Held) → i < length cs
    → IsShuffled ((get_or cs i d) ++ h ∷ []) c → IsShuffled (places_in cs ++ h ∷ []) (places_in (set cs i c))
pushed_part cs i d c h below pushed =
    let before = places_in (take i cs) in
    let after = places_in (drop (suc i) cs) in
    let x = (get_or cs i d) in
    let turned = shuffled_right x (after ++ h ∷ []) (h ∷ after) (shuffled_turned after (h ∷ [])) in
    let within = subst (λ (xs : List Held). IsShuffled xs (c ++ after)) (append_assoc x (h ∷ []) after)
    (shuffled_left (x ++ h ∷ []) c after pushed) in
    let inner = shuffled_then (x ++ (after ++ h ∷ [])) (x ++ h ∷ after) (c ++ after) turned within in
    let whole = shuffled_right before (x ++ (after ++ h ∷ [])) (c ++ after) inner in
    let old : places_in cs ++ h ∷ [] ≡ before ++ (x ++ (after ++ h ∷ [])) =
    ap (λ (xs : List Held). xs ++ h ∷ []) (places_split cs i d below)
    ∙ append_assoc before (x ++ after) (h ∷ [])
    ∙ ap (λ (xs : List Held). before ++ xs) (append_assoc x after (h ∷ [])) in
    let from = subst (λ (xs : List Held). IsShuffled xs (before ++ (c ++ after))) (sym old) whole in
    subst (λ (xs : List Held). IsShuffled (places_in cs ++ h ∷ []) xs) (sym (places_set cs i c below)) from

pub pushed_result : {E : Type 0} (cs : List (List Held)) (i : ℕ) (d c : List Held) (h : Held) (r : Result (Unit {0}) E)
    → i < length cs → OnOk r (IsShuffled ((get_or cs i d) ++ h ∷ []) c)
    → OnOk r (IsShuffled (places_in cs ++ h ∷ []) (places_in (set cs i c)))
pushed_result cs i d c h (Ok u) below pushed = pushed_part cs i d c h below pushed
pushed_result cs i d c h (Err e) below pushed = pushed

-- parts of no places
pub own_empty : (part_of : ℕ → ℕ) (j : ℕ) (cs : List (List Held)) → places_in cs ≡ [] → AreInParts part_of j cs
own_empty part_of j [] none = tt
own_empty part_of j (c ∷ cs) none = go c none (own_empty part_of (suc j) cs)
  where
    go : (hs : List Held) → hs ++ places_in cs ≡ [] → (places_in cs ≡ [] → AreInParts part_of (suc j) cs)
        → HashesPass (belongs part_of j) hs × AreInParts part_of (suc j) cs
    go [] is rest = (tt, rest is)
    go (h ∷ hs) is rest = absurd (cc)

-- one more of the parts
pub shuffled_part : (start mid new : List Held) (cs : List (List Held)) (i : ℕ) (d : List Held) → i < length cs
    → IsShuffled (start ++ places_in (take i cs)) mid → IsShuffled (mid ++ (get_or cs i d)) new
    → IsShuffled (start ++ places_in (take (i + 1) cs)) new
shuffled_part start mid new cs i d below before one =
    let x = get_or cs i d in
    let first = places_in (take i cs) in
    let more : places_in (take (i + 1) cs) ≡ first ++ x =
    ap (λ (ys : List (List Held)). places_in ys) (take_more cs i d below)
    ∙ flat_map-append (λ (c : List Held). c) (take i cs) (x ∷ [])
    ∙ ap (λ (xs : List Held). first ++ xs) (append-nil x) in
    let same : start ++ places_in (take (i + 1) cs) ≡ (start ++ first) ++ x =
    ap (λ (xs : List Held). start ++ xs) more ∙ sym (append_assoc start first x) in
    subst (λ (xs : List Held). IsShuffled xs new) (sym same)
    (shuffled_then ((start ++ first) ++ x) (mid ++ x) new
    (shuffled_left (start ++ first) mid x before) one)

-- ---- a place that moves, or is taken out

module _ (h : Held) where
  module _ (part_of : ℕ → ℕ) (t : ℕ) (at : t ≡ part_of h.hash) where
    other_lacks : (hs : List Held) (j : ℕ) → HashesPass (belongs part_of j) hs → (j ≡ t → ⊥) → holds_in hs h ≡ false
    other_lacks [] j own other = refl
    other_lacks (g ∷ gs) j own other = go (is_same h g) refl (other_lacks gs j own.1 other)
      where
        go : (b : Bool) → is_same h g ≡ b → holds_in gs h ≡ false → holds_in (g ∷ gs) h ≡ false
        go true so rest =
            let same : g.hash ≡ h.hash = (Decides-eqb g.hash h.hash).0
            (both_first (g.hash == h.hash) (is_same_place h.place g.place) so) in
            let part : part_of g.hash ≡ j = (Decides-eqb (part_of g.hash) j).0 own.0 in
            absurd (other (sym part ∙ ap part_of same ∙ sym at))
        go false isnt rest = ap (λ (b : Bool). b || holds_in gs h) isnt ∙ rest

    above_lacks : (cs : List (List Held)) (j : ℕ) → AreInParts part_of j cs → t < j → holds_in (places_in cs) h ≡ false
    above_lacks [] j all above = refl
    above_lacks (c ∷ cs) j all above =
        lacks_both h c (places_in cs) (other_lacks c j all.0 (λ same. omega arith))
        (above_lacks cs (suc j) all.1 (omega arith))

    pub before_lacks : (cs : List (List Held)) (j i : ℕ) → AreInParts part_of j cs → j + i ≡ t
        → holds_in (places_in (take i cs)) h ≡ false
    before_lacks cs j zero all sum = refl
    before_lacks [] j (suc i) all sum = refl
    before_lacks (c ∷ cs) j (suc i) all sum =
        lacks_both h c (places_in (take i cs)) (other_lacks c j all.0 (λ same. omega arith))
        (before_lacks cs (suc j) i all.1 (omega arith))

    pub after_lacks : (cs : List (List Held)) (j i : ℕ) → AreInParts part_of j cs → j + i ≡ t
        → holds_in (places_in (drop (suc i) cs)) h ≡ false
    after_lacks [] j i all sum = refl
    after_lacks (c ∷ cs) j zero all sum = above_lacks cs (suc j) all.1 (omega arith)
    after_lacks (c ∷ cs) j (suc i) all sum = after_lacks cs (suc j) i all.1 (omega arith)

    module _ (cs : List (List Held)) (own : AreInParts part_of 0 cs) (below : t < length cs) (d : List Held) where
      -- it is held if its part holds_in it
      pub holds_part : holds_in (places_in cs) h ≡ holds_in (get_or cs t d) h
      holds_part =
          let before = places_in (take t cs) in
          let after = places_in (drop (suc t) cs) in
          let x = (get_or cs t d) in
          ap (λ (xs : List Held). holds_in xs h) (places_split cs t d below)
          ∙ holds_append h before (x ++ after)
          ∙ ap (λ (b : Bool). b || holds_in (x ++ after) h) (before_lacks cs 0 t own (omega arith))
          ∙ holds_append h x after
          ∙ ap (λ (b : Bool). holds_in x h || b) (after_lacks cs 0 t own (omega arith))
          ∙ or_false (holds_in x h)

      -- it moves in its part
      pub relocated_part : (to : Place) (c : List Held) → c ≡ relocated_in h to (get_or cs t d)
          → places_in (set cs t c) ≡ relocated_in h to (places_in cs)
      relocated_part to c moved =
          let before = places_in (take t cs) in
          let after = places_in (drop (suc t) cs) in
          let x = (get_or cs t d) in
          places_set cs t c below
          ∙ ap (λ (xs : List Held). before ++ (xs ++ after)) moved
          ∙ ap (λ (xs : List Held). before ++ xs) (sym (relocated_left h to x after
          (after_lacks cs 0 t own (omega arith))))
          ∙ sym (relocated_right h to before (x ++ after) (before_lacks cs 0 t own (omega arith)))
          ∙ ap (λ (xs : List Held). relocated_in h to xs) (sym (places_split cs t d below))

  -- it is taken out of its part
  pub without_part : (part_of : ℕ → ℕ) (t : ℕ) → t ≡ part_of h.hash → (cs : List (List Held))
      → AreInParts part_of 0 cs → t < length cs
      → (d c : List Held) → c ≡ without h (get_or cs t d) → places_in (set cs t c) ≡ without h (places_in cs)
  without_part part_of t at cs own below d c taken =
      let before = places_in (take t cs) in
      let after = places_in (drop (suc t) cs) in
      let x = (get_or cs t d) in
      places_set cs t c below
      ∙ ap (λ (xs : List Held). before ++ (xs ++ after)) taken
      ∙ ap (λ (xs : List Held). before ++ xs) (sym (without_left h x after
      (after_lacks part_of t at cs 0 t own (omega arith))))
      ∙ sym (without_right h before (x ++ after) (before_lacks part_of t at cs 0 t own (omega arith)))
      ∙ ap (λ (xs : List Held). without h xs) (sym (places_split cs t d below))
