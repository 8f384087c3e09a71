-- The digest of the next head: ids that leave it, and ids that come in.
use Rattle.std.proofs.Common.{◌≡◌, ℕ, zero, suc, ◌+◌, ◌<◌, ◌≤◌, ◌⊎◌, inl, inr, Bool, true, false, cond, List, [], ◌∷◌}
use Rattle.std.proofs.Common.{◌++◌, length, drop, refl}
use Rattle.std.proofs.Common.{sym, ap, ◌∙◌, add-one, append_assoc, arith}
use Rattle.std.specs.Prelude.{Option, Some, None, slice_get, nat_lt, ◌==◌, ◌||◌}
use Rattle.std.specs.List.{list_any}
use Rattle.std.specs.List.Sorted.{IsStrictlyIncreasing}
use Rattle.std.specs.Option.{option_map, option_map_or}
use Rattle.std.proofs.lemmas.Bool.{lt-ltb, le-ltb}
use Rattle.std.proofs.lemmas.List.{length-append, drop_all}
use Rattle.std.proofs.lemmas.Option.{same_Some}
use Rattle.entry.specs.declared.digest.Digest.{Digest}
use Rattle.entry.specs.declared.digest.Digest.TheVariants as digest
use Rattle.entry.specs.Bag.{IsAmong}
use Rattle.entry.specs.Text.{Opening}
use Rattle.entry.proofs.LengthLemmas.{rises_behind}
use Rattle.log_laws.specs.Ids.{has, inserted, all_inserted, without}
use Rattle.log_head.specs.Head.{digest_of}
use Rattle.log_head.specs.Laws.{OrdinaryKeeps}

-- ---- ordinary rolls

pub without_none : (ids : List ℕ) → without [] ids ≡ ids
without_none [] = refl
without_none (s ∷ ids) = ap (λ (l : List ℕ). s ∷ l) (without_none ids)

pub ordinary_keeps : OrdinaryKeeps
ordinary_keeps h id safe = without_none (digest_of h.image)

-- ---- victims

pub has_any : (victims : List ℕ) (id : ℕ) → list_any (λ (y : ℕ). y == id) victims ≡ has victims id
has_any [] id = refl
has_any (v ∷ victims) id = ap (λ (b : Bool). (v == id) || b) (has_any victims id)

-- the ids from a place on
pub drop_next : (ids : List ℕ) (place id : ℕ) → slice_get ids place ≡ Some id
    → drop place ids ≡ id ∷ drop (place + 1) ids
drop_next ids place id is = rw add-one (go ids place is) where
  go : (ys : List ℕ) (n : ℕ) → slice_get ys n ≡ Some id → drop n ys ≡ id ∷ drop (suc n) ys
  go [] n is = absurd (cc)
  go (y ∷ ys) zero is = ap (λ (z : ℕ). z ∷ ys) (same_Some y id is)
  go (y ∷ ys) (suc n) is = go ys n is

-- what is left from a place on, if its id is a victim's or isn't
module _ (victims ids : List ℕ) (place id : ℕ) (is : slice_get ids place ≡ Some id) where
  pub left_same : has victims id ≡ true → without victims (drop place ids) ≡ without victims (drop (place + 1) ids)
  left_same victim = ap (without victims) (drop_next ids place id is) ∙ rw victim refl

  pub left_next : has victims id ≡ false → without victims (drop place ids)
      ≡ id ∷ without victims (drop (place + 1) ids)
  left_next other = ap (without victims) (drop_next ids place id is) ∙ rw other refl

-- ---- the ids that wait

-- what rises goes on above its first
pub above_first : (s : ℕ) (more : List ℕ) → IsStrictlyIncreasing (s ∷ more) → (x : ℕ) → IsAmong x more → s < x
above_first s [] rise x never = absurd never
above_first s (z ∷ more) rise x (inl same) = let here : s < z = rise 0 (omega arith) in omega arith
above_first s (z ∷ more) rise x (inr m) =
    let here : s < z = rise 0 (omega arith) in
    let later = above_first z more (rises_behind s (z ∷ more) rise) x m in omega arith

pub inserted_out : (s : ℕ) (ids : List ℕ) (x : ℕ) → IsAmong x (inserted s ids) → (s ≡ x) ⊎ IsAmong x ids
inserted_out s [] x m = m
inserted_out s (z ∷ ids) x m = go (nat_lt s z) (λ l. inserted_out s ids x l) m where
  go : (b : Bool) → (IsAmong x (inserted s ids) → (s ≡ x) ⊎ IsAmong x ids)
      → IsAmong x (cond b (s ∷ z ∷ ids) (z ∷ inserted s ids)) → (s ≡ x) ⊎ ((z ≡ x) ⊎ IsAmong x ids)
  go true later l = l
  go false later (inl same) = inr (inl same)
  go false later (inr l) = elim (later l) [ inl same ↦ inl same | inr rest ↦ inr (inr rest) ]

pub all_out : (more ids : List ℕ) (x : ℕ) → IsAmong x (all_inserted more ids) → IsAmong x ids ⊎ IsAmong x more
all_out [] ids x m = inl m
all_out (s ∷ more) ids x m = elim (inserted_out s (all_inserted more ids) x m) [
  | inl same ↦ inr (inl same)
  | inr l ↦ elim (all_out more ids x l) [ inl old ↦ inl old | inr rest ↦ inr (inr rest) ]
]

-- s is below the first of these
abbrev IsBelow : ℕ → List ℕ → Type 0
IsBelow s [] = Unit {0}
IsBelow s (z ∷ ids) = s < z

below_inserted : (s m : ℕ) (ids : List ℕ) → s < m → IsBelow s ids → IsBelow s (inserted m ids)
below_inserted s m [] lt below = lt
below_inserted s m (z ∷ ids) lt below = go (nat_lt m z) where
  go : (b : Bool) → IsBelow s (cond b (m ∷ z ∷ ids) (z ∷ inserted m ids))
  go true = lt
  go false = below

below_all : (s : ℕ) (more ids : List ℕ) → ((x : ℕ) → IsAmong x more → s < x) → IsBelow s ids
    → IsBelow s (all_inserted more ids)
below_all s [] ids lt below = below
below_all s (m ∷ more) ids lt below =
    below_inserted s m (all_inserted more ids) (lt m (inl refl)) (below_all s more ids (λ x l. lt x (inr l)) below)

inserted_first : (s : ℕ) (ids : List ℕ) → IsBelow s ids → inserted s ids ≡ s ∷ ids
inserted_first s [] below = refl
inserted_first s (z ∷ ids) below = let test = lt-ltb s z below in rw test refl

-- of the ids that wait the first comes before this one, if it is less
pub first_waits : (s id : ℕ) (more rest : List ℕ) → IsStrictlyIncreasing (s ∷ more) → s < id
    → all_inserted (s ∷ more) (id ∷ rest) ≡ s ∷ all_inserted more (id ∷ rest)
first_waits s id more rest rise lt =
    inserted_first s (all_inserted more (id ∷ rest)) (below_all s more (id ∷ rest) (above_first s more rise) lt)

-- none of them comes before this one, if the first doesn't
pub none_waits : (id : ℕ) (waits rest : List ℕ) → ((x : ℕ) → IsAmong x waits → id ≤ x)
    → all_inserted waits (id ∷ rest) ≡ id ∷ all_inserted waits rest
none_waits id [] rest above = refl
none_waits id (s ∷ more) rest above =
    let test : nat_lt s id ≡ false = le-ltb s id (above s (inl refl)) in
    ap (inserted s) (none_waits id more rest (λ x m. above x (inr m))) ∙ rw test refl

-- they are all that is left at the end
pub alone : (waits : List ℕ) → IsStrictlyIncreasing waits → all_inserted waits [] ≡ waits
alone [] rise = refl
alone (s ∷ more) rise =
    inserted_first s (all_inserted more []) (below_all s more [] (above_first s more rise) tt)
    ∙ ap (λ (l : List ℕ). s ∷ l) (alone more (rises_behind s more rise))

length_inserted : (s : ℕ) (ids : List ℕ) → length (inserted s ids) ≡ suc (length ids)
length_inserted s [] = refl
length_inserted s (z ∷ ids) = go (length_inserted s ids) (nat_lt s z) where
  go : length (inserted s ids) ≡ suc (length ids) → (b : Bool)
      → length (cond b (s ∷ z ∷ ids) (z ∷ inserted s ids)) ≡ suc (suc (length ids))
  go later true = refl
  go later false = ap suc later

pub length_with : (more ids : List ℕ) → length (all_inserted more ids) ≡ length ids + length more
length_with [] ids = omega arith
length_with (s ∷ more) ids =
    let here = length_inserted s (all_inserted more ids) in
    let rest = length_with more ids in omega (arith, here, rest)

-- ---- what was pushed, what waits and what is to come

-- what is to come from this place on
abbrev pub coming : List ℕ → List ℕ → List ℕ → ℕ → List ℕ
coming victims ids waits place = all_inserted waits (without victims (drop place ids))

-- Up to this place the ids were pushed, with room for what is to come and one more.
pub record IsPushed (victims ids survivors pushed waits : List ℕ) (place room : ℕ) : Type 0 where
  pub all : pushed ++ coming victims ids waits place ≡ coming victims ids survivors 0
  pub fits : length (without victims ids) + length survivors + 1 ≤ room
  pub rise : IsStrictlyIncreasing waits

pub pushed_begins : (victims ids survivors pushed : List ℕ) (room : ℕ) → pushed ≡ [] → IsStrictlyIncreasing survivors
    → length (without victims ids) + length survivors + 1 ≤ room
    → IsPushed victims ids survivors pushed survivors 0 room
pushed_begins victims ids survivors pushed room none rise fits =
    record { all = ap (λ (l : List ℕ). l ++ coming victims ids survivors 0) none; fits = fits; rise = rise }

module _ (victims ids survivors pushed waits : List ℕ) (place room : ℕ)
    (is : IsPushed victims ids survivors pushed waits place room) where
  -- what was pushed and what is to come have room, and one more
  has_room : (xs more : List ℕ) → xs ++ more ≡ coming victims ids survivors 0 → length xs + length more + 1 ≤ room
  has_room xs more all =
      let sum : length xs + length more ≡ length (without victims ids) + length survivors =
      sym (length-append xs more) ∙ ap length all ∙ length_with survivors (without victims ids) in
      let fits = is.fits in
      omega arith

  pub waits_fits : length pushed + length waits < room
  waits_fits =
      let fits = has_room pushed (coming victims ids waits place) is.all in
      let size = length_with waits (without victims (drop place ids)) in
      omega arith

  pub pushed_fits : length (pushed ++ waits) < room
  pushed_fits =
      let fits = waits_fits in
      let size = length-append pushed waits in
      omega arith

  -- behind the last place only the ids that wait are to come
  module _ (end : length ids ≤ place) where
    pub pushed_all : pushed ++ waits ≡ coming victims ids survivors 0
    pushed_all =
        ap (λ (l : List ℕ). pushed ++ l)
        (sym (ap (λ (l : List ℕ). all_inserted waits (without victims l)) (drop_all place ids end)
        ∙ alone waits is.rise))
        ∙ is.all

  -- a turn with this id
  module _ (id : ℕ) (at : slice_get ids place ≡ Some id) where
    pub pushed_victim : has victims id ≡ true → IsPushed victims ids survivors pushed waits (place + 1) room
    pushed_victim victim = record {
      all = ap (λ (l : List ℕ). pushed ++ all_inserted waits l) (sym (left_same victims ids place id at victim))
          ∙ is.all;
      fits = is.fits;
      rise = is.rise;
    }

    -- xs are what was pushed, with the ids that waited and are less than this one
    module _ (other : has victims id ≡ false) (xs still : List ℕ)
        (step : (rest : List ℕ) → xs ++ id ∷ all_inserted still rest ≡ pushed ++ all_inserted waits (id ∷ rest)) where
      all : xs ++ id ∷ coming victims ids still (place + 1) ≡ coming victims ids survivors 0
      all =
          step (without victims (drop (place + 1) ids))
          ∙ ap (λ (l : List ℕ). pushed ++ all_inserted waits l) (sym (left_next victims ids place id at other))
          ∙ is.all

      pub id_fits : length xs < room
      id_fits = let fits = has_room xs (id ∷ coming victims ids still (place + 1)) all in omega arith

      pub pushed_other : IsStrictlyIncreasing still
          → IsPushed victims ids survivors (xs ++ id ∷ []) still (place + 1) room
      pushed_other rise = record {
        all = append_assoc xs (id ∷ []) (coming victims ids still (place + 1)) ∙ all;
        fits = is.fits;
        rise = rise;
      }

-- ---- the digest in force

pub digest_some : (o : Option Opening) (d : Digest) → Some d ≡ option_map (λ (o : Opening). o.digest) o
    → option_map_or (λ (o : Opening). o.digest) o (digest.Ids []) ≡ d
digest_some None d is = absurd (cc)
digest_some (Some o) d is = sym (same_Some d o.digest is)

pub digest_none : (o : Option Opening) → None ≡ option_map (λ (o : Opening). o.digest) o
    → option_map_or (λ (o : Opening). o.digest) o (digest.Ids []) ≡ digest.Ids []
digest_none None is = refl
digest_none (Some o) is = absurd (cc)
