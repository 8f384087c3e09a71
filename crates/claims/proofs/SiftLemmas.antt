-- The scan of sorted claims, claim by claim: what the next claim adds to the objects.
use Rattle.std.proofs.Common.{◌≡◌, ◌-◌, ◌≤◌, ◌++◌, Bool, cond, true, false, List, [], ◌∷◌, length, get_or}
use Rattle.std.proofs.Common.{take, drop, map, refl, sym, ap, ◌∙◌, ◌⊎◌, inl, inr, append_assoc, arith}
use Rattle.std.specs.Prelude.{◌||◌, All, Some, None, not}
use Rattle.std.specs.List.{slice_get}
use Rattle.std.proofs.lemmas.Option.{same_Some}
use Rattle.entry.specs.Order.{key_eq}
use Rattle.std.proofs.lemmas.List.{take_rest}
use Rattle.std.proofs.lemmas.List.Elements.{All-push}
use Rattle.entry.specs.Format.{IsObject}
use Rattle.entry.specs.declared.entry.Object.{Object}
use Rattle.claims.specs.declared.claim.Claim.{Claim}
use Rattle.claims.specs.Claims.{Claimed, claimed, is_clash, is_last, next_clashes}
use Rattle.claims.specs.Claims.{has_clash, tops, object_of, objects_in}

-- what is left of them behind the first
abbrev pub behind : List Claim → List Claim
behind xs = take (length xs - 1) (drop 1 xs)

module _ (c : Claimed) (cs : List Claimed) where
  passed_over : is_last c cs ≡ false ⊎ c.dead ≡ true → objects_in (tops (c ∷ cs)) ≡ objects_in (tops cs)
  passed_over (inl early) = rw early refl
  passed_over (inr dead) = by_last (is_last c cs)
    where
      by_last : (b : Bool) → objects_in (cond b (c ∷ tops cs) (tops cs)) ≡ objects_in (tops cs)
      by_last true = rw dead refl
      by_last false = refl

  taken_in : is_last c cs ≡ true → c.dead ≡ false → objects_in (tops (c ∷ cs)) ≡ object_of c ∷ objects_in (tops cs)
  taken_in last alive = rw (last, alive) refl

first_cut : (xs : List Claim) (x : Claim) → 1 ≤ length xs → x ≡ get_or xs 0 x
    → map claimed xs ≡ claimed x ∷ map claimed (behind xs)
first_cut [] x some first = absurd (omega arith)
first_cut (y ∷ ys) x some first = rw (take_rest) (ap (λ (c : Claim). claimed c ∷ map claimed ys) (sym first))

module _ (xs : List Claim) (x : Claim) (some : 1 ≤ length xs) (first : x ≡ get_or xs 0 x) where
  -- a claim that is not its key's last, or a tombstone's, adds no object
  pub passed : (os all : List Object) → is_last (claimed x) (map claimed (behind xs)) ≡ false ⊎ x.dead ≡ true →
      os ++ objects_in (tops (map claimed xs)) ≡ all →
      os ++ objects_in (tops (map claimed (behind xs))) ≡ all
  passed os all which held =
      ap (λ (more : List Object). os ++ more)
      (sym (ap (λ (cs : List Claimed). objects_in (tops cs)) (first_cut xs x some first)
      ∙ passed_over (claimed x) (map claimed (behind xs)) which)) ∙ held

  -- the last of its key adds its object
  pub taken : (os now all : List Object) (o : Object) → is_last (claimed x) (map claimed (behind xs)) ≡ true
      → x.dead ≡ false →
      now ≡ os ++ o ∷ [] → o ≡ object_of (claimed x) →
      os ++ objects_in (tops (map claimed xs)) ≡ all →
      now ++ objects_in (tops (map claimed (behind xs))) ≡ all
  taken os now all o last alive pushed is held =
      ap (λ (front : List Object). front ++ objects_in (tops (map claimed (behind xs))))
      (pushed ∙ ap (λ (p : Object). os ++ p ∷ []) is)
      ∙ append_assoc os (object_of (claimed x) ∷ []) (objects_in (tops (map claimed (behind xs))))
      ∙ ap (λ (more : List Object). os ++ more)
      (sym (ap (λ (cs : List Claimed). objects_in (tops cs)) (first_cut xs x some first)
      ∙ taken_in (claimed x) (map claimed (behind xs)) last alive))
      ∙ held

  pub unclashed_first : (b : Bool) → next_clashes (claimed x) (map claimed (behind xs)) ≡ false
      → has_clash (map claimed xs) ≡ b →
      has_clash (map claimed (behind xs)) ≡ b
  unclashed_first b none held =
      sym (ap has_clash (first_cut xs x some first) ∙ ap (λ (c : Bool). c || has_clash
      (map claimed (behind xs))) none) ∙ held

  pub clashed_first : (b : Bool) → next_clashes (claimed x) (map claimed (behind xs)) ≡ true
      → has_clash (map claimed xs) ≡ b → b ≡ true
  clashed_first b first_two held =
      sym held ∙ ap has_clash (first_cut xs x some first)
      ∙ ap (λ (c : Bool). c || has_clash (map claimed (behind xs))) first_two

pub all_valid : (os now : List Object) (o p : Object) → All IsObject os → IsObject p → now ≡ os ++ o ∷ [] → o ≡ p
    → All IsObject now
all_valid os now o p held valid pushed is = rw (pushed, is) (All-push IsObject os p held valid)

-- the first of the later claims, as a slice hands it out
module _ (d : Claimed) where
  pub next_is : (later : List Claim) (next : Claim) → Some next ≡ slice_get later 0
      → next_clashes d (map claimed later) ≡ is_clash d (claimed next)
  next_is [] next first = absurd (cc)
  next_is (x ∷ xs) next first = ap (λ (y : Claim). is_clash d (claimed y)) (same_Some x next (sym first))

  pub last_is : (later : List Claim) (next : Claim) → Some next ≡ slice_get later 0
      → is_last d (map claimed later) ≡ not (key_eq d.key (claimed next).key)
  last_is [] next first = absurd (cc)
  last_is (x ∷ xs) next first = ap (λ (y : Claim). not (key_eq d.key (claimed y).key)) (same_Some x next (sym first))

  pub none_later : (later : List Claim) → None ≡ slice_get later 0
      → (is_last d (map claimed later) ≡ true) × (next_clashes d (map claimed later) ≡ false)
  none_later [] first = (refl, refl)
  none_later (x ∷ xs) first = absurd (cc)
