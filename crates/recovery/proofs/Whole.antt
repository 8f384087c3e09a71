-- The plan of a sound state: its segments have different ids, and each of its keys has a partition.
use Rattle.std.proofs.Common.{◌≡◌, ℕ, suc, ◌+◌, ◌<◌, ◌≤◌, false, List, [], ◌∷◌, ◌++◌}
use Rattle.std.proofs.Common.{refl, sym, ap, subst, ◌∙◌, arith}
use Rattle.std.specs.Prelude.{map, ◌==◌, Option, Some, None, IsSomeAnd}
use Rattle.std.specs.List.{AllByRecursion, IsDistinct}
use Rattle.std.specs.List.Sorted.{IsStrictlyIncreasing}
use Rattle.std.proofs.lemmas.Bool.{ne_eqb}
use Rattle.std.proofs.lemmas.List.{map-append}
use Rattle.entry.specs.declared.entry.Header.{Header}
use Rattle.entry.specs.Bag.{IsAmong}
use Rattle.entry.specs.Text.{entries_in, header_in, listed_ids}
use Rattle.replica.specs.declared.holding.Holding.{Holding}
use Rattle.replica.specs.Choice.{Choice, IsUsableOf}
use Rattle.recovery_plan.specs.declared.chosen.Plan.{Plan}
use Rattle.recovery_plan.specs.Good.{IsGood}
use Rattle.recovery_plan.specs.Planned.{IsPlanOf}
use Rattle.recovery_plan.proofs.Digests.{digest-of}
use Rattle.rebuilding.specs.Rebuilds.{header_id, id_of, ids_of}

-- ---- ids that rise

rise_on : (x : ℕ) (xs : List ℕ) → IsStrictlyIncreasing (x ∷ xs) → IsStrictlyIncreasing xs
rise_on x xs rise k lt = let on : suc k + 1 ≡ suc (k + 1) = omega arith in rw on at (rise (suc k) (omega arith))

differ : (z x : ℕ) (xs : List ℕ) → z ≤ x → IsStrictlyIncreasing (x ∷ xs)
    → AllByRecursion (λ (y : ℕ). (z == y) ≡ false) xs
differ z x [] le rise = tt
differ z x (y ∷ ys) le rise =
    let next : x < y = rise 0 (omega arith) in
    (ne_eqb z y (λ same. omega arith), differ z y ys (omega arith) (rise_on x (y ∷ ys) rise))

pub distinct_risen : (ids : List ℕ) → IsStrictlyIncreasing ids → IsDistinct (λ (a b : ℕ). a == b) ids
unfolding IsDistinct
distinct_risen [] rise = tt
distinct_risen (x ∷ xs) rise = (differ x x xs (omega arith) rise, distinct_risen xs (rise_on x xs rise))

-- ---- the ids of a plan

header_named : (h : Option Header) (master segment : ℕ)
    → IsSomeAnd h (λ (header : Header). (header.master ≡ master) × (header.segment ≡ segment))
    → header_id h ≡ segment
header_named None master segment is = absurd is
header_named (Some h) master segment is = is.1

ids_named : (hs : List Holding) → AllByRecursion IsGood hs
    → map (λ (h : Holding). id_of (entries_in h.bytes)) hs ≡ map (λ (h : Holding). h.segment) hs
ids_named [] good = refl
ids_named (h ∷ hs) good =
    let first : id_of (entries_in h.bytes) ≡ h.segment =
    header_named (header_in h.bytes) h.master h.segment good.0.header in
    (λ i. first i ∷ ids_named hs good.1 i)

module _ (hs : List Holding) (least m : ℕ) (c : Choice) (plan : Plan) (is : IsPlanOf hs least m c plan) where
  head_good : IsGood c.head
  head_good = is.good c.head is.choice.held is.choice.of_master

  chosen_good : (xs : List Holding) → AllByRecursion (λ (h : Holding). IsAmong h hs × IsUsableOf m c.opening h) xs
      → AllByRecursion IsGood (xs ++ c.head ∷ [])
  chosen_good [] all = (head_good, tt)
  chosen_good (x ∷ xs) all = (is.good x all.0.0 all.0.1.0, chosen_good xs all.1)

  -- the ids of the segments are those of the digest
  ids_of_plan : ids_of plan.segments ≡ listed_ids c.opening.digest
  ids_of_plan =
      let chosen = c.others ++ c.head ∷ [] in
      ap ids_of is.segments ∙ map_map chosen ∙ ids_named chosen (chosen_good c.others is.choice.others)
      ∙ map-append (λ (h : Holding). h.segment) c.others (c.head ∷ []) ∙ is.choice.ids
    where
      map_map : (xs : List Holding) → map id_of (map (λ (h : Holding). entries_in h.bytes) xs)
          ≡ map (λ (h : Holding). id_of (entries_in h.bytes)) xs
      map_map [] = refl
      map_map (x ∷ xs) = ap (λ l. id_of (entries_in x.bytes) ∷ l) (map_map xs)

  pub ids_differ : IsDistinct (λ (a b : ℕ). a == b) (ids_of plan.segments)
  ids_differ =
      let rise = (digest-of c.head c.opening head_good is.choice.opening).rise in
      subst (IsDistinct (λ (a b : ℕ). a == b)) (sym ids_of_plan) (distinct_risen (listed_ids c.opening.digest) rise)
