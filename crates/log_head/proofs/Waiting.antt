-- Which of some waiting segments, whose ids rise, come before an id.
use Rattle.std.proofs.Common.{◌≡◌, ℕ, ◌-◌, ◌<◌, ◌≤◌, inl, inr, List, [], ◌∷◌, ◌++◌, length, take, drop, get_or, sym, ap}
use Rattle.std.proofs.Common.{subst, ◌∙◌, append_assoc, arith}
use Rattle.std.specs.List.Sorted.{IsStrictlyIncreasing}
use Rattle.std.proofs.lemmas.List.{take_rest}
use Rattle.entry.specs.declared.digest.Listed.{Listed}
use Rattle.entry.specs.Bag.{IsAmong}
use Rattle.entry.specs.Limits.{ids_in}
use Rattle.entry.proofs.LengthLemmas.{rises_behind}
use Rattle.log_laws.specs.Ids.{all_inserted}
use Rattle.log_head.specs.Steps.{AreListedBy}
use Rattle.log_head.proofs.Digests.{above_first, first_waits, none_waits}

-- the first of them, and those behind it
abbrev pub first_of : List Listed → Listed
first_of waits = get_or waits 0 (record { id = 0; len = 0 })

abbrev pub behind : List Listed → List Listed
behind waits = take (length waits - 1) (drop 1 waits)

pub first_behind : (waits : List Listed) → 1 ≤ length waits → waits ≡ first_of waits ∷ behind waits
first_behind [] some = absurd (omega arith)
first_behind (x ∷ xs) some = ap (λ (ss : List Listed). x ∷ ss) (sym (take_rest (x ∷ xs) 1))

module _ (waits : List Listed) (some : 1 ≤ length waits) (rise : IsStrictlyIncreasing (ids_in waits)) where
  ids_are : ids_in waits ≡ (first_of waits).id ∷ ids_in (behind waits)
  ids_are = ap ids_in (first_behind waits some)

  all_rise : IsStrictlyIncreasing ((first_of waits).id ∷ ids_in (behind waits))
  all_rise = subst IsStrictlyIncreasing ids_are rise

  pub behind_rise : IsStrictlyIncreasing (ids_in (behind waits))
  behind_rise = rises_behind (first_of waits).id (ids_in (behind waits)) all_rise

  pub behind_less : length (behind waits) < length waits
  behind_less = let size = ap length (first_behind waits some) in omega arith

  -- the first one comes before the id, and then what comes of those behind it
  pub first_comes : (id : ℕ) → (first_of waits).id < id → (old mid new still rest : List ℕ)
      → mid ≡ old ++ (first_of waits).id ∷ []
      → new ++ id ∷ all_inserted still rest ≡ mid ++ all_inserted (ids_in (behind waits)) (id ∷ rest)
      → new ++ id ∷ all_inserted still rest ≡ old ++ all_inserted (ids_in waits) (id ∷ rest)
  first_comes id lt old mid new still rest push later =
      later
      ∙ ap (λ (l : List ℕ). l ++ all_inserted (ids_in (behind waits)) (id ∷ rest)) push
      ∙ append_assoc old ((first_of waits).id ∷ []) (all_inserted (ids_in (behind waits)) (id ∷ rest))
      ∙ ap (λ (l : List ℕ). old ++ l)
      (sym (first_waits (first_of waits).id id (ids_in (behind waits)) rest all_rise lt)
      ∙ ap (λ (ids : List ℕ). all_inserted ids (id ∷ rest)) (sym ids_are))

  -- if the first one doesn't come before the id, none does
  pub none_comes : (id : ℕ) → id ≤ (first_of waits).id → (old rest : List ℕ)
      → old ++ id ∷ all_inserted (ids_in waits) rest ≡ old ++ all_inserted (ids_in waits) (id ∷ rest)
  none_comes id le old rest =
      ap (λ (l : List ℕ). old ++ l) (sym (none_waits id (ids_in waits) rest (λ x m. above x
      (subst (λ (ids : List ℕ). IsAmong x ids) ids_are m))))
    where
      above : (x : ℕ) → IsAmong x ((first_of waits).id ∷ ids_in (behind waits)) → id ≤ x
      above x (inl same) = omega arith
      above x (inr m) =
          let lt = above_first (first_of waits).id (ids_in (behind waits)) all_rise x m in omega arith

  -- what is listed of all is listed of the first one and of those behind it
  pub listed_behind : (f : ℕ → ℕ) → AreListedBy f waits → AreListedBy f (first_of waits ∷ behind waits)
  listed_behind f listed = subst (λ (ss : List Listed). AreListedBy f ss) (first_behind waits some) listed
