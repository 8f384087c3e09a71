-- The ids of the log set: of the digest in force, of a new head, and of survivors.
use Rattle.std.proofs.Common.{◌≡◌, ℕ, ◌⊎◌, inl, inr, true, false, List, [], ◌∷◌, ◌++◌, refl, sym, subst, arith}
use Rattle.std.specs.Prelude.{Option, None, Some, ◌==◌}
use Rattle.std.proofs.lemmas.Bool.{cases_eq}
use Rattle.std.proofs.lemmas.Bool.Decides.{nat_tests}
use Rattle.entry.specs.Bag.{IsAmong}
use Rattle.entry.proofs.BagLemmas.{among_left, among_right, among_either, among_last}
use Rattle.log_bytes.specs.log_laws.Heads.{Start, ids_of}
use Rattle.log_bytes.specs.log_laws.Rising.{AreBelow}
use Rattle.log_bytes.proofs.log_laws.IdLists.{below_at}
use Rattle.log_bytes.specs.log_laws.Memory.{new_ids}
use Rattle.log_bytes.specs.log_laws.Data.{FailData, new_of}
use Rattle.log_bytes.specs.log_laws.Steps.{ids_now}
use Rattle.log_memory.specs.Memory.{FailMemory, log_ids}

-- ---- the digest in force

pub now_is : (n : Start) → (n.id ≡ 0 → ⊥) → ids_now n ≡ ids_of n
now_is n some = let t : (n.id == 0) ≡ false = grind (arith, nat_tests) in rw t refl

pub now_none : (n : Start) → n.id ≡ 0 → ids_now n ≡ []
now_none n none = let t : (n.id == 0) ≡ true = grind (arith, nat_tests) in rw t refl

-- what counts is of a head that there is
pub now_out : (n : Start) (s : ℕ) → IsAmong s (ids_now n) → IsAmong s (ids_of n) × (n.id ≡ 0 → ⊥)
now_out n s m = elim (cases_eq n.id 0) as (λ _. IsAmong s (ids_of n) × (n.id ≡ 0 → ⊥)) [
  | inl none ↦ absurd (subst (λ (ids : List ℕ). IsAmong s ids) (now_none n none) m)
  | inr some ↦ (subst (λ (ids : List ℕ). IsAmong s ids) (now_is n some) m, some)
]

pub now_others : (n : Start) (s : ℕ) → AreBelow n → IsAmong s n.others → IsAmong s (ids_now n)
now_others n s below m =
    let lt = below_at n.id n.others s below m in
    subst (λ (ids : List ℕ). IsAmong s ids) (sym (now_is n (λ none. omega arith)))
    (among_left s n.others (n.id ∷ []) m)

pub now_own : (n : Start) → (n.id ≡ 0 → ⊥) → IsAmong n.id (ids_now n)
now_own n some = subst (λ (ids : List ℕ). IsAmong n.id ids) (sym (now_is n some)) (among_last n.others n.id)

-- ---- the log set

module _ (d : FailData) (m : FailMemory) (s : ℕ) where
  pub ids_out : IsAmong s (log_ids d m)
      → IsAmong s (ids_now d.head.start) ⊎ (IsAmong s (new_ids (new_of d.mode)) ⊎ IsAmong s m.pass.survivors)
  ids_out c = elim (among_either s (ids_now d.head.start) (new_ids (new_of d.mode) ++ m.pass.survivors) c) [
    | inl l ↦ inl l
    | inr r ↦ inr (among_either s (new_ids (new_of d.mode)) m.pass.survivors r)
  ]

  pub in_digest : IsAmong s (ids_now d.head.start) → IsAmong s (log_ids d m)
  in_digest c = among_left s (ids_now d.head.start) (new_ids (new_of d.mode) ++ m.pass.survivors) c

  pub in_new : IsAmong s (new_ids (new_of d.mode)) → IsAmong s (log_ids d m)
  in_new c = among_right s (ids_now d.head.start) (new_ids (new_of d.mode) ++ m.pass.survivors)
      (among_left s (new_ids (new_of d.mode)) m.pass.survivors c)

  pub in_survivors : IsAmong s m.pass.survivors → IsAmong s (log_ids d m)
  in_survivors c = among_right s (ids_now d.head.start) (new_ids (new_of d.mode) ++ m.pass.survivors)
      (among_right s (new_ids (new_of d.mode)) m.pass.survivors c)

-- the new head
pub new_in : (d : FailData) (m : FailMemory) (n : Start) → new_of d.mode ≡ Some n → IsAmong n.id (log_ids d m)
new_in d m n is = in_new d m n.id (subst (λ (x : Option Start). IsAmong n.id (new_ids x)) (sym is) (inl refl))

pub new_one : (o : Option Start) (n : Start) (s : ℕ) → o ≡ Some n → IsAmong s (new_ids o) → n.id ≡ s
new_one o n s is c = elim (subst (λ (x : Option Start). IsAmong s (new_ids x)) is c) [
  | inl at ↦ at
  | inr never ↦ absurd never
]

-- a new head that counts
pub new_given : (o : Option Start) (s : ℕ) → IsAmong s (new_ids o) → (n : Start) × (o ≡ Some n) × (n.id ≡ s)
new_given None s c = absurd c
new_given (Some n) s c = (n, refl, elim c [ inl at ↦ at | inr never ↦ absurd never ])
