-- How the number of lost replicas changes with the segments and their replicas.
use Rattle.std.proofs.Common.{◌≡◌, inl, inr, ℕ, ◌+◌, ◌-◌, ◌<◌, ◌≤◌, Bool, true, false, List, [], ◌∷◌, ◌++◌, refl, sym}
use Rattle.std.proofs.Common.{subst, arith}
use Rattle.std.specs.Prelude.{◌==◌, nat_lt, if◌then◌else◌}
use Rattle.entry.specs.Bag.{IsAmong}
use Rattle.images.specs.Image.{Image}
use Rattle.images.specs.Sorted.{replicas_of}
use Rattle.log_head.specs.log_laws.Ids.{has, inserted, all_inserted, without}
use Rattle.master_failover.specs.Left.{lost_of}

-- which of a segment's replicas are lost, the head's apart
abbrev pub lost_at : ℕ → List Image → ℕ → ℕ → ℕ
lost_at replicas closed head s = if s == head then 0 else replicas - replicas_of closed s

-- a segment with all replicas has lost none
pub none_lost : (replicas : ℕ) (closed : List Image) (head s : ℕ) → replicas ≤ replicas_of closed s
    → lost_at replicas closed head s ≡ 0
none_lost replicas closed head s all = go (s == head) where
  go : (t : Bool) → (if t then 0 else replicas - replicas_of closed s) ≡ 0
  go true = refl
  go false = omega arith

pub few_lost : (replicas : ℕ) (closed : List Image) (head s : ℕ)
    → lost_at replicas closed head s ≤ replicas - replicas_of closed s
few_lost replicas closed head s = go (s == head) where
  go : (t : Bool) → (if t then 0 else replicas - replicas_of closed s) ≤ replicas - replicas_of closed s
  go true = omega arith
  go false = omega arith

pub lost_next : (replicas : ℕ) (closed : List Image) (head s : ℕ) (ids : List ℕ)
    → lost_of replicas closed head (s ∷ ids) ≡ lost_at replicas closed head s + lost_of replicas closed head ids
lost_next replicas closed head s ids = go (s == head) refl where
  go : (t : Bool) → (s == head) ≡ t
      → lost_of replicas closed head (s ∷ ids) ≡ lost_at replicas closed head s + lost_of replicas closed head ids
  go true test = rw test (omega arith)
  go false test = rw test refl

-- no more are lost, if no more are of each
pub lost_fewer : (replicas : ℕ) (closed again : List Image) (head new : ℕ) (ids : List ℕ)
    → ((s : ℕ) → IsAmong s ids → lost_at replicas again new s ≤ lost_at replicas closed head s)
    → lost_of replicas again new ids ≤ lost_of replicas closed head ids
lost_fewer replicas closed again head new [] each = omega arith
lost_fewer replicas closed again head new (s ∷ ids) each =
    let here = each s (inl refl) in
    let rest = lost_fewer replicas closed again head new ids (λ z m. each z (inr m)) in
    let before = lost_next replicas closed head s ids in
    let after = lost_next replicas again new s ids in
    omega arith

-- and fewer are, if fewer are of one
pub lost_less : (replicas : ℕ) (closed again : List Image) (head new : ℕ) (ids : List ℕ) (s : ℕ) → IsAmong s ids
    → lost_at replicas again new s < lost_at replicas closed head s
    → ((z : ℕ) → IsAmong z ids → lost_at replicas again new z ≤ lost_at replicas closed head z)
    → lost_of replicas again new ids < lost_of replicas closed head ids
lost_less replicas closed again head new [] s m less each = absurd m
lost_less replicas closed again head new (z ∷ ids) s (inl same) less each =
    let here : lost_at replicas again new z < lost_at replicas closed head z =
    subst (λ (x : ℕ). lost_at replicas again new x < lost_at replicas closed head x) (sym same) less in
    let rest = lost_fewer replicas closed again head new ids (λ x m. each x (inr m)) in
    let before = lost_next replicas closed head z ids in
    let after = lost_next replicas again new z ids in
    omega arith
lost_less replicas closed again head new (z ∷ ids) s (inr m) less each =
    let here = each z (inl refl) in
    let rest = lost_less replicas closed again head new ids s m less (λ x among. each x (inr among)) in
    let before = lost_next replicas closed head z ids in
    let after = lost_next replicas again new z ids in
    omega arith

-- ---- digests with ids more and ids less

pub lost_push : (replicas : ℕ) (closed : List Image) (head s : ℕ) (ids : List ℕ)
    → lost_of replicas closed head (ids ++ s ∷ []) ≡ lost_of replicas closed head ids + lost_at replicas closed head s
lost_push replicas closed head s [] = (let one = lost_next replicas closed head s [] in omega arith)
lost_push replicas closed head s (z ∷ ids) =
    let rest = lost_push replicas closed head s ids in
    let before = lost_next replicas closed head z ids in
    let after = lost_next replicas closed head z (ids ++ s ∷ []) in
    omega arith

lost_inserted : (replicas : ℕ) (closed : List Image) (head s : ℕ) (ids : List ℕ)
    → lost_of replicas closed head (inserted s ids) ≡ lost_at replicas closed head s + lost_of replicas closed head ids
lost_inserted replicas closed head s [] = lost_next replicas closed head s []
lost_inserted replicas closed head s (z ∷ ids) = go (nat_lt s z) refl (lost_inserted replicas closed head s ids) where
  go : (t : Bool) → nat_lt s z ≡ t
      → lost_of replicas closed head (inserted s ids)
      ≡ lost_at replicas closed head s + lost_of replicas closed head ids
      → lost_of replicas closed head (inserted s (z ∷ ids))
      ≡ lost_at replicas closed head s + lost_of replicas closed head (z ∷ ids)
  go true is later = rw is (lost_next replicas closed head s (z ∷ ids))
  go false is later =
      let before = lost_next replicas closed head z ids in
      let after = lost_next replicas closed head z (inserted s ids) in
      rw is (omega arith)

-- segments that have all replicas count nothing
pub lost_all : (replicas : ℕ) (closed : List Image) (head : ℕ) (more ids : List ℕ)
    → ((s : ℕ) → IsAmong s more → replicas ≤ replicas_of closed s)
    → lost_of replicas closed head (all_inserted more ids) ≡ lost_of replicas closed head ids
lost_all replicas closed head [] ids whole = refl
lost_all replicas closed head (s ∷ more) ids whole =
    let rest = lost_all replicas closed head more ids (λ z m. whole z (inr m)) in
    let sum = lost_inserted replicas closed head s (all_inserted more ids) in
    let none = none_lost replicas closed head s (whole s (inl refl)) in
    omega arith

pub lost_without : (replicas : ℕ) (closed : List Image) (head : ℕ) (victims ids : List ℕ)
    → lost_of replicas closed head (without victims ids) ≤ lost_of replicas closed head ids
lost_without replicas closed head victims [] = omega arith
lost_without replicas closed head victims (z ∷ ids) =
    go (has victims z) refl (lost_without replicas closed head victims ids)
  where
    go : (t : Bool) → has victims z ≡ t
        → lost_of replicas closed head (without victims ids) ≤ lost_of replicas closed head ids
        → lost_of replicas closed head (without victims (z ∷ ids)) ≤ lost_of replicas closed head (z ∷ ids)
    go true is later = (let before = lost_next replicas closed head z ids in rw is (omega arith))
    go false is later =
        let before = lost_next replicas closed head z ids in
        let after = lost_next replicas closed head z (without victims ids) in
        rw is (omega arith)
