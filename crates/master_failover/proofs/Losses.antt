-- A walk over the segments of a digest finds the first that lacks a replica, and counts the lost replicas.
use Rattle.std.proofs.Common.{◌≡◌, ℕ, zero, suc, ◌+◌, ◌-◌, ◌<◌, ◌≤◌, Bool, true, false, List, [], ◌∷◌, length, drop}
use Rattle.std.proofs.Common.{add-one, refl}
use Rattle.std.proofs.Common.{sym, ap, ◌∙◌, arith}
use Rattle.std.specs.Prelude.{Option, Some, None, is_none, is_some, not, slice_get, nat_lt, ◌==◌}
use Rattle.std.proofs.lemmas.Bool.{eqb-true, ltb-true, ltb-false}
use Rattle.std.proofs.lemmas.Option.{same_Some}
use Rattle.master_state.proofs.Imaging.{same_id}
use Rattle.std.specs.Option.{option_map_or}
use Rattle.master_state.specs.cleaner.Seals.{first_lacking}
use Rattle.entry.specs.declared.digest.Digest.TheVariants as digest
use Rattle.entry.specs.Text.{Opening, opening_of, listed_ids}
use Rattle.images.specs.Image.{Image}
use Rattle.images.specs.Sorted.{replicas_of}
use Rattle.log_head.specs.Head.{HeadValue, digest_of}
use Rattle.log_head.specs.Log.{but_last, head_of, start_in}
use Rattle.master_failover.specs.Left.{lost_of}

drop_none : (n : ℕ) → drop {A = ℕ} n [] ≡ []
drop_none zero = refl
drop_none (suc n) = refl

other_next : (xs : List ℕ) (p id : ℕ) → slice_get xs p ≡ Some id → p < length xs - 1
    → drop p (but_last xs) ≡ id ∷ drop (suc p) (but_last xs)
other_next [] p id is lt = absurd (omega arith)
other_next (x ∷ []) p id is lt = absurd (omega arith)
other_next (x ∷ y ∷ ys) zero id is lt = ap (λ (z : ℕ). z ∷ but_last (y ∷ ys)) (same_Some x id is)
other_next (x ∷ y ∷ ys) (suc p) id is lt = other_next (y ∷ ys) p id is (omega arith)

-- the id at a place of a digest, if that isn't the last
pub other_here : (xs : List ℕ) (p id : ℕ) → slice_get xs p ≡ Some id → p < length xs - 1
    → drop p (but_last xs) ≡ id ∷ drop (p + 1) (but_last xs)
other_here xs p id is lt = rw add-one (other_next xs p id is lt)

-- nothing is behind the last but one
pub others_end : (xs : List ℕ) (n : ℕ) → length xs - 1 ≤ n → drop n (but_last xs) ≡ []
others_end [] n le = drop_none n
others_end (x ∷ []) n le = drop_none n
others_end (x ∷ y ∷ ys) zero le = absurd (omega arith)
others_end (x ∷ y ∷ ys) (suc n) le = others_end (y ∷ ys) n (omega arith)

-- those of the digest in force
pub others_are : (h : HeadValue) → (head_of h).start.others ≡ but_last (digest_of h.image)
others_are h = go (opening_of h.image) where
  go : (o : Option Opening) → (start_in h.id o).others
      ≡ but_last (listed_ids (option_map_or (λ (x : Opening). x.digest) o (digest.Ids [])))
  go None = refl
  go (Some x) = refl

pub none_from : {A : Type 0} (o : Option A) (b : Bool) → not b ≡ is_some o → is_none o ≡ b
none_from None true is = refl
none_from None false is = absurd (cc)
none_from (Some x) true is = absurd (cc)
none_from (Some x) false is = refl

-- ---- which lacks one first

pub lacks_here : (replicas : ℕ) (closed : List Image) (s : ℕ) (ids : List ℕ) → replicas_of closed s < replicas
    → first_lacking replicas closed (s ∷ ids) ≡ Some (s, replicas_of closed s)
lacks_here replicas closed s ids lt = go (nat_lt (replicas_of closed s) replicas) refl where
  go : (t : Bool) → nat_lt (replicas_of closed s) replicas ≡ t
      → first_lacking replicas closed (s ∷ ids) ≡ Some (s, replicas_of closed s)
  go true is = rw is refl
  go false is = absurd (let le = ltb-false (replicas_of closed s) replicas is in omega arith)

pub lacks_later : (replicas : ℕ) (closed : List Image) (s : ℕ) (ids : List ℕ) → replicas ≤ replicas_of closed s
    → first_lacking replicas closed (s ∷ ids) ≡ first_lacking replicas closed ids
lacks_later replicas closed s ids le = go (nat_lt (replicas_of closed s) replicas) refl where
  go : (t : Bool) → nat_lt (replicas_of closed s) replicas ≡ t
      → first_lacking replicas closed (s ∷ ids) ≡ first_lacking replicas closed ids
  go true is = absurd (let lt = ltb-true (replicas_of closed s) replicas is in omega arith)
  go false is = rw is refl

-- ---- how many are lost

pub lost_whole : (replicas : ℕ) (closed : List Image) (head s : ℕ) (ids : List ℕ) → s ≡ head
    → lost_of replicas closed head (s ∷ ids) ≡ lost_of replicas closed head ids
lost_whole replicas closed head s ids same =
    let test : (s == head) ≡ true = ap (λ (z : ℕ). s == z) (sym same) ∙ same_id s in
    rw test refl

pub lost_here : (replicas : ℕ) (closed : List Image) (head s : ℕ) (ids : List ℕ) → (s ≡ head → ⊥)
    → lost_of replicas closed head (s ∷ ids)
    ≡ (replicas - replicas_of closed s) + lost_of replicas closed head ids
lost_here replicas closed head s ids other = go (s == head) refl where
  go : (t : Bool) → (s == head) ≡ t → lost_of replicas closed head (s ∷ ids)
      ≡ (replicas - replicas_of closed s) + lost_of replicas closed head ids
  go true is = absurd (other (eqb-true s head is))
  go false is = rw is refl
