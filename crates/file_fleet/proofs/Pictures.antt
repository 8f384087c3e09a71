-- What a change of one backup makes of the picture.
use Rattle.std.proofs.Common.{◌≡◌, ℕ, zero, suc, ◌<◌, List, [], ◌∷◌, length, Bool, true, false, ◌==◌, ◌&&◌, cond, not}
use Rattle.std.proofs.Common.{Option, None, Some, set, refl, sym, ◌∙◌, ap, arith}
use Rattle.std.proofs.lemmas.Bool.Decides.{nat_tests}
use mathlib.Core.Path.{fun_ext}
use Rattle.std.specs.List.{slice_get}
use Rattle.std.specs.Option.{option_map}
use Rattle.std.proofs.lemmas.Bool.{eqb-true}
use Rattle.std.proofs.lemmas.Option.{same_Some, none-some, slice_get_within}
use Rattle.std.proofs.Math.Dec.{eqb-zero-suc, eqb-suc-zero, eqb-suc-suc}
use Rattle.replica.specs.Op.{OpValue}
use Rattle.replica.specs.Picture.{Picture, Replica, left_on, with_replica}
use Rattle.replica.specs.Take.{effect}
use Rattle.file_backup.specs.Replay.{Replicas, after_op, with_at}
use Rattle.file_fleet.specs.Members.{MissesOn, TakesOn, picture_of, replica_on, replicas_at, with_backup}
use Rattle.file_fleet.specs.declared.member.Member.{Member}

-- what an op that fits makes of replicas
pub record Makes (p : Replicas) (op : OpValue) (q : Replicas) : Type 0 where
  pub replica : Option Replica
  pub does : effect op.act (p op.master op.segment) ≡ Some replica
  pub makes : q ≡ with_at p op.master op.segment replica

pub made : (p q : Replicas) (op : OpValue) → after_op p op ≡ Some q → Makes p op q
made p q op is = by_effect (effect op.act (p op.master op.segment)) refl
  where
    by_effect : (o : Option (Option Replica)) → effect op.act (p op.master op.segment) ≡ o → Makes p op q
    by_effect None none = absurd (none-some q (sym
        (ap (λ (o : Option (Option Replica)). option_map (with_at p op.master op.segment) o) none) ∙ is))
    by_effect (Some r) some = record {
      replica = r;
      does = some;
      makes = sym (same_Some (with_at p op.master op.segment r) q (sym
          (ap (λ (o : Option (Option Replica)). option_map (with_at p op.master op.segment) o) some) ∙ is));
    }

-- an op that makes no replicas doesn't fit
pub misses : (p : Replicas) (op : OpValue) → after_op p op ≡ None → effect op.act (p op.master op.segment) ≡ None
misses p op is = by_effect (effect op.act (p op.master op.segment)) refl
  where
    by_effect : (o : Option (Option Replica)) → effect op.act (p op.master op.segment) ≡ o
        → effect op.act (p op.master op.segment) ≡ None
    by_effect None none = none
    by_effect (Some r) some = absurd (none-some (with_at p op.master op.segment r) (sym is
        ∙ ap (λ (o : Option (Option Replica)). option_map (with_at p op.master op.segment) o) some))

-- a backup with what it holds changes nothing
pub with_itself : (p : Picture) (b : ℕ) → with_backup p b (p b) ≡ p
with_itself p b = fun_ext (λ c. at c (b == c) refl)
  where
    at : (c : ℕ) (t : Bool) → (b == c) ≡ t → cond t (p b) (p c) ≡ p c
    at c true e = ap p (eqb-true b c e)
    at c false e = refl

-- a backup that holds nothing in the place of one makes this lose what it holds
pub lost_picture : (p : Picture) (b : ℕ) (q : Replicas) → ((m s : ℕ) → q m s ≡ None)
    → with_backup p b q ≡ left_on (λ c. not (b == c)) p
lost_picture p b q none = fun_ext (λ c. fun_ext (λ m. fun_ext (λ s. at c m s (b == c) refl)))
  where
    at : (c m s : ℕ) (t : Bool) → (b == c) ≡ t → (cond t q (p c)) m s ≡ cond (not t) (p c m s) None
    at c m s true e = none m s
    at c m s false e = refl

module _ {D : Type 0} where
  -- one backup becomes another
  pub slice_get-set : (members : List (Member D)) (b : ℕ) (new : Member D) (c : ℕ) → b < length members
      → slice_get (set members b new) c ≡ cond (b == c) (Some new) (slice_get members c)
  slice_get-set [] b new c within = absurd (omega arith)
  slice_get-set (x ∷ xs) zero new zero within = refl
  slice_get-set (x ∷ xs) zero new (suc c) within = rw (eqb-zero-suc c) refl
  slice_get-set (x ∷ xs) (suc b) new zero within = rw (eqb-suc-zero b) refl
  slice_get-set (x ∷ xs) (suc b) new (suc c) within =
      rw (eqb-suc-suc b c) (slice_get-set xs b new c (omega arith))

  -- there is a backup of each number that is below their count
  pub there : (members : List (Member D)) (b : ℕ) → b < length members → (h : Member D)
      × (slice_get members b ≡ Some h)
  there [] b within = absurd (omega arith)
  there (x ∷ xs) zero within = (x, refl)
  there (x ∷ xs) (suc b) within = there xs b (omega arith)

  -- a backup in its own place
  pub set_there : (members : List (Member D)) (b : ℕ) (h : Member D) → slice_get members b ≡ Some h
      → set members b h ≡ members
  set_there [] b h at = absurd (none-some h at)
  set_there (x ∷ xs) zero h at = ap (λ (y : Member D). y ∷ xs) (sym (same_Some x h at))
  set_there (x ∷ xs) (suc b) h at = ap (λ (ys : List (Member D)). x ∷ ys) (set_there xs b h at)

  -- what the picture has of a backup is what the backup holds
  pub seen : (members : List (Member D)) (b : ℕ) (h : Member D) → slice_get members b ≡ Some h
      → picture_of members b ≡ replicas_at h
  seen members b h at = ap (λ (o : Option (Member D)). let r : Replicas = λ m s. replica_on o m s in r) at

  -- another backup in the place of one
  pub put_picture : (members : List (Member D)) (b : ℕ) (i : Member D) → b < length members
      → picture_of (set members b i) ≡ with_backup (picture_of members) b (replicas_at i)
  put_picture members b i within = fun_ext (λ c. fun_ext (λ n. fun_ext (λ t.
      rw (slice_get-set members b i c within) (at c n t (b == c) refl))))
    where
      at : (c n t : ℕ) (x : Bool) → (b == c) ≡ x
          → replica_on (cond x (Some i) (slice_get members c)) n t
          ≡ (cond x (replicas_at i) (picture_of members c)) n t
      at c n t false e = refl
      at c n t true e = refl

  module _ (members : List (Member D)) (b : ℕ) (h i : Member D) (at : slice_get members b ≡ Some h) where
    same_at : replicas_at i ≡ replicas_at h → (c n t : ℕ) (x : Bool) → (b == c) ≡ x
        → replica_on (cond x (Some i) (slice_get members c)) n t ≡ replica_on (slice_get members c) n t
    same_at same c n t false e = refl
    same_at same c n t true e =
        let here : b ≡ c = eqb-true b c e in
        rw (← here, at) (ap (λ (p : Replicas). p n t) same)

    -- a backup that becomes one with the same replicas changes nothing
    pub same_picture : replicas_at i ≡ replicas_at h → picture_of (set members b i) ≡ picture_of members
    same_picture same = fun_ext (λ c. fun_ext (λ n. fun_ext (λ t.
        rw (slice_get-set members b i c (slice_get_within members b h at)) (same_at same c n t (b == c) refl))))

    made_at : (m s : ℕ) (r : Option Replica) → replicas_at i ≡ with_at (replicas_at h) m s r → (c n t : ℕ) (x : Bool)
        → (b == c) ≡ x → replica_on (cond x (Some i) (slice_get members c)) n t
        ≡ cond (x && ((m == n) && (s == t))) r (replica_on (slice_get members c) n t)
    made_at m s r makes c n t false e = refl
    made_at m s r makes c n t true e =
        let here : b ≡ c = eqb-true b c e in
        rw (← here, at) (ap (λ (p : Replicas). p n t) makes)

    -- one that takes an op changes the op's replica
    pub takes_on : (op : OpValue) → after_op (replicas_at h) op ≡ Some (replicas_at i)
        → TakesOn (length members) (picture_of members) b op (picture_of (set members b i))
    takes_on op taken =
        let does = made (replicas_at h) (replicas_at i) op taken in
        let within : b < length members = slice_get_within members b h at in
        record {
          within = within;
          replica = does.replica;
          does = rw at does.does;
          makes = fun_ext (λ c. fun_ext (λ n. fun_ext (λ t. rw (slice_get-set members b i c within)
              (made_at op.master op.segment does.replica does.makes c n t (b == c) refl))));
        }

    -- and one whose op doesn't fit
    pub misses_on : (op : OpValue) → after_op (replicas_at h) op ≡ None
        → MissesOn (length members) (picture_of members) b op
    misses_on op none within = rw at (misses (replicas_at h) op none)

    -- the picture after an op that a crash may leave taken
    pub would_take : (op : OpValue) (q : Replicas) → after_op (replicas_at h) op ≡ Some q
        → (p : Picture) × TakesOn (length members) (picture_of members) b op p × (p b ≡ q)
        × ((c : ℕ) → (b == c) ≡ false → p c ≡ picture_of members c)
    would_take op q taken =
        let does = made (replicas_at h) q op taken in
        let p : Picture = with_replica (picture_of members) b op.master op.segment does.replica in (
          p,
          record {
            within = slice_get_within members b h at;
            replica = does.replica;
            does = rw at does.does;
            makes =
                refl;
          },
          fun_ext (λ n. fun_ext (λ t. here n t)) ∙ sym does.makes,
          λ c other. fun_ext (λ n. fun_ext (λ t. rw other refl)),
        )
      where
        here : (n t : ℕ) → with_replica (picture_of members) b op.master op.segment
            (made (replicas_at h) q op taken).replica b n t
            ≡ with_at (replicas_at h) op.master op.segment (made (replicas_at h) q op taken).replica n t
        here n t = let same : (b == b) ≡ true = grind (arith, nat_tests) in rw (at, same) refl
