-- What a command leaves that may be done under the limit: its sum is counted right, and it is within the limit.
use Rattle.std.proofs.Common.{◌≡◌, ◌⊎◌, ◌<◌, ◌≤◌, ◌+◌, ◌-◌, ℕ, Bool, true, false, List, [], ◌∷◌, refl, sym, ap}
use Rattle.std.proofs.Common.{subst, inl, inr, ◌∙◌, arith}
use Rattle.std.specs.Prelude.{Option, Some, None, sum, min, if◌then◌else◌}
use Rattle.std.specs.List.{AllByRecursion}
use Rattle.entry.specs.declared.entry.Object.{Object}
use Rattle.entry.specs.declared.key.Key.{Key}
use Rattle.entry.specs.Meaning.{Versioned, contents_of}
use Rattle.entry.specs.Order.{key_eq}
use Rattle.entry.proofs.KeyOrder.{key_eq_tells}
use Rattle.packing.specs.Limits.{unlimited}
use Rattle.versioned_map.specs.declared.command.Command.{Command}
use Rattle.versioned_map.specs.declared.command.Command.TheVariants.{Get, Put, Delete}
use Rattle.versioned_map.specs.declared.command.If.TheVariants.{Any}
use Rattle.versioned_map.specs.Command.{command_key}
use Rattle.versioned_map.specs.Versioned.{State, with_contents, is_met, after_command, after_put, after_delete}
use Rattle.replay.specs.master.master_state.declared.config.Config.{Config}
use Rattle.replay.specs.master.master_state.Live.{object_bytes, bytes_of, with_bytes, live_after}
use Rattle.replay.specs.master.master_state.Sizes.{AreOnce}
use Rattle.replay.specs.Needs.{lengths_of}
use Rattle.adoptable.specs.Limit.{IsSum, IsAllowed, put_of, IsWithin}
use Rattle.adoptable.proofs.Dropped.{dropped, changed, before, before_once, before_has, has_there, sum_with}

-- ---- objects that are allowed

abbrev pub AreAllowed : Config → List Object → Type 0
AreAllowed c os = AllByRecursion (λ (o : Object). IsAllowed c (put_of o)) os

-- what a key has is allowed
abbrev pub IsAllowedAt : Config → Key → Option Versioned → Type 0
IsAllowedAt c k None = Unit {0}
IsAllowedAt c k (Some x) = IsAllowed c (Put k x.value Any)

-- the objects of other keys are allowed, if all are where the key has something else
allowed_dropped : (c : Config) (k : Key) (x : Option Versioned) (os : List Object) → AreAllowed c (changed k x os)
    → AreAllowed c (dropped k os)
allowed_dropped c k None os all = all
allowed_dropped c k (Some x) os all = all.1

pub all_allowed : (c : Config) (k : Key) (os : List Object) → AreOnce os → AreAllowed c (dropped k os)
    → IsAllowedAt c k (contents_of os k) → AreAllowed c os
all_allowed c k [] once all own = tt
all_allowed c k (o ∷ os) once all own = go (key_eq_tells k o.key) (all_allowed c k os once.1) all own
  where
    go : ((key_eq k o.key ≡ true) × (k ≡ o.key)) ⊎ ((key_eq k o.key ≡ false) × (k ≡ o.key → ⊥))
        → (AreAllowed c (dropped k os) → IsAllowedAt c k (contents_of os k) → AreAllowed c os)
        → AreAllowed c (dropped k (o ∷ os)) → IsAllowedAt c k (contents_of (o ∷ os) k) → AreAllowed c (o ∷ os)
    go (inl a) rest all own =
        let e = a.0 in
        let here : IsAllowed c (Put k o.value Any) = rw e at own in
        let none : contents_of os k ≡ None = ap (contents_of os) a.1 ∙ once.0 in
        let left : AreAllowed c (dropped k os) = rw e at all in (
          subst (λ (q : Key). IsAllowed c (Put q o.value Any)) a.1 here,
          rest left (subst (IsAllowedAt c k) (sym none) tt),
        )
    go (inr a) rest all own =
        let e = a.0 in
        let both : AreAllowed c (o ∷ dropped k os) = rw e at all in
        let there : IsAllowedAt c k (contents_of os k) = rw e at own in (both.0, rest both.1 there)

-- ---- the sum

-- a sum that stays below the greatest word is the plain one
below_most : (n most : ℕ) → min n most < most → min n most ≡ n
below_most n most lt = omega arith

-- The list is within the limit, and so many bytes are counted for it.
pub record IsCounted (c : Config) (os : List Object) (n : ℕ) : Type 0 where
  pub counted : sum (lengths_of os) ≡ n
  pub within : IsWithin c os

-- ---- one command

-- Contents whose bytes are counted right, and of which each list is within the limit.
module _ (c : Config) (limited : c.most_live < unlimited) (n : ℕ) (st : State) (is : IsSum st.contents n)
    (within : (os : List Object) → AreOnce os → contents_of os ≡ st.contents → IsWithin c os) where
  -- they are as before
  same_counted : (os : List Object) → AreOnce os → contents_of os ≡ st.contents → IsCounted c os n
  same_counted os once has = record { counted = is os once has; within = within os once has }

  -- with another value at a key, which is allowed
  module _ (k : Key) (x : Option Versioned) (allowed : IsAllowedAt c k x) (os : List Object) (once : AreOnce os)
      (has : contents_of os ≡ with_contents st.contents k x) where
    was : IsWithin c (before st.contents k x os once has)
    was = within (before st.contents k x os once has) (before_once st.contents k x os once has)
        (before_has st.contents k x os once has)

    was_counted : n ≤ c.most_live
    was_counted =
        let all = is (before st.contents k x os once has) (before_once st.contents k x os once has)
        (before_has st.contents k x os once has) in
        let le = was.sum in omega arith

    all_allowed_now : AreAllowed c os
    all_allowed_now = all_allowed c k os once (allowed_dropped c k (st.contents k) os was.allowed)
        (subst (IsAllowedAt c k) (sym (has_there st.contents k x os once has)) allowed)

    -- the count is the plain sum, or it stays at the greatest word; but so many bytes may not be live
    changed_counted : (m : ℕ) → m ≡ min (n - bytes_of k (st.contents k) + bytes_of k x) unlimited
        → (m ≤ c.most_live) ⊎ (m ≤ n) → IsCounted c os m
    changed_counted m counts may =
        let total = sum_with st.contents k x os once has n is in
        let least = was_counted in
        let most : m ≤ c.most_live = below may in
        let plain = below_most (n - bytes_of k (st.contents k) + bytes_of k x) unlimited (omega arith) in
        record {
          counted = omega arith;
          within = record { sum = omega arith; allowed = all_allowed_now };
        }
      where
        below : (m ≤ c.most_live) ⊎ (m ≤ n) → m ≤ c.most_live
        below (inl le) = le
        below (inr le) = let least = was_counted in omega arith

  put_counted : (k : Key) (value : List ℕ) (x : Option Versioned) → st.contents k ≡ x
      → IsAllowed c (Put k value Any) → (os : List Object) → AreOnce os
      → contents_of os ≡ (after_put st k value x).contents
      → (m : ℕ) → m ≡ with_bytes (n - bytes_of k (st.contents k)) (object_bytes k value)
      → (m ≤ c.most_live) ⊎ (m ≤ n) → IsCounted c os m
  put_counted k value None there allowed os once has m counts may =
      changed_counted k (Some _) allowed os once has m counts may
  put_counted k value (Some x) there allowed os once has m counts may =
      changed_counted k (Some _) allowed os once has m counts may

  delete_counted : (k : Key) (x : Option Versioned) → st.contents k ≡ x → (os : List Object) → AreOnce os
      → contents_of os ≡ (after_delete st k x).contents → IsCounted c os (n - bytes_of k (st.contents k))
  delete_counted k None there os once has =
      subst (IsCounted c os) (let none = ap (bytes_of k) there in omega arith) (same_counted os once has)
  delete_counted k (Some x) there os once has = record {
    counted = let total = sum_with st.contents k None os once has n is in omega arith;
    within = record {
      sum = let total = sum_with st.contents k None os once has n is in
          let most = was_counted k None tt os once has in omega arith;
      allowed = all_allowed_now k None tt os once has;
    };
  }

  pub command_counted : (command : Command) → IsAllowed c command
      → (live_after n (st.contents (command_key command)) command ≤ c.most_live)
      ⊎ (live_after n (st.contents (command_key command)) command ≤ n)
      → (os : List Object) → AreOnce os → contents_of os ≡ (after_command st command).contents
      → IsCounted c os (live_after n (st.contents (command_key command)) command)
  command_counted (Get k) allowed may os once has = same_counted os once has
  command_counted (Put k value when) allowed may os once has = go (is_met when (st.contents k)) may has
    where
      live : Bool → ℕ
      live t = if t then with_bytes (n - bytes_of k (st.contents k)) (object_bytes k value) else n

      go : (t : Bool) → (live t ≤ c.most_live) ⊎ (live t ≤ n)
          → contents_of os ≡ (if t then after_put st k value (st.contents k) else st).contents
          → IsCounted c os (live t)
      go true may has = put_counted k value (st.contents k) refl allowed os once has _ refl may
      go false may has = same_counted os once has
  command_counted (Delete k) allowed may os once has = delete_counted k (st.contents k) refl os once has
