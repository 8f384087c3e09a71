-- The homes of a configuration's segments: no two alike, each a backup that hasn't failed.
use Rattle.std.proofs.Common.{◌≡◌, ℕ, zero, suc, ◌⊎◌, ◌+◌, ◌<◌, ◌≤◌, inl, inr, Bool, true, false, List, [], ◌∷◌}
use Rattle.std.proofs.Common.{length, refl, sym, ap, ◌∙◌, arith}
use Rattle.std.specs.Prelude.{None, ◌==◌, ◌||◌}
use Rattle.std.proofs.lemmas.Bool.{cases_eq, eqb-true}
use Rattle.log_head.specs.log_laws.Ids.{has, without}
use Rattle.master_core.specs.master_state.declared.config.Config.{Config}
use Rattle.master_core.specs.master_state.Config.{config_fault}
use Rattle.master_core.specs.master_state.Data.{MasterData}
use Rattle.master_core.specs.master_state.Invariant.{IsCore}
use Rattle.master_core.specs.master_state.Log.{home, placed, working}
use Rattle.master_core.proofs.master_state.Homes.{working_many, homes_apart, homes_left, home_works}
use Rattle.master_core.proofs.master_state.Imaging.{same_id}

-- ---- the backups of the first replicas

pub placed_length : (c : Config) (failed : List ℕ) (s n : ℕ) → length (placed c failed s n) ≡ n
placed_length c failed s zero = refl
placed_length c failed s (suc n) = ap suc (placed_length c failed s n)

-- the home of each of them is among them
pub home_placed : (c : Config) (failed : List ℕ) (s n j : ℕ) → j < n
    → has (placed c failed s n) (home c failed s j) ≡ true
home_placed c failed s zero j lt = absurd (omega arith)
home_placed c failed s (suc n) j lt =
    go (home c failed s n == home c failed s j) refl (home_placed c failed s n j)
  where
    go : (t : Bool) → (home c failed s n == home c failed s j) ≡ t
        → (j < n → has (placed c failed s n) (home c failed s j) ≡ true)
        → (t || has (placed c failed s n) (home c failed s j)) ≡ true
    go true is before = refl
    go false is before = before (by_last (cases_eq j n)) where
      by_last : (j ≡ n) ⊎ (j ≡ n → ⊥) → j < n
      by_last (inl same) = absurd (
          let yes = same_id (home c failed s j) in
          let never : true ≡ false = sym yes ∙ ap (λ (k : ℕ). home c failed s k == home c failed s j) same ∙ is in
          cc)
      by_last (inr other) = omega arith

-- The backup is the home of a replica of these.
pub record IsAmongPlaced (c : Config) (failed : List ℕ) (s n b : ℕ) : Type 0 where
  pub replica : ℕ
  pub within : replica < n
  pub is : b ≡ home c failed s replica

pub placed_home : (c : Config) (failed : List ℕ) (s n b : ℕ) → has (placed c failed s n) b ≡ true
    → IsAmongPlaced c failed s n b
placed_home c failed s zero b is = absurd (cc)
placed_home c failed s (suc n) b is = go (home c failed s n == b) refl (placed_home c failed s n b) is where
  go : (t : Bool) → (home c failed s n == b) ≡ t
      → (has (placed c failed s n) b ≡ true → IsAmongPlaced c failed s n b)
      → (t || has (placed c failed s n) b) ≡ true → IsAmongPlaced c failed s (suc n) b
  go true here before m = record { replica = n; within = omega arith; is = sym (eqb-true (home c failed s n) b here) }
  go false here before m =
      let at = before m in
      let lt = at.within in
      record { replica = at.replica; within = omega arith; is = at.is }

module _ (c : Config) (failed : List ℕ) (ok : config_fault c ≡ None) (few : length failed + c.replicas ≤ c.backups)
  where
    -- as many backups are left as replicas
    pub many_left : (s : ℕ) → c.replicas ≤ length (working c failed s)
    many_left s = working_many c failed s c.replicas few

    pub home_within : (s j : ℕ) → j < c.replicas → home c failed s j < c.backups
    home_within s j lt = homes_left c failed s j ok few lt

    -- a home hasn't failed
    pub home_left : (s j : ℕ) → j < c.replicas → has failed (home c failed s j) ≡ false
    home_left s j lt = home_works c failed s j (let many = many_left s in omega arith)

    -- two replicas have two homes
    pub home_apart : (s i j : ℕ) → i < c.replicas → j < c.replicas → (i ≡ j → ⊥)
        → home c failed s i ≡ home c failed s j → ⊥
    home_apart s i j a b other same =
        let many = many_left s in homes_apart c failed s i j (omega arith) (omega arith) other same

    -- the home of a later replica isn't among those of the first
    pub home_later : (s n j : ℕ) → n ≤ j → j < c.replicas → has (placed c failed s n) (home c failed s j) ≡ false
    home_later s n j le lt = go (has (placed c failed s n) (home c failed s j)) refl where
      go : (t : Bool) → has (placed c failed s n) (home c failed s j) ≡ t
          → has (placed c failed s n) (home c failed s j) ≡ false
      go true is =
          let at = placed_home c failed s n (home c failed s j) is in
          let low = at.within in
          absurd (home_apart s j at.replica lt (omega arith) (λ same. omega arith) at.is)
      go false is = is

-- ---- of a core

module _ (d : MasterData) (core : IsCore d) (s : ℕ) where
  pub core_within : (j : ℕ) → j < d.config.replicas → home d.config d.failed s j < d.config.backups
  core_within j lt = home_within d.config d.failed core.config core.failed.few s j lt

  pub core_left : (j : ℕ) → j < d.config.replicas → has d.failed (home d.config d.failed s j) ≡ false
  core_left j lt = home_left d.config d.failed core.config core.failed.few s j lt

  pub core_apart : (i j : ℕ) → i < d.config.replicas → j < d.config.replicas → (i ≡ j → ⊥)
      → home d.config d.failed s i ≡ home d.config d.failed s j → ⊥
  core_apart i j a b other same = home_apart d.config d.failed core.config core.failed.few s i j a b other same

  pub core_later : (n j : ℕ) → n ≤ j → j < d.config.replicas
      → has (placed d.config d.failed s n) (home d.config d.failed s j) ≡ false
  core_later n j le lt = home_later d.config d.failed core.config core.failed.few s n j le lt

-- ---- backups that haven't failed

module _ (failed : List ℕ) where
  -- one that is left out has failed
  pub left_has : (bs : List ℕ) (b : ℕ) → has (without failed bs) b ≡ true
      → (has bs b ≡ true) × (has failed b ≡ false)
  left_has [] b is = absurd (cc)
  left_has (x ∷ bs) b is = go (has failed x) refl (x == b) refl is (left_has bs b) where
    go : (t : Bool) → has failed x ≡ t → (u : Bool) → (x == b) ≡ u → has (without failed (x ∷ bs)) b ≡ true
        → (has (without failed bs) b ≡ true → (has bs b ≡ true) × (has failed b ≡ false))
        → (has (x ∷ bs) b ≡ true) × (has failed b ≡ false)
    go true gone true own is later = rw own (refl, (later (rw gone at is)).1)
    go true gone false away is later = rw away (later (rw gone at is))
    go false stays true own is later = rw own (refl, ap (has failed) (sym (eqb-true x b own)) ∙ stays)
    go false stays false away is later =
        let rest : has (without failed bs) b ≡ true = rw (stays, away) at is in
        rw away (later rest)

  pub has_left : (bs : List ℕ) (b : ℕ) → has bs b ≡ true → has failed b ≡ false
      → has (without failed bs) b ≡ true
  has_left [] b is works = absurd (cc)
  has_left (x ∷ bs) b is works = go (has failed x) refl (x == b) refl is (has_left bs b) where
    go : (t : Bool) → has failed x ≡ t → (u : Bool) → (x == b) ≡ u → has (x ∷ bs) b ≡ true
        → (has bs b ≡ true → has failed b ≡ false → has (without failed bs) b ≡ true)
        → has (without failed (x ∷ bs)) b ≡ true
    go true gone true own is later =
        absurd (let never : true ≡ false = sym gone ∙ ap (has failed) (eqb-true x b own) ∙ works in cc)
    go true gone false away is later = rw gone (later (rw away at is) works)
    go false stays true own is later = rw (stays, own) refl
    go false stays false away is later = rw (stays, away) (later (rw away at is) works)

  -- one that hasn't failed, and isn't left, was never there
  pub left_not : (bs : List ℕ) (b : ℕ) → has failed b ≡ false → has (without failed bs) b ≡ false
      → has bs b ≡ false
  left_not bs b works none = go (has bs b) refl where
    go : (t : Bool) → has bs b ≡ t → has bs b ≡ false
    go true is = absurd (let never : true ≡ false = sym (has_left bs b is works) ∙ none in cc)
    go false is = is

  -- if none of them has failed, all are left
  pub all_work : (bs : List ℕ) → ((b : ℕ) → has bs b ≡ true → has failed b ≡ false) → without failed bs ≡ bs
  all_work [] works = refl
  all_work (x ∷ bs) works =
      let own : has (x ∷ bs) x ≡ true = rw (same_id x) refl in
      let stays : has failed x ≡ false = works x own in
      rw stays (ap (λ (zs : List ℕ). x ∷ zs) (all_work bs (λ b is. works b (later b is))))
    where
      later : (b : ℕ) → has bs b ≡ true → has (x ∷ bs) b ≡ true
      later b is = go (x == b) where
        go : (t : Bool) → (t || has bs b) ≡ true
        go true = refl
        go false = is

  -- fewer are left, or as many
  pub few_left : (bs : List ℕ) → length (without failed bs) ≤ length bs
  few_left [] = omega arith
  few_left (x ∷ bs) = go (has failed x) refl (few_left bs) where
    go : (t : Bool) → has failed x ≡ t → length (without failed bs) ≤ length bs
        → length (without failed (x ∷ bs)) ≤ length (x ∷ bs)
    go true is le = rw is (omega arith)
    go false is le = rw is (omega arith)

  -- one more that hasn't failed
  pub left_more : (b : ℕ) (bs : List ℕ) → has failed b ≡ false → without failed (b ∷ bs) ≡ b ∷ without failed bs
  left_more b bs works = rw works refl
