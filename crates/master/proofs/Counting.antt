-- What a master counts is the durable count of its log.
use Rattle.std.proofs.Common.{◌≡◌, ℕ, zero, suc, ◌<◌, ◌≤◌, inl, inr, Bool, true, false, List, [], ◌∷◌, ◌++◌, map}
use Rattle.std.proofs.Common.{take, length}
use Rattle.std.proofs.Common.{refl, sym, ap, ◌∙◌, get_or, arith}
use Rattle.std.specs.Prelude.{Option, None, Some, ◌==◌, is_none, min, slice_get, if◌then◌else◌}
use Rattle.std.specs.Option.{option_map_or}
use Rattle.std.proofs.lemmas.Bool.{and_parts, eqb-true, leb-true, le-ltb}
use Rattle.std.proofs.lemmas.List.{take_all}
use Rattle.std.proofs.lemmas.Option.{slice_get-get_or}
use Rattle.std.proofs.Math.Seq.{take-suc}
use Rattle.replica.specs.Picture.{FleetState}
use Rattle.log_head.specs.Head.{is_open, everywhere}
use Rattle.log_head.specs.Log.{head_of}
use Rattle.log_head.proofs.HeadLog.{count_is}
use Rattle.log_head.specs.log_laws.Heads.{Start, LogUnit, fewest, records_before}
use Rattle.log_head.specs.log_laws.Ids.{has, without}
use Rattle.master_core.specs.log_laws.Data.{Head, HasTaken, homes, new_of, is_settled, durable_of, taken_records}
use Rattle.master_core.specs.log_laws.Log.{Texts, IsLogHeld}
use Rattle.master_core.specs.log_laws.Shown.{Shown}
use Rattle.master_core.specs.log_memory.Fleet.{read_of, KeepsAll, HoldsLoading}
use Rattle.master_core.specs.master_state.declared.config.Config.{Config}
use Rattle.master_core.specs.master_state.declared.failover.Failover.{Failover}
use Rattle.master_core.specs.master_state.Causes.{is_pushed, is_done}
use Rattle.master_core.specs.master_state.Data.{MasterData}
use Rattle.master_core.specs.master_state.Invariant.{IsCore}
use Rattle.master_core.specs.master_state.Ledger.{took_in, counts_in}
use Rattle.master_core.specs.master_state.Log.{home, placed, is_opened, log_of, memory_of, durable_now}
use Rattle.master.specs.Placed.{holders, IsPlaced}
use Rattle.master.proofs.InForce.{open_or, headed_or, force_headed, force_headless, headed, headless, never_fails}
use Rattle.master.proofs.InForce.{calm_settled, fails}
use Rattle.master.proofs.Placing.{placed_length, all_work}

-- ---- lists

fewest_push : (n : ℕ) (ks : List ℕ) (k : ℕ) → fewest n (ks ++ k ∷ []) ≡ min k (fewest n ks)
fewest_push n [] k = refl
fewest_push n (m ∷ ks) k = let later = fewest_push n ks k in omega (arith, later)

-- the homes of a segment took as many units as are counted for its replicas
module _ (c : Config) (failed : List ℕ) (s n : ℕ) (counts : ℕ → ℕ) (ks : List ℕ)
    (are : (j k : ℕ) → slice_get ks j ≡ Some k → counts (home c failed s j) ≡ k) where
  fewest_front : (j : ℕ) → j ≤ length ks → fewest n (map counts (placed c failed s j)) ≡ fewest n (take j ks)
  fewest_front zero le = refl
  fewest_front (suc j) le =
      let lt : j < length ks = omega (arith, le) in
      let here = are j (get_or ks j 0) (slice_get-get_or ks j 0 lt) in
      let later = fewest_front j (omega (arith, le)) in
      (λ i. min (here i) (later i))
      ∙ sym (ap (fewest n) (take-suc ks j 0 lt) ∙ fewest_push n (take j ks) (get_or ks j 0))

  fewest_placed : fewest n (map counts (placed c failed s (length ks))) ≡ fewest n ks
  fewest_placed = fewest_front (length ks) (omega arith) ∙ ap (fewest n) (take_all (length ks) ks (omega arith))

-- all records come before the place behind the last unit
before_end : (us : List LogUnit) (all : ℕ) → records_before us all (length us) ≡ all
before_end [] all = refl
before_end (u ∷ us) all = before_end us all

no_units_left : (us : List LogUnit) → length us ≡ 0 → us ≡ []
no_units_left [] is = refl
no_units_left (u ∷ us) is = absurd (omega (arith, is))

-- ---- backups that failed

-- No backup of the head in force, if that was opened after the last failure, nor of a new head has failed.
pub record AreUnfailed (d : MasterData) : Type 0 where
  pub head : is_settled (log_of d).mode ≡ true → (b : ℕ) → HasTaken (log_of d) (log_of d).head.start.id b
      → has d.failed b ≡ false
  pub new : (n : Start) (b : ℕ) → new_of (log_of d).mode ≡ Some n → HasTaken (log_of d) n.id b
      → has d.failed b ≡ false

pub held_unfailed : (d : MasterData) (texts : Texts) (p : Shown) → IsLogHeld (log_of d) texts p → AreUnfailed d
held_unfailed d texts p held = record { head = held.mirrored.homes; new = held.mirrored.new_homes }

pub kept_unfailed : (d : MasterData) (f : FleetState) → KeepsAll (log_of d) (memory_of d) f → AreUnfailed d
kept_unfailed d f kept = held_unfailed d kept.intact.log.texts (read_of (log_of d) f) kept.intact.log.held

pub loading_unfailed : (d : MasterData) (f : FleetState) → HoldsLoading (log_of d) (memory_of d) f → AreUnfailed d
loading_unfailed d f holds = held_unfailed d holds.loading.texts (read_of (log_of d) f) holds.loading.held

-- ---- the count

-- the records before the first unit that a backup of the head lacks, by head and takes
abbrev pub counted_of : Head → ℕ → (ℕ → ℕ) → (ℕ → List ℕ) → ℕ
counted_of h all counts took =
    records_before h.units all (fewest (length h.units) (map counts (took h.start.id)))

module _ (d : MasterData) (core : IsCore d) (p : IsPlaced d) where
  abbrev units_count : length d.head.units ≡ length (head_of d.head).units
  units_count = count_is d.config.master d.head (head_of d.head) core.image

  abbrev counts : ℕ → ℕ
  counts = counts_in d.ledger

  abbrev took : ℕ → List ℕ
  took = took_in d.ledger

  -- the head in force is on as many backups as replicas at most
  pub head_homes : length (homes (log_of d) (log_of d).head.start.id) ≤ d.config.replicas
  head_homes = elim (headed_or d) as (λ _. length (homes (log_of d) (log_of d).head.start.id) ≤ d.config.replicas) [
    | inl is ↦ (
        let at : holders d (log_of d).head.start.id ≡ placed d.config d.failed d.head.id (length d.head.taken) =
        ap (λ (h : Head). holders d h.start.id) (force_headed d is) ∙ ap (holders d) core.image.id ∙ p.head in
        let size = ap length at ∙ placed_length d.config d.failed d.head.id (length d.head.taken) in
        let few = core.head.opened in
        let same = core.replicas in
        omega (arith, size, few, same))
    | inr is ↦ (
        let at : holders d (log_of d).head.start.id ≡ [] =
        ap (λ (h : Head). holders d h.start.id) (force_headless d is) ∙ ap (without d.failed) (p.none is) in
        let size = ap length at in
        omega (arith, size))
  ]

  module _ (unfailed : AreUnfailed d) where
    -- ---- while no failover is open

    module _ (calm : d.failover ≡ None) where
      taken_now : durable_of (log_of d) ≡ taken_records (log_of d)
      taken_now =
          ap (λ (b : Bool). if b then (log_of d).frozen else taken_records (log_of d)) (never_fails d calm)

      now_is : durable_now d ≡ records_before (head_of d.head).units (length d.history) (everywhere d.head)
      now_is = ap (λ (o : Option Failover). option_map_or (λ (f : Failover). f.frozen) o
          (records_before (head_of d.head).units (length d.history) (everywhere d.head))) calm

      -- the backups that took the head are its homes
      took_head : is_opened d.head ≡ true
          → placed d.config d.failed d.head.id (length d.head.taken) ≡ took (head_of d.head).start.id
      took_head is =
          sym p.head ∙ ap (holders d) (sym core.image.id)
          ∙ all_work d.failed (took (head_of d.head).start.id)
          (λ b has_it. unfailed.head (calm_settled d calm) b
          (ap (λ (h : Head). has (took h.start.id) b) (force_headed d (headed d calm is)) ∙ has_it))

      by_opened : is_opened d.head ≡ true → durable_now d ≡ taken_records (log_of d)
      by_opened is =
          let all = leb-true d.head.replicas (length d.head.taken) is in
          let open_test = le-ltb (length d.head.taken) d.head.replicas all in
          now_is
          ∙ ap (λ (b : Bool). records_before (head_of d.head).units (length d.history)
          (if b then 0 else fewest (length d.head.units) d.head.taken)) open_test
          ∙ ap (λ (n : ℕ). records_before (head_of d.head).units (length d.history) (fewest n d.head.taken))
          units_count
          ∙ ap (records_before (head_of d.head).units (length d.history))
          (sym (fewest_placed d.config d.failed d.head.id (length (head_of d.head).units) counts d.head.taken p.counts))
          ∙ ap (λ (bs : List ℕ). records_before (head_of d.head).units (length d.history)
          (fewest (length (head_of d.head).units) (map counts bs))) (took_head is)
          ∙ ap (λ (h : Head). counted_of h (length d.history) counts took) (sym (force_headed d (headed d calm is)))

      by_unopened : is_opened d.head ≡ false → durable_now d ≡ taken_records (log_of d)
      by_unopened is =
          let none : (head_of d.head).units ≡ [] =
          no_units_left (head_of d.head).units (sym units_count ∙ ap length (core.first (headless d calm is)).units) in
          now_is
          ∙ ap (λ (us : List LogUnit). records_before us (length d.history) (everywhere d.head)) none
          ∙ ap (λ (h : Head). counted_of h (length d.history) counts took)
          (sym (force_headless d (headless d calm is)))

      calm_counted : durable_now d ≡ durable_of (log_of d)
      calm_counted = elim (open_or d.head) as (λ _. durable_now d ≡ durable_of (log_of d)) [
        | inl is ↦ by_opened is ∙ sym taken_now
        | inr is ↦ by_unopened is ∙ sym taken_now
      ]

    -- ---- while one is

    failing_counted : (f : Failover) → d.failover ≡ Some f → durable_now d ≡ durable_of (log_of d)
    failing_counted f is =
        ap (λ (o : Option Failover). option_map_or (λ (x : Failover). x.frozen) o
        (records_before (head_of d.head).units (length d.history) (everywhere d.head))) is
        ∙ ap (λ (o : Option Failover). option_map_or (λ (x : Failover). x.frozen) o 0) (sym is)
        ∙ ap (λ (b : Bool). if b then (log_of d).frozen else taken_records (log_of d)) (sym (fails d f is))

    -- what the master counts
    pub counted : durable_now d ≡ durable_of (log_of d)
    counted = go d.failover refl where
      go : (o : Option Failover) → d.failover ≡ o → durable_now d ≡ durable_of (log_of d)
      go None calm = calm_counted calm
      go (Some f) is = failing_counted f is

    -- if nothing waits to be pushed, each record is durable
    pub pushed_all : is_done d ≡ true → durable_of (log_of d) ≡ length d.history
    pushed_all done =
        let parts = and_parts (is_none d.failover) (is_pushed d.head) done in
        let calm = none d.failover parts.0 in
        let both = and_parts (is_open d.head) (fewest (length d.head.units) d.head.taken == length d.head.units)
        parts.1 in
        let opened = and_parts (length d.head.taken == d.head.replicas) (is_none d.head.roll) both.0 in
        let all = eqb-true (length d.head.taken) d.head.replicas opened.0 in
        let open_test = le-ltb (length d.head.taken) d.head.replicas (omega (arith, all)) in
        sym counted
        ∙ now_is calm
        ∙ ap (λ (b : Bool). records_before (head_of d.head).units (length d.history)
        (if b then 0 else fewest (length d.head.units) d.head.taken)) open_test
        ∙ ap (records_before (head_of d.head).units (length d.history))
        (eqb-true (fewest (length d.head.units) d.head.taken) (length d.head.units) both.1 ∙ units_count)
        ∙ before_end (head_of d.head).units (length d.history)
      where
        none : (o : Option Failover) → is_none o ≡ true → o ≡ None
        none None is = refl
        none (Some f) is = absurd (cc)
