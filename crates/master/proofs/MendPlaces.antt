-- A master's segments stay on their homes through the pushes of a failover.
use Rattle.std.proofs.Common.{◌≡◌, ℕ, zero, suc, ◌⊎◌, ◌++◌, ◌<◌, ◌≤◌, inl, inr, true, false, List, [], ◌∷◌}
use Rattle.std.proofs.Common.{length, refl, sym, ap, ◌∙◌, arith}
use Rattle.std.specs.Prelude.{Some, None, slice_get, slice_set, ◌==◌}
use Rattle.std.proofs.lemmas.List.{length-set, length-append}
use Rattle.std.proofs.lemmas.Option.{same_Some, slice_get_within}
use Rattle.entry.specs.Bag.{IsAmong}
use Rattle.images.specs.Image.{Image}
use Rattle.log_head.specs.declared.head.Roll.{Roll}
use Rattle.log_head.specs.declared.next.Next.TheVariants as next
use Rattle.log_head.specs.Head.{IsLagging}
use Rattle.log_head.specs.log_laws.Ids.{without}
use Rattle.master_core.specs.log_laws.Steps.{with_taken}
use Rattle.master_core.specs.master_failover.Mending.{opened_more, raised_data}
use Rattle.master_core.specs.master_state.declared.failover.Failover.{Failover}
use Rattle.master_core.specs.master_state.declared.failover.Part.TheVariants as part
use Rattle.master_core.specs.master_state.declared.ledger.Posting.{Posting}
use Rattle.master_core.specs.master_state.declared.ledger.Posting.TheVariants as posting
use Rattle.master_core.specs.master_state.Data.{MasterData}
use Rattle.master_core.specs.master_state.Invariant.{IsCore}
use Rattle.master_core.specs.master_state.Ledger.{took_in, counts_in}
use Rattle.master_core.specs.master_state.Log.{home, placed, is_headless}
use Rattle.master_core.specs.master_state.Steps.{pushed_data}
use Rattle.master_core.proofs.master_state.Imaging.{same_id, other_id}
use Rattle.master.specs.Placed.{IsPlaced}
use Rattle.master.proofs.MendOps.{at_part, as_part}
use Rattle.master.proofs.NextOps.{roll_of}
use Rattle.master.proofs.Placing.{core_left, core_apart, left_more}
use Rattle.master.proofs.PushedPlaces.{set_there, taken_other, taken_own}
use Rattle.master.proofs.PushedPlaces.{closed_apart, closed_not_new}

-- ---- lists

-- one more at the end
pub more_there : (ns : List ℕ) (n i k : ℕ) → slice_get (ns ++ n ∷ []) i ≡ Some k
    → ((i ≡ length ns) × (k ≡ n)) ⊎ ((i < length ns) × (slice_get ns i ≡ Some k))
more_there [] n zero k is = inl (refl, sym (same_Some n k is))
more_there [] n (suc i) k is = absurd (cc)
more_there (m ∷ ns) n zero k is = inr (omega arith, is)
more_there (m ∷ ns) n (suc i) k is = elim (more_there ns n i k is)
    as (λ _. ((suc i ≡ suc (length ns)) × (k ≡ n))
    ⊎ ((suc i < suc (length ns)) × (slice_get (m ∷ ns) (suc i) ≡ Some k))) [
      | inl same ↦ inl (ap suc same.0, same.1)
      | inr other ↦ inr ((let lt = other.0 in omega (arith, lt)), other.1)
    ]

-- ---- the homes of the head

module _ (d : MasterData) (core : IsCore d) (p : IsPlaced d) where
  -- one of them took so many units
  one_counts : (ps : List Posting) (j n i k : ℕ) → j < d.config.replicas → i < d.config.replicas → (i ≡ j → ⊥)
      → slice_get d.head.taken i ≡ Some k
      → counts_in (posting.Has (home d.config d.failed d.head.id j) n ∷ ps) (home d.config d.failed d.head.id i)
      ≡ counts_in ps (home d.config d.failed d.head.id i)
  one_counts ps j n i k few_j few_i other at =
      let away : (home d.config d.failed d.head.id i == home d.config d.failed d.head.id j) ≡ false =
      other_id (home d.config d.failed d.head.id i) (home d.config d.failed d.head.id j)
      (core_apart d core d.head.id i j few_i few_j other) in
      rw away refl

  own_counts : (ps : List Posting) (j n : ℕ)
      → counts_in (posting.Has (home d.config d.failed d.head.id j) n ∷ ps) (home d.config d.failed d.head.id j) ≡ n
  own_counts ps j n = (let own = same_id (home d.config d.failed d.head.id j) in rw own refl)

  -- the head took one more home
  head_more : (j : ℕ) → j < d.config.replicas → j ≡ length d.head.taken
      → without d.failed (with_taken (took_in d.ledger) d.head.id (home d.config d.failed d.head.id j) d.head.id)
      ≡ placed d.config d.failed d.head.id (suc (length d.head.taken))
  head_more j lt at =
      ap (without d.failed) (taken_own (took_in d.ledger) d.head.id (home d.config d.failed d.head.id j))
      ∙ left_more d.failed (home d.config d.failed d.head.id j) (took_in d.ledger d.head.id)
      (core_left d core d.head.id j lt)
      ∙ (λ i. home d.config d.failed d.head.id (at i) ∷ p.head i)

  -- and no other segment did
  closed_more : (j : ℕ) (image : Image) → IsAmong image d.closed
      → without d.failed (with_taken (took_in d.ledger) d.head.id (home d.config d.failed d.head.id j) image.id)
      ≡ placed d.config d.failed image.id image.replicas
  closed_more j image m =
      ap (without d.failed)
      (taken_other (took_in d.ledger) d.head.id (home d.config d.failed d.head.id j) image.id
      (closed_apart d core image m))
      ∙ p.closed image m

  none_more : (j : ℕ) → is_headless d ≡ true
      → with_taken (took_in d.ledger) d.head.id (home d.config d.failed d.head.id j) 0 ≡ []
  none_more j is =
      taken_other (took_in d.ledger) d.head.id (home d.config d.failed d.head.id j) 0
      (λ same. let real = core.real in omega (arith, same, real))
      ∙ p.none is

  few_taken : length d.head.taken ≤ d.config.replicas
  few_taken = (let few = core.head.opened in let same = core.replicas in omega (arith, few, same))

-- ---- part 1 and 2

module _ (d0 : MasterData) (f : Failover) (core : IsCore (at_part d0 None (as_part f part.Mends false)))
    (p : IsPlaced (at_part d0 None (as_part f part.Mends false))) where
  abbrev mending : MasterData
  mending = at_part d0 None (as_part f part.Mends false)

  pub extended_placed : (j : ℕ) → IsLagging (length d0.head.units) d0.head.taken (Some j)
      → IsPlaced (pushed_data (at_part d0 None (as_part f part.Mends false)) (next.Extend j))
  extended_placed j lagging = record {
    none = λ is. absurd (cc);
    head = p.head
        ∙ sym (ap (placed d0.config d0.failed d0.head.id) (length-set d0.head.taken j (length d0.head.units)));
    counts = counts;
    unopened = λ is. absurd (cc);
    whole = λ is. absurd (cc);
    new = tt;
    shut = p.shut;
    closed = p.closed;
  } where
    within : j < length d0.head.taken
    within = slice_get_within d0.head.taken j lagging.0 lagging.1

    counts : (i k : ℕ) → slice_get (slice_set d0.head.taken j (length d0.head.units)) i ≡ Some k
        → counts_in (posting.Has (home d0.config d0.failed d0.head.id j) (length d0.head.units) ∷ d0.ledger)
        (home d0.config d0.failed d0.head.id i) ≡ k
    counts i k at = elim (set_there d0.head.taken j (length d0.head.units) i k at)
        as (λ _. counts_in (posting.Has (home d0.config d0.failed d0.head.id j) (length d0.head.units) ∷ d0.ledger)
        (home d0.config d0.failed d0.head.id i) ≡ k) [
          | inl same ↦ ap (λ (z : ℕ). counts_in
              (posting.Has (home d0.config d0.failed d0.head.id j) (length d0.head.units) ∷ d0.ledger)
              (home d0.config d0.failed d0.head.id z)) same.0
              ∙ own_counts mending core p d0.ledger j (length d0.head.units) ∙ sym same.1
          | inr other ↦ (
              let few = few_taken mending core p in
              let lag = within in
              let here = slice_get_within d0.head.taken i k other.1 in
              one_counts mending core p d0.ledger j (length d0.head.units) i k (omega (arith, few, lag))
              (omega (arith, few, here)) other.0 other.1
              ∙ p.counts i k other.1)
        ]

  pub replaced_placed : length d0.head.taken < d0.config.replicas
      → IsPlaced (pushed_data (at_part d0 None (as_part f part.Mends false)) (next.OpenWhole (length d0.head.taken)))
  replaced_placed lt = record {
    none = λ is. absurd (cc);
    head = head_more mending core p (length d0.head.taken) lt refl
        ∙ sym (ap (placed d0.config d0.failed d0.head.id) more_taken);
    counts = counts;
    unopened = λ is. absurd (cc);
    whole = λ is. absurd (cc);
    new = tt;
    shut = p.shut;
    closed = closed_more mending core p (length d0.head.taken);
  } where
    more_taken : length (d0.head.taken ++ length d0.head.units ∷ []) ≡ suc (length d0.head.taken)
    more_taken = (let sum = length-append d0.head.taken (length d0.head.units ∷ []) in omega (arith, sum))

    counts : (i k : ℕ) → slice_get (d0.head.taken ++ length d0.head.units ∷ []) i ≡ Some k
        → counts_in (posting.Has (home d0.config d0.failed d0.head.id (length d0.head.taken)) (length d0.head.units)
        ∷ posting.Took d0.head.id (home d0.config d0.failed d0.head.id (length d0.head.taken)) ∷ d0.ledger)
        (home d0.config d0.failed d0.head.id i) ≡ k
    counts i k at = elim (more_there d0.head.taken (length d0.head.units) i k at)
        as (λ _. counts_in (posting.Has (home d0.config d0.failed d0.head.id (length d0.head.taken))
        (length d0.head.units)
        ∷ posting.Took d0.head.id (home d0.config d0.failed d0.head.id (length d0.head.taken)) ∷ d0.ledger)
        (home d0.config d0.failed d0.head.id i) ≡ k) [
          | inl same ↦ ap (λ (z : ℕ). counts_in (posting.Has
              (home d0.config d0.failed d0.head.id (length d0.head.taken)) (length d0.head.units)
              ∷ posting.Took d0.head.id (home d0.config d0.failed d0.head.id (length d0.head.taken)) ∷ d0.ledger)
              (home d0.config d0.failed d0.head.id z)) same.0
              ∙ own_counts mending core p (posting.Took d0.head.id
              (home d0.config d0.failed d0.head.id (length d0.head.taken)) ∷ d0.ledger) (length d0.head.taken)
              (length d0.head.units)
              ∙ sym same.1
          | inr other ↦ (
              let here = other.0 in
              one_counts mending core p (posting.Took d0.head.id
              (home d0.config d0.failed d0.head.id (length d0.head.taken)) ∷ d0.ledger) (length d0.head.taken)
              (length d0.head.units) i k lt (omega (arith, here, lt)) (λ same. omega (arith, here, same)) other.1
              ∙ p.counts i k other.1)
        ]

-- ---- part 3 and 4, with a head in force

module _ (d0 : MasterData) (r : Roll) (f : Failover)
    (core : IsCore (at_part d0 (Some r) (as_part f part.Opens false)))
    (p : IsPlaced (at_part d0 (Some r) (as_part f part.Opens false))) where
  abbrev opening_now : MasterData
  opening_now = at_part d0 (Some r) (as_part f part.Opens false)

  newer : d0.head.id < r.id
  newer = (roll_of opening_now core r refl).newer

  pub opened_placed : r.opened < d0.config.replicas
      → IsPlaced (opened_more (at_part d0 (Some r) (as_part f part.Opens false)) r.opened)
  opened_placed lt = record {
    none = λ is. absurd (cc);
    head = ap (without d0.failed) (apart d0.head.id (λ same. let more = newer in omega (arith, same, more))) ∙ p.head;
    counts = p.counts;
    unopened = λ is. absurd (cc);
    whole = p.whole;
    new = ap (without d0.failed) (taken_own (took_in d0.ledger) r.id b)
        ∙ left_more d0.failed b (took_in d0.ledger r.id) (core_left opening_now core r.id r.opened lt)
        ∙ ap (λ (bs : List ℕ). b ∷ bs) p.new;
    shut = p.shut;
    closed = λ image m. ap (without d0.failed) (apart image.id (closed_not_new opening_now core r refl image m))
        ∙ p.closed image m;
  } where
    b : ℕ
    b = home d0.config d0.failed r.id r.opened

    apart : (s : ℕ) → (s ≡ r.id → ⊥)
        → with_taken (took_in d0.ledger) r.id (home d0.config d0.failed r.id r.opened) s ≡ took_in d0.ledger s
    apart s other = taken_other (took_in d0.ledger) r.id (home d0.config d0.failed r.id r.opened) s other

  pub raised_placed : IsPlaced (raised_data (at_part d0 (Some r) (as_part f part.Opens false)))
  raised_placed = record {
    none = λ is. absurd (cc);
    head = p.head;
    counts = p.counts;
    unopened = λ is. absurd (cc);
    whole = λ is. absurd (cc);
    new = p.new;
    shut = p.shut;
    closed = p.closed;
  }

-- ---- and with none

module _ (d0 : MasterData) (f : Failover) (core : IsCore (at_part d0 None (as_part f part.Opens true)))
    (p : IsPlaced (at_part d0 None (as_part f part.Opens true))) where
  abbrev first_now : MasterData
  first_now = at_part d0 None (as_part f part.Opens true)

  no_units : length d0.head.units ≡ 0
  no_units = ap length (core.first refl).units

  -- none of its homes took a unit
  pub first_placed : length d0.head.taken < d0.config.replicas
      → IsPlaced (opened_more (at_part d0 None (as_part f part.Opens true)) (length d0.head.taken))
  first_placed lt = record {
    none = none_more first_now core p (length d0.head.taken);
    head = head_more first_now core p (length d0.head.taken) lt refl
        ∙ sym (ap (placed d0.config d0.failed d0.head.id) more_taken);
    counts = λ i k at. elim (more_there d0.head.taken 0 i k at)
        as (λ _. counts_in d0.ledger (home d0.config d0.failed d0.head.id i) ≡ k) [
          | inl same ↦ p.unopened refl (home d0.config d0.failed d0.head.id i) ∙ sym same.1
          | inr other ↦ p.counts i k other.1
        ];
    unopened = p.unopened;
    whole = λ is. absurd (cc);
    new = tt;
    shut = p.shut;
    closed = closed_more first_now core p (length d0.head.taken);
  } where
    more_taken : length (d0.head.taken ++ 0 ∷ []) ≡ suc (length d0.head.taken)
    more_taken = (let sum = length-append d0.head.taken (0 ∷ []) in omega (arith, sum))

  pub in_force_placed : IsPlaced (raised_data (at_part d0 None (as_part f part.Opens true)))
  in_force_placed = record {
    none = λ is. p.none refl;
    head = p.head;
    counts = λ i k at. sym (p.unopened refl (home d0.config d0.failed d0.head.id i)) ∙ p.counts i k at;
    unopened = λ is b. refl;
    whole = λ is. absurd (cc);
    new = tt;
    shut = refl;
    closed = p.closed;
  }
