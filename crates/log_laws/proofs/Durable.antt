-- The durable count that a master computes is the one that the takes that answered Ok give.
use Rattle.std.proofs.Common.{◌≡◌, ℕ, suc, ◌<◌, ◌≤◌, ◌⊎◌, inl, inr, Bool, true, false, cond, List, [], ◌∷◌, length, map}
use Rattle.std.proofs.Common.{Some, refl, ap, subst, ◌∙◌, arith}
use Rattle.std.specs.Prelude.{Option, None, slice_get, nat_lt}
use Rattle.std.proofs.lemmas.Bool.{cases_lt, lt-ltb}
use Rattle.std.proofs.lemmas.Bool.Decides.{nat_tests}
use Rattle.std.proofs.lemmas.Option.{slice_get_within}
use Rattle.entry.proofs.BagLemmas.{among_last, among_push}
use Rattle.log_laws.specs.Heads.{LogUnit, fewest}
use Rattle.log_laws.specs.Ids.{has, without}
use Rattle.log_laws.specs.Rising.{Rise}
use Rattle.log_laws.proofs.Counts.{before_le, before_rise, before_at, before_past}
use Rattle.log_laws.specs.Shown.{Shown}
use Rattle.log_laws.specs.Data.{FailData, homes, is_failing, everywhere, taken_records, durable_of}
use Rattle.log_laws.specs.Durable.{TakenHead, head_now, takers, AreTaken, IsDurable, IsPast}
use Rattle.log_laws.specs.Left.{how_many}
use Rattle.log_laws.specs.Log.{IsKept}
use Rattle.log_laws.proofs.LeftCounts.{number_less}
use Rattle.log_laws.proofs.Lists.{has_here, has_there, fewest_of}
use Rattle.log_laws.proofs.States.{settled_if, durable_taken}

-- ---- numbers

-- if all pass, all count
pub number_all : (t : ℕ → Bool) (bs : List ℕ) → ((c : ℕ) → has bs c ≡ true → t c ≡ true) → how_many t bs ≡ length bs
number_all t [] each = refl
number_all t (b ∷ bs) each =
    let rest = number_all t bs (λ c m. each c (has_there b c bs m)) in
    ap (λ (x : Bool). cond x (suc (how_many t bs)) (how_many t bs)) (each b (has_here b bs)) ∙ ap suc rest

-- if one doesn't pass, not all count
pub number_not : (t : ℕ → Bool) (bs : List ℕ) (b : ℕ) → has bs b ≡ true → t b ≡ false → how_many t bs < length bs
number_not t bs b among fails =
    let less = number_less (λ (c : ℕ). true) t bs b among refl fails (λ c m is. refl) in
    let all = number_all (λ (c : ℕ). true) bs (λ c m. refl) in omega arith

-- the fewest is some backup's, or all units
fewest_at : (units : ℕ) (f : ℕ → ℕ) (bs : List ℕ)
    → (fewest units (map f bs) ≡ units) ⊎ ((b : ℕ) × (has bs b ≡ true) × (f b ≡ fewest units (map f bs)))
fewest_at units f [] = inl refl
fewest_at units f (b ∷ bs) = elim (cases_lt (fewest units (map f bs)) (f b))
    as (λ _. (fewest units (map f (b ∷ bs)) ≡ units)
    ⊎ ((c : ℕ) × (has (b ∷ bs) c ≡ true) × (f c ≡ fewest units (map f (b ∷ bs))))) [
      | inl lt ↦ elim (fewest_at units f bs)
          as (λ _. (fewest units (map f (b ∷ bs)) ≡ units)
          ⊎ ((c : ℕ) × (has (b ∷ bs) c ≡ true) × (f c ≡ fewest units (map f (b ∷ bs))))) [
            | inl all ↦ inl (omega arith)
            | inr some ↦ (let is = some.2 in inr (some.0, has_there b some.0 bs some.1, omega arith))
          ]
      | inr ge ↦ inr (b, has_here b bs, omega arith)
    ]

without_none : (failed bs : List ℕ) → ((c : ℕ) → has bs c ≡ true → has failed c ≡ false)
    → without failed bs ≡ bs
without_none failed [] each = refl
without_none failed (b ∷ bs) each =
    ap (λ (t : Bool). cond t (without failed bs) (b ∷ without failed bs)) (each b (has_here b bs))
    ∙ ap (λ (l : List ℕ). b ∷ l) (without_none failed bs (λ c m. each c (has_there b c bs m)))

-- ---- durable

module _ (d : FailData) (p : Shown) (past : List TakenHead) (kept : IsKept d p)
    (few_homes : length (homes d d.head.start.id) ≤ d.config.replicas) (is : IsPast d past) where
  abbrev us : List LogUnit
  us = d.head.units

  abbrev total : ℕ
  total = length d.history

  abbrev id : ℕ
  id = d.head.start.id

  rise : Rise 0 us total
  rise = kept.standing.numbers

  -- a unit before the place that all reached is taken by all that took the head's Open
  taken_before : (place : ℕ) (u : LogUnit) → slice_get us place ≡ Some u → place < everywhere d
      → d.config.replicas ≤ takers (head_now d) place
  taken_before place u at lt = elim kept.held.mirrored.opened as (λ _. d.config.replicas ≤ takers (head_now d) place) [
    | inl none ↦ (
        let empty = ap length (is.bare none) in
        let within = slice_get_within us place u at in absurd (omega arith))
    | inr enough ↦ (
        let all = number_all (λ (b : ℕ). nat_lt place (d.counts b)) (d.took id) (λ c m.
        let le : everywhere d ≤ d.counts c = fewest_of (length us) d.counts (d.took id) c m in
        let near : place < d.counts c = omega arith in
        lt-ltb place (d.counts c) near) in omega arith)
  ]

  pub all_taken : AreTaken d past (durable_of d)
  all_taken h place u m at lt = elim (among_push h past (head_now d) m) as (λ _. d.config.replicas ≤ takers h place) [
    | inl old ↦ is.whole h place u old at
    | inr same ↦ (
        let here : slice_get us place ≡ Some u = ap (λ (x : TakenHead). slice_get x.head.units place) same ∙ at in
        let number_is = before_at us total place u here in
        let le = durable_taken d kept.texts kept.standing in
        let below : place < everywhere d = elim (cases_lt place (everywhere d)) as (λ _. place < everywhere d) [
          | inl less ↦ less
          | inr more ↦ (let up = before_rise 0 us total (everywhere d) place rise more in absurd (omega arith))
        ] in
        subst (λ (x : TakenHead). d.config.replicas ≤ takers x place) same (taken_before place u here below))
  ]

  module _ (works : is_failing d.mode ≡ false) where
    durable_now : durable_of d ≡ taken_records d
    durable_now = rw works refl

    -- no more backups took the head's Open than replicas
    few : length (d.took id) ≤ d.config.replicas
    few =
        let all = kept.held.mirrored.homes (settled_if d.mode works) in
        let same = ap length (without_none d.failed (d.took id) (λ c m. all c m)) in
        let le = few_homes in omega arith

    no_more : (more : ℕ) → more ≤ total → AreTaken d past more → (x : Option LogUnit)
        → slice_get us (everywhere d) ≡ x → more ≤ durable_of d
    no_more more le all None at =
        let same = durable_now in let end = before_past us total (everywhere d) at in omega arith
    no_more more le all (Some u) at =
        let same = durable_now in
        let number_is = before_at us total (everywhere d) u at in
        elim (cases_lt u.number more) as (λ _. more ≤ durable_of d) [
          | inr within ↦ omega arith
          | inl lt ↦ absurd (
              let enough = all (head_now d) (everywhere d) u (among_last past (head_now d)) at lt in
              let within = slice_get_within us (everywhere d) u at in
              elim (fewest_at (length us) d.counts (d.took id)) as (λ _. ⊥) [
                | inl whole ↦ omega arith
                | inr some ↦ (
                    let least = some.2 in
                    let none : nat_lt (everywhere d) (d.counts some.0) ≡ false = grind (arith, nat_tests) in
                    let less = number_not (λ (b : ℕ). nat_lt (everywhere d) (d.counts b)) (d.took id) some.0 some.1
                    none in
                    let few_is = few in omega arith)
              ])
        ]

    durable_is : IsDurable d past (durable_of d)
    durable_is = record {
      units = is.units;
      within = (let same = durable_now in let le = before_le 0 us total (everywhere d) rise in omega arith);
      taken = all_taken;
      greatest = λ more le all. no_more more le all (slice_get us (everywhere d)) refl;
    }

pub past_is_durable : (d : FailData) (p : Shown) (past : List TakenHead) → IsKept d p
    → length (homes d d.head.start.id) ≤ d.config.replicas → IsPast d past
    → (is_failing d.mode ≡ false → IsDurable d past (durable_of d)) × AreTaken d past (durable_of d)
past_is_durable d p past kept few_homes is =
    (durable_is d p past kept few_homes is, all_taken d p past kept few_homes is)
