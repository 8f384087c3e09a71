-- A backup fails, and a failover ends.
use Rattle.std.proofs.Common.{◌≡◌, ℕ, ◌≤◌, ◌⊎◌, inl, inr, true, false, length, Some, refl, sym, ap, subst, ◌∙◌, arith}
use Rattle.std.specs.Prelude.{None}
use Rattle.std.proofs.lemmas.Option.{same_Some}
use Rattle.std.proofs.lemmas.Bool.{cases_Bool}
use Rattle.entry.specs.Bag.{IsAmong}
use Rattle.log_laws.specs.Ids.{has}
use Rattle.log_laws.specs.Heads.{Start}
use Rattle.log_laws.specs.Text.{Replica}
use Rattle.log_laws.specs.Shown.{Shown}
use Rattle.log_laws.specs.Data.{Mode, Calm, Rolls, Mends, Opens, Closes, Repairs, FailData, IsHome, HasTaken}
use Rattle.log_laws.specs.Data.{new_of, failover_head_of, is_failing, is_settled, IsNew, taken_records}
use Rattle.log_laws.specs.Data.{durable_of}
use Rattle.log_laws.specs.Log.{Texts, IsLogged, IsReplica, IsOther, HoldsCopy, IsLeast, IsMirrored, IsStanding}
use Rattle.log_laws.specs.Steps.{new_heads, failing, MayFail, mended, IsKnown}
use Rattle.log_laws.specs.Laws.{FailingIsHeld, FailingIsStanding, MendedIsHeld, MendedIsStanding}
use Rattle.log_laws.proofs.Lists.{has_fewer}
use Rattle.log_laws.proofs.States.{settled_if}

-- while no failover is open a new head is a roll's
heads_new : (mode : Mode) (m : Start) → IsAmong m (new_heads mode) → new_of mode ≡ Some m
heads_new Calm m among = absurd among
heads_new (Rolls n) m (inl same) = ap (λ (x : Start). Some x) same
heads_new (Rolls n) m (inr none) = absurd none
heads_new Mends m among = absurd among
heads_new (Opens n) m among = absurd among
heads_new (Closes n) m among = absurd among
heads_new Repairs m among = absurd among

new_heads_has : (mode : Mode) (m : Start) → is_failing mode ≡ false → new_of mode ≡ Some m → IsAmong m (new_heads mode)
new_heads_has Calm m works is = absurd (cc)
new_heads_has (Rolls n) m works is = inl (same_Some n m is)
new_heads_has Mends m works is = absurd (cc)
new_heads_has (Opens n) m works is = absurd (cc)
new_heads_has (Closes n) m works is = absurd (cc)
new_heads_has Repairs m works is = absurd (cc)

third_none : (mode : Mode) (m : Start) → is_failing mode ≡ false → failover_head_of mode ≡ Some m → ⊥
third_none Calm m works is = cc
third_none (Rolls n) m works is = cc
third_none Mends m works is = cc
third_none (Opens n) m works is = cc
third_none (Closes n) m works is = cc
third_none Repairs m works is = cc

module _ (d : FailData) (texts : Texts) (p : Shown) (b : ℕ) (log : IsLogged d texts) (mir : IsMirrored d texts p)
    (may : MayFail d) where
  works : is_failing d.mode ≡ false
  works = may.works

  abbrev e : FailData
  e = failing d b

  new_before : (m : Start) → IsNew e m → IsNew d m
  new_before m (inl never) = absurd (cc)
  new_before m (inr among) = inl (heads_new d.mode m among)

  new_after : (m : Start) → IsNew d m → IsNew e m
  new_after m (inl is) = inr (new_heads_has d.mode m works is)
  new_after m (inr among) = absurd (subst (IsAmong m) (log.settled (settled_if d.mode works)) among)

  home_before : (s c : ℕ) → IsHome e s c → IsHome d s c
  home_before s c home = (home.0, has_fewer b c d.failed home.1)

  other_before : (s : ℕ) → IsOther e s → IsOther d s
  other_before s (inl m) = inl m
  other_before s (inr is) = inr (is.0, new_before is.0 is.1, is.2, is.3)

  each_then : (c s : ℕ) (r : Replica) → IsReplica d texts p.least c s r → IsReplica e texts p.least c s r
  each_then c s r (inl is) = inl (
    is.0,
    record {
      k = is.1.k;
      within = is.1.within;
      text = is.1.text;
      reach = elim is.1.reach as (λ _. (HasTaken d d.head.start.id c × (d.counts c ≤ is.1.k))
          ⊎ ((is.1.k ≡ length d.head.units) × (true ≡ true))) [ inl had ↦ inl had | inr all ↦ inr (all.0, refl) ];
      shut = λ closed. let all = is.1.shut closed in
          (all.0, record { n = all.1.n; is_new = new_after all.1.n all.1.is_new; opened = all.1.opened });
    },
  )
  each_then c s r (inr (inl is)) = inr (inl (is.0, new_after is.0 is.1, is.2, is.3))
  each_then c s r (inr (inr is)) =
      inr (inr (record { next = is.next; opening = is.opening; whole = is.whole; bears = is.bears }))

  failing_mirrored : IsMirrored e texts p
  failing_mirrored = record {
    bounded = mir.bounded;
    each = λ c s r is. each_then c s r (mir.each c s r is);
    head = mir.head;
    opened = mir.opened;
    new = λ m c is_new took. mir.new m c (new_before m is_new) took;
    others = λ s c other home. mir.others s c (other_before s other) (home_before s c home);
    whole = λ m c f is_new some home. mir.whole m c f (new_before m is_new) some (home_before d.head.start.id f home);
    least = elim mir.least as (λ _. IsLeast e p.least) [
      | inl old ↦ inl old
      | inr third ↦ absurd (third_none d.mode third.0 works third.1)
    ];
    raised = λ m never. absurd (cc);
    shut = mir.shut;
    homes = λ never. absurd (cc);
    new_homes = λ m c never. absurd (cc);
  }

  failing_logged : IsLogged e texts
  failing_logged = record {
    head = log.head;
    text = log.text;
    counted = log.counted;
    one = log.one;
    some = log.some;
    new = λ m is_new. log.new m (new_before m is_new);
    newer = λ m is_new. log.newer m (new_before m is_new);
    new_text = λ m is_new. log.new_text m (new_before m is_new);
    new_one = λ m is_new. log.new_one m (new_before m is_new);
    keys = log.keys;
    images = log.images;
    above = λ m k never. absurd (cc);
    settled = λ never. absurd (cc);
    repairs = λ never. absurd (cc);
    two = λ _. may.two;
  }

  durable_is : durable_of d ≡ taken_records d
  durable_is = rw works refl

  failing_standing : IsStanding d texts → IsStanding e texts
  failing_standing standing = record {
    numbers = standing.numbers;
    fronts = standing.fronts;
    new = λ m is_new. standing.new m (new_before m is_new);
    frozen = λ _. let same = durable_is in omega arith;
  }

-- a failover that opens keeps the log
pub failing_is_held : FailingIsHeld
failing_is_held d texts p b held may = record {
  some = held.some;
  logged = failing_logged d texts p b held.logged held.mirrored may;
  mirrored = failing_mirrored d texts p b held.logged held.mirrored may;
}

pub failing_is_standing : FailingIsStanding
failing_is_standing d texts p b held standing may =
    failing_standing d texts p b held.logged held.mirrored may standing

-- ---- the end of a failover

module _ (d : FailData) (texts : Texts) (p : Shown) (log : IsLogged d texts) (mir : IsMirrored d texts p)
    (known : IsKnown d p) (repairs : d.mode ≡ Repairs) where
  abbrev f : FailData
  f = mended d

  -- a replica of the head is on a backup that took it
  known_head : (b : ℕ) (r : Replica) → p.holds b d.head.start.id ≡ Some r → HasTaken d d.head.start.id b
  known_head b r there = elim (cases_Bool (has d.failed b)) as (λ _. HasTaken d d.head.start.id b) [
    | inl failed ↦ (let never : None ≡ Some r = sym (known.head b failed repairs) ∙ there in absurd (cc))
    | inr ok ↦ elim (cases_Bool (has (d.took d.head.start.id) b)) as (λ _. HasTaken d d.head.start.id b) [
      | inl took ↦ took
      | inr away ↦ (let never : None ≡ Some r = sym (known.absent b d.head.start.id ok away) ∙ there in absurd (cc))
    ]
  ]

  none_new : (m : Start) → IsNew d m → ⊥
  none_new m (inl is) = let never : None ≡ Some m = sym (ap new_of repairs) ∙ is in cc
  none_new m (inr among) = subst (IsAmong m) (log.settled (ap is_settled repairs)) among

  none_then : (m : Start) → IsNew f m → ⊥
  none_then m (inl never) = cc
  none_then m (inr among) = subst (IsAmong m) (log.settled (ap is_settled repairs)) among

  each_mended : (c s : ℕ) (r : Replica) → p.holds c s ≡ Some r → IsReplica d texts p.least c s r
      → IsReplica f texts p.least c s r
  each_mended c s r there (inl is) = inl (
    is.0,
    record {
      k = is.1.k;
      within = is.1.within;
      text = is.1.text;
      reach = elim is.1.reach as (λ _. (HasTaken d d.head.start.id c × (d.counts c ≤ is.1.k))
          ⊎ ((is.1.k ≡ length d.head.units) × (false ≡ true))) [
            | inl had ↦ inl had
            | inr all ↦ inl (
              known_head c r (subst (λ (t : ℕ). p.holds c t ≡ Some r) is.0 there),
              (let most = log.counted c in let same = all.0 in omega arith),
            )
          ];
      shut = λ closed. let all = is.1.shut closed in absurd (none_new all.1.n all.1.is_new);
    },
  )
  each_mended c s r there (inr (inl is)) = absurd (none_new is.0 is.1)
  each_mended c s r there (inr (inr is)) =
      inr (inr (record { next = is.next; opening = is.opening; whole = is.whole; bears = is.bears }))

  mended_mirrored : IsMirrored f texts p
  mended_mirrored = record {
    bounded = mir.bounded;
    each = λ c s r is. each_mended c s r is (mir.each c s r is);
    head = mir.head;
    opened = mir.opened;
    new = λ m c new. absurd (none_then m new);
    others = λ s c other home. elim other as (λ _. HoldsCopy texts p c s) [
      | inl m ↦ mir.others s c (inl m) home
      | inr is ↦ absurd (none_then is.0 is.1)
    ];
    whole = λ m c g new. absurd (none_then m new);
    least = elim mir.least as (λ _. IsLeast f p.least) [
      | inl old ↦ inl old
      | inr third ↦ (let never : None ≡ Some third.0 = sym (ap failover_head_of repairs) ∙ third.1 in absurd (cc))
    ];
    raised = λ m never. absurd (cc);
    shut = mir.shut;
    homes = λ _. mir.homes (ap is_settled repairs);
    new_homes = λ m c never. absurd (cc);
  }

  mended_logged : IsLogged f texts
  mended_logged = record {
    head = log.head;
    text = log.text;
    counted = log.counted;
    one = log.one;
    some = log.some;
    new = λ m new. absurd (none_then m new);
    newer = λ m new. absurd (none_then m new);
    new_text = λ m new. absurd (none_then m new);
    new_one = λ m new. absurd (none_then m new);
    keys = log.keys;
    images = log.images;
    above = λ m k never. absurd (cc);
    settled = λ _. log.settled (ap is_settled repairs);
    repairs = λ never. absurd (cc);
    two = λ never. absurd (cc);
  }

  mended_standing : IsStanding d texts → IsStanding f texts
  mended_standing standing = record {
    numbers = standing.numbers;
    fronts = standing.fronts;
    new = λ m new. absurd (none_then m new);
    frozen = λ never. absurd (cc);
  }

-- a failover that ends keeps the log
pub mended_is_held : MendedIsHeld
mended_is_held d texts p held known repairs = record {
  some = held.some;
  logged = mended_logged d texts p held.logged held.mirrored known repairs;
  mirrored = mended_mirrored d texts p held.logged held.mirrored known repairs;
}

pub mended_is_standing : MendedIsStanding
mended_is_standing d texts p held standing known repairs =
    mended_standing d texts p held.logged held.mirrored known repairs standing
