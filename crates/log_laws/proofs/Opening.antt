-- A new head is opened on a backup, and the registry is raised to it.
use Rattle.std.proofs.Common.{◌≡◌, ℕ, ◌<◌, ◌≤◌, ◌⊎◌, inl, inr, true, false, List, length, map, max, Some, refl, sym, ap}
use Rattle.std.proofs.Common.{subst, ◌∙◌, arith}
use Rattle.std.proofs.lemmas.Bool.{cases_lt}
use Rattle.std.proofs.lemmas.Option.{same_Some}
use Rattle.log_laws.specs.Heads.{Start, fewest}
use Rattle.log_laws.specs.Ids.{has}
use Rattle.log_laws.specs.Text.{Text, Replica}
use Rattle.log_laws.specs.Shown.{Shown, Op, taken}
use Rattle.log_laws.specs.Data.{bare, bare_replica, Opens, Closes, FailData, new_of, failover_head_of, is_failing}
use Rattle.log_laws.specs.Data.{IsNew, everywhere}
use Rattle.log_laws.specs.Log.{Texts, IsLogged, IsCopy, IsReplica, IsOther, HoldsCopy, IsLeast, IsMirrored}
use Rattle.log_laws.specs.Log.{IsStanding, IsLogHeld}
use Rattle.log_laws.specs.Steps.{with_taken, OpensNew}
use Rattle.log_laws.specs.Laws.{OpensHeld, OpensStanding, RaisesHeld, RaisesStanding}
use Rattle.log_laws.proofs.Again.{recounted, logged_again, standing_again, mirrored_again}
use Rattle.log_laws.proofs.Lists.{with_taken_other, taken_still, taken_either, taken_longer}
use Rattle.log_laws.proofs.Pictures.{is_taken, opened}
use Rattle.log_laws.proofs.Placing.{one_bare, IsPut, put_there}

-- who took another segment doesn't matter to what all backups of the head took
pub everywhere_apart : (d : FailData) (s b : ℕ) → (d.head.start.id ≡ s → ⊥)
    → everywhere d ≡ everywhere (recounted d d.counts d.shut (with_taken d.took s b))
everywhere_apart d s b apart = ap (λ (l : List ℕ). fewest (length d.head.units) (map d.counts l))
    (sym (with_taken_other d.took s b d.head.start.id apart))

module _ (d e : FailData) (texts : Texts) (p q : Shown) (o : Op) (log : IsLogged d texts) (mir : IsMirrored d texts p)
    (op : OpensNew d o e) (took : taken p o ≡ Some q) (within : op.b < d.config.backups) where
  abbrev id : ℕ
  id = d.head.start.id

  abbrev b : ℕ
  b = op.b

  abbrev n : Start
  n = op.n

  mode_new : new_of d.mode ≡ Some n
  mode_new = elim op.mode as (λ _. new_of d.mode ≡ Some n) [
    | inl rolls ↦ ap new_of rolls
    | inr opens ↦ ap new_of opens
  ]

  is_new : IsNew d n
  is_new = inl mode_new

  apart : id < n.id
  apart = log.newer n is_new

  copy : IsCopy texts n.id (bare_replica n)
  copy = (inl (sym (ap (λ (t : Text). t.entries) (log.new_text n is_new))), inr (sym (log.new_text n is_new)))

  put : IsPut d texts b n.id (bare_replica n) q
  put =
      let is = is_taken p q o b n.id _ op.op took in
      put_there d texts p q b n.id _ (bare_replica n) mir is
      (opened (bare n) (p.holds b n.id) is.x is.given).1 (record {
        bounded = within;
        is = inr (inl (n, is_new, refl, refl));
        new = λ m also same. (one_bare d texts log n m is_new also same, op.whole);
        other = λ other home. copy;
        shut = λ same _. let lt = apart in absurd (omega arith);
      })

  abbrev took_now : ℕ → List ℕ
  took_now = with_taken d.took n.id b

  same_head : (c : ℕ) → has (took_now id) c ≡ true → has (d.took id) c ≡ true
  same_head c is = elim (taken_either d.took n.id b id c is) as (λ _. has (d.took id) c ≡ true) [
    | inl at ↦ (let lt = apart in let same = at.0 in absurd (omega arith))
    | inr old ↦ old
  ]

  opens_known : IsMirrored (recounted d d.counts d.shut took_now) texts q
  opens_known =
      let mirror = put.mirrored in
      mirrored_again d texts q d.counts d.shut took_now log mirror (record {
        longer = λ s. taken_longer d.took n.id b s;
        reach = λ c r there h. elim h.reach as (λ _. ((has (took_now id) c ≡ true) × (d.counts c ≤ h.k))
            ⊎ ((h.k ≡ length d.head.units) × (is_failing d.mode ≡ true))) [
              | inl had ↦ inl (taken_still d.took n.id b id c had.0, had.1)
              | inr all ↦ inr all
            ];
        head = λ c is. mirror.head c (same_head c is);
        new = λ m c also is. elim (taken_either d.took n.id b m.id c is)
            as (λ _. q.holds c m.id ≡ Some (bare_replica m)) [
              | inl at ↦ ap (λ (x : ℕ). q.holds x m.id) at.1 ∙ ap (q.holds b) at.0 ∙ put.there
                  ∙ ap (λ (r : Replica). Some r) (one_bare d texts log n m is_new also (sym at.0))
              | inr old ↦ mirror.new m c also old
            ];
        others = λ s c other is works. elim (taken_either d.took n.id b s c is) as (λ _. HoldsCopy texts q c s) [
          | inl at ↦ subst (λ (x : ℕ). HoldsCopy texts q x s) (sym at.1)
              (subst (λ (x : ℕ). HoldsCopy texts q b x) (sym at.0) (bare_replica n, put.there, copy))
          | inr old ↦ mirror.others s c other (old, works)
        ];
        whole = λ m c f also some is works. mirror.whole m c f also some (same_head f is, works);
        is_shut = mirror.shut;
        homes = λ settled c is. mirror.homes settled c (same_head c is);
        new_homes = λ m c new is. elim (taken_either d.took n.id b m.id c is) as (λ _. has d.failed c ≡ false) [
          | inl at ↦ ap (has d.failed) at.1 ∙ op.works
          | inr old ↦ mirror.new_homes m c new old
        ];
      })

-- a new head's replica that is opened, whether the master knows it or not
pub opens_held : OpensHeld
opens_held d e texts p q o held op within took =
    let took_now = with_taken d.took op.n.id op.b in (
      record {
        some = held.some;
        logged = held.logged;
        mirrored = (put d e texts p q o held.logged held.mirrored op took within).mirrored;
      },
      subst (λ (x : FailData). IsLogHeld x texts q) (sym op.gives) (record {
        some = held.some;
        logged = logged_again d texts d.counts d.shut took_now held.logged held.logged.counted;
        mirrored = opens_known d e texts p q o held.logged held.mirrored op took within;
      }),
    )

pub opens_standing : OpensStanding
opens_standing d e texts p q o held standing op within took =
    let lt = apart d e texts p q o held.logged held.mirrored op took within in
    let same = everywhere_apart d op.n.id op.b (λ is. omega arith) in
    subst (λ (x : FailData). IsStanding x texts) (sym op.gives)
    (standing_again d texts d.counts d.shut (with_taken d.took op.n.id op.b) standing (omega arith))

-- ---- the registry

module _ (d : FailData) (texts : Texts) (p : Shown) (n : Start) (mir : IsMirrored d texts p) (opens : d.mode ≡ Opens n)
    (enough : d.config.replicas ≤ length (d.took n.id)) where
  abbrev q : Shown
  q = record { holds = p.holds; least = max p.least n.id }

  each_raised : (b s : ℕ) (r : Replica) → IsReplica d texts p.least b s r → IsReplica d texts q.least b s r
  each_raised b s r (inl is) = inl is
  each_raised b s r (inr (inl is)) = inr (inl is)
  each_raised b s r (inr (inr is)) = inr (inr (record {
    next = is.next;
    opening = is.opening;
    whole = is.whole;
    bears = λ some. let old = is.bears some in (
      old.0,
      elim old.1 as (λ _. (r.is_open ≡ false) ⊎ (s < max p.least n.id)) [
        | inl shut ↦ inl shut
        | inr below ↦ inr (omega arith)
      ],
    );
  }))

  least_raised : IsLeast d p.least → IsLeast d (max p.least n.id)
  least_raised (inl old) = elim (cases_lt n.id p.least) as (λ _. IsLeast d (max p.least n.id)) [
    | inl lt ↦ inl (omega arith)
    | inr ge ↦ inr (n, ap failover_head_of opens, omega arith, enough)
  ]
  least_raised (inr third) =
      let one : third.0 ≡ n = same_Some third.0 n (sym third.1 ∙ ap failover_head_of opens) in
      let id : third.0.id ≡ n.id = ap (λ (x : Start). x.id) one in
      let le = third.2 in inr (n, ap failover_head_of opens, omega arith, enough)

  raised_there : IsMirrored d texts q
  raised_there = record {
    bounded = mir.bounded;
    each = λ b s r is. each_raised b s r (mir.each b s r is);
    head = mir.head;
    opened = mir.opened;
    new = mir.new;
    others = mir.others;
    whole = mir.whole;
    least = least_raised mir.least;
    raised = λ m closes. let never : Opens n ≡ Closes m = sym opens ∙ closes in absurd (cc);
    shut = mir.shut;
    homes = mir.homes;
    new_homes = mir.new_homes;
  }

  abbrev x : FailData
  x = record d { mode = Closes n }

  -- the new heads are those that there were
  new_before : (m : Start) → IsNew x m → IsNew d m
  new_before m (inl is) = inl (ap new_of opens ∙ is)
  new_before m (inr is) = inr is

  new_after : (m : Start) → IsNew d m → IsNew x m
  new_after m (inl is) = inl (sym (ap new_of opens) ∙ is)
  new_after m (inr is) = inr is

  fails : is_failing d.mode ≡ true
  fails = ap is_failing opens

  each_known : (b s : ℕ) (r : Replica) → IsReplica d texts q.least b s r → IsReplica x texts q.least b s r
  each_known b s r (inl is) = inl (
    is.0,
    record {
      k = is.1.k;
      within = is.1.within;
      text = is.1.text;
      reach = elim is.1.reach as (λ _. ((has (d.took d.head.start.id) b ≡ true) × (d.counts b ≤ is.1.k))
          ⊎ ((is.1.k ≡ length d.head.units) × (true ≡ true))) [ inl had ↦ inl had | inr all ↦ inr (all.0, refl) ];
      shut = λ closed. let all = is.1.shut closed in
          (all.0, record { n = all.1.n; is_new = new_after all.1.n all.1.is_new; opened = all.1.opened });
    },
  )
  each_known b s r (inr (inl is)) = inr (inl (is.0, new_after is.0 is.1, is.2, is.3))
  each_known b s r (inr (inr is)) =
      inr (inr (record { next = is.next; opening = is.opening; whole = is.whole; bears = is.bears }))

  other_before : (s : ℕ) → IsOther x s → IsOther d s
  other_before s (inl m) = inl m
  other_before s (inr is) = inr (is.0, new_before is.0 is.1, is.2, is.3)

  raised_known : IsMirrored x texts q
  raised_known =
      let mirror = raised_there in
      record {
        bounded = mirror.bounded;
        each = λ b s r is. each_known b s r (mirror.each b s r is);
        head = mirror.head;
        opened = mirror.opened;
        new = λ m b is_new took. mirror.new m b (new_before m is_new) took;
        others = λ s b other home. mirror.others s b (other_before s other) home;
        whole = λ m b c is_new some home. mirror.whole m b c (new_before m is_new) some home;
        least = elim mirror.least as (λ _. IsLeast x q.least) [
          | inl old ↦ inl old
          | inr third ↦ inr (third.0, sym (ap failover_head_of opens) ∙ third.1, third.2, third.3)
        ];
        raised = λ m closes.
            let same : Some n ≡ Some m = ap failover_head_of closes in
            let id : n.id ≡ m.id = ap (λ (y : Start). y.id) (same_Some n m same) in omega arith;
        shut = mirror.shut;
        homes = λ never. absurd (cc);
        new_homes = λ m b is took. mirror.new_homes m b (ap new_of opens ∙ is) took;
      }

  raised_logged : IsLogged d texts → IsLogged x texts
  raised_logged log = record {
    head = log.head;
    text = log.text;
    counted = log.counted;
    one = log.one;
    some = log.some;
    new = λ m is_new. log.new m (new_before m is_new);
    newer = λ m is_new. log.newer m (new_before m is_new);
    new_text = λ m is_new. log.new_text m (new_before m is_new);
    new_one = λ m is_new. log.new_one m (new_before m is_new);
    keys = log.keys;
    images = log.images;
    above = λ m k is among. log.above m k (ap failover_head_of opens ∙ is) among;
    settled = λ never. absurd (cc);
    repairs = λ never. absurd (cc);
    two = λ is. log.two fails;
  }

  raised_standing : IsStanding d texts → IsStanding x texts
  raised_standing standing = record {
    numbers = standing.numbers;
    fronts = standing.fronts;
    new = λ m is_new. standing.new m (new_before m is_new);
    frozen = λ is. standing.frozen fails;
  }

-- a raise that is taken, whether the master knows it or not
pub raises_held : RaisesHeld
raises_held d e texts p q o held op took =
    let q_is : record { holds = p.holds; least = max p.least op.n.id } ≡ q =
    same_Some _ q (sym (ap (taken p) op.op) ∙ took) in (
      subst (IsLogHeld d texts) q_is (record {
        some = held.some;
        logged = held.logged;
        mirrored = raised_there d texts p op.n held.mirrored op.mode op.opened;
      }),
      subst (λ (x : FailData). IsLogHeld x texts q) (sym op.gives)
          (subst (IsLogHeld (record d { mode = Closes op.n }) texts) q_is (record {
            some = held.some;
            logged = raised_logged d texts p op.n held.mirrored op.mode op.opened held.logged;
            mirrored = raised_known d texts p op.n held.mirrored op.mode op.opened;
          })),
    )

pub raises_standing : RaisesStanding
raises_standing d e texts p q o held standing op took =
    subst (λ (x : FailData). IsStanding x texts) (sym op.gives)
    (raised_standing d texts p op.n held.mirrored op.mode op.opened standing)
