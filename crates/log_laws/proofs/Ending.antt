-- A new head comes into force, at the end of a roll or in a failover.
use Rattle.std.proofs.Common.{◌≡◌, ℕ, ◌<◌, ◌≤◌, ◌⊎◌, inl, inr, false, List, ◌++◌, length, Some, refl, sym, ap, subst}
use Rattle.std.proofs.Common.{◌∙◌, arith}
use Rattle.std.specs.Prelude.{None}
use Rattle.std.proofs.lemmas.Bool.{cases_eq, cases_Bool}
use Rattle.std.proofs.lemmas.List.{append-nil}
use Rattle.std.proofs.lemmas.Option.{same_Some}
use Rattle.entry.specs.declared.entry.Entry.{Entry}
use Rattle.entry.specs.Bag.{IsAmong}
use Rattle.versioned_map.specs.Represents.{Represents}
use Rattle.versioned_map.specs.Versioned.{State}
use Rattle.log_laws.specs.Heads.{Start, entries_of}
use Rattle.log_laws.specs.Ids.{has}
use Rattle.log_laws.proofs.Counts.{before_le}
use Rattle.log_laws.specs.Text.{Text, Replica}
use Rattle.log_laws.specs.Shown.{Shown}
use Rattle.log_laws.specs.Data.{bare_replica, Mode, Calm, Closes, Repairs, FailData, IsHome, HasTaken, new_of}
use Rattle.log_laws.specs.Data.{failover_head_of, is_failing, is_settled, IsNew, everywhere, state_after}
use Rattle.log_laws.specs.Log.{Texts, IsLogged, IsHeadReplica, IsReplica, IsOther, HoldsCopy, IsMirrored}
use Rattle.log_laws.specs.Log.{IsStanding}
use Rattle.log_laws.specs.Steps.{ended, EndsRoll, IsKnown}
use Rattle.log_laws.specs.Laws.{EndingIsHeld, EndingIsStanding}
use Rattle.log_laws.proofs.Lists.{both_ways, some_member, is_some}
use Rattle.log_laws.proofs.Replicas.{any_opening, any_whole, next_of, head_copy}
use Rattle.log_laws.proofs.States.{after_all, take_none, third_is}

-- a replica of the new head is on a backup that took it and hasn't failed
pub known_new : (d : FailData) (p : Shown) → IsKnown d p → (n : Start) → new_of d.mode ≡ Some n → (b : ℕ) (r : Replica)
    → p.holds b n.id ≡ Some r → HasTaken d n.id b
known_new d p known n new b r there = elim (cases_Bool (has d.failed b)) as (λ _. HasTaken d n.id b) [
  | inl failed ↦ (let never : None ≡ Some r = sym (known.new b n failed new) ∙ there in absurd (cc))
  | inr works ↦ elim (cases_Bool (has (d.took n.id) b)) as (λ _. HasTaken d n.id b) [
    | inl took ↦ took
    | inr away ↦ (let never : None ≡ Some r = sym (known.absent b n.id works away) ∙ there in absurd (cc))
  ]
]

module _ (d : FailData) (texts : Texts) (p : Shown) (n : Start) (mode : Mode) (some : 0 < d.config.replicas)
    (log : IsLogged d texts) (mir : IsMirrored d texts p) (known : IsKnown d p) (ends : EndsRoll d n mode) where
  abbrev id : ℕ
  id = d.head.start.id

  abbrev e : FailData
  e = ended d n mode

  mode_new : new_of d.mode ≡ Some n
  mode_new = elim ends.may as (λ _. new_of d.mode ≡ Some n) [
    | inl is ↦ ap new_of is.0
    | inr is ↦ ap new_of is.0
  ]

  is_new : IsNew d n
  is_new = inl mode_new

  newer : id < n.id
  newer = log.newer n is_new

  -- there is no new head then
  never_new : (m : Start) → IsNew e m → ⊥
  never_new m (inl is) = elim ends.may as (λ _. ⊥) [
    | inl calm ↦ (let never : None ≡ Some m = sym (ap new_of calm.1) ∙ is in cc)
    | inr fails ↦ (let never : None ≡ Some m = sym (ap new_of fails.1) ∙ is in cc)
  ]
  never_new m (inr among) = among

  third_none : (m : Start) → failover_head_of mode ≡ Some m → ⊥
  third_none m is = elim ends.may as (λ _. ⊥) [
    | inl calm ↦ (let never : None ≡ Some m = sym (ap failover_head_of calm.1) ∙ is in cc)
    | inr fails ↦ (let never : None ≡ Some m = sym (ap failover_head_of fails.1) ∙ is in cc)
  ]

  same_failing : is_failing d.mode ≡ is_failing mode
  same_failing = elim ends.may as (λ _. is_failing d.mode ≡ is_failing mode) [
    | inl is ↦ ap is_failing is.0 ∙ sym (ap is_failing is.1)
    | inr is ↦ ap is_failing is.0 ∙ sym (ap is_failing is.1)
  ]

  -- each home of the old head has all units
  home_whole : (c : ℕ) → IsHome d id c → d.counts c ≡ length d.head.units
  home_whole c home =
      let opened = ends.opened in
      let one = some_member (d.took n.id) (omega arith) in
      mir.whole n one.0 c is_new (is_some (p.holds one.0 n.id) (bare_replica n) (mir.new n one.0 is_new one.1)) home

  -- ---- the old heads

  -- a replica of the head that was in force is closed, or below the least
  old_shut : (b : ℕ) (r : Replica) → p.holds b id ≡ Some r → IsHeadReplica d b r
      → (r.is_open ≡ false) ⊎ (id < p.least)
  old_shut b r there is = elim ends.may as (λ _. (r.is_open ≡ false) ⊎ (id < p.least)) [
    | inl calm ↦ elim is.reach as (λ _. (r.is_open ≡ false) ⊎ (id < p.least)) [
      | inl had ↦ (
          let works = mir.homes (ap is_settled calm.0) b had.0 in
          inl (mir.shut b r (ends.shut b (had.0, works)) there))
      | inr all ↦ absurd (both_ways (is_failing d.mode) all.1 (ap is_failing calm.0))
    ]
    | inr fails ↦ (let up = mir.raised n fails.0 in let lt = newer in inr (omega arith))
  ]

  -- what a replica of an abandoned head is
  old_new : (m : Start) (b : ℕ) → IsAmong m d.abandoned → IsReplica e texts p.least b m.id (bare_replica m)
  old_new m b among = elim ends.may as (λ _. IsReplica e texts p.least b m.id (bare_replica m)) [
    | inl calm ↦ absurd (subst (IsAmong m) (log.settled (ap is_settled calm.0)) among)
    | inr fails ↦ (
        let text = log.new_text m (inr among) in
        let above = log.above n m (ap failover_head_of fails.0) among in
        let up = mir.raised n fails.0 in
        inr (inr (record {
          next = (log.new m (inr among)).next;
          opening = sym (ap (λ (t : Text). t.opening) text);
          whole = inl (inl (sym (ap (λ (t : Text). t.entries) text)), inr (sym text));
          bears = λ _. (above, inr (omega arith));
        })))
  ]

  -- what a replica of the new head is
  own_new : (b : ℕ) → HasTaken d n.id b → IsReplica e texts p.least b n.id (bare_replica n)
  own_new b took = inl (
    refl,
    record {
      k = 0;
      within = omega arith;
      text = refl;
      reach = inl (took, omega arith);
      shut = λ never. absurd (cc);
    },
  )

  each_new : (m : Start) (b : ℕ) (r : Replica) → IsNew d m → p.holds b m.id ≡ Some r → r ≡ bare_replica m
      → IsReplica e texts p.least b m.id r
  each_new m b r (inl is) there same =
      let one : m ≡ n = same_Some m n (sym is ∙ mode_new) in
      subst (λ (x : Start). IsReplica e texts p.least b x.id r) (sym one)
      (subst (λ (x : Replica). IsReplica e texts p.least b n.id x)
      (sym (same ∙ ap bare_replica one))
      (own_new b (known_new d p known n mode_new b r (subst (λ (x : Start). p.holds b x.id ≡ Some r) one there))))
  each_new m b r (inr among) there same =
      subst (λ (x : Replica). IsReplica e texts p.least b m.id x) (sym same) (old_new m b among)

  each_then : (b s : ℕ) (r : Replica) → p.holds b s ≡ Some r → IsReplica d texts p.least b s r
      → IsReplica e texts p.least b s r
  each_then b s r there (inl is) =
      let lt = newer in
      let same = is.0 in
      inr (inr (record {
        next = next_of d texts log p.least b s r (inl is);
        opening = any_opening d texts log p.least b s r (inl is);
        whole = any_whole d texts log p.least mir.homes b s r (λ _. home_whole) (inl is);
        bears = λ _. (
          omega arith,
          elim (old_shut b r (subst (λ (t : ℕ). p.holds b t ≡ Some r) same there) is.1)
              as (λ _. (r.is_open ≡ false) ⊎ (s < p.least)) [ inl shut ↦ inl shut | inr below ↦ inr (omega arith) ],
        );
      }))
  each_then b s r there (inr (inl is)) =
      subst (λ (t : ℕ). IsReplica e texts p.least b t r) (sym is.2)
      (each_new is.0 b r is.1 (subst (λ (t : ℕ). p.holds b t ≡ Some r) is.2 there) is.3)
  each_then b s r there (inr (inr is)) = inr (inr (record {
    next = is.next;
    opening = is.opening;
    whole = is.whole;
    bears = λ has_one. let old = is.bears has_one in ((let lt = newer in let below = old.0 in omega arith), old.1);
  }))

  others_then : (s b : ℕ) → IsOther e s → IsHome e s b → HoldsCopy texts p b s
  others_then s b (inr is) home = absurd (never_new is.0 is.1)
  others_then s b (inl m) home = elim (cases_eq s id) as (λ _. HoldsCopy texts p b s) [
    | inl same ↦ subst (λ (t : ℕ). HoldsCopy texts p b t) (sym same)
        (head_copy d texts p log mir b (subst (λ (t : ℕ). IsHome d t b) same home) (home_whole b))
    | inr other ↦ mir.others s b (inr (n, is_new, m, other)) home
  ]

  ended_mirrored : IsMirrored e texts p
  ended_mirrored = record {
    bounded = mir.bounded;
    each = λ b s r is. each_then b s r is (mir.each b s r is);
    head = λ b took. is_some (p.holds b n.id) (bare_replica n) (mir.new n b is_new took);
    opened = inr ends.opened;
    new = λ m b new. absurd (never_new m new);
    others = others_then;
    whole = λ m b c new. absurd (never_new m new);
    least = elim mir.least as (λ _. (p.least ≤ n.id) ⊎ _) [
      | inl old ↦ (let lt = newer in inl (omega arith))
      | inr third ↦ (
          let one = ap (λ (x : Start). x.id) (same_Some third.0 n (sym (third_new third.0 third.1) ∙ mode_new)) in
          let le = third.2 in inl (omega arith))
    ];
    raised = λ m is. elim ends.may as (λ _. m.id ≤ p.least) [
      | inl calm ↦ (let never : Calm ≡ Closes m = sym calm.1 ∙ is in absurd (cc))
      | inr fails ↦ (let never : Repairs ≡ Closes m = sym fails.1 ∙ is in absurd (cc))
    ];
    shut = λ b r never. absurd (cc);
    homes = λ _ b took. mir.new_homes n b mode_new took;
    new_homes = λ m b is. absurd (never_new m (inl is));
  } where
    third_new : (m : Start) → failover_head_of d.mode ≡ Some m → new_of d.mode ≡ Some m
    third_new m is = third_is d.mode m is

  -- ---- texts and what they stand for

  ended_logged : IsLogged e texts
  ended_logged = record {
    head = log.new n is_new;
    text = log.new_text n is_new;
    counted = λ b. omega arith;
    one = log.new_one n is_new;
    some = λ u among. absurd among;
    new = λ m new. absurd (never_new m new);
    newer = λ m new. absurd (never_new m new);
    new_text = λ m new. absurd (never_new m new);
    new_one = λ m new. absurd (never_new m new);
    keys = log.keys;
    images = log.images;
    above = λ m k is. absurd (third_none m is);
    settled = λ _. refl;
    repairs = λ _. (refl, refl);
    two = λ fails. log.two (same_failing ∙ fails);
  }

  ended_standing : IsStanding d texts → IsStanding e texts
  ended_standing standing = record {
    numbers = omega arith;
    fronts = λ k base le at.
        subst (λ (es : List Entry). Represents n.safe es (state_after e (length d.history)))
        (sym (append-nil base) ∙ ap (λ (us : List _). base ++ entries_of us) (sym (take_none k)))
        (subst (λ (st : State). Represents n.safe base st) (sym (after_all d)) (standing.new n is_new base at));
    new = λ m new. absurd (never_new m new);
    frozen = λ is.
        let old = standing.frozen (same_failing ∙ is) in
        let all = before_le 0 d.head.units (length d.history) (everywhere d) standing.numbers in omega arith;
  }

pub ending_is_held : EndingIsHeld
ending_is_held d texts p n mode held known ends = record {
  some = held.some;
  logged = ended_logged d texts p n mode held.some held.logged held.mirrored known ends;
  mirrored = ended_mirrored d texts p n mode held.some held.logged held.mirrored known ends;
}

pub ending_is_standing : EndingIsStanding
ending_is_standing d texts p n mode held standing known ends =
    ended_standing d texts p n mode held.some held.logged held.mirrored known ends standing
