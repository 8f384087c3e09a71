-- What a master counts is what was answered Ok, through every step and each answer to an op.
use Rattle.std.proofs.Common.{◌≡◌, ℕ, zero, suc, ◌<◌, ◌≤◌, inl, inr, Bool, true, false, cond, List, [], ◌∷◌, ◌++◌}
use Rattle.std.proofs.Common.{length, take}
use Rattle.std.proofs.Common.{append_assoc, append-nil, Some, refl, sym, ap, subst, ◌∙◌, arith}
use Rattle.std.specs.Prelude.{None, ◌==◌}
use Rattle.std.proofs.lemmas.Bool.{cases_eq}
use Rattle.std.proofs.lemmas.Bool.Decides.{nat_tests}
use Rattle.std.proofs.lemmas.List.{take-append-le}
use Rattle.std.proofs.lemmas.Option.{same_Some}
use Rattle.entry.specs.declared.entry.Entry.{Entry}
use Rattle.entry.specs.declared.entry.Entry.TheVariants as entry
use Rattle.entry.specs.declared.entry.Object.{Object}
use Rattle.entry.specs.Bag.{IsAmong}
use Rattle.entry.specs.Text.{text_of}
use Rattle.entry.proofs.BagLemmas.{among_push}
use Rattle.replica.specs.declared.op.TakeFault.TheVariants as take_fault
use Rattle.replica.specs.Acks.{acked, bytes_after, IsPut, Grows, WasAcked, HasPut}
use Rattle.replica.specs.Picture.{Ack, FleetState, is_same_place}
use Rattle.replica.proofs.Acks.{grows_one, still_acked, still_put, acked_now, acked_elsewhere}
use Rattle.versioned_map.specs.declared.command.Record.{Record}
use Rattle.versioned_map.specs.Versioned.{State}
use Rattle.log_bytes.specs.log_laws.Heads.{Start, LogUnit, entries_of}
use Rattle.log_bytes.specs.log_laws.Ids.{has}
use Rattle.log_bytes.specs.log_laws.Ops.{op_of}
use Rattle.log_bytes.specs.log_laws.HeadSteps.{units_between}
use Rattle.log_bytes.proofs.log_laws.Fronts.{unit_front}
use Rattle.log_bytes.specs.log_laws.Text.{Text}
use Rattle.log_bytes.specs.log_laws.Shown.{Shown, Act, Open, Extend, Close, Seal, Free, Op, On, Raise}
use Rattle.log_bytes.specs.log_laws.Data.{front, front_entries, bare, FailConfig, Mode, FailData, HasTaken}
use Rattle.log_bytes.specs.log_laws.Data.{Closes, new_of}
use Rattle.log_bytes.specs.log_laws.Durable.{TakenHead, head_now, heads_of}
use Rattle.log_bytes.specs.log_laws.Log.{Texts, IsLogHeld}
use Rattle.log_bytes.specs.log_laws.Steps.{restored, applied, unit_now, rolling, id_taken, ended, failing, mended}
use Rattle.log_bytes.specs.log_laws.Steps.{adopted}
use Rattle.log_bytes.specs.log_laws.Steps.{with_taken, with_count}
use Rattle.log_bytes.proofs.log_laws.HeadOps.{up_to}
use Rattle.log_bytes.proofs.log_laws.Lists.{taken_either, count_same, count_other, has_here, has_there}
use Rattle.log_bytes.proofs.Effects.{longer}
use Rattle.log_bytes.proofs.FleetOps.{fleet_gives}
use Rattle.log_bytes.specs.Ops.{act_for, log_op_for, TakesOp, RefusesOp}
use Rattle.log_bytes.specs.Text.{bytes_for}
use Rattle.log_memory.specs.Acked.{bytes_up_to, AreAcked}
use Rattle.log_memory.specs.Loading.{with_object}
use Rattle.log_memory.specs.Ops.{IsHeadOp}
use Rattle.log_memory.specs.Past.{past_after}
use Rattle.log_memory.specs.Steps.{ids_taken}

-- ---- lists

has_among : (b : ℕ) (bs : List ℕ) → IsAmong b bs → has bs b ≡ true
has_among b [] never = absurd never
has_among b (c ∷ cs) (inl same) = rw same (has_here b cs)
has_among b (c ∷ cs) (inr l) = has_there c b cs (has_among b cs l)

-- ---- steps that take no op

-- nobody has taken a segment of which nobody is listed
nobody : (took : ℕ → List ℕ) (s t b : ℕ) → has (cond (s == t) [] (took s)) b ≡ true → has (took s) b ≡ true
nobody took s t b is = go (s == t) is where
  go : (x : Bool) → has (cond x [] (took s)) b ≡ true → has (took s) b ≡ true
  go true never = absurd (cc)
  go false old = old

module _ (master : ℕ) (d : FailData) (acks : List Ack) (past : List TakenHead) (is : AreAcked master d acks past) where
  -- the head in force, as one of the heads that there were
  pub acked_head : (h : TakenHead) (b : ℕ) → head_now d ≡ h → IsAmong b h.took
      → WasAcked acks b master h.head.start.id (bytes_up_to master h.head (h.counts b))
  acked_head h b same took = subst
      (λ (x : TakenHead). IsAmong b x.took
      → WasAcked acks b master x.head.start.id (bytes_up_to master x.head (x.counts b))) same
      (λ among. acked_now acks b master d.head.start.id _ (is.head b (has_among b (d.took d.head.start.id) among)))
      took

  -- acks of others don't matter
  pub acked_still : (more : List Ack) → Grows acks more
      → ((b s : ℕ) → acked more b master s ≡ acked acks b master s) → AreAcked master d more past
  acked_still more grows same = record {
    head = λ b took. same b d.head.start.id ∙ is.head b took;
    new = λ n b new took. same b n.id ∙ is.new n b new took;
    before = λ h b l took.
        still_acked acks more b master h.head.start.id _ grows (is.before h b l took);
    took = λ s b took. still_put acks more b master s grows (is.took s b took);
  }

  -- a command, of which the head has a unit more
  pub acked_applied : (segment : ℕ) (r : Record) → ((b : ℕ) → d.counts b ≤ length d.head.units)
      → AreAcked master (applied d segment r) acks past
  acked_applied segment r within = record {
    head = λ b took. is.head b took ∙ ap
        (λ (us : List LogUnit). bytes_for master d.head.start.id (record {
          opening = (front d.head 0).opening;
          entries = d.head.loaded ++ entries_of us;
        }))
        (sym (unit_front d.head.units (length d.history) (unit_now d segment r) (d.counts b) (within b)));
    new = is.new;
    before = is.before;
    took = is.took;
  }

  -- an object is loaded
  pub acked_loaded : (o : Object) → ((b : ℕ) → d.counts b ≤ length d.head.units)
      → AreAcked master (with_object d o) acks past
  acked_loaded o within = record {
    head = λ b took. is.head b took ∙ ap
        (λ (us : List LogUnit). bytes_for master d.head.start.id (record {
          opening = (front d.head 0).opening;
          entries = d.head.loaded ++ entries_of us;
        }))
        (sym (take-append-le (d.counts b) d.head.units
        (record { number = 0; entries = entry.Object o ∷ [] } ∷ []) (within b)));
    new = is.new;
    before = is.before;
    took = is.took;
  }

  pub acked_taken : AreAcked master (id_taken d) acks past
  acked_taken = record {
    head = λ b took. is.head b (nobody d.took d.head.start.id d.next b took);
    new = λ n b new took. is.new n b new (nobody d.took n.id d.next b took);
    before = is.before;
    took = λ s b took. is.took s b (nobody d.took s d.next b took);
  }

  -- a roll begins
  pub acked_rolling : (n : Start) (mode : Mode) → new_of mode ≡ Some n → AreAcked master (rolling d n mode) acks past
  acked_rolling n mode new = record {
    head = λ b took. is.head b (nobody d.took d.head.start.id n.id b took);
    new = λ x b is_new took. absurd (
        let same : x.id ≡ n.id = ap (λ (y : Start). y.id) (same_Some x n (sym is_new ∙ new)) in
        let test : (x.id == n.id) ≡ true = grind (arith, nat_tests) in
        let none : has (cond (x.id == n.id) [] (d.took x.id)) b ≡ false = rw test refl in
        let never : true ≡ false = sym took ∙ none in cc);
    before = is.before;
    took = λ s b took. is.took s b (nobody d.took s n.id b took);
  }

  -- it ends
  pub acked_ended : (n : Start) (mode : Mode) → new_of d.mode ≡ Some n → new_of mode ≡ None
      → AreAcked master (ended d n mode) acks (past_after d past)
  acked_ended n mode was none = record {
    head = λ b took. is.new n b was took;
    new = λ x b is_new took. absurd (let never : None ≡ Some x = sym none ∙ is_new in cc);
    before = by_test (d.head.start.id == 0);
    took = is.took;
  } where
    joined : (h : TakenHead) (b : ℕ) → IsAmong h (heads_of past d) → IsAmong b h.took
        → WasAcked acks b master h.head.start.id (bytes_up_to master h.head (h.counts b))
    joined h b l took = elim (among_push h past (head_now d) l)
        as (λ _. WasAcked acks b master h.head.start.id (bytes_up_to master h.head (h.counts b))) [
          | inl old ↦ is.before h b old took
          | inr same ↦ acked_head h b same took
        ]

    by_test : (t : Bool) (h : TakenHead) (b : ℕ) → IsAmong h (cond t past (heads_of past d)) → IsAmong b h.took
        → WasAcked acks b master h.head.start.id (bytes_up_to master h.head (h.counts b))
    by_test true h b l took = is.before h b l took
    by_test false h b l took = joined h b l took

  -- a backup fails, and a failover ends
  pub acked_failing : (b : ℕ) → AreAcked master (failing d b) acks past
  acked_failing b = record {
    head = is.head;
    new = λ n c never took. absurd (cc);
    before = is.before;
    took = is.took;
  }

  pub acked_mended : AreAcked master (mended d) acks past
  acked_mended = record {
    head = is.head;
    new = λ n c never took. absurd (cc);
    before = is.before;
    took = is.took;
  }

  -- the history begins
  pub acked_adopted : (st : State) → ((b : ℕ) → HasTaken d d.head.start.id b → d.counts b ≡ length d.head.units)
      → AreAcked master (adopted d st) acks past
  acked_adopted st whole = record {
    head = λ b took. is.head b took ∙ ap (bytes_up_to master d.head) (whole b took) ∙ ap
        (λ (es : List Entry). bytes_for master d.head.start.id (record {
          opening = (front d.head 0).opening;
          entries = es;
        }))
        (sym (append-nil (front_entries d.head (length d.head.units))));
    new = is.new;
    before = is.before;
    took = is.took;
  }

  -- no head is remembered
  pub acked_forgotten : AreAcked master d acks []
  acked_forgotten = record { head = is.head; new = is.new; before = λ h b never. absurd never; took = is.took }

-- nothing was taken of a new master
pub acked_restored : (c : FailConfig) (safe : ℕ) (acks : List Ack) → AreAcked c.master (restored c safe) acks []
acked_restored c safe acks = record {
  head = λ b never. absurd (cc);
  new = λ n b new never. absurd (cc);
  before = λ h b never. absurd never;
  took = λ s b never. absurd (cc);
}

-- ids are taken for the survivors of a pass
pub acked_begun : (master : ℕ) (d : FailData) (acks : List Ack) (past : List TakenHead) (n : ℕ)
    → AreAcked master d acks past → AreAcked master (ids_taken n d) acks past
acked_begun master d acks past zero is = is
acked_begun master d acks past (suc n) is =
    acked_taken master (ids_taken n d) acks past (acked_begun master d acks past n is)

-- ---- an ack

-- the ack of an act on one replica
abbrev pub ack_for : ℕ → ℕ → ℕ → Act → Ack
ack_for master b s act = record { backup = b; op = op_of master (log_op_for master b s act) }

module _ (master : ℕ) (acks : List Ack) (b s : ℕ) (act : Act) where
  -- what it changes at its place
  ack_here : acked (ack_for master b s act ∷ acks) b master s
      ≡ bytes_after (act_for master s act) (acked acks b master s)
  ack_here =
      let place : is_same_place b master s b master s ≡ true = grind (arith, nat_tests) in
      rw place refl

  -- and nothing elsewhere
  ack_there : (c t : ℕ) → ((b ≡ c) × (s ≡ t) → ⊥)
      → acked (ack_for master b s act ∷ acks) c master t ≡ acked acks c master t
  ack_there c t apart =
      acked_elsewhere acks (ack_for master b s act) c master t (away apart) where
        away : ((b ≡ c) × (s ≡ t) → ⊥) → is_same_place b master s c master t ≡ false
        away apart_is = grind (arith, nat_tests)

  grown : Grows acks (ack_for master b s act ∷ acks)
  grown = grows_one acks (ack_for master b s act)

-- an act that leaves the bytes as they are
ack_same : (master : ℕ) (acks : List Ack) (b s : ℕ) (act : Act)
    → ((bytes : List ℕ) → bytes_after (act_for master s act) bytes ≡ bytes) → (c t : ℕ)
    → acked (ack_for master b s act ∷ acks) c master t ≡ acked acks c master t
ack_same master acks b s act same c t = elim (cases_eq c b)
    as (λ _. acked (ack_for master b s act ∷ acks) c master t ≡ acked acks c master t) [
      | inl one ↦ elim (cases_eq t s) as (λ _. acked (ack_for master b s act ∷ acks) c master t
          ≡ acked acks c master t) [
            | inl two ↦ rw (one, two) (ack_here master acks b s act ∙ same (acked acks b master s))
            | inr other ↦ ack_there master acks b s act c t (λ both. other (sym both.1))
          ]
      | inr other ↦ ack_there master acks b s act c t (λ both. other (sym both.0))
    ]

-- ---- ops

-- an act that puts a replica
abbrev Puts : Act → Type 0
Puts (Open text) = Unit {0}
Puts (Extend at more) = ⊥
Puts Close = ⊥
Puts (Seal text) = Unit {0}
Puts Free = ⊥

is_put : (master s : ℕ) (act : Act) → Puts act → IsPut (act_for master s act)
is_put master s (Open text) put = tt
is_put master s (Extend at more) never = absurd never
is_put master s Close never = absurd never
is_put master s (Seal text) put = tt
is_put master s Free never = absurd never

module _ (master : ℕ) (d : FailData) (acks : List Ack) (past : List TakenHead) (is : AreAcked master d acks past)
    (texts : Texts) (p : Shown) (held : IsLogHeld d texts p) where
  abbrev id : ℕ
  id = d.head.start.id

  newer : (n : Start) → new_of d.mode ≡ Some n → d.head.start.id < n.id
  newer n new = held.logged.newer n (inl new)

  -- what went before, and who took what, with one ack more
  before_then : (a : Ack) (h : TakenHead) (b : ℕ) → IsAmong h past → IsAmong b h.took
      → WasAcked (a ∷ acks) b master h.head.start.id (bytes_up_to master h.head (h.counts b))
  before_then a h b l took =
      still_acked acks (a ∷ acks) b master h.head.start.id _ (grows_one acks a) (is.before h b l took)

  took_then : (a : Ack) (s b : ℕ) → HasTaken d s b → HasPut (a ∷ acks) b master s
  took_then a s b took = still_put acks (a ∷ acks) b master s (grows_one acks a) (is.took s b took)

  put_then : (b s : ℕ) (act : Act) → Puts act → (t c : ℕ) → has (with_taken d.took s b t) c ≡ true
      → HasPut (ack_for master b s act ∷ acks) c master t
  put_then b s act put t c took = elim (taken_either d.took s b t c took)
      as (λ _. HasPut (ack_for master b s act ∷ acks) c master t) [
        | inl at ↦ rw (at.0, at.1) (act_for master s act, is_put master s act put, inl refl)
        | inr old ↦ took_then (ack_for master b s act) t c old
      ]

  -- a home of the head takes its next units
  extended : (b to : ℕ) → HasTaken d id b → d.counts b < to → (at : ℕ) → AreAcked master
      (record d { counts = with_count d.counts b to })
      (ack_for master b id (Extend at (entries_of (units_between d.head.units (d.counts b) to))) ∷ acks) past
  extended b to home lags at = record {
    head = λ c took. elim (cases_eq c b)
        as (λ _. acked (ack ∷ acks) c master id ≡ bytes_up_to master d.head (with_count d.counts b to c)) [
          | inl one ↦ rw (one, count_same d.counts b to) (ack_here master acks b id act
              ∙ ap (λ (bytes : List ℕ). bytes ++ text_of units) (is.head b home)
              ∙ longer master id (front d.head (d.counts b)) units
              ∙ ap (λ (es : List Entry). bytes_for master id (record {
                opening = (front d.head 0).opening;
                entries = es;
              })) (append_assoc d.head.loaded (entries_of (take (d.counts b) d.head.units)) units
              ∙ ap (λ (es : List Entry). d.head.loaded ++ es)
              (up_to d texts p held.logged held.mirrored (d.counts b) to (omega arith))))
          | inr other ↦ rw (count_other d.counts b to c other)
              (ack_there master acks b id act c id (λ both. other (sym both.0)) ∙ is.head c took)
        ];
    new = λ n c new took.
        let more = newer n new in
        ack_there master acks b id act c n.id (λ both. let same = both.1 in omega arith) ∙ is.new n c new took;
    before = before_then ack;
    took = took_then ack;
  } where
    units : List Entry
    units = entries_of (units_between d.head.units (d.counts b) to)

    act : Act
    act = Extend at units

    ack : Ack
    ack = ack_for master b id act

  -- a new head is opened on one more backup
  opened : (b : ℕ) (n : Start) → new_of d.mode ≡ Some n → has (d.took n.id) b ≡ false → AreAcked master
      (record d { took = with_taken d.took n.id b }) (ack_for master b n.id (Open (bare n)) ∷ acks) past
  opened b n new apart = record {
    head = λ c took.
        let more = newer n new in
        ack_there master acks b n.id act c id (λ both. let same = both.1 in omega arith)
        ∙ is.head c (elim (taken_either d.took n.id b id c took) as (λ _. HasTaken d id c) [
          | inl at ↦ (let same = at.0 in absurd (omega arith))
          | inr old ↦ old
        ]);
    new = λ x c is_new took.
        subst (λ (y : Start). HasTaken e y.id c → acked (ack ∷ acks) c master y.id ≡ bytes_for master y.id (bare y))
        (same_Some n x (sym new ∙ is_new)) (new_then c) took;
    before = before_then ack;
    took = put_then b n.id act tt;
  } where
    act : Act
    act = Open (bare n)

    ack : Ack
    ack = ack_for master b n.id act

    e : FailData
    e = record d { took = with_taken d.took n.id b }

    new_then : (c : ℕ) → HasTaken e n.id c → acked (ack ∷ acks) c master n.id ≡ bytes_for master n.id (bare n)
    new_then c took = elim (taken_either d.took n.id b n.id c took)
        as (λ _. acked (ack ∷ acks) c master n.id ≡ bytes_for master n.id (bare n)) [
          | inl at ↦ rw (at.1) (ack_here master acks b n.id act)
          | inr old ↦ ack_there master acks b n.id act c n.id (λ both.
              let none : has (d.took n.id) c ≡ false = ap (has (d.took n.id)) (sym both.0) ∙ apart in
              let never : true ≡ false = sym old ∙ none in cc) ∙ is.new n c new old
        ]

  -- a lost replica of the head is opened anew
  replaced : (b : ℕ) → has (d.took id) b ≡ false → AreAcked master (record d {
    took = with_taken d.took id b;
    counts = with_count d.counts b (length d.head.units);
  }) (ack_for master b id (Open (front d.head (length d.head.units))) ∷ acks) past
  replaced b apart = record {
    head = λ c took. elim (cases_eq c b) as (λ _. acked (ack ∷ acks) c master id
        ≡ bytes_up_to master d.head (with_count d.counts b (length d.head.units) c)) [
          | inl one ↦ rw (one, count_same d.counts b (length d.head.units)) (ack_here master acks b id act)
          | inr other ↦ rw (count_other d.counts b (length d.head.units) c other)
              (ack_there master acks b id act c id (λ both. other (sym both.0))
              ∙ is.head c (elim (taken_either d.took id b id c took) as (λ _. HasTaken d id c) [
                | inl at ↦ absurd (other at.1)
                | inr old ↦ old
              ]))
        ];
    new = λ n c new took.
        let more = newer n new in
        ack_there master acks b id act c n.id (λ both. let same = both.1 in omega arith)
        ∙ is.new n c new (elim (taken_either d.took id b n.id c took) as (λ _. HasTaken d n.id c) [
          | inl at ↦ (let same = at.0 in absurd (omega arith))
          | inr old ↦ old
        ]);
    before = before_then ack;
    took = put_then b id act tt;
  } where
    act : Act
    act = Open (front d.head (length d.head.units))

    ack : Ack
    ack = ack_for master b id act

  -- a replica of a segment that is no head is sealed
  pub acked_sealed : (b s : ℕ) (text : Text) → (s ≡ d.head.start.id → ⊥)
      → ((n : Start) → new_of d.mode ≡ Some n → s ≡ n.id → ⊥) → AreAcked master
      (record d { took = with_taken d.took s b }) (ack_for master b s (Seal text) ∷ acks) past
  acked_sealed b s text no_head no_new = record {
    head = λ c took.
        ack_there master acks b s act c id (λ both. no_head both.1)
        ∙ is.head c (elim (taken_either d.took s b id c took) as (λ _. HasTaken d id c) [
          | inl at ↦ absurd (no_head (sym at.0))
          | inr old ↦ old
        ]);
    new = λ n c new took.
        ack_there master acks b s act c n.id (λ both. no_new n new both.1)
        ∙ is.new n c new (elim (taken_either d.took s b n.id c took) as (λ _. HasTaken d n.id c) [
          | inl at ↦ absurd (no_new n new (sym at.0))
          | inr old ↦ old
        ]);
    before = before_then ack;
    took = put_then b s act tt;
  } where
    act : Act
    act = Seal text

    ack : Ack
    ack = ack_for master b s act

  -- an act that leaves the bytes as they are, and who took what
  unchanged : (b s : ℕ) (act : Act) → ((bytes : List ℕ) → bytes_after (act_for master s act) bytes ≡ bytes)
      → AreAcked master d (ack_for master b s act ∷ acks) past
  unchanged b s act same = acked_still master d acks past is (ack_for master b s act ∷ acks)
      (grows_one acks (ack_for master b s act)) (λ c t. ack_same master acks b s act same c t)

  pub acked_freed : (b s : ℕ) → AreAcked master d (ack_for master b s Free ∷ acks) past
  acked_freed b s = unchanged b s Free (λ bytes. refl)

-- ---- what a fleet's acks are

-- an op on a backup adds its ack
pub takes_ack : (master : ℕ) (f g : FleetState) (b s : ℕ) (act : Act) → TakesOp master f (On b s act) g
    → g.acks ≡ ack_for master b s act ∷ f.acks
takes_ack master f g b s act took =
    ap (λ (x : FleetState). x.acks) (fleet_gives f b (op_of master (log_op_for master b s act)) g took.1).same

-- after a fault there is no ack
pub fault_acks : (master : ℕ) (f g : FleetState) (o : Op) → RefusesOp master f o take_fault.Fault g → g.acks ≡ f.acks
fault_acks master f g (On b s act) (inl same) = ap (λ (x : FleetState). x.acks) same
fault_acks master f g (On b s act) (inr took) = ap (λ (x : FleetState). x.acks) took.2
fault_acks master f g (Raise id) (inl same) = ap (λ (x : FleetState). x.acks) same
fault_acks master f g (Raise id) (inr took) = ap (λ (x : FleetState). x.acks) took.2

module _ (master : ℕ) (d : FailData) (f g : FleetState) (past : List TakenHead)
    (is : AreAcked master d f.acks past) (texts : Texts) (p : Shown) (held : IsLogHeld d texts p) where
  -- what the op on a backup leaves, once it is this one
  pub acked_on : (o : Op) (b s : ℕ) (act : Act) (e x : FailData) → o ≡ On b s act → e ≡ x → TakesOp master f o g
      → AreAcked master x (ack_for master b s act ∷ f.acks) past → AreAcked master e g.acks past
  acked_on o b s act e x op gives took then =
      subst (λ (y : FailData). AreAcked master y g.acks past) (sym gives)
      (subst (λ (acks : List Ack). AreAcked master x acks past)
      (sym (takes_ack master f g b s act (subst (λ (y : Op). TakesOp master f y g) op took))) then)

  -- an op of the head or of a new one
  pub head_acked : (o : Op) (e : FailData) → IsHeadOp d o e → TakesOp master f o g → AreAcked master e g.acks past
  head_acked o e (inl op) took =
      acked_on o op.b d.head.start.id _ e _ op.op op.gives took
      (extended master d f.acks past is texts p held op.b op.to op.home.0 op.lags _)
  head_acked o e (inr (inl op)) took =
      acked_on o op.b op.n.id _ e _ op.op op.gives took
      (opened master d f.acks past is texts p held op.b op.n
      (elim op.mode as (λ _. new_of d.mode ≡ Some op.n) [
        | inl rolls ↦ ap new_of rolls
        | inr opens ↦ ap new_of opens
      ]) op.apart)
  head_acked o e (inr (inr (inl op))) took =
      acked_on o op.b d.head.start.id _ e _ op.op op.gives took
      (replaced master d f.acks past is texts p held op.b op.apart)
  head_acked o e (inr (inr (inr (inl op)))) took =
      let raised : g.acks ≡ f.acks =
      ap (λ (x : FleetState). x.acks) (subst (λ (y : Op). TakesOp master f y g) op.op took).1 in
      subst (λ (y : FailData). AreAcked master y g.acks past) (sym op.gives)
      (subst (λ (acks : List Ack). AreAcked master (record d { mode = Closes op.n }) acks past) (sym raised) (record {
        head = is.head;
        new = λ n b new took_it. is.new n b (ap new_of op.mode ∙ new) took_it;
        before = is.before;
        took = is.took;
      }))
  head_acked o e (inr (inr (inr (inr op)))) took =
      acked_on o op.b d.head.start.id Close e _ op.op op.gives took
      (let then = unchanged master d f.acks past is texts p held op.b d.head.start.id Close (λ bytes. refl) in
      record { head = then.head; new = then.new; before = then.before; took = then.took })
