-- A core stays valid when replicas of the head took units, or the open failover goes on with its next part.
use Rattle.std.proofs.Common.{◌≡◌, ℕ, ◌≤◌, Bool, true, false, List, [], ◌∷◌, ◌++◌, ◌+◌, length, refl, sym, ap}
use Rattle.std.proofs.Common.{subst, ◌∙◌, arith}
use Rattle.std.specs.Prelude.{Option, Some, None, IfSome, is_some, not, nat_le, slice_set, sum_by, ◌||◌}
use Rattle.std.specs.Prelude.{if◌then◌else◌}
use Rattle.std.specs.Option.{option_map_or}
use Rattle.std.proofs.lemmas.Bool.{leb-true, le-leb}
use Rattle.std.proofs.lemmas.List.{length-append, length-set}
use Rattle.master_state.specs.cleaner.declared.pass.Pass.{Pass}
use Rattle.master_state.specs.cleaner.Seals.{first_lacking}
use Rattle.images.specs.Images.{count_of}
use Rattle.log_head.specs.log_laws.Heads.{Start}
use Rattle.log_head.specs.declared.head.Roll.{Roll}
use Rattle.log_head.specs.Head.{HeadValue, IsHeadValue}
use Rattle.log_head.specs.Log.{head_of}
use Rattle.log_head.specs.Steps.{with_all_taken, with_whole_replica, with_opened_replica}
use Rattle.log_head.proofs.HeadLog.{image_with_counts}
use Rattle.log_head.specs.declared.next.Next.TheVariants as nexts
use Rattle.master_state.specs.declared.failover.Failover.{Failover}
use Rattle.master_state.specs.declared.failover.Part.TheVariants as part
use Rattle.master_state.specs.Budget.{used_seglets, whole_seglets, seglets_of, has_abandoned}
use Rattle.master_state.specs.Data.{MasterData}
use Rattle.master_state.specs.Invariant.{IsCore, IsFailover, IsFirst, IsOpenPass, IsRollOf, AreWhole}
use Rattle.master_state.specs.Log.{is_headless, is_opened}
use Rattle.master_failover.specs.declared.push.Push.TheVariants as push
use Rattle.master_failover.specs.Mending.{IsNextMend, IsNextOpen, was_headless}

-- ---- counts of replicas, and the failover

module _ (d : MasterData) (core : IsCore d) (failing : d.failed ≡ [] → ⊥) (ks : List ℕ) (x : Option Failover)
    (heads : List Start) where
  abbrev e : MasterData
  e = record d { head = record d.head { taken = ks }; failover = x; abandoned = heads }

  pass_then : (o : Option Pass) → IfSome o (IsOpenPass d) → IfSome o (IsOpenPass e)
  pass_then None is = tt
  pass_then (Some p) is = record {
    pass = is.pass;
    victims = (let v = is.victims in record { some = v.some; few = v.few; apart = v.apart; older = v.older });
    survivors = (let all = is.survivors in record {
      some = all.some;
      few = all.few;
      each = λ s m. (let y = all.each s m in record {
        outside = y.outside;
        not_new = y.not_new;
        used = y.used;
        begins = y.begins;
        within = y.within;
      });
    });
    rooms = is.rooms;
    sealed = is.sealed;
    live = is.live;
    unsealed = is.unsealed;
    spare = λ none. absurd (failing none);
    commits = is.commits;
  }

  roll_then : (o : Option Roll) → IfSome o (IsRollOf d) → IfSome o (IsRollOf e)
  roll_then None is = tt
  roll_then (Some r) is =
      record { image = is.image; lists = is.lists; within = is.within; newer = is.newer; used = is.used }

  pub changed_core : IsHeadValue (record d.head { taken = ks }) → (is_headless e ≡ true → IsFirst d.head)
      → used_seglets e ≤ d.config.seglets → (x ≡ None → AreWhole d) → IfSome x (IsFailover e)
      → (x ≡ None → heads ≡ []) → IsCore e
  changed_core head first budget whole failover gone = record {
    config = core.config;
    replicas = core.replicas;
    history = core.history;
    head = head;
    image = image_with_counts d.config.master d.head (head_of d.head) core.image ks;
    within = core.within;
    closed = core.closed;
    segments = core.segments;
    below = core.below;
    real = core.real;
    used = core.used;
    first = λ is. (let was = first is in record { others = was.others; loaded = was.loaded; units = was.units });
    next = core.next;
    roll = roll_then d.head.roll core.roll;
    pass = pass_then d.pass core.pass;
    named = core.named;
    replicas_few = core.replicas_few;
    waiting = core.waiting;
    listed = core.listed;
    digest = core.digest;
    failed = (let f = core.failed in record { few = f.few; there = f.there; apart = f.apart; two = f.two });
    whole = whole;
    failover = failover;
    abandoned = gone;
    budget = budget;
    legal = core.legal;
    index = record { kept = core.index.kept; lies = core.index.lies; safe = core.index.safe };
  }

-- ---- an open failover

module _ (d : MasterData) (core : IsCore d) (f : Failover) (is : d.failover ≡ Some f) where
  pub own : IsFailover d f
  own = subst (λ (o : Option Failover). IfSome o (IsFailover d)) is core.failover

  pub some_failed : d.failed ≡ [] → ⊥
  some_failed = own.some

  -- a head is in force or not as it began
  pub headless_is : (h : HeadValue) → is_headless (record d { head = h }) ≡ f.is_first
  headless_is h = ap (λ (o : Option Failover). option_map_or (λ (g : Failover). g.is_first) o (not (is_opened h))) is

  pub was_is : was_headless d ≡ f.is_first
  was_is = ap (λ (o : Option Failover). option_map_or (λ (g : Failover). g.is_first) o false) is

  still_first : (h : HeadValue) → is_headless (record d { head = h }) ≡ true → IsFirst d.head
  still_first h test = core.first (headless_is d.head ∙ sym (headless_is h) ∙ test)

  -- replicas took something
  module _ (ks : List ℕ) (more : length d.head.taken ≤ length ks) where
    fails_then : (o : Option Failover) → IfSome o (IsFailover d)
        → IfSome o (IsFailover (record d { head = record d.head { taken = ks } }))
    fails_then None fails = tt
    fails_then (Some g) fails = record {
      some = fails.some;
      closed = fails.closed;
      mends = λ part. (let m = fails.mends part in let few = m.1 in (m.0, omega arith, m.2));
      opens = fails.opens;
      first = fails.first;
      closes = fails.closes;
      repairs = λ part. (let m = fails.repairs part in
          (m.0, m.1, m.2, opened m.3, m.4, m.5, m.6, m.7));
    } where
      opened : is_opened d.head ≡ true → nat_le d.head.replicas (length ks) ≡ true
      opened test = (let le = leb-true d.head.replicas (length d.head.taken) test in le-leb _ _ (omega arith))

    pub counted : IsHeadValue (record d.head { taken = ks }) → IsCore (record d { head = record d.head { taken = ks } })
    counted valid =
        changed_core d core some_failed ks d.failover d.abandoned valid (still_first (record d.head { taken = ks }))
        core.budget core.whole (fails_then d.failover core.failover) core.abandoned

-- ---- the pushes that leave the failover in its part

module _ (d : MasterData) (core : IsCore d) where
  pub extended_core : (j : ℕ) → IsNextMend d (push.Head (nexts.Extend j)) → IsHeadValue (with_all_taken d.head j)
      → IsCore (record d { head = with_all_taken d.head j })
  extended_core j next valid =
      counted d core next.0.0 next.0.1 (slice_set d.head.taken j (length d.head.units))
      (let same = length-set d.head.taken j (length d.head.units) in omega arith) valid

  pub replaced_core : (j : ℕ) → IsNextMend d (push.Head (nexts.OpenWhole j)) → IsHeadValue (with_whole_replica d.head)
      → IsCore (record d { head = with_whole_replica d.head })
  replaced_core j next valid =
      counted d core next.0.0 next.0.1 (d.head.taken ++ length d.head.units ∷ [])
      (let more = length-append d.head.taken (length d.head.units ∷ []) in omega arith) valid

  pub opened_core : (j : ℕ) → IsNextOpen d j → IsHeadValue (with_opened_replica d.head)
      → IsCore (record d { head = with_opened_replica d.head })
  opened_core j next valid =
      counted d core next.0.0 next.0.1 (d.head.taken ++ 0 ∷ [])
      (let more = length-append d.head.taken (0 ∷ []) in omega arith) valid

-- ---- the registry is raised

module _ (d : MasterData) (core : IsCore d) (f : Failover) (is : d.failover ≡ Some f) where
  -- the first head is in force
  module _ (no_roll : d.head.roll ≡ None) (opened : length d.head.taken ≡ d.config.replicas)
      (first : f.is_first ≡ true) where
    abandoned_none : f.abandoned ≡ None
    abandoned_none = ((own d core f is).first first).1

    headless : is_headless d ≡ true
    headless = headless_is d core f is d.head ∙ first

    in_force : is_headless (record d { failover = None }) ≡ true → ⊥
    in_force test =
        let same = core.replicas in
        let all : nat_le d.head.replicas (length d.head.taken) ≡ true = le-leb _ _ (omega arith) in
        (cc)

    no_others : AreWhole d
    no_others = ap (first_lacking d.config.replicas d.closed) (core.first headless).others

    less : used_seglets (record d { failover = None; abandoned = [] }) ≤ d.config.seglets
    less = subst (λ (n : ℕ). n ≤ d.config.seglets) counted_same core.budget where
      none : has_abandoned d ≡ false
      none =
          ap (λ (o : Option Failover). option_map_or (λ (g : Failover). is_some g.abandoned) o false) is
          ∙ ap is_some abandoned_none

      counted_same : used_seglets d ≡ used_seglets (record d { failover = None; abandoned = [] })
      counted_same = ap (λ (b : Bool). (if is_some d.head.roll || b
          then seglets_of d.config d.head.image + whole_seglets d.config else whole_seglets d.config)
          + sum_by (count_of d.config.segment d.config.seglet) d.closed) none

    pub first_raised : IsCore (record d { failover = None; abandoned = [] })
    first_raised =
        changed_core d core (some_failed d core f is) d.head.taken None [] core.head (λ test. absurd (in_force test))
        less (λ none. no_others) tt (λ none. refl)

  -- the old head is closed then
  module _ (r : Roll) (rolls : d.head.roll ≡ Some r) (opened : r.opened ≡ d.config.replicas)
      (opens : f.part ≡ part.Opens) (later : f.is_first ≡ false) where
    closing : Failover
    closing = record f { part = part.Closes }

    pub new_raised : IsCore (record d { failover = Some (record f { part = part.Closes }) })
    new_raised =
        changed_core d core (some_failed d core f is) d.head.taken (Some (record f { part = part.Closes })) d.abandoned
        core.head (λ test. absurd (let no = later in cc)) budget (λ none. absurd (cc)) fails (λ none. absurd (cc))
      where
        was : IsFailover d f
        was = own d core f is

        budget : used_seglets (record d { failover = Some (record f { part = part.Closes }) }) ≤ d.config.seglets
        budget = subst (λ (o : Option Failover). used_seglets (record d { failover = o }) ≤ d.config.seglets) is
            core.budget

        fails : IsFailover (record d { failover = Some (record f { part = part.Closes }) })
            (record f { part = part.Closes })
        fails = record {
          some = was.some;
          closed = was.closed;
          mends = λ p. absurd (cc);
          opens = λ p. absurd (cc);
          first = λ test. absurd (let no = later in cc);
          closes = λ p. (
            later,
            (was.opens opens later).1,
            subst (λ (o : Option Roll). IfSome o (λ (q : Roll). q.opened ≡ d.config.replicas)) (sym rolls) opened,
            (was.opens opens later).0,
          );
          repairs = λ p. absurd (cc);
        }
