-- A core keeps the invariant when its ledger changes, when it halts, when replicas of its head take more units, and
-- when it forgets records.
use Rattle.std.proofs.Common.{◌≡◌, ℕ, ◌≤◌, Bool, true, List, length, refl, arith}
use Rattle.std.specs.Prelude.{Option, Some, None, IfSome, not, nat_le}
use Rattle.std.specs.Option.{option_map_or}
use Rattle.std.proofs.lemmas.Bool.Decides.{nat_tests}
use Rattle.cleaner.specs.declared.pass.Pass.{Pass as OpenPass}
use Rattle.log_head.specs.declared.head.Roll.{Roll}
use Rattle.log_head.specs.Head.{IsHeadValue}
use Rattle.log_head.specs.Log.{head_of}
use Rattle.log_head.proofs.HeadLog.{image_with_counts}
use Rattle.master_state.specs.declared.failover.Failover.{Failover}
use Rattle.master_state.specs.declared.ledger.Posting.{Posting}
use Rattle.master_state.specs.Data.{MasterData}
use Rattle.master_state.specs.Kept.{AreFewKept}
use Rattle.master_state.specs.Invariant.{IsRollOf, IsOpenPass, IsFailover, IsCore}
use Rattle.master_state.specs.Steps.{halted}
use Rattle.master_state.proofs.Passing.{GoesOn, goes_on}

module _ (d : MasterData) (ks : List ℕ) (t : Bool) (ps : List Posting) (n : ℕ) where
  abbrev e : MasterData
  e = record d { head = record d.head { taken = ks }; is_halted = t; ledger = ps; forgotten = n }

  rest_goes : (p : OpenPass) → IsOpenPass d p → GoesOn d e p
  rest_goes p is = record {
    config = refl;
    start = refl;
    roll = λ s m. (is.survivors.each s m).not_new;
    next = omega arith;
    pass = is.pass;
    victims = λ s m. refl;
    survivors = λ s m. refl;
    keeps = λ place e m stands keeps. keeps;
    live = λ k q finds victim. finds;
    replicas = λ s m. refl;
    failed = λ none. none;
    free = λ early. omega arith;
    listed = λ early. omega arith;
    rolls = λ commits some. some;
  }

  pub rest_core : IsCore d → AreFewKept (length d.history) n d.config.history
      → IsHeadValue (record d.head { taken = ks }) → length d.head.taken ≤ length ks → IsCore e
  rest_core core few head more = record {
    config = core.config;
    replicas = core.replicas;
    history = few;
    head = head;
    image = image_with_counts d.config.master d.head (head_of d.head) core.image ks;
    within = core.within;
    closed = core.closed;
    segments = core.segments;
    below = core.below;
    real = core.real;
    used = core.used;
    first = λ none.
        let was = core.first (still_headless d.failover none) in
        record { others = was.others; loaded = was.loaded; units = was.units };
    next = core.next;
    roll = rolls d.head.roll core.roll;
    pass = passes d.pass core.pass;
    named = core.named;
    replicas_few = core.replicas_few;
    waiting = core.waiting;
    digest = core.digest;
    listed = core.listed;
    failed = record {
      few = core.failed.few;
      there = core.failed.there;
      apart = core.failed.apart;
      two = core.failed.two;
    };
    whole = core.whole;
    failover = failing d.failover core.failover;
    abandoned = core.abandoned;
    budget = core.budget;
    legal = core.legal;
    index = record { kept = core.index.kept; lies = core.index.lies; safe = core.index.safe };
  } where
    still_headless : (o : Option Failover)
        → option_map_or (λ (f : Failover). f.is_first) o (not (nat_le d.head.replicas (length ks))) ≡ true
        → option_map_or (λ (f : Failover). f.is_first) o (not (nat_le d.head.replicas (length d.head.taken))) ≡ true
    still_headless None is = grind (arith, nat_tests)
    still_headless (Some f) is = is

    rolls : (o : Option Roll) → IfSome o (IsRollOf d) → IfSome o (IsRollOf e)
    rolls None is = tt
    rolls (Some r) is =
        record { image = is.image; lists = is.lists; within = is.within; newer = is.newer; used = is.used }

    passes : (o : Option OpenPass) → IfSome o (IsOpenPass d) → IfSome o (IsOpenPass e)
    passes None is = tt
    passes (Some p) is = goes_on d e p (rest_goes p is) is

    still_opened : nat_le d.head.replicas (length d.head.taken) ≡ true → nat_le d.head.replicas (length ks) ≡ true
    still_opened is = grind (arith, nat_tests)

    failing : (o : Option Failover) → IfSome o (IsFailover d) → IfSome o (IsFailover e)
    failing None is = tt
    failing (Some f) is = record {
      some = is.some;
      closed = is.closed;
      mends = λ part. (let was = is.mends part in (was.0, (let le = was.1 in omega arith), was.2));
      opens = is.opens;
      first = is.first;
      closes = is.closes;
      repairs = λ part.
          let was = is.repairs part in (was.0, was.1, was.2, still_opened was.3, was.4, was.5, was.6, was.7);
    }

pub posted_core : (d : MasterData) (ps : List Posting) → IsCore d → IsCore (record d { ledger = ps })
posted_core d ps core = rest_core d d.head.taken d.is_halted ps d.forgotten core core.history core.head (omega arith)

pub halted_core : (d : MasterData) → IsCore d → IsCore (halted d)
halted_core d core = rest_core d d.head.taken true d.ledger d.forgotten core core.history core.head (omega arith)

-- only what replicas have changed
pub counted_core : (d : MasterData) (ks : List ℕ) → IsCore d → IsHeadValue (record d.head { taken = ks })
    → length d.head.taken ≤ length ks → IsCore (record d { head = record d.head { taken = ks } })
counted_core d ks core head more = rest_core d ks d.is_halted d.ledger d.forgotten core core.history head more

-- only what is forgotten has changed
pub forgotten_core : (d : MasterData) (n : ℕ) → IsCore d → AreFewKept (length d.history) n d.config.history
    → IsCore (record d { forgotten = n })
forgotten_core d n core few = rest_core d d.head.taken d.is_halted d.ledger n core few core.head (omega arith)
