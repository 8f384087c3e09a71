-- A core stays valid when the roll of a failover has one more replica opened or closed.
use Rattle.std.proofs.Common.{◌≡◌, ℕ, suc, true, false, List, [], refl, sym, ap, subst, ◌∙◌}
use Rattle.std.specs.Prelude.{Option, Some, None, IfSome, is_some}
use Rattle.std.specs.Option.{option_map_or}
use Rattle.master_state.specs.cleaner.declared.pass.Pass.{Pass}
use Rattle.log_head.specs.declared.head.Roll.{Roll}
use Rattle.log_head.specs.Head.{IsHeadValue}
use Rattle.log_head.specs.Steps.{with_new_replica}
use Rattle.log_head.specs.declared.next.Next.TheVariants as nexts
use Rattle.master_state.specs.declared.failover.Failover.{Failover}
use Rattle.master_state.specs.declared.failover.Part.TheVariants as part
use Rattle.master_state.specs.Data.{MasterData}
use Rattle.master_state.specs.Invariant.{IsCore, IsFailover, IsOpenPass, AreTallied}
use Rattle.master_state.specs.tally.declared.tallies.Tally.{Tally}
use Rattle.master_failover.specs.declared.push.Push.TheVariants as push
use Rattle.master_failover.specs.Mending.{IsNextMend, IsNextOpen}
use Rattle.master_failover.proofs.Changed.{some_failed}

-- with this roll under way
abbrev pub with_this : MasterData → Roll → MasterData
with_this d r = record d { head = record d.head { roll = Some r } }

-- so many replicas are open and closed
abbrev pub counting : Roll → ℕ → ℕ → Roll
counting r n m = record r { opened = n; closed = m }

module _ (d : MasterData) (r : Roll) (core : IsCore (with_this d r)) (n m : ℕ) (f : Failover)
    (is : d.failover ≡ Some f) (whole : f.part ≡ part.Closes → n ≡ d.config.replicas) where
  abbrev old : MasterData
  old = with_this d r

  abbrev e : MasterData
  e = with_this d (record r { opened = n; closed = m })

  failing : d.failed ≡ [] → ⊥
  failing = some_failed old core f is

  pass_then : (o : Option Pass) → IfSome o (IsOpenPass old) → IfSome o (IsOpenPass e)
  pass_then None is = tt
  pass_then (Some p) is = record {
    pass = is.pass;
    victims = (let v = is.victims in record { some = v.some; few = v.few; apart = v.apart; older = v.older });
    survivors = (let all = is.survivors in record {
      some = all.some;
      few = all.few;
      each = λ s m. (let y = all.each s m in record {
        outside = y.outside;
        not_new = y.not_new;
        used = y.used;
        begins = y.begins;
        within = y.within;
      });
    });
    rooms = is.rooms;
    sealed = is.sealed;
    live = is.live;
    unsealed = is.unsealed;
    spare = λ none. absurd (failing none);
    commits = λ test. (refl, (is.commits test).1);
  }

  never : Some r ≡ None → ⊥
  never is = cc

  fails_then : (o : Option Failover) → d.failover ≡ o → IfSome o (IsFailover old) → IfSome o (IsFailover e)
  fails_then None same fails = tt
  fails_then (Some g) same fails = record {
    some = fails.some;
    closed = fails.closed;
    mends = λ p. absurd (never (fails.mends p).0);
    opens = λ p early. (refl, (fails.opens p early).1);
    first = λ test. absurd (never (fails.first test).0);
    closes = λ p. (let c = fails.closes p in (c.0, c.1, opened p, refl));
    repairs = λ p. absurd (never (fails.repairs p).2);
  } where
    opened : g.part ≡ part.Closes → n ≡ d.config.replicas
    opened p = whole (ap (λ (o : Option Failover). option_map_or (λ (h : Failover). h.part) o part.Closes)
        (sym is ∙ same) ∙ p)

  pub rolled : IsHeadValue e.head → IsCore e
  rolled head = record {
    config = core.config;
    replicas = core.replicas;
    history = core.history;
    head = head;
    image = (let own = core.image in record {
      id = own.id;
      lens = own.lens;
      image = own.image;
      base = own.base;
      ends = own.ends;
      taken = own.taken;
    });
    within = core.within;
    closed = core.closed;
    segments = core.segments;
    below = core.below;
    real = core.real;
    used = core.used;
    first = λ is. (let was = core.first is in record { others = was.others; loaded = was.loaded; units = was.units });
    next = core.next;
    roll = (let own = core.roll in record {
      image = own.image;
      lists = own.lists;
      within = own.within;
      newer = own.newer;
      used = own.used;
    });
    pass = pass_then d.pass core.pass;
    named = core.named;
    replicas_few = core.replicas_few;
    waiting = core.waiting;
    listed = core.listed;
    digest = core.digest;
    failed = (let f = core.failed in record { few = f.few; there = f.there; apart = f.apart; two = f.two });
    whole = core.whole;
    failover = fails_then d.failover refl core.failover;
    abandoned = core.abandoned;
    budget = core.budget;
    legal = core.legal;
    index = record { kept = core.index.kept; lies = core.index.lies; safe = core.index.safe };
  }

-- there is a roll, or none
pub roll_there : (o : Option Roll) → is_some o ≡ true → (r : Roll) × (o ≡ Some r)
roll_there None is = absurd (cc)
roll_there (Some r) is = (r, refl)

pub roll_none : (o : Option Roll) → is_some o ≡ false → o ≡ None
roll_none None is = refl
roll_none (Some r) is = absurd (cc)

-- what is open and closed of it leaves tallies right
pub counting_tallied : (d : MasterData) (r : Roll) (n m : ℕ) (rows : List Tally) → d.head.roll ≡ Some r
    → AreTallied d rows → AreTallied (with_this d (counting r n m)) rows
counting_tallied d r n m rows is right =
    subst (λ (o : Option Roll). AreTallied (record d { head = record d.head { roll = o } }) rows) is right

-- ---- the pushes

module _ (d : MasterData) (core : IsCore d) (r : Roll) (is : d.head.roll ≡ Some r) where
  pub same : d ≡ with_this d r
  same = ap (λ (o : Option Roll). record d { head = record d.head { roll = o } }) is

  pub new_opened_core : (j : ℕ) → IsNextOpen d j → IsHeadValue (with_new_replica d.head r)
      → IsCore (record d { head = with_new_replica d.head r })
  new_opened_core j next valid =
      rolled d r (subst IsCore same core) (suc r.opened) r.closed next.0.0 next.0.1
      (λ closes. (let opens = next.0.2 in absurd (cc))) valid

  pub old_closed_core : (j : ℕ) → IsNextMend d (push.Head (nexts.CloseOld j))
      → IsHeadValue (record d.head { roll = Some (counting r r.opened (suc r.closed)) })
      → IsCore (with_this d (counting r r.opened (suc r.closed)))
  old_closed_core j next valid =
      rolled d r (subst IsCore same core) r.opened (suc r.closed) next.0.0 next.0.1 opened valid
    where
      opened : next.0.0.part ≡ part.Closes → r.opened ≡ d.config.replicas
      opened p =
          let own = subst (λ (o : Option Failover). IfSome o (IsFailover d)) next.0.1 core.failover in
          subst (λ (o : Option Roll). IfSome o (λ (q : Roll). q.opened ≡ d.config.replicas)) is (own.closes p).2
