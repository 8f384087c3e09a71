-- A core stays valid when one more replica of the first segment that waits was freed.
use Rattle.std.proofs.Common.{◌≡◌, ℕ, suc, ◌+◌, ◌<◌, ◌≤◌, Bool, true, false, List, [], ◌∷◌, length, refl, arith}
use Rattle.std.specs.Prelude.{Option, Some, None, IfSome, ◌==◌}
use Rattle.std.proofs.lemmas.Bool.Decides.{nat_tests}
use Rattle.std.specs.List.{AllByRecursion}
use Rattle.cleaner.specs.declared.pass.Pass.{Pass}
use Rattle.log_head.specs.declared.head.Roll.{Roll}
use Rattle.master_state.specs.declared.failover.Failover.{Failover}
use Rattle.master_state.specs.declared.waiting.Waiting.{Waiting}
use Rattle.master_state.specs.Data.{MasterData}
use Rattle.master_state.specs.Invariant.{IsCore, IsRollOf, IsOpenPass, IsFailover}
use Rattle.master_state.specs.Steps.{freed_one}
use Rattle.master_state.proofs.Passing.{goes_on}

-- fewer segments wait, so there is room for the victims of a commit still
pub room_left : (o : Option Pass) (long short room : ℕ) → short ≤ long
    → IfSome o (λ p. p.is_committing ≡ true → long + length p.victims ≤ room)
    → IfSome o (λ p. p.is_committing ≡ true → short + length p.victims ≤ room)
room_left None long short room less was = tt
room_left (Some p) long short room less was = λ commits. let enough = was commits in omega arith

module _ (d : MasterData) (core : IsCore d) (waits : List Waiting)
    (valid : AllByRecursion (λ (w : Waiting). (w.freed < w.replicas) × (w.replicas ≤ d.config.replicas)) waits) where
  abbrev e : MasterData
  e = record d { waiting = waits }

  pass_then : (o : Option Pass) → IfSome o (IsOpenPass d) → IfSome o (IsOpenPass e)
  pass_then None was = tt
  pass_then (Some p) was = goes_on d e p (record {
    config = refl;
    start = refl;
    roll = λ s m. (was.survivors.each s m).not_new;
    next = omega arith;
    pass = was.pass;
    victims = λ s m. refl;
    survivors = λ s m. refl;
    keeps = λ place x m stands keeps. keeps;
    live = λ k q finds victim. finds;
    replicas = λ s m. refl;
    failed = λ none. none;
    free = λ early. omega arith;
    listed = λ early. omega arith;
    rolls = λ commits some. some;
  }) was

  roll_then : (o : Option Roll) → IfSome o (IsRollOf d) → IfSome o (IsRollOf e)
  roll_then None rolls = tt
  roll_then (Some r) rolls = record {
    image = rolls.image;
    lists = rolls.lists;
    within = rolls.within;
    newer = rolls.newer;
    used = rolls.used;
  }

  failover_then : (o : Option Failover) → IfSome o (IsFailover d) → IfSome o (IsFailover e)
  failover_then None is = tt
  failover_then (Some f) is = record {
    some = is.some;
    closed = is.closed;
    mends = is.mends;
    opens = is.opens;
    first = is.first;
    closes = is.closes;
    repairs = is.repairs;
  }

  pub freed_core : IsCore (record d { waiting = waits })
  freed_core = record {
    config = core.config;
    replicas = core.replicas;
    history = core.history;
    head = core.head;
    image = core.image;
    within = core.within;
    closed = core.closed;
    segments = core.segments;
    below = core.below;
    real = core.real;
    used = core.used;
    first = core.first;
    next = core.next;
    roll = roll_then d.head.roll core.roll;
    pass = pass_then d.pass core.pass;
    named = core.named;
    replicas_few = core.replicas_few;
    waiting = valid;
    digest = core.digest;
    listed = core.listed;
    failed = (let f = core.failed in record { few = f.few; there = f.there; apart = f.apart; two = f.two });
    whole = core.whole;
    failover = failover_then d.failover core.failover;
    abandoned = core.abandoned;
    budget = core.budget;
    legal = core.legal;
    index = record { kept = core.index.kept; lies = core.index.lies; safe = core.index.safe };
  }

-- what is left waiting once a replica of the first segment was freed is in order
pub freed_valid : (replicas : ℕ) (ws : List Waiting)
    → AllByRecursion (λ (w : Waiting). (w.freed < w.replicas) × (w.replicas ≤ replicas)) ws
    → AllByRecursion (λ (w : Waiting). (w.freed < w.replicas) × (w.replicas ≤ replicas)) (freed_one ws)
freed_valid replicas [] all = tt
freed_valid replicas (w ∷ ws) all = go (suc w.freed == w.replicas) refl where
  go : (t : Bool) → (suc w.freed == w.replicas) ≡ t
      → AllByRecursion (λ (x : Waiting). (x.freed < x.replicas) × (x.replicas ≤ replicas)) (freed_one (w ∷ ws))
  go true is = rw is all.1
  go false is =
      let other : suc w.freed ≡ w.replicas → ⊥ =
      λ e. (let t : (suc w.freed == w.replicas) ≡ true = grind (arith, nat_tests, e) in cc) in
      let less = all.0.0 in
      rw is ((omega (arith, other), all.0.1), all.1)

pub freed_less : (ws : List Waiting) → length (freed_one ws) ≤ length ws
freed_less [] = omega arith
freed_less (w ∷ ws) = go (suc w.freed == w.replicas) refl where
  go : (t : Bool) → (suc w.freed == w.replicas) ≡ t → length (freed_one (w ∷ ws)) ≤ length (w ∷ ws)
  go true is = rw is (omega arith)
  go false is = rw is (omega arith)
