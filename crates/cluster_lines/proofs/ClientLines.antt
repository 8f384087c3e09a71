-- Clients of a line, told of the master's life.
use Rattle.std.proofs.Common.{◌≡◌, ◌≤◌, Bool, ℕ, ◌*◌, List, ◌++◌, length, take, refl, sym, ap, subst, inl, inr, ◌∙◌}
use Rattle.std.proofs.Common.{arith}
use Rattle.std.proofs.lemmas.List.{length-append, take-append-le}
use Rattle.std.proofs.Math.Seq.{take-length}
use Rattle.std.specs.Prelude.{Option, None, Some, Result, Ok, Err, OnOk, IsTrue}
use Rattle.backup.specs.State.{fleet_state}
use Rattle.backup.specs.declared.fleet.MemoryFleet.{MemoryFleet}
use Rattle.lines.specs.Grammar.{LineValue, Clients}
use Rattle.store_clients.specs.locked_log.store_seat.declared.fault.CallFault.{CallFault}
use Rattle.store_clients.specs.locked_log.store_seat.declared.fault.CallFault.TheVariants as call_fault
use Rattle.store_clients.specs.locked_log.Made.{IsMade, made_now}
use Rattle.cluster.specs.master.log_laws.Data.{durable_of}
use Rattle.cluster.specs.master.Valid.{IsValid}
use Rattle.cluster.specs.master.World.{MasterValue, world}
use Rattle.cluster.specs.master.master_state.declared.config.Config.{Config}
use Rattle.cluster.specs.master.master_state.declared.step.Refusal.{Refusal}
use Rattle.cluster.specs.master.master_state.declared.step.Refusal.TheVariants as refusal
use Rattle.cluster.specs.master.master_state.Data.{MasterData}
use Rattle.cluster.specs.master.master_state.Log.{log_of}
use Rattle.history.specs.Seats.{AreAccepted}
use Rattle.versioned_map.specs.declared.command.Record.{Record}
use Rattle.cluster.specs.answers.declared.answer.Answer.{Answer}
use Rattle.cluster.specs.answers.declared.answer.Answer.TheVariants as answer
use Rattle.cluster.specs.declared.node.Node.{Node}
use Rattle.cluster.specs.declared.node.Node.TheVariants.{Up}
use Rattle.cluster.specs.Counted.{AreUncounted}
use Rattle.cluster.specs.Lives.{HasLived, Left, Position, left_now, life_to}
use Rattle.cluster.specs.driving.Served.{IsSpent}
use Rattle.cluster.specs.Served.{AnswersLine, IsLeftIn, IsNodeAt, IsOf, LivesLonger, Refuses, life_of, refusal_answer}
use Rattle.cluster_lines.specs.Clients.{IsClientsAnswer, IsClientsRefusal, Lends, MakesClients, RefusesCall}
use Rattle.cluster_lines.specs.Clients.{RefusesWork}
use Rattle.cluster_lines.specs.Clients.{RunsClients}
use Rattle.cluster.specs.Told.{Tells}
use Rattle.cluster.proofs.Standing.{Answered}
use Rattle.cluster.proofs.Steps.{refused_left}

-- ---- the life goes on

module _ (m e : MasterValue MemoryFleet) (on : IsMade (made_now 64 (world fleet_state m)) (world fleet_state e))
    (valid : IsValid e.knows (fleet_state e.fleet))
    (clients rounds passes : ℕ) (config : Config) (d : MasterData) (at : Position)
    (s : IsNodeAt (Up m) config d at) where
  abbrev line : LineValue
  line = Clients clients rounds passes

  same : m.knows ≡ d
  same = s.node_of.1

  abbrev more : List Record
  more = on.begun.0

  grown : e.knows.history ≡ d.history ++ more
  grown = on.begun.1 ∙ ap (λ (x : MasterData). x.history ++ more) same

  lives : LivesLonger d e.knows
  lives = (more, on.origin ∙ ap (λ (x : MasterData). x.origin) same, grown)

  longer : at.made ≤ length e.knows.history
  longer = omega (arith, s.made, ap length grown, length-append d.history more)

  durable : durable_of (log_of d) ≤ durable_of (log_of e.knows)
  durable = subst (λ (x : MasterData). durable_of (log_of x) ≤ durable_of (log_of e.knows)) same on.durable

  front : take at.made e.knows.history ≡ m.knows.history
  front = ap (take at.made) grown ∙ take-append-le at.made d.history more (omega (arith, s.made))
      ∙ ap (λ n. take n d.history) s.made
      ∙ take-length d.history ∙ ap (λ (x : MasterData). x.history) (sym same)

  configured : e.knows.config ≡ config
  configured = on.config ∙ ap (λ (x : MasterData). x.config) same ∙ s.configured

  abbrev next : Option Left → ℕ → Position
  next left acknowledged = record { made = length e.knows.history; acknowledged = acknowledged; left = left }

  node : (new : Node) (left : Option Left) (acknowledged : ℕ) → IsOf new left e.knows
      → acknowledged ≤ durable_of (log_of e.knows)
      → IsNodeAt new config e.knows (next left acknowledged)
  node new left acknowledged of within = record {
    node_of = of;
    configured = configured;
    made = refl;
    acknowledged = within;
  }

  stays : IsOf (Up e) None e.knows
  stays = (refl, refl, valid)

  kept : at.acknowledged ≤ durable_of (log_of e.knows)
  kept = omega (arith, s.acknowledged, durable)

  uncounted : (left : Option Left) → AreUncounted at line left (next left at.acknowledged)
  uncounted left = record {
    clients = clients;
    rounds = rounds;
    asks = (passes, refl);
    up = s.node_of.0;
    more = longer;
    acknowledged = refl;
  }

  -- all calls were accepted
  counted : (n : ℕ) → n ≡ 2 * rounds * clients → durable_of (log_of e.knows) ≡ length e.knows.history
      → AreAccepted clients rounds m.knows.history e.knows.history
      → Answered d (Up e) config at line (answer.Counted clients rounds n)
  counted n count whole accepted =
      let h = e.knows.history in (
        e.knows,
        next None (length h),
        node (Up e) None (length h) stays (omega (arith, whole)),
        lives,
        (
          s.node_of.0,
          (passes, refl),
          record {
            count = count;
            more = longer;
            accepted = subst (λ (l : List Record). AreAccepted clients rounds l (take (length h) h)) (sym front)
                (subst (λ (l : List Record). AreAccepted clients rounds m.knows.history l)
                (sym (take-length h)) accepted);
            acknowledged = refl;
          },
        ),
      )

  -- a call was refused, and the master is still there
  uncounted_told : (a : Answer) → Tells config (life_of e.knows) at line a (next None at.acknowledged)
      → Answered d (Up e) config at line a
  uncounted_told a tells = (
    e.knows,
    next None at.acknowledged,
    node (Up e) None at.acknowledged stays kept,
    lives,
    tells,
  )

  refused : (r : Refusal) (new : Node) (a : Answer) → Refuses (Up e) r new a
      → (r ≡ refusal.Spent → IsSpent (fleet_state e.fleet))
      → Answered d new config at line a
  refused r new a (inl (is, unspent, stay)) spent =
      let tells : Tells config (life_of e.knows) at line (answer.Refused r) (next None at.acknowledged) =
      inr (inr (unspent, inr (uncounted None))) in
      subst (λ (n : Node). Answered d n config at line a) (sym stay)
      (subst (λ (x : Answer). Answered d (Up e) config at line x) (sym is) (uncounted_told (answer.Refused r) tells))
  refused r new a (inr (is, why, dropped, lifted)) spent =
      let f = fleet_state e.fleet in
      let l = left_now e.knows f in
      let of = dropped e.knows f stays refl in
      let lived : HasLived config (life_to (life_of e.knows) (length e.knows.history)) e.knows f =
      record { configured = configured; opening = refl; history = sym (take-length e.knows.history); valid = valid } in
      subst (λ (x : Answer). Answered d new config at line x) (sym is) (
        e.knows,
        next (Some l) at.acknowledged,
        node new (Some l) at.acknowledged of kept,
        lives,
        inl (s.node_of.0, l, (e.knows, f, lived, refl, spent why), inr (inr (inr (uncounted (Some l))))),
      )

  unknown : (new : Node) (a : Answer) → a ≡ answer.SeatUnknown → new ≡ Up e → Answered d new config at line a
  unknown new a is stay =
      subst (λ (n : Node). Answered d n config at line a) (sym stay)
      (subst (λ (x : Answer). Answered d (Up e) config at line x) (sym is)
      (uncounted_told answer.SeatUnknown (inl (uncounted None))))

  work_refused : (r : Refusal) (new : Node) (a : Answer) → RefusesWork (Up e) r new a → Answered d new config at line a
  work_refused refusal.Spent new a (inl (refuses, spent)) = refused refusal.Spent new a refuses (λ is. spent)
  work_refused refusal.Spent new a (inr (is, stay, unspent)) = unknown new a is stay
  work_refused r new a refuses = refused r new a refuses (λ is. absurd (cc))

  cell_refused : (new : Node) (a : Answer) → a ≡ answer.CellRefused → new ≡ Up e → Answered d new config at line a
  cell_refused new a is stay =
      subst (λ (n : Node). Answered d n config at line a) (sym stay)
      (subst (λ (x : Answer). Answered d (Up e) config at line x) (sym is)
      (uncounted_told answer.CellRefused (uncounted None)))

  call_refused : (fault : CallFault) (new : Node) (a : Answer) → RefusesCall (Up e) fault new a
      → Answered d new config at line a
  call_refused (call_fault.Refused r) new a refuses = work_refused r new a refuses
  call_refused (call_fault.Unsure place r) new a refuses = work_refused r new a refuses
  call_refused call_fault.SeatUnknown new a (is, stay) = unknown new a is stay
  call_refused call_fault.CellRefused new a (is, stay) = cell_refused new a is stay
  call_refused call_fault.CellsSpent new a (is, stay) = cell_refused new a is stay
  call_refused call_fault.NotYours new a (is, stay) = unknown new a is stay

-- ---- of a node

module _ (old : Node) (m e : MasterValue MemoryFleet) (there : old ≡ Up m) (clients rounds passes : ℕ) where
  at_node : (config : Config) (d : MasterData) (at : Position) → IsNodeAt old config d at → IsNodeAt (Up m) config d at
  at_node config d at s = subst (λ (n : Node). IsNodeAt n config d at) there s

  pub counted_told : (n : ℕ) → RunsClients clients rounds (world fleet_state m) (Ok n) (world fleet_state e)
      → (config : Config)
      → AnswersLine old config (Clients clients rounds passes) (Up e) (answer.Counted clients rounds n)
  counted_told n runs config d at s =
      counted m e runs.goes_on runs.valid clients rounds passes config d at
      (at_node config d at s) n runs.count runs.durable runs.accepted

  pub refused_told : (fault : CallFault)
      → RunsClients clients rounds (world fleet_state m) (Err fault) (world fleet_state e)
      → (new : Node) (a : Answer)
      → RefusesCall (Up e) fault new a → (config : Config)
      → AnswersLine old config (Clients clients rounds passes) new a
  refused_told fault runs new a refuses config d at s =
      call_refused m e runs.goes_on runs.valid clients rounds passes config d at
      (at_node config d at s) fault new a refuses

  -- ---- what the clients made

  pub counted_made : (n : ℕ) → RunsClients clients rounds (world fleet_state m) (Ok n) (world fleet_state e)
      → MakesClients old clients rounds (Up e) (answer.Counted clients rounds n)
  counted_made n runs = subst (λ (x : Node). MakesClients x clients rounds (Up e)
      (answer.Counted clients rounds n)) (sym there)
      (Ok n, world fleet_state e, runs, refl, refl)

  abbrev IsMadeOf : (CallFault) → Node → Answer → Type 0
  IsMadeOf fault new a = IsClientsAnswer (fleet_state e.fleet) clients rounds (Err fault) a
      × IsLeftIn (world fleet_state e) a new

  abbrev IsRefusedBy : Refusal → Node → Answer → Type 0
  IsRefusedBy r new a = IsClientsRefusal (fleet_state e.fleet) r a × IsLeftIn (world fleet_state e) a new

  refuses_left : (r : Refusal) (new : Node) (a : Answer) → Refuses (Up e) r new a → (a ≡ refusal_answer r)
      × IsLeftIn (world fleet_state e) a new
  refuses_left r new a refuses = refused_left (Up e) new (world fleet_state e) r a refl refl refuses

  stays_in : (new : Node) (a x : Answer) → a ≡ x → new ≡ Up e → IsLeftIn (world fleet_state e) x (Up e)
      → IsLeftIn (world fleet_state e) a new
  stays_in new a x is same left =
      subst (λ (n : Node). IsLeftIn (world fleet_state e) a n) (sym same)
      (subst (λ (y : Answer). IsLeftIn (world fleet_state e) y (Up e)) (sym is) left)

  work_made : (r : Refusal) (new : Node) (a : Answer) → RefusesWork (Up e) r new a → IsRefusedBy r new a
  work_made refusal.Spent new a (inl (refuses, spent)) =
      let left = refuses_left refusal.Spent new a refuses in (inl (left.0, spent), left.1)
  work_made refusal.Spent new a (inr (is, same, unspent)) =
      (inr (is, unspent), stays_in new a answer.SeatUnknown is same refl)
  work_made r new a refuses = refuses_left r new a refuses

  call_made : (fault : CallFault) (new : Node) (a : Answer) → RefusesCall (Up e) fault new a → IsMadeOf fault new a
  call_made (call_fault.Refused r) new a refuses = work_made r new a refuses
  call_made (call_fault.Unsure place r) new a refuses = work_made r new a refuses
  call_made call_fault.SeatUnknown new a (is, same) = (is, stays_in new a answer.SeatUnknown is same refl)
  call_made call_fault.CellRefused new a (is, same) = (is, stays_in new a answer.CellRefused is same refl)
  call_made call_fault.CellsSpent new a (is, same) = (is, stays_in new a answer.CellRefused is same refl)
  call_made call_fault.NotYours new a (is, same) = (is, stays_in new a answer.SeatUnknown is same refl)

  pub refused_made : (fault : CallFault)
      → RunsClients clients rounds (world fleet_state m) (Err fault) (world fleet_state e)
      → (new : Node) (a : Answer)
      → RefusesCall (Up e) fault new a → MakesClients old clients rounds new a
  refused_made fault runs new a refuses =
      let made = call_made fault new a refuses in
      subst (λ (x : Node). MakesClients x clients rounds new a) (sym there)
      (Err fault, world fleet_state e, runs, made.0, made.1)

-- ---- a master that is handed over

abbrev master_in : MasterValue MemoryFleet → Node → MasterValue MemoryFleet
master_in other (Up m) = m
master_in other n = other

pub lent : (old : Node) (up m back : MasterValue MemoryFleet) (clients rounds : ℕ) (calls : Result ℕ CallFault)
    (known : Bool) → old ≡ Up up
    → RunsClients clients rounds (world fleet_state up) calls (world fleet_state back) → OnOk calls (IsTrue known)
    → old ≡ Up m
    → Lends m clients rounds calls known (Up back)
lent old up m back clients rounds calls known there runs tells is = record {
  back = back;
  is = refl;
  runs = subst
      (λ (x : MasterValue MemoryFleet). RunsClients clients rounds (world fleet_state x) calls (world fleet_state back))
      (ap (master_in up) (sym there ∙ is)) runs;
  tells = tells;
}

module _ (old mid : Node) (m : MasterValue MemoryFleet) (there : old ≡ Up m) (clients rounds passes : ℕ)
    (calls : Result ℕ CallFault) (known : Bool)
    (lends : Lends m clients rounds calls known mid) where
  runs_as : (r : Result ℕ CallFault) → calls ≡ r
      → RunsClients clients rounds (world fleet_state m) r (world fleet_state lends.back)
  runs_as r is = subst (λ (x : Result ℕ CallFault). RunsClients clients rounds (world fleet_state m) x
      (world fleet_state lends.back)) is lends.runs

  pub counts : (n : ℕ) → calls ≡ Ok n → ((config : Config)
      → AnswersLine old config (Clients clients rounds passes) mid (answer.Counted clients rounds n))
      × MakesClients old clients rounds mid (answer.Counted clients rounds n) × IsTrue known
  counts n is = (
    λ config. subst (λ (x : Node). AnswersLine old config (Clients clients rounds passes) x
        (answer.Counted clients rounds n)) (sym lends.is)
        (counted_told old m lends.back there clients rounds passes n (runs_as (Ok n) is) config),
    subst (λ (x : Node). MakesClients old clients rounds x (answer.Counted clients rounds n)) (sym lends.is)
        (counted_made old m lends.back there clients rounds passes n (runs_as (Ok n) is)),
    subst (λ (x : Result ℕ CallFault). OnOk x (IsTrue known)) is lends.tells,
  )

  pub refuses : (fault : CallFault) → calls ≡ Err fault → (new : Node) (a : Answer) → RefusesCall mid fault new a
      → ((config : Config) → AnswersLine old config (Clients clients rounds passes) new a)
      × MakesClients old clients rounds new a
  refuses fault is new a why =
      let back = subst (λ (x : Node). RefusesCall x fault new a) lends.is why in (
        refused_told old m lends.back there clients rounds passes fault (runs_as (Err fault) is) new a back,
        refused_made old m lends.back there clients rounds passes fault (runs_as (Err fault) is) new a back,
      )

-- ---- no refusal is a count

no_refusal : (node new : Node) (r : Refusal) (a : Answer) (clients rounds calls : ℕ) → Refuses node r new a
    → a ≡ answer.Counted clients rounds calls → ⊥
no_refusal node new r a clients rounds calls (inl (is, unspent, same)) counts = let both = sym is ∙ counts in cc
no_refusal node new r a clients rounds calls (inr (is, why, dropped, lifted)) counts = let both = sym is ∙ counts in cc

no_work : (node new : Node) (r : Refusal) (a : Answer) (clients rounds calls : ℕ) → RefusesWork node r new a
    → a ≡ answer.Counted clients rounds calls → ⊥
no_work node new refusal.Spent a clients rounds calls (inl (refuses, spent)) counts =
    no_refusal node new refusal.Spent a clients rounds calls refuses counts
no_work node new refusal.Spent a clients rounds calls (inr (is, same, unspent)) counts = let both =
    sym is ∙ counts in cc
no_work node new r a clients rounds calls refuses counts = no_refusal node new r a clients rounds calls refuses counts

pub no_count : (node new : Node) (fault : CallFault) (a : Answer) (clients rounds calls : ℕ)
    → RefusesCall node fault new a
    → a ≡ answer.Counted clients rounds calls → ⊥
no_count node new (call_fault.Refused r) a clients rounds calls refuses counts =
    no_work node new r a clients rounds calls refuses counts
no_count node new (call_fault.Unsure place r) a clients rounds calls refuses counts =
    no_work node new r a clients rounds calls refuses counts
no_count node new call_fault.SeatUnknown a clients rounds calls (is, same) counts = let both = sym is ∙ counts in cc
no_count node new call_fault.CellRefused a clients rounds calls (is, same) counts = let both = sym is ∙ counts in cc
no_count node new call_fault.CellsSpent a clients rounds calls (is, same) counts = let both = sym is ∙ counts in cc
no_count node new call_fault.NotYours a clients rounds calls (is, same) counts = let both = sym is ∙ counts in cc

-- a node without a master makes no clients
pub down_clients : (node : Node) (clients rounds : ℕ) → ((m : MasterValue MemoryFleet) → node ≡ Up m → ⊥)
    → MakesClients node clients rounds node answer.Down
down_clients (Up m) clients rounds other = absurd (other m refl)
down_clients node clients rounds other = (refl, refl)
