-- Where a node stands, and lines that make no record.
use Rattle.std.proofs.Common.{[], ◌≡◌, ℕ, suc, ◌≤◌, true, false, List, ◌∷◌, ◌++◌, length, take, refl, sym, ap, ◌∙◌}
use Rattle.std.proofs.Common.{arith}
use Rattle.std.proofs.lemmas.List.{append-nil, length-append}
use Rattle.std.proofs.Math.Seq.{take-length}
use lib.Seq.{take-append_seam}
use Rattle.std.specs.Prelude.{Option, Some, None, Result, slice_get}
use Rattle.backup.specs.declared.fleet.MemoryFleet.{MemoryFleet}
use Rattle.lines.specs.Grammar.{LineValue, Put, New, Cas, Get, Del}
use Rattle.replica.specs.Picture.{FleetState}
use Rattle.versioned_map.specs.declared.command.Command.{Command}
use Rattle.versioned_map.specs.History.{IsLegal}
use Rattle.versioned_map.specs.declared.command.Record.{Record}
use Rattle.versioned_map.specs.declared.command.Reply.{Reply}
use Rattle.entry.specs.Meaning.{contents_of}
use Rattle.answers.specs.driving.master.log_laws.Data.{durable_of}
use Rattle.answers.specs.driving.master.master_state.declared.config.Config.{Config}
use Rattle.answers.specs.driving.master.master_state.declared.step.Refusal.{Refusal}
use Rattle.answers.specs.driving.master.master_state.Data.{Origin, MasterData}
use Rattle.answers.specs.driving.master.master_state.Log.{opening_of, log_of}
use Rattle.answers.specs.driving.master.Valid.{IsValid}
use Rattle.answers.specs.driving.master.World.{MasterValue, World}
use Rattle.answers.specs.declared.answer.Answer.{Answer}
use Rattle.answers.specs.declared.answer.Answer.TheVariants as answer
use Rattle.cluster.specs.declared.node.Node.{Node}
use Rattle.cluster.specs.declared.node.Node.TheVariants.{Up, Down, Changing}
use Rattle.cluster.specs.Lives.{life_to, HasLived, Left, Position}
use Rattle.answers.specs.driving.Served.{LivesOn, record_of}
use Rattle.cluster.specs.Served.{IsOf, IsNodeAt, AnswersLine, LivesLonger, MakesRun, is_up}
use Rattle.cluster.specs.Served.{life_of}
use Rattle.cluster.specs.Told.{command_of, is_for_master, is_for_none, Tells}

-- ---- what the node stands for goes on

-- masters of one origin begin with one state
pub same_opening : (d e : MasterData) → e.origin ≡ d.origin → opening_of d ≡ opening_of e
same_opening d e is = ap (λ (o : Origin). record { contents = contents_of o.objects; safe = o.safe }) (sym is)

-- the record that was added is at the end of what was
last_record : (xs : List Record) (r : Record) → slice_get (xs ++ r ∷ []) (length xs) ≡ Some r
last_record [] r = refl
last_record (x ∷ xs) r = last_record xs r

abbrev pub Answered : MasterData → Node → Config → Position → LineValue → Answer → Type 0
Answered d new config at line a =
    (e : MasterData) × (next : Position) × IsNodeAt new config e next × LivesLonger d e
    × Tells config (life_of e) at line a next

module _ (d e : MasterData) (old new : Node) (config : Config) (at : Position) (left : Option Left)
    (of : IsOf new left e) (s : IsNodeAt old config d at) where
  -- the line made no record
  pub still_stands : LivesOn d e [] → IsNodeAt new config e
      (record { made = at.made; acknowledged = at.acknowledged; left = left })
  still_stands g =
      let up = g.durable in
      let kept = s.acknowledged in
      record {
        node_of = of;
        configured = g.config ∙ s.configured;
        made = s.made ∙ ap length (sym (g.history ∙ append-nil d.history));
        acknowledged = omega arith;
      }

  -- the line made one
  pub stands_longer : (command : Command) (reply : Reply) (acknowledged : ℕ) → LivesOn d e (record_of command reply)
      → acknowledged ≤ durable_of (log_of e)
      → IsNodeAt new config e (record { made = suc at.made; acknowledged = acknowledged; left = left })
  stands_longer command reply acknowledged g kept = record {
    node_of = of;
    configured = g.config ∙ s.configured;
    made =
        let longer = ap length g.history in
        let count = length-append d.history (record_of command reply) in
        let before = s.made in
        omega arith;
    acknowledged = kept;
  }

  pub record_there : (command : Command) (reply : Reply) → LivesOn d e (record_of command reply)
      → slice_get e.history at.made ≡ Some (record { seat = 0; command = command; reply = reply })
  record_there command reply g = (λ i. slice_get (g.history i) (s.made i)) ∙ last_record d.history _

  -- all records so far
  pub all_made : (more : List Record) → e.history ≡ d.history ++ more → d.history ≡ take at.made e.history
  all_made more is = sym ((λ i. take (s.made i) (is i)) ∙ take-append_seam d.history more)

  -- a master that had lived all so far
  pub lived : (f : FleetState) → IsValid d f → e.origin ≡ d.origin → (more : List Record)
      → e.history ≡ d.history ++ more → HasLived config (life_to (life_of e) at.made) d f
  lived f valid origin more is = record {
    configured = s.configured;
    opening = same_opening d e origin;
    history = all_made more is;
    valid = valid;
  }

  -- and one that has lived all
  pub lived_longer : (f : FleetState) → IsValid e f → (count : ℕ) → e.config ≡ config → count ≡ length e.history
      → HasLived config (life_to (life_of e) count) e f
  lived_longer f valid count configured whole = record {
    configured = configured;
    opening = refl;
    history = sym (ap (λ (n : ℕ). take n e.history) whole ∙ take-length e.history);
    valid = valid;
  }

-- ---- where a node stands

-- whatever a node stands for has a legal history
pub legal_of : (node : Node) (left : Option Left) (d : MasterData) → IsOf node left d → IsLegal (opening_of d) d.history
legal_of (Up m) left d of = of.2.legal
legal_of (Down fleet) left d of = of.2.valid.legal
legal_of Changing left d of = absurd of

pub is_up_none : (node : Node) (d : MasterData) (left : Option Left) → is_up node ≡ true
    → IsOf node left d → left ≡ None
is_up_none (Up m) d left up of = of.0
is_up_none (Down fleet) d left up of = absurd (cc)
is_up_none Changing d left up of = absurd of

pub not_up : (node : Node) → ((m : MasterValue MemoryFleet) → node ≡ Up m → ⊥) → is_up node ≡ false
not_up (Up m) other = absurd (other m refl)
not_up (Down fleet) other = refl
not_up Changing other = refl

pub is_down_some : (node : Node) (d : MasterData) (left : Option Left) → is_up node ≡ false → IsOf node left d
    → (l : Left) × (left ≡ Some l)
is_down_some (Up m) d left down of = absurd (cc)
is_down_some (Down fleet) d left down of = (of.0, of.1)
is_down_some Changing d left down of = absurd of

-- ---- lines that make no record

-- a node answers of what it stands for, and stays
pub stays_told : (node : Node) (config : Config) (line : LineValue) (a : Answer)
    → ((d : MasterData) (at : Position) → IsNodeAt node config d at → Tells config (life_of d) at line a at)
    → AnswersLine node config line node a
stays_told node config line a tells d at s = (d, at, s, ([], refl, sym (append-nil d.history)), tells d at s)

-- the node that is left stands for the same, where it stood
pub same_told : (old new : Node) (config : Config) (line : LineValue) (a : Answer)
    → ((d : MasterData) (left : Option Left) → IsOf old left d → IsOf new left d)
    → ((d : MasterData) (at : Position) → IsNodeAt old config d at → Tells config (life_of d) at line a at)
    → AnswersLine old config line new a
same_told old new config line a same tells d at s = (
  d,
  at,
  record {
    node_of = same d at.left s.node_of;
    configured = s.configured;
    made = s.made;
    acknowledged = s.acknowledged;
  },
  ([], refl, sym (append-nil d.history)),
  tells d at s,
)

-- a line for a master, where there is none
pub down_told : (node : Node) (config : Config) (line : LineValue) → is_up node ≡ false → is_for_master line ≡ true
    → AnswersLine node config line node answer.Down
down_told node config line down asks =
    stays_told node config line answer.Down (λ d at s. (is_down_some node d at.left down s.node_of, asks, refl))

-- a node without a master makes no step
pub down_run : {X : Type 0} (runs : World → Result X Refusal → World → Type 0) (gives : X → Answer) (node : Node)
    → is_up node ≡ false → MakesRun runs gives node node answer.Down
down_run runs gives (Up m) down = absurd (cc)
down_run runs gives (Down fleet) down = (refl, refl)
down_run runs gives Changing down = (refl, refl)

pub up_told : (node : Node) (config : Config) (line : LineValue) → is_up node ≡ true → is_for_none line ≡ true
    → AnswersLine node config line node answer.Up
up_told node config line up asks =
    stays_told node config line answer.Up (λ d at s. (is_up_none node d at.left up s.node_of, asks, refl))

pub asks_master : (line : LineValue) (command : Command) → command_of line ≡ Some command → is_for_master line ≡ true
asks_master (Put table key value) command is = refl
asks_master (New table key value) command is = refl
asks_master (Cas table key version value) command is = refl
asks_master (Get table key) command is = refl
asks_master (Del table key) command is = refl
asks_master line command is = absurd (cc)
