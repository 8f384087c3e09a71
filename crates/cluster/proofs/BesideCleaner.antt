-- Commands of a master that cleans itself.
use Rattle.std.proofs.Common.{◌≡◌, ℕ, zero, suc, ◌+◌, ◌<◌, List, [], ◌∷◌, ◌++◌, length, Bool, true, false, refl, sym}
use Rattle.std.proofs.Common.{ap, subst, inl, inr, ◌∙◌, arith}
use Rattle.std.proofs.lemmas.List.{append-nil}
use Rattle.std.specs.Prelude.{Option, Some, None, Result, Ok, Err, slice_get}
use Rattle.std.specs.Option.{option_map}
use Rattle.backup.specs.State.{fleet_state}
use Rattle.backup.specs.declared.fleet.MemoryFleet.{MemoryFleet}
use Rattle.lines.specs.Grammar.{LineValue, Put, New, Cas, Get, Del, Roll, Clean, Tend, Clients, Recover}
use Rattle.versioned_map.specs.declared.command.Command.{Command}
use Rattle.versioned_map.specs.declared.command.Command.TheVariants as command
use Rattle.versioned_map.specs.declared.command.If.TheVariants.{Any, Absent, Version}
use Rattle.versioned_map.specs.declared.command.Record.{Record}
use Rattle.versioned_map.specs.declared.command.Reply.{Reply}
use Rattle.answers.specs.driving.master.master_state.declared.config.Config.{Config}
use Rattle.answers.specs.driving.master.master_state.declared.step.Refusal.{Refusal}
use Rattle.answers.specs.driving.master.master_state.declared.step.Refusal.TheVariants as refusal
use Rattle.answers.specs.driving.master.master_state.Data.{MasterData}
use Rattle.answers.specs.driving.master.Valid.{IsValid}
use Rattle.answers.specs.driving.master.World.{MasterValue, World, world}
use Rattle.answers.specs.driving.Commands.{RunsCommand}
use Rattle.answers.specs.driving.Served.{LivesOn, is_of_push}
use Rattle.answers.specs.declared.answer.Answer.{Answer}
use Rattle.answers.specs.declared.answer.Answer.TheVariants as answer
use Rattle.answers.proofs.of_driving.LeastHeads.{LeavesOthers, command_leaves}
use Rattle.tending.specs.Low.{usual_for}
use Rattle.tending.specs.Rounds.{MakesRound}
use Rattle.tending.specs.Tends.{TendsBehind}
use Rattle.tending.proofs.LeastHeads.{behind_leaves, leaves_on, nowhere, round_leaves}
use Rattle.cluster.specs.declared.node.Node.{Node}
use Rattle.cluster.specs.declared.node.Node.TheVariants.{Up, Down, Changing}
use Rattle.cluster.specs.Lives.{Life, Position, life_to}
use Rattle.cluster.specs.Served.{IsLeftIn, IsNodeAt, IsOf, MakesCommand, Refuses, is_up, life_of}
use Rattle.cluster.specs.Served.{refusal_answer, reply_told}
use Rattle.cluster.specs.Tended.{EndsTended, Gains, GainsNothing, GainsRoom, HasWay, IsNoReply, MakesTended, MakesWay}
use Rattle.cluster.specs.Tended.{RunsAfterRoll, RunsLine, RunsTended, StaysOn, TellsLine, TendsOn}
use Rattle.cluster.specs.Told.{command_of, IsStepRefusal, Tells}
use Rattle.cluster.specs.Waits.{IsReplyAt, MakesOpen, MakesTry, Serves}
use Rattle.cluster.proofs.ByHand.{of_step}
use Rattle.cluster.proofs.LeastHeads.{IsUpTo, StaysUnraised, command_made, made, same_node}
use Rattle.cluster.proofs.Rolls.{later_told}
use Rattle.cluster.proofs.Standing.{is_up_none, same_opening}
use Rattle.cluster.proofs.Steps.{stays}
use Rattle.cluster.proofs.Tries.{waited_makes}

-- without steps behind it a command is run alone
pub plain_makes : (steps : ℕ) (old new : Node) (command : Command) (a : Answer) → steps ≡ 0
    → MakesCommand old command new a → MakesTended steps old command new a
plain_makes steps old new command a plain makes =
    subst (λ (n : ℕ). MakesTended n old command new a) (sym plain) makes

-- ---- a node that stays where it stood

pub stays_none : (node : Node) → StaysOn node node
stays_none node config d at s = (d, (s, (refl, refl)))

pub stays_then : (old mid new : Node) → StaysOn old mid → StaysOn mid new → StaysOn old new
stays_then old mid new first later config d at s =
    let one = first config d at s in
    let two = later config one.0 at one.1.0 in
    (two.0, (two.1.0, (two.1.1.0 ∙ one.1.1.0, two.1.1.1 ∙ one.1.1.1)))

-- the master of a node goes on, and makes no record
pub stays_up : (old : Node) (up m : MasterValue MemoryFleet) → old ≡ Up up → LivesOn up.knows m.knows []
    → IsValid m.knows (fleet_state m.fleet) → StaysOn old (Up m)
stays_up old up m is on valid config d at s =
    let was : IsOf (Up up) at.left d = subst (λ (n : Node). IsOf n at.left d) is s.node_of in
    let goes : LivesOn d m.knows [] = subst (λ (x : MasterData). LivesOn x m.knows []) was.1 on in
    let none = is_up_none old d at.left (ap is_up is) s.node_of in (
      m.knows,
      (
        stays d m.knows old (Up m) config at s none (refl, refl, valid) (fleet_state up.fleet) (fleet_state m.fleet)
            was.2 valid goes,
        (goes.origin, goes.history ∙ append-nil d.history),
      ),
    )

-- a line is told of a node that then stays where it stood
pub then_stays : (old mid new : Node) (command : Command) (a : Answer) → TellsLine old command mid a
    → StaysOn mid new → TellsLine old command new a
then_stays old mid new command a told later config line asks d at s =
    let one = told config line asks d at s in
    let two = later config one.0 one.1 one.2 in
    let back = sym two.1.1.1 in
    let opening = same_opening one.0 two.0 two.1.1.0 in
    let same : life_of one.0 ≡ life_of two.0 = λ i. record { opening = opening i; history = back i } in (
      two.0,
      one.1,
      two.1.0,
      (one.3.0, two.1.1.0 ∙ one.3.1, two.1.1.1 ∙ one.3.2),
      subst (λ (l : Life). Tells config l at line a one.1) same one.4,
    )

-- a line is told of a node that stayed where it stood before
pub stayed_before : (old mid new : Node) (command : Command) (a : Answer) → StaysOn old mid
    → TellsLine mid command new a → TellsLine old command new a
stayed_before old mid new command a first told config line asks d at s =
    let one = first config d at s in
    later_told d one.0 mid new config at line a one.1 (told config line asks)

-- ---- a command that is refused as Full

abbrev line_for : Command → LineValue
line_for (command.Put key value Any) = Put key.table key.bytes value
line_for (command.Put key value Absent) = New key.table key.bytes value
line_for (command.Put key value (Version version)) = Cas key.table key.bytes version value
line_for (command.Get key) = Get key.table key.bytes
line_for (command.Delete key) = Del key.table key.bytes

line_asks : (c : Command) → command_of (line_for c) ≡ Some c
line_asks (command.Put key value Any) = refl
line_asks (command.Put key value Absent) = refl
line_asks (command.Put key value (Version version)) = refl
line_asks (command.Get key) = refl
line_asks (command.Delete key) = refl

-- a command's line asks for no step
no_step : (config : Config) (life : Life) (line : LineValue) (r : Refusal) (c : Command) → command_of line ≡ Some c
    → IsStepRefusal config life line r → ⊥
no_step config life Roll r c asks is = absurd (cc)
no_step config life (Clean victims) r c asks is = absurd (cc)
no_step config life (Tend steps) r c asks is = absurd (cc)
no_step config life line r c asks is = let alone = (of_step is.0 line is.1).alone in absurd (cc)

none_more : (xs more : List Record) → length (xs ++ more) ≡ length xs → more ≡ []
none_more [] [] same = refl
none_more [] (r ∷ rs) same = absurd (omega (arith, same))
none_more (x ∷ xs) more same = none_more xs more (omega (arith, same))

other_line : (line other : LineValue) (c : Command) → command_of line ≡ Some c → line ≡ other
    → command_of other ≡ Some c
other_line line other c asks is = subst (λ (l : LineValue). command_of l ≡ Some c) is asks

-- no record was made, so the node stands where it stood
full_at : (config : Config) (life : Life) (at next : Position) (line : LineValue) (c : Command)
    → command_of line ≡ Some c → Tells config life at line (answer.Refused refusal.Full) next → next ≡ at
full_at config life at next line c asks (inl (none, inl (unspent, inl (out, why)))) =
    out.2 ∙ (λ i. record { made = at.made; acknowledged = at.acknowledged; left = sym none i })
full_at config life at next line c asks (inl (none, inl (unspent, inr (added, pushed, waits)))) =
    let bad : is_of_push refusal.Full ≡ true = waits in absurd (cc)
full_at config life at next line c asks (inl (none, inr step)) =
    absurd (no_step config (life_to life at.made) line refusal.Full c asks step.1)
full_at config life at next line c asks (inr (inl (memory, shown, same))) = absurd (cc)
full_at config life at next line c asks (inr (inr (unspent, inl unadopted))) =
    let other = other_line line (Recover unadopted.0.0) c asks unadopted.0.1 in absurd (cc)
full_at config life at next line c asks (inr (inr (unspent, inr uncounted))) =
    let other = other_line line (Clients uncounted.clients uncounted.rounds uncounted.asks.0) c asks
    uncounted.asks.1 in
    absurd (cc)

pub full_stays : (old new : Node) (c : Command) → TellsLine old c new (answer.Refused refusal.Full) → StaysOn old new
full_stays old new c told config d at s =
    let line = line_for c in
    let one = told config line (line_asks c) d at s in
    let here = full_at config (life_of one.0) at one.1 line c (line_asks c) one.4 in
    let there : IsNodeAt new config one.0 at = subst (λ (p : Position). IsNodeAt new config one.0 p) here one.2 in
    let same : length one.0.history ≡ length d.history = sym there.made ∙ s.made in
    let none = none_more d.history one.3.0 (sym (ap length one.3.2) ∙ same) in
    (one.0, (there, (one.3.1, one.3.2 ∙ ap (λ more. d.history ++ more) none ∙ append-nil d.history)))

-- ---- results and answers

abbrev refusal_in : Refusal → Answer → Refusal
refusal_in other (answer.Refused r) = r
refusal_in other a = other

-- the result that is answered so is that refusal
full_result : (result : Result Reply Refusal) → answer.Refused refusal.Full ≡ reply_told result
    → result ≡ Err refusal.Full
full_result (Ok reply) is = absurd (cc)
full_result (Err refusal.Spent) is = absurd (cc)
full_result (Err r) is = ap Err (ap (refusal_in refusal.Full) (sym is))

-- the result that is answered with a reply has it
abbrev reply_in : Reply → Answer → Reply
reply_in other (answer.Reply reply) = reply
reply_in other a = other

reply_result : (result : Result Reply Refusal) (reply : Reply) → answer.Reply reply ≡ reply_told result
    → result ≡ Ok reply
reply_result (Ok r) reply is = ap Ok (ap (reply_in reply) (sym is))
reply_result (Err refusal.Spent) reply is = absurd (cc)
reply_result (Err r) reply is = absurd (cc)

-- a refusal is answered by no reply
pub refusal_no_reply : (r : Refusal) → IsNoReply (refusal_answer r)
refusal_no_reply refusal.Spent reply is = cc
refusal_no_reply r reply is = cc

pub refuses_no_reply : (old : Node) (r : Refusal) (new : Node) (a : Answer) → Refuses old r new a → IsNoReply a
refuses_no_reply old r new a (inl (is, unspent, same)) reply replied = let both = sym is ∙ replied in cc
refuses_no_reply old r new a (inr (is, spent, dropped, lifted)) reply replied = let both = sym is ∙ replied in cc

abbrev error_in : Answer → Result (Unit {0}) Answer → Answer
error_in other (Ok done) = other
error_in other (Err e) = e

pub open_no_reply : (old new : Node) (a : Answer) → MakesOpen old new (Err a) → IsNoReply a
open_no_reply (Up m) new a (r, w, rolls, is, left) reply replied = refusal_no_reply r reply (sym is ∙ replied)
open_no_reply (Down f) new a (same, is) reply replied =
    let down : a ≡ answer.Down = ap (error_in a) is in let both = sym down ∙ replied in cc
open_no_reply Changing new a (same, is) reply replied =
    let down : a ≡ answer.Down = ap (error_in a) is in let both = sym down ∙ replied in cc

-- ---- one run

-- a command that waits for a roll
pub waited_runs : (old mid new : Node) (command : Command) (result : Result ℕ Answer) → Serves old command mid None
    → MakesTry old command mid None → RunsAfterRoll mid command new result → RunsLine old command new result
waited_runs old mid new command (Ok place) waits makes (reply, at, told, made) = (
  reply,
  at,
  (λ config line asks. told old config line asks (waits config)),
  waited_makes old mid new command (answer.Reply reply) makes made,
)
waited_runs old mid new command (Err a) waits makes (told, made, other) = (
  (λ config line asks. told old config line asks (waits config)),
  waited_makes old mid new command a makes made,
  other,
)

-- ---- rounds of the cleaner

pub gained_room : (old : Node) (up m : MasterValue MemoryFleet) → old ≡ Up up → (gained : Bool)
    → MakesRound (usual_for up.knows.config) (world fleet_state up) (Ok gained) (world fleet_state m)
    → GainsRoom old gained (Up m)
gained_room old up m is true round =
    subst (λ (n : Node). GainsRoom n true (Up m)) (sym is) (world fleet_state m, round, refl)
gained_room old up m is false round =
    subst (λ (n : Node). GainsRoom n false (Up m)) (sym is) (world fleet_state m, inl round, refl)

pub refused_room : (old : Node) (up m : MasterValue MemoryFleet) → old ≡ Up up → (r : Refusal)
    → MakesRound (usual_for up.knows.config) (world fleet_state up) (Err r) (world fleet_state m)
    → GainsRoom old false (Up m)
refused_room old up m is r round =
    subst (λ (n : Node). GainsRoom n false (Up m)) (sym is) (world fleet_state m, inr (r, round), refl)

pub no_room : (node : Node) → is_up node ≡ false → GainsRoom node false node
no_room (Up m) down = absurd (cc)
no_room (Down f) down = (refl, refl)
no_room Changing down = (refl, refl)

pub no_tending : (node : Node) (steps : ℕ) → is_up node ≡ false → TendsOn node steps node
no_tending (Up m) steps down = absurd (cc)
no_tending (Down f) steps down = refl
no_tending Changing steps down = refl

-- a record that stays has its reply still
pub reply_stays : (old : Node) (up m : MasterValue MemoryFleet) → old ≡ Up up → LivesOn up.knows m.knows []
    → (place : ℕ) (reply : Reply) → IsReplyAt old place reply → IsReplyAt (Up m) place reply
reply_stays old up m is on place reply at =
    let was : IsReplyAt (Up up) place reply = subst (λ (n : Node). IsReplyAt n place reply) is at in
    let kept = was.0 in
    let same = on.forgotten in (
      omega (arith, kept, same),
      ap (λ (rs : List Record). option_map (λ (r : Record). r.reply) (slice_get rs place))
          (on.history ∙ append-nil up.knows.history)
          ∙ was.1,
    )

-- ---- a line beside the cleaner

pub way_none : (node : Node) (c : Command) → HasWay 0 node c node
way_none (Up m) c = (world fleet_state m, refl, refl)
way_none (Down f) c = (refl, refl)
way_none Changing c = (refl, refl)

abbrev world_in : World → Option World → World
world_in other (Some w) = w
world_in other None = other

-- a command was refused as Full, and the cleaner gained seglets
pub way_more : (rounds : ℕ) (old mid full new : Node) (c : Command) → HasWay rounds old c mid
    → MakesCommand mid c full (answer.Refused refusal.Full) → GainsRoom full true new → HasWay (rounds + 1) old c new
way_more rounds (Up m) (Up k) (Up l) new c (w, way, there) (result, v, runs, is, left) (u, gains, ends) =
    let at : w ≡ world fleet_state k = ap (world_in w) (sym there) in
    let on : world fleet_state l ≡ v = ap (world_in v) left in
    let next : suc rounds ≡ rounds + 1 = omega arith in
    let ran : RunsCommand w c (Err refusal.Full) v =
    subst (λ (x : World). RunsCommand x c (Err refusal.Full) v) (sym at)
    (subst (λ (r : Result Reply Refusal). RunsCommand (world fleet_state k) c r v) (full_result result is) runs) in (
      u,
      subst (λ (n : ℕ). MakesWay n (world fleet_state m) c u) next
          (w, way, v, ran, subst (λ (x : World). Gains x u) on gains),
      ends,
    )
way_more rounds (Up m) (Up k) (Down f) new c way makes (same, wrong) = absurd (cc)
way_more rounds (Up m) (Up k) Changing new c way makes (same, wrong) = absurd (cc)
way_more rounds (Up m) (Down f) full new c (w, way, there) makes gains = absurd (cc)
way_more rounds (Up m) Changing full new c (w, way, there) makes gains = absurd (cc)
way_more rounds (Down f) mid full new c (same, none) makes gains = absurd
    (down_full (Down f) mid full c refl same makes)
  where
    down_full : (old mid full : Node) (c : Command) → is_up old ≡ false → mid ≡ old
        → MakesCommand mid c full (answer.Refused refusal.Full) → ⊥
    down_full old (Up k) full c down same makes =
        let bad : true ≡ false = ap is_up same ∙ down in cc
    down_full old (Down f) full c down same (stayed, wrong) = cc
    down_full old Changing full c down same (stayed, wrong) = cc
way_more rounds Changing mid full new c (same, none) makes gains = absurd
    (down_full Changing mid full c refl same makes)
  where
    down_full : (old mid full : Node) (c : Command) → is_up old ≡ false → mid ≡ old
        → MakesCommand mid c full (answer.Refused refusal.Full) → ⊥
    down_full old (Up k) full c down same makes =
        let bad : true ≡ false = ap is_up same ∙ down in cc
    down_full old (Down f) full c down same (stayed, wrong) = cc
    down_full old Changing full c down same (stayed, wrong) = cc

-- a line of a node that is up, by what its master makes
up_tended : (steps : ℕ) → 0 < steps → (m : MasterValue MemoryFleet) (c : Command) (new : Node) (a : Answer)
    → ((result : Result Reply Refusal) × (w : World) × RunsTended steps (world fleet_state m) c result w
    × (a ≡ reply_told result) × IsLeftIn w a new)
    → MakesTended steps (Up m) c new a
up_tended zero some m c new a all = absurd (omega (arith, some))
up_tended (suc n) some m c new a all = all

down_tended : (steps : ℕ) → 0 < steps → (old : Node) (c : Command) (new : Node) (a : Answer) → is_up old ≡ false
    → new ≡ old → a ≡ answer.Down → MakesTended steps old c new a
down_tended zero some old c new a down same is = absurd (omega (arith, some))
down_tended (suc n) some (Up m) c new a down same is = absurd (cc)
down_tended (suc n) some (Down f) c new a down same is = (same, is)
down_tended (suc n) some Changing c new a down same is = (same, is)

-- a node that is down replies to no command
down_replies : (old mid ran : Node) (c : Command) (reply : Reply) → is_up old ≡ false → mid ≡ old
    → MakesCommand mid c ran (answer.Reply reply) → ⊥
down_replies old (Up k) ran c reply down same makes = let bad : true ≡ false = ap is_up same ∙ down in cc
down_replies old (Down f) ran c reply down same (stayed, wrong) = cc
down_replies old Changing ran c reply down same (stayed, wrong) = cc

-- a command was carried out, and then the cleaner made its steps
pub replied_tended : (steps rounds : ℕ) → 0 < steps → rounds < 65536 → (old mid ran new : Node) (c : Command)
    (reply : Reply) → HasWay rounds old c mid → MakesCommand mid c ran (answer.Reply reply) → TendsOn ran steps new
    → MakesTended steps old c new (answer.Reply reply)
replied_tended steps rounds some few (Up m) (Up k) (Up l) new c reply (w, way, there) (result, v, runs, is, left)
    (steps_made, u, tends, ends) =
    let at : w ≡ world fleet_state k = ap (world_in w) (sym there) in
    let on : world fleet_state l ≡ v = ap (world_in v) left in
    let ran : RunsCommand w c (Ok reply) v =
    subst (λ (x : World). RunsCommand x c (Ok reply) v) (sym at)
    (subst (λ (r : Result Reply Refusal). RunsCommand (world fleet_state k) c r v) (reply_result result reply is)
    runs) in
    up_tended steps some m c new (answer.Reply reply) (
      Ok reply,
      u,
      inl (record {
        rounds = rounds;
        few = omega (arith, few);
        mid = w;
        way = way;
        last = v;
        run = ran;
        ends = (
          steps_made,
          subst (λ (x : World). TendsBehind (usual_for x.knows.config) steps x steps_made u) on
              tends,
        );
      }),
      refl,
      ends,
    )
replied_tended steps rounds some few (Up m) (Up k) (Down f) new c reply way (result, v, runs, is, left) tends =
    absurd (cc)
replied_tended steps rounds some few (Up m) (Up k) Changing new c reply way (result, v, runs, is, left) tends =
    absurd (cc)
replied_tended steps rounds some few (Up m) (Down f) ran new c reply (w, way, there) makes tends = absurd (cc)
replied_tended steps rounds some few (Up m) Changing ran new c reply (w, way, there) makes tends = absurd (cc)
replied_tended steps rounds some few (Down f) mid ran new c reply (same, none) makes tends =
    absurd (down_replies (Down f) mid ran c reply refl same makes)
replied_tended steps rounds some few Changing mid ran new c reply (same, none) makes tends =
    absurd (down_replies Changing mid ran c reply refl same makes)

ends_refused : (steps : ℕ) (result : Result Reply Refusal) (a : Answer) (w : World) → IsNoReply a
    → (a ≡ answer.Refused refusal.Full → ⊥) → a ≡ reply_told result → EndsTended steps result w w
ends_refused steps (Ok reply) a w other unfull is = absurd (other reply is)
ends_refused steps (Err r) a w other unfull is =
    inr ((λ full. unfull (is ∙ ap refusal_answer full)), refl)

-- a command was refused, and not as Full
pub refused_tended : (steps rounds : ℕ) → 0 < steps → rounds < 65536 → (old mid new : Node) (c : Command) (a : Answer)
    → HasWay rounds old c mid → MakesCommand mid c new a → IsNoReply a → (a ≡ answer.Refused refusal.Full → ⊥)
    → MakesTended steps old c new a
refused_tended steps rounds some few (Up m) (Up k) new c a (w, way, there) (result, v, runs, is, left) other unfull =
    let at : w ≡ world fleet_state k = ap (world_in w) (sym there) in
    up_tended steps some m c new a (
      result,
      v,
      inl (record {
        rounds = rounds;
        few = omega (arith, few);
        mid = w;
        way = way;
        last = v;
        run = subst (λ (x : World). RunsCommand x c result v) (sym at) runs;
        ends = ends_refused steps result a v other unfull is;
      }),
      is,
      left,
    )
refused_tended steps rounds some few (Up m) (Down f) new c a (w, way, there) makes other unfull = absurd (cc)
refused_tended steps rounds some few (Up m) Changing new c a (w, way, there) makes other unfull = absurd (cc)
refused_tended steps rounds some few (Down f) (Up k) new c a (same, none) makes other unfull = absurd (cc)
refused_tended steps rounds some few (Down f) (Down g) new c a (same, none) (stayed, is) other unfull =
    down_tended steps some (Down f) c new a refl (stayed ∙ same) is
refused_tended steps rounds some few (Down f) Changing new c a (same, none) makes other unfull = absurd (cc)
refused_tended steps rounds some few Changing (Up k) new c a (same, none) makes other unfull = absurd (cc)
refused_tended steps rounds some few Changing (Down g) new c a (same, none) makes other unfull = absurd (cc)
refused_tended steps rounds some few Changing Changing new c a (same, none) (stayed, is) other unfull =
    down_tended steps some Changing c new a refl (stayed ∙ same) is

-- a command was refused as Full, and the cleaner gained nothing
pub full_tended : (steps rounds : ℕ) → 0 < steps → rounds < 65536 → (old mid full new : Node) (c : Command)
    → HasWay rounds old c mid → MakesCommand mid c full (answer.Refused refusal.Full) → GainsRoom full false new
    → MakesTended steps old c new (answer.Refused refusal.Full)
full_tended steps rounds some few (Up m) (Up k) (Up l) new c (w, way, there) (result, v, runs, is, left)
    (u, gains, ends) =
    let at : w ≡ world fleet_state k = ap (world_in w) (sym there) in
    let on : world fleet_state l ≡ v = ap (world_in v) left in
    let ran : RunsCommand w c (Err refusal.Full) v =
    subst (λ (x : World). RunsCommand x c (Err refusal.Full) v) (sym at)
    (subst (λ (r : Result Reply Refusal). RunsCommand (world fleet_state k) c r v) (full_result result is) runs) in
    up_tended steps some m c new (answer.Refused refusal.Full) (
      Err refusal.Full,
      u,
      inl (record {
        rounds = rounds;
        few = omega (arith, few);
        mid = w;
        way = way;
        last = v;
        run = ran;
        ends = inl (refl, subst (λ (x : World). GainsNothing x u) on gains);
      }),
      refl,
      ends,
    )
full_tended steps rounds some few (Up m) (Up k) (Down f) new c way (result, v, runs, is, left) gains = absurd (cc)
full_tended steps rounds some few (Up m) (Up k) Changing new c way (result, v, runs, is, left) gains = absurd (cc)
full_tended steps rounds some few (Up m) (Down f) full new c (w, way, there) makes gains = absurd (cc)
full_tended steps rounds some few (Up m) Changing full new c (w, way, there) makes gains = absurd (cc)
full_tended steps rounds some few (Down f) (Up k) full new c (same, none) makes gains = absurd (cc)
full_tended steps rounds some few (Down f) (Down g) full new c (same, none) (stayed, is) gains = absurd (cc)
full_tended steps rounds some few (Down f) Changing full new c (same, none) makes gains = absurd (cc)
full_tended steps rounds some few Changing (Up k) full new c (same, none) makes gains = absurd (cc)
full_tended steps rounds some few Changing (Down g) full new c (same, none) makes gains = absurd (cc)
full_tended steps rounds some few Changing Changing full new c (same, none) (stayed, is) gains = absurd (cc)

-- a command was refused as Full behind each round, up to the last
pub spent_tended : (steps rounds : ℕ) → 0 < steps → rounds ≡ 65536 → (old new : Node) (c : Command)
    → HasWay rounds old c new → MakesTended steps old c new (answer.Refused refusal.Full)
spent_tended steps rounds some all (Up m) new c (w, way, there) =
    up_tended steps some m c new (answer.Refused refusal.Full) (
      Err refusal.Full,
      w,
      inr (refl, subst (λ (n : ℕ). MakesWay n (world fleet_state m) c w) all way),
      refl,
      there,
    )
spent_tended steps rounds some all (Down f) new c (same, none) = absurd (omega (arith, all, none))
spent_tended steps rounds some all Changing new c (same, none) = absurd (omega (arith, all, none))

-- ---- least heads

way_leaves : (rounds : ℕ) (old : World) (c : Command) (new : World) → MakesWay rounds old c new
    → LeavesOthers old new
way_leaves zero old c new same = nowhere old new same
way_leaves (suc rounds) old c new (mid, way, full, runs, gains) =
    leaves_on old mid new (way_leaves rounds old c mid way)
    (leaves_on mid full new (command_leaves mid full c (Err refusal.Full) runs)
    (round_leaves (usual_for full.knows.config) full new (Ok true) gains))

ends_leave : (steps : ℕ) (result : Result Reply Refusal) (old new : World) → EndsTended steps result old new
    → LeavesOthers old new
ends_leave steps (Ok reply) old new (made, tends) =
    behind_leaves (usual_for old.knows.config) steps old new made tends
ends_leave steps (Err r) old new (inl (full, inl round)) =
    round_leaves (usual_for old.knows.config) old new (Ok false) round
ends_leave steps (Err r) old new (inl (full, inr round)) =
    round_leaves (usual_for old.knows.config) old new (Err round.0) round.1
ends_leave steps (Err r) old new (inr (unfull, same)) = nowhere old new same

runs_leave : (steps : ℕ) (old : World) (c : Command) (result : Result Reply Refusal) (new : World)
    → RunsTended steps old c result new → LeavesOthers old new
runs_leave steps old c result new (inl run) =
    leaves_on old run.mid new (way_leaves run.rounds old c run.mid run.way)
    (leaves_on run.mid run.last new (command_leaves run.mid run.last c result run.run)
    (ends_leave steps result run.last new run.ends))
runs_leave steps old c result new (inr (is, way)) = way_leaves 65536 old c new way

-- a command's line beside the cleaner raises no least head of a master with a greater number
pub tended_made : (number steps : ℕ) (old : Node) (c : Command) (new : Node) (a : Answer)
    → MakesTended steps old c new a → IsUpTo number old → StaysUnraised number old new
tended_made number zero old c new a is below = command_made number old c new a is below
tended_made number (suc n) (Up m) c new a is below =
    made number m is.1 a new is.4 below (runs_leave (suc n) (world fleet_state m) c is.0 is.1 is.2).least
tended_made number (suc n) (Down f) c new a is below = same_node number (Down f) new is.0
tended_made number (suc n) Changing c new a is below = same_node number Changing new is.0

-- ---- steps behind a command

pub up_tends : (old : Node) (up m : MasterValue MemoryFleet) → old ≡ Up up → (steps : ℕ) (made : Result ℕ Refusal)
    → TendsBehind (usual_for up.knows.config) steps (world fleet_state up) made (world fleet_state m)
    → TendsOn old steps (Up m)
up_tends old up m is steps made tends =
    subst (λ (n : Node). TendsOn n steps (Up m)) (sym is) (made, world fleet_state m, tends, refl)
