-- The steps of a command's line, one after another.
use Rattle.std.proofs.Common.{◌≡◌, ℕ, List, [], ◌∷◌, ◌++◌, length, Bool, true, false, refl, sym, ap, subst, inl, inr}
use Rattle.std.proofs.Common.{◌∙◌, ◌≤◌, arith}
use Rattle.std.specs.Prelude.{Option, Some, None, Result, Ok, Err, unwrap_or, slice_get, if◌then◌else◌}
use Rattle.std.specs.Option.{option_map}
use Rattle.backup.specs.State.{fleet_state}
use Rattle.backup.specs.declared.fleet.MemoryFleet.{MemoryFleet}
use Rattle.lines.specs.Grammar.{LineValue}
use Rattle.versioned_map.specs.declared.command.Command.{Command}
use Rattle.versioned_map.specs.declared.command.Record.{Record}
use Rattle.versioned_map.specs.declared.command.Reply.{Reply}
use Rattle.answers.specs.driving.master.master_state.declared.step.Refusal.{Refusal}
use Rattle.answers.specs.driving.master.master_state.declared.step.Refusal.TheVariants as refusal
use Rattle.answers.specs.driving.master.master_state.declared.step.Step.TheVariants.{Apply, Push}
use Rattle.answers.specs.driving.master.master_state.Causes.{is_done}
use Rattle.answers.specs.driving.master.master_state.Data.{MasterData}
use Rattle.answers.specs.driving.master.Steps.{Declines}
use Rattle.answers.specs.driving.master.World.{MasterValue, World, world}
use Rattle.answers.specs.declared.answer.Answer.{Answer}
use Rattle.answers.specs.declared.answer.Answer.TheVariants as answer
use Rattle.cluster.specs.declared.node.Node.{Node}
use Rattle.cluster.specs.declared.node.Node.TheVariants.{Up, Down, Changing}
use Rattle.answers.specs.driving.Commands.{Tries, TriesAfterRoll}
use Rattle.answers.specs.driving.Served.{IsServed}
use Rattle.cluster.specs.Served.{MakesCommand, Refuses}
use Rattle.cluster.specs.Told.{command_of}
use Rattle.cluster.specs.Waits.{MakesOpen, MakesTry, MakesTryAfterRoll, IsReplyAt}
use Rattle.cluster.proofs.Steps.{refused_left}

-- ---- one try

-- no push is refused as Rolling
push_unrolling : (old new : World) → Declines old Push refusal.Rolling new → ⊥
push_unrolling old new (inl h) = tested old.knows.is_halted (is_done old.knows) h.0
  where
    tested : (halted done : Bool) → (if halted then Some refusal.Halted else if done then Some refusal.Nothing
        else None) ≡ Some refusal.Rolling → ⊥
    tested true pushed e = cc
    tested false true e = cc
    tested false false e = cc
push_unrolling old new (inr (passed, inl h)) = let halts : refusal.Rolling ≡ refusal.Halted = h.2 in cc
push_unrolling old new (inr (passed, inr (inl h))) = let halts : refusal.Rolling ≡ refusal.Halted = h.2 in cc
push_unrolling old new (inr (passed, inr (inr h))) = h.1

-- a try that is refused as Rolling does nothing
pub try_waits : (old new : World) (command : Command) → Tries old command (Err refusal.Rolling) new
    → Declines old (Apply 0 command) refusal.Rolling old × (new ≡ old)
try_waits old new command (inl (same, why)) = ((refl, why), same)
try_waits old new command (inr cut) = absurd (push_unrolling cut.pushed.1 new cut.pushed.4)

-- ---- of a node

abbrev refusal_in : Refusal → Result Reply Refusal → Refusal
refusal_in other (Ok reply) = other
refusal_in other (Err r) = r

pub not_tried : (node : Node) (command : Command) → ((m : MasterValue MemoryFleet) → node ≡ Up m → ⊥)
    → MakesTry node command node (Some answer.Down)
not_tried (Up m) command other = absurd (other m refl)
not_tried (Down f) command other = (refl, refl)
not_tried Changing command other = (refl, refl)

-- the record that a command added is the last one, and has its reply
last_there : (rs : List Record) (r : Record) → slice_get (rs ++ r ∷ []) (length rs) ≡ Some r
last_there [] r = refl
last_there (x ∷ rs) r = last_there rs r

pub replied_at : (m : MasterValue MemoryFleet) (old : MasterData) (command : Command) (place : ℕ) (reply : Reply)
    → old.forgotten ≤ length old.history → IsServed old m.knows command reply → place ≡ length old.history
    → IsReplyAt (Up m) place reply
replied_at m old command place reply within served at =
    let last : Record = record { seat = 0; command = command; reply = reply } in
    let same = served.0.forgotten in (
      omega (arith, same, within, at),
      ap (option_map (λ (r : Record). r.reply))
          (ap (λ (rs : List Record). slice_get rs place) served.0.history
          ∙ ap (slice_get (old.history ++ last ∷ [])) at
          ∙ last_there old.history last),
    )

-- only a node that is up has a reply
pub no_reply : (node : Node) (place : ℕ) (reply : Reply) → ((m : MasterValue MemoryFleet) → node ≡ Up m → ⊥)
    → IsReplyAt node place reply → ⊥
no_reply (Up m) place reply other at = other m refl
no_reply (Down f) place reply other at = at
no_reply Changing place reply other at = at

-- the record at the place has the reply, and isn't forgotten
pub reply_found : (node : Node) (m : MasterValue MemoryFleet) (place : ℕ) (reply : Reply) → node ≡ Up m
    → IsReplyAt node place reply → IsReplyAt (Up m) place reply
reply_found node m place reply up at = subst (λ (n : Node). IsReplyAt n place reply) up at

pub replied_try : (node : Node) (up m : MasterValue MemoryFleet) → node ≡ Up up → (command : Command) (reply : Reply)
    → Tries (world fleet_state up) command (Ok reply) (world fleet_state m)
    → MakesTry node command (Up m) (Some (answer.Reply reply))
replied_try node up m there command reply tries =
    subst (λ (n : Node). MakesTry n command (Up m) (Some (answer.Reply reply))) (sym there)
    (Ok reply, world fleet_state m, (tries, λ is. absurd (cc)), refl, refl)

pub waits_try : (node : Node) (up m : MasterValue MemoryFleet) → node ≡ Up up → (command : Command) (r : Refusal)
    → r ≡ refusal.Rolling
    → Tries (world fleet_state up) command (Err r) (world fleet_state m) → MakesTry node command (Up m) None
waits_try node up m there command r is tries =
    let none = try_waits _ _ command (subst (λ (x : Refusal). Tries (world fleet_state up) command (Err x)
    (world fleet_state m)) is tries) in
    subst (λ (n : Node). MakesTry n command (Up m) None) (sym there) (none.0, ap Some none.1)

pub refused_try : (node : Node) (up m : MasterValue MemoryFleet) → node ≡ Up up → (command : Command) (r : Refusal)
    → (r ≡ refusal.Rolling → ⊥)
    → Tries (world fleet_state up) command (Err r) (world fleet_state m) → (new : Node) (a : Answer)
    → Refuses (Up m) r new a
    → MakesTry node command new (Some a)
refused_try node up m there command r unrolling tries new a refuses =
    let left = refused_left (Up m) new (world fleet_state m) r a refl refl refuses in
    subst (λ (n : Node). MakesTry n command new (Some a)) (sym there) (
      Err r,
      world fleet_state m,
      (tries, λ is. unrolling (ap (refusal_in refusal.Rolling) is)),
      left.0,
      left.1,
    )

-- ---- a line

pub tried_makes : (old new : Node) (command : Command) (a : Answer) → MakesTry old command new (Some a)
    → MakesCommand old command new a
tried_makes (Up m) new command a (result, w, tries, is, left) = (result, w, inl tries, is, left)
tried_makes (Down f) new command a (same, is) = (same, ap (λ (o : Option Answer). unwrap_or o a) is)
tried_makes Changing new command a (same, is) = (same, ap (λ (o : Option Answer). unwrap_or o a) is)

-- the command waits for a roll, which is made before it is tried again
pub waited_makes : (old mid new : Node) (command : Command) (a : Answer) → MakesTry old command mid None
    → MakesTryAfterRoll mid command new a
    → MakesCommand old command new a
waited_makes (Up m) (Up n) new command a (waits, there) (result, w, tries, is, left) = (
  result,
  w,
  inr (
    waits,
    subst (λ (x : World). TriesAfterRoll x command result w)
        (ap (λ (o : Option World). unwrap_or o (world fleet_state m)) there) tries,
  ),
  is,
  left,
)
waited_makes (Up m) (Down f) new command a (waits, there) tries = absurd (cc)
waited_makes (Up m) Changing new command a (waits, there) tries = absurd (cc)
waited_makes (Down f) mid new command a (same, is) tries = absurd (cc)
waited_makes Changing mid new command a (same, is) tries = absurd (cc)

abbrev err_or : Answer → Result (Unit {0}) Answer → Answer
err_or a (Ok done) = a
err_or a (Err answer) = answer

-- the roll is refused
pub not_rolled_makes : (old new : Node) (command : Command) (a : Answer) → MakesOpen old new (Err a)
    → MakesTryAfterRoll old command new a
not_rolled_makes (Up m) new command a (r, w, rolls, is, left) = (Err r, w, inr (r, refl, rolls), is, left)
not_rolled_makes (Down f) new command a (same, is) = (same, ap (err_or a) is)
not_rolled_makes Changing new command a (same, is) = (same, ap (err_or a) is)

-- the roll is made, and then the command is answered
pub rolled_makes : (old mid new : Node) (command : Command) (a : Answer) → MakesOpen old mid (Ok tt)
    → MakesTry mid command new (Some a)
    → MakesTryAfterRoll old command new a
rolled_makes (Up m) (Up n) new command a (head, v, rolls, there) (result, w, tries, is, left) = (
  result,
  w,
  inl (
    head,
    v,
    rolls,
    subst (λ (x : World). Tries x command result w)
        (ap (λ (o : Option World). unwrap_or o v) there) tries.0,
  ),
  is,
  left,
)
rolled_makes (Up m) (Down f) new command a (head, v, rolls, there) tries = absurd (cc)
rolled_makes (Up m) Changing new command a (head, v, rolls, there) tries = absurd (cc)
rolled_makes (Down f) mid new command a (same, is) tries = absurd (cc)
rolled_makes Changing mid new command a (same, is) tries = absurd (cc)

-- or it is refused as Rolling once more
pub rolling_makes : (old mid new : Node) (command : Command) → MakesOpen old mid (Ok tt) → MakesTry mid command new None
    → MakesTryAfterRoll old command new (answer.Refused refusal.Rolling)
rolling_makes (Up m) (Up n) new command (head, v, rolls, there) (waits, stays) =
    let same : world fleet_state n ≡ v = ap (λ (o : Option World). unwrap_or o v) there in (
      Err refusal.Rolling,
      v,
      inl (head, v, rolls, inl (subst (λ (x : World). Declines x (Apply 0 command) refusal.Rolling x) same waits)),
      refl,
      stays ∙ ap Some same,
    )
rolling_makes (Up m) (Down f) new command (head, v, rolls, there) waits = absurd (cc)
rolling_makes (Up m) Changing new command (head, v, rolls, there) waits = absurd (cc)
rolling_makes (Down f) mid new command (same, is) waits = absurd (cc)
rolling_makes Changing mid new command (same, is) waits = absurd (cc)

-- a line has one command
pub of_command : (line : LineValue) (one other : Command) → command_of line ≡ Some one → command_of line ≡ Some other
    → (old new : Node) (a : Answer)
    → MakesTryAfterRoll old one new a → MakesTryAfterRoll old other new a
of_command line one other is asks old new a makes =
    subst (λ (c : Command). MakesTryAfterRoll old c new a)
    (ap (λ (o : Option Command). unwrap_or o one) (sym is ∙ asks)) makes
