-- Commands that wait for a roll.
use Rattle.std.proofs.Common.{[], ◌≡◌, true, ◌++◌, refl, sym, ap, subst, inl, inr, ◌∙◌}
use Rattle.std.proofs.lemmas.List.{append-nil}
use Rattle.std.specs.Prelude.{Some, None, Ok, Err}
use Rattle.lines.specs.Grammar.{LineValue, Roll}
use Rattle.replica.specs.Picture.{FleetState}
use Rattle.versioned_map.specs.declared.command.Command.{Command}
use Rattle.answers.specs.driving.master.master_state.declared.config.Config.{Config}
use Rattle.answers.specs.driving.master.master_state.declared.step.Refusal.{Refusal}
use Rattle.answers.specs.driving.master.master_state.declared.step.Refusal.TheVariants as refusal
use Rattle.answers.specs.driving.master.master_state.Data.{MasterData}
use Rattle.answers.specs.driving.master.Valid.{IsValid}
use Rattle.answers.specs.declared.answer.Answer.{Answer}
use Rattle.answers.specs.declared.answer.Answer.TheVariants as answer
use Rattle.cluster.specs.declared.node.Node.{Node}
use Rattle.cluster.specs.Lives.{Life, life_to, IsLeftBySpent, left_now, Position}
use Rattle.answers.specs.driving.Served.{LivesOn, IsUnserved, IsSpent, is_of_push}
use Rattle.cluster.specs.Served.{IsOf, IsNodeAt, Refuses, AnswersLine, fleet_of, life_of}
use Rattle.cluster.specs.Waits.{LivesSame, StaysAt, WaitsForRoll, MakesRoom}
use Rattle.cluster.specs.Told.{command_of, pushes, IsTest, IsStepRefusal, TellsNoStep, Tells}
use Rattle.cluster.proofs.Standing.{Answered, asks_master, same_opening, still_stands, lived, lived_longer}
use Rattle.cluster.proofs.Commands.{stopped_told, refused_told}

-- ---- refusals

-- what a node answers that was up, and refused a command
pub unserved_told : (d e : MasterData) (old mid new : Node) (config : Config) (at : Position)
    (s : IsNodeAt old config d at) (none : at.left ≡ None)
    (line : LineValue) (command : Command) → command_of line ≡ Some command
    → (r : Refusal) (a : Answer) (f g : FleetState)
    → IsValid d f → IsOf mid None e → fleet_of mid ≡ Some g → IsValid e g → (r ≡ refusal.Spent → IsSpent g)
    → IsUnserved d command r (record { knows = e; fleet = g }) → Refuses mid r new a → Answered d new config at line a
unserved_told d e old mid new config at s none line command asks r a f g valid of fleet now spent left
    (inl (is, unspent, same)) =
    subst (λ (x : Answer). Answered d new config at line x) (sym is)
    (refused_told d e old new config at s none line command asks r unspent f g valid
    (subst (λ (n : Node). IsOf n None e) (sym same) of) now left)
unserved_told d e old mid new config at s none line command asks r a f g valid of fleet now spent left
    (inr (is, why, dropped, lifted)) =
    subst (λ (x : Answer). Answered d new config at line x) (sym is)
    (stopped_told d e old new config at s none line command asks r g now (spent why) (dropped e g of fleet) left)

-- a command that a roll has to come before
pub waits_told : (d e : MasterData) (old new : Node) (config : Config) (at : Position)
    → IsNodeAt old config d at → at.left ≡ None
    → (command : Command) (r : Refusal) (f g : FleetState) → IsValid d f → IsOf new None e → r ≡ refusal.Rolling
    → IsUnserved d command r (record { knows = e; fleet = g })
    → (e : MasterData) × StaysAt new config d at e × (at.left ≡ None)
    × IsTest config (life_to (life_of e) at.made) command refusal.Rolling
waits_told d e old new config at s none command r f h valid of is (inr left) =
    let rolling : is_of_push refusal.Rolling ≡ _ = ap is_of_push (sym is) ∙ left.waits in absurd (cc)
waits_told d e old new config at s none command r f h valid of is (inl (g, inl memory)) = let both = sym is
    ∙ memory in absurd (cc)
waits_told d e old new config at s none command r f h valid of is (inl (g, inr test)) =
    let same : record { made = at.made; acknowledged = at.acknowledged; left = None } ≡ at =
    λ i. record { made = at.made; acknowledged = at.acknowledged; left = sym none i } in (
      e,
      (
        subst (λ (p : Position). IsNodeAt new config e p) same (still_stands d e old new config at None of s g),
        (g.origin, g.history ∙ append-nil d.history),
      ),
      none,
      (d, f, lived d e old new config at None of s f valid g.origin [] g.history, test ∙ ap Some is),
    )

-- ---- a step or a roll that was not made

pub no_step_told : (d e : MasterData) (old mid new : Node) (config : Config) (at : Position)
    → IsNodeAt old config d at → at.left ≡ None
    → (line : LineValue) (r : Refusal) (a : Answer) (g : FleetState) → IsOf mid None e
    → fleet_of mid ≡ Some g → IsValid e g
    → (r ≡ refusal.Spent → IsSpent g) → (r ≡ refusal.Spent → pushes line ≡ true) → LivesOn d e []
    → IsStepRefusal config (life_to (life_of e) at.made) line r → Refuses mid r new a
    → (e : MasterData) × (next : Position) × IsNodeAt new config e next × LivesSame d e
    × TellsNoStep config (life_of e) at line a next
no_step_told d e old mid new config at s none line r a g of fleet now spent may on why (inl (is, unspent, same)) =
    let stays = subst (λ (n : Node). IsOf n None e) (sym same) of in (
      e,
      record { made = at.made; acknowledged = at.acknowledged; left = None },
      still_stands d e old new config at None stays s on,
      (on.origin, on.history ∙ append-nil d.history),
      subst (λ (x : Answer). TellsNoStep config (life_of e) at line x
          (record { made = at.made; acknowledged = at.acknowledged; left = None })) (sym is)
          (none, why, unspent, refl),
    )
no_step_told d e old mid new config at s none line r a g of fleet now spent may on why
    (inr (is, rest, dropped, lifted)) =
    let gone = dropped e g of fleet in
    let stands = still_stands d e old new config at (Some (left_now e g)) gone s on in (
      e,
      record { made = at.made; acknowledged = at.acknowledged; left = Some (left_now e g) },
      stands,
      (on.origin, on.history ∙ append-nil d.history),
      subst (λ (x : Answer). TellsNoStep config (life_of e) at line x
          (record { made = at.made; acknowledged = at.acknowledged; left = Some (left_now e g) })) (sym is) (
            none,
            left_now e g,
            (
              e,
              g,
              lived_longer d e old new config at (Some (left_now e g)) gone s g now at.made stands.configured
                  stands.made,
              refl,
              spent rest,
            ),
            may rest,
            refl,
          ),
    )

-- ---- a command's line once more

-- a line that is answered of what a node goes on with
pub later_told : (d e : MasterData) (mid new : Node) (config : Config) (at : Position) (line : LineValue) (a : Answer)
    → StaysAt mid config d at e
    → AnswersLine mid config line new a → Answered d new config at line a
later_told d e mid new config at line a stays answers =
    let told = answers e at stays.0 in
    (told.0, told.1, told.2, (told.3.0, told.3.1 ∙ stays.1.0, told.3.2 ∙ ap (λ l. l ++ told.3.0) stays.1.1), told.4)

-- it waits still
pub rolling_told : (old new : Node) (config : Config) (line : LineValue) (command : Command)
    → command_of line ≡ Some command
    → WaitsForRoll old config command new → AnswersLine old config line new (answer.Refused refusal.Rolling)
rolling_told old new config line command asks waits d at s =
    let told = waits d at s in (
      told.0,
      at,
      told.1.0,
      ([], told.1.1.0, told.1.1.1 ∙ sym (append-nil d.history)),
      inl (
        told.2,
        inl (
          λ spent. cc,
          inl (
            (command, asks, λ i. record { made = at.made; acknowledged = at.acknowledged; left = told.2 i }),
            inr (command, asks, inl told.3),
          ),
        ),
      ),
    )

-- the roll that it waits for is refused
no_room_tells : (config : Config) (life : Life) (at : Position) (line : LineValue) (command : Command) (a : Answer)
    (next : Position) → command_of line ≡ Some command
    → at.left ≡ None → IsTest config (life_to life at.made) command refusal.Rolling
    → TellsNoStep config life at Roll a next → Tells config life at line a next
no_room_tells config life at line command (answer.Refused r) next asks none test t =
    inl (none, inl (t.2, inl ((command, asks, t.3), inr (command, asks, inr (test, t.1)))))
no_room_tells config life at line command answer.Stopped next asks none test t = inl (
  none,
  t.1,
  subst (λ n. IsLeftBySpent config (life_to life n) t.1) (sym (ap (λ (p : Position). p.made) t.4)) t.2,
  inl (command, asks, t.4),
)
no_room_tells config life at line command answer.Down next asks none test t = (t.0, asks_master line command asks, t.1)
no_room_tells config life at line command a next asks none test t = absurd t

pub no_room_told : (old mid new : Node) (config : Config) (line : LineValue) (command : Command) (a : Answer)
    → command_of line ≡ Some command
    → WaitsForRoll old config command mid → MakesRoom mid config new (Err a) → AnswersLine old config line new a
no_room_told old mid new config line command a asks waits makes d at s =
    let was = waits d at s in
    let told = makes was.0 at was.1.0 in
    let back = sym told.3.1 in
    let opening = same_opening was.0 told.0 told.3.0 in
    let same : life_of was.0 ≡ life_of told.0 = λ i. record { opening = opening i; history = back i } in (
      told.0,
      told.1,
      told.2,
      ([], told.3.0 ∙ was.1.1.0, told.3.1 ∙ was.1.1.1 ∙ sym (append-nil d.history)),
      no_room_tells config (life_of told.0) at line command a told.1 asks was.2
          (subst (λ (l : Life). IsTest config (life_to l at.made) command refusal.Rolling) same was.3) told.4,
    )

-- the roll is made, and the line is answered then
pub room_told : (old mid made new : Node) (config : Config) (line : LineValue) (command : Command) (a : Answer)
    → WaitsForRoll old config command mid
    → MakesRoom mid config made (Ok tt) → AnswersLine made config line new a → AnswersLine old config line new a
room_told old mid made new config line command a waits makes answers d at s =
    let was = waits d at s in
    let room = makes was.0 at was.1.0 in
    later_told d room.0 made new config at line a (room.1.0, (room.1.1.0 ∙ was.1.1.0, room.1.1.1 ∙ was.1.1.1)) answers
