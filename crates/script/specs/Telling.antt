-- What the lines of a script tell of one life after another.
use Rattle.std.specs.Prelude.{[], ◌≡◌, ◌⊎◌, ℕ, List, ◌∷◌, Bool, Option}
use Rattle.lines.specs.Grammar.{LineValue}
use Rattle.lines.specs.declared.reason.Reason.{Reason}
use Rattle.next_master.specs.master.master_state.declared.config.Config.{Config}
use Rattle.next_master.specs.answers.declared.answer.Answer.{Answer}
use Rattle.next_master.specs.cluster.Lives.{Life, at_start}
use Rattle.versioned_map.specs.Represents.{empty_state}
use Rattle.next_master.specs.cluster.Told.{Tells}
use Rattle.next_master.specs.Succession.{Standing, IsTold, Succeeds}

-- A line that was run: its text without the line feed, what it says, and what it answered. A bad line that was skipped
-- is told as one that says nothing, with the reason why it is bad. A command without a reply that may have been made is
-- unsure.
pub record Told : Type 0 where
  pub text : List ℕ
  pub line : LineValue
  pub answer : Answer
  pub skipped : Option Reason
  pub unsure : Bool

-- at the start nothing is told of the life
abbrev pub at_first : Config → Life → Standing
at_first config life = record { config = config; life = life; at = at_start }

-- the line goes on with the life
pub record GoesOn (from : Standing) (line : LineValue) (answer : Answer) (to : Standing) : Type 0 where
  pub config : to.config ≡ from.config
  pub life : to.life ≡ from.life
  pub tells : Tells from.config from.life from.at line answer to.at

-- What the answer of a line tells: it goes on with a life, or begins the next.
abbrev pub Moves : Standing → LineValue → Answer → Standing → Type 0
Moves from line answer to = GoesOn from line answer to ⊎ Succeeds from line answer to

-- the lines, in order, tell of lives that lead from one standing to another
abbrev pub AreTelling : Standing → List Told → Standing → Type 0
AreTelling from [] last = last ≡ from
AreTelling from (t ∷ ts) last = (next : Standing) × Moves from t.line t.answer next × AreTelling next ts last

-- The lines tell of one life after another. The first is of a master of this configuration and begins with no keys,
-- and each next one begins with what was recovered of the one before it. The replies are the versioned map's, and the
-- lives have only the records that the lines made.
abbrev pub TellLives : Config → List Told → Type 0
TellLives config told = (life : Life) × (life.opening ≡ empty_state)
    × (last : Standing) × AreTelling (at_first config life) told last × IsTold last
