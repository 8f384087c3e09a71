-- What a line of clients tells of the life of a node's master.
use Rattle.std.specs.Prelude.{◌≡◌, ◌≤◌, ℕ, ◌*◌, take, Option, None}
use Rattle.lines.specs.Grammar.{LineValue, Clients}
use Rattle.history.specs.Seats.{AreAccepted}
use Rattle.cluster.specs.Lives.{Life, Left, Position}

-- the line asks for this many clients, each with this many rounds
abbrev pub AsksClients : LineValue → ℕ → ℕ → Type 0
AsksClients line clients rounds = (passes : ℕ) × (line ≡ Clients clients rounds passes)

-- All calls were accepted. The line made the records of its clients, and these and all before them are acknowledged.
pub record AreCounted (life : Life) (at : Position) (clients rounds calls : ℕ) (next : Position) : Type 0 where
  pub count : calls ≡ 2 * rounds * clients
  pub more : at.made ≤ next.made
  pub accepted : AreAccepted clients rounds (take at.made life.history) (take next.made life.history)
  pub acknowledged : next ≡ record { made = next.made; acknowledged = next.made; left = None }

-- A call was refused. The line may have made records, all behind those that there were, and none of them is
-- acknowledged. What was acknowledged before stays acknowledged.
pub record AreUncounted (at : Position) (line : LineValue) (left : Option Left) (next : Position) : Type 0 where
  pub clients : ℕ
  pub rounds : ℕ
  pub asks : AsksClients line clients rounds
  pub up : at.left ≡ None
  pub more : at.made ≤ next.made
  pub acknowledged : next ≡ record { made = next.made; acknowledged = at.acknowledged; left = left }
