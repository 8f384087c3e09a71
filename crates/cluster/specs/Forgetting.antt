-- A node whose master forgets what is durable.
use Rattle.std.specs.Prelude.{◌≡◌, length}
use Rattle.answers.specs.driving.master.master_state.Data.{MasterData}
use Rattle.answers.specs.driving.master.master_state.Forgetting.{ForgetsTo}
use Rattle.cluster.specs.declared.node.Node.{Node}
use Rattle.cluster.specs.declared.node.Node.TheVariants.{Up}

-- The master of a node that is up forgets its durable records, but for the last 1,024 of them at most, and nothing else
-- changes. Any other node does nothing.
abbrev pub ForgetsDurable : Node → Node → Type 0
ForgetsDurable (Up m) new = (e : MasterData) × ForgetsTo (length m.knows.history) m.knows e
    × (new ≡ Up (record m { knows = e }))
ForgetsDurable old new = new ≡ old
