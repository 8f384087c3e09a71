-- What the end of a roll makes of an open pass, of the closed segments, of the segments that wait to be freed, and of
-- what is counted of segments.
use Rattle.std.specs.Prelude.{◌≡◌, ℕ, List, ◌++◌, Option, Some, None, true, false, if◌then◌else◌}
use Rattle.cleaner.specs.declared.pass.Pass.{Pass}
use Rattle.images.specs.Image.{Image}
use Rattle.master_state.specs.declared.waiting.Waiting.{Waiting}
use Rattle.master_state.specs.Images.{after_pass, leaving}
use Rattle.tally.specs.declared.tallies.Tally.{Tally}
use Rattle.tally.specs.Rows.{IsCommitted, AreKeptBut, AllAreKept, WithOne, of_nothing}

-- the open pass after the roll: a commit ends it, and another roll leaves it
abbrev pub pass_left : Option Pass → Option Pass
pass_left None = None
pass_left (Some p) = if p.is_committing then None else Some p

-- the images after the roll: a commit drops the victims, and the survivors take no more appends
abbrev pub closed_left : Option Pass → List Image → List Image
closed_left None cs = cs
closed_left (Some p) cs = if p.is_committing then after_pass p cs else cs

-- the segments that wait after the roll: a commit adds the victims that some backup holds
abbrev pub waiting_left : Option Pass → List Image → List Waiting → List Waiting
waiting_left None cs waiting = waiting
waiting_left (Some p) cs waiting = if p.is_committing then waiting ++ leaving p.victims cs else waiting

-- what is counted after the roll: a commit takes out the victims, and another roll leaves all
abbrev pub AreLeft : Option Pass → List Tally → List Tally → Type 0
AreLeft None old new = new ≡ old
AreLeft (Some p) old new =
    (p.is_committing ≡ true → IsCommitted p.victims old new × AreKeptBut p.victims old new)
    × (p.is_committing ≡ false → new ≡ old)

-- and the new head is counted from nothing on
pub record IsCountedOut (o : Option Pass) (head : ℕ) (old new : List Tally) : Type 0 where
  pub rest : List Tally
  pub left : AreLeft o old rest
  pub begun : WithOne (of_nothing head) rest new
  pub kept : AllAreKept rest new
