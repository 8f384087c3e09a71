-- What a master asks of a backup. The bytes of an op are a list here, wherever they lie in memory.
use Rattle.std.specs.Prelude.{ℕ, List}
use Rattle.replica.specs.declared.op.Op.{Op}
use Rattle.replica.specs.declared.op.Act.{Act}
use Rattle.replica.specs.declared.op.Act.TheVariants as act

-- what an op does to its replica: makes it open with these bytes, appends these bytes at this length, closes it, makes
-- it closed with these bytes, or frees it
pub data ActValue : Type 0 where
  Open : List ℕ → ActValue
  Extend : ℕ → List ℕ → ActValue
  Close : ActValue
  Seal : List ℕ → ActValue
  Free : ActValue

pub record OpValue : Type 0 where
  pub master : ℕ
  pub segment : ℕ
  pub act : ActValue

abbrev pub shown_act : Act → ActValue
shown_act (act.Open bytes) = Open bytes.now
shown_act (act.Extend at bytes) = Extend at bytes.now
shown_act act.Close = Close
shown_act (act.Seal bytes) = Seal bytes.now
shown_act act.Free = Free

abbrev pub shown_op : Op → OpValue
shown_op op = record { master = op.master; segment = op.segment; act = shown_act op.act }
