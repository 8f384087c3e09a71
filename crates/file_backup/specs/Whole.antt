-- One op for each replica that a backup holds.
use Rattle.std.specs.Prelude.{ℕ, List, map}
use Rattle.replica.specs.Op.{OpValue}
use Rattle.replica.specs.declared.holding.Holding.{Holding}
use Rattle.backup.specs.Acts.{adding}
use Rattle.op_text.specs.OpText.{FitsText, op_text}
use Rattle.take_journal.specs.Frames.{IsShort}

-- the op that makes a replica: an Open if it is open, else a Seal
abbrev pub making : Holding → OpValue
making h = record { master = h.master; segment = h.segment; act = adding h.bytes h.is_open }

abbrev pub texts_making : List Holding → List (List ℕ)
texts_making hs = map (λ (h : Holding). op_text (making h)) hs

-- the text fits a frame, and its op is read back from it
pub record IsReady (h : Holding) : Type 0 where
  pub fits : FitsText (making h)
  pub short : IsShort (op_text (making h))
