use Rattle.std.proofs.Common.{inr, refl}
use Rattle.take_journal.proofs.Batch.{in_any_case}
use Rattle.take_journal.proofs.journal.Journal.put.Goals as goal

pub returns-in_err-write_frames-clause-err : goal.returns-in_err-write_frames-clause-err
returns-in_err-write_frames-clause-err g c = in_any_case c.from_residual.result (inr refl)

pub returns-clause-acknowledged : goal.returns-clause-acknowledged
returns-clause-acknowledged g c = record {
  ready = refl;
  settled = c.in_ok-write_frames.ensures.settled;
  texts_are = c.in_ok-write_frames.ensures.texts;
}

pub returns-clause-any_moment : goal.returns-clause-any_moment
returns-clause-any_moment g c = c.in_ok-write_frames.ensures.any_moment
