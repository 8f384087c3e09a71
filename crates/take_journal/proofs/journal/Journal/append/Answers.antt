use Rattle.std.proofs.Common.{◌∙◌, ◌++◌, [], ◌∷◌, arith, subst}
use Rattle.std.proofs.lemmas.Result.{on_ok_weaker}
use Rattle.take_journal.specs.Crash.{LeftByAppend}
use Rattle.take_journal.specs.Device.{AnyMoment}
use Rattle.take_journal.specs.Frames.{recovered}
use Rattle.take_journal.specs.Journal.{StandsFor}
use Rattle.take_journal.proofs.Batch.{is_batch, texts_are}
use Rattle.take_journal.proofs.journal.Journal.append.Goals as goal

pub put-requires-clause-batch : goal.put-requires-clause-batch
put-requires-clause-batch g c =
    is_batch (c.args.text.now ∷ []) c.deref.result.now (omega arith) (c.requires.short, tt) (c.deref.ensures.value
    ∙ c.in_ok-frames.ensures)

pub returns-clause-acknowledged : goal.returns-clause-acknowledged
returns-clause-acknowledged g c =
    let e =
    texts_are (c.args.text.now ∷ []) c.deref.result.now (c.requires.short, tt) (c.deref.ensures.value
    ∙ c.in_ok-frames.ensures) in
    on_ok_weaker c.put.result
    (λ stands. (
      c.if-not-self.false,
      subst
          (λ ts. StandsFor g.D.Device.contents g.D.Device.may_leave g.D.Device.has_failed c.put.new.self
          (recovered (g.D.Device.contents c.args.self.now.device) ++ ts))
          e stands,
    ))
    c.put.ensures.acknowledged

pub returns-clause-any_moment : goal.returns-clause-any_moment
returns-clause-any_moment g c =
    let e =
    texts_are (c.args.text.now ∷ []) c.deref.result.now (c.requires.short, tt) (c.deref.ensures.value
    ∙ c.in_ok-frames.ensures) in
    λ ready.
    subst
    (λ ts. AnyMoment g.D.Device.clock g.D.Device.left_since
    (LeftByAppend (recovered (g.D.Device.contents c.args.self.now.device)) ts) c.args.self.now.device
    c.put.new.self.device)
    e c.put.ensures.any_moment
