use Rattle.std.proofs.Common.{◌≡◌, List, ℕ, Err, None, sym, ◌∙◌, ap, subst}
use Rattle.replica.specs.declared.op.TakeFault.{TakeFault}
use Rattle.take_journal.specs.Frames.{texts_of}
use Rattle.file_backup.specs.Replay.{TakesText, after_text, held_in}
use Rattle.file_backup.proofs.Replays.{first_wrong, shown_more, wrong_whole}
use Rattle.file_backup.proofs.reading.replay.Goals as goal

pub loop-i-preserved : goal.loop-i-preserved
loop-i-preserved c =
    shown_more c.args.texts.now c.loop-i.i c.index-texts-i.result (held_in c.loop-i.memory) c.loop-i-test.true
    c.index-texts-i.is c.loop-i.invariant
    ∙ ap (λ (t : List ℕ). after_text (held_in c.loop-i.memory) t) (sym c.deref.ensures.value)
    ∙ c.in-Ok.ensures

pub returns-in-Err-Wrong-clause-refused : goal.returns-in-Err-Wrong-clause-refused
returns-in-Err-Wrong-clause-refused c =
    let wrong : after_text (held_in c.loop-i.memory) c.index-texts-i.result.items ≡ None =
    ap (λ (t : List ℕ). after_text (held_in c.loop-i.memory) t) (sym c.deref.ensures.value)
    ∙ subst (λ (fault : TakeFault). TakesText (held_in c.loop-i.memory) c.deref.result.now (Err fault)
    (held_in c.take_text.new.memory))
    c.in-Err-Wrong.field-0-is c.in-Err-Wrong.ensures in
    let first =
    first_wrong c.args.texts.now c.loop-i.i c.index-texts-i.result (held_in c.loop-i.memory) c.loop-i-test.true
    c.index-texts-i.is c.loop-i.invariant wrong in
    (first, wrong_whole (texts_of c.args.texts.now) c.loop-i.i first)
