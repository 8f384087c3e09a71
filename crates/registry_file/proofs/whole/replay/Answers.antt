use Rattle.std.proofs.Common.{◌≡◌, Bool, List, ℕ, Ok, None, sym, ◌∙◌, ap}
use Rattle.take_journal.specs.Frames.{texts_of}
use Rattle.registry_file.specs.Kept.{after_text, kept_in}
use Rattle.registry_file.proofs.Replays.{first_wrong, kept_more, wrong_whole}
use Rattle.registry_file.proofs.whole.replay.Goals as goal

pub loop-i-preserved : goal.loop-i-preserved
loop-i-preserved c =
    kept_more c.args.texts.now c.loop-i.i c.index-texts-i.result (kept_in c.loop-i.registry) c.loop-i-test.true
    c.index-texts-i.is c.loop-i.invariant
    ∙ ap (λ (t : List ℕ). after_text (kept_in c.loop-i.registry) t) (sym c.deref-in-loop-i.ensures.value)
    ∙ c.take_text.ensures.taken (c.in-Ok-true.is ∙ ap (λ (b : Bool). Ok b) c.in-Ok-true.field-0-test)

pub returns-in-Ok-false-clause-refused : goal.returns-in-Ok-false-clause-refused
returns-in-Ok-false-clause-refused c =
    let wrong : after_text (kept_in c.loop-i.registry) c.index-texts-i.result.items ≡ None =
    ap (λ (t : List ℕ). after_text (kept_in c.loop-i.registry) t) (sym c.deref-in-loop-i.ensures.value)
    ∙ c.take_text.ensures.wrong (c.in-Ok-false.is ∙ ap (λ (b : Bool). Ok b) c.in-Ok-false.field-0-test) in
    let first =
    first_wrong c.args.texts.now c.loop-i.i c.index-texts-i.result (kept_in c.loop-i.registry) c.loop-i-test.true
    c.index-texts-i.is c.loop-i.invariant wrong in
    (first, wrong_whole (texts_of c.args.texts.now) c.loop-i.i first)
