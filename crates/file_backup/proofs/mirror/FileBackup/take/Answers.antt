use Rattle.std.proofs.Common.{rules, ◌≡◌, ◌∷◌, [], ◌++◌, true, false, sym, ◌∙◌, ap}
use Rattle.std.specs.Prelude.{is_some}
use Rattle.replica.specs.Op.{shown_op}
use Rattle.replica.specs.Take.{effect}
use Rattle.backup.specs.Slots.{Slots, found_in}
use Rattle.op_text.specs.OpText.{FitsText, op_text}
use Rattle.take_journal.specs.Frames.{recovered}
use Rattle.take_journal.specs.Journal.{StandsFor, device_of}
use Rattle.file_backup.specs.Mirror.{is_out, journal_of, replicas_of}
use Rattle.file_backup.specs.Replay.{Replicas, after_op, held_in}
use Rattle.file_backup.proofs.Mirrors.{crash_in_take, fits_makes, journal_takes}
use Rattle.file_backup.proofs.mirror.FileBackup.take.Goals as goal

pub returns-in-Unknown-clause-any_moment : goal.returns-in-Unknown-clause-any_moment
returns-in-Unknown-clause-any_moment g c out =
    let op = shown_op c.args.op.now in
    let p : Replicas = replicas_of c.args.self.now in
    let spelled : c.spell.new.text.items ≡ op_text op = search rules in
    let fits : FitsText op = search rules in
    let some : is_some (effect op.act (p op.master op.segment)) ≡ true = search rules in
    let q = fits_makes p op some in
    crash_in_take g.D.Device.contents g.D.Device.may_leave g.D.Device.has_failed g.D.Device.clock g.D.Device.left_since
    p q.0 op c.deref.result.now (journal_of c.args.self.now) (device_of c.write_down.new.journal)
    (c.requires.backed out)
    (c.deref.ensures.value ∙ spelled) (c.one_op.ensures op fits) q.1 c.write_down.ensures.any_moment

pub returns-then-self-2-clause-refused : goal.returns-then-self-2-clause-refused
returns-then-self-2-clause-refused g c =
    let none : c.enact.result ≡ false = search rules in
    let same : held_in c.fits.new.self ≡ held_in c.args.self.now.memory =
    ap (λ (slots : Slots). let r : Replicas = λ m s. found_in slots (m, s) in r) c.fits.ensures.same in
    c.enact.ensures.not_done none ∙ same

pub returns-then-self-2-clause-any_moment : goal.returns-then-self-2-clause-any_moment
returns-then-self-2-clause-any_moment g c out =
    let op = shown_op c.args.op.now in
    let p : Replicas = replicas_of c.args.self.now in
    let spelled : c.spell.new.text.items ≡ op_text op = search rules in
    let fits : FitsText op = search rules in
    let some : is_some (effect op.act (p op.master op.segment)) ≡ true = search rules in
    let q = fits_makes p op some in
    crash_in_take g.D.Device.contents g.D.Device.may_leave g.D.Device.has_failed g.D.Device.clock g.D.Device.left_since
    p q.0 op c.deref.result.now (journal_of c.args.self.now) (device_of c.write_down.new.journal)
    (c.requires.backed out)
    (c.deref.ensures.value ∙ spelled) (c.one_op.ensures op fits) q.1 c.write_down.ensures.any_moment

pub returns-clause-any_moment : goal.returns-clause-any_moment
returns-clause-any_moment g c out =
    let op = shown_op c.args.op.now in
    let p : Replicas = replicas_of c.args.self.now in
    let spelled : c.spell.new.text.items ≡ op_text op = search rules in
    let fits : FitsText op = search rules in
    let some : is_some (effect op.act (p op.master op.segment)) ≡ true = search rules in
    let q = fits_makes p op some in
    crash_in_take g.D.Device.contents g.D.Device.may_leave g.D.Device.has_failed g.D.Device.clock g.D.Device.left_since
    p q.0 op c.deref.result.now (journal_of c.args.self.now) (device_of c.write_down.new.journal)
    (c.requires.backed out)
    (c.deref.ensures.value ∙ spelled) (c.one_op.ensures op fits) q.1 c.write_down.ensures.any_moment

pub returns-clause-taken : goal.returns-clause-taken
returns-clause-taken g c =
    let op = shown_op c.args.op.now in
    let done : c.enact.result ≡ true = search rules in
    let same : held_in c.fits.new.self ≡ held_in c.args.self.now.memory =
    ap (λ (slots : Slots). let r : Replicas = λ m s. found_in slots (m, s) in r) c.fits.ensures.same in
    ap (λ (p : Replicas). after_op p op) (sym same) ∙ c.enact.ensures.done done

pub returns-clause-backed : goal.returns-clause-backed
returns-clause-backed g c goes_on =
    let op = shown_op c.args.op.now in
    let p : Replicas = replicas_of c.args.self.now in
    let out : is_out c.args.self.now ≡ false = search rules in
    let spelled : c.spell.new.text.items ≡ op_text op = search rules in
    let fits : FitsText op = search rules in
    let done : c.enact.result ≡ true = search rules in
    let same : held_in c.fits.new.self ≡ held_in c.args.self.now.memory =
    ap (λ (slots : Slots). let r : Replicas = λ m s. found_in slots (m, s) in r) c.fits.ensures.same in
    let stands : StandsFor g.D.Device.contents g.D.Device.may_leave g.D.Device.has_failed c.write_down.new.journal
    (recovered (g.D.Device.contents
    (device_of (journal_of c.args.self.now))) ++ c.deref.result.now ∷ []) = search rules in
    journal_takes g.D.Device.contents g.D.Device.may_leave g.D.Device.has_failed p (held_in c.enact.new.memory) op
    c.deref.result.now (journal_of c.args.self.now) c.write_down.new.journal (c.requires.backed out)
    (c.deref.ensures.value ∙ spelled) (c.one_op.ensures op fits)
    (ap (λ (r : Replicas). after_op r op) (sym same) ∙ c.enact.ensures.done done) stands
