use Rattle.std.proofs.Common.{rules, ◌≡◌, ◌∙◌, ap}
use Rattle.take_journal.specs.Journal.{device_of}
use Rattle.registry_file.specs.File.{journal_of, kept_by}
use Rattle.registry_file.specs.Kept.{Kept, after, kept_in}
use Rattle.registry_text.specs.RecordText.{FitsRecord, record_text}
use Rattle.registry_file.proofs.Puts.{crash_in_put, journal_takes}
use Rattle.registry_file.proofs.file.RegistryFile.put.Goals as goal

pub returns-in-Unknown-clause-any_moment : goal.returns-in-Unknown-clause-any_moment
returns-in-Unknown-clause-any_moment g c out =
    let r = c.args.record.now in
    let spelled : c.spell.new.text.items ≡ record_text r = search rules in
    let fits : FitsRecord r = search rules in
    crash_in_put g.D.Device.contents g.D.Device.may_leave g.D.Device.has_failed g.D.Device.clock g.D.Device.left_since
    (kept_by c.args.self.now) r (journal_of c.args.self.now) (c.requires.backed out) c.deref.result.now
    (device_of c.write_down.new.journal) (c.deref.ensures.value ∙ spelled) (c.one_record.ensures.records r fits)
    c.write_down.ensures.any_moment

pub returns-clause-any_moment : goal.returns-clause-any_moment
returns-clause-any_moment g c out =
    let r = c.args.record.now in
    let spelled : c.spell.new.text.items ≡ record_text r = search rules in
    let fits : FitsRecord r = search rules in
    crash_in_put g.D.Device.contents g.D.Device.may_leave g.D.Device.has_failed g.D.Device.clock g.D.Device.left_since
    (kept_by c.args.self.now) r (journal_of c.args.self.now) (c.requires.backed out) c.deref.result.now
    (device_of c.write_down.new.journal) (c.deref.ensures.value ∙ spelled) (c.one_record.ensures.records r fits)
    c.write_down.ensures.any_moment

pub returns-clause-backed : goal.returns-clause-backed
returns-clause-backed g c out =
    let r = c.args.record.now in
    let spelled : c.spell.new.text.items ≡ record_text r = search rules in
    let fits : FitsRecord r = search rules in
    journal_takes g.D.Device.contents g.D.Device.may_leave g.D.Device.has_failed (kept_by c.args.self.now)
    (kept_in c.note.new.self) r c.deref.result.now (journal_of c.args.self.now) c.write_down.new.journal
    (c.requires.backed out) (c.deref.ensures.value ∙ spelled) (c.one_record.ensures.records r fits)
    (c.note.ensures ∙ ap (λ (k : Kept). after k r) c.reserve.ensures.same)
    (c.write_down.ensures.done c.in-Done.is)
