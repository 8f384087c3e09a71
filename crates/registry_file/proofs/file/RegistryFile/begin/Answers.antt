use Rattle.registry_file.specs.File.{journal_of}
use Rattle.registry_file.specs.Kept.{begun}
use Rattle.take_journal.specs.Journal.{device_of}
use Rattle.registry_file.proofs.Makes.{untouched}
use Rattle.registry_file.proofs.file.RegistryFile.begin.Goals as goal

pub returns-in_default-clause-any_moment : goal.returns-in_default-clause-any_moment
returns-in_default-clause-any_moment g c =
    untouched g.D.Device.clock g.D.Device.left_since (begun (record { id = c.args.id; options = c.args.options.now }))
    g.D.Device.may_leave g.met.D.Device.just_now (device_of (journal_of c.args.self.now)) c.requires.durable
