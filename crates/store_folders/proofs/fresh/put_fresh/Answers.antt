use Rattle.std.proofs.Common.{◌+◌, ◌∙◌, ap}
use Rattle.disk_file.specs.declared.disk.DiskFile.{DiskFile}
use Rattle.registry_file.specs.declared.file.RegistryFile.{RegistryFile}
use Rattle.file_fleet.specs.Noting.{noted_by}
use Rattle.store_folders.proofs.Moments.{names_next, stays}
use Rattle.store_folders.proofs.fresh.put_fresh.Goals as goal

pub returns-in_default-clause-any_moment : goal.returns-in_default-clause-any_moment
returns-in_default-clause-any_moment c = stays c.args.found.now.registry _ c.requires.found.registry_is

pub returns-in_err-device-clause-any_moment : goal.returns-in_err-device-clause-any_moment
returns-in_err-device-clause-any_moment c = stays c.args.found.now.registry _ c.requires.found.registry_is

pub returns-in-Err-clause-any_moment : goal.returns-in-Err-clause-any_moment
returns-in-Err-clause-any_moment c = stays c.args.found.now.registry _ c.requires.found.registry_is

pub returns-in-Ok-put-clause-any_moment : goal.returns-in-Ok-put-clause-any_moment
returns-in-Ok-put-clause-any_moment c =
    names_next c.args.found.now.registry c.put.new.self.registry c.args.backup _ c.in-Ok.fresh.id
    (c.in-Ok.ensures.id
    ∙ c.in-Some.ensures
    ∙ ap (λ (r : RegistryFile DiskFile). (noted_by r).file c.args.backup + 1) c.registry-3.ensures)
    c.put.ensures.any_moment

pub returns-in-Err-put-clause-any_moment : goal.returns-in-Err-put-clause-any_moment
returns-in-Err-put-clause-any_moment c =
    names_next c.args.found.now.registry c.put.new.self.registry c.args.backup _ c.in-Ok.fresh.id
    (c.in-Ok.ensures.id
    ∙ c.in-Some.ensures
    ∙ ap (λ (r : RegistryFile DiskFile). (noted_by r).file c.args.backup + 1) c.registry-3.ensures)
    c.put.ensures.any_moment
