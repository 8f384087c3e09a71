use Rattle.std.proofs.Common.{◌≡◌, List, ℕ, refl, ◌∙◌, ap, subst}
use Rattle.fleet_start.specs.Options.{AreMet, DiffersAt}
use Rattle.registry_text.specs.RecordText.{FleetValue}
use Rattle.registry_file.specs.Kept.{Kept}
use Rattle.registry_file.specs.File.{kept_by}
use Rattle.store_folders.proofs.options.test_options.Goals as goal

pub returns-in-Some-clause-first : goal.returns-in-Some-clause-first
returns-in-Some-clause-first c =
    let asked = c.args.asked.now in
    let i = c.in-Some.option in
    let same : c.deref.result.now ≡ (kept_by c.args.registry.now).fleet.options =
    c.deref.ensures.value
    ∙ ap (λ (f : FleetValue). f.options) c.fleet.ensures
    ∙ ap (λ (k : Kept). k.fleet.options) c.registry.ensures in
    let first = subst (λ (kept : List ℕ). AreMet i kept asked × DiffersAt i kept asked) same c.in-Some.ensures.first in
    (i, refl, first.0, first.1)
