-- Room for one more record.
use Rattle.std.specs.Prelude.{◌<◌, length, vec_capacity}
use Rattle.registry_file.specs.declared.registry.Registry.{Registry}

-- each list has room for one more
pub record HasRoom (r : Registry) : Type 0 where
  pub journals : length r.journals.items < vec_capacity r.journals
  pub leasts : length r.leasts.items < vec_capacity r.leasts
