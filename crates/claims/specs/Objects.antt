-- Lists of objects, one behind the other.
use Rattle.std.specs.Prelude.{List, ◌++◌}
use Rattle.std.specs.List.{flat_map}
use Rattle.entry.specs.declared.entry.Object.{Object}

-- the objects of the first list, and those of the others behind them
abbrev pub behind : List Object → List (List Object) → List Object
behind first others = first ++ flat_map (λ (os : List Object). os) others
