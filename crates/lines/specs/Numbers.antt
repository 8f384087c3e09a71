-- The numbers that a row of words shows.
use Rattle.std.specs.Prelude.{ℕ, List, map}
use Rattle.std.specs.Str.Parse.{digits_value}
use Rattle.lines.specs.Cutting.{words_left}
use Rattle.lines.specs.declared.numbers.Numbers.{Numbers}

-- the numbers that are still to come
abbrev pub numbers_of : Numbers → List ℕ
numbers_of numbers = map (digits_value 10) (words_left numbers.rest)
