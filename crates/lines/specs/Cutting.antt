-- How a text is cut into words, and which words are numbers.
use Rattle.std.specs.Prelude.{◌≡◌, ◌==◌, ◌<◌, ◌^◌, ℕ, Bool, List, [], Option, Some, None}
use Rattle.std.specs.Borrow.{Bor}
use Rattle.std.specs.List.{slice_split}
use Rattle.std.specs.Fmt.{decimal}
use Rattle.std.specs.Str.Parse.{digits_value}

abbrev pub is_space : ℕ → Bool
is_space b = b == 32

-- the words of what is left of a text, if anything is
abbrev pub words_left : Option (Bor (List ℕ)) → List (List ℕ)
words_left None = []
words_left (Some rest) = slice_split is_space rest.now

-- the word is a number of 64 bits in decimal digits without leading zeros
pub record IsNumberWord (word : List ℕ) : Type 0 where
  pub spelled : word ≡ decimal (digits_value 10 word)
  pub small : digits_value 10 word < 2 ^ 64
