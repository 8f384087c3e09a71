-- The keys of a load.
use Rattle.std.specs.Prelude.{ℕ, ◌++◌, codes, decimal}
use Rattle.entry.specs.declared.key.Key.{Key}

-- `user` and the number, in table 1
abbrev pub key_of : ℕ → Key
key_of number = record { table = 1; bytes = codes "user" ++ decimal number }
