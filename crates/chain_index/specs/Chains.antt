-- The chain to which a hash belongs.
use Rattle.std.specs.Prelude.{ℕ, ◌-◌, bit_and}

-- the number of the chain to which a hash belongs, of n chains
abbrev pub chain_of : ℕ → ℕ → ℕ
chain_of n hash = bit_and hash (n - 1)
