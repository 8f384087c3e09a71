-- The durable count, from the units that a head keeps.
use Rattle.std.proofs.Common.{◌≡◌, ℕ, zero, suc, List, [], ◌∷◌, length, refl, ◌∙◌}
use Rattle.std.specs.Prelude.{Option, Some, None, slice_get}
use Rattle.std.specs.Option.{option_map, option_map_or}
use Rattle.log_head.specs.declared.head.UnitEnd.{UnitEnd}
use Rattle.log_head.specs.Head.{everywhere}
use Rattle.log_head.specs.Log.{units_from}
use Rattle.log_head.specs.log_laws.Heads.{records_before}
use Rattle.master_state.specs.Data.{MasterData}
use Rattle.master_state.specs.Log.{durable_now}
use Rattle.entry.specs.Text.{text_of}

-- the numbers of units are those of their ends
numbers_are : (bytes : List ℕ) (from : ℕ) (es : List UnitEnd) (all n : ℕ)
    → option_map_or (λ (u : UnitEnd). u.number) (slice_get es n) all ≡ records_before (units_from bytes from es) all n
numbers_are bytes from [] all n = refl
numbers_are bytes from (e ∷ es) all zero = refl
numbers_are bytes from (e ∷ es) all (suc n) = numbers_are bytes e.end es all n

pub durable_is : (d : MasterData) → d.failover ≡ None
    → option_map_or (λ (u : UnitEnd). u.number) (slice_get d.head.units (everywhere d.head)) (length d.history)
    ≡ durable_now d
durable_is d calm =
    numbers_are (text_of d.head.image) d.head.base d.head.units (length d.history) (everywhere d.head)
    ∙ (rw calm refl)

-- the number of a unit that is missing, or all
pub from_none : (o : Option UnitEnd) (n : ℕ) → option_map (λ (u : UnitEnd). u.number) o ≡ None
    → option_map_or (λ (u : UnitEnd). u.number) o n ≡ n
from_none None n e = refl
from_none (Some u) n e = absurd (cc)

pub from_some : (o : Option UnitEnd) (n m : ℕ) → option_map (λ (u : UnitEnd). u.number) o ≡ Some m
    → option_map_or (λ (u : UnitEnd). u.number) o n ≡ m
from_some None n m e = absurd (cc)
from_some (Some u) n m e = cc
