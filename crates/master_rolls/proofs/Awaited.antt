-- A record is durable just if the first unit that some replica lacks is of a later record.
use Rattle.std.proofs.Common.{◌≡◌, ◌⊎◌, ℕ, ◌<◌, ◌≤◌, true, false, not, Some, None, inl, inr, length, refl, sym, ap}
use Rattle.std.proofs.Common.{◌∙◌, arith}
use Rattle.std.specs.Prelude.{Option, is_none, is_some, nat_le, nat_lt, slice_get}
use Rattle.std.specs.Option.{option_map, option_map_or}
use Rattle.std.proofs.lemmas.Bool.Decides.{leb_tells, nat_tests}
use Rattle.log_head.specs.declared.head.UnitEnd.{UnitEnd}
use Rattle.log_head.specs.Head.{everywhere, is_up_to, lacks_to}
use Rattle.master_state.specs.Data.{MasterData}
use Rattle.master_state.specs.Log.{durable_now}
use Rattle.master_state.proofs.Counted.{durable_is}

none_not : {A : Type 0} (o : Option A) → is_none o ≡ not (is_some o)
none_not None = refl
none_not (Some x) = refl

not_up_to : (n place : ℕ) → not (nat_le n place) ≡ nat_lt place n
not_up_to n place = go (leb_tells n place) where
  go : ((nat_le n place ≡ true) × (n ≤ place)) ⊎ ((nat_le n place ≡ false) × (place < n))
      → not (nat_le n place) ≡ nat_lt place n
  go (inl up) = let test : nat_lt place n ≡ false = grind (up.1, arith, nat_tests) in ap not up.0 ∙ sym test
  go (inr below) = let test : nat_lt place n ≡ true = grind (below.1, arith, nat_tests) in ap not below.0 ∙ sym test

-- the first unit is none, or of a record behind this one
before_first : (o : Option UnitEnd) (place all : ℕ) → place < all
    → not (is_up_to place (option_map (λ (u : UnitEnd). u.number) o))
    ≡ nat_lt place (option_map_or (λ (u : UnitEnd). u.number) o all)
before_first None place all within = let test : nat_lt place all ≡ true = grind (within, arith, nat_tests) in sym test
before_first (Some u) place all within = not_up_to u.number place

pub none_durable : {A : Type 0} (d : MasterData) (place : ℕ) (o : Option A)
    → place < length d.history → is_some o ≡ lacks_to d.head place → d.failover ≡ None
    → is_none o ≡ nat_lt place (durable_now d)
none_durable d place o within lacks calm =
    none_not o ∙ ap not lacks
    ∙ before_first (slice_get d.head.units (everywhere d.head)) place (length d.history) within
    ∙ ap (nat_lt place) (durable_is d calm)
