-- A node whose master forgets.
use Rattle.std.proofs.Common.{◌≡◌, ℕ, ◌-◌, ◌≤◌, false, length, refl, sym, subst, arith}
use Rattle.std.specs.Prelude.{slice_get, nat_lt}
use Rattle.std.proofs.lemmas.Bool.Decides.{nat_tests}
use Rattle.backup.specs.declared.fleet.MemoryFleet.{MemoryFleet}
use Rattle.history.specs.Records.{HistoryValue, kept_at}
use Rattle.answers.specs.driving.master.master_state.Data.{MasterData}
use Rattle.answers.specs.driving.master.master_state.Forgetting.{ForgetsTo}
use Rattle.answers.specs.driving.master.World.{MasterValue}
use Rattle.cluster.specs.declared.node.Node.{Node}
use Rattle.cluster.specs.declared.node.Node.TheVariants.{Up}
use Rattle.cluster.specs.Forgetting.{ForgetsDurable}

-- a record that isn't forgotten is there
pub kept_there : (h : HistoryValue) (d : MasterData) (place : ℕ) → h.records ≡ d.history → h.forgotten ≡ d.forgotten
    → d.forgotten ≤ place → kept_at h place ≡ slice_get d.history place
kept_there h d place records forgotten kept = rw (records, forgotten, not_lt d.forgotten place kept) refl
  where
    not_lt : (n m : ℕ) → n ≤ m → nat_lt m n ≡ false
    not_lt n m within = grind (arith, nat_tests)

-- a master with few records has none to forget
few_left : (d : MasterData) → length d.history - d.forgotten ≤ 1024 → ForgetsTo (length d.history) d d
few_left d few = record {
  rest = refl;
  least = omega arith;
  most = omega arith;
  near = λ within far. omega (arith, few, within);
}

pub forgets_few : (old : Node) (up : MasterValue MemoryFleet) → old ≡ Up up
    → length up.knows.history - up.knows.forgotten ≤ 1024 → ForgetsDurable old (Up up)
forgets_few old up is few =
    subst (λ (n : Node). ForgetsDurable n (Up up)) (sym is) (up.knows, few_left up.knows few, refl)
