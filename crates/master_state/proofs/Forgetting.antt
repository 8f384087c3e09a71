-- A core that forgets records keeps the invariant.
use Rattle.std.proofs.Common.{◌≡◌, ℕ, ◌+◌, ◌≤◌, List, length, sym, ap, subst, arith}
use Rattle.std.specs.Prelude.{◌^◌, max}
use Rattle.history.specs.Records.{HistoryValue, Forgets}
use Rattle.tally.specs.declared.tallies.Tally.{Tally}
use Rattle.master_state.specs.Data.{MasterData}
use Rattle.master_state.specs.Forgetting.{ForgetsTo, may_forget}
use Rattle.master_state.specs.Invariant.{IsCore, AreTallied}
use Rattle.master_state.proofs.Posted.{forgotten_core}

-- the history forgot some of its first records
module _ (d : MasterData) (room most : ℕ) (new : HistoryValue)
    (is : Forgets most (record { records = d.history; room = room; forgotten = d.forgotten }) new) where
  abbrev e : MasterData
  e = record d { history = new.records; forgotten = new.forgotten }

  same_but : record d { forgotten = new.forgotten } ≡ e
  same_but = λ i. record d { history = sym is.records i; forgotten = new.forgotten }

  pub forgot_core : IsCore d → IsCore e
  forgot_core core =
      let all = ap length is.records in
      let within = is.within in
      let least = is.least in
      let few = core.history.few in
      subst IsCore same_but (forgotten_core d new.forgotten core (record {
        within = omega arith;
        few = omega arith;
        places = is.places;
      }))

  pub forgot_tallied : (rows : List Tally) → AreTallied d rows → AreTallied e rows
  forgot_tallied rows = subst (λ (m : MasterData). AreTallied m rows) same_but

  pub forgot_to : (n : ℕ) → most ≡ may_forget n d → ForgetsTo n d e
  forgot_to n same = record {
    rest = sym same_but;
    least = is.least;
    most = subst (λ (m : ℕ). new.forgotten ≤ max d.forgotten m) same is.most;
    near = subst (λ (m : ℕ). m ≤ length d.history → m ≤ 2 ^ 62 → m ≤ new.forgotten + 1024) same is.near;
  }
