-- Records that are forgotten under the lock.
use Rattle.std.proofs.Common.{◌≡◌, ◌≤◌, ◌<◌, ◌⊎◌, inl, inr, ⊎_elim, ℕ, zero, suc, List, refl, sym, ap, ◌∙◌, subst}
use Rattle.std.proofs.Common.{arith}
use Rattle.std.specs.Prelude.{max}
use Rattle.std.proofs.lemmas.Bool.{cases_lt}
use Rattle.replica.specs.Picture.{FleetState}
use Rattle.versioned_map.specs.declared.command.Record.{Record}
use Rattle.store_step.specs.master.log_laws.Data.{durable_of}
use Rattle.store_step.specs.master.master_state.Data.{MasterData}
use Rattle.store_step.specs.master.master_state.Forgetting.{ForgetsTo}
use Rattle.store_step.specs.master.master_state.Log.{log_of}
use Rattle.store_step.specs.master.Keeps.{Keeps}
use Rattle.store_step.specs.master.Valid.{IsValid}
use Rattle.store_step.specs.master.World.{MasterValue, world}
use Rattle.store_seat.specs.declared.account.Account.{Account}
use Rattle.store_seat.specs.Accounts.{IsOpen, IsSettled}
use Rattle.store_seat.specs.Made.{Made}
use Rattle.locked_log.specs.Held.{StateValue, Held, held, history, durable}
use Rattle.locked_log.specs.States.{IsState, Lasts}
use Rattle.locked_log.specs.Steps.{ForgetsHeld}
use Rattle.locked_log.proofs.Stepped.{moved_lasts, moved_state}

-- what was looked at from the first place on that isn't forgotten and has a cell
pub settled_from : (start forgotten from n : ℕ) (book : List Account) (records : List Record)
    → from ≤ max forgotten start → IsSettled start book records forgotten → IsSettled from book records n
    → IsSettled start book records n
settled_from start forgotten from n book records low early late place since below waits = ⊎_elim
    (λ (l : place < from). early place since (omega (arith, l, low, since)) waits)
    (λ (u : from ≤ place). late place u below waits)
    (cases_lt place from)

-- what a forgetting under the lock ensures
pub record Forgot (s : Held) (result : ℕ) (t : Held) (made : Made) : Type 0 where
  pub forgets : ForgetsHeld s result t
  pub lasts : Lasts 0 s t
  pub valid : IsState t made

module _ {F : Type 0} (state : F → FleetState) (v : StateValue F) (made : Made) (st : IsState (held state v) made)
    (n : ℕ) (settled : IsSettled v.start v.book v.master.knows.history n)
    (near : IsOpen v.book v.master.knows.history n ⊎ (durable_of (log_of v.master.knows) ≤ n)) (e : MasterValue F)
    (forgets : ForgetsTo n v.master.knows e.knows) (fleet : e.fleet ≡ v.master.fleet)
    (keeps : Keeps 0 (world state v.master) (world state e)) (valid : IsValid e.knows (state e.fleet)) where
  now_settled : IsSettled v.start v.book v.master.knows.history e.knows.forgotten
  now_settled place since below waits = ⊎_elim
      (λ (l : place < v.master.knows.forgotten). st.settled place since l waits)
      (λ (u : v.master.knows.forgotten ≤ place). settled place since (omega (arith, u, below, forgets.most)) waits)
      (cases_lt place v.master.knows.forgotten)

  pub forgot_here : (result : ℕ) → result ≡ e.knows.forgotten → Forgot (held state v) result (record {
    world = world state e;
    book = v.book;
    total = v.total;
    start = v.start;
    row = v.row;
    is_refused = v.is_refused;
  }) made
  forgot_here result told = record {
    forgets = (
      n,
      record {
        settled = settled;
        near = near;
        forgets = forgets;
        rest = λ i. record {
          world = record { knows = e.knows; fleet = state (fleet i) };
          book = v.book;
          total = v.total;
          start = v.start;
          row = v.row;
          is_refused = v.is_refused;
        };
        told = told;
      },
    );
    lasts = moved_lasts (held state v) (world state e) 0 keeps;
    valid = moved_state (held state v) (world state e) 0 made st keeps valid
        (ap (λ (d : MasterData). d.history) forgets.rest) now_settled;
  }

pub forgot : {F : Type 0} (state : F → FleetState) (v x : StateValue F) → v ≡ x → (made : Made)
    → IsState (held state v) made → (n : ℕ) → IsSettled x.start x.book x.master.knows.history n
    → (IsOpen x.book x.master.knows.history n ⊎ (durable_of (log_of x.master.knows) ≤ n)) → (e : MasterValue F)
    → ForgetsTo n v.master.knows e.knows → e.fleet ≡ v.master.fleet
    → Keeps 0 (world state v.master) (world state e) → IsValid e.knows (state e.fleet)
    → (result : ℕ) → result ≡ e.knows.forgotten → Forgot (held state x) result (record {
      world = world state e;
      book = v.book;
      total = v.total;
      start = v.start;
      row = v.row;
      is_refused = v.is_refused;
    }) made
forgot state v x same made st n settled near e forgets fleet keeps valid result told =
    subst (λ (y : StateValue _). Forgot (held state y) result (record {
      world = world state e;
      book = v.book;
      total = v.total;
      start = v.start;
      row = v.row;
      is_refused = v.is_refused;
    }) made) same
    (forgot_here state v made st n
    (subst (λ (y : StateValue _). IsSettled y.start y.book y.master.knows.history n) (sym same) settled)
    (subst (λ (y : StateValue _). IsOpen y.book y.master.knows.history n ⊎ (durable_of (log_of y.master.knows) ≤ n))
    (sym same) near)
    e forgets fleet keeps valid result told)
