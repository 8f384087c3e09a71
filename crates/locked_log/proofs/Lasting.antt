-- What stays, whatever is done under the lock.
use Rattle.std.proofs.Common.{◌≡◌, ◌≤◌, ⊎_elim, ℕ, List, [], ◌++◌, Some, refl, sym, ap, ◌∙◌, arith, append_assoc}
use Rattle.std.specs.Prelude.{slice_get, slice_set}
use Rattle.std.proofs.lemmas.List.{append-nil}
use Rattle.store_step.specs.master.master_state.declared.config.Config.{Config}
use Rattle.store_step.specs.master.Keeps.{Keeps}
use Rattle.store_step.specs.master.World.{World}
use Rattle.store_seat.specs.declared.account.Account.{Account}
use Rattle.locked_log.specs.Held.{Held}
use Rattle.store_seat.specs.Made.{Made}
use Rattle.locked_log.specs.Made.{IsMade, made_now}
use Rattle.locked_log.specs.States.{Lasts, RaisesFirsts}
use Rattle.std.proofs.lemmas.Option.{same_Some}
use Rattle.locked_log.proofs.Counting.{get_set}

pub keeps_same : (most : ℕ) (w : World) → Keeps most w w
keeps_same most w = record {
  config = refl;
  origin = refl;
  takes = (omega arith, omega arith);
  others = λ b m s other. refl;
  least = λ m other. refl;
  durable = omega arith;
  forgotten = omega arith;
  history = ([], sym (append-nil w.knows.history));
}

pub firsts_same : (book : List Account) → RaisesFirsts book book
firsts_same book k a b e f =
    let same : a ≡ b = same_Some _ _ (sym e ∙ f) in omega (arith, ap (λ (x : Account). x.first) same)

-- one account is set, to a first number that is no lower
pub firsts_set : (book : List Account) (i : ℕ) (c d : Account) → slice_get book i ≡ Some c → c.first ≤ d.first
    → RaisesFirsts book (slice_set book i d)
firsts_set book i c d at up k a b e f =
    ⊎_elim
    (λ (x : (k ≡ i) × (d ≡ b)). let same : a ≡ c = same_Some _ _ (sym e ∙ ap (λ n. slice_get book n) x.0 ∙ at) in
    omega (arith, ap (λ (y : Account). y.first) same, ap (λ (y : Account). y.first) x.1, up))
    (λ x. firsts_same book k a b e x.1)
    (get_set book i k d b f)

pub lasts_same : (most : ℕ) (h : Held) → Lasts most h h
lasts_same most h = record {
  keeps = keeps_same most h.world;
  accounts = refl;
  firsts = firsts_same h.book;
  start = refl;
  cells = refl;
  refused = λ on. on;
}

-- it stays the master that the store was made of
pub made_lasts : (most : ℕ) (s t : World) (made : Made) → Keeps most s t → IsMade made s → IsMade made t
made_lasts most s t made keeps is = record {
  config = keeps.config ∙ is.config;
  origin = keeps.origin ∙ is.origin;
  begun = (
    is.begun.0 ++ keeps.history.0,
    keeps.history.1 ∙ ap (λ l. l ++ keeps.history.0) is.begun.1
        ∙ append_assoc made.begun is.begun.0 keeps.history.0,
  );
  durable = omega (arith, is.durable, keeps.durable);
  least = λ m other. keeps.least m (λ same. other (same ∙ ap (λ (c : Config). c.master) is.config))
      ∙ is.least m other;
}

-- at first it is
pub made_at_first : (seats : ℕ) (w : World) → IsMade (made_now seats w) w
made_at_first seats w = record {
  config = refl;
  origin = refl;
  begun = ([], sym (append-nil w.knows.history));
  durable = omega arith;
  least = λ m other. refl;
}
