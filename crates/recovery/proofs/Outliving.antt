-- A key that no put or delete names keeps what it has, over all recoveries.
use Rattle.std.proofs.Common.{◌≡◌, ℕ, zero, suc, ◌≤◌, inl, inr, Bool, true, false}
use Rattle.std.proofs.Common.{List, [], ◌∷◌, ◌++◌, take, drop, refl, sym, ap, ◌∙◌, arith}
use Rattle.std.specs.Prelude.{Option, Some, None, if◌then◌else◌}
use Rattle.entry.specs.declared.key.Key.{Key}
use Rattle.entry.specs.Bag.{IsAmong}
use Rattle.entry.specs.Meaning.{Versioned}
use Rattle.versioned_map.specs.declared.command.Command.{Command}
use Rattle.versioned_map.specs.declared.command.Command.TheVariants.{Get, Put, Delete}
use Rattle.versioned_map.specs.History.{commands_of}
use Rattle.versioned_map.specs.Versioned.{State, is_met, after_command, after_put, after_delete, after}
use Rattle.versioned_map.proofs.Keys.{at_other}
use Rattle.replay.specs.master.log_laws.Data.{FailData, state_after}
use Rattle.recovery.specs.Lives.{Life, first_log, AreLives, Spares, AllSpare, recovered_of, AcknowledgedOutlive}

module _ (k : Key) where
  put_spares : (st : State) (q : Key) (value : List ℕ) (o : Option Versioned) → (q ≡ k → ⊥)
      → (after_put st q value o).contents k ≡ st.contents k
  put_spares st q value None other = at_other st.contents q _ k (λ same. other (sym same))
  put_spares st q value (Some x) other = at_other st.contents q _ k (λ same. other (sym same))

  delete_spares : (st : State) (q : Key) (o : Option Versioned) → (q ≡ k → ⊥)
      → (after_delete st q o).contents k ≡ st.contents k
  delete_spares st q None other = refl
  delete_spares st q (Some x) other = at_other st.contents q None k (λ same. other (sym same))

  met_spares : (met : Bool) (st next : State) → next.contents k ≡ st.contents k
      → (if met then next else st).contents k ≡ st.contents k
  met_spares true st next same = same
  met_spares false st next same = refl

  command_spares : (st : State) (c : Command) → Spares k c → (after_command st c).contents k ≡ st.contents k
  command_spares st (Get q) spares = refl
  command_spares st (Put q value when) spares =
      met_spares (is_met when (st.contents q)) st (after_put st q value (st.contents q))
      (put_spares st q value (st.contents q) spares)
  command_spares st (Delete q) spares = delete_spares st q (st.contents q) spares

  run_spares : (st : State) (cs : List Command) → AllSpare k cs → (after st cs).contents k ≡ st.contents k
  run_spares st [] spare = refl
  run_spares st (c ∷ cs) spare =
      run_spares (after_command st c) cs (λ d among. spare d (inr among)) ∙ command_spares st c (spare c (inl refl))

  -- what follows the first commands leaves the key as they left it
  rest_spares : (st : State) (cs : List Command) (a : ℕ) → AllSpare k (drop a cs)
      → (after st cs).contents k ≡ (after st (take a cs)).contents k
  rest_spares st cs zero spare = run_spares st cs spare
  rest_spares st [] (suc a) spare = refl
  rest_spares st (c ∷ cs) (suc a) spare = rest_spares (after_command st c) cs a spare

  -- a life that begins later, after lives that leave the key alone
  later_has : (l : Life) (between later : List Life) (on : FailData) → AreLives (l ∷ (between ++ later)) on
      → ((n : Life) → IsAmong n between → AllSpare k (recovered_of n))
      → (first_log later on).opening.contents k ≡ (state_after l.log l.found.count).contents k
  later_has l [] later on lives spare =
      ap (λ (st : State). st.contents k) lives.0 ∙ ap (λ c. c k) l.found.exactly
  later_has l (n ∷ between) later on lives spare =
      later_has n between later on lives.1 (λ p among. spare p (inr among))
      ∙ run_spares n.log.opening (recovered_of n) (spare n (inl refl))
      ∙ ap (λ (st : State). st.contents k) lives.0 ∙ ap (λ c. c k) l.found.exactly

take_within : (cs : List Command) (a b : ℕ) → a ≤ b → take a (take b cs) ≡ take a cs
take_within cs zero b le = refl
take_within cs (suc a) zero le = absurd (omega arith)
take_within [] (suc a) (suc b) le = refl
take_within (c ∷ cs) (suc a) (suc b) le = ap (λ l. c ∷ l) (take_within cs a b (omega arith))

pub acknowledged_outlive : AcknowledgedOutlive
acknowledged_outlive l between later on a b k lives le spare_l spare_between spare_later =
    run_spares k (first_log later on).opening (take b (commands_of (first_log later on).history)) spare_later
    ∙ later_has k l between later on lives spare_between
    ∙ rest_spares k l.log.opening (recovered_of l) a spare_l
    ∙ ap (λ cs. (after l.log.opening cs).contents k) (take_within (commands_of l.log.history) a l.found.count le)
