-- What a key had is followed by the same, by greater versions, or by nothing, over all recoveries.
use Rattle.std.proofs.Common.{◌≡◌, ℕ, zero, suc, ◌+◌, ◌<◌, ◌≤◌, inl, inr, max, Bool, true, false}
use Rattle.std.proofs.Common.{List, [], ◌∷◌, take, length, refl, sym, ap, subst, ◌∙◌, arith}
use Rattle.std.specs.Prelude.{Option, Some, None, if◌then◌else◌}
use Rattle.entry.specs.declared.key.Key.{Key}
use Rattle.entry.specs.Bag.{IsAmong}
use Rattle.entry.specs.Meaning.{Versioned, Contents}
use Rattle.claims.specs.declared.rebuilt.Rebuilt.{Rebuilt}
use Rattle.versioned_map.specs.declared.command.Command.{Command}
use Rattle.versioned_map.specs.declared.command.Command.TheVariants.{Get, Put, Delete}
use Rattle.versioned_map.specs.declared.command.Record.{Record}
use Rattle.versioned_map.specs.History.{commands_of}
use Rattle.versioned_map.specs.Versioned.{State, is_met, with_contents, after_command, after_put}
use Rattle.versioned_map.specs.Versioned.{after_delete, after}
use Rattle.entry.proofs.KeyOrder.{key_eq_tells}
use Rattle.versioned_map.proofs.Keys.{at_key, at_other}
use Rattle.replay.specs.master.log_laws.Data.{FailData, state_after}
use Rattle.recovery.specs.Recovered.{IsRecovered}
use Rattle.recovery.specs.Lives.{Life, taken_over, first_log, logs_of, AreLives, IsSameOrNewer, VersionsRise}

-- what may follow once the key had this: the same, a greater version, or nothing above a greater safe version
abbrev FollowsIn : ℕ → Versioned → Option Versioned → Type 0
FollowsIn safe x None = x.version < safe
FollowsIn safe x (Some y) = IsSameOrNewer x y

module _ (k : Key) (x : Versioned) where
  abbrev Follows : State → Type 0
  Follows st = FollowsIn st.safe x (st.contents k)

  -- a greater safe version may stand
  raised : (low high : ℕ) (o : Option Versioned) → low ≤ high → FollowsIn low x o → FollowsIn high x o
  raised low high None le f = omega arith
  raised low high (Some y) le f = f

  below : (y : Versioned) → IsSameOrNewer x y → x.version ≤ y.version
  below y (inl same) = let v : x.version ≡ y.version = ap (λ (z : Versioned). z.version) same in omega arith
  below y (inr newer) = omega arith

  module _ (st : State) (q : Key) (o : Option Versioned) (safe : ℕ) (le : st.safe ≤ safe)
      (here : FollowsIn st.safe x (st.contents q) → FollowsIn safe x o) where
    changed : Follows st → Follows (record { contents = with_contents st.contents q o; safe = safe })
    changed f = elim (key_eq_tells k q)
        as (λ _. Follows (record { contents = with_contents st.contents q o; safe = safe })) [
          | inl t ↦ subst (FollowsIn safe x) (sym (at_key st.contents q o k t.1))
              (here (subst (λ (z : Key). FollowsIn st.safe x (st.contents z)) t.1 f))
          | inr t ↦ subst (FollowsIn safe x) (sym (at_other st.contents q o k t.1))
              (raised st.safe safe (st.contents k) le f)
        ]

  put_follows : (st : State) (q : Key) (value : List ℕ) (o : Option Versioned) → st.contents q ≡ o → Follows st
      → Follows (after_put st q value o)
  put_follows st q value None none f =
      changed st q (Some (record { version = st.safe; value = value })) (st.safe + 1) (omega arith)
      (λ g. inr (subst (FollowsIn st.safe x) none g)) f
  put_follows st q value (Some z) some f =
      changed st q (Some (record { version = z.version + 1; value = value })) st.safe (omega arith)
      (λ g. let le = below z (subst (FollowsIn st.safe x) some g) in inr (omega arith)) f

  delete_follows : (st : State) (q : Key) (o : Option Versioned) → st.contents q ≡ o → Follows st
      → Follows (after_delete st q o)
  delete_follows st q None none f = f
  delete_follows st q (Some z) some f =
      changed st q None (max st.safe (z.version + 1)) (omega arith)
      (λ g. let le = below z (subst (FollowsIn st.safe x) some g) in omega arith) f

  met_follows : (met : Bool) (st next : State) → Follows st → Follows next → Follows (if met then next else st)
  met_follows true st next f g = g
  met_follows false st next f g = f

  command_follows : (st : State) (c : Command) → Follows st → Follows (after_command st c)
  command_follows st (Get q) f = f
  command_follows st (Put q value when) f =
      met_follows (is_met when (st.contents q)) st (after_put st q value (st.contents q)) f
      (put_follows st q value (st.contents q) refl f)
  command_follows st (Delete q) f = delete_follows st q (st.contents q) refl f

  run_follows : (st : State) (cs : List Command) → Follows st → Follows (after st cs)
  run_follows st [] f = f
  run_follows st (c ∷ cs) f = run_follows (after_command st c) cs (command_follows st c f)

  had : (st : State) → st.contents k ≡ Some x → Follows st
  had st h = subst (FollowsIn st.safe x) (sym h) (inl refl)

  -- what follows in the same life
  in_life : (st : State) (cs : List Command) (a b : ℕ) → a ≤ b → (after st (take a cs)).contents k ≡ Some x
      → Follows (after st (take b cs))
  in_life st cs zero b le h = run_follows st (take b cs) (had st h)
  in_life st cs (suc a) zero le h = absurd (omega arith)
  in_life st [] (suc a) (suc b) le h = had st h
  in_life st (c ∷ cs) (suc a) (suc b) le h = in_life (after_command st c) cs a b (omega arith) h

  -- what was recovered follows
  recovered_follows : (d : FailData) (r : Rebuilt) (found : IsRecovered d r) → x.version < r.safe
      → Follows (state_after d found.count) → Follows (taken_over r)
  recovered_follows d r found lt f =
      subst (λ (c : Contents). FollowsIn r.safe x (c k)) (sym found.exactly)
      (handed ((state_after d found.count).contents k) f)
    where
      handed : (o : Option Versioned) → FollowsIn (state_after d found.count).safe x o → FollowsIn r.safe x o
      handed None g = lt
      handed (Some y) g = g

  -- the state follows, and its safe version is above
  record IsLater (st : State) : Type 0 where
    follows : Follows st
    safe : x.version < st.safe

  -- a life that begins later
  in_later : (ls : List Life) (on : FailData) → AreLives ls on → IsLater (first_log ls on).opening → (d : FailData)
      → IsAmong d (logs_of ls on)
      → (b : ℕ) → Follows (state_after d b)
  in_later [] on lives later d (inl same) b =
      subst (λ (e : FailData). Follows (state_after e b)) same
      (run_follows on.opening (take b (commands_of on.history)) later.follows)
  in_later [] on lives later d (inr none) b = absurd none
  in_later (l ∷ ls) on lives later d (inl same) b =
      subst (λ (e : FailData). Follows (state_after e b)) same
      (run_follows l.log.opening (take b (commands_of l.log.history)) later.follows)
  in_later (l ∷ ls) on lives later d (inr among) b =
      in_later ls on lives.1 (subst IsLater (sym lives.0) next) d among b
    where
      lt : x.version < l.recovered.safe
      lt = let le = l.found.safe.no_lower in let above = later.safe in omega arith

      next : IsLater (taken_over l.recovered)
      next = record {
        follows =
            recovered_follows l.log l.recovered l.found lt
            (run_follows l.log.opening (take l.found.count (commands_of l.log.history)) later.follows);
        safe = lt;
      }

take_up_to : (cs : List Command) (a b : ℕ) → a ≤ b → take a (take b cs) ≡ take a cs
take_up_to cs zero b le = refl
take_up_to cs (suc a) zero le = absurd (omega arith)
take_up_to [] (suc a) (suc b) le = refl
take_up_to (c ∷ cs) (suc a) (suc b) le = ap (λ l. c ∷ l) (take_up_to cs a b (omega arith))

taken_length : (rs : List Record) (a b : ℕ) → a ≤ b → b ≤ length rs → a ≤ length (take b (commands_of rs))
taken_length rs zero b le within = omega arith
taken_length rs (suc a) zero le within = absurd (omega arith)
taken_length [] (suc a) (suc b) le within = absurd (omega arith)
taken_length (r ∷ rs) (suc a) (suc b) le within =
    let rest = taken_length rs a b (omega arith) (omega arith) in omega arith

followed : (k : Key) (x : Versioned) (safe : ℕ) (o : Option Versioned) (y : Versioned) → o ≡ Some y
    → FollowsIn safe x o → IsSameOrNewer x y
followed k x safe o y is f = subst (FollowsIn safe x) is f

pub versions_rise : VersionsRise
versions_rise l later on d a b k x y lives among le had_x has_y =
    followed k x (state_after d b).safe ((state_after d b).contents k) y has_y
    (in_later k x later on lives.1 (subst (IsLater k x) (sym lives.0) next) d among b)
  where
    commands : List Command
    commands = commands_of l.log.history

    again : (after l.log.opening (take a (take l.found.count commands))).contents k ≡ Some x
    again = ap (λ cs. (after l.log.opening cs).contents k) (take_up_to commands a l.found.count le) ∙ had_x

    lt : x.version < l.recovered.safe
    lt = l.found.safe.above a (taken_length l.log.history a l.found.count le l.found.within) k x again

    next : IsLater k x (taken_over l.recovered)
    next = record {
      follows =
          recovered_follows k x l.log l.recovered l.found lt
          (in_life k x l.log.opening commands a l.found.count le had_x);
      safe = lt;
    }
