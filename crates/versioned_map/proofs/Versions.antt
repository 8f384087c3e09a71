-- Versions that keys had, and their bounds by the safe version and by a bag.
use Rattle.std.proofs.Common.{◌≡◌, ℕ, ◌+◌, ◌<◌, ◌≤◌, ◌⊎◌, inl, inr, max, Bool, true, false}
use Rattle.std.proofs.Common.{cond, zero, suc, take, List, [], ◌∷◌, refl, sym, ap}
use Rattle.std.proofs.Common.{subst, ◌∙◌, arith}
use Rattle.std.specs.Prelude.{Option, Some, None, IsSomeAnd}
use Rattle.entry.specs.declared.key.Key.{Key}
use Rattle.entry.specs.declared.entry.Entry.{Entry}
use Rattle.entry.specs.Meaning.{Versioned, IsOfKey, version_of, among, bound_of, object_at}
use Rattle.versioned_map.specs.declared.command.Command.{Command}
use Rattle.versioned_map.specs.declared.command.Command.TheVariants.{Get, Put, Delete}
use Rattle.versioned_map.specs.Versioned.{State, is_met, with_contents, after_command, after_put}
use Rattle.versioned_map.specs.Versioned.{after_delete, after, IsSafeAfter}
use Rattle.versioned_map.specs.Represents.{Represents, IsBounded}
use Rattle.entry.proofs.KeyOrder.{key_eq_tells}
use Rattle.versioned_map.proofs.Keys.{at_key, at_other}
use Rattle.versioned_map.proofs.Tops.{version_bound}
use Rattle.versioned_map.proofs.Represented.{bound_above}

-- ---- versions are bounded

-- what the key has at least reaches the version
abbrev Reaches : ℕ → Option Versioned → Type 0
Reaches version x = IsSomeAnd x (λ (y : Versioned). version ≤ y.version)

module _ (k : Key) (version : ℕ) where
  had_bounded : (st : State) (x : Versioned) → st.contents k ≡ Some x → x.version ≡ version → IsBounded st k version
  had_bounded st x h v =
      inr (subst (λ (o : Option Versioned). Reaches version o) (sym h)
      (let le : version ≤ x.version = omega arith in le))

  -- one key changed, the safe version not lowered
  module _ (st : State) (q : Key) (x : Option Versioned) (safe : ℕ) (le : st.safe ≤ safe) where
    changed : (k ≡ q → IsBounded st k version → (version < safe) ⊎ Reaches version x) → IsBounded st k version →
        IsBounded (record { contents = with_contents st.contents q x; safe = safe }) k version
    changed here b = elim (key_eq_tells k q)
        as (λ _. IsBounded (record { contents = with_contents st.contents q x; safe = safe }) k version) [
          | inl t ↦ elim (here t.1 b) [
            | inl lt ↦ inl lt
            | inr up ↦ inr (subst (λ (o : Option Versioned). Reaches version o)
                (sym (at_key st.contents q x k t.1)) up)
          ]
          | inr t ↦ elim b [
            | inl lt ↦ inl (omega arith)
            | inr up ↦ inr (subst (λ (o : Option Versioned). Reaches version o)
                (sym (at_other st.contents q x k t.1)) up)
          ]
        ]

  -- what is known of the changed key itself
  at_changed : (st : State) (q : Key) (x : Option Versioned) → st.contents q ≡ x → k ≡ q → IsBounded st k version
      → (version < st.safe) ⊎ Reaches version x
  at_changed st q x h same b = elim b [
    | inl lt ↦ inl lt
    | inr up ↦ inr (subst (λ (o : Option Versioned). Reaches version o) (ap st.contents same ∙ h) up)
  ]

  put_bounded : (st : State) (q : Key) (value : List ℕ) (x : Option Versioned) → st.contents q ≡ x
      → IsBounded st k version
      → IsBounded (after_put st q value x) k version
  put_bounded st q value None none b =
      changed st q (Some (record { version = st.safe; value = value })) (st.safe + 1) (omega arith)
      (λ same c. elim (at_changed st q None none same c) [
        | inl lt ↦ inl (omega arith)
        | inr up ↦ absurd up
      ]) b
  put_bounded st q value (Some x) some b =
      changed st q (Some (record { version = x.version + 1; value = value })) st.safe (omega arith)
      (λ same c. elim (at_changed st q (Some x) some same c) [
        | inl lt ↦ inl lt
        | inr up ↦ inr (omega arith)
      ]) b

  delete_bounded : (st : State) (q : Key) (x : Option Versioned) → st.contents q ≡ x → IsBounded st k version
      → IsBounded (after_delete st q x) k version
  delete_bounded st q None none b = b
  delete_bounded st q (Some x) some b =
      changed st q None (max st.safe (x.version + 1)) (omega arith)
      (λ same c. elim (at_changed st q (Some x) some same c) [
        | inl lt ↦ inl (omega arith)
        | inr up ↦ inl (omega arith)
      ]) b

  put_if_bounded : (st : State) (q : Key) (value : List ℕ) (met : Bool) → IsBounded st k version
      → IsBounded (cond met (after_put st q value (st.contents q)) st) k version
  put_if_bounded st q value true b = put_bounded st q value (st.contents q) refl b
  put_if_bounded st q value false b = b

  command_bounded : (st : State) (c : Command) → IsBounded st k version → IsBounded (after_command st c) k version
  command_bounded st (Get q) b = b
  command_bounded st (Put q value when) b = put_if_bounded st q value (is_met when (st.contents q)) b
  command_bounded st (Delete q) b = delete_bounded st q (st.contents q) refl b

  run_bounded : (st : State) (commands : List Command) → IsBounded st k version
      → IsBounded (after st commands) k version
  run_bounded st [] b = b
  run_bounded st (c ∷ cs) b = run_bounded (after_command st c) cs (command_bounded st c b)

pub bounded : (opening : State) (commands : List Command) (count : ℕ) (k : Key) (x : Versioned)
    → (after opening (take count commands)).contents k ≡ Some x → IsBounded (after opening commands) k x.version
bounded opening commands zero k x h =
    run_bounded k x.version opening commands (had_bounded k x.version opening x h refl)
bounded opening [] (suc count) k x h = had_bounded k x.version opening x h refl
bounded opening (c ∷ cs) (suc count) k x h = bounded (after_command opening c) cs count k x h

-- ---- the safe version

put_safe : (st : State) (k : Key) (value : List ℕ) (x : Option Versioned) → st.safe ≤ (after_put st k value x).safe
put_safe st k value None = omega arith
put_safe st k value (Some x) = omega arith

delete_safe : (st : State) (k : Key) (x : Option Versioned) → st.safe ≤ (after_delete st k x).safe
delete_safe st k None = omega arith
delete_safe st k (Some x) = omega arith

put_if_safe : (st : State) (k : Key) (value : List ℕ) (met : Bool)
    → st.safe ≤ (cond met (after_put st k value (st.contents k)) st).safe
put_if_safe st k value true = put_safe st k value (st.contents k)
put_if_safe st k value false = omega arith

command_safe : (st : State) (c : Command) → st.safe ≤ (after_command st c).safe
command_safe st (Get k) = omega arith
command_safe st (Put k value when) = put_if_safe st k value (is_met when (st.contents k))
command_safe st (Delete k) = delete_safe st k (st.contents k)

run_safe : (st : State) (commands : List Command) → st.safe ≤ (after st commands).safe
run_safe st [] = omega arith
run_safe st (c ∷ cs) = let a = command_safe st c in let b = run_safe (after_command st c) cs in omega arith

-- ---- of a bag that represents

module _ (recorded : ℕ) (bag : List Entry) (st : State) (k : Key) (e : Entry) (r : Represents recorded bag st)
    (m : among bag e)
    (at : IsOfKey k e) where
  entry_given : (x : Option Versioned) → st.contents k ≡ x → (version_of e < st.safe) ⊎ Reaches (version_of e) x
  entry_given None none = inl (r.below k e none m at)
  entry_given (Some x) some = inr (version_bound e x.version (((r.meaning k x).0 some).highest e m at))

  entry_reached : IsBounded st k (version_of e)
  entry_reached = entry_given (st.contents k) refl

pub entry_bounded : (recorded : ℕ) (bag : List Entry) (st : State) (k : Key) (e : Entry) → Represents recorded bag st
    → among bag e → IsOfKey k e → IsBounded st k (version_of e)
entry_bounded recorded bag st k e r m at = entry_reached recorded bag st k e r m at

module _ (recorded : ℕ) (bag : List Entry) (opening : State) (commands : List Command)
    (r : Represents recorded bag (after opening commands)) where
  reached : (k : Key) (version : ℕ) (x : Option Versioned) → (after opening commands).contents k ≡ x → Reaches version x
      → version < max recorded (bound_of bag)
  reached k version None h up = absurd up
  reached k version (Some x) h up =
      let lt : x.version < bound_of bag = bound_above (object_at k x) bag ((r.meaning k x).0 h).held in omega arith

  had_below : (k : Key) (version : ℕ) → IsBounded (after opening commands) k version
      → version < max recorded (bound_of bag)
  had_below k version b = elim b as (λ _. version < max recorded (bound_of bag)) [
    | inl lt ↦ (let s = r.safe in omega arith)
    | inr up ↦ reached k version ((after opening commands).contents k) refl up
  ]

  pub safe_after : IsSafeAfter opening commands (max recorded (bound_of bag))
  safe_after = record {
    no_lower = (let a = run_safe opening commands in let s = r.safe in omega arith);
    above = λ i le k x h. had_below k x.version (bounded opening commands i k x h);
  }
