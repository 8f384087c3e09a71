-- A step that the master says is next is never refused because nothing waits.
use Rattle.std.proofs.Common.{◌≡◌, ◌⊎◌, ℕ, inl, inr, ⊎_elim, Bool, true, false, cond, Option, Some, None, List, refl}
use Rattle.std.proofs.Common.{sym}
use Rattle.std.proofs.Common.{ap, ◌∙◌, subst}
use Rattle.std.specs.Prelude.{◌+◌, ◌^◌, ◌==◌, not, nat_lt, length, is_none, is_some}
use Rattle.std.specs.Option.{option_and_then, option_map_or}
use Rattle.std.proofs.lemmas.Bool.{and_left, and_right, not-true}
use Rattle.store_step.specs.master.cleaner.declared.fault.PassFault.{PassFault}
use Rattle.store_step.specs.master.cleaner.declared.pass.Pass.{Pass as OpenPass}
use Rattle.store_step.specs.master.cleaner.Passes.{is_at_end, next_seal}
use Rattle.store_step.specs.master.log_head.Head.{is_open}
use Rattle.store_step.specs.master.log_laws.Heads.{fewest}
use Rattle.store_step.specs.master.master_state.declared.failover.Failover.{Failover}
use Rattle.store_step.specs.master.master_state.declared.step.Refusal.{Refusal}
use Rattle.store_step.specs.master.master_state.declared.step.Refusal.TheVariants.{Halted, Rolling, Nothing, Full}
use Rattle.store_step.specs.master.master_state.declared.step.Refusal.TheVariants.{SegmentsSpent, Pass}
use Rattle.store_step.specs.master.master_state.declared.step.Refusal.TheVariants.{NoMemory}
use Rattle.store_step.specs.master.master_state.declared.step.Step.{Step}
use Rattle.store_step.specs.master.master_state.declared.step.Step.TheVariants.{Push, BeginRoll, BeginClean, Copy, Seal}
use Rattle.store_step.specs.master.master_state.declared.step.Step.TheVariants.{Free}
use Rattle.store_step.specs.master.master_state.Budget.{is_working, may_roll, may_clean}
use Rattle.store_step.specs.master.master_state.Causes.{step_refusal, clean_refusal, victims_fault, survivors_for}
use Rattle.store_step.specs.master.master_state.Causes.{space_refusal}
use Rattle.store_step.specs.master.master_state.Causes.{is_pushed, is_done}
use Rattle.store_step.specs.master.master_space.Choosing.{chosen, may_begin_next, pass_step, step_without, next_step}
use Rattle.store_step.specs.master.master_state.Data.{MasterData}
use Rattle.store_step.specs.master.Steps.{Declines, FailsPush, FailsTurn, IsStuck}
use Rattle.store_step.specs.master.World.{World}

-- ---- rows of tests

-- after the test that comes before all others
after_first : (d : MasterData) (rest : Option Refusal) → (rest ≡ Some Nothing → ⊥)
    → cond (is_some (step_refusal d)) (step_refusal d) rest ≡ Some Nothing → ⊥
after_first d rest works = go d.is_halted (is_some d.failover) where
  first : Bool → Bool → Option Refusal
  first a b = cond a (Some Halted) (cond b (Some Rolling) None)

  go : (a b : Bool) → cond (is_some (first a b)) (first a b) rest ≡ Some Nothing → ⊥
  go true b e = absurd (cc)
  go false true e = absurd (cc)
  go false false e = works e

-- with work at hand
at_work : (has : Bool) → has ≡ true → cond has None (Some Nothing) ≡ Some Nothing → ⊥
at_work true h e = absurd (cc)
at_work false h e = absurd (cc)

-- with nothing idle
not_idle : (idle : Bool) → idle ≡ false → cond idle (Some Nothing) None ≡ Some Nothing → ⊥
not_idle true h e = absurd (cc)
not_idle false h e = absurd (cc)

awake : (halted idle : Bool) → idle ≡ false → cond halted (Some Halted) (cond idle (Some Nothing) None)
    ≡ Some Nothing → ⊥
awake true idle h e = absurd (cc)
awake false idle h e = not_idle idle h e

not_idle_before_roll : (a b c f : Bool) → cond a (Some Halted)
    (cond b (Some Rolling) (cond c (Some SegmentsSpent) (cond f (Some Full) None))) ≡ Some Nothing → ⊥
not_idle_before_roll true b c f e = absurd (cc)
not_idle_before_roll false true c f e = absurd (cc)
not_idle_before_roll false false true f e = absurd (cc)
not_idle_before_roll false false false true e = absurd (cc)
not_idle_before_roll false false false false e = absurd (cc)

space : (d : MasterData) (ids : List ℕ) → space_refusal d ids ≡ Some Nothing → ⊥
space d ids = go (nat_lt 4 (survivors_for d ids)) (not (may_clean d (length ids) (survivors_for d ids)))
    (nat_lt (2 ^ 62 + 1) (d.next + survivors_for d ids)) where
      go : (a b c : Bool) → cond a (Some (Pass PassFault.TooMuch))
          (cond b (Some Full) (cond c (Some SegmentsSpent) None))
          ≡ Some Nothing → ⊥
      go true b c e = absurd (cc)
      go false true c e = absurd (cc)
      go false false true e = absurd (cc)
      go false false false e = absurd (cc)

cleans : (d : MasterData) (ids : List ℕ) → clean_refusal d ids ≡ Some Nothing → ⊥
cleans d ids = after_first d (gives (victims_fault d ids)) (go (victims_fault d ids)) where
  gives : Option PassFault → Option Refusal
  gives o = option_map_or (λ (fault : PassFault). Some (Pass fault)) o (space_refusal d ids)

  go : (o : Option PassFault) → gives o ≡ Some Nothing → ⊥
  go None e = space d ids e
  go (Some fault) e = absurd (cc)

not_memory : NoMemory ≡ Nothing → ⊥
not_memory e = absurd (cc)

not_halted : Nothing ≡ Halted → ⊥
not_halted e = absurd (cc)

some_not_none : {X : Type 0} (o : Option X) → is_some o ≡ true → is_none o ≡ false
some_not_none None e = absurd (cc)
some_not_none (Some x) e = refl

-- ---- the next step

module _ (s t : World) where
  abbrev Never : Step → Type 0
  Never step = Declines s step Nothing t → ⊥

  fails : IsStuck s Nothing t ⊎ (FailsTurn s Nothing t ⊎ FailsPush s Nothing t) → ⊥
  fails (inl x) = not_halted x.2
  fails (inr (inl x)) = not_halted x.2
  fails (inr (inr x)) = x.1

  to_push : is_done s.knows ≡ false → Never Push
  to_push waits (inl x) = awake s.knows.is_halted (is_done s.knows) waits x.0
  to_push waits (inr x) = fails x.1

  mends : is_none s.knows.failover ≡ false → Never Push
  mends opened = to_push (and_left (is_none s.knows.failover) (is_pushed s.knows.head) opened)

  pushes : is_open s.knows.head ≡ false → Never Push
  pushes closed = to_push (and_right (is_none s.knows.failover) (is_pushed s.knows.head)
      (and_left (is_open s.knows.head)
      (fewest (length s.knows.head.units) s.knows.head.taken == length s.knows.head.units) closed))

  rolls : Never BeginRoll
  rolls x = ⊎_elim
      (λ e. not_idle_before_roll s.knows.is_halted (not (is_working s.knows)) (nat_lt (2 ^ 62) s.knows.next)
      (not (may_roll s.knows 2)) e)
      (λ e. not_memory (sym e.1)) x.1

  module _ (p : OpenPass) (opened : s.knows.pass ≡ Some p) where
    in_pass : (test : OpenPass → Bool) → test p ≡ true → option_map_or test s.knows.pass false ≡ true
    in_pass test e = ap (λ (o : Option OpenPass). option_map_or test o false) opened ∙ e

    copies : not (is_at_end p) ≡ true → Never Copy
    copies more x = after_first s.knows _ (at_work _ (in_pass (λ (q : OpenPass). not (is_at_end q)) more)) x.1

    abbrev next_of : OpenPass → Option (ℕ × ℕ)
    next_of = next_seal s.knows.config.replicas s.knows.closed

    seals : is_some (next_of p) ≡ true → Never Seal
    seals more (inl x) = after_first s.knows _ (not_idle _ (ap (λ (o : Option OpenPass).
        is_none (option_and_then next_of o)) opened ∙ some_not_none (next_of p) more)) x.0
    seals more (inr x) = x.1

    pass_never : Never (pass_step s.knows p)
    pass_never = go (not (is_at_end p)) (is_some (next_of p)) (is_open s.knows.head) refl refl refl where
      picks : Bool → Bool → Bool → Step
      picks a b c = cond a Copy (cond b Seal (cond c BeginRoll Push))

      go : (a b c : Bool) → not (is_at_end p) ≡ a → is_some (next_of p) ≡ b → is_open s.knows.head ≡ c
          → Never (picks a b c)
      go true b c ea eb ec = copies ea
      go false true c ea eb ec = seals eb
      go false false true ea eb ec = rolls
      go false false false ea eb ec = pushes ec

  frees : not (length s.knows.waiting == 0) ≡ true → Never Free
  frees waits (inl x) =
      after_first s.knows _ (not_idle _ (not-true (length s.knows.waiting == 0) waits)) x.0
  frees waits (inr x) = x.1

  begins : (ids : List ℕ) → Never (BeginClean ids)
  begins ids x = ⊎_elim (λ e. cleans s.knows ids e) (λ e. not_memory (sym e.1)) x.1

  abbrev NeverIn : Option Step → Type 0
  NeverIn None = Unit {0}
  NeverIn (Some step) = Never step

  without_never : NeverIn (step_without s.knows)
  without_never = go (not (is_open s.knows.head)) (not (length s.knows.waiting == 0)) (may_begin_next s.knows) refl refl
    where
      picks : Bool → Bool → Bool → Option Step
      picks a b c = cond a (Some Push) (cond b (Some Free) (cond c (Some (BeginClean (chosen s.knows))) None))

      go : (a b c : Bool) → not (is_open s.knows.head) ≡ a → not (length s.knows.waiting == 0) ≡ b
          → NeverIn (picks a b c)
      go true b c ea eb = pushes (not-true (is_open s.knows.head) ea)
      go false true c ea eb = frees eb
      go false false true ea eb = begins (chosen s.knows)
      go false false false ea eb = tt

  next_never : NeverIn (next_step s.knows)
  next_never = go s.knows.failover s.knows.pass refl refl where
    gives : Option Failover → Option OpenPass → Option Step
    gives f o = cond (is_some f) (Some Push)
        (option_map_or (λ (p : OpenPass). Some (pass_step s.knows p)) o (step_without s.knows))

    go : (f : Option Failover) (o : Option OpenPass) → s.knows.failover ≡ f → s.knows.pass ≡ o → NeverIn (gives f o)
    go (Some f) o opened e = mends (ap (λ (x : Option Failover). is_none x) opened)
    go None None calm e = without_never
    go None (Some p) calm e = pass_never p e

  pub next_works : (step : Step) → next_step s.knows ≡ Some step → Declines s step Nothing t → ⊥
  next_works step e = subst NeverIn e next_never
