-- What a fleet makes of the model's ops.
use Rattle.std.proofs.Common.{◌≡◌, ℕ, ◌<◌, inl, inr, Bool, true, false, cond, Some, ◌∷◌, refl, sym, ap, subst, ◌∙◌}
use Rattle.std.proofs.Common.{arith}
use Rattle.std.specs.Prelude.{Option, None, nat_lt, ◌==◌, ◌+◌, max}
use Rattle.std.specs.Option.{option_map}
use Rattle.std.proofs.lemmas.Bool.Decides.{nat_tests}
use Rattle.std.proofs.lemmas.Option.{same_Some}
use Rattle.replica.specs.declared.op.TakeFault.TheVariants as take_fault
use Rattle.replica.specs.Op.{OpValue}
use Rattle.replica.specs.Picture.{Replica, Shown, FleetState, shown_of, with_replica}
use Rattle.replica.specs.Registry.{raised, with_least}
use Rattle.replica.specs.Take.{effect, with_effect, taken as fleet_taken, faulted, unanswered}
use Rattle.log_laws.specs.Ops.{op_of}
use Rattle.log_laws.specs.Text.{Replica as ModelReplica}
use Rattle.log_laws.specs.Shown.{Shown as ModelShown, Act, Op, On, Raise, taken, effect as model_effect}
use Rattle.log_laws.specs.Shown.{with_replica as model_with_replica}
use Rattle.log_laws.specs.Runs.{IsFaulted}
use Rattle.log_bytes.specs.Spelled.{spelled_replica, AreSegments, IsSpelled}
use Rattle.log_bytes.specs.Ops.{act_for, log_op_for, TakesOp, RefusesOp}
use Rattle.log_bytes.specs.Laws.{OpIsNeverWrong, TakenIsSpelled, FaultIsSpelled}
use Rattle.log_bytes.proofs.Effects.{effect_spelled, changed_alike}

-- ---- an op of any master

-- the fleet with one op more, which leaves this at its place
abbrev pub given : FleetState → ℕ → OpValue → Option Replica → FleetState
given f b op r = record {
  backups = f.backups;
  picture = with_replica f.picture b op.master op.segment r;
  takes = f.takes + 1;
  end = f.end;
  faults = f.faults;
  least = f.least;
  acks = record { backup = b; op = op } ∷ f.acks;
}

fleet_takes : (f : FleetState) (b : ℕ) (op : OpValue) (r : Option Replica) → b < f.backups
    → effect op.act (f.picture b op.master op.segment) ≡ Some r → fleet_taken f b op ≡ Some (given f b op r)
fleet_takes f b op r lt is =
    let within : nat_lt b f.backups ≡ true = grind (arith, nat_tests) in
    rw within (ap (with_effect f b op) is)

-- What a taken op leaves.
pub record Gives (f : FleetState) (b : ℕ) (op : OpValue) (g : FleetState) : Type 0 where
  pub r : Option Replica
  pub is : effect op.act (f.picture b op.master op.segment) ≡ Some r
  pub same : g ≡ given f b op r

pub fleet_gives : (f : FleetState) (b : ℕ) (op : OpValue) (g : FleetState) → fleet_taken f b op ≡ Some g
    → Gives f b op g
fleet_gives f b op g took = by_test (nat_lt b f.backups) took where
  by_effect : (x : Option (Option Replica)) → effect op.act (f.picture b op.master op.segment) ≡ x
      → with_effect f b op x ≡ Some g → Gives f b op g
  by_effect None is e = absurd (cc)
  by_effect (Some r) is e = record { r = r; is = is; same = sym (same_Some (given f b op r) g e) }

  by_test : (t : Bool)
      → cond t (with_effect f b op (effect op.act (f.picture b op.master op.segment))) None ≡ Some g → Gives f b op g
  by_test false e = absurd (cc)
  by_test true e = by_effect (effect op.act (f.picture b op.master op.segment)) refl e

-- ---- an op of the model

-- what an act that fits in the model leaves
pub record Fitting (p : ModelShown) (b s : ℕ) (act : Act) (q : ModelShown) : Type 0 where
  pub x : Option ModelReplica
  pub is : model_effect act (p.holds b s) ≡ Some x
  pub same : q ≡ record { holds = model_with_replica p.holds b s x; least = p.least }

pub fitting : (p : ModelShown) (b s : ℕ) (act : Act) (q : ModelShown) → taken p (On b s act) ≡ Some q
    → Fitting p b s act q
fitting p b s act q took = go (model_effect act (p.holds b s)) refl took where
  go : (o : Option (Option ModelReplica)) → model_effect act (p.holds b s) ≡ o
      → option_map
      (λ (x : Option ModelReplica). record { holds = model_with_replica p.holds b s x; least = p.least }) o ≡ Some q
      → Fitting p b s act q
  go None is e = absurd (cc)
  go (Some x) is e = record {
    x = x;
    is = is;
    same = sym (same_Some (record { holds = model_with_replica p.holds b s x; least = p.least }) q e);
  }

module _ (master : ℕ) (f : FleetState) (p : ModelShown) (spelled : IsSpelled master (shown_of f master) p) where
  -- the effect on the fleet is the model's, in bytes
  effect_is : (b s : ℕ) (act : Act) → effect (act_for master s act) (f.picture b master s)
      ≡ option_map (λ (o : Option ModelReplica). option_map (spelled_replica master s) o)
      (model_effect act (p.holds b s))
  effect_is b s act =
      ap (effect (act_for master s act)) (spelled.replicas b s) ∙ effect_spelled master s act (p.holds b s)

  on_fits : (b s : ℕ) (act : Act) (q : ModelShown) → taken p (On b s act) ≡ Some q → b < f.backups
      → (g : FleetState) × (fleet_taken f b (op_of master (log_op_for master b s act)) ≡ Some g)
  on_fits b s act q took lt =
      let is = fitting p b s act q took in
      let r = option_map (spelled_replica master s) is.x in (
        given f b (op_of master (log_op_for master b s act)) r,
        fleet_takes f b (op_of master (log_op_for master b s act)) r lt
            (effect_is b s act ∙ ap
            (option_map (λ (o : Option ModelReplica). option_map (spelled_replica master s) o)) is.is),
      )

  -- a replica that was changed as the model says
  changed_is : (b s : ℕ) (act : Act) (g : FleetState) (x : Option ModelReplica)
      → g ≡ given f b (op_of master (log_op_for master b s act)) (option_map (spelled_replica master s) x)
      → AreSegments master (record { holds = model_with_replica p.holds b s x; least = p.least })
      → IsSpelled master (shown_of g master) (record { holds = model_with_replica p.holds b s x; least = p.least })
  changed_is b s act g x same segments = record {
    replicas = λ c t. ap (λ (y : FleetState). y.picture c master t) same
        ∙ changed_alike master f.picture p.holds b s x spelled.replicas c t;
    least = ap (λ (y : FleetState). y.least master) same ∙ spelled.least;
    segments = segments;
  }

  -- What a fleet then spells.
  abbrev Then : Op → FleetState → Type 0
  Then o g = (q : ModelShown) × (taken p o ≡ Some q) × (AreSegments master q → IsSpelled master (shown_of g master) q)

  on_taken : (b s : ℕ) (act : Act) (g : FleetState)
      → fleet_taken f b (op_of master (log_op_for master b s act)) ≡ Some g → Then (On b s act) g
  on_taken b s act g took = go (model_effect act (p.holds b s)) refl where
    gives : Gives f b (op_of master (log_op_for master b s act)) g
    gives = fleet_gives f b (op_of master (log_op_for master b s act)) g took

    spell : Option (Option ModelReplica) → Option (Option Replica)
    spell o = option_map (λ (x : Option ModelReplica). option_map (spelled_replica master s) x) o

    go : (o : Option (Option ModelReplica)) → model_effect act (p.holds b s) ≡ o → Then (On b s act) g
    go None is =
        let never : Some gives.r ≡ None = sym gives.is ∙ effect_is b s act ∙ ap spell is in absurd (cc)
    go (Some x) is =
        let left : option_map (spelled_replica master s) x ≡ gives.r =
        same_Some _ _ (sym (effect_is b s act ∙ ap spell is) ∙ gives.is) in (
          record { holds = model_with_replica p.holds b s x; least = p.least },
          ap (option_map
              (λ (y : Option ModelReplica). record { holds = model_with_replica p.holds b s y; least = p.least })) is,
          changed_is b s act g x
              (gives.same ∙ ap (given f b (op_of master (log_op_for master b s act))) (sym left)),
        )

  raise_taken : (id : ℕ) (g : FleetState) → g ≡ raised f master id → Then (Raise id) g
  raise_taken id g same =
      let itself : (master == master) ≡ true = grind (arith, nat_tests) in
      let least : with_least f.least master id master ≡ max (f.least master) id = rw itself refl in (
        record { holds = p.holds; least = max p.least id },
        refl,
        λ segments. record {
          replicas = λ c t. ap (λ (y : FleetState). y.picture c master t) same ∙ spelled.replicas c t;
          least = ap (λ (y : FleetState). y.least master) same ∙ least ∙ ap (λ (n : ℕ). max n id) spelled.least;
          segments = segments;
        },
      )

  op_taken : (o : Op) (g : FleetState) → TakesOp master f o g → Then o g
  op_taken (On b s act) g took = on_taken b s act g took.1
  op_taken (Raise id) g took = raise_taken id g took.1

  -- What it spells after a fault.
  abbrev After : Op → FleetState → Type 0
  After o g = (q : ModelShown) × IsFaulted p o q × (AreSegments master q → IsSpelled master (shown_of g master) q)

  unchanged_is : (o : Op) (g : FleetState) → g ≡ faulted f → After o g
  unchanged_is o g same =
      (p, inl refl, λ segments. subst (λ (y : FleetState). IsSpelled master (shown_of y master) p) (sym same) spelled)

  -- what was taken and not answered is spelled too
  changed_so : (o : Op) (mid left g : FleetState) → g ≡ left → shown_of left master ≡ shown_of mid master → Then o mid
      → After o g
  changed_so o mid left g same shown then = (
    then.0,
    inr then.1,
    λ segments. subst (λ (y : FleetState). IsSpelled master (shown_of y master) then.0) (sym same)
        (subst (λ (y : Shown). IsSpelled master y then.0) (sym shown) (then.2 segments)),
  )

  op_faulted : (o : Op) (g : FleetState) → RefusesOp master f o take_fault.Fault g → After o g
  op_faulted (On b s act) g (inl same) = unchanged_is (On b s act) g same
  op_faulted (On b s act) g (inr (mid, took, same)) =
      changed_so (On b s act) mid (unanswered f mid) g same refl (on_taken b s act mid took.1)
  op_faulted (Raise id) g (inl same) = unchanged_is (Raise id) g same
  op_faulted (Raise id) g (inr (mid, took, same)) =
      changed_so (Raise id) mid (unanswered f mid) g same refl (raise_taken id mid took.1)

pub op_is_never_wrong : OpIsNeverWrong
op_is_never_wrong master f g p q (On b s act) spelled took lt refused =
    let fits = on_fits master f p spelled b s act q took lt in
    let never : None ≡ Some fits.0 = sym refused.0 ∙ fits.1 in cc
op_is_never_wrong master f g p q (Raise id) spelled took lt refused = refused

pub taken_is_spelled : TakenIsSpelled
taken_is_spelled master f g p o spelled took = op_taken master f p spelled o g took

pub fault_is_spelled : FaultIsSpelled
fault_is_spelled master f g p o spelled refused = op_faulted master f p spelled o g refused
