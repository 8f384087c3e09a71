-- What a life and the next master's begin leave of the fleet, and that lives follow one another.
use Rattle.std.proofs.Common.{◌≡◌, ℕ, suc, ◌+◌, ◌<◌, inl, inr, Bool, true, false, List, [], ◌∷◌, ◌++◌, length}
use Rattle.std.proofs.Common.{take, drop, refl, sym, ap, subst, ◌∙◌, arith, get_or, drop-cons}
use Rattle.std.proofs.Math.Seq.{take-suc}
use Rattle.std.proofs.lemmas.List.{take-append-drop}
use Rattle.std.specs.Prelude.{Option, Some, None, Result, Ok, Err, nat_lt, if◌then◌else◌}
use Rattle.std.proofs.lemmas.Option.{same_Some}
use Rattle.entry.specs.Meaning.{contents_of}
use Rattle.versioned_map.specs.Versioned.{State}
use Rattle.replica.specs.declared.op.TakeFault.{TakeFault}
use Rattle.replica.specs.declared.op.TakeFault.TheVariants as take_fault
use Rattle.replica.specs.declared.spot.Spot.{Spot}
use Rattle.replica.specs.Op.{Free}
use Rattle.replica.specs.Picture.{Replica, FleetState, is_same_place}
use Rattle.replica.specs.Take.{effect, with_effect, Takes, Refuses}
use Rattle.replica.specs.Retire.{freeing, TakesEach, Retires}
use Rattle.replica.proofs.Retiring.{retire_spares}
use Rattle.replay.specs.Adopting.{IsAdoptedOn}
use Rattle.replay.specs.master.master_state.declared.config.Config.{Config}
use Rattle.replay.specs.master.master_state.declared.step.Refusal.{Refusal}
use Rattle.replay.specs.master.master_state.declared.step.Step.{Step}
use Rattle.replay.specs.master.master_state.declared.step.StepAnswer.{StepAnswer}
use Rattle.replay.specs.master.master_state.Data.{Origin}
use Rattle.replay.specs.master.master_state.Log.{opening_of}
use Rattle.replay.specs.master.Steps.{IsRun}
use Rattle.replay.specs.master.World.{MasterValue, World, world}
use Rattle.replay.proofs.of_master.Unraised.{above_on}
use Rattle.recovery.specs.declared.succession.Course.{Course}
use Rattle.recovery.specs.declared.succession.Lived.{Lived}
use Rattle.recovery.specs.declared.succession.End.{End}
use Rattle.recovery.specs.declared.succession.End.TheVariants as the_end
use Rattle.recovery.proofs.Heading.{origin_keeps}
use Rattle.recovery.specs.Lives.{taken_over}
use Rattle.recovery.specs.Succession.{IsNewest, IsLived, AreLived, IsLast, AreDrilled, DrilledAreLives}

-- no replica of another master changes
pub run_others : (old new : World) (steps : List Step) (answers : List (Result StepAnswer Refusal))
    → IsRun old steps answers new → (b m s : ℕ) → (m ≡ old.knows.config.master → ⊥)
    → new.fleet.picture b m s ≡ old.fleet.picture b m s
run_others old new [] [] run b m s other = ap (λ (w : World). w.fleet.picture b m s) run
run_others old new [] (a ∷ rest) run b m s other = absurd run
run_others old new (s ∷ ss) [] run b m t other = absurd run
run_others old new (s ∷ ss) (a ∷ rest) run b m t other =
    let same : run.0.knows.config.master ≡ old.knows.config.master =
    ap (λ (c : Config). c.master) run.2.keeps.config in
    run_others run.0 new ss rest run.3 b m t (λ is. other (is ∙ same)) ∙ run.2.keeps.others b m t other

-- no least head of another master is raised
run_least : (old new : World) (steps : List Step) (answers : List (Result StepAnswer Refusal))
    → IsRun old steps answers new → (m : ℕ) → (m ≡ old.knows.config.master → ⊥) → new.fleet.least m ≡ old.fleet.least m
run_least old new [] [] run m other = ap (λ (w : World). w.fleet.least m) run
run_least old new [] (a ∷ rest) run m other = absurd run
run_least old new (s ∷ ss) [] run m other = absurd run
run_least old new (s ∷ ss) (a ∷ rest) run m other =
    let same : run.0.knows.config.master ≡ old.knows.config.master =
    ap (λ (c : Config). c.master) run.2.keeps.config in
    run_least run.0 new ss rest run.3 m (λ is. other (is ∙ same)) ∙ run.2.keeps.least m other

pub run_newest : (old new : World) (steps : List Step) (answers : List (Result StepAnswer Refusal)) (left : FleetState)
    → IsRun old steps answers new → left ≡ new.fleet → IsNewest old.knows.config.master old.fleet
    → IsNewest old.knows.config.master left
run_newest old new steps answers left run same newest = record {
  held = λ b m s above. ap (λ (f : FleetState). f.picture b m s) same
      ∙ run_others old new steps answers run b m s (λ is. absurd (omega (arith, is, above)))
      ∙ newest.held b m s above;
  least = above_on old.knows.config.master old.fleet left
      (λ m other. ap (λ (f : FleetState). f.least m) same ∙ run_least old new steps answers run m other) newest.least;
}

-- ---- replicas that are freed

module _ (b m s : ℕ) where
  abbrev IsFreeOn : FleetState → Type 0
  IsFreeOn f = f.picture b m s ≡ None

  if_none : (t : Bool) (o : Option Replica) → o ≡ None → (if t then None else o) ≡ None
  if_none true o is = refl
  if_none false o is = is

  free_leaves : (f g : FleetState) (x : Spot) → Takes f x.backup (freeing x) g → IsFreeOn f → IsFreeOn g
  free_leaves f g x takes none = go (nat_lt x.backup f.backups) (f.picture x.backup x.master x.segment) takes.1 where
    go : (t : Bool) (o : Option Replica)
        → (if t then with_effect f x.backup (freeing x) (effect Free o) else None) ≡ Some g → IsFreeOn g
    go true None e = absurd (cc)
    go true (Some r) e =
        subst IsFreeOn (same_Some _ g e)
        (if_none (is_same_place x.backup x.master x.segment b m s) (f.picture b m s) none)
    go false o e = absurd (cc)

  each_leaves : (f g : FleetState) (xs : List Spot) → TakesEach f xs g → IsFreeOn f → IsFreeOn g
  each_leaves f g [] each none = subst IsFreeOn (sym each) none
  each_leaves f g (x ∷ xs) each none = each_leaves each.0 g xs each.2 (free_leaves f each.0 x each.1 none)

  refused_leaves : (f g : FleetState) (x : Spot) (fault : TakeFault) → Refuses f x.backup (freeing x) fault g
      → IsFreeOn f → IsFreeOn g
  refused_leaves f g x take_fault.NoMemory is none = subst IsFreeOn (sym is) none
  refused_leaves f g x take_fault.Wrong is none = subst IsFreeOn (sym is.1) none
  refused_leaves f g x take_fault.Fault (inl is) none = subst IsFreeOn (sym is) none
  refused_leaves f g x take_fault.Fault (inr took) none =
      subst IsFreeOn (sym took.2) (free_leaves f took.0 x took.1 none)
  refused_leaves f g x take_fault.Spent is none = subst IsFreeOn (sym is.1) none

  -- a replica that is not there does not come
  retire_leaves : (f g : FleetState) (keep : ℕ) (result : Result Unit TakeFault) → Retires f keep result g
      → IsFreeOn f → IsFreeOn g
  retire_leaves f g keep (Ok u) (spots, others, freed) none = each_leaves f g spots freed.each none
  retire_leaves f g keep (Err why) (inl (spots, others, ends)) none =
      refused_leaves ends.mid g ends.next why ends.refused (each_leaves f ends.mid ends.front ends.freed.each none)
  retire_leaves f g keep (Err why) (inr is) none = subst IsFreeOn (sym is.1) none

pub next_newest : (n : ℕ) (left taken new : FleetState) (result : Result Unit TakeFault)
    → IsNewest n left → IsAdoptedOn (suc n) left taken → Retires taken (suc n) result new
    → IsNewest (suc n) new
next_newest n left taken new result newest on retires = record {
  held = λ b m s above. retire_leaves b m s taken new (suc n) result retires
      (on.others b m s (λ is. absurd (omega (arith, is, above))) ∙ newest.held b m s (omega (arith, above)));
  least = λ m above. ap (λ (h : ℕ → ℕ). h m) (retire_spares taken new (suc n) result retires).least
      ∙ on.least m (λ is. absurd (omega (arith, is, above))) ∙ newest.least m (omega (arith, above));
}

-- ---- lives

one_more : (start mid last : World) (cs : List Course) (ls : List Lived) (c : Course) (l : Lived)
    → AreLived start cs ls mid → IsLived mid c l last → AreLived start (cs ++ c ∷ []) (ls ++ l ∷ []) last
one_more start mid last [] [] c l are is = (last, subst (λ (w : World). IsLived w c l last) are is, refl)
one_more start mid last [] (k ∷ ls) c l are is = absurd are
one_more start mid last (d ∷ cs) [] c l are is = absurd are
one_more start mid last (d ∷ cs) (k ∷ ls) c l are is =
    (are.0, are.1, one_more are.0 mid last cs ls c l are.2 is)

pub lived_more : (start mid last : World) (cs : List Course) (ls more : List Lived) (c : Course) (l : Lived)
    → more ≡ ls ++ l ∷ [] → AreLived start cs ls mid → IsLived mid c l last → AreLived start (cs ++ c ∷ []) more last
lived_more start mid last cs ls more c l same are is =
    subst (λ (xs : List Lived). AreLived start (cs ++ c ∷ []) xs last) (sym same)
    (one_more start mid last cs ls c l are is)

-- one more of a list's first ones
course_at : (cs : List Course) (i : ℕ) (c : Course) → i < length cs → c ≡ get_or cs i c
    → take (i + 1) cs ≡ take i cs ++ c ∷ []
course_at cs i c lt is =
    let one : i + 1 ≡ suc i = omega arith in
    ap (λ (n : ℕ). take n cs) one ∙ take-suc cs i c lt ∙ ap (λ (x : Course). take i cs ++ x ∷ []) (sym is)

rest_at : (cs : List Course) (i : ℕ) (c : Course) → i < length cs → c ≡ get_or cs i c
    → cs ≡ take i cs ++ c ∷ drop (suc i) cs
rest_at cs i c lt is =
    sym (take-append-drop i cs) ∙ ap (λ (xs : List Course). take i cs ++ xs) (drop-cons cs i c lt)
    ∙ ap (λ (x : Course). take i cs ++ x ∷ drop (suc i) cs) (sym is)

pub lived_further : (start mid last : World) (cs : List Course) (i : ℕ) (ls more : List Lived) (c : Course) (l : Lived)
    → i < length cs → c ≡ get_or cs i c → more ≡ ls ++ l ∷ [] → AreLived start (take i cs) ls mid
    → IsLived mid c l last → AreLived start (take (i + 1) cs) more last
lived_further start mid last cs i ls more c l lt at same are is =
    subst (λ (xs : List Course). AreLived start xs more last) (sym (course_at cs i c lt at))
    (lived_more start mid last (take i cs) ls more c l same are is)

-- it ends in a life
pub drilled_to : {F : Type 0} (state : F → FleetState) (start mid : World) (cs : List Course) (i : ℕ) (c : Course)
    (ls : List Lived) (e : End F) → i < length cs → c ≡ get_or cs i c → AreLived start (take i cs) ls mid
    → IsLast state mid c e → AreDrilled state start cs ls e
drilled_to state start mid cs i c ls e lt at are is = record {
  done = take i cs;
  rest = c ∷ drop (suc i) cs;
  parts = rest_at cs i c lt at;
  last = mid;
  lives = are;
  ends = is;
}

-- there was no memory to begin with
pub drilled_none : {F : Type 0} (state : F → FleetState) (cs : List Course) (m : MasterValue F)
    → (length cs ≡ 0 → false ≡ true) → AreDrilled state (world state m) cs [] (the_end.NoMemory m)
drilled_none state [] m never = let e : false ≡ true = never refl in absurd (cc)
drilled_none state (c ∷ cs) m never = record {
  done = [];
  rest = c ∷ cs;
  parts = refl;
  last = world state m;
  lives = refl;
  ends = refl;
}

abbrev state_with : Origin → State
state_with o = record { contents = contents_of o.objects; safe = o.safe }

pub drilled_are_lives : DrilledAreLives
drilled_are_lives start [] [] last are steps answers now run = tt
drilled_are_lives start [] (l ∷ ls) last are steps answers now run = absurd are
drilled_are_lives start (c ∷ cs) [] last are steps answers now run = absurd are
drilled_are_lives start (c ∷ []) (l ∷ []) last are steps answers now run = (opening, tt)
  where
    opening : opening_of now.knows ≡ taken_over l.recovered
    opening =
        ap state_with (origin_keeps last now steps answers run ∙ ap (λ (w : World). w.knows.origin) are.2)
        ∙ are.1.succeeds.adopted.opening
drilled_are_lives start (c ∷ []) (l ∷ k ∷ ls) last are steps answers now run = absurd are.2
drilled_are_lives start (c ∷ d ∷ cs) (l ∷ []) last are steps answers now run = absurd are.2
drilled_are_lives start (c ∷ d ∷ cs) (l ∷ k ∷ ls) last are steps answers now run = (
  opening,
  drilled_are_lives are.0 (d ∷ cs) (k ∷ ls) last are.2 steps answers now run,
)
  where
    opening : opening_of are.2.1.drill.stop.knows ≡ taken_over l.recovered
    opening =
        ap state_with (origin_keeps are.0 are.2.1.drill.stop d.steps.items k.answers.items are.2.1.drill.run)
        ∙ are.1.succeeds.adopted.opening
