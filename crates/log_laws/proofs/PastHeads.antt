-- What stays true of the earlier heads through each event.
use Rattle.std.proofs.Common.{◌≡◌, ℕ, suc, ◌<◌, ◌≤◌, ◌⊎◌, inl, inr, Bool, true, false, cond, List, [], ◌∷◌, ◌++◌}
use Rattle.std.proofs.Common.{length, Some, refl, sym, ap, subst, ◌∙◌, arith}
use Rattle.std.specs.Prelude.{None, slice_get, nat_lt}
use Rattle.std.proofs.lemmas.Bool.{cases_eq, lt-ltb, ltb-true}
use Rattle.std.proofs.lemmas.List.{append-nil, map-append, length-map}
use Rattle.std.proofs.lemmas.Grind.{flat_map-append}
use Rattle.std.proofs.lemmas.Option.{same_Some, slice_get_within}
use Rattle.entry.specs.declared.entry.Entry.{Entry}
use Rattle.entry.proofs.BagLemmas.{among_push}
use Rattle.versioned_map.specs.declared.command.Command.{Command}
use Rattle.versioned_map.specs.declared.command.Record.{Record}
use Rattle.versioned_map.specs.History.{commands_of}
use Rattle.versioned_map.specs.Versioned.{State}
use Rattle.log_laws.specs.Heads.{Start, LogUnit}
use Rattle.log_laws.specs.Numbered.{AreNumbered}
use Rattle.log_laws.specs.Ids.{has, without}
use Rattle.log_laws.specs.HeadSteps.{with_unit}
use Rattle.log_laws.proofs.Numbering.{numbered_push, with_later}
use Rattle.log_laws.specs.Shown.{Shown, Op}
use Rattle.log_laws.specs.Data.{Head, Mode, Calm, Rolls, Opens, Closes, Repairs, FailConfig, FailData, homes}
use Rattle.log_laws.specs.Data.{new_of}
use Rattle.log_laws.specs.Durable.{TakenHead, head_now, heads_of, units_in, takers, IsPast, FreshIsPast}
use Rattle.log_laws.specs.Durable.{AdoptedIsPast}
use Rattle.log_laws.specs.Left.{how_many}
use Rattle.log_laws.specs.Log.{IsKept}
use Rattle.log_laws.specs.Runs.{IsNext}
use Rattle.log_laws.specs.Steps.{with_taken, with_count, unit_now, applied, MayApply, rolling, IsRoll, ended}
use Rattle.log_laws.specs.Steps.{EndsRoll, failing, mended, id_taken, IsFree}
use Rattle.log_laws.proofs.Applying as commands
use Rattle.log_laws.proofs.Durable.{number_all}
use Rattle.log_laws.proofs.LeftCounts.{number_fewer}
use Rattle.log_laws.proofs.Lists.{with_taken_other, count_same, count_other, without_has}
use Rattle.log_laws.proofs.NewIds as ids
use Rattle.log_laws.proofs.Rolling as rolls

-- the units of earlier heads, and of the one in force
heads_units : (past : List TakenHead) (h : TakenHead) → units_in (past ++ h ∷ []) ≡ units_in past ++ h.head.units
heads_units past h =
    flat_map-append (λ (x : TakenHead). x.head.units) past (h ∷ [])
    ∙ ap (λ (us : List LogUnit). units_in past ++ us) (append-nil h.head.units)

-- the units of the history are the same, whichever backups took them
units_again : (past : List TakenHead) (g h : TakenHead) (st : State) (cs : List Command) → g.head.units ≡ h.head.units
    → AreNumbered st 0 cs (units_in (past ++ g ∷ [])) → AreNumbered st 0 cs (units_in (past ++ h ∷ []))
units_again past g h st cs same are = subst (AreNumbered st 0 cs)
    (heads_units past g ∙ ap (λ (us : List LogUnit). units_in past ++ us) same ∙ sym (heads_units past h)) are

-- fewer backups, fewer that pass
number_without : (t : ℕ → Bool) (failed bs : List ℕ) → how_many t (without failed bs) ≤ how_many t bs
number_without t failed [] = omega arith
number_without t failed (b ∷ bs) = go (has failed b) (t b) refl (number_without t failed bs) where
  go : (x y : Bool) → t b ≡ y → how_many t (without failed bs) ≤ how_many t bs
      → how_many t (cond x (without failed bs) (b ∷ without failed bs)) ≤ cond y (suc (how_many t bs)) (how_many t bs)
  go true true is le = omega arith
  go true false is le = le
  go false true is le =
      let one = ap (λ (z : Bool). cond z (suc (how_many t (without failed bs))) (how_many t (without failed bs))) is in
      omega arith
  go false false is le =
      let one = ap (λ (z : Bool). cond z (suc (how_many t (without failed bs))) (how_many t (without failed bs))) is in
      omega arith

-- the takers, if the same took it
takers_again : (h : Head) (f g : List ℕ) (counts : ℕ → ℕ) (place : ℕ) → g ≡ f
    → takers (record { head = h; took = f; counts = counts }) place
    ≡ takers (record { head = h; took = g; counts = counts }) place
takers_again h f g counts place same = ap (λ (l : List ℕ). how_many (λ (b : ℕ). nat_lt place (counts b)) l) (sym same)

-- ---- ops

-- an op on other segments, or that only opens, closes or frees
pub same_past : (d e : FailData) (past : List TakenHead) → IsPast d past → e.opening ≡ d.opening
    → e.history ≡ d.history → e.head ≡ d.head → e.config ≡ d.config
    → ((e.mode ≡ Calm) ⊎ (e.mode ≡ Repairs) → (d.mode ≡ Calm) ⊎ (d.mode ≡ Repairs))
    → ((n : Start) → new_of e.mode ≡ Some n → 0 < length (e.took n.id) → (place : ℕ) → place < length d.head.units
    → d.config.replicas ≤ takers (head_now e) place)
    → IsPast e past
same_past d e past is opening history head config calm pushed = record {
  units = subst (λ (st : State). AreNumbered st 0 (commands_of e.history) (units_in (heads_of past e))) (sym opening)
      (subst (λ (rs : List Record). AreNumbered d.opening 0 (commands_of rs) (units_in (heads_of past e))) (sym history)
      (units_again past (head_now d) (head_now e) d.opening (commands_of d.history)
      (sym (ap (λ (h : Head). h.units) head)) is.units));
  whole = λ h place u m at.
      subst (λ (c : FailConfig). c.replicas ≤ takers h place) (sym config) (is.whole h place u m at);
  bare = λ none. ap (λ (h : Head). h.units) head ∙ is.bare (sym (ap (λ (h : Head). h.start.id) head) ∙ none);
  calm = λ mode none. is.calm (calm mode) (sym (ap (λ (h : Head). h.start.id) head) ∙ none);
  pushed = λ n new some place lt.
      subst (λ (c : FailConfig). c.replicas ≤ takers (head_now e) place) (sym config)
      (pushed n new some place (let size = ap (λ (h : Head). length h.units) head in omega arith));
}

-- a segment that no digest names is sealed
pub sealing_past : (d : FailData) (past : List TakenHead) (s b : ℕ) → IsFree d s → IsPast d past
    → IsPast (record d { took = with_taken d.took s b }) past
sealing_past d past s b free is =
    let id = d.head.start.id in
    let took = with_taken d.took s b in
    let x : FailData = record d { took = took } in
    let same = with_taken_other d.took s b id (λ one. free.head (sym one)) in
    same_past d x past is refl refl refl refl (λ mode. mode) (λ n new some place lt.
    let size = ap length (with_taken_other d.took s b n.id (λ one. free.new n (inl new) (sym one))) in
    let old = is.pushed n new (omega arith) place lt in
    let again = takers_again d.head (d.took id) (took id) d.counts place same in omega arith)

pub next_past : (d e : FailData) (p : Shown) (o : Op) (past : List TakenHead) (kept : IsKept d p) → IsPast d past
    → IsNext d kept.texts p o e → IsPast e past
next_past d e p o past kept is (inl op) =
    let counts = with_count d.counts op.b op.to in
    let x : FailData = record d { counts = counts } in
    subst (λ (y : FailData). IsPast y past) (sym op.gives) (same_past d x past is refl refl refl refl (λ mode. mode)
    (λ n new some place lt.
    let old = is.pushed n new some place lt in
    let lags = op.lags in
    let more = number_fewer (λ (b : ℕ). nat_lt place (counts b)) (λ (b : ℕ). nat_lt place (d.counts b))
    (d.took d.head.start.id) (λ c m before. elim (cases_eq c op.b) as (λ _. nat_lt place (counts c) ≡ true) [
      | inl same ↦ (
          let at : counts c ≡ op.to = ap counts same ∙ count_same d.counts op.b op.to in
          let was : d.counts c ≡ d.counts op.b = ap d.counts same in
          let less : place < d.counts c = ltb-true place (d.counts c) before in
          lt-ltb place (counts c) (omega arith))
      | inr other ↦ ap (nat_lt place) (count_other d.counts op.b op.to c other) ∙ before
    ]) in omega arith))
next_past d e p o past kept is (inr (inl op)) =
    let id = d.head.start.id in
    let took = with_taken d.took op.n.id op.b in
    let x : FailData = record d { took = took } in
    let new : new_of d.mode ≡ Some op.n = elim op.mode as (λ _. new_of d.mode ≡ Some op.n) [
      | inl one ↦ ap new_of one
      | inr two ↦ ap new_of two
    ] in
    let apart = kept.held.logged.newer op.n (inl new) in
    let same = with_taken_other d.took op.n.id op.b id (λ one. omega arith) in
    subst (λ (y : FailData). IsPast y past) (sym op.gives) (same_past d x past is refl refl refl refl (λ mode. mode)
    (λ n is_new some place lt. elim op.enough as (λ _. d.config.replicas ≤ takers (head_now x) place) [
      | inl none ↦ (let empty = ap length (is.bare none) in absurd (omega arith))
      | inr enough ↦ (
          let all = number_all (λ (b : ℕ). nat_lt place (d.counts b)) (homes d id) (λ c m.
          let home = without_has d.failed (d.took id) c m in
          let whole = op.whole c home in
          lt-ltb place (d.counts c) (omega arith)) in
          let fewer = number_without (λ (b : ℕ). nat_lt place (d.counts b)) d.failed (d.took id) in
          let again = takers_again d.head (d.took id) (took id) d.counts place same in omega arith)
    ]))
next_past d e p o past kept is (inr (inr (inl op))) =
    subst (λ (y : FailData). IsPast y past) (sym op.gives)
    (same_past d (record d {
      took = with_taken d.took d.head.start.id op.b;
      counts = with_count d.counts op.b (length d.head.units);
    }) past is refl refl refl refl (λ mode. mode) (λ n new some place lt.
    let never : None ≡ Some n = sym (ap new_of op.mode) ∙ new in absurd (cc)))
next_past d e p o past kept is (inr (inr (inr (inl op)))) =
    subst (λ (y : FailData). IsPast y past) (sym op.gives)
    (same_past d (record d { mode = Closes op.n }) past is refl refl refl refl (λ mode. absurd (elim mode as (λ _. ⊥) [
      | inl calm ↦ cc
      | inr repairs ↦ cc
    ])) (λ n new some place lt. is.pushed n (ap new_of op.mode ∙ new) some place lt))
next_past d e p o past kept is (inr (inr (inr (inr (inl op))))) =
    subst (λ (y : FailData). IsPast y past) (sym op.gives)
    (same_past d (record d { shut = op.b ∷ d.shut }) past is refl refl refl refl (λ mode. mode) is.pushed)
next_past d e p o past kept is (inr (inr (inr (inr (inr (inl (op, stand))))))) =
    subst (λ (y : FailData). IsPast y past) (sym op.gives)
    (same_past d (record d { took = with_taken d.took op.s op.b }) past is refl refl refl refl (λ mode. mode)
    (λ n new some place lt. let never : None ≡ Some n = sym (ap new_of op.mode) ∙ new in absurd (cc)))
next_past d e p o past kept is (inr (inr (inr (inr (inr (inr (inl op))))))) =
    subst (λ (y : FailData). IsPast y past) (sym op.gives) (sealing_past d past op.s op.b op.free is)
next_past d e p o past kept is (inr (inr (inr (inr (inr (inr (inr op))))))) =
    subst (λ (y : FailData). IsPast y past) (sym op.gives) is

-- ---- events

pub applied_past : (d : FailData) (p : Shown) (past : List TakenHead) (segment : ℕ) (r : Record) (kept : IsKept d p)
    → MayApply d segment r → IsPast d past → IsPast (applied d segment r) past
applied_past d p past segment r kept may is =
    let e = applied d segment r in
    let unit = unit_now d segment r in
    let total = length d.history in
    let all = units_in (heads_of past d) in
    let count = length-map d.history (λ (x : Record). x.command) in
    let same : with_unit all total unit ≡ units_in (heads_of past e) =
    ap (λ (us : List LogUnit). with_unit us total unit) (heads_units past (head_now d))
    ∙ with_later (units_in past) d.head.units total unit ∙ sym (heads_units past (head_now e)) in
    record {
      units = subst (λ (us : List LogUnit). AreNumbered d.opening 0 (commands_of (d.history ++ r ∷ [])) us) same
          (subst (λ (cs : List Command). AreNumbered d.opening 0 cs (with_unit all total unit))
          (sym (map-append (λ (x : Record). x.command) d.history (r ∷ [])))
          (numbered_push d.opening 0 (commands_of d.history) all segment r.command total (omega arith) is.units));
      whole = is.whole;
      bare = λ none. elim may.calm as (λ _. with_unit d.head.units total unit ≡ []) [
        | inl quiet ↦ ap (λ (u : List Entry). with_unit d.head.units total u) quiet ∙ is.bare none
        | inr calm ↦ absurd (is.calm (inl calm) none)
      ];
      calm = is.calm;
      pushed = λ n new some place lt.
          let t = kept.texts in
          let log = kept.held.logged in
          let mir = kept.held.mirrored in
          let quiet = commands.none_new d t p segment r log mir kept.standing may n (inl new) in
          let size = commands.same_units d t p segment r log mir kept.standing may quiet in
          is.pushed n new some place (omega arith);
    }

end_new : (d : FailData) (n : Start) (mode : Mode) → EndsRoll d n mode → new_of d.mode ≡ Some n
end_new d n mode ends = elim ends.may as (λ _. new_of d.mode ≡ Some n) [
  | inl one ↦ ap new_of one.0
  | inr two ↦ ap new_of two.0
]

end_no_new : (d : FailData) (n : Start) (mode : Mode) → EndsRoll d n mode → (m : Start) → new_of mode ≡ Some m → ⊥
end_no_new d n mode ends m is_new = elim ends.may as (λ _. ⊥) [
  | inl one ↦ (let never : None ≡ Some m = sym (ap new_of one.1) ∙ is_new in cc)
  | inr two ↦ (let never : None ≡ Some m = sym (ap new_of two.1) ∙ is_new in cc)
]

pub end_newer : (d : FailData) (p : Shown) (n : Start) (mode : Mode) (kept : IsKept d p) → EndsRoll d n mode
    → d.head.start.id < n.id
end_newer d p n mode kept ends = kept.held.logged.newer n (inl (end_new d n mode ends))

pub ended_past : (d : FailData) (p : Shown) (past : List TakenHead) (n : Start) (mode : Mode) (kept : IsKept d p)
    → EndsRoll d n mode → IsPast d past → IsPast (ended d n mode) (heads_of past d)
ended_past d p past n mode kept ends is =
    let new = end_new d n mode ends in
    let newer = end_newer d p n mode kept ends in
    let some = kept.held.some in
    let enough = ends.opened in
    record {
      units = subst (AreNumbered d.opening 0 (commands_of d.history))
          (sym (heads_units (heads_of past d) (head_now (ended d n mode)) ∙ append-nil (units_in (heads_of past d))))
          is.units;
      whole = λ h place u m at. elim (among_push h past (head_now d) m) as (λ _. d.config.replicas ≤ takers h place) [
        | inl old ↦ is.whole h place u old at
        | inr same ↦ (
            let here : slice_get d.head.units place ≡ Some u =
            ap (λ (x : TakenHead). slice_get x.head.units place) same ∙ at in
            subst (λ (x : TakenHead). d.config.replicas ≤ takers x place) same
            (is.pushed n new (omega arith) place (slice_get_within d.head.units place u here)))
      ];
      bare = λ none. refl;
      calm = λ _ none. omega arith;
      pushed = λ m is_new. absurd (end_no_new d n mode ends m is_new);
    }

-- so does the first roll's end, with no head before
pub first_past : (d : FailData) (p : Shown) (past : List TakenHead) (n : Start) (mode : Mode) (kept : IsKept d p)
    → EndsRoll d n mode → d.head.start.id ≡ 0 → IsPast d past → IsPast (ended d n mode) past
first_past d p past n mode kept ends none is = record {
  units = units_again past (head_now d) (head_now (ended d n mode)) d.opening (commands_of d.history) (is.bare none)
      is.units;
  whole = is.whole;
  bare = λ same. refl;
  calm = λ at zero. (let newer = end_newer d p n mode kept ends in omega arith);
  pushed = λ m is_new. absurd (end_no_new d n mode ends m is_new);
}

pub rolling_past : (d : FailData) (p : Shown) (past : List TakenHead) (n : Start) (mode : Mode) (kept : IsKept d p)
    → IsRoll d kept.texts p n mode → IsPast d past → IsPast (rolling d n mode) past
rolling_past d p past n mode kept roll is =
    let t = kept.texts in
    let e = rolling d n mode in
    let none = ap length (rolls.none_taken d t p n mode kept.held.logged kept.held.mirrored roll) in
    let new = rolls.mode_new d t p n mode kept.held.logged kept.held.mirrored roll in
    same_past d e past is refl refl refl refl
    (λ at. absurd (elim roll.may as (λ _. ⊥) [
      | inl one ↦ elim at as (λ _. ⊥) [
        | inl calm ↦ (let never : Rolls n ≡ Calm = sym one.1 ∙ calm in cc)
        | inr repairs ↦ (let never : Rolls n ≡ Repairs = sym one.1 ∙ repairs in cc)
      ]
      | inr two ↦ elim at as (λ _. ⊥) [
        | inl calm ↦ (let never : Opens n ≡ Calm = sym two.1 ∙ calm in cc)
        | inr repairs ↦ (let never : Opens n ≡ Repairs = sym two.1 ∙ repairs in cc)
      ]
    ]))
    (λ m is_new some place lt.
    let one = same_Some n m (sym new ∙ is_new) in
    let size = ap (λ (x : Start). length (e.took x.id)) one in absurd (omega arith))

pub id_taken_past : (d : FailData) (p : Shown) (past : List TakenHead) (kept : IsKept d p) → IsPast d past
    → IsPast (id_taken d) past
id_taken_past d p past kept is =
    let t = kept.texts in
    let e = id_taken d in
    let id = d.head.start.id in
    let head = ids.took_other d t p kept.held.logged kept.held.mirrored id
    (ids.head_apart d t p kept.held.logged kept.held.mirrored) in
    same_past d e past is refl refl refl refl (λ mode. mode)
    (λ n new some place lt.
    let below = (kept.held.logged.new n (inl new)).next in
    let size = ap length (ids.took_other d t p kept.held.logged kept.held.mirrored n.id (λ one. omega arith)) in
    let old = is.pushed n new (omega arith) place lt in
    let again = takers_again d.head (d.took id) (e.took id) d.counts place head in omega arith)

pub mended_past : (d : FailData) (past : List TakenHead) → d.mode ≡ Repairs → IsPast d past → IsPast (mended d) past
mended_past d past repairs is =
    same_past d (mended d) past is refl refl refl refl (λ _. inr repairs) (λ n new. absurd (cc))

pub failing_past : (d : FailData) (past : List TakenHead) (b : ℕ) → IsPast d past → IsPast (failing d b) past
failing_past d past b is =
    same_past d (failing d b) past is refl refl refl refl (λ mode. absurd (elim mode as (λ _. ⊥) [
      | inl calm ↦ cc
      | inr repairs ↦ cc
    ])) (λ n new. absurd (cc))

pub adopted_is_past : AdoptedIsPast
adopted_is_past d p st is = record {
  units = refl;
  whole = λ h place u m. absurd m;
  bare = λ none. refl;
  calm = λ mode none. let some = is.some in omega arith;
  pushed = λ n new some place lt. absurd (omega arith);
}

pub fresh_is_past : FreshIsPast
fresh_is_past c = record {
  units = refl;
  whole = λ h place u m. absurd m;
  bare = λ none. refl;
  calm = λ mode. absurd (elim mode as (λ _. ⊥) [ inl calm ↦ cc | inr repairs ↦ cc ]);
  pushed = λ n new some. absurd (omega arith);
}
