-- The head in force is opened whole on another backup, for one that failed.
use Rattle.std.proofs.Common.{◌≡◌, ℕ, ◌<◌, ◌≤◌, ◌⊎◌, inl, inr, true, false, List, ◌∷◌, length, map, Some, refl, sym, ap}
use Rattle.std.proofs.Common.{subst, ◌∙◌, arith}
use Rattle.std.specs.Prelude.{None, IsSome}
use Rattle.std.proofs.lemmas.Bool.{cases_eq}
use Rattle.log_laws.specs.Heads.{Start, fewest}
use Rattle.log_laws.specs.Ids.{has}
use Rattle.log_laws.specs.Text.{Replica}
use Rattle.log_laws.specs.Shown.{Shown, Op, taken}
use Rattle.log_laws.specs.Data.{front, FailData, new_of, is_failing, is_settled, everywhere}
use Rattle.log_laws.specs.Log.{Texts, IsLogged, IsMirrored, IsLogHeld, IsStanding}
use Rattle.log_laws.specs.Steps.{with_taken, with_count, Replaces}
use Rattle.log_laws.specs.Laws.{ReplacesHeld, ReplacesStanding}
use Rattle.log_laws.proofs.Again.{recounted, logged_again, standing_again, mirrored_again}
use Rattle.log_laws.proofs.HeadOps.{head_good}
use Rattle.log_laws.proofs.Lists.{both_ways, is_some, fewest_more, fewest_units, with_taken_same, taken_still}
use Rattle.log_laws.proofs.Lists.{taken_either, taken_longer, count_same, count_other, count_within}
use Rattle.log_laws.proofs.Pictures.{is_taken, opened}
use Rattle.log_laws.proofs.Placing.{other_apart, IsPut, put_there}

module _ (d e : FailData) (texts : Texts) (p q : Shown) (o : Op) (log : IsLogged d texts) (mir : IsMirrored d texts p)
    (op : Replaces d o e) (took : taken p o ≡ Some q) (within : op.b < d.config.backups) where
  abbrev id : ℕ
  id = d.head.start.id

  abbrev b : ℕ
  b = op.b

  abbrev units : ℕ
  units = length d.head.units

  abbrev whole : Replica
  whole = record { text = front d.head units; is_open = true }

  fails : is_failing d.mode ≡ true
  fails = ap is_failing op.mode

  replaced : IsPut d texts b id whole q
  replaced =
      let is = is_taken p q o b id _ op.op took in
      let put = opened (front d.head units) (p.holds b id) is.x is.given in
      put_there d texts p q b id _ whole mir is put.1 (head_good d texts p log mir b whole within (record {
        k = units;
        within = omega arith;
        text = refl;
        reach = inr (refl, fails);
        shut = λ never. absurd (cc);
      }) (λ shut. absurd (both_ways (has d.shut b) shut op.unshut)))

  abbrev counts : ℕ → ℕ
  counts = with_count d.counts b units

  abbrev took_now : ℕ → List ℕ
  took_now = with_taken d.took id b

  -- at another segment nobody else took anything
  same_other : (s c : ℕ) → (s ≡ id → ⊥) → has (took_now s) c ≡ true → has (d.took s) c ≡ true
  same_other s c other is = elim (taken_either d.took id b s c is) as (λ _. has (d.took s) c ≡ true) [
    | inl at ↦ absurd (other at.0)
    | inr old ↦ old
  ]

  never_settled : is_settled d.mode ≡ true → ⊥
  never_settled is = let no_way : false ≡ true = sym (ap is_settled op.mode) ∙ is in cc

  never_new : (n : Start) → new_of d.mode ≡ Some n → ⊥
  never_new n is = let no_way : None ≡ Some n = sym (ap new_of op.mode) ∙ is in cc

  replaced_known : IsMirrored (recounted d counts d.shut took_now) texts q
  replaced_known =
      let mirror = replaced.mirrored in
      mirrored_again d texts q counts d.shut took_now log mirror (record {
        longer = λ s. taken_longer d.took id b s;
        reach = λ c r there h. elim h.reach as (λ _. ((has (took_now id) c ≡ true) × (counts c ≤ h.k))
            ⊎ ((h.k ≡ units) × (is_failing d.mode ≡ true))) [
              | inl took_it ↦ (
                  let other : c ≡ b → ⊥ =
                  λ same. both_ways (has (d.took id) b) (ap (has (d.took id)) (sym same) ∙ took_it.0) op.apart in
                  let same = count_other d.counts b units c other in
                  let le = took_it.1 in
                  inl (taken_still d.took id b id c took_it.0, omega arith))
              | inr all ↦ inr all
            ];
        head = λ c is. elim (taken_either d.took id b id c is) as (λ _. IsSome (q.holds c id)) [
          | inl at ↦ is_some (q.holds c id) whole (ap (λ (x : ℕ). q.holds x id) at.1 ∙ replaced.there)
          | inr old ↦ mirror.head c old
        ];
        new = λ n c is_new is.
            mirror.new n c is_new (same_other n.id c (λ same. let newer = log.newer n is_new in omega arith) is);
        others = λ s c other is works.
            mirror.others s c other (same_other s c (other_apart d texts log s other) is, works);
        whole = λ n c f is_new some is works. elim (cases_eq f b) as (λ _. counts f ≡ units) [
          | inl same ↦ ap counts same ∙ count_same d.counts b units
          | inr other ↦ elim (taken_either d.took id b id f is) as (λ _. counts f ≡ units) [
            | inl at ↦ absurd (other at.1)
            | inr old ↦ count_other d.counts b units f other ∙ mirror.whole n c f is_new some (old, works)
          ]
        ];
        is_shut = mirror.shut;
        homes = λ is. absurd (never_settled is);
        new_homes = λ n c is. absurd (never_new n is);
      })

  grows : everywhere d ≤ everywhere (recounted d counts d.shut took_now)
  grows =
      let one = with_taken_same d.took id b in
      let first = count_same d.counts b units in
      let rest = fewest_more units units d.counts counts (d.took id) (omega arith) (λ c is.
      let other : c ≡ b → ⊥ =
      λ same. both_ways (has (d.took id) b) (ap (has (d.took id)) (sym same) ∙ is) op.apart in
      let same = count_other d.counts b units c other in omega arith) in
      let below = fewest_units units counts (d.took id) in
      let list : fewest units (map counts (took_now id)) ≡ fewest units (map counts (b ∷ d.took id)) =
      ap (λ (l : List ℕ). fewest units (map counts l)) one in omega arith

-- a replacement that is opened, whether the master knows it or not
pub replaces_held : ReplacesHeld
replaces_held d e texts p q o held op within took =
    let counts = with_count d.counts op.b (length d.head.units) in
    let took_now = with_taken d.took d.head.start.id op.b in (
      record {
        some = held.some;
        logged = held.logged;
        mirrored = (replaced d e texts p q o held.logged held.mirrored op took within).mirrored;
      },
      subst (λ (x : FailData). IsLogHeld x texts q) (sym op.gives) (record {
        some = held.some;
        logged = logged_again d texts counts d.shut took_now held.logged
            (count_within d.counts op.b (length d.head.units) (length d.head.units) (omega arith) held.logged.counted);
        mirrored = replaced_known d e texts p q o held.logged held.mirrored op took within;
      }),
    )

pub replaces_standing : ReplacesStanding
replaces_standing d e texts p q o held standing op within took =
    let counts = with_count d.counts op.b (length d.head.units) in
    let took_now = with_taken d.took d.head.start.id op.b in
    subst (λ (x : FailData). IsStanding x texts) (sym op.gives)
    (standing_again d texts counts d.shut took_now standing
    (grows d e texts p q o held.logged held.mirrored op took within))
