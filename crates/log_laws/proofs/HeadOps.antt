-- Ops on the head in force: its next units, a replacement, its closing.
use Rattle.std.proofs.Common.{◌≡◌, ℕ, zero, suc, ◌<◌, ◌≤◌, ◌⊎◌, inl, inr, true, false, List, [], ◌∷◌, ◌++◌, length}
use Rattle.std.proofs.Common.{take, drop, Some, refl, sym, ap, subst, ◌∙◌, arith, append_assoc}
use Rattle.std.specs.Prelude.{Option}
use Rattle.std.proofs.lemmas.Bool.{cases_lt, cases_eq}
use Rattle.std.proofs.lemmas.Option.{same_Some}
use Rattle.std.proofs.lemmas.List.{take-append-drop}
use Rattle.std.proofs.lemmas.Grind.{flat_map-append}
use Rattle.entry.specs.declared.entry.Entry.{Entry}
use Rattle.log_laws.specs.Heads.{LogUnit, entries_of}
use Rattle.log_laws.specs.Ids.{has}
use Rattle.log_laws.specs.HeadSteps.{units_between}
use Rattle.log_laws.specs.Text.{Text, Replica, length_of}
use Rattle.log_laws.specs.Shown.{Shown, Op, taken, with_replica}
use Rattle.log_laws.specs.Data.{front, front_entries, FailData, IsHome, is_failing, everywhere}
use Rattle.log_laws.specs.Log.{Texts, IsLogged, IsHeadReplica, IsMirrored, IsLogHeld, IsStanding}
use Rattle.log_laws.specs.Laws.{ExtendsHeld, ExtendsStanding, ExtendHandsOver}
use Rattle.log_laws.specs.Steps.{with_count, Extends}
use Rattle.log_laws.proofs.Again.{recounted, logged_again, standing_again, mirrored_again}
use Rattle.log_laws.proofs.Lists.{both_ways, front_shorter, fewest_more, count_same, count_other, count_within}
use Rattle.log_laws.proofs.Pictures.{is_taken, changed, extended}
use Rattle.log_laws.proofs.Placing.{IsGood, other_apart, placed_mirrored}
use Rattle.log_laws.proofs.Replicas.{head_only}

module _ (d : FailData) (texts : Texts) (p : Shown) (log : IsLogged d texts) (mir : IsMirrored d texts p) where
  abbrev id : ℕ
  id = d.head.start.id

  -- a replica that is put at the head's place
  pub head_good : (b : ℕ) (r : Replica) → b < d.config.backups → IsHeadReplica d b r
      → (has d.shut b ≡ true → r.is_open ≡ false) → IsGood d texts p b id r
  head_good b r bounded is shut = record {
    bounded = bounded;
    is = inl (refl, is);
    new = λ n is_new same. let newer = log.newer n is_new in absurd (omega arith);
    other = λ other _. absurd (other_apart d texts log id other refl);
    shut = λ _ at. shut at;
  }

  -- fronts of one length are one
  pub front_one : (k j : ℕ) → k ≤ length d.head.units → j ≤ length d.head.units
      → length_of (front d.head k) ≡ length_of (front d.head j) → k ≡ j
  front_one k j le at same = elim (cases_lt k j) as (λ _. k ≡ j) [
    | inl lt ↦ (let less = front_shorter d.head k j log.some lt at in absurd (omega arith))
    | inr ge ↦ elim (cases_lt j k) as (λ _. k ≡ j) [
      | inl lt ↦ (let less = front_shorter d.head j k log.some lt le in absurd (omega arith))
      | inr more ↦ omega arith
    ]
  ]

  -- ---- an Extend

  take_less : (from to : ℕ) (us : List LogUnit) → from ≤ to → take from (take to us) ≡ take from us
  take_less zero to us le = refl
  take_less (suc from) zero us le = absurd (omega arith)
  take_less (suc from) (suc to) [] le = refl
  take_less (suc from) (suc to) (u ∷ us) le =
      ap (λ (l : List LogUnit). u ∷ l) (take_less from to us (omega arith))

  pub up_to : (from to : ℕ) → from ≤ to
      → entries_of (take from d.head.units) ++ entries_of (units_between d.head.units from to)
      ≡ entries_of (take to d.head.units)
  up_to from to le =
      ap (λ (us : List LogUnit). entries_of us ++ entries_of (units_between d.head.units from to))
      (sym (take_less from to d.head.units le))
      ∙ sym (flat_map-append (λ (u : LogUnit). u.entries) (take from (take to d.head.units))
      (drop from (take to d.head.units)))
      ∙ ap entries_of (take-append-drop from (take to d.head.units))

  -- what an Extend leaves on its backup
  pub record Longer (b to : ℕ) (q : Shown) : Type 0 where
    pub mirrored : IsMirrored d texts q
    pub there : q.holds b id ≡ Some (record { text = front d.head to; is_open = true })

  module _ (o : Op) (e : FailData) (q : Shown) (op : Extends d o e) (took : taken p o ≡ Some q) where
    pub extend_longer : Longer op.b op.to q
    extend_longer =
        let is = is_taken p q o op.b id _ op.op took in
        let was = extended _ _ (p.holds op.b id) is.x is.given in
        let lags = op.lags in
        let within = op.within in
        let old = head_only d texts p log mir op.b was.was.r was.was.had in
        let k_is : d.counts op.b ≡ old.k =
        front_one (d.counts op.b) old.k (omega arith) old.within (was.size ∙ ap length_of old.text) in
        let r : Replica = record { text = front d.head op.to; is_open = true } in
        let more = entries_of (units_between d.head.units (d.counts op.b) op.to) in
        let entries : was.was.r.text.entries ++ more ≡ front_entries d.head op.to =
        ap (λ (t : Text). t.entries ++ more) (old.text ∙ ap (front d.head) (sym k_is))
        ∙ append_assoc d.head.loaded (entries_of (take (d.counts op.b) d.head.units)) more
        ∙ ap (λ (es : List Entry). d.head.loaded ++ es) (up_to (d.counts op.b) op.to (omega arith)) in
        let same : is.x ≡ Some r =
        was.was.now ∙ ap (λ (t : Text). Some (record { text = t; is_open = true }))
        (λ i. record { opening = ap (λ (t : Text). t.opening) old.text i; entries = entries i }) in
        let good = head_good op.b r (mir.bounded op.b id was.was.r was.was.had) (record {
          k = op.to;
          within = op.within;
          text = refl;
          reach = inl (op.home.0, omega arith);
          shut = λ never. absurd (cc);
        }) (λ shut. absurd (both_ways was.was.r.is_open was.was.was (mir.shut op.b was.was.r shut was.was.had))) in
        let q_is : q ≡ record { holds = with_replica p.holds op.b id (Some r); least = p.least } =
        is.same
        ∙ ap (λ (x : Option Replica). record { holds = with_replica p.holds op.b id x; least = p.least }) same in
        record {
          mirrored = subst (IsMirrored d texts) (sym q_is) (placed_mirrored d texts p mir op.b id r good);
          there = ap (λ (w : Shown). w.holds op.b id) q_is ∙ changed p.holds op.b id (Some r);
        }

  -- ---- what the master knows of it

  module _ (b to : ℕ) (q : Shown) (longer : Longer b to q) (home : IsHome d id b) (lags : d.counts b < to)
      (within : to ≤ length d.head.units) where
    abbrev counts : ℕ → ℕ
    counts = with_count d.counts b to

    count_reach : (c : ℕ) (r : Replica) → q.holds c id ≡ Some r → (h : IsHeadReplica d c r)
        → ((has (d.took id) c ≡ true) × (counts c ≤ h.k)) ⊎ ((h.k ≡ length d.head.units) × (is_failing d.mode ≡ true))
    count_reach c r there h = elim (cases_eq c b)
        as (λ _. ((has (d.took id) c ≡ true) × (counts c ≤ h.k))
        ⊎ ((h.k ≡ length d.head.units) × (is_failing d.mode ≡ true))) [
          | inl same ↦ (
              let at : Some r ≡ Some (record { text = front d.head to; is_open = true }) =
              sym there ∙ ap (λ (x : ℕ). q.holds x id) same ∙ longer.there in
              let text : r.text ≡ front d.head to = ap (λ (x : Replica). x.text) (same_Some _ _ at) in
              let k_is : h.k ≡ to = front_one h.k to h.within within (ap length_of (sym h.text ∙ text)) in
              let count : counts c ≡ to = ap counts same ∙ count_same d.counts b to in
              inl (ap (has (d.took id)) same ∙ home.0, omega arith))
          | inr other ↦ elim h.reach as (λ _. ((has (d.took id) c ≡ true) × (counts c ≤ h.k))
              ⊎ ((h.k ≡ length d.head.units) × (is_failing d.mode ≡ true))) [
                | inl took ↦ (let same = count_other d.counts b to c other in let le = took.1 in
                    inl (took.0, omega arith))
                | inr all ↦ inr all
              ]
        ]

    count_known : IsMirrored (recounted d counts d.shut d.took) texts q
    count_known =
        let mirror = longer.mirrored in
        mirrored_again d texts q counts d.shut d.took log mirror (record {
          longer = λ s. omega arith;
          reach = count_reach;
          head = mirror.head;
          new = mirror.new;
          others = λ s c other took works. mirror.others s c other (took, works);
          whole = λ n c f is_new some took works.
              let at_b = mirror.whole n c b is_new some home in absurd (omega arith);
          is_shut = mirror.shut;
          homes = mirror.homes;
          new_homes = mirror.new_homes;
        })

    pub everywhere_grows : everywhere d ≤ everywhere (recounted d counts d.shut d.took)
    everywhere_grows =
        fewest_more (length d.head.units) (length d.head.units) d.counts counts (d.took id) (omega arith)
        (λ c took. elim (cases_eq c b) as (λ _. d.counts c ≤ counts c) [
          | inl same ↦ (
              let one = ap d.counts same in
              let two : counts c ≡ to = ap counts same ∙ count_same d.counts b to in omega arith)
          | inr other ↦ (let same = count_other d.counts b to c other in omega arith)
        ])

-- an Extend that is taken, whether the master knows it or not
pub extends_held : ExtendsHeld
extends_held d e texts p q o held op took =
    let longer = extend_longer d texts p held.logged held.mirrored o e q op took in
    let counts = with_count d.counts op.b op.to in (
      record { some = held.some; logged = held.logged; mirrored = longer.mirrored },
      subst (λ (x : FailData). IsLogHeld x texts q) (sym op.gives) (record {
        some = held.some;
        logged = logged_again d texts counts d.shut d.took held.logged
            (count_within d.counts op.b op.to (length d.head.units) op.within held.logged.counted);
        mirrored = count_known d texts p held.logged held.mirrored op.b op.to q longer op.home op.lags op.within;
      }),
    )

pub extends_standing : ExtendsStanding
extends_standing d e texts p q o held standing op took =
    let longer = extend_longer d texts p held.logged held.mirrored o e q op took in
    subst (λ (x : FailData). IsStanding x texts) (sym op.gives)
    (standing_again d texts (with_count d.counts op.b op.to) d.shut d.took standing
    (everywhere_grows d texts p held.logged held.mirrored op.b op.to q longer op.home op.lags op.within))

-- it hands over whole units
pub extend_hands_over : ExtendHandsOver
extend_hands_over d e texts p q o held op took r s had has_now =
    let is = is_taken p q o op.b d.head.start.id _ op.op took in
    let was = extended _ _ (p.holds op.b d.head.start.id) is.x is.given in
    let lags = op.lags in
    let within = op.within in
    let old = head_only d texts p held.logged held.mirrored op.b r had in
    let one : was.was.r ≡ r = same_Some _ r (sym was.was.had ∙ had) in
    let size : d.counts op.b ≡ old.k =
    front_one d texts p held.logged held.mirrored (d.counts op.b) old.k (omega arith) old.within
    (was.size ∙ ap (λ (x : Replica). length_of x.text) one ∙ ap length_of old.text) in
    let longer = extend_longer d texts p held.logged held.mirrored o e q op took in (
      old.text ∙ ap (front d.head) (sym size),
      ap (λ (x : Replica). x.text) (same_Some s _ (sym has_now ∙ longer.there)),
    )
