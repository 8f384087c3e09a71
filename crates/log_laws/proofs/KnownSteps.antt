-- A master that knows what is held also knows it after commands, rolls and the end of a failover.
use Rattle.std.proofs.Common.{◌≡◌, ℕ, ◌≤◌, ◌⊎◌, inl, inr, false, List, ◌++◌, length, Some, refl, sym, ap, subst, ◌∙◌}
use Rattle.std.proofs.Common.{arith}
use Rattle.std.specs.Prelude.{None, ◌==◌}
use Rattle.std.proofs.lemmas.Bool.{cases_eq}
use Rattle.std.proofs.lemmas.Bool.Decides.{nat_tests}
use Rattle.std.proofs.lemmas.Option.{same_Some}
use Rattle.log_laws.specs.Heads.{Start, LogUnit, entries_of}
use Rattle.log_laws.specs.Ids.{has}
use Rattle.log_laws.proofs.Fronts.{unit_front}
use Rattle.log_laws.proofs.IdLists.{is_none}
use Rattle.log_laws.specs.Text.{Replica}
use Rattle.log_laws.specs.Shown.{Shown}
use Rattle.log_laws.specs.Data.{opening_for, bare_replica, Mode, Calm, Rolls, Mends, Opens, Repairs, FailData}
use Rattle.log_laws.specs.Data.{new_of}
use Rattle.log_laws.specs.Log.{Texts, IsLogHeld}
use Rattle.log_laws.specs.Steps.{rolling, id_taken, IsKnown}
use Rattle.log_laws.specs.Laws.{AppendedKnown, RollingKnown, EndingKnown, MendedKnown, IdTakenKnown}
use Rattle.log_laws.proofs.Replicas.{next_of}

-- nothing is held of an id that isn't used
nothing : (d : FailData) (texts : Texts) (p : Shown) → IsLogHeld d texts p → (b s : ℕ) → d.next ≤ s
    → p.holds b s ≡ None
nothing d texts p held b s le = is_none (p.holds b s) (λ r there.
    let lt = next_of d texts held.logged p.least b s r (held.mirrored.each b s r there) in omega arith)

pub appended_known : AppendedKnown
appended_known d texts p history unit held known = record {
  absent = known.absent;
  new = known.new;
  head = known.head;
  exact = λ b x home there.
      let old = known.exact b x home there in (
        old.0 ∙ ap (λ (us : List LogUnit). record {
          opening = Some (opening_for d.head.start);
          entries = d.head.loaded ++ entries_of us;
        }) (sym (unit_front d.head.units (length d.history) unit (d.counts b) (held.logged.counted b))),
        old.1,
      );
}

-- who hadn't taken a segment still hasn't, but for one of which nothing is held
absent_then : (d : FailData) (texts : Texts) (p : Shown) → IsLogHeld d texts p → IsKnown d p → (id : ℕ)
    → d.next ≤ id → (took : ℕ → List ℕ)
    → ((s : ℕ) → (s ≡ id → ⊥) → took s ≡ d.took s) → (b s : ℕ) → has d.failed b ≡ false → has (took s) b ≡ false
    → p.holds b s ≡ None
absent_then d texts p held known id le took same b s ok away = elim (cases_eq s id) as (λ _. p.holds b s ≡ None) [
  | inl is ↦ nothing d texts p held b s (omega arith)
  | inr other ↦ known.absent b s ok (sym (ap (λ (l : List ℕ). has l b) (same s other)) ∙ away)
]

-- whatever the new head's digest leaves out or takes in
pub turned_known : (d : FailData) (texts : Texts) (p : Shown) (n : Start) (mode : Mode) → IsLogHeld d texts p
    → IsKnown d p → ((d.mode ≡ Calm) × (mode ≡ Rolls n)) ⊎ ((d.mode ≡ Mends) × (mode ≡ Opens n)) → n.id ≡ d.next
    → IsKnown (rolling d n mode) p
turned_known d texts p n mode held known may id =
    let next = held.logged.head.next in
    let other : (s : ℕ) → (s ≡ n.id → ⊥) → (rolling d n mode).took s ≡ d.took s =
    λ s apart. let is : (s == n.id) ≡ false = grind (arith, nat_tests) in rw is refl in
    record {
      absent = absent_then d texts p held known n.id (omega arith) (rolling d n mode).took other;
      new = λ b m failed is.
          let same : n ≡ m = elim may as (λ _. n ≡ m) [
            | inl calm ↦ same_Some n m (sym (ap new_of calm.1) ∙ is)
            | inr mends ↦ same_Some n m (sym (ap new_of mends.1) ∙ is)
          ] in
          subst (λ (x : Start). p.holds b x.id ≡ None) same (nothing d texts p held b n.id (omega arith));
      head = λ b failed is. elim may as (λ _. p.holds b d.head.start.id ≡ None) [
        | inl calm ↦ (let never : Rolls n ≡ Repairs = sym calm.1 ∙ is in absurd (cc))
        | inr mends ↦ (let never : Opens n ≡ Repairs = sym mends.1 ∙ is in absurd (cc))
      ];
      exact = λ b x home there. known.exact b x
          (sym (ap (λ (l : List ℕ). has l b) (other d.head.start.id (λ same. omega arith))) ∙ home.0, home.1) there;
    }

pub rolling_known : RollingKnown
rolling_known d texts p n mode held known roll = turned_known d texts p n mode held known roll.may roll.next

pub ending_known : EndingKnown
ending_known d texts p n mode held known ends =
    let new : new_of d.mode ≡ Some n = elim ends.may as (λ _. new_of d.mode ≡ Some n) [
      | inl calm ↦ ap new_of calm.0
      | inr fails ↦ ap new_of fails.0
    ] in
    record {
      absent = known.absent;
      new = λ b m failed is. elim ends.may as (λ _. p.holds b m.id ≡ None) [
        | inl calm ↦ (let never : None ≡ Some m = sym (ap new_of calm.1) ∙ is in absurd (cc))
        | inr fails ↦ (let never : None ≡ Some m = sym (ap new_of fails.1) ∙ is in absurd (cc))
      ];
      head = λ b failed is. known.new b n failed new;
      exact = λ b x home there.
          let at : x ≡ bare_replica n = same_Some _ _ (sym there ∙ held.mirrored.new n b (inl new) home.0) in
          (ap (λ (y : Replica). y.text) at, λ _. ap (λ (y : Replica). y.is_open) at);
    }

pub mended_known : MendedKnown
mended_known d p known = record {
  absent = known.absent;
  new = λ b m failed never. absurd (cc);
  head = λ b failed never. absurd (cc);
  exact = known.exact;
}

pub id_taken_known : IdTakenKnown
id_taken_known d texts p held known =
    let next = held.logged.head.next in
    let other : (s : ℕ) → (s ≡ d.next → ⊥) → (id_taken d).took s ≡ d.took s =
    λ s apart. let is : (s == d.next) ≡ false = grind (arith, nat_tests) in rw is refl in
    record {
      absent = absent_then d texts p held known d.next (omega arith) (id_taken d).took other;
      new = known.new;
      head = known.head;
      exact = λ b x home there. known.exact b x
          (sym (ap (λ (l : List ℕ). has l b) (other d.head.start.id (λ same. omega arith))) ∙ home.0, home.1) there;
    }
