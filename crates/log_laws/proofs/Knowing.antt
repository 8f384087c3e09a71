-- A master that knows what the backups that haven't failed hold asks only for ops that fit, and knows what they hold
-- once an op is taken.
use Rattle.std.proofs.Common.{◌≡◌, ℕ, inl, inr, Bool, true, false, cond, List, ◌∷◌, ◌++◌, length, Some, max, refl, sym}
use Rattle.std.proofs.Common.{ap, subst, ◌∙◌, arith}
use Rattle.std.specs.Prelude.{Option, None, IsSome, ◌==◌, ◌&&◌}
use Rattle.std.specs.Option.{option_map}
use Rattle.std.proofs.lemmas.Bool.{cases_eq, cases_Bool}
use Rattle.std.proofs.lemmas.Bool.Decides.{nat_tests}
use Rattle.std.proofs.lemmas.Option.{same_Some}
use Rattle.entry.specs.declared.entry.Entry.{Entry}
use Rattle.log_laws.specs.Heads.{entries_of}
use Rattle.log_laws.proofs.IdLists.{is_none, below_at}
use Rattle.log_laws.specs.Ids.{has}
use Rattle.log_laws.specs.HeadSteps.{units_between}
use Rattle.log_laws.specs.Text.{Text, Replica, length_of}
use Rattle.log_laws.specs.Shown.{Shown, Act, Open, Extend, Close, Seal, Free, Op, On, effect, with_replica, taken}
use Rattle.log_laws.specs.Data.{front, bare, bare_replica, FailData, new_of}
use Rattle.log_laws.specs.Steps.{with_taken, with_count, IsKnown, survivor_text}
use Rattle.log_laws.specs.Laws.{Fits, ExtendsFits, OpensFits, ReplacesFits, RaisesFits, ClosesFits, ResealsFits}
use Rattle.log_laws.specs.Laws.{SealsFits, FreesFits, FailingKnown}
use Rattle.log_laws.proofs.Again.{recounted}
use Rattle.log_laws.proofs.HeadOps.{extend_longer}
use Rattle.log_laws.proofs.Lists.{both_ways, some_is, has_here, has_fewer, with_taken_same}
use Rattle.log_laws.proofs.Lists.{taken_still, taken_either, count_same, count_other}
use Rattle.log_laws.proofs.Pictures.{changed, unchanged, either}

-- ---- fitting

-- an op whose act fits is taken
take_it : (p : Shown) (b s : ℕ) (act : Act) (x : Option Replica) → effect act (p.holds b s) ≡ Some x
    → taken p (On b s act) ≡ Some (record { holds = with_replica p.holds b s x; least = p.least })
take_it p b s act x fits =
    ap (option_map (λ (y : Option Replica). record { holds = with_replica p.holds b s y; least = p.least })) fits

open_fits : (text : Text) (o : Option Replica) → o ≡ None
    → effect (Open text) o ≡ Some (Some (record { text = text; is_open = true }))
open_fits text o none = ap (effect (Open text)) none

seal_fits : (text : Text) (o : Option Replica) → o ≡ None
    → effect (Seal text) o ≡ Some (Some (record { text = text; is_open = false }))
seal_fits text o none = ap (effect (Seal text)) none

close_fits : (o : Option Replica) (r : Replica) → o ≡ Some r → r.is_open ≡ true
    → effect Close o ≡ Some (Some (record { text = r.text; is_open = false }))
close_fits o r is opened =
    ap (effect Close) is
    ∙ ap (λ (t : Bool). cond t (Some (Some (record { text = r.text; is_open = false }))) None) opened

extend_fits : (at : ℕ) (more : List Entry) (o : Option Replica) (r : Replica) → o ≡ Some r → r.is_open ≡ true
    → at ≡ length_of r.text
    → effect (Extend at more) o ≡ Some (Some (record {
      text = record (r.text) { entries = r.text.entries ++ more };
      is_open = true;
    }))
extend_fits at more o r is opened size =
    let long = length_of r.text in
    let t : (at == long) ≡ true = grind (arith, nat_tests) in
    let both : (r.is_open && (at == long)) ≡ true = rw (opened, t) refl in
    ap (effect (Extend at more)) is
    ∙ ap (λ (u : Bool). cond u (Some (Some (record {
      text = record (r.text) { entries = r.text.entries ++ more };
      is_open = true;
    }))) None) both

free_fits : (o : Option Replica) → IsSome o → effect Free o ≡ Some None
free_fits None some = absurd (cc)
free_fits (Some r) some = refl

-- ---- knowing

module _ (d : FailData) (p : Shown) (known : IsKnown d p) (b s : ℕ) (x : Option Replica)
    (works : has d.failed b ≡ false) where
  abbrev id : ℕ
  id = d.head.start.id

  abbrev q : Shown
  q = record { holds = with_replica p.holds b s x; least = p.least }

  -- a backup that failed holds what it held
  failed_same : (c t : ℕ) → has d.failed c ≡ true → q.holds c t ≡ p.holds c t
  failed_same c t failed =
      unchanged p.holds b s x c t (λ both. both_ways (has d.failed c) failed (ap (has d.failed) (sym both.0) ∙ works))

  known_put : (counts : ℕ → ℕ) (shut : List ℕ) (took : ℕ → List ℕ) → has (took s) b ≡ true
      → ((t c : ℕ) → has (took t) c ≡ false → has (d.took t) c ≡ false)
      → ((c : ℕ) (r : Replica) → has (took id) c ≡ true → has d.failed c ≡ false → q.holds c id ≡ Some r
      → (r.text ≡ front d.head (counts c)) × (has shut c ≡ false → r.is_open ≡ true))
      → IsKnown (recounted d counts shut took) q
  known_put counts shut took here fewer exact = record {
    absent = λ c t ok away. unchanged p.holds b s x c t
        (λ both. both_ways (has (took t) c) (subst (λ (y : ℕ). has (took t) y ≡ true) both.0
        (subst (λ (y : ℕ). has (took y) b ≡ true) both.1 here)) away)
        ∙ known.absent c t ok (fewer t c away);
    new = λ c n failed is. failed_same c n.id failed ∙ known.new c n failed is;
    head = λ c failed is. failed_same c id failed ∙ known.head c failed is;
    exact = λ c r home there. exact c r home.0 home.1 there;
  }

  -- at another segment the head's replicas are as they were
  head_same : (s ≡ id → ⊥) → (c : ℕ) → q.holds c id ≡ p.holds c id
  head_same other c = unchanged p.holds b s x c id (λ both. other both.1)

-- a backup that hasn't taken a segment after an op hadn't taken it before
fewer_taken : (took : ℕ → List ℕ) (s b t c : ℕ) → has (with_taken took s b t) c ≡ false → has (took t) c ≡ false
fewer_taken took s b t c away = elim (cases_Bool (has (took t) c)) as (λ _. has (took t) c ≡ false) [
  | inl had ↦ absurd (both_ways (has (with_taken took s b t) c) (taken_still took s b t c had) away)
  | inr none ↦ none
]

took_here : (took : ℕ → List ℕ) (s b : ℕ) → has (with_taken took s b s) b ≡ true
took_here took s b = ap (λ (l : List ℕ). has l b) (with_taken_same took s b) ∙ has_here b (took s)

-- where nothing was there is nothing, once something is gone
left_none : (p : Shown) (b s c t : ℕ) → p.holds c t ≡ None → with_replica p.holds b s None c t ≡ None
left_none p b s c t none = is_none (with_replica p.holds b s None c t) (λ r is.
    elim (either p.holds b s None c t r is) as (λ _. ⊥) [
      | inl at ↦ (let never = at.2 in cc)
      | inr old ↦ (let never : None ≡ Some r = sym none ∙ old.1 in cc)
    ])

-- ---- each op

pub extends_fits : ExtendsFits
extends_fits d e texts p o held known op =
    let id = d.head.start.id in
    let there = some_is (p.holds op.b id) (held.mirrored.head op.b op.home.0) in
    let now = known.exact op.b there.0 op.home there.1 in
    let more = entries_of (units_between d.head.units (d.counts op.b) op.to) in
    let fits = extend_fits (length_of (front d.head (d.counts op.b))) more (p.holds op.b id) there.0 there.1
    (now.1 op.unshut) (sym (ap length_of now.0)) in
    let x : Option Replica = Some (record {
      text = record (there.0.text) { entries = there.0.text.entries ++ more };
      is_open = true;
    }) in
    let q : Shown = record { holds = with_replica p.holds op.b id x; least = p.least } in
    let took : taken p o ≡ Some q = ap (taken p) op.op ∙ take_it p op.b id
    (Extend (length_of (front d.head (d.counts op.b))) more) x fits in
    let longer = extend_longer d texts p held.logged held.mirrored o e q op took in
    let counts = with_count d.counts op.b op.to in (
      q,
      took,
      subst (λ (y : FailData). IsKnown y q) (sym op.gives) (known_put d p known op.b id x op.home.1 counts d.shut d.took
          op.home.0 (λ t c away. away) (λ c r had ok is.
          elim (cases_eq c op.b)
          as (λ _. (r.text ≡ front d.head (counts c)) × (has d.shut c ≡ false → r.is_open ≡ true)) [
            | inl same ↦ (
                let at : r ≡ record { text = front d.head op.to; is_open = true } =
                same_Some _ _ (sym is ∙ ap (λ (y : ℕ). q.holds y id) same ∙ longer.there) in (
                  ap (λ (y : Replica). y.text) at
                      ∙ ap (front d.head) (sym (ap counts same ∙ count_same d.counts op.b op.to)),
                  λ _. ap (λ (y : Replica). y.is_open) at,
                ))
            | inr other ↦ (
                let old = known.exact c r (had, ok)
                (sym (unchanged p.holds op.b id x c id (λ both. other (sym both.0))) ∙ is) in
                (old.0 ∙ ap (front d.head) (sym (count_other d.counts op.b op.to c other)), old.1))
          ])),
    )

pub opens_fits : OpensFits
opens_fits d e texts p o held known op =
    let id = d.head.start.id in
    let n = op.n in
    let new : new_of d.mode ≡ Some n = elim op.mode as (λ _. new_of d.mode ≡ Some n) [
      | inl rolls ↦ ap new_of rolls
      | inr opens ↦ ap new_of opens
    ] in
    let lt = held.logged.newer n (inl new) in
    let x = Some (bare_replica n) in
    let q : Shown = record { holds = with_replica p.holds op.b n.id x; least = p.least } in
    let fits = open_fits (bare n) (p.holds op.b n.id) (known.absent op.b n.id op.works op.apart) in (
      q,
      ap (taken p) op.op ∙ take_it p op.b n.id (Open (bare n)) x fits,
      subst (λ (y : FailData). IsKnown y q) (sym op.gives) (known_put d p known op.b n.id x op.works d.counts d.shut
          (with_taken d.took n.id op.b) (took_here d.took n.id op.b) (fewer_taken d.took n.id op.b) (λ c r had ok is.
          known.exact c r (
            (elim (taken_either d.took n.id op.b id c had) as (λ _. has (d.took id) c ≡ true) [
              | inl at ↦ (let same = at.0 in absurd (omega arith))
              | inr old ↦ old
            ]),
            ok,
          )
          (sym (head_same d p known op.b n.id x op.works (λ same. omega arith) c) ∙ is))),
    )

pub replaces_fits : ReplacesFits
replaces_fits d e p o known op =
    let id = d.head.start.id in
    let units = length d.head.units in
    let x = Some (record { text = front d.head units; is_open = true }) in
    let q : Shown = record { holds = with_replica p.holds op.b id x; least = p.least } in
    let counts = with_count d.counts op.b units in
    let fits = open_fits (front d.head units) (p.holds op.b id) (known.absent op.b id op.works op.apart) in (
      q,
      ap (taken p) op.op ∙ take_it p op.b id (Open (front d.head units)) x fits,
      subst (λ (y : FailData). IsKnown y q) (sym op.gives) (known_put d p known op.b id x op.works counts d.shut
          (with_taken d.took id op.b) (took_here d.took id op.b) (fewer_taken d.took id op.b) (λ c r had ok is.
          elim (cases_eq c op.b)
          as (λ _. (r.text ≡ front d.head (counts c)) × (has d.shut c ≡ false → r.is_open ≡ true)) [
            | inl same ↦ (
                let at : r ≡ record { text = front d.head units; is_open = true } =
                same_Some _ _ (sym is ∙ ap (λ (y : ℕ). q.holds y id) same ∙ changed p.holds op.b id x) in (
                  ap (λ (y : Replica). y.text) at
                      ∙ ap (front d.head) (sym (ap counts same ∙ count_same d.counts op.b units)),
                  λ _. ap (λ (y : Replica). y.is_open) at,
                ))
            | inr other ↦ (
                let before : has (d.took id) c ≡ true =
                elim (taken_either d.took id op.b id c had) as (λ _. has (d.took id) c ≡ true) [
                  | inl at ↦ absurd (other at.1)
                  | inr old ↦ old
                ] in
                let old = known.exact c r (before, ok)
                (sym (unchanged p.holds op.b id x c id (λ both. other (sym both.0))) ∙ is) in
                (old.0 ∙ ap (front d.head) (sym (count_other d.counts op.b units c other)), old.1))
          ])),
    )

pub raises_fits : RaisesFits
raises_fits d e p o known op = (
  record { holds = p.holds; least = max p.least op.n.id },
  ap (taken p) op.op,
  subst (λ (y : FailData). IsKnown y (record { holds = p.holds; least = max p.least op.n.id })) (sym op.gives) (record {
    absent = known.absent;
    new = λ c m failed is. known.new c m failed (ap new_of op.mode ∙ is);
    head = λ c failed never. absurd (cc);
    exact = known.exact;
  }),
)

pub closes_fits : ClosesFits
closes_fits d e texts p o held known op =
    let id = d.head.start.id in
    let there = some_is (p.holds op.b id) (held.mirrored.head op.b op.home.0) in
    let now = known.exact op.b there.0 op.home there.1 in
    let x = Some (record { text = there.0.text; is_open = false }) in
    let q : Shown = record { holds = with_replica p.holds op.b id x; least = p.least } in
    let fits = close_fits (p.holds op.b id) there.0 there.1 (now.1 op.unshut) in (
      q,
      ap (taken p) op.op ∙ take_it p op.b id Close x fits,
      subst (λ (y : FailData). IsKnown y q) (sym op.gives) (known_put d p known op.b id x op.home.1 d.counts
          (op.b ∷ d.shut) d.took op.home.0 (λ t c away. away) (λ c r had ok is.
          elim (cases_eq c op.b) as (λ _. (r.text ≡ front d.head (d.counts c))
          × (has (op.b ∷ d.shut) c ≡ false → r.is_open ≡ true)) [
            | inl same ↦ (
                let at : r ≡ record { text = there.0.text; is_open = false } =
                same_Some _ _ (sym is ∙ ap (λ (y : ℕ). q.holds y id) same ∙ changed p.holds op.b id x) in (
                  ap (λ (y : Replica). y.text) at ∙ now.0 ∙ ap (λ (y : ℕ). front d.head (d.counts y)) (sym same),
                  λ away. absurd (both_ways (has (op.b ∷ d.shut) c)
                      (ap (has (op.b ∷ d.shut)) same ∙ has_here op.b d.shut) away),
                ))
            | inr other ↦ (
                let old = known.exact c r (had, ok)
                (sym (unchanged p.holds op.b id x c id (λ both. other (sym both.0))) ∙ is) in
                (old.0, λ away. old.1 (has_fewer op.b c d.shut away)))
          ])),
    )

-- a replica that is sealed at another segment than the head's
seal_known : (d : FailData) (p : Shown) → IsKnown d p → (b s : ℕ) (text : Text) → has d.failed b ≡ false
    → has (d.took s) b ≡ false → (s ≡ d.head.start.id → ⊥) → (o : Op) → o ≡ On b s (Seal text)
    → Fits (record d { took = with_taken d.took s b }) p o
seal_known d p known b s text works apart other o op =
    let id = d.head.start.id in
    let x = Some (record { text = text; is_open = false }) in
    let q : Shown = record { holds = with_replica p.holds b s x; least = p.least } in
    let fits = seal_fits text (p.holds b s) (known.absent b s works apart) in (
      q,
      ap (taken p) op ∙ take_it p b s (Seal text) x fits,
      known_put d p known b s x works d.counts d.shut (with_taken d.took s b) (took_here d.took s b)
          (fewer_taken d.took s b) (λ c r had ok is. known.exact c r (
            (elim (taken_either d.took s b id c had) as (λ _. has (d.took id) c ≡ true) [
              | inl at ↦ absurd (other (sym at.0))
              | inr old ↦ old
            ]),
            ok,
          )
          (sym (head_same d p known b s x works other c) ∙ is)),
    )

pub reseals_fits : ResealsFits
reseals_fits d e texts p o held known op =
    let lt = below_at d.head.start.id d.head.start.others op.s held.logged.head.below op.listed in
    subst (λ (y : FailData). Fits y p o) (sym op.gives)
    (seal_known d p known op.b op.s (record (texts.text op.s) { entries = op.image }) op.works op.apart
    (λ same. omega arith) o op.op)

pub seals_fits : SealsFits
seals_fits d e texts p o known op =
    subst (λ (y : FailData). Fits y p o) (sym op.gives)
    (seal_known d p known op.b op.s (survivor_text op.entries) op.works op.apart op.free.head o
    op.op)

pub frees_fits : FreesFits
frees_fits d e p o known op there =
    let q : Shown = record { holds = with_replica p.holds op.b op.s None; least = p.least } in
    let was : (c t : ℕ) → p.holds c t ≡ None → q.holds c t ≡ None = λ c t none. left_none p op.b op.s c t none in (
      q,
      ap (taken p) op.op ∙ take_it p op.b op.s Free None (free_fits (p.holds op.b op.s) there),
      subst (λ (y : FailData). IsKnown y q) (sym op.gives) (record {
        absent = λ c t ok away. was c t (known.absent c t ok away);
        new = λ c n failed is. was c n.id (known.new c n failed is);
        head = λ c failed is. was c d.head.start.id (known.head c failed is);
        exact = λ c r home is. known.exact c r home
            (sym (unchanged p.holds op.b op.s None c d.head.start.id (λ both. op.free.head both.1)) ∙ is);
      }),
    )

-- ---- a fault

-- whatever the failed backup has done, the master knows what the others hold
pub failing_known : FailingKnown
failing_known d p q b known same = record {
  absent = λ c t ok away.
      let other : c ≡ b → ⊥ = λ is. both_ways (has (b ∷ d.failed) c)
      (ap (has (b ∷ d.failed)) is ∙ has_here b d.failed) ok in
      same c t other ∙ known.absent c t (has_fewer b c d.failed ok) away;
  new = λ c n failed never. absurd (cc);
  head = λ c failed never. absurd (cc);
  exact = λ c r home is.
      let other : c ≡ b → ⊥ = λ same_b. both_ways (has (b ∷ d.failed) c)
      (ap (has (b ∷ d.failed)) same_b ∙ has_here b d.failed) home.1 in
      known.exact c r (home.0, has_fewer b c d.failed home.1) (sym (same c d.head.start.id other) ∙ is);
}
