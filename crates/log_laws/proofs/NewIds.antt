-- A segment that is no head takes the next id.
use Rattle.std.proofs.Common.{◌≡◌, ℕ, ◌<◌, ◌≤◌, ◌⊎◌, inl, inr, true, false, List, length, map, refl, sym, ap, subst}
use Rattle.std.proofs.Common.{◌∙◌, arith}
use Rattle.std.specs.Prelude.{IsSome, ◌==◌}
use Rattle.std.proofs.lemmas.Bool.{cases_eq}
use Rattle.std.proofs.lemmas.Bool.Decides.{nat_tests}
use Rattle.entry.specs.declared.entry.Entry.{Entry}
use Rattle.entry.specs.Bag.{IsAmong}
use Rattle.entry.specs.Meaning.{among}
use Rattle.log_laws.specs.Heads.{Start, fewest}
use Rattle.log_laws.specs.Ids.{has}
use Rattle.log_laws.proofs.IdLists.{below_at}
use Rattle.log_laws.specs.Text.{Text, Replica}
use Rattle.log_laws.specs.Shown.{Shown}
use Rattle.log_laws.specs.Data.{FailData, HasTaken, is_failing, IsNew, before, everywhere}
use Rattle.log_laws.specs.Log.{Texts, IsVariant, IsBase, AreOfTablets, IsStart, IsLogged, NewIsOpened, IsReplica}
use Rattle.log_laws.specs.Log.{IsOther, IsLeast, IsMirrored, IsStanding}
use Rattle.log_laws.specs.Steps.{with_new, id_taken, empty_survivor}
use Rattle.log_laws.specs.Laws.{IdTakenIsHeld, IdTakenIsStanding}
use Rattle.log_laws.proofs.Lengths.{lens_each}
use Rattle.log_laws.proofs.Texts.{base_moves, new_there, new_none, new_other, new_images, at_new, variant_back}
use Rattle.log_laws.proofs.Texts.{copy_at, whole_at, new_within}
use Rattle.log_laws.proofs.States.{third_is}

module _ (d : FailData) (texts : Texts) (p : Shown) (log : IsLogged d texts) (mir : IsMirrored d texts p) where
  abbrev id : ℕ
  id = d.head.start.id

  abbrev e : FailData
  e = id_taken d

  abbrev now : Texts
  now = with_new texts d.next empty_survivor

  below_apart : (s : ℕ) → s < d.next → s ≡ d.next → ⊥
  below_apart s lt same = omega arith

  pub head_apart : id ≡ d.next → ⊥
  head_apart = below_apart id log.head.next

  new_apart : (m : Start) → IsNew d m → m.id ≡ d.next → ⊥
  new_apart m is_new = below_apart m.id (log.new m is_new).next

  listed_apart : (m : Start) → IsStart d.config d.next texts m → (s : ℕ) → IsAmong s m.others → s ≡ d.next → ⊥
  listed_apart m start s m_in same =
      let below = below_at m.id m.others s start.below m_in in
      let next = start.next in omega arith

  pub took_other : (s : ℕ) → (s ≡ d.next → ⊥) → e.took s ≡ d.took s
  took_other s other = let is : (s == d.next) ≡ false = grind (arith, nat_tests) in rw is refl

  had_taken : (s b : ℕ) → (s ≡ d.next → ⊥) → HasTaken e s b → HasTaken d s b
  had_taken s b other took = sym (ap (λ (l : List ℕ). has l b) (took_other s other)) ∙ took

  still_taken : (s b : ℕ) → (s ≡ d.next → ⊥) → HasTaken d s b → HasTaken e s b
  still_taken s b other took = ap (λ (l : List ℕ). has l b) (took_other s other) ∙ took

  start_then : (m : Start) → IsStart d.config d.next texts m → IsStart d.config e.next now m
  start_then m start = record {
    below = start.below;
    lens = lens_each d.config texts now m
        (λ s among. new_other texts d.next empty_survivor s (listed_apart m start s among)) start.lens;
    next = (let next = start.next in omega arith);
  }

  taken_keys : (s : ℕ) (es : List Entry) → IsVariant now s es → AreOfTablets d.config es
  taken_keys s es variant = elim (cases_eq s d.next) as (λ _. AreOfTablets d.config es) [
    | inl same ↦ (
        let own : IsVariant now d.next es = subst (λ (t : ℕ). IsVariant now t es) same variant in
        λ x k m at. absurd (elim own as (λ _. ⊥) [
          | inl is ↦ subst (λ (l : List Entry). among l x)
              (is ∙ ap (λ (t : Text). t.entries) (new_there texts d.next empty_survivor)) m
          | inr image ↦ subst (λ (l : List (List Entry)). IsAmong es l) (new_none texts d.next empty_survivor) image
        ]))
    | inr other ↦ log.keys s es (variant_back texts now s es (at_new texts d.next empty_survivor s other) variant)
  ]

  taken_logged : IsLogged e now
  taken_logged = record {
    head = start_then d.head.start log.head;
    text = new_other texts d.next empty_survivor id head_apart ∙ log.text;
    counted = log.counted;
    one = new_images texts d.next empty_survivor id head_apart ∙ log.one;
    some = log.some;
    new = λ m is_new. start_then m (log.new m is_new);
    newer = log.newer;
    new_text = λ m is_new. new_other texts d.next empty_survivor m.id (new_apart m is_new) ∙ log.new_text m is_new;
    new_one = λ m is_new. new_images texts d.next empty_survivor m.id (new_apart m is_new) ∙ log.new_one m is_new;
    keys = taken_keys;
    images = new_within texts d.next empty_survivor log.images;
    above = log.above;
    settled = log.settled;
    repairs = log.repairs;
    two = log.two;
  }

  stage_then : NewIsOpened d → NewIsOpened e
  stage_then stage = record {
    n = stage.n;
    is_new = stage.is_new;
    opened = (
        let same = ap length (took_other stage.n.id (new_apart stage.n stage.is_new)) in
        let enough = stage.opened in omega arith);
  }

  each_then : (b s : ℕ) (r : Replica) → IsReplica d texts p.least b s r → IsReplica e now p.least b s r
  each_then b s r (inl is) = inl (
    is.0,
    record {
      k = is.1.k;
      within = is.1.within;
      text = is.1.text;
      reach = elim is.1.reach as (λ _. (HasTaken e id b × (d.counts b ≤ is.1.k))
          ⊎ ((is.1.k ≡ length d.head.units) × (is_failing d.mode ≡ true))) [
            | inl had ↦ inl (still_taken id b head_apart had.0, had.1)
            | inr all ↦ inr all
          ];
      shut = λ closed. let all = is.1.shut closed in (all.0, stage_then all.1);
    },
  )
  each_then b s r (inr (inl is)) = inr (inl is)
  each_then b s r (inr (inr is)) =
      let other = below_apart s is.next in
      let text = new_other texts d.next empty_survivor s other in
      inr (inr (record {
        next = (let lt = is.next in omega arith);
        opening = is.opening ∙ sym (ap (λ (t : Text). t.opening) text);
        whole = whole_at d.config texts now s r (at_new texts d.next empty_survivor s other) is.whole;
        bears = λ some. is.bears (subst (λ (t : Text). IsSome t.opening) text some);
      }))

  other_apart : (s : ℕ) → IsOther d s → s ≡ d.next → ⊥
  other_apart s (inl m) = listed_apart d.head.start log.head s m
  other_apart s (inr is) = listed_apart is.0 (log.new is.0 is.1) s is.2

  taken_mirrored : IsMirrored e now p
  taken_mirrored = record {
    bounded = mir.bounded;
    each = λ b s r is. each_then b s r (mir.each b s r is);
    head = λ b took. mir.head b (had_taken id b head_apart took);
    opened = elim mir.opened as (λ _. (id ≡ 0) ⊎ (d.config.replicas ≤ length (e.took id))) [
      | inl none ↦ inl none
      | inr enough ↦ (let same = ap length (took_other id head_apart) in inr (omega arith))
    ];
    new = λ m b is_new took. mir.new m b is_new (had_taken m.id b (new_apart m is_new) took);
    others = λ s b other home.
        let apart = other_apart s other in
        let there = mir.others s b other (had_taken s b apart home.0, home.1) in
        (there.0, there.1, copy_at texts now s there.0 (at_new texts d.next empty_survivor s apart) there.2);
    whole = λ m b c is_new some home. mir.whole m b c is_new some (had_taken id c head_apart home.0, home.1);
    least = elim mir.least as (λ _. IsLeast e p.least) [
      | inl old ↦ inl old
      | inr third ↦ (
          let apart = new_apart third.0 (inl (third_is d.mode third.0 third.1)) in
          let same = ap length (took_other third.0.id apart) in
          let enough = third.3 in inr (third.0, third.1, third.2, omega arith))
    ];
    raised = mir.raised;
    shut = mir.shut;
    homes = λ is b took. mir.homes is b (had_taken id b head_apart took);
    new_homes = λ m b is took. mir.new_homes m b is (had_taken m.id b (new_apart m (inl is)) took);
  }

  base_back : (ids : List ℕ) → ((s : ℕ) → IsAmong s ids → s ≡ d.next → ⊥) → (base : List Entry) → IsBase now ids base
      → IsBase texts ids base
  base_back ids other base is =
      base_moves now texts ids (λ s es m variant. variant_back texts now s es
      (at_new texts d.next empty_survivor s (other s m)) variant) base is

  pub same_everywhere : everywhere e ≡ everywhere d
  same_everywhere =
      ap (λ (l : List ℕ). fewest (length d.head.units) (map d.counts l)) (took_other id head_apart)

  taken_standing : IsStanding d texts → IsStanding e now
  taken_standing standing = record {
    numbers = standing.numbers;
    fronts = λ k base le is.
        standing.fronts k base le (base_back d.head.start.others (listed_apart d.head.start log.head) base is);
    new = λ m is_new base is.
        standing.new m is_new base (base_back m.others (listed_apart m (log.new m is_new)) base is);
    frozen = λ is. subst (λ (k : ℕ). d.frozen ≤ before d k) (sym same_everywhere) (standing.frozen is);
  }

pub id_taken_is_held : IdTakenIsHeld
id_taken_is_held d texts p held = record {
  some = held.some;
  logged = taken_logged d texts p held.logged held.mirrored;
  mirrored = taken_mirrored d texts p held.logged held.mirrored;
}

pub id_taken_is_standing : IdTakenIsStanding
id_taken_is_standing d texts p held standing = taken_standing d texts p held.logged held.mirrored standing
