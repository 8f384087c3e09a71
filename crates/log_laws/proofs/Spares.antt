-- Segments that no digest names: a survivor is sealed, and what left the log is freed.
use Rattle.std.proofs.Common.{◌≡◌, ℕ, ◌<◌, ◌≤◌, ◌⊎◌, inl, inr, true, false, List, length, Some, refl, sym, ap, subst}
use Rattle.std.proofs.Common.{◌∙◌, arith}
use Rattle.std.specs.Prelude.{Option, None, IsSome}
use Rattle.std.proofs.lemmas.Bool.{cases_eq}
use Rattle.entry.specs.declared.entry.Entry.{Entry}
use Rattle.entry.specs.Bag.{IsAmong}
use Rattle.log_laws.specs.Ids.{has}
use Rattle.log_laws.specs.Heads.{Start}
use Rattle.log_laws.specs.Text.{Text, Replica}
use Rattle.log_laws.specs.Shown.{Holds, Shown, Op, with_replica, taken}
use Rattle.log_laws.specs.Data.{FailData, is_failing, IsNew}
use Rattle.log_laws.specs.Log.{Texts, IsVariant, IsBase, AreOfTablets, IsStart, IsLogged, IsReplica, IsOther}
use Rattle.log_laws.specs.Log.{IsMirrored, IsStanding, IsLogHeld}
use Rattle.log_laws.specs.Steps.{with_taken, IsFree, Seals, survivor_text, texts_sealed}
use Rattle.log_laws.specs.Laws.{SealsHeld, SealsStanding, FreesHeld}
use Rattle.log_laws.proofs.Again.{recounted, logged_again, standing_again, mirrored_again}
use Rattle.log_laws.proofs.Lengths.{lens_each}
use Rattle.log_laws.proofs.Lists.{some_is, is_some, taken_still, taken_either, taken_longer}
use Rattle.log_laws.proofs.Opening.{everywhere_apart}
use Rattle.log_laws.proofs.Pictures.{unchanged, either, is_taken, sealed, freed}
use Rattle.log_laws.proofs.Placing.{IsPut, put_there}
use Rattle.log_laws.proofs.Texts.{base_moves, new_there, new_none, new_other, new_images, at_new, new_within}
use Rattle.log_laws.proofs.Texts.{variant_back, copy_at, whole_at}

-- ids of a digest are others, or the head in force
listed_other : (d : FailData) (n : Start) (s : ℕ) → (n ≡ d.head.start) ⊎ IsNew d n → IsAmong s n.others
    → IsOther d s ⊎ (s ≡ d.head.start.id)
listed_other d n s which among = elim which as (λ _. IsOther d s ⊎ (s ≡ d.head.start.id)) [
  | inl own ↦ inl (inl (subst (λ (x : Start). IsAmong s x.others) own among))
  | inr is_new ↦ elim (cases_eq s d.head.start.id) as (λ _. IsOther d s ⊎ (s ≡ d.head.start.id)) [
    | inl same ↦ inr same
    | inr other ↦ inl (inr (n, is_new, among, other))
  ]
]

nothing_opens : {A : Type 0} {o : Option A} → o ≡ None → IsSome o → ⊥
nothing_opens none some = let never = subst IsSome none some in cc

-- ---- a seal

module _ (d e : FailData) (texts : Texts) (p q : Shown) (o : Op) (log : IsLogged d texts) (mir : IsMirrored d texts p)
    (op : Seals d texts p o e) (took : taken p o ≡ Some q) (within : op.b < d.config.backups) where
  abbrev id : ℕ
  id = d.head.start.id

  abbrev b : ℕ
  b = op.b

  abbrev s : ℕ
  s = op.s

  abbrev text : Text
  text = survivor_text op.entries

  abbrev now : Texts
  now = texts_sealed texts op

  head_apart : id ≡ s → ⊥
  head_apart same = op.free.head (sym same)

  new_apart : (n : Start) → IsNew d n → n.id ≡ s → ⊥
  new_apart n is_new same = op.free.new n is_new (sym same)

  other_apart : (t : ℕ) → IsOther d t → t ≡ s → ⊥
  other_apart t other same = op.free.others (subst (IsOther d) same other)

  listed_apart : (n : Start) → (n ≡ d.head.start) ⊎ IsNew d n → (t : ℕ) → IsAmong t n.others → t ≡ s → ⊥
  listed_apart n which t among same = elim (listed_other d n t which among) as (λ _. ⊥) [
    | inl other ↦ other_apart t other same
    | inr own ↦ head_apart (sym own ∙ same)
  ]

  start_then : (n : Start) → (n ≡ d.head.start) ⊎ IsNew d n → IsStart d.config d.next texts n
      → IsStart d.config d.next now n
  start_then n which start = record {
    below = start.below;
    lens = lens_each d.config texts now n
        (λ t among. new_other texts s text t (listed_apart n which t among)) start.lens;
    next = start.next;
  }

  seal_keys : (t : ℕ) (es : List Entry) → IsVariant now t es → AreOfTablets d.config es
  seal_keys t es variant = elim (cases_eq t s) as (λ _. AreOfTablets d.config es) [
    | inl same ↦ elim (subst (λ (k : ℕ). IsVariant now k es) same variant) as (λ _. AreOfTablets d.config es) [
      | inl is ↦ subst (AreOfTablets d.config) (sym (is ∙ ap (λ (x : Text). x.entries) (new_there texts s text)))
          op.keys
      | inr image ↦ absurd (subst (λ (l : List (List Entry)). IsAmong es l) (new_none texts s text) image)
    ]
    | inr other ↦ log.keys t es (variant_back texts now t es (at_new texts s text t other) variant)
  ]

  sealed_logged : IsLogged d now
  sealed_logged = record {
    head = start_then d.head.start (inl refl) log.head;
    text = new_other texts s text id head_apart ∙ log.text;
    counted = log.counted;
    one = new_images texts s text id head_apart ∙ log.one;
    some = log.some;
    new = λ n is_new. start_then n (inr is_new) (log.new n is_new);
    newer = log.newer;
    new_text = λ n is_new. new_other texts s text n.id (new_apart n is_new) ∙ log.new_text n is_new;
    new_one = λ n is_new. new_images texts s text n.id (new_apart n is_new) ∙ log.new_one n is_new;
    keys = seal_keys;
    images = new_within texts s text log.images;
    above = log.above;
    settled = log.settled;
    repairs = log.repairs;
    two = log.two;
  }

  each_then : (c t : ℕ) (r : Replica) → p.holds c t ≡ Some r → IsReplica d texts p.least c t r
      → IsReplica d now p.least c t r
  each_then c t r there (inl is) = inl is
  each_then c t r there (inr (inl is)) = inr (inl is)
  each_then c t r there (inr (inr is)) = elim (cases_eq t s) as (λ _. IsReplica d now p.least c t r) [
    | inl same ↦ (
        let at : p.holds c s ≡ Some r = subst (λ (k : ℕ). p.holds c k ≡ Some r) same there in
        let text_is : now.text t ≡ text = ap now.text same ∙ new_there texts s text in
        inr (inr (record {
          next = is.next;
          opening = is.opening ∙ ap (λ (k : ℕ). (texts.text k).opening) same ∙ op.bare
              ∙ sym (ap (λ (x : Text). x.opening) text_is);
          whole = inl (inl (op.one c r at ∙ sym (ap (λ (x : Text). x.entries) text_is)), inl (op.shut c r at));
          bears = λ some. absurd (nothing_opens (ap (λ (x : Text). x.opening) text_is) some);
        })))
    | inr other ↦ (
        let same = new_other texts s text t other in
        inr (inr (record {
          next = is.next;
          opening = is.opening ∙ sym (ap (λ (x : Text). x.opening) same);
          whole = whole_at d.config texts now t r (at_new texts s text t other) is.whole;
          bears = λ some. is.bears (subst (λ (x : Text). IsSome x.opening) same some);
        })))
  ]

  sealed_mirrored : IsMirrored d now p
  sealed_mirrored = record {
    bounded = mir.bounded;
    each = λ c t r is. each_then c t r is (mir.each c t r is);
    head = mir.head;
    opened = mir.opened;
    new = mir.new;
    others = λ t c other home.
        let there = mir.others t c other home in
        (there.0, there.1, copy_at texts now t there.0 (at_new texts s text t (other_apart t other)) there.2);
    whole = mir.whole;
    least = mir.least;
    raised = mir.raised;
    shut = mir.shut;
    homes = mir.homes;
    new_homes = mir.new_homes;
  }

  base_back : (n : Start) → (n ≡ d.head.start) ⊎ IsNew d n → (base : List Entry) → IsBase now n.others base
      → IsBase texts n.others base
  base_back n which base is = base_moves now texts n.others (λ t es m variant.
      variant_back texts now t es (at_new texts s text t (listed_apart n which t m)) variant) base is

  sealed_standing : IsStanding d texts → IsStanding d now
  sealed_standing standing = record {
    numbers = standing.numbers;
    fronts = λ k base le is. standing.fronts k base le (base_back d.head.start (inl refl) base is);
    new = λ n is_new base is. standing.new n is_new base (base_back n (inr is_new) base is);
    frozen = standing.frozen;
  }

  abbrev whole : Replica
  whole = record { text = text; is_open = false }

  text_now : now.text s ≡ text
  text_now = new_there texts s text

  put : IsPut d now b s whole q
  put =
      let is = is_taken p q o b s _ op.op took in
      put_there d now p q b s _ whole sealed_mirrored is (sealed text (p.holds b s) is.x is.given).1 (record {
        bounded = within;
        is = inr (inr (record {
          next = op.next;
          opening = sym (ap (λ (x : Text). x.opening) text_now);
          whole = inl (inl (sym (ap (λ (x : Text). x.entries) text_now)), inl refl);
          bears = λ some. absurd (nothing_opens (ap (λ (x : Text). x.opening) text_now) some);
        }));
        new = λ n is_new same. absurd (new_apart n is_new (sym same));
        other = λ other. absurd (other_apart s other refl);
        shut = λ same. absurd (head_apart (sym same));
      })

  abbrev took_now : ℕ → List ℕ
  took_now = with_taken d.took s b

  same_at : (t c : ℕ) → (t ≡ s → ⊥) → has (took_now t) c ≡ true → has (d.took t) c ≡ true
  same_at t c apart is = elim (taken_either d.took s b t c is) as (λ _. has (d.took t) c ≡ true) [
    | inl at ↦ absurd (apart at.0)
    | inr old ↦ old
  ]

  sealed_known : IsMirrored (recounted d d.counts d.shut took_now) now q
  sealed_known =
      let mirror = put.mirrored in
      mirrored_again d now q d.counts d.shut took_now sealed_logged mirror (record {
        longer = λ t. taken_longer d.took s b t;
        reach = λ c r there h. elim h.reach as (λ _. ((has (took_now id) c ≡ true) × (d.counts c ≤ h.k))
            ⊎ ((h.k ≡ length d.head.units) × (is_failing d.mode ≡ true))) [
              | inl had ↦ inl (taken_still d.took s b id c had.0, had.1)
              | inr all ↦ inr all
            ];
        head = λ c is. mirror.head c (same_at id c head_apart is);
        new = λ n c is_new is. mirror.new n c is_new (same_at n.id c (new_apart n is_new) is);
        others = λ t c other is works. mirror.others t c other (same_at t c (other_apart t other) is, works);
        whole = λ n c f is_new some is works. mirror.whole n c f is_new some (same_at id f head_apart is, works);
        is_shut = mirror.shut;
        homes = λ settled c is. mirror.homes settled c (same_at id c head_apart is);
        new_homes = λ n c new is. mirror.new_homes n c new (same_at n.id c (new_apart n (inl new)) is);
      })

-- a survivor's replica that is sealed, whether the master knows it or not
pub seals_held : SealsHeld
seals_held d e texts p q o held op within took =
    let now = texts_sealed texts op in
    let took_now = with_taken d.took op.s op.b in
    let log = sealed_logged d e texts p q o held.logged held.mirrored op took within in (
      record {
        some = held.some;
        logged = log;
        mirrored = (put d e texts p q o held.logged held.mirrored op took within).mirrored;
      },
      subst (λ (x : FailData). IsLogHeld x now q) (sym op.gives) (record {
        some = held.some;
        logged = logged_again d now d.counts d.shut took_now log log.counted;
        mirrored = sealed_known d e texts p q o held.logged held.mirrored op took within;
      }),
    )

pub seals_standing : SealsStanding
seals_standing d e texts p q o held old op within took =
    let now = texts_sealed texts op in
    let standing = sealed_standing d e texts p q o held.logged held.mirrored op took within old in
    let same = everywhere_apart d op.s op.b (λ is. op.free.head (sym is)) in (
      standing,
      subst (λ (x : FailData). IsStanding x now) (sym op.gives)
          (standing_again d now d.counts d.shut (with_taken d.took op.s op.b) standing (omega arith)),
    )

-- ---- a free

module _ (d : FailData) (texts : Texts) (p : Shown) (b s : ℕ) (mir : IsMirrored d texts p) (free : IsFree d s) where
  abbrev gone : Holds
  gone = with_replica p.holds b s None

  abbrev g : Shown
  g = record { holds = gone; least = p.least }

  was : (c t : ℕ) (r : Replica) → gone c t ≡ Some r → p.holds c t ≡ Some r
  was c t r is = elim (either p.holds b s None c t r is) as (λ _. p.holds c t ≡ Some r) [
    | inl at ↦ (let never = at.2 in absurd (cc))
    | inr old ↦ old.1
  ]

  is_still : (c t : ℕ) → (t ≡ s → ⊥) → gone c t ≡ p.holds c t
  is_still c t other = unchanged p.holds b s None c t (λ both. other (sym both.1))

  freed_mirrored : IsMirrored d texts g
  freed_mirrored = record {
    bounded = λ c t r is. mir.bounded c t r (was c t r is);
    each = λ c t r is. mir.each c t r (was c t r is);
    head = λ c took. subst IsSome (sym (is_still c d.head.start.id (λ same. free.head (sym same)))) (mir.head c took);
    opened = mir.opened;
    new = λ n c is_new took.
        is_still c n.id (λ same. free.new n is_new (sym same)) ∙ mir.new n c is_new took;
    others = λ t c other home.
        let there = mir.others t c other home in
        (there.0, is_still c t (λ same. free.others (subst (IsOther d) same other)) ∙ there.1, there.2);
    whole = λ n c f is_new some home.
        let there = some_is (gone c n.id) some in
        mir.whole n c f is_new (is_some (p.holds c n.id) there.0 (was c n.id there.0 there.1)) home;
    least = mir.least;
    raised = mir.raised;
    shut = λ c r shut is. mir.shut c r shut (was c d.head.start.id r is);
    homes = mir.homes;
    new_homes = mir.new_homes;
  }

-- a replica that is freed
pub frees_held : FreesHeld
frees_held d e texts p q o held op took =
    let is = is_taken p q o op.b op.s _ op.op took in
    let q_is : q ≡ record { holds = with_replica p.holds op.b op.s None; least = p.least } =
    is.same ∙ ap (λ (x : Option Replica). record { holds = with_replica p.holds op.b op.s x; least = p.least })
    (freed (p.holds op.b op.s) is.x is.given) in
    subst (IsLogHeld d texts) (sym q_is) (record {
      some = held.some;
      logged = held.logged;
      mirrored = freed_mirrored d texts p op.b op.s held.mirrored op.free;
    })
