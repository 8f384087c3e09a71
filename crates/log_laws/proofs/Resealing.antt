-- A lost replica of another segment is sealed anew, from its image.
use Rattle.std.proofs.Common.{◌≡◌, ℕ, ◌<◌, ◌≤◌, ◌⊎◌, inl, inr, true, false, List, [], ◌++◌, length, take, Some, refl}
use Rattle.std.proofs.Common.{sym, ap, subst, ◌∙◌, arith}
use Rattle.std.specs.Prelude.{None}
use Rattle.std.proofs.lemmas.List.{append-nil}
use Rattle.entry.specs.declared.entry.Entry.{Entry}
use Rattle.entry.specs.Bag.{IsAmong}
use Rattle.versioned_map.specs.Represents.{Represents}
use Rattle.versioned_map.specs.Versioned.{State}
use Rattle.log_laws.specs.Heads.{Start, LogUnit, entries_of}
use Rattle.log_laws.specs.Ids.{has}
use Rattle.log_laws.proofs.Counts.{before_end}
use Rattle.log_laws.proofs.IdLists.{below_at}
use Rattle.log_laws.specs.Text.{Replica}
use Rattle.log_laws.specs.Shown.{Shown, Op, taken}
use Rattle.log_laws.specs.Data.{front_entries, FailData, new_of, is_failing, is_settled, IsNew, state_after}
use Rattle.log_laws.specs.Data.{state_of, before}
use Rattle.log_laws.specs.Log.{Texts, AreOfTablets, IsLogged, IsReplica, HoldsCopy, IsMirrored}
use Rattle.log_laws.specs.Log.{BasesStand, IsStanding, IsLogHeld}
use Rattle.log_laws.specs.Steps.{with_taken, with_image, Reseals, texts_resealed}
use Rattle.log_laws.specs.Laws.{ResealsHeld, ResealsStanding}
use Rattle.log_laws.proofs.Again.{recounted, logged_again, standing_again, mirrored_again}
use Rattle.log_laws.proofs.Lists.{taken_still, taken_either, taken_longer}
use Rattle.log_laws.proofs.Opening.{everywhere_apart}
use Rattle.log_laws.proofs.Pictures.{is_taken, sealed}
use Rattle.log_laws.proofs.Placing.{IsPut, put_there}
use Rattle.log_laws.proofs.States.{after_all, take_none}
use Rattle.log_laws.proofs.Texts.{image_other, image_there, image_either, image_copy}
use Rattle.log_laws.proofs.Texts.{image_whole, image_within}

module _ (d e : FailData) (texts : Texts) (p q : Shown) (o : Op) (log : IsLogged d texts) (mir : IsMirrored d texts p)
    (op : Reseals d texts o e) (took : taken p o ≡ Some q) (within : op.b < d.config.backups) where
  abbrev id : ℕ
  id = d.head.start.id

  abbrev b : ℕ
  b = op.b

  abbrev s : ℕ
  s = op.s

  abbrev more : Texts
  more = with_image texts s op.image

  below : s < id
  below =
      let lt = below_at id d.head.start.others s log.head.below op.listed in omega arith

  -- there is no new head
  never_new : (n : Start) → IsNew d n → ⊥
  never_new n (inl is) = let never : None ≡ Some n = sym (ap new_of op.mode) ∙ is in cc
  never_new n (inr m) = subst (IsAmong n) (log.settled (ap is_settled op.mode)) m

  more_logged : IsLogged d more
  more_logged = record {
    head = record { below = log.head.below; lens = log.head.lens; next = log.head.next };
    text = log.text;
    counted = log.counted;
    one = image_other texts s op.image id (λ same. let lt = below in omega arith) ∙ log.one;
    some = log.some;
    new = λ n is_new. absurd (never_new n is_new);
    newer = log.newer;
    new_text = log.new_text;
    new_one = λ n is_new. absurd (never_new n is_new);
    keys = λ t es variant. elim (image_either texts s op.image t es variant) as (λ _. AreOfTablets d.config es) [
      | inl is ↦ subst (AreOfTablets d.config) (sym is)
          (λ x k m at. log.keys s (texts.text s).entries (inl refl) x k (op.within x m) at)
      | inr old ↦ log.keys t es old
    ];
    images = image_within texts s op.image op.within log.images;
    above = log.above;
    settled = log.settled;
    repairs = log.repairs;
    two = log.two;
  }

  each_more : (c t : ℕ) (r : Replica) → IsReplica d texts p.least c t r → IsReplica d more p.least c t r
  each_more c t r (inl is) = inl is
  each_more c t r (inr (inl is)) = inr (inl is)
  each_more c t r (inr (inr is)) = inr (inr (record {
    next = is.next;
    opening = is.opening;
    whole = image_whole texts s op.image d.config t r is.whole;
    bears = is.bears;
  }))

  more_mirrored : IsMirrored d more p
  more_mirrored = record {
    bounded = mir.bounded;
    each = λ c t r is. each_more c t r (mir.each c t r is);
    head = mir.head;
    opened = mir.opened;
    new = mir.new;
    others = λ t c other home. let there = mir.others t c other home in
        (there.0, there.1, image_copy texts s op.image t there.0 there.2);
    whole = mir.whole;
    least = mir.least;
    raised = mir.raised;
    shut = mir.shut;
    homes = mir.homes;
    new_homes = mir.new_homes;
  }

  more_standing : IsStanding d texts → BasesStand more d.head.start (state_of d) → IsStanding d more
  more_standing standing stands = record {
    numbers = standing.numbers;
    fronts = λ k base le at.
        let none = log.repairs op.mode in
        let size = ap length none.1 in
        let all = before_end d.head.units (length d.history) k (omega arith) in
        let empty : front_entries d.head k ≡ [] =
        ap (λ (es : List Entry). es ++ entries_of (take k d.head.units)) none.0
        ∙ ap (λ (us : List LogUnit). entries_of (take k us)) none.1 ∙ ap entries_of (take_none k) in
        subst (λ (es : List Entry). Represents d.head.start.safe es (state_after d (before d k)))
        (sym (append-nil base) ∙ ap (λ (l : List Entry). base ++ l) (sym empty))
        (subst (λ (st : State). Represents d.head.start.safe base st)
        (sym (ap (state_after d) all ∙ after_all d)) (stands base at));
    new = λ n is_new. absurd (never_new n is_new);
    frozen = standing.frozen;
  }

  abbrev image : Replica
  image = record { text = record (texts.text s) { entries = op.image }; is_open = false }

  put : IsPut d more b s image q
  put =
      let is = is_taken p q o b s _ op.op took in
      put_there d more p q b s _ image more_mirrored is
      (sealed (record (texts.text s) { entries = op.image }) (p.holds b s) is.x is.given).1 (record {
        bounded = within;
        is = inr (inr (record {
          next = (let lt = below in let next = log.head.next in omega arith);
          opening = refl;
          whole = inl (image_there texts s op.image, inl refl);
          bears = λ some. (below, inl refl);
        }));
        new = λ n is_new. absurd (never_new n is_new);
        other = λ other home. (image_there texts s op.image, inl refl);
        shut = λ same. let lt = below in absurd (omega arith);
      })

  abbrev took_now : ℕ → List ℕ
  took_now = with_taken d.took s b

  same_head : (c : ℕ) → has (took_now id) c ≡ true → has (d.took id) c ≡ true
  same_head c is = elim (taken_either d.took s b id c is) as (λ _. has (d.took id) c ≡ true) [
    | inl at ↦ (let lt = below in let same = at.0 in absurd (omega arith))
    | inr old ↦ old
  ]

  resealed_known : IsMirrored (recounted d d.counts d.shut took_now) more q
  resealed_known =
      let mirror = put.mirrored in
      mirrored_again d more q d.counts d.shut took_now more_logged mirror (record {
        longer = λ t. taken_longer d.took s b t;
        reach = λ c r there h. elim h.reach as (λ _. ((has (took_now id) c ≡ true) × (d.counts c ≤ h.k))
            ⊎ ((h.k ≡ length d.head.units) × (is_failing d.mode ≡ true))) [
              | inl had ↦ inl (taken_still d.took s b id c had.0, had.1)
              | inr all ↦ inr all
            ];
        head = λ c is. mirror.head c (same_head c is);
        new = λ n c is_new. absurd (never_new n is_new);
        others = λ t c other is works. elim (taken_either d.took s b t c is) as (λ _. HoldsCopy more q c t) [
          | inl at ↦ subst (λ (x : ℕ). HoldsCopy more q x t) (sym at.1)
              (subst (λ (x : ℕ). HoldsCopy more q b x) (sym at.0)
              (image, put.there, (image_there texts s op.image, inl refl)))
          | inr old ↦ mirror.others t c other (old, works)
        ];
        whole = λ n c f is_new. absurd (never_new n is_new);
        is_shut = mirror.shut;
        homes = λ settled c is. mirror.homes settled c (same_head c is);
        new_homes = λ n c is. absurd (never_new n (inl is));
      })

-- a repair that is taken, whether the master knows it or not
pub reseals_held : ResealsHeld
reseals_held d e texts p q o held op within took =
    let more = texts_resealed texts op in
    let took_now = with_taken d.took op.s op.b in
    let log = more_logged d e texts p q o held.logged held.mirrored op took within in (
      record {
        some = held.some;
        logged = log;
        mirrored = (put d e texts p q o held.logged held.mirrored op took within).mirrored;
      },
      subst (λ (x : FailData). IsLogHeld x more q) (sym op.gives) (record {
        some = held.some;
        logged = logged_again d more d.counts d.shut took_now log log.counted;
        mirrored = resealed_known d e texts p q o held.logged held.mirrored op took within;
      }),
    )

pub reseals_standing : ResealsStanding
reseals_standing d e texts p q o held old op stands within took =
    let more = texts_resealed texts op in
    let standing = more_standing d e texts p q o held.logged held.mirrored op took within old stands in
    let lt = below d e texts p q o held.logged held.mirrored op took within in
    let same = everywhere_apart d op.s op.b (λ is. omega arith) in (
      standing,
      subst (λ (x : FailData). IsStanding x more) (sym op.gives)
          (standing_again d more d.counts d.shut (with_taken d.took op.s op.b) standing (omega arith)),
    )
