-- A master that took over a recovered map begins its history.
use Rattle.std.proofs.Common.{◌≡◌, ℕ, inl, inr, false, List, ◌++◌, length, Some, refl, sym, ap, subst, ◌∙◌, arith}
use Rattle.std.specs.Prelude.{None}
use Rattle.std.proofs.lemmas.List.{append-nil}
use Rattle.entry.specs.declared.entry.Entry.{Entry}
use Rattle.entry.specs.Bag.{IsAmong}
use Rattle.versioned_map.specs.Represents.{Represents}
use Rattle.versioned_map.specs.Versioned.{State}
use Rattle.log_laws.specs.Heads.{Start, entries_of}
use Rattle.log_laws.specs.Text.{Replica}
use Rattle.log_laws.specs.Shown.{Shown}
use Rattle.log_laws.specs.Data.{front, front_entries, FailData, new_of, is_failing, is_settled, IsNew}
use Rattle.log_laws.specs.Log.{Texts, IsLogHeld, IsLogged, IsHeadReplica, IsReplica, IsMirrored, IsStanding}
use Rattle.log_laws.specs.Steps.{IsLoaded, adopted}
use Rattle.log_laws.specs.Laws.{AdoptedKnown, OpeningIsApart}
use Rattle.log_laws.proofs.Lists.{both_ways}
use Rattle.log_laws.proofs.States.{take_none}

module _ (d : FailData) (p : Shown) (st : State) (is : IsLoaded d p st) where
  abbrev e : FailData
  e = adopted d st

  abbrev loaded : List Entry
  loaded = front_entries d.head (length d.head.units)

  works : is_failing d.mode ≡ false
  works = ap is_failing is.calm

  none_new : (n : Start) → IsNew d n → ⊥
  none_new n (inl new) = let never : None ≡ Some n = sym (ap new_of is.calm) ∙ new in cc
  none_new n (inr among) = subst (IsAmong n) (is.held.logged.settled (ap is_settled is.calm)) among

  -- its fronts are what was loaded
  pub front_is : (k : ℕ) → front_entries e.head k ≡ loaded
  front_is k =
      ap (λ (es : List Entry). loaded ++ es) (ap entries_of (take_none k)) ∙ append-nil loaded

  pub front_all : (k : ℕ) → k ≡ length d.head.units → front d.head k ≡ front e.head 0
  front_all k all = ap (front d.head) all
      ∙ (λ i. record { opening = (front d.head 0).opening; entries = sym (front_is 0) i })

  -- each replica of the head has all that was loaded, and is open
  head_then : (b : ℕ) (r : Replica) → IsHeadReplica d b r → IsHeadReplica e b r
  head_then b r at = elim at.reach as (λ _. IsHeadReplica e b r) [
    | inl had ↦ (
        let whole = is.whole b had.0 in
        let le = had.1 in
        let within = at.within in
        let all : at.k ≡ length d.head.units = omega arith in
        record {
          k = 0;
          within = omega arith;
          text = at.text ∙ front_all at.k all;
          reach = inl (had.0, omega arith);
          shut = λ closed. let stage = (at.shut closed).1 in absurd (none_new stage.n stage.is_new);
        })
    | inr all ↦ absurd (both_ways (is_failing d.mode) all.1 works)
  ]

  each_then : (b s : ℕ) (r : Replica) → IsReplica d is.texts p.least b s r → IsReplica e is.texts p.least b s r
  each_then b s r (inl at) = inl (at.0, head_then b r at.1)
  each_then b s r (inr (inl at)) = absurd (none_new at.0 at.1)
  each_then b s r (inr (inr at)) =
      inr (inr (record { next = at.next; opening = at.opening; whole = at.whole; bears = at.bears }))

  pub adopted_mirrored : IsMirrored e is.texts p
  adopted_mirrored =
      let mir = is.held.mirrored in
      record {
        bounded = mir.bounded;
        each = λ b s r there. each_then b s r (mir.each b s r there);
        head = mir.head;
        opened = mir.opened;
        new = mir.new;
        others = mir.others;
        whole = λ n b c new. absurd (none_new n new);
        least = mir.least;
        raised = mir.raised;
        shut = mir.shut;
        homes = mir.homes;
        new_homes = mir.new_homes;
      }

  pub adopted_logged : IsLogged e is.texts
  adopted_logged =
      let log = is.held.logged in
      record {
        head = log.head;
        text = log.text ∙ front_all (length d.head.units) refl;
        counted = λ b. omega arith;
        one = log.one;
        some = λ u among. absurd among;
        new = log.new;
        newer = log.newer;
        new_text = log.new_text;
        new_one = log.new_one;
        keys = log.keys;
        images = log.images;
        above = log.above;
        settled = log.settled;
        repairs = λ repairs. absurd (both_ways (is_failing d.mode) (ap is_failing repairs) works);
        two = log.two;
      }

  pub adopted_standing : IsStanding e is.texts
  adopted_standing = record {
    numbers = omega arith;
    fronts = λ k base le at.
        subst (λ (es : List Entry). Represents d.head.start.safe (base ++ es) st) (sym (front_is k))
        (is.stands base at);
    new = λ n new. absurd (none_new n new);
    frozen = λ fails. absurd (both_ways (is_failing d.mode) fails works);
  }

-- and the master knows what is held
pub adopted_known : AdoptedKnown
adopted_known d p st is known = record {
  absent = known.absent;
  new = known.new;
  head = known.head;
  exact = λ b r home there.
      let old = known.exact b r home there in
      (old.0 ∙ front_all d p st is (d.counts b) (is.whole b home.0), old.1);
}

-- ---- another opening

module _ (d : FailData) (texts : Texts) (p : Shown) (st : State) (held : IsLogHeld d texts p) where
  abbrev o : FailData
  o = record d { opening = st }

  each_opening : (b s : ℕ) (r : Replica) → IsReplica d texts p.least b s r → IsReplica o texts p.least b s r
  each_opening b s r (inl at) = inl (
    at.0,
    record {
      k = at.1.k;
      within = at.1.within;
      text = at.1.text;
      reach = at.1.reach;
      shut = λ closed.
          let all = at.1.shut closed in
          (all.0, record { n = all.1.n; is_new = all.1.is_new; opened = all.1.opened });
    },
  )
  each_opening b s r (inr (inl at)) = inr (inl at)
  each_opening b s r (inr (inr at)) =
      inr (inr (record { next = at.next; opening = at.opening; whole = at.whole; bears = at.bears }))

  pub opening_held : IsLogHeld o texts p
  opening_held =
      let log = held.logged in
      let mir = held.mirrored in
      record {
        some = held.some;
        logged = record {
          head = log.head;
          text = log.text;
          counted = log.counted;
          some = log.some;
          one = log.one;
          new = log.new;
          newer = log.newer;
          new_text = log.new_text;
          new_one = log.new_one;
          keys = log.keys;
          images = log.images;
          above = log.above;
          settled = log.settled;
          repairs = log.repairs;
          two = log.two;
        };
        mirrored = record {
          bounded = mir.bounded;
          each = λ b s r there. each_opening b s r (mir.each b s r there);
          head = mir.head;
          opened = mir.opened;
          new = mir.new;
          others = mir.others;
          whole = mir.whole;
          least = mir.least;
          raised = mir.raised;
          shut = mir.shut;
          homes = mir.homes;
          new_homes = mir.new_homes;
        };
      }

pub opening_is_apart : OpeningIsApart
opening_is_apart d texts p st held known = (
  opening_held d texts p st held,
  record { absent = known.absent; new = known.new; head = known.head; exact = known.exact },
)
