-- What changes of a master when an op is taken on its heads: counts, who took what, what is closed.
use Rattle.std.proofs.Common.{◌≡◌, ℕ, ◌≤◌, ◌⊎◌, inl, inr, true, false, List, length, Some, subst, arith}
use Rattle.std.specs.Prelude.{IsSome}
use Rattle.log_laws.proofs.Counts.{before_rise}
use Rattle.log_laws.specs.Ids.{has}
use Rattle.log_laws.specs.Heads.{Start}
use Rattle.log_laws.specs.Text.{Replica}
use Rattle.log_laws.specs.Shown.{Shown}
use Rattle.log_laws.specs.Data.{bare_replica, FailData, IsNew, new_of, is_failing, is_settled, everywhere}
use Rattle.log_laws.specs.Log.{Texts, IsLogged, NewIsOpened, IsHeadReplica, IsReplica, IsOther, HoldsCopy}
use Rattle.log_laws.specs.Log.{IsLeast, IsMirrored, IsStanding}

-- the master with other counts
abbrev pub recounted : FailData → (ℕ → ℕ) → List ℕ → (ℕ → List ℕ) → FailData
recounted d counts shut took = record d { counts = counts; shut = shut; took = took }

module _ (d : FailData) (texts : Texts) (counts : ℕ → ℕ) (shut : List ℕ) (took : ℕ → List ℕ) where
  abbrev e : FailData
  e = recounted d counts shut took

  pub logged_again : IsLogged d texts → ((b : ℕ) → counts b ≤ length d.head.units) → IsLogged e texts
  logged_again log counted = record {
    head = log.head;
    text = log.text;
    counted = counted;
    one = log.one;
    some = log.some;
    new = log.new;
    newer = log.newer;
    new_text = log.new_text;
    new_one = log.new_one;
    keys = log.keys;
    above = log.above;
    settled = log.settled;
    images = log.images;
    repairs = log.repairs;
    two = log.two;
  }

  -- if no count falls, what stood stands
  pub standing_again : IsStanding d texts → everywhere d ≤ everywhere e → IsStanding e texts
  standing_again standing le = record {
    numbers = standing.numbers;
    fronts = standing.fronts;
    new = standing.new;
    frozen = λ is.
        let old = standing.frozen is in
        let rise = before_rise 0 d.head.units (length d.history) (everywhere d) (everywhere e) standing.numbers le in
        omega arith;
  }

-- What the backups hold, said anew for the counts and for who took what.
pub record IsAgain (d : FailData) (texts : Texts) (q : Shown) (counts : ℕ → ℕ) (shut : List ℕ) (took : ℕ → List ℕ)
    : Type 0 where
  pub longer : (s : ℕ) → length (d.took s) ≤ length (took s)
  pub reach : (c : ℕ) (r : Replica) → q.holds c d.head.start.id ≡ Some r → (h : IsHeadReplica d c r)
      → ((has (took d.head.start.id) c ≡ true) × (counts c ≤ h.k))
      ⊎ ((h.k ≡ length d.head.units) × (is_failing d.mode ≡ true))
  pub head : (c : ℕ) → has (took d.head.start.id) c ≡ true → IsSome (q.holds c d.head.start.id)
  pub new : (n : Start) (c : ℕ) → IsNew d n → has (took n.id) c ≡ true → q.holds c n.id ≡ Some (bare_replica n)
  pub others : (s c : ℕ) → IsOther d s → has (took s) c ≡ true → has d.failed c ≡ false → HoldsCopy texts q c s
  pub whole : (n : Start) (c f : ℕ) → IsNew d n → IsSome (q.holds c n.id) → has (took d.head.start.id) f ≡ true
      → has d.failed f ≡ false → counts f ≡ length d.head.units
  pub is_shut : (c : ℕ) (r : Replica) → has shut c ≡ true → q.holds c d.head.start.id ≡ Some r → r.is_open ≡ false
  pub homes : is_settled d.mode ≡ true → (c : ℕ) → has (took d.head.start.id) c ≡ true → has d.failed c ≡ false
  pub new_homes : (n : Start) (c : ℕ) → new_of d.mode ≡ Some n → has (took n.id) c ≡ true → has d.failed c ≡ false

module _ (d : FailData) (texts : Texts) (q : Shown) (counts : ℕ → ℕ) (shut : List ℕ) (took : ℕ → List ℕ)
    (log : IsLogged d texts) (mir : IsMirrored d texts q) (again : IsAgain d texts q counts shut took) where
  abbrev f : FailData
  f = recounted d counts shut took

  stage_again : NewIsOpened d → NewIsOpened f
  stage_again stage =
      let old = stage.opened in
      let more = again.longer stage.n.id in
      record { n = stage.n; is_new = stage.is_new; opened = omega arith }

  each_again : (c s : ℕ) (r : Replica) → q.holds c s ≡ Some r → IsReplica d texts q.least c s r
      → IsReplica f texts q.least c s r
  each_again c s r there (inl is) =
      inl (
        is.0,
        record {
          k = is.1.k;
          within = is.1.within;
          text = is.1.text;
          reach = again.reach c r (subst (λ (t : ℕ). q.holds c t ≡ Some r) is.0 there) is.1;
          shut = λ closed. let all = is.1.shut closed in (all.0, stage_again all.1);
        },
      )
  each_again c s r there (inr (inl is)) = inr (inl is)
  each_again c s r there (inr (inr is)) =
      inr (inr (record { next = is.next; opening = is.opening; whole = is.whole; bears = is.bears }))

  least_again : IsLeast d q.least → IsLeast f q.least
  least_again (inl old) = inl old
  least_again (inr third) =
      let old = third.3 in
      let more = again.longer third.0.id in inr (third.0, third.1, third.2, omega arith)

  opened_again : (d.head.start.id ≡ 0) ⊎ (d.config.replicas ≤ length (d.took d.head.start.id))
      → (d.head.start.id ≡ 0) ⊎ (d.config.replicas ≤ length (took d.head.start.id))
  opened_again (inl none) = inl none
  opened_again (inr old) = let more = again.longer d.head.start.id in inr (omega arith)

  pub mirrored_again : IsMirrored f texts q
  mirrored_again = record {
    bounded = mir.bounded;
    each = λ c s r is. each_again c s r is (mir.each c s r is);
    head = again.head;
    opened = opened_again mir.opened;
    new = again.new;
    others = λ s c other home. again.others s c other home.0 home.1;
    whole = λ n c g is_new some home. again.whole n c g is_new some home.0 home.1;
    least = least_again mir.least;
    raised = mir.raised;
    shut = again.is_shut;
    homes = again.homes;
    new_homes = again.new_homes;
  }
