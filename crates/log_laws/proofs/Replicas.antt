-- What each replica is: which have a digest, and which a choice may take whole.
use Rattle.std.proofs.Common.{◌≡◌, ℕ, ◌<◌, ◌≤◌, ◌⊎◌, inl, inr, true, false, ◌++◌, length, drop, Some, refl, sym, ap}
use Rattle.std.proofs.Common.{subst, ◌∙◌, arith}
use Rattle.std.specs.Prelude.{Option, IsSome, IfSome}
use Rattle.std.proofs.lemmas.Bool.{cases_lt, cases_eq, cases_Bool}
use Rattle.entry.specs.Bag.{IsAmong}
use Rattle.log_laws.specs.Heads.{Start, digest_for, entries_of}
use Rattle.log_laws.specs.Ids.{has}
use Rattle.log_laws.specs.Text.{Text, Replica, length_of, IsUsable}
use Rattle.log_laws.specs.Shown.{Shown}
use Rattle.log_laws.specs.Data.{front, bare_replica, FailData, IsNew, IsHome, HasTaken, is_failing, is_settled}
use Rattle.log_laws.specs.Data.{everywhere}
use Rattle.log_laws.specs.Log.{Texts, IsStart, IsLogged, IsCopy, IsCut, IsHeadReplica, IsReplica, HoldsCopy}
use Rattle.log_laws.specs.Log.{IsMirrored}
use Rattle.log_laws.proofs.Lengths.{listed_two}
use Rattle.log_laws.proofs.Lists.{some_is, both_ways, front_shorter, fewest_of, fewest_units}
use Rattle.log_laws.proofs.States.{settled_if, front_rest}

module _ (d : FailData) (texts : Texts) (log : IsLogged d texts) (least : ℕ) where
  abbrev id : ℕ
  id = d.head.start.id

  abbrev Is : ℕ → ℕ → Replica → Type 0
  Is b s r = IsReplica d texts least b s r

  -- ---- openings

  pub any_opening : (b s : ℕ) (r : Replica) → Is b s r → r.text.opening ≡ (texts.text s).opening
  any_opening b s r (inl is) =
      ap (λ (t : Text). t.opening) is.1.text
      ∙ sym (ap (λ (t : Text). t.opening) (ap texts.text is.0 ∙ log.text))
  any_opening b s r (inr (inl is)) =
      ap (λ (q : Replica). q.text.opening) is.3
      ∙ sym (ap (λ (t : Text). t.opening) (ap texts.text is.2 ∙ log.new_text is.0 is.1))
  any_opening b s r (inr (inr is)) = is.opening

  -- a replica of the head, of a new head, or of an older one
  abbrev pub Bearing : ℕ → ℕ → Replica → Type 0
  Bearing b s r = ((s ≡ id) × IsHeadReplica d b r)
      ⊎ (((n : Start) × IsNew d n × (s ≡ n.id) × (r ≡ bare_replica n))
      ⊎ ((s < id) × ((r.is_open ≡ false) ⊎ (s < least))))

  pub bearing : (b s : ℕ) (r : Replica) → Is b s r → IsSome r.text.opening → Bearing b s r
  bearing b s r (inl is) some = inl is
  bearing b s r (inr (inl is)) some = inr (inl is)
  bearing b s r (inr (inr is)) some = inr (inr (is.bears (subst IsSome is.opening some)))

  -- nothing is held of an id that isn't used
  pub next_of : (b t : ℕ) (r : Replica) → Is b t r → t < d.next
  next_of b t r (inl is) = let same = is.0 in let lt = log.head.next in omega arith
  next_of b t r (inr (inl is)) = let same = is.2 in let lt = (log.new is.0 is.1).next in omega arith
  next_of b t r (inr (inr is)) = is.next

  -- ---- whole replicas

  -- a front that isn't whole is shorter
  head_cut : (k : ℕ) → k < length d.head.units
      → length_of (front d.head k) < length_of (texts.text id)
  head_cut k lt =
      let less = front_shorter d.head k (length d.head.units) log.some lt (omega arith) in
      let whole : length_of (texts.text id) ≡ length_of (front d.head (length d.head.units)) =
      ap length_of log.text in omega arith

  -- no backup of a head that was opened after the last failure has failed
  abbrev AreWorking : Type 0
  AreWorking = is_settled d.mode ≡ true → (b : ℕ) → HasTaken d id b → has d.failed b ≡ false

  -- each home of the head in force has all its units
  abbrev pub AllWhole : Type 0
  AllWhole = (b : ℕ) → IsHome d id b → d.counts b ≡ length d.head.units

  -- under format 1 a replica of the head has all units then
  one_reach : AreWorking → AllWhole → (b : ℕ) (r : Replica) (is : IsHeadReplica d b r) → (d.config.format ≡ 2 → ⊥)
      → is.k < length d.head.units → ⊥
  one_reach working all b r is one lt = elim (cases_Bool (is_failing d.mode)) as (λ _. ⊥) [
    | inl fails ↦ one (log.two fails)
    | inr works ↦ elim is.reach as (λ _. ⊥) [
      | inl took ↦ (
          let whole = all b (took.0, working (settled_if d.mode works) b took.0) in
          let le = took.1 in omega arith)
      | inr whole ↦ (let same = whole.0 in omega arith)
    ]
  ]

  head_whole : AreWorking → AllWhole → (b : ℕ) (r : Replica) (is : IsHeadReplica d b r)
      → IsCopy texts id r ⊎ IsCut d.config texts id r
  head_whole working all b r is = elim (cases_lt is.k (length d.head.units))
      as (λ _. IsCopy texts id r ⊎ IsCut d.config texts id r) [
        | inl lt ↦ elim (cases_eq d.config.format 2) as (λ _. IsCopy texts id r ⊎ IsCut d.config texts id r) [
          | inl two ↦ inr (record {
            two = two;
            is_open = elim (cases_Bool r.is_open) as (λ _. r.is_open ≡ true) [
              | inl opened ↦ opened
              | inr closed ↦ (let every = (is.shut closed).0 in absurd (omega arith))
            ];
            shorter = (
                let less = head_cut is.k lt in
                let size : length_of r.text ≡ length_of (front d.head is.k) = ap length_of is.text in omega arith);
            rest = entries_of (drop is.k d.head.units);
            begins = ap (λ (t : Text). t.entries) log.text ∙ front_rest d.head is.k
                ∙ ap (λ (t : Text). t.entries ++ entries_of (drop is.k d.head.units)) (sym is.text);
          })
          | inr one ↦ absurd (one_reach working all b r is one lt)
        ]
        | inr ge ↦ (
            let within = is.within in
            let every : is.k ≡ length d.head.units = omega arith in
            let same : r.text ≡ texts.text id = is.text ∙ ap (front d.head) every ∙ sym log.text in
            inl (inl (ap (λ (t : Text). t.entries) same), inr same))
      ]

  pub any_whole : AreWorking → (b s : ℕ) (r : Replica) → (s ≡ id → AllWhole) → Is b s r
      → IsCopy texts s r ⊎ IsCut d.config texts s r
  any_whole working b s r all (inl is) =
      subst (λ (t : ℕ). IsCopy texts t r ⊎ IsCut d.config texts t r) (sym is.0)
      (head_whole working (all is.0) b r is.1)
  any_whole working b s r all (inr (inl is)) =
      let same : r.text ≡ texts.text s =
      ap (λ (q : Replica). q.text) is.3 ∙ sym (ap texts.text is.2 ∙ log.new_text is.0 is.1) in
      inl (inl (ap (λ (t : Text). t.entries) same), inr same)
  any_whole working b s r all (inr (inr is)) = is.whole

  -- ---- usable replicas

  -- a usable replica of a listed segment is whole
  pub usable_whole : AreWorking → (n : Start) → IsStart d.config d.next texts n → (b s : ℕ) (r : Replica)
      → IsAmong s n.others → (s ≡ id → AllWhole) → Is b s r → IsUsable (digest_for n) s r → IsCopy texts s r
  usable_whole working n start b s r m all is usable =
      elim (any_whole working b s r all is) as (λ _. IsCopy texts s r) [
        | inl copy ↦ copy
        | inr cut ↦ absurd (never cut usable)
      ] where
        never : IsCut d.config texts s r → IsUsable (digest_for n) s r → ⊥
        never cut (inl shut) = both_ways r.is_open cut.is_open shut
        never cut (inr long) =
            let enough : length_of (texts.text s) ≤ length_of r.text =
            subst (λ (o : Option ℕ). IfSome o (λ (k : ℕ). k ≤ length_of r.text))
            (listed_two d.config texts n start.lens s m cut.two) long in
            let less = cut.shorter in omega arith

-- what all backups of the head took, each replica of it has
pub all_reach : (d : FailData) (b : ℕ) (r : Replica) (is : IsHeadReplica d b r) → everywhere d ≤ is.k
all_reach d b r is = elim is.reach as (λ _. everywhere d ≤ is.k) [
  | inl took ↦ (
      let le = fewest_of (length d.head.units) d.counts (d.took d.head.start.id) b took.0 in
      let more = took.1 in omega arith)
  | inr all ↦ (
      let le = fewest_units (length d.head.units) d.counts (d.took d.head.start.id) in
      let same = all.0 in omega arith)
]

-- ---- the head's homes

module _ (d : FailData) (texts : Texts) (p : Shown) (log : IsLogged d texts) (mir : IsMirrored d texts p) where
  -- the units that a replica on a home has
  pub home_reach : (b : ℕ) (r : Replica) (is : IsHeadReplica d b r) → d.counts b ≡ length d.head.units
      → is.k ≡ length d.head.units
  home_reach b r is all = elim is.reach as (λ _. is.k ≡ length d.head.units) [
    | inl took ↦ (let more = took.1 in let within = is.within in omega arith)
    | inr whole ↦ whole.0
  ]

  -- what the head's place on a backup holds is a replica of the head
  pub head_only : (b : ℕ) (r : Replica) → p.holds b d.head.start.id ≡ Some r → IsHeadReplica d b r
  head_only b r there = go (mir.each b d.head.start.id r there) where
    go : IsReplica d texts p.least b d.head.start.id r → IsHeadReplica d b r
    go (inl is) = is.1
    go (inr (inl is)) = let newer = log.newer is.0 is.1 in let same = is.2 in absurd (omega arith)
    go (inr (inr is)) =
        let some : IsSome (texts.text d.head.start.id).opening =
        subst IsSome (sym (ap (λ (t : Text). t.opening) log.text)) refl in
        let lt = (is.bears some).0 in absurd (omega arith)

  -- a home that has all units holds the head whole
  pub head_copy : (b : ℕ) → IsHome d d.head.start.id b
      → (IsHome d d.head.start.id b → d.counts b ≡ length d.head.units) → HoldsCopy texts p b d.head.start.id
  head_copy b home whole =
      let there = some_is (p.holds b d.head.start.id) (mir.head b home.0) in
      let is = head_only b there.0 there.1 in
      let same : there.0.text ≡ texts.text d.head.start.id =
      is.text ∙ ap (front d.head) (home_reach b there.0 is (whole home)) ∙ sym log.text in
      (there.0, there.1, (inl (ap (λ (t : Text). t.entries) same), inr same))
