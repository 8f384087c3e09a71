-- The head that `newest_opened` gives is the newest opened head of a kept log.
use Rattle.std.proofs.Common.{◌≡◌, ℕ, ◌≤◌, ◌⊎◌, inl, inr, Bool, true, false, cond, List, [], ◌∷◌, ◌++◌, length, max}
use Rattle.std.proofs.Common.{Some, refl, sym, ap, subst, ◌∙◌, arith}
use Rattle.std.specs.Prelude.{Option, None, IsSome, IsSomeAnd, nat_le, option_to_list}
use Rattle.std.proofs.lemmas.Bool.{cases_lt}
use Rattle.std.proofs.lemmas.Bool.Decides.{nat_tests}
use Rattle.std.proofs.lemmas.Option.{same_Some}
use Rattle.entry.specs.Bag.{IsAmong}
use Rattle.entry.proofs.BagLemmas.{among_left, among_right, among_either}
use Rattle.entry.specs.Text.{opening_in}
use Rattle.replica.specs.Picture.{Replica as RealReplica, Shown}
use Rattle.replica.specs.Survival.{HoldsHead}
use Rattle.log_laws.specs.Heads.{Start}
use Rattle.log_laws.proofs.IdLists.{some_given, some_is}
use Rattle.log_laws.specs.Text.{Replica}
use Rattle.log_laws.specs.Shown.{Shown as ModelShown}
use Rattle.log_laws.specs.Choice.{IsNewestOpened}
use Rattle.log_laws.specs.Data.{FailData, Mode, Calm, Rolls, Mends, Opens, Closes, Repairs, HasTaken, IsNew}
use Rattle.log_laws.specs.Data.{new_of}
use Rattle.log_laws.specs.Data.{failover_head_of, bare_replica}
use Rattle.log_laws.specs.Log.{Texts, IsReplica, IsLogHeld}
use Rattle.log_bytes.specs.Spelled.{IsSpelled}
use Rattle.log_bytes.specs.Choice.{IsOpenedHead, IsNewestOpenedOrNone, is_opened, greater, greatest_opened, heads_now}
use Rattle.log_bytes.specs.Choice.{newest_opened}
use Rattle.log_bytes.specs.Laws.{NewestIsOpened}
use Rattle.log_bytes.proofs.Texts.{reads_opening}
use Rattle.log_bytes.proofs.Reading.{held_spelled, spelled_held}
use Rattle.log_bytes.proofs.NewestHomes.{taker, head_bears}

-- ---- the greatest of some heads

module _ (d : FailData) where
  -- one of them is the greatest that was opened
  record Greatest (ns : List Start) (s : ℕ) : Type 0 where
    n : Start
    among : IsAmong n ns
    same : n.id ≡ s
    opened : is_opened d n.id ≡ true

  later : (n : Start) (ns : List Start) (s : ℕ) → Greatest ns s → Greatest (n ∷ ns) s
  later n ns s g = record { n = g.n; among = inr g.among; same = g.same; opened = g.opened }

  first : (n : Start) (ns : List Start) (s : ℕ) → n.id ≡ s → is_opened d n.id ≡ true → Greatest (n ∷ ns) s
  first n ns s same opened = record { n = n; among = inl refl; same = same; opened = opened }

  found_next : (n : Start) (ns : List Start) (s : ℕ) → ((t : ℕ) → greatest_opened d ns ≡ Some t → Greatest ns t)
      → greatest_opened d (n ∷ ns) ≡ Some s → Greatest (n ∷ ns) s
  found_next n ns s rest is = by_test (is_opened d n.id) refl is where
    by_rest : is_opened d n.id ≡ true → (o : Option ℕ) → greatest_opened d ns ≡ o → greater n.id o ≡ Some s
        → Greatest (n ∷ ns) s
    by_rest opened None none e = first n ns s (same_Some n.id s e) opened
    by_rest opened (Some t) some e = elim (cases_lt n.id t) as (λ _. Greatest (n ∷ ns) s) [
      | inl less ↦ (
          let most : max n.id t ≡ t = omega arith in
          later n ns s (subst (Greatest ns) (sym most ∙ same_Some (max n.id t) s e) (rest t some)))
      | inr more ↦ (
          let most : max n.id t ≡ n.id = omega arith in
          first n ns s (sym most ∙ same_Some (max n.id t) s e) opened)
    ]

    by_test : (b : Bool) → is_opened d n.id ≡ b
        → cond b (greater n.id (greatest_opened d ns)) (greatest_opened d ns) ≡ Some s → Greatest (n ∷ ns) s
    by_test true opened e = by_rest opened (greatest_opened d ns) refl e
    by_test false closed e = later n ns s (rest s e)

  found : (ns : List Start) (s : ℕ) → greatest_opened d ns ≡ Some s → Greatest ns s
  found [] s is = absurd (cc)
  found (n ∷ ns) s is = found_next n ns s (found ns) is

  -- the greatest is at least this
  abbrev IsAtLeast : ℕ → Option ℕ → Type 0
  IsAtLeast m o = (s : ℕ) × (o ≡ Some s) × (m ≤ s)

  itself : (m : ℕ) (o : Option ℕ) → IsAtLeast m (greater m o)
  itself m None = (m, refl, omega arith)
  itself m (Some t) = (max m t, refl, omega arith)

  beside : (x m : ℕ) (o : Option ℕ) → IsAtLeast m o → IsAtLeast m (greater x o)
  beside x m None (t, is, le) = absurd (cc)
  beside x m (Some u) (t, is, le) = let same = same_Some u t is in (max x u, refl, omega arith)

  at_least : (ns : List Start) (n : Start) → IsAmong n ns → is_opened d n.id ≡ true
      → IsAtLeast n.id (greatest_opened d ns)
  at_least [] n m opened = absurd m
  at_least (x ∷ ns) n (inl same) opened =
      let test : is_opened d x.id ≡ true = ap (λ (y : Start). is_opened d y.id) same ∙ opened in
      subst (λ (k : ℕ). IsAtLeast k (greatest_opened d (x ∷ ns))) (ap (λ (y : Start). y.id) same)
      (subst (λ (b : Bool). IsAtLeast x.id (cond b (greater x.id (greatest_opened d ns)) (greatest_opened d ns)))
      (sym test) (itself x.id (greatest_opened d ns)))
  at_least (x ∷ ns) n (inr m) opened = by_test (is_opened d x.id) (at_least ns n m opened) where
    by_test : (b : Bool) → IsAtLeast n.id (greatest_opened d ns)
        → IsAtLeast n.id (cond b (greater x.id (greatest_opened d ns)) (greatest_opened d ns))
    by_test true rest = beside x.id n.id (greatest_opened d ns) rest
    by_test false rest = rest

-- ---- the heads of a log

module _ (master : ℕ) (d : FailData) (texts : Texts) (shown : Shown) (p : ModelShown)
    (spelled : IsSpelled master shown p) (held : IsLogHeld d texts p) where
  abbrev id : ℕ
  id = d.head.start.id

  -- a head now is a new one or that in force
  abbrev IsNow : Start → Type 0
  IsNow n = IsNew d n ⊎ (n ≡ d.head.start)

  now_is : (n : Start) → IsAmong n (heads_now d) → IsNow n
  now_is n m = elim (among_either n (option_to_list (new_of d.mode)) (d.abandoned ++ d.head.start ∷ []) m)
      as (λ _. IsNow n) [
        | inl new ↦ inl (inl (listed (new_of d.mode) new))
        | inr rest ↦ elim (among_either n d.abandoned (d.head.start ∷ []) rest) as (λ _. IsNow n) [
          | inl old ↦ inl (inr old)
          | inr last ↦ (elim last as (λ _. IsNow n) [ inl same ↦ inr (sym same) | inr never ↦ absurd never ])
        ]
      ]
    where
      listed : (o : Option Start) → IsAmong n (option_to_list o) → o ≡ Some n
      listed None never = absurd never
      listed (Some x) (inl same) = ap (λ (y : Start). Some y) same
      listed (Some x) (inr never) = absurd never

  is_now : (n : Start) → IsNow n → IsAmong n (heads_now d)
  is_now n (inl (inl new)) =
      among_left n (option_to_list (new_of d.mode)) (d.abandoned ++ d.head.start ∷ [])
      (subst (λ (o : Option Start). IsAmong n (option_to_list o)) (sym new) (inl refl))
  is_now n (inl (inr old)) =
      among_right n (option_to_list (new_of d.mode)) (d.abandoned ++ d.head.start ∷ [])
      (among_left n d.abandoned (d.head.start ∷ []) old)
  is_now n (inr same) =
      among_right n (option_to_list (new_of d.mode)) (d.abandoned ++ d.head.start ∷ [])
      (among_right n d.abandoned (d.head.start ∷ []) (inl (sym same)))

  no_older : (n : Start) → IsNow n → id ≤ n.id
  no_older n (inl new) = let newer = held.logged.newer n new in omega arith
  no_older n (inr same) = let e = ap (λ (y : Start). y.id) same in omega arith

  -- a replica with an opening is a head's
  bears_head : (b s : ℕ) (r : Replica) → p.holds b s ≡ Some r → IsSome r.text.opening → HoldsHead shown master b s
  bears_head b s r there bears =
      subst (λ (o : Option RealReplica). IsSomeAnd o (λ (x : RealReplica). IsSome (opening_in x.bytes)))
      (sym (spelled_held master shown p spelled b s r there))
      (subst IsSome (sym (reads_opening master s r.text (spelled.segments b s r there))) bears)

  few : (s : ℕ) → is_opened d s ≡ true → d.config.replicas ≤ length (d.took s)
  few s opened = tested d.config.replicas (length (d.took s)) opened where
    tested : (m n : ℕ) → nat_le m n ≡ true → m ≤ n
    tested m n is = grind (arith, nat_tests)

  opened_if : (s : ℕ) → d.config.replicas ≤ length (d.took s) → is_opened d s ≡ true
  opened_if s le = tested d.config.replicas (length (d.took s)) le where
    tested : (m n : ℕ) → m ≤ n → nat_le m n ≡ true
    tested m n is = grind (arith, nat_tests)

  -- a head that was opened counts
  counts : (n : Start) → IsNow n → is_opened d n.id ≡ true → IsOpenedHead d master shown n.id
  counts n is opened =
      let le = few n.id opened in
      let some = held.some in
      let took = taker (d.took n.id) (omega arith) in
      (le, (took.0, took.1, holds is took.0 took.1))
    where
      holds : IsNow n → (b : ℕ) → HasTaken d n.id b → HoldsHead shown master b n.id
      holds (inl new) b took = bears_head b n.id (bare_replica n) (held.mirrored.new n b new took) refl
      holds (inr same) b took =
          let e = ap (λ (y : Start). y.id) same in
          let there = some_is (p.holds b id) (held.mirrored.head b (subst (λ (k : ℕ). HasTaken d k b) e took)) in
          subst (λ (k : ℕ). HoldsHead shown master b k) (sym e)
          (bears_head b id there.0 there.1 (head_bears master d texts shown p spelled held b there.0
          (held.mirrored.each b id there.0 there.1)))

  -- one that counts is at most the greatest
  at_most : (u : ℕ) → IsOpenedHead d master shown u → IsAtLeast d u (newest_opened d)
  at_most u is =
      let holds = some_given (shown.holds is.1.0 master u) (λ (x : RealReplica). IsSome (opening_in x.bytes)) is.1.2 in
      let q = held_spelled master shown p spelled is.1.0 u holds.0 holds.1 in
      let opening = ap (λ (x : RealReplica). opening_in x.bytes) q.2
      ∙ reads_opening master u q.0.text (spelled.segments is.1.0 u q.0 q.1) in
      by_replica is.1.0 q.0 (subst IsSome opening holds.2) (held.mirrored.each is.1.0 u q.0 q.1)
    where
      at_head : u ≤ id → is_opened d id ≡ true → IsAtLeast d u (newest_opened d)
      at_head le opened =
          let most = at_least d (heads_now d) d.head.start (is_now d.head.start (inr refl)) opened in
          let more = most.2 in (most.0, most.1, omega arith)

      by_replica : (b : ℕ) (r : Replica) → IsSome r.text.opening → IsReplica d texts p.least b u r
          → IsAtLeast d u (newest_opened d)
      by_replica b r bears (inl this) =
          let same = this.0 in
          at_head (omega arith)
          (subst (λ (k : ℕ). is_opened d k ≡ true) same (opened_if u is.0))
      by_replica b r bears (inr (inl new)) =
          subst (λ (k : ℕ). IsAtLeast d k (newest_opened d)) (sym new.2)
          (at_least d (heads_now d) new.0 (is_now new.0 (inl new.1))
          (subst (λ (k : ℕ). is_opened d k ≡ true) new.2 (opened_if u is.0)))
      by_replica b r bears (inr (inr older)) =
          let lt = (older.bears (subst IsSome older.opening bears)).0 in
          elim held.mirrored.opened as (λ _. IsAtLeast d u (newest_opened d)) [
            | inl none ↦ absurd (omega arith)
            | inr enough ↦ at_head (omega arith) (opened_if id enough)
          ]

  -- the greatest may be used
  usable : (n : Start) → IsNow n → newest_opened d ≡ Some n.id → shown.least ≤ n.id
  usable n is most =
      let least = spelled.least in
      let ge = no_older n is in
      elim held.mirrored.least as (λ _. shown.least ≤ n.id) [
        | inl le ↦ omega arith
        | inr third ↦ (
            let le = third.2 in
            let new : new_of d.mode ≡ Some third.0 = is_new d.mode third.0 third.1 in
            let more = at_least d (heads_now d) third.0 (is_now third.0 (inl (inl new)))
            (opened_if third.0.id third.3) in
            let same = same_Some more.0 n.id (sym more.1 ∙ most) in
            let least_of = more.2 in omega arith)
      ]
    where
      is_new : (m : Mode) (x : Start) → failover_head_of m ≡ Some x → new_of m ≡ Some x
      is_new Calm x e = absurd (cc)
      is_new (Rolls y) x e = absurd (cc)
      is_new Mends x e = absurd (cc)
      is_new (Opens y) x e = e
      is_new (Closes y) x e = e
      is_new Repairs x e = absurd (cc)

  by_newest : (o : Option ℕ) → newest_opened d ≡ o → IsNewestOpenedOrNone (IsOpenedHead d master shown) shown.least o
  by_newest None none = λ u is le.
      let most = at_most u is in let never : None ≡ Some most.0 = sym none ∙ most.1 in absurd (cc)
  by_newest (Some s) some =
      let g = found d (heads_now d) s some in
      let now = now_is g.n g.among in
      subst (IsNewestOpened (IsOpenedHead d master shown) shown.least) g.same (record {
        opened = counts g.n now g.opened;
        usable = usable g.n now (some ∙ ap (λ (k : ℕ). Some k) (sym g.same));
        newest = λ u is.
            let most = at_most u is in
            let le = most.2 in
            let same = same_Some most.0 g.n.id (sym most.1 ∙ some ∙ ap (λ (k : ℕ). Some k) (sym g.same)) in omega arith;
      })

pub newest_is_opened : NewestIsOpened
newest_is_opened master d texts shown p spelled held =
    by_newest master d texts shown p spelled held (newest_opened d) refl
