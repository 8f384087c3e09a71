-- Of a log that is kept each home of the newest head that counts holds it.
use Rattle.std.proofs.Common.{◌≡◌, ℕ, ◌<◌, ◌≤◌, ◌⊎◌, inl, inr, length, Some, refl, sym, ap, subst, ◌∙◌, arith}
use Rattle.std.specs.Prelude.{Option, IsSome, IsSomeAnd}
use Rattle.replica.specs.Picture.{Shown}
use Rattle.replica.specs.Survival.{HoldsHead}
use Rattle.log_head.proofs.log_laws.IdLists.{some_given, some_is}
use Rattle.master_core.specs.log_laws.Text.{Replica}
use Rattle.master_core.specs.log_laws.Shown.{Shown as ModelShown, HoldsHead as ModelHoldsHead}
use Rattle.master_core.specs.log_laws.Choice.{IsNewestOpened}
use Rattle.master_core.specs.log_laws.Data.{FailData, HasTaken, IsHome, bare_replica}
use Rattle.master_core.specs.log_laws.Log.{Texts, IsReplica, IsLogHeld}
use Rattle.master_core.specs.log_bytes.Choice.{IsOpenedHead}
use Rattle.master_core.specs.log_bytes.Spelled.{IsSpelled}
use Rattle.master_core.proofs.log_bytes.Choosing.{head_there, head_back}
use Rattle.master_core.proofs.log_bytes.NewestHomes.{taker, head_bears}

-- one that is there holds a head if it has an opening
heads : (p : ModelShown) (b s : ℕ) (r : Replica) → p.holds b s ≡ Some r → IsSome r.text.opening → p.least ≤ s
    → ModelHoldsHead p b s
heads p b s r there bears usable = record {
  bears = subst (λ (o : Option Replica). IsSomeAnd o (λ (q : Replica). IsSome q.text.opening)) (sym there) bears;
  usable = usable;
}

module _ (master : ℕ) (d : FailData) (texts : Texts) (shown : Shown) (p : ModelShown)
    (spelled : IsSpelled master shown p) (held : IsLogHeld d texts p) where
  abbrev id : ℕ
  id = d.head.start.id

  head_held : (b : ℕ) → HasTaken d id b → p.least ≤ id → ModelHoldsHead p b id
  head_held b took usable =
      let is = some_is (p.holds b id) (held.mirrored.head b took) in
      heads p b id is.0 is.1
      (head_bears master d texts shown p spelled held b is.0 (held.mirrored.each b id is.0 is.1)) usable

  module _ (s b : ℕ) (is : IsNewestOpened (IsOpenedHead d master shown) shown.least s) (home : IsHome d s b) where
    usable : p.least ≤ s
    usable = let le = is.usable in let least = spelled.least in omega arith

    -- the head in force counts, if there is one that is newer
    no_older : s < id → ⊥
    no_older lt = go held.mirrored.opened where
      go : (id ≡ 0) ⊎ (d.config.replicas ≤ length (d.took id)) → ⊥
      go (inl none) = omega arith
      go (inr few) =
          let some = held.some in
          let took = taker (d.took id) (omega arith) in
          let le = usable in
          let holds = head_held took.0 took.1 (omega arith) in
          let newest = is.newest id (few, (took.0, took.1, (head_back master shown p spelled took.0 id holds).0)) in
          omega arith

    by_replica : (c : ℕ) (q : Replica) → IsSome q.text.opening → IsReplica d texts p.least c s q → ModelHoldsHead p b s
    by_replica c q bears (inl this) =
        let same : s ≡ id = this.0 in
        let le = usable in
        subst (λ (n : ℕ). ModelHoldsHead p b n) (sym same)
        (head_held b (subst (λ (n : ℕ). HasTaken d n b) same home.0) (omega arith))
    by_replica c q bears (inr (inl new)) =
        let same = new.2 in
        let there = held.mirrored.new new.0 b new.1 (subst (λ (n : ℕ). HasTaken d n b) same home.0) in
        heads p b s (bare_replica new.0) (ap (p.holds b) same ∙ there) refl usable
    by_replica c q bears (inr (inr older)) =
        absurd (no_older (older.bears (subst IsSome older.opening bears)).0)

    pub newest_held : HoldsHead shown master b s
    newest_held =
        let one = is.opened.1 in
        let there = head_there master shown p spelled one.0 s one.2 is.usable in
        let q = some_given (p.holds one.0 s) (λ (r : Replica). IsSome r.text.opening) there.bears in
        (head_back master shown p spelled b s
        (by_replica one.0 q.0 q.2 (held.mirrored.each one.0 s q.0 q.1))).0
