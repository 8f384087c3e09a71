-- What lines tell of a life, they tell of a longer one.
use Rattle.std.proofs.Common.{[], ◌≡◌, ℕ, zero, suc, ◌≤◌, List, ◌∷◌, ◌++◌, take, length, sym, ap, subst, inl, inr}
use Rattle.std.proofs.Common.{arith}
use Rattle.std.proofs.lemmas.List.{take-append-le}
use Rattle.std.specs.Prelude.{Option, None, Some, Ok, slice_get}
use Rattle.lines.specs.Grammar.{LineValue}
use Rattle.versioned_map.specs.declared.command.Record.{Record}
use Rattle.next_master.specs.master.master_state.declared.config.Config.{Config}
use Rattle.versioned_map.specs.Versioned.{State}
use Rattle.next_master.specs.recovery.claims.declared.rebuilt.Rebuilt.{Rebuilt}
use Rattle.next_master.specs.answers.declared.answer.Answer.{Answer}
use Rattle.history.specs.Seats.{AreAccepted}
use Rattle.next_master.specs.answers.declared.answer.Answer.TheVariants as answer
use Rattle.next_master.specs.recovery.Headline.{IsMapAfter}
use Rattle.next_master.specs.cluster.Counted.{AreCounted}
use Rattle.next_master.specs.cluster.Lives.{Life, life_to, Left, IsLeftBy, IsLeftBySpent, Position}
use Rattle.next_master.specs.master.master_state.declared.step.Refusal.{Refusal}
use Rattle.next_master.specs.cluster.Told.{IsRecordAt, IsIn, IsCause, IsPushedAt}
use Rattle.next_master.specs.cluster.Looks.{IsImageAt}
use Rattle.next_master.specs.cluster.Found.{IsRecoveredAt, IsUnadopted}
use Rattle.next_master.specs.cluster.Told.{Tells}
use Rattle.next_master.specs.cluster.Told.{IsStepOf, IsRunAt, RollRuns, CleanRuns, TendRuns, IsStepRefusal}
use Rattle.next_master.specs.cluster.Looks.{IsDigestAt}
use Rattle.next_master.specs.cluster.Looks.{AreListedAt, AreSegmentsAt}
use Rattle.next_master.specs.cluster.Looks.{IsLiveAt, IsRoomAt}
use Rattle.next_master.specs.cluster.Looks.{IsWillAt, AreHeldAt}
use Rattle.next_master.specs.cluster.Found.{IsNeededAt}

-- ---- a longer history tells the same

slice_get-longer : (xs ys : List Record) (place : ℕ) (r : Record) → slice_get xs place ≡ Some r
    → slice_get (xs ++ ys) place ≡ Some r
slice_get-longer [] ys place r is = absurd (cc)
slice_get-longer (x ∷ xs) ys zero r is = is
slice_get-longer (x ∷ xs) ys (suc place) r is = slice_get-longer xs ys place r is

-- positions rise
module _ (config : Config) (life : Life) where
  as_before : (at next : Position) → next ≡ at → at.made ≤ next.made
  as_before at next is = let same = ap (λ (p : Position). p.made) is in omega arith

  pub rises : (at : Position) (line : LineValue) (a : Answer) (next : Position) → Tells config life at line a next
      → at.made ≤ next.made
  rises at line answer.Silent next t = as_before at next t.1
  rises at line (answer.Reply reply) next t = let made = ap (λ (p : Position). p.made) t.1.1 in omega arith
  rises at line (answer.Refused r) next t = elim t [
    | inl (none, inl (unspent, inl (out, why))) ↦ let made = ap (λ (p : Position). p.made) out.2 in omega arith
    | inl (none, inl (unspent, inr (added, pushed, waits))) ↦ let made =
        ap (λ (p : Position). p.made) added.2 in omega arith
    | inl (none, inr refused) ↦ let made = ap (λ (p : Position). p.made) refused.3 in omega arith
    | inr (inl u) ↦ as_before at next u.2
    | inr (inr (unspent, inl u)) ↦ as_before at next u.2
    | inr (inr (unspent, inr more)) ↦ more.more
  ]
  rises at line (answer.Head id) next t = as_before at next t.3
  rises at line (answer.Step made) next t = as_before at next t.2
  rises at line (answer.Cleaned survivors head) next t = as_before at next t.2
  rises at line (answer.Tended made) next t = as_before at next t.2
  rises at line (answer.Counted clients rounds calls) next t = t.2.more
  rises at line (answer.Log ids) next t = as_before at next t.3
  rises at line (answer.Room used free) next t = as_before at next t.3
  rises at line (answer.Segments rows) next t = as_before at next t.3
  rises at line (answer.Listed objects) next t = as_before at next t.2
  rises at line (answer.Live bytes most) next t = as_before at next t.4
  rises at line (answer.Will parts limits) next t = as_before at next t.3
  rises at line (answer.BadLimits limits) next t = as_before at next t.3
  rises at line (answer.Holdings hs) next t = as_before at next t.3
  rises at line (answer.Hex bytes) next t = as_before at next t.2
  rises at line (answer.NotInLog segment) next t = as_before at next t.3
  rises at line (answer.Stop takes) next t = as_before at next t.1
  rises at line (answer.Fault takes taken) next t = as_before at next t.1
  rises at line answer.Format next t = as_before at next t.1
  rises at line (answer.Seglets seglets) next t = as_before at next t.1
  rises at line (answer.Needs needed) next t = as_before at next t.4
  rises at line answer.Stopped next t = elim t [
    | inl (none, l, spent, inl out) ↦ let made = ap (λ (p : Position). p.made) out.2 in omega arith
    | inl (none, l, spent, inr (inl added)) ↦ let made = ap (λ (p : Position). p.made) added.2 in omega arith
    | inl (none, l, spent, inr (inr (inl out))) ↦ let made = ap (λ (p : Position). p.made) out.1 in omega arith
    | inl (none, l, spent, inr (inr (inr more))) ↦ more.more
    | inr u ↦ as_before at next u.2
  ]
  rises at line answer.Crashed next t = let made = ap (λ (p : Position). p.made) t.4 in omega arith
  rises at line (answer.Lost backup) next t = let made = ap (λ (p : Position). p.made) t.3 in omega arith
  rises at line (answer.Recovered r) next t = absurd t
  rises at line (answer.NotRetired why) next t = absurd t
  rises at line answer.NumbersSpent next t = as_before at next t.2
  rises at line (answer.NotRecovered fault) next t = as_before at next t.4
  rises at line answer.Down next t = as_before at next t.2
  rises at line answer.Up next t = as_before at next t.2
  rises at line answer.CellRefused next t = t.more
  rises at line answer.SeatUnknown next (inl more) = more.more
  rises at line answer.SeatUnknown next (inr t) = as_before at next t.2

module _ (config : Config) (opening : State) (history more : List Record) where
  abbrev life : Life
  life = record { opening = opening; history = history }

  abbrev longer : Life
  longer = record { opening = opening; history = history ++ more }

  record_longer : (place : ℕ) (line : LineValue) (reply : _) → IsRecordAt life place line reply
      → IsRecordAt longer place line reply
  record_longer place line reply is = (is.0, is.1, slice_get-longer history more place _ is.2)

  same_front : (count : ℕ) → count ≤ length history → life_to life count ≡ life_to longer count
  same_front count within =
      let same = sym (take-append-le count history more within) in
      λ i. record { opening = opening; history = same i }

  in_longer : (at : Position) (line : LineValue) (left : Option Left) (next : Position) → IsIn life at line left next
      → IsIn longer at line left next
  in_longer at line left next (reply, there, is) = (reply, record_longer at.made line reply there, is)

  -- a table that was recovered
  recovered_longer : (at : Position) (r : Rebuilt) → at.made ≤ length history → IsRecoveredAt life at r
      → IsRecoveredAt longer at r
  recovered_longer at r within =
      subst (λ (l : Life). IsMapAfter opening l.history at.acknowledged r) (same_front at.made within)

  unadopted_longer : (at : Position) (line : LineValue) (r : Refusal) (next : Position) → at.made ≤ length history
      → IsUnadopted config life at line r next
      → IsUnadopted config longer at line r next
  unadopted_longer at line r next within (asks, (l, left, table, (found, of_left), new, number, declined), is) =
      (asks, (l, left, table, (recovered_longer at table within found, of_left), new, number, declined), is)

  -- what a new master needs for such a table
  needed_longer : (at : Position) (l : Left) (needed : Option ℕ) → at.made ≤ length history
      → IsNeededAt config life at l needed → IsNeededAt config longer at l needed
  needed_longer at l needed within (table, (found, of_left), new, number, needs) =
      (table, (recovered_longer at table within found, of_left), new, number, needs)

  -- the records of clients
  counted_longer : (at : Position) (clients rounds calls : ℕ) (next : Position) → at.made ≤ length history
      → next.made ≤ length history
      → AreCounted life at clients rounds calls next → AreCounted longer at clients rounds calls next
  counted_longer at clients rounds calls next within after c = record {
    count = c.count;
    more = c.more;
    accepted = subst (λ (l : List Record). AreAccepted clients rounds (take at.made (history ++ more)) l)
        (sym (take-append-le next.made history more after))
        (subst (λ (l : List Record). AreAccepted clients rounds l (take next.made history))
        (sym (take-append-le at.made history more within)) c.accepted);
    acknowledged = c.acknowledged;
  }

  pub tells_longer : (at : Position) (line : LineValue) (a : Answer) (next : Position) → at.made ≤ length history
      → next.made ≤ length history
      → Tells config life at line a next → Tells config longer at line a next
  tells_longer at line answer.Silent next within after t = t
  tells_longer at line (answer.Reply reply) next within after t = (t.0, (record_longer at.made line reply t.1.0, t.1.1))
  tells_longer at line (answer.Refused r) next within after t = elim t [
    | inl (none, inl (unspent, inl (out, inl memory))) ↦ inl (none, inl (unspent, inl (out, inl memory)))
    | inl (none, inl (unspent, inl (out, inr (c, is, cause)))) ↦
        inl (
          none,
          inl (
            unspent,
            inl (
              out,
              inr (
                c,
                is,
                subst (λ (l : Life). IsCause config l c r)
                    (same_front at.made within) cause,
              ),
            ),
          ),
        )
    | inl (none, inl (unspent, inr (added, pushed, waits))) ↦ inl (
      none,
      inl (
        unspent,
        inr (
          in_longer at line None next added,
          subst (λ (l : Life). IsPushedAt config l r)
              (same_front next.made after) pushed,
          waits,
        ),
      ),
    )
    | inl (none, inr refused) ↦ inl (
      none,
      inr (
        refused.0,
        subst (λ (l : Life). IsStepRefusal config l line r) (same_front at.made within) refused.1,
        refused.2,
        refused.3,
      ),
    )
    | inr (inl u) ↦ inr (inl u)
    | inr (inr (unspent, inl u)) ↦ inr (inr (unspent, inl (unadopted_longer at line r next within u)))
    | inr (inr (unspent, inr more)) ↦ inr (inr (unspent, inr more))
  ]
  tells_longer at line (answer.Head id) next within after t =
      (t.0, t.1, subst (λ (l : Life). IsRunAt RollRuns config l (Ok id)) (same_front at.made within) t.2, t.3)
  tells_longer at line (answer.Step made) next within after t =
      (t.0, subst (λ (l : Life). IsStepOf config l line (Ok made)) (same_front at.made within) t.1, t.2)
  tells_longer at line (answer.Cleaned survivors head) next within after t = (
    t.0,
    (
      t.1.0,
      t.1.1,
      subst (λ (l : Life). IsRunAt (CleanRuns t.1.0) config l (Ok (survivors, head)))
          (same_front at.made within) t.1.2,
    ),
    t.2,
  )
  tells_longer at line (answer.Tended made) next within after t = (
    t.0,
    (t.1.0, t.1.1, subst (λ (l : Life). IsRunAt (TendRuns t.1.0) config l (Ok made)) (same_front at.made within) t.1.2),
    t.2,
  )
  tells_longer at line (answer.Counted clients rounds calls) next within after t =
      (t.0, t.1, counted_longer at clients rounds calls next within after t.2)
  tells_longer at line (answer.Log ids) next within after t =
      (t.0, t.1, subst (λ (l : Life). IsDigestAt config l ids) (same_front at.made within) t.2, t.3)
  tells_longer at line (answer.Room used free) next within after t =
      (t.0, t.1, subst (λ (l : Life). IsRoomAt config l used free) (same_front at.made within) t.2, t.3)
  tells_longer at line (answer.Segments rows) next within after t =
      (t.0, t.1, subst (λ (l : Life). AreSegmentsAt config l rows) (same_front at.made within) t.2, t.3)
  tells_longer at line (answer.Listed objects) next within after t =
      (t.0, (t.1.0, t.1.1, subst (λ (l : Life). AreListedAt l t.1.0 objects) (same_front at.made within) t.1.2), t.2)
  tells_longer at line (answer.Live bytes most) next within after t =
      (t.0, t.1, subst (λ (l : Life). IsLiveAt config l bytes) (same_front at.made within) t.2, t.3, t.4)
  tells_longer at line (answer.Will parts limits) next within after t =
      (t.0, t.1, subst (λ (l : Life). IsWillAt config l limits parts) (same_front at.made within) t.2, t.3)
  tells_longer at line (answer.BadLimits limits) next within after t = t
  tells_longer at line (answer.Holdings hs) next within after t =
      (t.0, subst (λ (l : Life). AreHeldAt config l at.left hs) (same_front at.made within) t.1, t.2, t.3)
  tells_longer at line (answer.Hex bytes) next within after t = (
    t.0,
    (
      t.1.0,
      t.1.1,
      subst (λ (l : Life). IsImageAt config l t.1.0 (Some bytes))
          (same_front at.made within) t.1.2,
    ),
    t.2,
  )
  tells_longer at line (answer.NotInLog segment) next within after t =
      (t.0, t.1, subst (λ (l : Life). IsImageAt config l segment None) (same_front at.made within) t.2, t.3)
  tells_longer at line (answer.Stop takes) next within after t = t
  tells_longer at line (answer.Fault takes taken) next within after t = t
  tells_longer at line answer.Format next within after t = t
  tells_longer at line (answer.Seglets seglets) next within after t = t
  tells_longer at line (answer.Needs needed) next within after (asks, l, left, needs, is) =
      (asks, l, left, needed_longer at l needed within needs, is)
  tells_longer at line answer.Stopped next within after t = elim t [
    | inl (none, l, spent, why) ↦ inl (
      none,
      l,
      subst (λ (x : Life). IsLeftBySpent config x l) (same_front next.made after) spent,
      elim why [
        | inl out ↦ inl out
        | inr (inl added) ↦ inr (inl (in_longer at line (Some l) next added))
        | inr (inr rest) ↦ inr (inr rest)
      ],
    )
    | inr u ↦ inr (unadopted_longer at line _ next within u)
  ]
  tells_longer at line answer.Crashed next within after t =
      (t.0, t.1, t.2, subst (λ (l : Life). IsLeftBy config l t.2) (same_front at.made within) t.3, t.4)
  tells_longer at line (answer.Lost backup) next within after t = t
  tells_longer at line (answer.Recovered r) next within after t = absurd t
  tells_longer at line (answer.NotRetired why) next within after t = absurd t
  tells_longer at line answer.NumbersSpent next within after t = t
  tells_longer at line (answer.NotRecovered fault) next within after t = t
  tells_longer at line answer.Down next within after t = t
  tells_longer at line answer.Up next within after t = t
  tells_longer at line answer.CellRefused next within after t = t
  tells_longer at line answer.SeatUnknown next within after t = t
