use Rattle.std.proofs.Common.{◌≡◌, ◌<◌, ◌≤◌, ℕ, sym, ap, ◌∙◌, arith, ⊎_elim}
use Rattle.std.specs.Prelude.{Some}
use Rattle.std.proofs.lemmas.Bool.{cases_lt}
use Rattle.replica.specs.declared.holding.Holding.{Holding}
use Rattle.recovery_plan.proofs.Heads.{older, same-head, newer}
use Rattle.recovery_plan.proofs.finding.with_head.Goals as goal
use Rattle.recovery_plan.proofs.finding.with_head.Goals.{in_default-via-in-Some-2+else-id-known-2}
use Rattle.recovery_plan.proofs.finding.with_head.Goals.{in_default-via-in_default}

some-of : {a b : ℕ} → Some a ≡ Some b → a ≡ b
some-of e = cc

above : (id s : ℕ) {k j : ℕ} → id ≡ k → id ≡ j → j ≤ s → (s ≡ k → ⊥) → id < s
above id s e f le not = ⊎_elim (λ lt. lt) (λ ge. absurd (not (omega arith))) (cases_lt id s)

pub returns-in-Some : goal.returns-in-Some
returns-in-Some c m hs head are =
    older m hs c.args.head head c.args.newest.id c.in-Some.known c.replica.result.now.segment c.args.newest.taken
    (ap (λ (x : Holding). x.segment) c.replica.ensures) c.in-Some.is c.if-id-known.true are

pub returns-in-Some-2 : goal.returns-in-Some-2
returns-in-Some-2 c m hs head are =
    same-head m hs c.args.head head c.args.newest.id c.in-Some-2.known c.replica.result.now.segment c.args.newest.taken
    c.with_open.result (ap (λ (x : Holding). x.segment) c.replica.ensures) c.in-Some-2.is c.if-id-known-2.true are
    (c.with_open.ensures m hs head)

pub returns-in_default : goal.returns-in_default
returns-in_default c m hs head are =
    newer m hs c.args.head head c.args.newest.id c.replica.result.now.segment c.args.newest.taken
    c.with_open-in_default.result (ap (λ (x : Holding). x.segment) c.replica.ensures) below are
    (c.with_open-in_default.ensures m hs head)
  where
    below : (id : ℕ) → c.args.newest.id ≡ Some id → id < c.replica.result.now.segment
    below id some = elim c.in_default.branch as (λ _. id < c.replica.result.now.segment) [
      | in_default-via-in-Some-2+else-id-known-2 w ↦
          above id c.replica.result.now.segment (some-of (sym some ∙ w.in-Some-2.is))
          (some-of (sym some ∙ w.in-Some.is))
          w.if-id-known.false w.if-id-known-2.false
      | in_default-via-in_default w ↦ absurd (w.in_default.not-Some id some)
    ]
