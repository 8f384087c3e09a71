use Rattle.std.proofs.Common.{◌≡◌, ◌<◌, ◌+◌, ◌⊎◌, inl, inr, ⊎_elim, ℕ, zero, suc, ap, subst, arith}
use Rattle.store_seat.specs.Accounts.{IsOpen}
use Rattle.store_seat.proofs.forgetting.settled_to.Goals as goal

-- one of the places below the next
below_next : (place n : ℕ) → place < n + 1 → (place < n) ⊎ (place ≡ n)
below_next zero zero l = inr (omega arith)
below_next zero (suc n) l = inl (omega arith)
below_next (suc place) zero l = absurd (omega arith)
below_next (suc place) (suc n) l =
    ⊎_elim (λ b. inl (omega (arith, b))) (λ e. inr (ap suc e)) (below_next place n (omega arith))

pub loop-place-preserved : goal.loop-place-preserved
loop-place-preserved c = λ place from below waits. ⊎_elim
    (λ (low : place < c.loop-place.place). c.loop-place.invariant place from low waits)
    (λ (here : place ≡ c.loop-place.place).
    let yes = c.is_open.ensures.1
    (subst (λ (n : ℕ). IsOpen c.args.book.now.items c.args.history.now.records n) here waits) in
    let no = c.if-is_open.false in absurd (cc))
    (below_next place c.loop-place.place below)

pub returns-clause-settled : goal.returns-clause-settled
returns-clause-settled c = λ place from below waits.
    c.loop-place.invariant place from (omega (arith, below, c.loop-place-test.false)) waits
