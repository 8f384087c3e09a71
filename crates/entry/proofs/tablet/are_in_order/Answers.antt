use Rattle.std.proofs.Common.{◌≡◌, ◌-◌, ◌+◌, ◌<◌, ℕ, suc, true, List, ◌∷◌, length, drop, get_or, refl, sym, ◌∙◌, arith}
use Rattle.std.proofs.Math.Seq.{drop-cons}
use Rattle.std.proofs.lemmas.Bool.{le-leb}
use Rattle.entry.specs.declared.tablet.Tablet.{Tablet}
use Rattle.entry.specs.Tablet.{are_in_order, is_before, is_tablet}
use Rattle.entry.proofs.tablet.are_in_order.Goals as goal

-- a tablet that is one, and before the next: those from it on are in order if those behind it are
order-step : (ts : List Tablet) (i j : ℕ) (d : Tablet) → suc i ≡ j → j < length ts → is_tablet (get_or ts i d) ≡ true
    → is_before (get_or ts i d) (get_or ts j d) ≡ true → are_in_order (drop i ts) ≡ are_in_order (drop j ts)
order-step ts i j d next lt valid before =
    let here : drop i ts ≡ get_or ts i d ∷ drop (suc i) ts = drop-cons ts i d (omega arith) in
    let there : drop j ts ≡ get_or ts j d ∷ drop (suc j) ts = drop-cons ts j d lt in
    let both : drop i ts ≡ get_or ts i d ∷ get_or ts j d ∷ drop (suc j) ts = rw (here, next, there) refl in
    rw (both, there, valid, before) refl

pub loop-i-preserved : goal.loop-i-preserved
loop-i-preserved c =
    let ts = c.args.tablets.now in
    let d : Tablet = record { table = 0; first = 0; last = 0 } in
    let valid : is_tablet (get_or ts (c.loop-i.i - 1) d) ≡ true = le-leb _ _ c.if-tablet.false in
    let before : is_before (get_or ts (c.loop-i.i - 1) d) (get_or ts c.loop-i.i d) ≡ true =
    sym c.is_before.ensures ∙ c.if-not-is_before.false in
    let next : suc (c.loop-i.i - 1) ≡ c.loop-i.i = omega arith in
    let step = order-step ts (c.loop-i.i - 1) c.loop-i.i d next c.loop-i-test.true valid before in
    let place : c.loop-i.i + 1 - 1 ≡ c.loop-i.i = omega arith in
    rw place (sym step ∙ c.loop-i.invariant)
