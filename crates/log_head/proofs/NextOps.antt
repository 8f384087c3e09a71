-- The next push has what its op needs.
use Rattle.std.proofs.Common.{refl, sym, subst}
use Rattle.std.specs.Prelude.{Option, Some, IsSome}
use Rattle.std.proofs.lemmas.Option.{slice_get_within}
use Rattle.log_head.specs.declared.head.Roll.{Roll}
use Rattle.log_head.specs.declared.next.Next.{Next}
use Rattle.log_head.specs.declared.next.Next.TheVariants as next
use Rattle.log_head.specs.Head.{HeadValue}
use Rattle.log_head.specs.Next.{IsNextPush, HasOp}

pub next_has_op : (h : HeadValue) (n : Next) → IsNextPush h (Some n) → HasOp h n
next_has_op h (next.OpenFirst j) is = tt
next_has_op h (next.Extend j) is = let lags = is.1 in slice_get_within h.taken j lags.0 lags.1
next_has_op h (next.OpenWhole j) is = absurd is
next_has_op h (next.OpenNew j) is = subst (λ (o : Option Roll). IsSome o) (sym is.2) refl
next_has_op h (next.CloseOld j) is = tt
