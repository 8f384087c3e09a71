-- The number of the next master.
use Rattle.std.proofs.Common.{◌≡◌, ◌+◌, ◌<◌, ◌≤◌, ℕ, max, List, length, refl, sym, ap, ◌∙◌, subst, inl, inr, arith}
use Rattle.std.specs.Prelude.{Option, Some, None}
use Rattle.std.proofs.lemmas.Option.{slice_get_past}
use Rattle.std.proofs.lemmas.Bool.{cases_lt}
use Rattle.replica.specs.Picture.{AreHeldBy, Picture, Replica}
use Rattle.replica.specs.declared.holding.Holding.{Holding}
use Rattle.embedded.specs.Next.{greatest_of}
use Rattle.embedded.proofs.Numbers.{among_greatest}
use Rattle.file_fleet.specs.Members.{picture_of, replica_on}
use Rattle.file_fleet.specs.declared.member.Member.{Member}
use Rattle.file_store.specs.Started.{AreUpTo}

-- one backup more
pub one_more : (p : Picture) (hs : List Holding) (count before after : ℕ) → AreHeldBy hs p count
    → after ≡ max before (greatest_of hs) → AreUpTo p count before → AreUpTo p (count + 1) after
one_more p hs count before after held is up_to b n s within above = elim (cases_lt b count) as (λ _. p b n s ≡ None) [
  | inl less ↦ up_to b n s less (omega (arith, is, above))
  | inr no_less ↦ (let same : b ≡ count = omega (arith, within, no_less) in
      subst (λ c. p c n s ≡ None) (sym same) (here (p count n s) refl))
]
  where
    here : (o : Option Replica) → p count n s ≡ o → p count n s ≡ None
    here None none = none
    here (Some r) there =
        let h : Holding =
        record { backup = count; master = n; segment = s; bytes = r.bytes; is_open = r.is_open } in
        let below = among_greatest hs h ((held h).1 (refl, there)) in
        absurd (omega (arith, below, is, above))

-- once all backups were looked at, no replica is of a greater number
pub none_above : {D : Type 0} (members : List (Member D)) (count last n : ℕ) → length members ≤ count → last < n
    → AreUpTo (picture_of members) count last → (b s : ℕ) → picture_of members b n s ≡ None
none_above members count last n all above up_to b s = elim (cases_lt b count) as (λ _. picture_of members b n s ≡ None) [
  | inl less ↦ up_to b n s less above
  | inr no_less ↦ ap (λ h. replica_on h n s) (slice_get_past members b (omega (arith, all, no_less)))
]
