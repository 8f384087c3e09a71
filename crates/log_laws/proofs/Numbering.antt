-- The units of a history when one is added.
use Rattle.std.proofs.Common.{◌≡◌, ℕ, suc, ◌+◌, List, [], ◌∷◌, ◌++◌, length, refl, sym, ap, ◌∙◌, arith, append_assoc}
use Rattle.std.specs.List.Sorted.{IsStrictlySortedBy}
use Rattle.std.specs.Ordering.{nat_cmp}
use Rattle.entry.specs.declared.entry.Entry.{Entry}
use Rattle.versioned_map.specs.declared.command.Command.{Command}
use Rattle.versioned_map.specs.Represents.{unit_of}
use Rattle.versioned_map.specs.Versioned.{State, after, after_command}
use Rattle.log_laws.specs.Heads.{LogUnit}
use Rattle.log_laws.specs.Numbered.{with_first, AreNumbered}
use Rattle.log_laws.specs.HeadSteps.{with_unit}

-- ---- the units of the history

first_with : (number : ℕ) (u : List Entry) (us : List LogUnit) (n : ℕ) (v : List Entry)
    → with_unit (with_first number u us) n v ≡ with_first number u (with_unit us n v)
first_with number [] us n v = refl
first_with number (e ∷ es) us n [] = refl
first_with number (e ∷ es) us n (f ∷ fs) = refl

first_only : (number : ℕ) (u : List Entry) → with_first number u [] ≡ with_unit [] number u
first_only number [] = refl
first_only number (e ∷ es) = refl

pub numbered_push : (st : State) (number : ℕ) (cs : List Command) (us : List LogUnit) (segment : ℕ) (c : Command)
    (n : ℕ) → n ≡ number + length cs → AreNumbered st number cs us
    → AreNumbered st number (cs ++ c ∷ []) (with_unit us n (unit_of (after st cs) segment c))
numbered_push st number [] us segment c n is are =
    let here : n ≡ number = omega arith in (
      segment,
      [],
      (λ i. with_unit (are i) (here i) (unit_of st segment c))
          ∙ sym (first_only number (unit_of st segment c)),
      refl,
    )
numbered_push st number (b ∷ cs) us segment c n is are =
    let u = unit_of (after (after_command st b) cs) segment c in (
      are.0,
      with_unit are.1 n u,
      ap (λ (vs : List LogUnit). with_unit vs n u) are.2 ∙ first_with number (unit_of st are.0 b) are.1 n u,
      numbered_push (after_command st b) (suc number) cs are.1 segment c n (omega arith) are.3,
    )

pub with_later : (vs us : List LogUnit) (n : ℕ) (u : List Entry) → with_unit (vs ++ us) n u ≡ vs ++ with_unit us n u
with_later vs us n [] = refl
with_later vs us n (e ∷ es) = append_assoc vs us (record { number = n; entries = e ∷ es } ∷ [])

-- ---- ids

pub rises_none : IsStrictlySortedBy nat_cmp []
unfolding IsStrictlySortedBy
rises_none = tt
