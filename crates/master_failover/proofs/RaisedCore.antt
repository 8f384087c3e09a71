-- A core stays valid when the registry was raised to the new head of a failover.
use Rattle.std.proofs.Common.{◌≡◌, ℕ, Bool, true, false, [], ◌∷◌, length, refl, sym, ap, subst, ◌∙◌}
use Rattle.std.specs.Prelude.{Option, Some, None, IsSome}
use Rattle.std.specs.Option.{option_map, option_map_or}
use Rattle.log_head.specs.declared.head.Roll.{Roll}
use Rattle.master_state.specs.declared.failover.Failover.{Failover}
use Rattle.master_state.specs.declared.failover.Part.TheVariants as part
use Rattle.master_state.specs.declared.ledger.Posting.TheVariants.{Ended}
use Rattle.master_state.specs.Data.{MasterData}
use Rattle.master_state.specs.Invariant.{IsCore, IsFailover}
use Rattle.master_failover.specs.declared.push.Push.TheVariants as push
use Rattle.master_failover.specs.Mending.{IsNextMend, raised_data, with_part}
use Rattle.master_failover.proofs.Changed.{own, was_is, first_raised, new_raised}

module _ (d : MasterData) (core : IsCore d) (id : ℕ) (next : IsNextMend d (push.Raise id)) where
  abbrev f : Failover
  f = next.0.0

  fails : IsFailover d f
  fails = own d core f next.0.1

  opened_is : (o : Option Roll) → d.head.roll ≡ o
      → option_map_or (λ (r : Roll). r.opened) o (length d.head.taken) ≡ d.config.replicas
  opened_is o is = ap (λ (o : Option Roll). option_map_or (λ (r : Roll). r.opened) o (length d.head.taken)) (sym is)
      ∙ next.1

  module _ (r : Roll) (is : d.head.roll ≡ Some r) where
    later : f.is_first ≡ false
    later = go f.is_first refl where
      go : (b : Bool) → f.is_first ≡ b → f.is_first ≡ false
      go true test = absurd (let no = (fails.first test).0 in cc)
      go false test = test

    pub rolling_core : IsCore (with_part d part.Closes)
    rolling_core =
        subst (λ (o : Option Failover). IsCore (record d
        { failover = option_map (λ (g : Failover). record g { part = part.Closes }) o })) (sym next.0.1)
        (new_raised d core f next.0.1 r is (opened_is (Some r) is) next.0.2 later)

    pub rolling_is : raised_data d ≡ with_part d part.Closes
    rolling_is = (let test = was_is d core f next.0.1 ∙ later in rw test refl)

  module _ (none : d.head.roll ≡ None) where
    begun : f.is_first ≡ true
    begun = go f.is_first refl where
      go : (b : Bool) → f.is_first ≡ b → f.is_first ≡ true
      go true test = test
      go false test =
          let some = subst IsSome none (fails.opens next.0.2 test).0 in
          absurd (cc)

    pub first_core : IsCore (record d { failover = None; abandoned = [] })
    first_core = first_raised d core f next.0.1 none (opened_is None none) begun

    pub first_is : raised_data d ≡ record d { failover = None; abandoned = []; ledger = Ended ∷ d.ledger }
    first_is = (let test = was_is d core f next.0.1 ∙ begun in rw test refl)
