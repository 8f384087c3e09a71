-- A fleet of one fresh backup holds nothing.
use Rattle.std.proofs.Common.{[], ◌≡◌, ◌∷◌, ℕ, zero, suc, List, map, refl, subst, sym}
use Rattle.std.specs.Prelude.{Some, None}
use Rattle.registry_file.specs.declared.file.RegistryFile.{RegistryFile}
use Rattle.file_fleet.specs.Fleet.{FleetValue}
use Rattle.file_fleet.specs.Members.{picture_of, replicas_at}
use Rattle.file_fleet.specs.declared.member.Member.{Member}
use Rattle.crash_fleet.specs.State.{state_under}
use Rattle.crash_fleet.specs.declared.power.Power.{Power}
use Rattle.crash_fleet.specs.declared.power.Power.TheVariants.{On}

nothing_held : {D : Type 0} (members : List (Member D)) (h : Member D) (b m s : ℕ)
    → map Some members ≡ Some h ∷ [] → ((m s : ℕ) → replicas_at h m s ≡ None) → picture_of members b m s ≡ None
nothing_held [] h b m s is none = refl
nothing_held (x ∷ []) h zero m s is none =
    let same : x ≡ h = cc in subst (λ k. replicas_at k m s ≡ None) (sym same) (none m s)
nothing_held (x ∷ []) h (suc b) m s is none = refl
nothing_held (x ∷ y ∷ ys) h b m s is none = absurd (cc)

pub fleet_holds_nothing : {D : Type 0} (image : D → List ℕ) (v : FleetValue D (RegistryFile D)) (power : Power D)
    (h : Member D) (b m s : ℕ) → power ≡ On → map Some v.members.list.items ≡ Some h ∷ []
    → ((m s : ℕ) → replicas_at h m s ≡ None) → (state_under image v power).picture b m s ≡ None
fleet_holds_nothing image v power h b m s on is none =
    subst (λ p. (state_under image v p).picture b m s ≡ None) (sym on)
    (nothing_held v.members.list.items h b m s is none)
