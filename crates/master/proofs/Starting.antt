-- A new master is kept.
use Rattle.std.proofs.Common.{◌≡◌, ℕ, ◌≤◌, inl, inr, Bool, true, false, [], refl, sym, ap, subst}
use Rattle.std.specs.Prelude.{Some, None, IsSome, unwrap_or, ◌==◌, if◌then◌else◌}
use Rattle.std.specs.Option.{option_map}
use Rattle.std.proofs.lemmas.Option.{same_Some}
use Rattle.replica.specs.Picture.{FleetState}
use Rattle.log_head.specs.log_laws.Heads.{Start, start_entries}
use Rattle.master_core.specs.log_laws.Data.{bare, FailData, IsNew}
use Rattle.master_core.specs.log_laws.Steps.{restored, restored_start, MayBegin}
use Rattle.master_core.specs.log_bytes.Runs.{read_fleet}
use Rattle.master_core.specs.log_bytes.Segments.{HeadsAreSegments}
use Rattle.master_core.specs.log_bytes.Spelled.{read_replica}
use Rattle.master_core.specs.log_bytes.Text.{IsWholeText}
use Rattle.master_core.specs.log_memory.Fleet.{HoldsAll}
use Rattle.master_core.specs.log_memory.Steps.{first_memory}
use Rattle.master_core.proofs.log_memory.FleetSteps.{fresh_holds_all}
use Rattle.master_core.specs.master_state.declared.config.Config.{Config}
use Rattle.master_core.specs.master_state.Config.{config_fault}
use Rattle.master_core.specs.master_state.Data.{fresh_data}
use Rattle.master_core.specs.master_state.Invariant.{IsCore}
use Rattle.master_core.specs.master_state.Loading.{restored_data}
use Rattle.master_core.specs.master_state.Log.{fail_config, log_of, image_of, images_of}
use Rattle.master_core.proofs.master_state.Beginning.{restored_log}
use Rattle.master_core.proofs.master_state.Refusals.{has_homes}
use Rattle.master.specs.Invariant.{IsWellKept}
use Rattle.master.specs.Registry.{IsUnraised}
use Rattle.master.proofs.HeadTexts.{none_whole}
use Rattle.master.proofs.Lasting.{well_kept}
use Rattle.master.proofs.Models.{IsModel, own_holds_all}
use Rattle.master.proofs.Placements.{placed_restored}

-- ---- its heads are segments

module _ (c : Config) (safe : ℕ) (core : IsCore (restored_data c safe)) where
  first_whole : IsWholeText c.master 1 (bare (restored_start c.format safe))
  first_whole = record { segment_is = core.head.segment; limit = core.head.limit }

  pub first_heads : HeadsAreSegments c.master (restored (fail_config c) safe)
  first_heads = record {
    head = none_whole c.master c.format core.head.segment.each.0.master;
    new = new;
  } where
    new : (n : Start) → IsNew (restored (fail_config c) safe) n → IsWholeText c.master n.id (bare n)
    new n (inl is) = subst (λ (m : Start). IsWholeText c.master m.id (bare m))
        (same_Some (restored_start c.format safe) n is) first_whole
    new n (inr never) = absurd never

-- ---- nothing is held of it

pub may_begin : (c : Config) (f : FleetState) → config_fault c ≡ None → ((b s : ℕ) → f.picture b c.master s ≡ None)
    → IsUnraised c.master f → MayBegin (fail_config c) (read_fleet c.master f)
may_begin c f ok nothing least = record {
  some = (has_homes c ok).some;
  nothing = λ b s. ap (option_map read_replica) (nothing b s);
  least = least;
}

-- ---- its memory is the model's

module _ (c : Config) (safe : ℕ) (log : log_of (restored_data c safe) ≡ restored (fail_config c) safe) where
  -- the first head alone has an image
  image_at : (s : ℕ) → IsSome (image_of (restored_data c safe) s)
      → images_of (restored_data c safe) s ≡ start_entries c.master (restored_start c.format safe)
  image_at s some = go (1 == s) some where
    go : (t : Bool) → IsSome (if t then Some (start_entries c.master (restored_start c.format safe)) else None)
        → unwrap_or (if t then Some (start_entries c.master (restored_start c.format safe)) else None) []
        ≡ start_entries c.master (restored_start c.format safe)
    go true some = refl
    go false none = absurd (cc)

  pub first_model : IsModel (restored_data c safe) (first_memory (fail_config c) safe)
  first_model = record {
    pass = refl;
    images = image_at;
    behind = λ k q r found indexed victim survivor. victim;
    carried = λ p t victim stands named i. absurd victim;
    done = λ none. refl;
    commits = refl;
    waiting = λ w waits. absurd waits;
  }

-- ---- it is kept

pub fresh_kept : (c : Config) (f : FleetState) → config_fault c ≡ None → IsCore (fresh_data c)
    → c.backups ≤ f.backups → ((b s : ℕ) → f.picture b c.master s ≡ None) → IsUnraised c.master f
    → IsWellKept (fresh_data c) f
fresh_kept c f ok core backups nothing least =
    let log = restored_log c 1 core.head ok in
    well_kept (fresh_data c) f (record {
      core = core;
      placed = placed_restored c 1;
      holds = own_holds_all (fresh_data c) core (first_memory (fail_config c) 1) f
          (subst (λ (l : FailData). HoldsAll l (first_memory (fail_config c) 1) f) (sym log)
          (fresh_holds_all (fail_config c) f (may_begin c f ok nothing least) (first_heads c 1 core)))
          (first_model c 1 log);
      backups = backups;
      apart = tt;
    })
