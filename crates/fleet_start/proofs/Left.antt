-- What is found of a fleet is what its files show.
use Rattle.std.proofs.Common.{◌≡◌, ℕ, ◌<◌, List, length, take, cond, Option, None, Some, refl, sym, ◌∙◌, ap, subst}
use mathlib.Core.Path.{fun_ext}
use Rattle.std.specs.List.{slice_get}
use Rattle.std.proofs.lemmas.Option.{same_Some, slice_get_within}
use Rattle.replica.specs.Picture.{FleetState, Replica, left_on}
use Rattle.take_journal.specs.Frames.{recovered}
use Rattle.file_backup.specs.Replay.{Replicas, shown}
use Rattle.file_fleet.specs.Files.{Files, Noted, ShowsUnder, named}
use Rattle.file_fleet.specs.Fleet.{ShowsState}
use Rattle.file_fleet.specs.Members.{replicas_at}
use Rattle.file_fleet.specs.declared.member.Member.{Member}
use Rattle.file_fleet.specs.declared.registry.Span.{Span}
use Rattle.file_fleet.specs.declared.registry.Span.TheVariants.{First, Nothing, Whole}
use Rattle.fleet_start.specs.Found.{AreRead, FindsWhatIsLeft, IsLeftOf, is_found, picture_found, replica_in, was_found}

-- a file shows no two
one_shown : (span : Span) (p q : Replicas) (file : List ℕ) → ShowsUnder span p file → ShowsUnder span q file → p ≡ q
one_shown Nothing p q file one other = one ∙ sym other
one_shown Whole p q file one other = same_Some p q (sym one ∙ other)
one_shown (First n) p q file one other = same_Some p q (sym one ∙ other)

module _ {D : Type 0} (noted : Noted) (places : List (Option (Member D))) (f : FleetState) (files : Files)
    (shows : ShowsState f files) (count : f.backups ≡ length places) (read : AreRead noted places files) where
  here : (b m s : ℕ) (place : Option (Option (Member D))) → slice_get places b ≡ place
      → replica_in place m s ≡ cond (was_found place) (f.picture b m s) None
  here b m s None at = refl
  here b m s (Some None) at = refl
  here b m s (Some (Some h)) at =
      let within : b < f.backups = rw count (slice_get_within places b (Some h) at) in
      let left : ShowsUnder (noted.span b) (f.picture b) (named files b) =
      subst (λ (n : Noted). ShowsUnder (n.span b) (f.picture b) (named files b)) read.registry_is
      (shows.each b within) in
      ap (λ (p : Replicas). p m s)
      (one_shown (noted.span b) (replicas_at h) (f.picture b) (named files b) (read.each b h at) left)

  left_of : IsLeftOf noted places f
  left_of = record {
    picture = fun_ext (λ b. fun_ext (λ m. fun_ext (λ s. here b m s (slice_get places b) refl)));
    least = ap (λ (n : Noted). n.least) (sym read.registry_is) ∙ shows.heads;
  }

pub finds_what_is_left : {D : Type 0} (noted : Noted) (places : List (Option (Member D)))
    → FindsWhatIsLeft noted places
finds_what_is_left noted places f files shows count read = left_of noted places f files shows count read
