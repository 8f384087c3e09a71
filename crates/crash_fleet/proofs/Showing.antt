-- What the images of a fleet's files show.
use Rattle.std.proofs.Common.{◌≡◌, ◌⊎◌, inl, inr, ℕ, ◌+◌, ◌<◌, ◌≤◌, List, length, take, Option, None, Some, refl, sym}
use Rattle.std.proofs.Common.{◌∙◌, ap, subst}
use mathlib.Core.Path.{fun_ext}
use Rattle.std.specs.List.{slice_get}
use Rattle.std.proofs.lemmas.Option.{slice_get_within}
use Rattle.replica.specs.Picture.{Picture}
use Rattle.take_journal.specs.Frames.{recovered}
use Rattle.file_backup.specs.Replay.{Replicas, no_replicas, shown}
use Rattle.registry_file.specs.File.{Shows, kept_by}
use Rattle.registry_file.specs.Kept.{Kept}
use Rattle.registry_file.specs.declared.file.RegistryFile.{RegistryFile}
use Rattle.file_fleet.specs.Files.{Files, Noted, ShowsUnder, named}
use Rattle.file_fleet.specs.Members.{device_at, picture_of, replica_on, replicas_at}
use Rattle.file_fleet.specs.Fleet.{FleetValue}
use Rattle.file_fleet.specs.Moments.{AreLeftAmid, AreLeftNow}
use Rattle.file_fleet.specs.Noting.{IsIn, file_of, noted_by, noted_in}
use Rattle.file_fleet.specs.declared.member.Member.{Member}
use Rattle.file_fleet.specs.declared.members.Members.{Members}
use Rattle.file_fleet.specs.declared.registry.Span.{Span}
use Rattle.file_fleet.specs.declared.registry.Span.TheVariants.{First, Nothing, Whole}
use Rattle.crash_fleet.specs.State.{ReadsTake}
use Rattle.crash_fleet.specs.Images.{image_at, imaged, images_of, noted_or, or_none, shown_at, shown_under}

-- a journal shows no other replicas
pub shown_is : (span : Span) (p : Replicas) (file : List ℕ) → ShowsUnder span p file → shown_under span file ≡ p
shown_is Nothing p file shows = sym shows
shown_is Whole p file shows = ap or_none shows
shown_is (First n) p file shows = ap or_none shows

-- what the backups hold if their files are these, at a place of the list
pub shown_place : {D : Type 0} (image : D → List ℕ) (span : Span) (place : Option (Member D)) (p : Replicas)
    → (place ≡ None → p ≡ no_replicas) → (((h : Member D) → place ≡ Some h → ShowsUnder span p (image_at image place)))
    → shown_at image span place ≡ p
shown_place image span None p none shows = sym (none refl)
shown_place image span (Some h) p none shows = shown_is span p (image (device_at h)) (shows h refl)

module _ {D : Type 0} (image : D → List ℕ) (f : Members D (RegistryFile D)) where
  pub notes_are : (k : Kept) → Shows k (image (file_of f.registry)) → (images_of image f).registry ≡ noted_in k
  notes_are k shows = ap (noted_or (noted_by f.registry)) shows

  -- the images show just this picture
  pub imaged_is : (p : Picture) (n : ℕ) → n ≡ length f.list.items
      → ((b : ℕ) → slice_get f.list.items b ≡ None → p b ≡ no_replicas)
      → ((b : ℕ) → b < n → ShowsUnder ((images_of image f).registry.span b) (p b) (named (images_of image f) b))
      → imaged image f ≡ p
  imaged_is p n count none each =
      fun_ext (λ b. shown_place image ((images_of image f).registry.span b) (slice_get f.list.items b) (p b) (none b)
      (λ h at. each b (subst (λ k. b < k) (sym count) (slice_get_within f.list.items b h at))))

  pub imaged_at : (b : ℕ) (h : Member D) (noted : Noted) (p : Replicas) → slice_get f.list.items b ≡ Some h
      → (images_of image f).registry ≡ noted → ShowsUnder (noted.span b) p (image (device_at h)) → imaged image f b ≡ p
  imaged_at b h noted p at notes shows =
      ap (shown_at image ((images_of image f).registry.span b)) at
      ∙ shown_is ((images_of image f).registry.span b) p (image (device_at h))
      (subst (λ (n : Noted). ShowsUnder (n.span b) p (image (device_at h))) (sym notes) shows)

  pub picture_at : (b : ℕ) (h : Member D) → slice_get f.list.items b ≡ Some h
      → picture_of f.list.items b ≡ (λ m s. replica_on (Some h) m s)
  picture_at b h at = ap (λ (place : Option (Member D)). λ m s. replica_on place m s) at

-- ---- what may be left

module _ {D : Type 0} (may_leave : D → List ℕ → Type 0) (image : D → List ℕ)
    (may_be : (d : D) → may_leave d (image d)) where
  image_left : (P : List ℕ → Type 0) (h : Member D) (place : Option (Member D)) → place ≡ Some h
      → P (image (device_at h)) → P (image_at image place)
  image_left P h place at p = subst (λ (o : Option (Member D)). P (image_at image o)) (sym at) p

  noted_left : (files : List ℕ → Type 0) (f : Members D (RegistryFile D)) → files (image (file_of f.registry))
      → IsIn files (images_of image f).registry
  noted_left files f left = record {
    file = image (file_of f.registry);
    left = left;
    reads = λ k shows. notes_are image f k shows;
  }

  pub images_now : (f : Members D (RegistryFile D))
      → AreLeftNow may_leave (λ (r : RegistryFile D) n. IsIn (may_leave (file_of r)) n) f (images_of image f)
  images_now f = record {
    journals = λ b h at. image_left (may_leave (device_at h)) h (slice_get f.list.items b) at (may_be (device_at h));
    registry_is = noted_left (may_leave (file_of f.registry)) f (may_be (file_of f.registry));
  }

  module _ (clock : D → ℕ) (left_since : D → ℕ → List ℕ → Type 0)
      (counts : (d : D) (moment : ℕ) (file : List ℕ) → may_leave d file → left_since d moment file) where
    pub images_amid : (old new : Members D (RegistryFile D))
        → AreLeftAmid clock left_since (λ (r : RegistryFile D). clock (file_of r))
        (λ (r : RegistryFile D) moment n. IsIn (left_since (file_of r) moment) n) old new (images_of image new)
    images_amid old new = record {
      journals = λ b h i was at. image_left (left_since (device_at i) (clock (device_at h))) i
          (slice_get new.list.items b) at (counts (device_at i) (clock (device_at h)) (image (device_at i))
          (may_be (device_at i)));
      registry_is = noted_left (left_since (file_of new.registry) (clock (file_of old.registry))) new
          (counts (file_of new.registry) (clock (file_of old.registry)) (image (file_of new.registry))
          (may_be (file_of new.registry)));
    }

-- ---- read

-- what a backup's image shows tells whether it has the op amid which the power was cut
pub reads_take : {D : Type 0} (image : D → List ℕ) (v : FleetValue D (RegistryFile D)) (b : ℕ) (h found : Member D)
    (r : RegistryFile D) (takes : ℕ) → slice_get v.members.list.items b ≡ Some h
    → Shows (kept_by r) (image (file_of v.members.registry))
    → ShowsUnder ((noted_by r).span b) (replicas_at found) (image (device_at h))
    → ((replicas_at found ≡ replicas_at h) × (takes ≡ v.takes))
    ⊎ ((replicas_at found ≡ replicas_at h → ⊥) × (takes ≡ v.takes + 1)) → ReadsTake image v b r takes
reads_take image v b h found r takes at keeps shows counts =
    let notes : (images_of image v.members).registry ≡ noted_by r = notes_are image v.members (kept_by r) keeps in
    let imaged_b = imaged_at image v.members b h (noted_by r) (replicas_at found) at notes shows in
    let held = picture_at image v.members b h at in
    record {
      notes = notes;
      counts = elim counts [
        | inl same ↦ inl (imaged_b ∙ same.0 ∙ sym held, same.1)
        | inr other ↦ inr ((λ e. other.0 (sym imaged_b ∙ e ∙ held)), other.1)
      ];
    }
