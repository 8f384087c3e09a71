-- The crash images of a fleet's files: what a crash right now leaves of them.
use Rattle.std.specs.Prelude.{◌≡◌, ◌⊎◌, ◌+◌, ◌<◌, ℕ, List, [], Option, None, Some, length, take, ⊤}
use Rattle.std.specs.List.{slice_get}
use Rattle.replica.specs.Picture.{Picture}
use Rattle.take_journal.specs.Frames.{recovered}
use Rattle.file_backup.specs.Replay.{Replicas, no_replicas, shown}
use Rattle.registry_file.specs.Kept.{Kept, kept_of}
use Rattle.registry_file.specs.declared.file.RegistryFile.{RegistryFile}
use Rattle.file_fleet.specs.Files.{Files, Noted}
use Rattle.file_fleet.specs.Members.{device_at}
use Rattle.file_fleet.specs.Noting.{file_of, noted_by, noted_in}
use Rattle.file_fleet.specs.declared.member.Member.{Member}
use Rattle.file_fleet.specs.declared.members.Members.{Members}
use Rattle.file_fleet.specs.declared.registry.Span.{Span}
use Rattle.file_fleet.specs.declared.registry.Span.TheVariants.{First, Nothing, Whole}

-- ---- the files

-- the image of a backup's file
abbrev pub image_at : {D : Type 0} → (D → List ℕ) → Option (Member D) → List ℕ
image_at image None = []
image_at image (Some h) = image (device_at h)

-- what a file notes that keeps this; if it keeps nothing, these
abbrev pub noted_or : Noted → Option Kept → Noted
noted_or n None = n
noted_or n (Some k) = noted_in k

-- the images of a fleet's files
abbrev pub images_of : {D : Type 0} → (D → List ℕ) → Members D (RegistryFile D) → Files
images_of image f = record {
  journal = λ b id. image_at image (slice_get f.list.items b);
  registry = noted_or (noted_by f.registry) (kept_of (recovered (image (file_of f.registry))));
}

-- ---- what they show

abbrev pub or_none : Option Replicas → Replicas
or_none None = no_replicas
or_none (Some p) = p

-- the replicas that a journal shows if so much of it counts
abbrev pub shown_under : Span → List ℕ → Replicas
shown_under Nothing file = no_replicas
shown_under Whole file = or_none (shown (recovered file))
shown_under (First n) file = or_none (shown (take n (recovered file)))

abbrev pub shown_at : {D : Type 0} → (D → List ℕ) → Span → Option (Member D) → Replicas
shown_at image span None = no_replicas
shown_at image span (Some h) = shown_under span (image (device_at h))

-- what the backups hold if their files are these
abbrev pub imaged : {D : Type 0} → (D → List ℕ) → Members D (RegistryFile D) → Picture
imaged image f = λ b. shown_at image ((images_of image f).registry.span b) (slice_get f.list.items b)
