-- What a crash leaves of the file of a registry is what the file notes.
use Rattle.std.specs.Prelude.{◌≡◌, ◌≤◌, ℕ, Bool, List}
use Rattle.std.proofs.Common.{sym, subst}
use Rattle.file_fleet.specs.Files.{Noted}
use Rattle.file_fleet.specs.Noting.{IsIn, IsSound, file_of, noted_by}
use Rattle.registry_file.specs.File.{Shows, kept_by}
use Rattle.registry_file.specs.declared.file.RegistryFile.{RegistryFile}

-- what is in some files is in more of them
pub in_more : (some more : List ℕ → Type 0) → ((file : List ℕ) → some file → more file) → (noted : Noted)
    → IsIn some noted → IsIn more noted
in_more some more each noted is = record { file = is.file; left = each is.file is.left; reads = is.reads }

-- of a sound registry a crash leaves all that it keeps
pub sound_only : {D : Type 0} (contents : D → List ℕ) (may_leave : D → List ℕ → Type 0) (has_failed : D → Bool)
    (r : RegistryFile D) (noted : Noted) → IsSound contents may_leave has_failed r
    → IsIn (may_leave (file_of r)) noted → noted ≡ noted_by r
sound_only contents may_leave has_failed r noted sound is =
    let journal = sound.backed sound.goes_on in
    is.reads (kept_by r)
    (subst (λ f. Shows (kept_by r) f) (sym (journal.settled.durable is.file is.left)) journal.shows)
