-- A pass that has begun: its survivors have the next ids, and each its header alone.
use Rattle.std.proofs.Common.{◌≡◌, ℕ, zero, suc, ◌+◌, List, [], ◌∷◌, ◌++◌, refl, sym, ap, ◌∙◌, arith}
use Rattle.std.specs.List.{range_with_len}
use Rattle.log_bytes.specs.log_laws.Intact.{survivor_entries}
use Rattle.log_bytes.specs.log_laws.Memory.{with_image}
use Rattle.log_bytes.specs.log_laws.ImageSteps.{survivors_begun}
use Rattle.log_bytes.proofs.log_laws.BegunImages.{range_more, image_more}
use Rattle.log_bytes.specs.log_laws.Data.{FailConfig, FailData}
use Rattle.log_memory.specs.Laws.{BegunSurvivors}
use Rattle.log_memory.specs.Memory.{FailMemory}
use Rattle.log_memory.specs.Steps.{ids_taken, pass_begun}

module _ (d : FailData) where
  pub same_config : (n : ℕ) → (ids_taken n d).config ≡ d.config
  same_config zero = refl
  same_config (suc n) = same_config n

  next_then : (n : ℕ) → (ids_taken n d).next ≡ d.next + n
  next_then zero = omega arith
  next_then (suc n) = let before = next_then n in omega arith

  module _ (m : FailMemory) (victims : List ℕ) where
    survivors_then : (n : ℕ) → (pass_begun d m victims n).pass.survivors ≡ range_with_len d.next n
    survivors_then zero = refl
    survivors_then (suc n) =
        (λ j. survivors_then n j ++ next_then n j ∷ []) ∙ sym (range_more d.next n)

    images_then : (n s : ℕ) → (pass_begun d m victims n).images s
        ≡ survivors_begun d.config.master (range_with_len d.next n) m.images s
    images_then zero s = refl
    images_then (suc n) s =
        (λ j. with_image (λ z. images_then n z j) (next_then n j)
        (survivor_entries (ap (λ (c : FailConfig). c.master) (same_config n) j) (next_then n j)) s)
        ∙ image_more d.config.master (d.next + n) (range_with_len d.next n) m.images s
        ∙ ap (λ (ids : List ℕ). survivors_begun d.config.master ids m.images s) (sym (range_more d.next n))

pub begun_survivors : BegunSurvivors
begun_survivors d m victims count may =
    (survivors_then d m victims count, next_then d count, images_then d m victims count)
