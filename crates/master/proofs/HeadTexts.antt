-- The text of a master's head is a whole segment's.
use Rattle.std.proofs.Common.{◌≡◌, ℕ, zero, suc, ◌<◌, ◌≤◌, ◌^◌, inl, inr, Bool, true, false, List, [], ◌∷◌, length}
use Rattle.std.proofs.Common.{refl}
use Rattle.std.proofs.Common.{sym, subst, arith}
use Rattle.std.specs.Prelude.{Some, None, ◌==◌, slice_get, slice_index, if◌then◌else◌}
use Rattle.std.specs.List.{AllByRecursion}
use Rattle.std.proofs.lemmas.Option.{same_Some}
use Rattle.entry.specs.declared.digest.Listed.{Listed}
use Rattle.entry.specs.declared.entry.Entry.{Entry}
use Rattle.entry.specs.Format.{IsEntry}
use Rattle.entry.specs.Limits.{IsListed}
use Rattle.entry.specs.Text.{text_of, IsSegment}
use Rattle.segment.proofs.UnitLemmas.{head_few}
use Rattle.log_head.specs.Log.{head_of}
use Rattle.log_head.specs.log_laws.Heads.{Start, digest_for, start_entries, head_entries}
use Rattle.master_core.specs.log_laws.Data.{Head, front, bare}
use Rattle.master_core.specs.log_laws.Steps.{no_head}
use Rattle.master_core.specs.log_bytes.Text.{IsWholeText}
use Rattle.master_core.specs.master_state.Data.{MasterData}
use Rattle.master_core.specs.master_state.Invariant.{IsCore}
use Rattle.master_core.specs.master_state.Log.{log_of}
use Rattle.master.proofs.InForce.{headed_or, real_head, force_headed, force_headless}

-- the text of the head that stands for none is one
pub none_whole : (master format : ℕ) → master < 2 ^ 64 → IsWholeText master 0 (bare (no_head format))
none_whole master format few = record {
  segment_is = go (format == 2);
  limit = size (format == 2);
} where
  start : Bool → Start
  start lists = record { id = 0; others = []; lens = if lists then Some [] else None; safe = 1 }

  one : (i : ℕ) → slice_index (0 ∷ []) i < 2 ^ 64
  one zero = omega arith
  one (suc i) = omega arith

  listed : (i : ℕ) (s : Listed) → slice_get (record { id = 0; len = 48 } ∷ []) i ≡ Some s → IsListed s
  listed zero s at = subst IsListed (same_Some (record { id = 0; len = 48 }) s at)
      (record { id = omega arith; least = omega arith; greatest = omega arith })
  listed (suc i) s at = absurd (cc)

  go : (t : Bool) → IsSegment (start_entries master (start t))
  go true = record {
    each = (
      record { master = few; segment = omega arith },
      (
        record { rise = λ k lt. absurd (omega (arith, lt)); count = omega arith; each = listed },
        (record { least = omega arith; greatest = omega arith }, tt),
      ),
    );
    order = refl;
  }
  go false = record {
    each = (
      record { master = few; segment = omega arith },
      (
        record { rise = λ k lt. absurd (omega (arith, lt)); count = omega arith; each = one },
        (record { least = omega arith; greatest = omega arith }, tt),
      ),
    );
    order = refl;
  }

  size : (t : Bool) → length (text_of (start_entries master (start t))) ≤ 8388608
  size true = let few = head_few master 0 (digest_for (start true)) 1 in omega (arith, few)
  size false = let few = head_few master 0 (digest_for (start false)) 1 in omega (arith, few)

module _ (d : MasterData) (core : IsCore d) where
  image_is : d.head.image ≡ head_entries d.config.master (head_of d.head) (length (head_of d.head).units)
  image_is = core.image.image

  master_few : d.config.master < 2 ^ 64
  master_few = (subst (λ (es : List Entry). AllByRecursion IsEntry es) image_is core.head.segment.each).0.master

  abbrev IsWhole : Head → Type 0
  IsWhole h = IsWholeText d.config.master h.start.id (front h (length h.units))

  real_whole : IsWhole (real_head d.head)
  real_whole = record {
    segment_is = subst IsSegment image_is core.head.segment;
    limit = subst (λ (es : List Entry). length (text_of es) ≤ 8388608) image_is core.head.limit;
  }

  -- so is that of the head in force
  pub head_whole : IsWhole (log_of d).head
  head_whole = elim (headed_or d) as (λ _. IsWhole (log_of d).head) [
    | inl is ↦ subst IsWhole (sym (force_headed d is)) real_whole
    | inr is ↦ subst IsWhole (sym (force_headless d is)) (none_whole d.config.master d.config.format master_few)
  ]
