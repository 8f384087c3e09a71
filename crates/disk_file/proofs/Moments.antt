-- The moments of a file: how many events there were.
use Rattle.std.proofs.Common.{◌⊎◌, inl, inr, ℕ, ◌≤◌, List, ◌∷◌, length, arith}
use Rattle.take_journal.specs.Device.{Passes}
use Rattle.disk_file.specs.Events.{Event}
use Rattle.disk_file.specs.Standing.{MayLeave, LeftSince}

-- one event goes by
pub passes_one : (e : Event) (es : List Event) → Passes length LeftSince MayLeave es (e ∷ es)
passes_one e es = record {
  onward = omega arith;
  keeps = λ moment file is_past left. inr (is_past, left);
  adds = λ moment file is_past left. later_or_now e es moment file left;
}
  where
    later_or_now : (e : Event) (es : List Event) (moment : ℕ) (file : List ℕ) → LeftSince (e ∷ es) moment file
        → LeftSince es moment file ⊎ MayLeave (e ∷ es) file
    later_or_now e es moment file (inl leaves) = inr leaves
    later_or_now e es moment file (inr left) = inl left.1

-- one event more goes by, and keeps what a crash may leave
pub passes_more : (before now : List Event) (e : Event) → Passes length LeftSince MayLeave before now
    → ((file : List ℕ) → MayLeave now file → MayLeave (e ∷ now) file)
    → Passes length LeftSince MayLeave before (e ∷ now)
passes_more before now e passes stays = record {
  onward = let so_far = passes.onward in omega arith;
  keeps = λ moment file is_past left.
      let so_far = passes.onward in
      let is_before : moment ≤ length now = omega arith in
      inr (is_before, passes.keeps moment file is_past left);
  adds = λ moment file is_past left. added moment file is_past left;
}
  where
    at_last : (file : List ℕ) (P : Type 0) → P ⊎ MayLeave now file → P ⊎ MayLeave (e ∷ now) file
    at_last file P (inl p) = inl p
    at_last file P (inr leaves) = inr (stays file leaves)

    added : (moment : ℕ) (file : List ℕ) → moment ≤ length before → LeftSince (e ∷ now) moment file
        → LeftSince before moment file ⊎ MayLeave (e ∷ now) file
    added moment file is_past (inl leaves) = inr leaves
    added moment file is_past (inr left) =
        at_last file (LeftSince before moment file) (passes.adds moment file is_past left.1)

pub passes_none : (es : List Event) → Passes length LeftSince MayLeave es es
passes_none es = record {
  onward = omega arith;
  keeps = λ moment file is_past left. left;
  adds = λ moment file is_past left. inl left;
}
