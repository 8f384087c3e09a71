-- A write that the system takes in parts.
use Rattle.std.proofs.Common.{◌≡◌, refl, sym, ◌∙◌, ap, subst, ◌⊎◌, inl, inr, ℕ}
use Rattle.std.proofs.Common.{◌+◌, ◌-◌, ◌≤◌, List, ◌∷◌, ◌++◌, length, take, drop, arith, length-take-le}
use Rattle.std.proofs.lemmas.List.{drop-take, take-take, take_all, length-drop, take-append-drop}
use Rattle.take_journal.specs.Device.{EachFrom, IsTornWrite, Passes, overwritten}
use Rattle.disk_file.specs.Events.{Event, Wrote, FailedWrite, Failed}
use Rattle.disk_file.specs.Standing.{IsTorn, MayLeave, LeftSince, standing}
use Rattle.disk_file.proofs.Moments.{passes_none, passes_more}
use Rattle.disk_file.proofs.Torn.{torn_not, torn_both, torn_write, overwritten_none, overwritten_both}

-- Since old, n bytes at `at` are being written.
pub record IsWriting (at n : ℕ) (old new : List Event) : Type 0 where
  pub torn : EachFrom (IsTorn at n) (MayLeave old) (MayLeave new)
  pub stays : (file : List ℕ) → MayLeave old file → MayLeave new file
  pub passes : Passes length LeftSince MayLeave old new

-- Of these bytes so many were taken.
pub record HasWritten (at : ℕ) (bytes : List ℕ) (done : ℕ) (old new : List Event) : Type 0 where
  pub within : done ≤ length bytes
  pub contents : (standing new).contents ≡ overwritten at (take done bytes) (standing old).contents
  pub same : (standing new).has_failed ≡ (standing old).has_failed
  pub writing : IsWriting at (length bytes) old new

writing_none : (at n : ℕ) (es : List Event) → IsWriting at n es es
writing_none at n es = record {
  torn = λ file leaves. (file, leaves, torn_not at n file);
  stays = λ file leaves. leaves;
  passes = passes_none es;
}

writing_more : (at n at' n' : ℕ) (old new : List Event) (e : Event) → IsWriting at n old new
    → at ≤ at' → at' + n' ≤ at + n
    → EachFrom (IsTorn at' n') (MayLeave new) (MayLeave (e ∷ new))
    → ((file : List ℕ) → MayLeave new file → MayLeave (e ∷ new) file)
    → IsWriting at n old (e ∷ new)
writing_more at n at' n' old new e so_far begins ends tears stays = record {
  torn = λ file leaves.
      let last = tears file leaves in
      let first = so_far.torn last.0 last.1 in
      (first.0, first.1, torn_both at n at' n' first.0 last.0 file first.2 last.2 begins ends);
  stays = λ file leaves. stays file (so_far.stays file leaves);
  passes = passes_more old new e so_far.passes stays;
}

-- what a crash may leave of a write, if new was what it might leave before
abbrev Torn : ℕ → ℕ → List Event → List ℕ → Type 0
Torn at n new file = (mid : List ℕ) × MayLeave new mid × IsTorn at n mid file

-- one call of the system more, with what was left of the bytes
write_more : (at : ℕ) (bytes : List ℕ) (done : ℕ) (old new : List Event) (e : Event) → HasWritten at bytes done old new
    → ((file : List ℕ) → MayLeave (e ∷ new) file → Torn (at + done) (length (drop done bytes)) new file)
    → ((file : List ℕ) → Torn (at + done) (length (drop done bytes)) new file → MayLeave (e ∷ new) file)
    → IsWriting at (length bytes) old (e ∷ new)
write_more at bytes done old new e so_far to from =
    let len = length-drop done bytes in
    let within = so_far.within in
    writing_more at (length bytes) (at + done) (length (drop done bytes)) old new e so_far.writing
    (omega arith) (omega arith) to
    (λ file leaves. from file (file, leaves, torn_not (at + done) (length (drop done bytes)) file))

pub written_none : (at : ℕ) (bytes : List ℕ) (es : List Event) → HasWritten at bytes 0 es es
written_none at bytes es = record {
  within = omega arith;
  contents = sym (overwritten_none at (standing es).contents);
  same = refl;
  writing = writing_none at (length bytes) es;
}

taken_both : (bytes : List ℕ) (done n : ℕ) → take done bytes ++ take n (drop done bytes) ≡ take (done + n) bytes
taken_both bytes done n =
    ap (λ (l : List ℕ). l ++ take n (drop done bytes)) (sym (take-take done (done + n) bytes (omega arith)))
    ∙ ap (λ (l : List ℕ). take done (take (done + n) bytes) ++ l) (sym (drop-take done n bytes))
    ∙ take-append-drop done (take (done + n) bytes)

-- the bytes that are left, as the code takes them
abbrev pub rest_of : ℕ → List ℕ → List ℕ
rest_of done bytes = take (length bytes - done) (drop done bytes)

is_rest : (done : ℕ) (bytes : List ℕ) → rest_of done bytes ≡ drop done bytes
is_rest done bytes = let len = length-drop done bytes in take_all (length bytes - done) (drop done bytes) (omega arith)

wrote_more : (at : ℕ) (bytes : List ℕ) (done n : ℕ) (old new : List Event) → HasWritten at bytes done old new
    → at ≤ length (standing old).contents → n ≤ length (drop done bytes)
    → HasWritten at bytes (done + n) old (Wrote (at + done) (drop done bytes) n ∷ new)
wrote_more at bytes done n old new so_far at_end fits = record {
  within = let len = length-drop done bytes in let within = so_far.within in omega arith;
  contents =
      let len = length-take-le done bytes so_far.within in
      ap (overwritten (at + done) (take n (drop done bytes))) so_far.contents
      ∙ ap (λ (k : ℕ). overwritten (at + k) (take n (drop done bytes))
      (overwritten at (take done bytes) (standing old).contents)) (sym len)
      ∙ overwritten_both at (take done bytes) (take n (drop done bytes)) (standing old).contents at_end
      ∙ ap (λ (l : List ℕ). overwritten at l (standing old).contents) (taken_both bytes done n);
  same = so_far.same;
  writing =
      write_more at bytes done old new (Wrote (at + done) (drop done bytes) n) so_far
      (λ file leaves. leaves) (λ file leaves. leaves);
}

-- The last call took n of the bytes that were left.
pub written_more : (at : ℕ) (bytes : List ℕ) (done n : ℕ) (old new last : List Event) → HasWritten at bytes done old new
    → at ≤ length (standing old).contents → n ≤ length (rest_of done bytes)
    → last ≡ Wrote (at + done) (rest_of done bytes) n ∷ new → HasWritten at bytes (done + n) old last
written_more at bytes done n old new last so_far at_end fits is =
    let fit : n ≤ length (drop done bytes) = subst (λ (l : List ℕ). n ≤ length l) (is_rest done bytes) fits in
    subst (HasWritten at bytes (done + n) old)
    (sym (is ∙ ap (λ (l : List ℕ). Wrote (at + done) l n ∷ new) (is_rest done bytes)))
    (wrote_more at bytes done n old new so_far at_end fit)

-- The last call failed, or was refused.
pub written_failed : (at : ℕ) (bytes : List ℕ) (done : ℕ) (old new last : List Event) → HasWritten at bytes done old new
    → (last ≡ FailedWrite (at + done) (rest_of done bytes) ∷ new) ⊎ (last ≡ Failed ∷ new)
    → IsWriting at (length bytes) old last
written_failed at bytes done old new last so_far (inl is) =
    rw (is, is_rest done bytes)
    (write_more at bytes done old new (FailedWrite (at + done) (drop done bytes)) so_far
    (λ file leaves. leaves) (λ file leaves. leaves))
written_failed at bytes done old new last so_far (inr is) = rw is record {
  torn = so_far.writing.torn;
  stays = so_far.writing.stays;
  passes = passes_more old new Failed so_far.writing.passes (λ file leaves. leaves);
}

pub tears : (at n : ℕ) (old new : List Event) → IsWriting at n old new
    → EachFrom (IsTornWrite at n) (MayLeave old) (MayLeave new)
tears at n old new writing = λ file leaves.
    let first = writing.torn file leaves in
    (first.0, first.1, torn_write at n first.0 file first.2)
