-- What the records of a registry note for a fleet.
use Rattle.std.proofs.Common.{◌≡◌, inl, inr, ℕ, ◌<◌, ◌==◌, List, Bool, true, false, cond}
use Rattle.std.proofs.Common.{Some, refl, sym, ◌∙◌, ap, arith}
use mathlib.Core.Path.{fun_ext}
use Rattle.std.proofs.lemmas.Bool.{eqb-true, false_from_ne_true}
use Rattle.replica.specs.Take.{no_limit}
use Rattle.take_journal.specs.Device.{AnyMoment}
use Rattle.registry_text.specs.declared.record.Record.{Record}
use Rattle.registry_text.specs.declared.record.Record.TheVariants as says
use Rattle.registry_file.specs.File.{LeftByPut, kept_by}
use Rattle.registry_file.specs.Kept.{Kept, after}
use Rattle.registry_file.specs.declared.file.RegistryFile.{RegistryFile}
use Rattle.file_fleet.specs.Files.{Noted, with_file, with_span}
use Rattle.file_fleet.specs.Moments.{LeavesEither}
use Rattle.file_fleet.specs.Noting.{IsIn, file_of, id_of, noted_by, noted_in, span_of}
use Rattle.file_fleet.specs.declared.registry.Span.{Span}
use Rattle.file_fleet.specs.declared.registry.Span.TheVariants.{First, Whole}

-- what is noted of the journals, by what the registry says of each
abbrev noted_as : Kept → (ℕ → Span) → (ℕ → ℕ) → Noted
noted_as k span file = record { least = k.least; span = span; file = file; master = k.master }

-- a record of a journal, of which so many frames count, and which is the same file as before
pub ended_noted : (k : Kept) (b id n : ℕ) → (id ≡ 0 → ⊥) → n < no_limit → id_of (k.journal b) ≡ id
    → noted_in (after k (says.Journal b id n)) ≡ with_span (noted_in k) b (First n)
ended_noted k b id n live limit same =
    ap (λ (s : ℕ → Span). noted_as k s (noted_in (after k (says.Journal b id n))).file)
    (fun_ext (λ c. at c (b == c) refl))
    ∙ ap (λ (f : ℕ → ℕ). noted_as k (with_span (noted_in k) b (First n)).span f)
    (fun_ext (λ c. file_at c (b == c) refl))
  where
    at : (c : ℕ) (t : Bool) → (b == c) ≡ t
        → span_of (cond t (Some (record { id = id; count = n })) (k.journal c))
        ≡ cond t (First n) (span_of (k.journal c))
    at c false e = refl
    at c true e =
        let lives : (id == 0) ≡ false = false_from_ne_true (id == 0) (λ t. live (eqb-true id 0 t)) in
        let few : (n == no_limit) ≡ false =
        false_from_ne_true (n == no_limit) (λ t. let is : n ≡ no_limit = eqb-true n no_limit t in
        omega (arith, is, limit)) in
        rw (lives, few) refl

    file_at : (c : ℕ) (t : Bool) → (b == c) ≡ t
        → id_of (cond t (Some (record { id = id; count = n })) (k.journal c)) ≡ id_of (k.journal c)
    file_at c false e = refl
    file_at c true e = sym same ∙ ap (λ d. id_of (k.journal d)) (eqb-true b c e)

-- a record of a journal, all of which counts
pub named_noted : (k : Kept) (b id : ℕ) → (id ≡ 0 → ⊥)
    → noted_in (after k (says.Journal b id no_limit)) ≡ with_file (noted_in k) b id
named_noted k b id live =
    ap (λ (s : ℕ → Span). noted_as k s (noted_in (after k (says.Journal b id no_limit))).file)
    (fun_ext (λ c. at c (b == c) refl))
    ∙ ap (λ (f : ℕ → ℕ). noted_as k (with_file (noted_in k) b id).span f)
    (fun_ext (λ c. file_at c (b == c) refl))
  where
    at : (c : ℕ) (t : Bool) → (b == c) ≡ t
        → span_of (cond t (Some (record { id = id; count = no_limit })) (k.journal c))
        ≡ cond t Whole (span_of (k.journal c))
    at c false e = refl
    at c true e =
        let lives : (id == 0) ≡ false = false_from_ne_true (id == 0) (λ t. live (eqb-true id 0 t)) in
        rw lives refl

    file_at : (c : ℕ) (t : Bool) → (b == c) ≡ t
        → id_of (cond t (Some (record { id = id; count = no_limit })) (k.journal c)) ≡ cond t id (id_of (k.journal c))
    file_at c false e = refl
    file_at c true e = refl

-- what a crash leaves of a put is noted before it or after it
pub put_leaves : {D : Type 0} (clock : D → ℕ) (left_since : D → ℕ → List ℕ → Type 0) (old new : RegistryFile D)
    (r : Record) (n : Noted) → noted_in (after (kept_by old) r) ≡ n
    → AnyMoment clock left_since (LeftByPut (kept_by old) r) (file_of old) (file_of new)
    → LeavesEither (λ (f : RegistryFile D). noted_by f) (λ f. clock (file_of f))
    (λ f moment left. IsIn (left_since (file_of f) moment) left) n old new
put_leaves clock left_since old new r n is any = record {
  onward = any.onward;
  each = λ left within. elim (any.each within.file within.left).shows [
    | inl was ↦ inl (within.reads (kept_by old) was)
    | inr now ↦ inr (within.reads (after (kept_by old) r) now ∙ is)
  ];
}
