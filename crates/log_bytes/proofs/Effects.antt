-- What an act makes of a replica, in the model and in bytes.
use Rattle.std.proofs.Common.{◌≡◌, ℕ, inl, inr, Bool, true, false, cond, List, ◌∷◌, ◌++◌, Some, refl}
use Rattle.std.proofs.Common.{sym, ap, ◌∙◌, append_assoc, arith}
use Rattle.std.specs.Prelude.{Option, None, ◌==◌, ◌&&◌}
use Rattle.std.specs.Option.{option_map}
use Rattle.std.proofs.lemmas.Bool.Decides.{nat_tests}
use Rattle.entry.specs.declared.entry.Entry.{Entry}
use Rattle.entry.specs.declared.entry.Entry.TheVariants as entry
use Rattle.entry.specs.Text.{text_of}
use Rattle.segment.proofs.RowLemmas.{text_of-append}
use Rattle.replica.specs.Picture.{Replica, Picture, with_replica}
use Rattle.replica.specs.Take.{effect}
use Rattle.log_laws.proofs.PicturePlaces.{place_tells}
use Rattle.log_laws.specs.Text.{Text, Replica as ModelReplica, length_of}
use Rattle.log_laws.specs.Shown.{Act, Open, Extend, Close, Seal, Free, Holds, effect as model_effect}
use Rattle.log_laws.specs.Shown.{with_replica as model_with_replica}
use Rattle.log_bytes.specs.Text.{opening_entries, entries_for, bytes_for}
use Rattle.log_bytes.specs.Spelled.{spelled_replica}
use Rattle.log_bytes.specs.Ops.{act_for}
use Rattle.log_bytes.proofs.Texts.{length_is, header_for}

-- ---- one replica

-- a text with more at its end
pub longer : (master s : ℕ) (t : Text) (more : List Entry)
    → bytes_for master s t ++ text_of more ≡ bytes_for master s (record t { entries = t.entries ++ more })
longer master s t more =
    sym (text_of-append (entries_for master s t) more)
    ∙ ap (λ (es : List Entry). text_of (entry.Header (header_for master s t.opening) ∷ es))
    (append_assoc (opening_entries t.opening) t.entries more)

module _ (master s : ℕ) where
  abbrev spelled : Option ModelReplica → Option Replica
  spelled o = option_map (spelled_replica master s) o

  -- the effect on what spells a replica spells the effect on it
  pub effect_spelled : (act : Act) (o : Option ModelReplica)
      → effect (act_for master s act) (spelled o) ≡ option_map spelled (model_effect act o)
  effect_spelled (Open text) None = refl
  effect_spelled (Open text) (Some r) = refl
  effect_spelled (Extend at more) None = refl
  effect_spelled (Extend at more) (Some r) =
      ap (λ (n : ℕ). extended (r.is_open && (at == n))) (length_is master s r.text)
      ∙ by_test (r.is_open && (at == length_of r.text))
    where
      extended : Bool → Option (Option Replica)
      extended b = cond b
          (Some (Some (record { bytes = bytes_for master s r.text ++ text_of more; is_open = true }))) None

      by_test : (b : Bool) → extended b ≡ option_map spelled (cond b
          (Some (Some (record { text = record r.text { entries = r.text.entries ++ more }; is_open = true }))) None)
      by_test true =
          ap (λ (l : List ℕ). Some (Some (record { bytes = l; is_open = true }))) (longer master s r.text more)
      by_test false = refl
  effect_spelled Close None = refl
  effect_spelled Close (Some r) = by_test r.is_open where
    by_test : (b : Bool)
        → cond b (Some (Some (record { bytes = bytes_for master s r.text; is_open = false }))) None
        ≡ option_map spelled (cond b (Some (Some (record { text = r.text; is_open = false }))) None)
    by_test true = refl
    by_test false = refl
  effect_spelled (Seal text) None = refl
  effect_spelled (Seal text) (Some r) = refl
  effect_spelled Free None = refl
  effect_spelled Free (Some r) = refl

-- ---- a picture

-- with one place changed alike both stay spelled
pub changed_alike : (master : ℕ) (p : Picture) (holds : Holds) (b s : ℕ) (x : Option ModelReplica)
    → ((c t : ℕ) → p c master t ≡ option_map (spelled_replica master t) (holds c t)) → (c t : ℕ)
    → with_replica p b master s (option_map (spelled_replica master s) x) c master t
    ≡ option_map (spelled_replica master t) (model_with_replica holds b s x c t)
changed_alike master p holds b s x each c t = elim (place_tells b master s c master t)
    as (λ _. with_replica p b master s (option_map (spelled_replica master s) x) c master t
    ≡ option_map (spelled_replica master t) (model_with_replica holds b s x c t)) [
      | inl same ↦ (
          let real = same.0 in
          let at : ((b == c) && (s == t)) ≡ true = grind (arith, nat_tests) in
          rw (real, at) (ap (λ (n : ℕ). option_map (spelled_replica master n) x) same.3))
      | inr other ↦ (
          let real = other.0 in
          let apart = other.1 in
          let at : ((b == c) && (s == t)) ≡ false = elsewhere b s c t (λ is. apart (is.0, refl, is.1)) in
          rw (real, at) (each c t))
    ]
  where
    elsewhere : (b s c t : ℕ) → ((b ≡ c) × (s ≡ t) → ⊥) → ((b == c) && (s == t)) ≡ false
    elsewhere b s c t apart = grind (arith, nat_tests)
