-- The entries of segments and of units.
use Rattle.std.proofs.Common.{◌≡◌, ℕ, true, List, [], ◌∷◌, ◌++◌, length, take, drop, refl, sym, ap, subst, ◌∙◌, arith}
use Rattle.std.proofs.Common.{inl, inr}
use Rattle.std.specs.Prelude.{filter}
use Rattle.std.proofs.lemmas.Bool.{and_parts}
use Rattle.std.proofs.lemmas.List.{take-append-drop, take_all}
use Rattle.std.proofs.lemmas.Grind.{flat_map-append}
use Rattle.entry.specs.declared.key.Key.{Key}
use Rattle.entry.specs.declared.entry.Entry.{Entry}
use Rattle.entry.specs.Text.{is_data, are_data, is_whole, ends_with, listed_ids}
use Rattle.entry.specs.Meaning.{IsOfKey, among}
use Rattle.log_laws.specs.Heads.{Start, LogUnit, digest_for, start_entries, entries_of}

-- ---- data

pub data_split : (xs ys : List Entry) → are_data (xs ++ ys) ≡ true → (are_data xs ≡ true) × (are_data ys ≡ true)
data_split [] ys e = (refl, e)
data_split (x ∷ xs) ys e =
    let parts = and_parts (is_data x) (are_data (xs ++ ys)) e in
    let rest = data_split xs ys parts.1 in
    let here = parts.0 in
    let more = rest.0 in (rw (here, more) refl, rest.1)

pub data_alone : (xs : List Entry) → are_data xs ≡ true → filter is_data xs ≡ xs
data_alone [] e = refl
data_alone (x ∷ xs) e =
    let parts = and_parts (is_data x) (are_data xs) e in
    let here = parts.0 in
    let rest = data_alone xs parts.1 in rw (here, rest) refl

-- ---- a head's text

-- the opening has no keys
pub no_keys : (master : ℕ) (n : Start) (e : Entry) (k : Key) → among (start_entries master n) e → IsOfKey k e → ⊥
no_keys master n e k (inl is) at = subst (λ (f : Entry). IsOfKey k f) (sym is) at
no_keys master n e k (inr (inl is)) at = subst (λ (f : Entry). IsOfKey k f) (sym is) at
no_keys master n e k (inr (inr (inl is))) at = subst (λ (f : Entry). IsOfKey k f) (sym is) at
no_keys master n e k (inr (inr (inr m))) at = m

-- behind the opening come objects and tombstones
pub start_order : (master : ℕ) (n : Start) (es : List Entry) → is_whole (start_entries master n ++ es) ≡ true
    → (ends_with n.id (listed_ids (digest_for n)) ≡ true) × (are_data es ≡ true)
start_order master n es e = and_parts (ends_with n.id (listed_ids (digest_for n))) (are_data es) e

-- ---- units

pub units_parts : (us : List LogUnit) (count : ℕ)
    → entries_of us ≡ entries_of (take count us) ++ entries_of (drop count us)
units_parts us count =
    sym (ap entries_of (take-append-drop count us))
    ∙ flat_map-append (λ (u : LogUnit). u.entries) (take count us) (drop count us)

pub units_all : (us : List LogUnit) → take (length us) us ≡ us
units_all us = take_all (length us) us (omega arith)
