-- Entries that all fit the survivor that is filled.
use Rattle.std.proofs.Common.{◌≡◌, ℕ, ◌+◌, ◌≤◌, Bool, cond, List, [], ◌∷◌, length, refl, ap, ◌∙◌, arith}
use Rattle.std.specs.Prelude.{map, filter}
use Rattle.std.proofs.lemmas.Bool.{le-leb}
use Rattle.std.proofs.lemmas.List.Sums.{sum_by-cons}
use Rattle.entry.specs.declared.entry.Entry.{Entry}
use Rattle.entry.specs.Format.{spelling}
use Rattle.entry.specs.Text.{text_of, is_data}
use Rattle.entry.proofs.TextLemmas.{length_first}
use Rattle.compactor.specs.Kept.{kept_of}
use Rattle.cleaner.specs.declared.level.Level.{Level}
use Rattle.cleaner.specs.Filling.{behind, beginning, filled_one, filled, total}
use Rattle.tally.specs.Fills.{FillsAtOnce}

abbrev lengths : List Entry → List ℕ
lengths es = map (λ (e : Entry). length (spelling e)) es

total_lengths : (es : List Entry) → total (lengths es) ≡ length (text_of es)
total_lengths [] = refl
total_lengths (e ∷ es) =
    let sums = sum_by-cons (λ (n : ℕ). n) (length (spelling e)) (lengths es) in
    omega (arith, sums, total_lengths es, length_first e es)

abbrev with_len : Level → ℕ → Level
with_len a n = record { survivor = a.survivor; len = n }

fit_all : (segment : ℕ) (a : Level) (ns : List ℕ) → a.len + total ns ≤ segment
    → filled segment a ns ≡ with_len a (a.len + total ns)
fit_all segment a [] le = let same : a.len ≡ a.len + total [] = omega arith in ap (with_len a) same
fit_all segment a (n ∷ ns) le =
    let sums = sum_by-cons (λ (m : ℕ). m) n ns in
    let first : a.len + n ≤ segment = omega (arith, le, sums) in
    let one : filled_one segment a n ≡ behind a n =
    ap (λ (b : Bool). cond b (behind a n) (beginning a n)) (le-leb (a.len + n) segment first) in
    let rest = fit_all segment (behind a n) ns (omega (arith, le, sums)) in
    let len : a.len + n + total ns ≡ a.len + total (n ∷ ns) = omega (arith, sums) in
    ap (λ (x : Level). filled segment x ns) one ∙ rest ∙ ap (with_len a) len

pub fills_at_once : FillsAtOnce
fills_at_once segment ids held s es a le =
    let kept = filter is_data (kept_of ids held s es) in
    let sum = total_lengths kept in
    fit_all segment a (lengths kept) (omega (arith, le, sum)) ∙ ap (λ (n : ℕ). with_len a (a.len + n)) sum
