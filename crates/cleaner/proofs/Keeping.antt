-- What a reader finds where an entry lies.
use Rattle.std.proofs.Common.{◌≡◌, ℕ, ◌+◌, true, List, ◌∷◌, ◌++◌, length, take, drop, sym, ap, subst, ◌∙◌, arith}
use Rattle.std.specs.Prelude.{Option, Some, IsSomeAnd}
use Rattle.std.specs.Option.{option_map}
use Rattle.std.proofs.Math.Seq.{take-append_seam}
use Rattle.std.proofs.lemmas.List.{length-append}
use Rattle.entry.specs.declared.entry.Entry.{Entry}
use Rattle.entry.specs.Format.{spelling, front_of, IsEntry, Begins}
use Rattle.entry.specs.Text.{text_of, is_data}
use Rattle.entry.proofs.TextLemmas.{front_of-spelling}
use Rattle.segment.specs.Bytes.{standing_at}
use Rattle.images.specs.Steps.{StandsData}
use Rattle.compactor.specs.Places.{LiesAt}
use Rattle.compactor.proofs.Cutting.{behind_cut}

pub stands : (es : List Entry) (at : ℕ) (e : Entry) → IsEntry e → LiesAt es at e → standing_at at (text_of es) ≡ Some e
stands es at e valid lies =
    let behind : drop at (text_of es) ≡ spelling e ++ text_of lies.after =
    behind_cut es lies.before (e ∷ lies.after) at (record { split = lies.split; offset = lies.offset }) in
    ap (λ (bytes : List ℕ). option_map (λ (f : Entry × ℕ). f.0) (front_of bytes)) behind
    ∙ ap (λ (front : Option (Entry × ℕ)). option_map (λ (f : Entry × ℕ). f.0) front)
    (front_of-spelling e (text_of lies.after) valid)

-- an object or tombstone of this length
pub stands_data : (es : List Entry) (at n : ℕ) (e : Entry) → IsEntry e → is_data e ≡ true
    → n ≡ length (spelling e) → LiesAt es at e
    → StandsData (text_of es) at n
stands_data es at n e valid own size lies =
    let behind : drop at (text_of es) ≡ spelling e ++ text_of lies.after =
    behind_cut es lies.before (e ∷ lies.after) at (record { split = lies.split; offset = lies.offset }) in
    let len : length (drop at (text_of es)) ≡ length (spelling e) + length (text_of lies.after) =
    ap (λ (bytes : List ℕ). length bytes) behind ∙ length-append (spelling e) (text_of lies.after) in
    subst (λ (o : Option Entry). IsSomeAnd o (λ (x : Entry). (is_data x ≡ true) × Begins (drop at (text_of es)) x n))
    (sym (stands es at e valid lies)) (
      own,
      record {
        entry = valid;
        within = omega (arith, size, len);
        text = ap (λ (bytes : List ℕ). take n bytes) behind
            ∙ ap (λ (k : ℕ). take k (spelling e ++ text_of lies.after)) size
            ∙ take-append_seam (spelling e) (text_of lies.after);
      },
    )
