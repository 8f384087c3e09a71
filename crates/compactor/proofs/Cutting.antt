-- A walk over the entries of a text.
use Rattle.std.proofs.Common.{◌≡◌, ℕ, ◌+◌, ◌-◌, ◌<◌, ◌≤◌, List, [], ◌∷◌, ◌++◌, length, take, drop, refl, sym, ap, ◌∙◌}
use Rattle.std.proofs.Common.{append_assoc, arith}
use Rattle.std.specs.List.{AllByRecursion}
use Rattle.std.proofs.lemmas.List.{length-append, length-take-le, length-drop, append-nil, take_rest, drop_at}
use Rattle.std.proofs.lemmas.List.{drop-drop, take_at}
use Rattle.std.proofs.Math.Seq.{take-add}
use Rattle.entry.specs.declared.entry.Entry.{Entry}
use Rattle.entry.specs.Format.{spelling, IsEntry}
use Rattle.entry.specs.Text.{text_of, entries_in}
use Rattle.entry.proofs.ListLemmas.{all_split}
use Rattle.entry.proofs.TextLemmas.{spelling-some, entries_in-text}
use Rattle.segment.proofs.RowLemmas.{text_of-append}
use Rattle.compactor.specs.Piece.{piece}

-- the entries fall into those before an offset and those from it on
pub record IsCut (es before rest : List Entry) (at : ℕ) : Type 0 where
  pub split : es ≡ before ++ rest
  pub offset : at ≡ length (text_of before)

pub IsCut-start : (es : List Entry) → IsCut es [] es 0
IsCut-start es = record { split = refl; offset = refl }

-- what is read at the offset
pub record IsFirst (text : List ℕ) (at : ℕ) (rest : List Entry) : Type 0 where
  pub first : Entry
  pub later : List Entry
  pub is : rest ≡ first ∷ later
  pub entry : IsEntry first
  pub spelled : take (length text - at) (drop at text) ≡ spelling first ++ text_of later

text_parts : (es before rest : List Entry) (at : ℕ) → IsCut es before rest at
    → text_of es ≡ text_of before ++ text_of rest
text_parts es before rest at cut = ap text_of cut.split ∙ text_of-append before rest

pub behind_cut : (es before rest : List Entry) (at : ℕ) → IsCut es before rest at → drop at (text_of es) ≡ text_of rest
behind_cut es before rest at cut =
    ap (λ (l : List ℕ). drop at l) (text_parts es before rest at cut)
    ∙ drop_at (text_of before) (text_of rest) at (sym cut.offset)

pub before_cut : (es before rest : List Entry) (at : ℕ) → IsCut es before rest at → AllByRecursion IsEntry es
    → entries_in (take at (text_of es)) ≡ before
before_cut es before rest at cut all =
    let each = all_split IsEntry before rest (rw cut.split at all) in
    ap (λ (l : List ℕ). entries_in (take at l)) (text_parts es before rest at cut)
    ∙ ap entries_in (take_at (text_of before) (text_of rest) at (sym cut.offset))
    ∙ entries_in-text before each.0

pub cut_length : (es before rest : List Entry) (at : ℕ) → IsCut es before rest at
    → length (text_of es) ≡ at + length (text_of rest)
cut_length es before rest at cut =
    let offset = cut.offset in
    omega (
      arith,
      offset,
      ap length (text_parts es before rest at cut),
      length-append (text_of before) (text_of rest),
    )

pub first_at : (es before rest : List Entry) (text : List ℕ) (at : ℕ) → IsCut es before rest at → text ≡ text_of es
    → AllByRecursion IsEntry es → at < length text → IsFirst text at rest
first_at es before rest text at cut is all lt = go rest refl cut
  where
    go : (r : List Entry) → rest ≡ r → IsCut es before r at → IsFirst text at rest
    go [] same cut =
        let len = cut_length es before [] at cut in
        let whole : length text ≡ length (text_of es) = ap length is in
        absurd (omega (arith, lt, len, whole))
    go (e ∷ later) same cut =
        let each = all_split IsEntry before (e ∷ later) (rw (cut.split) at all) in
        record {
          first = e;
          later = later;
          is = same;
          entry = each.1.0;
          spelled = take_rest text at ∙ ap (λ (l : List ℕ). drop at l) is ∙ behind_cut es before (e ∷ later) at cut;
        }

-- behind the entry
pub cut_next : (es before later : List Entry) (e : Entry) (at : ℕ) → IsCut es before (e ∷ later) at
    → IsCut es (before ++ e ∷ []) later (at + length (spelling e))
cut_next es before later e at cut = record {
  split = cut.split ∙ sym (append_assoc before (e ∷ []) later);
  offset =
      omega (
        arith,
        cut.offset,
        ap length (text_of-append before (e ∷ [])),
        length-append (text_of before) (text_of (e ∷ [])),
        ap length (append-nil (spelling e)),
      );
}

-- at the end of the text
pub cut_end : (es before rest : List Entry) (at : ℕ) → IsCut es before rest at → length (text_of es) ≤ at → rest ≡ []
cut_end es before [] at cut past = refl
cut_end es before (e ∷ later) at cut past =
    absurd (omega (
      arith,
      past,
      cut_length es before (e ∷ later) at cut,
      length-append (spelling e) (text_of later),
      spelling-some e,
    ))

-- ---- pieces of the text

pub piece_length : (from at : ℕ) (text : List ℕ) → at ≤ length text → length (piece from at text) ≡ at - from
piece_length from at text within =
    length-take-le (at - from) (drop from text) (omega (arith, within, length-drop from text))

-- no bytes
pub piece_none : (at : ℕ) (text : List ℕ) → piece at at text ≡ []
piece_none at text = let size : at - at ≡ 0 = omega arith in ap (λ (k : ℕ). take k (drop at text)) size

-- an entry behind the piece
pub piece_more : (from at n : ℕ) (text bytes : List ℕ) → from ≤ at
    → take n (take (length text - at) (drop at text)) ≡ bytes → piece from (at + n) text ≡ piece from at text ++ bytes
piece_more from at n text bytes le is =
    let size : at + n - from ≡ (at - from) + n = omega (arith, le) in
    let there : from + (at - from) ≡ at = omega (arith, le) in
    ap (λ (k : ℕ). take k (drop from text)) size
    ∙ take-add (at - from) n (drop from text)
    ∙ ap (λ (l : List ℕ). piece from at text ++ take n l)
    (drop-drop (at - from) from text ∙ ap (λ (k : ℕ). drop k text) there ∙ sym (take_rest text at))
    ∙ ap (λ (l : List ℕ). piece from at text ++ l) is
