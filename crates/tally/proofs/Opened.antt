-- What is true during the walk over the opening of a segment.
use Rattle.std.proofs.Common.{◌≡◌, ℕ, ◌+◌, ◌≤◌, false, true, List, [], ◌∷◌, ◌++◌, length, refl, sym, ap, ◌∙◌, arith}
use Rattle.std.proofs.Common.{append_assoc, append-nil}
use Rattle.entry.specs.declared.entry.Entry.{Entry}
use Rattle.entry.specs.Text.{text_of, is_data}
use Rattle.compactor.proofs.Cutting.{IsCut, IsCut-start, cut_end, cut_length}
use Rattle.compactor.proofs.Walking.{IsHere}
use Rattle.tally.proofs.Counting.{cut_behind}
use Rattle.tally.specs.Opening.{front_of}

-- the entries before an offset are of the front
pub record IsPassed (es : List Entry) (text : List ℕ) (at : ℕ) : Type 0 where
  pub before : List Entry
  pub rest : List Entry
  pub cut : IsCut es before rest at
  pub front : front_of es ≡ before ++ front_of rest
  pub within : at ≤ length text

pub passed_none : (es : List Entry) (text : List ℕ) → IsPassed es text 0
passed_none es text =
    record { before = []; rest = es; cut = IsCut-start es; front = refl; within = omega arith }

front_goes_on : (e : Entry) (later : List Entry) → is_data e ≡ false → front_of (e ∷ later) ≡ e ∷ front_of later
front_goes_on e later other = rw other refl

front_ends : (e : Entry) (later : List Entry) → is_data e ≡ true → front_of (e ∷ later) ≡ []
front_ends e later is_one = rw is_one refl

pub passed_next : (es : List Entry) (text : List ℕ) (at : ℕ) (s : IsPassed es text at) (e : Entry) (n : ℕ)
    → text ≡ text_of es → IsHere es s.before s.rest at e n → is_data e ≡ false → IsPassed es text (at + n)
passed_next es text at s e n is here other =
    let cut = cut_behind es s.before here.later e at n here.cut here.size in
    record {
      before = s.before ++ e ∷ [];
      rest = here.later;
      cut = cut;
      front =
          s.front ∙ ap (λ (r : List Entry). s.before ++ front_of r) here.is
          ∙ ap (λ (r : List Entry). s.before ++ r) (front_goes_on e here.later other)
          ∙ sym (append_assoc s.before (e ∷ []) (front_of here.later));
      within = omega (arith, cut_length es (s.before ++ e ∷ []) here.later (at + n) cut, ap length is);
    }

-- at the first object or tombstone
pub passed_data : (es : List Entry) (text : List ℕ) (at : ℕ) (s : IsPassed es text at) (e : Entry) (n : ℕ)
    → IsHere es s.before s.rest at e n → is_data e ≡ true → at ≡ length (text_of (front_of es))
passed_data es text at s e n here is_one =
    let front : front_of es ≡ s.before =
    s.front ∙ ap (λ (r : List Entry). s.before ++ front_of r) here.is
    ∙ ap (λ (r : List Entry). s.before ++ r) (front_ends e here.later is_one)
    ∙ append-nil s.before in
    s.cut.offset ∙ ap (λ (l : List Entry). length (text_of l)) (sym front)

-- at the end of the segment
pub passed_all : (es : List Entry) (text : List ℕ) (at : ℕ) (s : IsPassed es text at) → length (text_of es) ≤ at
    → at ≡ length (text_of (front_of es))
passed_all es text at s past =
    let none : s.rest ≡ [] = cut_end es s.before s.rest at s.cut past in
    let front : front_of es ≡ s.before =
    s.front ∙ ap (λ (r : List Entry). s.before ++ front_of r) none ∙ append-nil s.before in
    s.cut.offset ∙ ap (λ (l : List Entry). length (text_of l)) (sym front)
