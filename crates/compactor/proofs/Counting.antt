-- What is true during the walk that counts the bytes of kept objects and tombstones.
use Rattle.std.proofs.Common.{◌≡◌, ℕ, ◌+◌, ◌≤◌, Bool, true, false, cond, ◌&&◌, List, [], ◌∷◌, ◌++◌, length, refl, sym}
use Rattle.std.proofs.Common.{ap, ◌∙◌, arith}
use Rattle.std.specs.Prelude.{filter}
use Rattle.std.proofs.lemmas.List.{length-append}
use Rattle.entry.specs.declared.entry.Entry.{Entry}
use Rattle.entry.specs.Format.{spelling}
use Rattle.entry.specs.Text.{text_of, is_data}
use Rattle.places.specs.Map.{Places}
use Rattle.compactor.specs.Kept.{kept, kept_from, kept_of}
use Rattle.compactor.proofs.Cutting.{IsCut, IsCut-start, cut_end}
use Rattle.compactor.proofs.Walking.{IsHere, cut_behind}

-- one more entry, by whether it is an object or a tombstone and whether it is kept
cond_count : (b t : Bool) (e : Entry) (r : List Entry) (n : ℕ) → is_data e ≡ b → n ≡ length (spelling e)
    → length (text_of (filter is_data (cond t (e ∷ r) r))) ≡ cond (b && t) n 0 + length (text_of (filter is_data r))
cond_count true true e r n is size =
    ap (λ (c : Bool). length (text_of (cond c (e ∷ filter is_data r) (filter is_data r)))) is
    ∙ length-append (spelling e) (text_of (filter is_data r))
    ∙ ap (λ (m : ℕ). m + length (text_of (filter is_data r))) (sym size)
cond_count false true e r n is size =
    ap (λ (c : Bool). length (text_of (cond c (e ∷ filter is_data r) (filter is_data r)))) is ∙ omega arith
cond_count true false e r n is size = omega arith
cond_count false false e r n is size = omega arith

module _ (ids : List ℕ) (held : Places) (segment : ℕ) (es : List Entry) where
  abbrev Left : ℕ → List Entry → ℕ
  Left at rest = length (text_of (filter is_data (kept_from ids held segment at rest)))

  -- the bytes of the kept objects and tombstones before an offset are counted
  pub record IsCounted (at len : ℕ) : Type 0 where
    pub before : List Entry
    pub rest : List Entry
    pub cut : IsCut es before rest at
    pub sum : len + Left at rest ≡ length (text_of (filter is_data (kept_of ids held segment es)))

  pub IsCounted-start : IsCounted 0 0
  IsCounted-start = record { before = []; rest = es; cut = IsCut-start es; sum = omega arith }

  -- the bytes of the next one and of those behind it
  left_next : (at n : ℕ) (rest : List Entry) (e : Entry) (later : List Entry) (b : Bool) → rest ≡ e ∷ later
      → n ≡ length (spelling e) → (is_data e && kept ids held (record { segment = segment; at = at }) e) ≡ b
      → Left at rest ≡ cond b n 0 + Left (at + n) later
  left_next at n rest e later b is size counts =
      ap (Left at) is
      ∙ cond_count (is_data e) (kept ids held (record { segment = segment; at = at }) e) e
      (kept_from ids held segment (at + length (spelling e)) later) n refl size
      ∙ ap (λ (c : Bool). cond c n 0 + Left (at + length (spelling e)) later) counts
      ∙ ap (λ (m : ℕ). cond b n 0 + Left (at + m) later) (sym size)

  pub IsCounted-next : (at len : ℕ) (s : IsCounted at len) (e : Entry) (n : ℕ) → IsHere es s.before s.rest at e n
      → (b : Bool) → (is_data e && kept ids held (record { segment = segment; at = at }) e) ≡ b
      → IsCounted (at + n) (len + cond b n 0)
  IsCounted-next at len s e n here b counts = record {
    before = s.before ++ e ∷ [];
    rest = here.later;
    cut = cut_behind ids held segment es s.before here.later e at n here.cut here.size;
    sum = omega (arith, s.sum, left_next at n s.rest e here.later b here.is here.size counts);
  }

  pub IsCounted-end : (at len : ℕ) → IsCounted at len → length (text_of es) ≤ at
      → len ≡ length (text_of (filter is_data (kept_of ids held segment es)))
  IsCounted-end at len s past =
      let none : Left at s.rest ≡ 0 = ap (Left at) (cut_end es s.before s.rest at s.cut past) in
      omega (arith, s.sum, none)
