-- What the loop knows that lists the sizes of a segment's live objects.
use Rattle.std.proofs.Common.{◌≡◌, ℕ, ◌+◌, ◌≤◌, List, [], ◌∷◌, ◌++◌, length, map, refl, sym, ap, ◌∙◌, append_assoc}
use Rattle.std.specs.Prelude.{Option, Some, None}
use Rattle.std.specs.Option.{option_map, option_to_list}
use Rattle.std.proofs.lemmas.List.{append-nil, map-append}
use Rattle.entry.specs.declared.entry.Object.{Object}
use Rattle.entry.specs.declared.entry.Entry.{Entry}
use Rattle.entry.specs.declared.tablet.Size.{Size}
use Rattle.entry.specs.Format.{spelling}
use Rattle.entry.specs.Text.{text_of}
use Rattle.places.specs.Map.{Places}
use Rattle.compactor.proofs.Cutting.{IsCut, IsCut-start, cut_end}
use Rattle.compactor.proofs.Walking.{IsHere, cut_behind}
use Rattle.master_state.specs.Sizes.{size_of, live_at, live_from}

listed_option : (x : Option Object) → map size_of (option_to_list x) ≡ option_to_list (option_map size_of x)
listed_option None = refl
listed_option (Some o) = refl

module _ (held : Places) (segment : ℕ) (es : List Entry) (old : List Size) where
  -- the sizes from an offset on
  abbrev Rest : ℕ → List Entry → List Size
  Rest at rest = map size_of (live_from held segment at rest)

  -- the sizes of the live objects before an offset are listed
  pub record IsListed (at : ℕ) (sizes : List Size) : Type 0 where
    pub before : List Entry
    pub rest : List Entry
    pub cut : IsCut es before rest at
    pub all : sizes ++ Rest at rest ≡ old ++ Rest 0 es

  pub IsListed-start : IsListed 0 old
  IsListed-start = record { before = []; rest = es; cut = IsCut-start es; all = refl }

  rest_next : (at n : ℕ) (rest : List Entry) (e : Entry) (later : List Entry) (x : Option Size) → rest ≡ e ∷ later
      → n ≡ length (spelling e) → x ≡ option_map size_of (live_at held (record { segment = segment; at = at }) e)
      → Rest at rest ≡ option_to_list x ++ Rest (at + n) later
  rest_next at n rest e later x is size found =
      ap (Rest at) is
      ∙ map-append size_of (option_to_list (live_at held (record { segment = segment; at = at }) e))
      (live_from held segment (at + length (spelling e)) later)
      ∙ ap (λ (l : List Size). l ++ Rest (at + length (spelling e)) later)
      (listed_option (live_at held (record { segment = segment; at = at }) e) ∙ ap option_to_list (sym found))
      ∙ ap (λ (m : ℕ). option_to_list x ++ Rest (at + m) later) (sym size)

  pub IsListed-next : (at : ℕ) (sizes : List Size) (s : IsListed at sizes) (e : Entry) (n : ℕ)
      → IsHere es s.before s.rest at e n
      → (x : Option Size) → x ≡ option_map size_of (live_at held (record { segment = segment; at = at }) e)
      → IsListed (at + n) (sizes ++ option_to_list x)
  IsListed-next at sizes s e n here x found = record {
    before = s.before ++ e ∷ [];
    rest = here.later;
    cut = cut_behind [] held segment es s.before here.later e at n here.cut here.size;
    all = append_assoc sizes (option_to_list x) (Rest (at + n) here.later)
        ∙ ap (λ (l : List Size). sizes ++ l) (sym (rest_next at n s.rest e here.later x here.is here.size found))
        ∙ s.all;
  }

  pub IsListed-end : (at : ℕ) (sizes : List Size) → IsListed at sizes → length (text_of es) ≤ at
      → sizes ≡ old ++ Rest 0 es
  IsListed-end at sizes s past =
      sym (append-nil sizes)
      ∙ ap (λ (l : List Entry). sizes ++ Rest at l) (sym (cut_end es s.before s.rest at s.cut past))
      ∙ s.all
