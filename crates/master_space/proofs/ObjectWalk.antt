-- What the loop knows that lists the live objects that a segment has of a table.
use Rattle.std.proofs.Common.{◌≡◌, ℕ, ◌+◌, ◌≤◌, List, [], ◌∷◌, ◌++◌, length, refl, sym, ap, ◌∙◌, append_assoc}
use Rattle.std.specs.Prelude.{◌==◌}
use Rattle.std.specs.Option.{option_to_list}
use Rattle.std.proofs.lemmas.List.{append-nil}
use Rattle.std.proofs.lemmas.List.Elements.{filter-append}
use Rattle.entry.specs.declared.entry.Object.{Object}
use Rattle.entry.specs.declared.entry.Entry.{Entry}
use Rattle.entry.specs.Format.{spelling}
use Rattle.entry.specs.Text.{text_of}
use Rattle.places.specs.Map.{Places}
use Rattle.compactor.proofs.Cutting.{IsCut, IsCut-start, cut_end}
use Rattle.compactor.proofs.Walking.{IsHere, cut_behind}
use Rattle.master_space.specs.Objects.{of_table}
use Rattle.master_state.specs.Sizes.{live_at, live_from}

pub of_table_append : (table : ℕ) (xs ys : List Object) → of_table table (xs ++ ys)
    ≡ of_table table xs ++ of_table table ys
of_table_append table xs ys = filter-append (λ (o : Object). o.key.table == table) xs ys

module _ (held : Places) (table segment : ℕ) (es : List Entry) (old : List Object) where
  -- the table's live objects from an offset on
  abbrev Rest : ℕ → List Entry → List Object
  Rest at rest = of_table table (live_from held segment at rest)

  -- the table's live objects before an offset are listed
  pub record IsListed (at : ℕ) (objects : List Object) : Type 0 where
    pub before : List Entry
    pub rest : List Entry
    pub cut : IsCut es before rest at
    pub all : objects ++ Rest at rest ≡ old ++ Rest 0 es

  pub IsListed-start : IsListed 0 old
  IsListed-start = record { before = []; rest = es; cut = IsCut-start es; all = refl }

  rest_next : (at n : ℕ) (rest : List Entry) (e : Entry) (later : List Entry) (os : List Object) → rest ≡ e ∷ later
      → n ≡ length (spelling e)
      → os ≡ of_table table (option_to_list (live_at held (record { segment = segment; at = at }) e))
      → Rest at rest ≡ os ++ Rest (at + n) later
  rest_next at n rest e later os is size found =
      ap (Rest at) is
      ∙ of_table_append table (option_to_list (live_at held (record { segment = segment; at = at }) e))
      (live_from held segment (at + length (spelling e)) later)
      ∙ ap (λ (l : List Object). l ++ Rest (at + length (spelling e)) later) (sym found)
      ∙ ap (λ (m : ℕ). os ++ Rest (at + m) later) (sym size)

  pub IsListed-next : (at : ℕ) (objects : List Object) (s : IsListed at objects) (e : Entry) (n : ℕ)
      → IsHere es s.before s.rest at e n
      → (os : List Object) → os ≡ of_table table (option_to_list
      (live_at held (record { segment = segment; at = at }) e))
      → IsListed (at + n) (objects ++ os)
  IsListed-next at objects s e n here os found = record {
    before = s.before ++ e ∷ [];
    rest = here.later;
    cut = cut_behind [] held segment es s.before here.later e at n here.cut here.size;
    all = append_assoc objects os (Rest (at + n) here.later)
        ∙ ap (λ (l : List Object). objects ++ l) (sym (rest_next at n s.rest e here.later os here.is here.size found))
        ∙ s.all;
  }

  pub IsListed-end : (at : ℕ) (objects : List Object) → IsListed at objects → length (text_of es) ≤ at
      → objects ≡ old ++ Rest 0 es
  IsListed-end at objects s past =
      sym (append-nil objects)
      ∙ ap (λ (l : List Entry). objects ++ Rest at l) (sym (cut_end es s.before s.rest at s.cut past))
      ∙ s.all
