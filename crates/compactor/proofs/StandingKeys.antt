-- What a reader finds where an entry lies.
use Rattle.std.proofs.Common.{◌≡◌, ℕ, List, ◌∷◌, ◌++◌, drop, ap, subst, ◌∙◌}
use Rattle.std.specs.Prelude.{Option, Some}
use Rattle.std.specs.List.{AllByRecursion}
use Rattle.std.specs.Option.{option_map, option_and_then}
use Rattle.entry.specs.declared.key.Key.{Key}
use Rattle.entry.specs.declared.entry.Object.{Object}
use Rattle.entry.specs.declared.entry.Entry.{Entry}
use Rattle.entry.specs.declared.entry.Entry.TheVariants as entry
use Rattle.entry.specs.Format.{spelling, front_of, IsEntry}
use Rattle.entry.specs.Text.{text_of}
use Rattle.entry.proofs.ListLemmas.{all_split}
use Rattle.entry.proofs.TextLemmas.{front_of-spelling}
use Rattle.segment.specs.Bytes.{standing_at}
use Rattle.compactor.specs.Places.{LiesAt, as_object, object_in}
use Rattle.compactor.proofs.Cutting.{behind_cut}

pub stands_at : (image : List Entry) (at : ℕ) (e : Entry) → AllByRecursion IsEntry image → LiesAt image at e
    → standing_at at (text_of image) ≡ Some e
stands_at image at e each s =
    let parts = all_split IsEntry s.before (e ∷ s.after) (subst
    (λ (xs : List Entry). AllByRecursion IsEntry xs) s.split each) in
    let behind : drop at (text_of image) ≡ spelling e ++ text_of s.after =
    behind_cut image s.before (e ∷ s.after) at (record { split = s.split; offset = s.offset }) in
    ap (λ (bytes : List ℕ). option_map (λ (f : Entry × ℕ). f.0) (front_of bytes)) behind
    ∙ ap (λ (front : Option (Entry × ℕ)). option_map (λ (f : Entry × ℕ). f.0) front)
    (front_of-spelling e (text_of s.after) parts.1.0)

-- the key that stands at an offset
abbrev pub key_in : List Entry → ℕ → Option Key
key_in image at = option_map (λ (o : Object). o.key) (object_in image at)

pub key_lies : (image : List Entry) (at : ℕ) (o : Object) → AllByRecursion IsEntry image
    → LiesAt image at (entry.Object o) → key_in image at ≡ Some o.key
key_lies image at o each s =
    ap (λ (e : Option Entry). option_map (λ (x : Object). x.key) (option_and_then as_object e))
    (stands_at image at (entry.Object o) each s)
