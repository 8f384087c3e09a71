-- The lengths of what is kept.
use Rattle.std.proofs.Common.{◌≡◌, ℕ, inl, inr, Bool, true, false, cond, List, [], ◌∷◌, ◌++◌, length, refl, sym, ap}
use Rattle.std.proofs.Common.{◌∙◌, append_assoc}
use Rattle.std.specs.Prelude.{Option, Some, None}
use Rattle.entry.specs.declared.entry.Entry.{Entry}
use Rattle.entry.specs.Bag.{IsAmong}
use Rattle.entry.specs.Format.{spelling, IsEntry}
use Rattle.entry.specs.Text.{text_of}
use Rattle.segment.specs.Bytes.{standing_at}
use Rattle.places.specs.declared.place.Place.{Place}
use Rattle.places.specs.Map.{Places}
use Rattle.compactor.specs.Kept.{kept}
use Rattle.compactor.specs.Places.{LiesAt}
use Rattle.cleaner.specs.Filling.{AreSome}
use Rattle.cleaner.specs.KeptLengths.{lengths_at, kept_lengths}
use Rattle.cleaner.specs.Laws.{KeepsNoMore}
use Rattle.cleaner.proofs.Keeping.{stands}

-- ---- at places

-- the length of an entry, if it is kept
abbrev pub One : Bool → Entry → List ℕ
One keeps e = cond keeps (length (spelling e) ∷ []) []

module _ (ids : List ℕ) (held : Places) (images : ℕ → List Entry) where
  -- where an entry lies
  pub at_stands : (p : Place) (e : Entry) → IsEntry e → LiesAt (images p.segment) p.at e
      → lengths_at ids held p (standing_at p.at (text_of (images p.segment))) ≡ One (kept ids held p e) e
  at_stands p e valid lies = ap (lengths_at ids held p) (stands (images p.segment) p.at e valid lies)

  pub lengths_cons : (p : Place) (ps : List Place) (e : Entry) → IsEntry e → LiesAt (images p.segment) p.at e
      → kept_lengths ids held images (p ∷ ps) ≡ One (kept ids held p e) e ++ kept_lengths ids held images ps
  lengths_cons p ps e valid lies =
      ap (λ (ns : List ℕ). ns ++ kept_lengths ids held images ps) (at_stands p e valid lies)

  pub lengths_join : (ps qs : List Place)
      → kept_lengths ids held images (ps ++ qs) ≡ kept_lengths ids held images ps ++ kept_lengths ids held images qs
  lengths_join [] qs = refl
  lengths_join (p ∷ ps) qs =
      let here = lengths_at ids held p (standing_at p.at (text_of (images p.segment))) in
      ap (λ (ns : List ℕ). here ++ ns) (lengths_join ps qs)
      ∙ sym (append_assoc here (kept_lengths ids held images ps) (kept_lengths ids held images qs))

-- ---- fewer

some_more : (n : ℕ) (ks ns : List ℕ) → AreSome ks ns → AreSome ks (n ∷ ns)
some_more n [] ns some = tt
some_more n (k ∷ ks) ns some = inr some

cond_some : (b t : Bool) (n : ℕ) (ks ns : List ℕ) → (b ≡ true → t ≡ true) → AreSome ks ns
    → AreSome (cond b (n ∷ []) [] ++ ks) (cond t (n ∷ []) [] ++ ns)
cond_some true true n ks ns so some = inl (refl, some)
cond_some true false n ks ns so some = absurd (let never : false ≡ true = so refl in cc)
cond_some false true n ks ns so some = some_more n ks ns some
cond_some false false n ks ns so some = some

at_some : (ids again : List ℕ) (held later : Places) (p : Place) (o : Option Entry) (ks ns : List ℕ)
    → ((e : Entry) → o ≡ Some e → kept again later p e ≡ true → kept ids held p e ≡ true) → AreSome ks ns
    → AreSome (lengths_at again later p o ++ ks) (lengths_at ids held p o ++ ns)
at_some ids again held later p None ks ns so some = some
at_some ids again held later p (Some e) ks ns so some =
    cond_some (kept again later p e) (kept ids held p e) (length (spelling e)) ks ns (so e refl) some

-- what is kept later, if it was kept before, are some of the lengths before
pub no_more_are_some : (ids again : List ℕ) (held later : Places) (images : ℕ → List Entry) (places : List Place)
    → KeepsNoMore ids again held later images places
    → AreSome (kept_lengths again later images places) (kept_lengths ids held images places)
no_more_are_some ids again held later images [] so = tt
no_more_are_some ids again held later images (p ∷ ps) so =
    at_some ids again held later p (standing_at p.at (text_of (images p.segment)))
    (kept_lengths again later images ps) (kept_lengths ids held images ps)
    (λ e is keeps. so p e (inl refl) is keeps)
    (no_more_are_some ids again held later images ps (λ q e m is keeps. so q e (inr m) is keeps))

-- images that are the same at the places have the same lengths
pub lengths_agree : (ids : List ℕ) (held : Places) (images again : ℕ → List Entry) (places : List Place)
    → ((p : Place) → IsAmong p places → again p.segment ≡ images p.segment)
    → kept_lengths ids held again places ≡ kept_lengths ids held images places
lengths_agree ids held images again [] same = refl
lengths_agree ids held images again (p ∷ ps) same =
    ap (λ (es : List Entry). lengths_at ids held p (standing_at p.at (text_of es)) ++ kept_lengths ids held again ps)
    (same p (inl refl))
    ∙ ap (λ (ns : List ℕ). lengths_at ids held p (standing_at p.at (text_of (images p.segment))) ++ ns)
    (lengths_agree ids held images again ps (λ q m. same q (inr m)))
