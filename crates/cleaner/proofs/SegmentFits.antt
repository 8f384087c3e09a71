-- What is kept of a segment fits one behind a header.
use Rattle.std.proofs.Common.{◌≡◌, ℕ, ◌+◌, ◌≤◌, Bool, true, false, cond, List, [], ◌∷◌, ◌++◌, length, refl, sym, ap}
use Rattle.std.proofs.Common.{subst, ◌∙◌, arith}
use Rattle.std.specs.Prelude.{filter, map}
use Rattle.std.specs.List.{AllByRecursion}
use Rattle.std.proofs.lemmas.List.{length-append}
use Rattle.std.proofs.lemmas.List.Sums.{sum_by-append, sum_by-cons}
use Rattle.entry.specs.declared.entry.Entry.{Entry}
use Rattle.entry.specs.declared.entry.Entry.TheVariants as entry
use Rattle.entry.specs.Format.{spelling, IsEntry}
use Rattle.entry.specs.Text.{text_of, is_data, is_whole, IsSegment}
use Rattle.entry.proofs.ListLemmas.{all_split}
use Rattle.entry.proofs.SpellingLemmas.{length-header}
use Rattle.places.specs.declared.place.Place.{Place}
use Rattle.places.specs.Map.{Places}
use Rattle.compactor.specs.Kept.{kept, kept_from}
use Rattle.compactor.specs.Places.{LiesAt}
use Rattle.compactor.proofs.Cutting.{IsCut, IsCut-start, cut_next}
use Rattle.cleaner.specs.Filling.{total, EachFits}
use Rattle.cleaner.specs.KeptLengths.{kept_lengths, segment_lengths, bytes_in}
use Rattle.cleaner.specs.Laws.{LengthsOfSegment, SegmentFits}
use Rattle.cleaner.specs.Passes.{places_from, places_of}
use Rattle.cleaner.proofs.Fillings.{total_next}
use Rattle.cleaner.proofs.Lengths.{One, lengths_cons, lengths_join}
use Rattle.cleaner.proofs.Places.{place_at}

abbrev Sizes : List Entry → List ℕ
Sizes es = map (λ (e : Entry). length (spelling e)) (filter is_data es)

-- ---- the lengths of a segment

-- by whether the next entry is an object or a tombstone, and kept
cond_lengths : (own keeps : Bool) (e : Entry) (es : List Entry) → is_data e ≡ own
    → cond own (One keeps e ++ Sizes es) (Sizes es) ≡ Sizes (cond keeps (e ∷ es) es)
cond_lengths true true e es own =
    sym (ap (λ (b : Bool). map (λ (x : Entry). length (spelling x))
    (cond b (e ∷ filter is_data es) (filter is_data es)))
    own)
cond_lengths false true e es own =
    sym (ap (λ (b : Bool). map (λ (x : Entry). length (spelling x))
    (cond b (e ∷ filter is_data es) (filter is_data es)))
    own)
cond_lengths true false e es own = refl
cond_lengths false false e es own = refl

module _ (ids : List ℕ) (held : Places) (images : ℕ → List Entry) where
  cond_places : (own : Bool) (s at : ℕ) (e : Entry) (ps : List Place) → IsEntry e → LiesAt (images s) at e
      → kept_lengths ids held images (cond own (place_at s at ∷ ps) ps)
      ≡ cond own (One (kept ids held (place_at s at) e) e ++ kept_lengths ids held images ps)
      (kept_lengths ids held images ps)
  cond_places true s at e ps valid lies = lengths_cons ids held images (place_at s at) ps e valid lies
  cond_places false s at e ps valid lies = refl

  lengths_from : (s at : ℕ) (before rest : List Entry) → AllByRecursion IsEntry (images s)
      → IsCut (images s) before rest at
      → kept_lengths ids held images (places_from s at rest) ≡ Sizes (kept_from ids held s at rest)
  lengths_from s at before [] all cut = refl
  lengths_from s at before (e ∷ later) all cut =
      let next = at + length (spelling e) in
      let valid = (all_split IsEntry before (e ∷ later)
      (subst (λ (xs : List Entry). AllByRecursion IsEntry xs) cut.split all)).1.0 in
      let lies : LiesAt (images s) at e =
      record { before = before; after = later; split = cut.split; offset = cut.offset } in
      cond_places (is_data e) s at e (places_from s next later) valid lies
      ∙ ap (λ (ns : List ℕ). cond (is_data e) (One (kept ids held (place_at s at) e) e ++ ns) ns)
      (lengths_from s next (before ++ e ∷ []) later all (cut_next (images s) before later e at cut))
      ∙ cond_lengths (is_data e) (kept ids held (place_at s at) e) e (kept_from ids held s next later) refl

pub lengths_of_segment : LengthsOfSegment
lengths_of_segment ids held images s valid =
    lengths_from ids held images s 0 [] (images s) valid.each (IsCut-start (images s))

-- ---- its bytes

-- by whether the next entry is an object or a tombstone, and kept
cond_total : (own keeps : Bool) (e : Entry) (es later : List Entry) → is_data e ≡ own
    → total (Sizes es) ≤ length (text_of later) → total (Sizes (cond keeps (e ∷ es) es)) ≤ length (text_of (e ∷ later))
cond_total true true e es later own rest =
    let first : total (Sizes (e ∷ es)) ≡ total (length (spelling e) ∷ Sizes es) =
    ap total (sym (cond_lengths true true e es own)) in
    let sum = total_next (length (spelling e)) (Sizes es) in
    omega (arith, first, sum, rest, length-append (spelling e) (text_of later))
cond_total false true e es later own rest =
    let first : total (Sizes (e ∷ es)) ≡ total (Sizes es) = ap total (sym (cond_lengths false true e es own)) in
    omega (arith, first, rest, length-append (spelling e) (text_of later))
cond_total own false e es later is rest = omega (arith, rest, length-append (spelling e) (text_of later))

module _ (ids : List ℕ) (held : Places) where
  total_from : (s at : ℕ) (es : List Entry) → total (Sizes (kept_from ids held s at es)) ≤ length (text_of es)
  total_from s at [] = omega arith
  total_from s at (e ∷ later) =
      cond_total (is_data e) (kept ids held (place_at s at) e) e
      (kept_from ids held s (at + length (spelling e)) later) later refl
      (total_from s (at + length (spelling e)) later)

  -- a segment begins with its header, which isn't kept as an entry
  behind_header : (s : ℕ) (es : List Entry) → is_whole es ≡ true
      → 18 + total (segment_lengths ids held s es) ≤ length (text_of es)
  behind_header s [] whole = absurd (cc)
  behind_header s (entry.Header h ∷ later) whole =
      let size = length-header h in
      let rest = total_from s (0 + length (spelling (entry.Header h))) later in
      let all = length-append (spelling (entry.Header h)) (text_of later) in
      omega (arith, size, rest, all)
  behind_header s (entry.Digest x ∷ later) whole = absurd (cc)
  behind_header s (entry.Safe x ∷ later) whole = absurd (cc)
  behind_header s (entry.Object x ∷ later) whole = absurd (cc)
  behind_header s (entry.Tombstone x ∷ later) whole = absurd (cc)

pub segment_fits : SegmentFits
segment_fits segment ids held s es valid limit =
    let less = behind_header ids held s es valid.order in
    omega (arith, less, limit)

each_fits : (segment : ℕ) (ns : List ℕ) → 18 + total ns ≤ segment → EachFits segment ns
each_fits segment [] le = tt
each_fits segment (n ∷ ns) le =
    let sum = total_next n ns in
    (omega (arith, sum, le), each_fits segment ns (omega (arith, sum, le)))

both_fit : (segment : ℕ) (ns ks : List ℕ) → EachFits segment ns → EachFits segment ks → EachFits segment (ns ++ ks)
both_fit segment [] ks a b = b
both_fit segment (n ∷ ns) ks a b = (a.0, both_fit segment ns ks a.1 b)

-- ---- of some segments

-- Segments that are no longer than the limit.
abbrev pub AreFine : ℕ → (ℕ → List Entry) → List ℕ → Type 0
AreFine segment images ids =
    AllByRecursion (λ (s : ℕ). IsSegment (images s) × (length (text_of (images s)) ≤ segment)) ids

module _ (segment : ℕ) (ids : List ℕ) (held : Places) (images : ℕ → List Entry) where
  pub lengths_next : (s : ℕ) (others : List ℕ) → IsSegment (images s)
      → kept_lengths ids held images (places_of images (s ∷ others))
      ≡ segment_lengths ids held s (images s) ++ kept_lengths ids held images (places_of images others)
  lengths_next s others valid =
      lengths_join ids held images (places_from s 0 (images s)) (places_of images others)
      ∙ ap (λ (ns : List ℕ). ns ++ kept_lengths ids held images (places_of images others))
      (lengths_of_segment ids held images s valid)

  -- each entry that is kept of such segments fits a segment behind a header
  pub victims_fit : (victims : List ℕ) → AreFine segment images victims
      → EachFits segment (kept_lengths ids held images (places_of images victims))
  victims_fit [] all = tt
  victims_fit (s ∷ others) all =
      let here = segment_lengths ids held s (images s) in
      let later = kept_lengths ids held images (places_of images others) in
      subst (EachFits segment) (sym (lengths_next s others all.0.0))
      (both_fit segment here later
      (each_fits segment here (segment_fits segment ids held s (images s) all.0.0 all.0.1))
      (victims_fit others all.1))

  -- no more is kept of them than they have
  pub kept_within : (victims : List ℕ) → AreFine segment images victims
      → total (kept_lengths ids held images (places_of images victims)) ≤ bytes_in images victims
  kept_within [] all = omega arith
  kept_within (s ∷ others) all =
      let here = segment_lengths ids held s (images s) in
      let later = kept_lengths ids held images (places_of images others) in
      let sum = ap total (lengths_next s others all.0.0) ∙ sum_by-append (λ (n : ℕ). n) here later in
      let own = behind_header ids held s (images s) all.0.0.order in
      let bytes = bytes_next s others in
      omega (arith, sum, own, bytes, kept_within others all.1)
    where
      bytes_next : (s : ℕ) (others : List ℕ)
          → bytes_in images (s ∷ others) ≡ length (text_of (images s)) + bytes_in images others
      bytes_next s others = sum_by-cons (λ (x : ℕ). length (text_of (images x))) s others
