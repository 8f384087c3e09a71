-- Replays, one text at a time.
use Rattle.std.proofs.Common.{◌≡◌, inl, inr, ℕ, ◌+◌, ◌<◌, List, [], ◌∷◌, ◌++◌, length, take, drop}
use Rattle.std.proofs.Common.{Option, Some, None, Vec, refl, sym, ◌∙◌, ap, subst, arith, take-append-drop, get_or}
use Rattle.std.specs.Prelude.{IsSome}
use Rattle.std.specs.declared.alloc.Global.{Global}
use Rattle.std.proofs.lemmas.List.{length-map, length-take, map_more, take-map}
use Rattle.std.proofs.lemmas.Option.{none-some}
use Rattle.std.specs.Option.{option_and_then, option_map}
use Rattle.take_journal.specs.Frames.{texts_of}
use Rattle.registry_file.specs.Kept.{IsFirstWrong, Kept, after, after_text, begun, kept_of, replayed}
use Rattle.registry_text.specs.RecordText.{FleetValue, fleet_in, record_in, record_text}
use Rattle.registry_text.specs.declared.record.Record.{Record}

-- ---- several texts

append_next : (xs ys : List (List ℕ))
    → ((k : Kept) → replayed k (xs ++ ys) ≡ option_and_then (λ j. replayed j ys) (replayed k xs))
    → (o : Option Kept) → option_and_then (λ k. replayed k (xs ++ ys)) o
    ≡ option_and_then (λ k. replayed k ys) (option_and_then (λ k. replayed k xs) o)
append_next xs ys each None = refl
append_next xs ys each (Some k) = each k

replayed-append : (k : Kept) (xs ys : List (List ℕ))
    → replayed k (xs ++ ys) ≡ option_and_then (λ j. replayed j ys) (replayed k xs)
replayed-append k [] ys = refl
replayed-append k (x ∷ xs) ys = append_next xs ys (λ j. replayed-append j xs ys) (after_text k x)

only : (o : Option Kept) → option_and_then (λ k. Some k) o ≡ o
only None = refl
only (Some k) = refl

-- ---- what texts keep

-- the store that a first text names, and further texts
kept-append : (first : List ℕ) (xs ys : List (List ℕ))
    → kept_of (first ∷ (xs ++ ys)) ≡ option_and_then (λ k. replayed k ys) (kept_of (first ∷ xs))
kept-append first xs ys = by_fleet (fleet_in first)
  where
    by_fleet : (o : Option FleetValue) → option_and_then (λ f. replayed (begun f) (xs ++ ys)) o
        ≡ option_and_then (λ k. replayed k ys) (option_and_then (λ f. replayed (begun f) xs) o)
    by_fleet None = refl
    by_fleet (Some f) = replayed-append (begun f) xs ys

pub kept-push : (k : Kept) (texts : List (List ℕ)) (text : List ℕ) → kept_of texts ≡ Some k
    → kept_of (texts ++ text ∷ []) ≡ after_text k text
kept-push k [] text is = absurd (none-some k is)
kept-push k (first ∷ texts) text is =
    kept-append first texts (text ∷ [])
    ∙ ap (λ (o : Option Kept). option_and_then (λ j. replayed j (text ∷ [])) o) is
    ∙ only (after_text k text)

-- one record more
pub kept-record : (k : Kept) (texts : List (List ℕ)) (r : Record) → kept_of texts ≡ Some k
    → record_in (record_text r) ≡ Some r → kept_of (texts ++ record_text r ∷ []) ≡ Some (after k r)
kept-record k texts r is reads =
    kept-push k texts (record_text r) is ∙ ap (λ (o : Option Record). option_map (after k) o) reads

none_stays : (front rest : List (List ℕ)) → 0 < length front → kept_of front ≡ None → kept_of (front ++ rest) ≡ None
none_stays [] rest more none = absurd (omega (arith, more))
none_stays (x ∷ xs) rest more none =
    kept-append x xs rest ∙ ap (λ (o : Option Kept). option_and_then (λ k. replayed k rest) o) none

-- a front that isn't a registry's spoils the whole
pub wrong_whole : (texts : List (List ℕ)) (i : ℕ) → IsFirstWrong texts i → (k : Kept) → kept_of texts ≡ Some k → ⊥
wrong_whole texts i wrong k is =
    let front = take (i + 1) texts in
    let size : 0 < length front = omega (arith, wrong.within, length-take (i + 1) texts) in
    let none : kept_of texts ≡ None =
    ap (λ (l : List (List ℕ)). kept_of l) (sym (take-append-drop (i + 1) texts))
    ∙ none_stays front (drop (i + 1) texts) size wrong.here in
    none-some k (sym none ∙ is)

-- ---- one text in memory

pub taken : (k j : Kept) (text : List ℕ) (r : Record) → record_in text ≡ Some r → j ≡ after k r
    → after_text k text ≡ Some j
taken k j text r reads is =
    ap (λ (o : Option Record). option_map (after k) o) reads ∙ ap (λ (l : Kept). Some l) (sym is)

-- ---- a loop over texts

-- one text more
texts_more : (texts : List (Vec ℕ Global)) (i : ℕ) (text : Vec ℕ Global) → i < length texts → text ≡ get_or texts i text
    → texts_of (take (i + 1) texts) ≡ texts_of (take i texts) ++ text.items ∷ []
texts_more texts i text within is =
    map_more (λ (t : Vec ℕ Global). t.items) texts i text within
    ∙ ap (λ (t : Vec ℕ Global). texts_of (take i texts) ++ t.items ∷ []) (sym is)

-- the first one
pub kept_first : (texts : List (Vec ℕ Global)) (text : Vec ℕ Global) (k : Kept) → 0 < length texts
    → text ≡ get_or texts 0 text → fleet_in text.items ≡ Some k.fleet → k ≡ begun k.fleet
    → kept_of (texts_of (take 1 texts)) ≡ Some k
kept_first [] text k more is names new = absurd (omega (arith, more))
kept_first (x ∷ xs) text k more is names new =
    ap (λ (t : Vec ℕ Global). kept_of (t.items ∷ [])) (sym is)
    ∙ ap (λ (o : Option FleetValue). option_and_then (λ f. Some (begun f)) o) names
    ∙ ap (λ (j : Kept). Some j) (sym new)

pub kept_more : (texts : List (Vec ℕ Global)) (i : ℕ) (text : Vec ℕ Global) (k : Kept) → i < length texts
    → text ≡ get_or texts i text → kept_of (texts_of (take i texts)) ≡ Some k
    → kept_of (texts_of (take (i + 1) texts)) ≡ after_text k text.items
kept_more texts i text k within is so_far =
    ap (λ (l : List (List ℕ)). kept_of l) (texts_more texts i text within is)
    ∙ kept-push k (texts_of (take i texts)) text.items so_far

-- the first text names no store
pub wrong_first : (texts : List (Vec ℕ Global)) (text : Vec ℕ Global) → 0 < length texts
    → text ≡ get_or texts 0 text → fleet_in text.items ≡ None → IsFirstWrong (texts_of texts) 0
wrong_first [] text more is none = absurd (omega (arith, more))
wrong_first (x ∷ xs) text more is none =
    let many : length (texts_of (x ∷ xs)) ≡ length (x ∷ xs) = length-map (x ∷ xs) (λ (t : Vec ℕ Global). t.items) in
    record {
      within = omega (arith, many);
      before = inl refl;
      here = ap (λ (t : Vec ℕ Global). kept_of (t.items ∷ [])) (sym is)
          ∙ ap (λ (o : Option FleetValue). option_and_then (λ f. Some (begun f)) o) none;
    }

pub first_wrong : (texts : List (Vec ℕ Global)) (i : ℕ) (text : Vec ℕ Global) (k : Kept) → i < length texts
    → text ≡ get_or texts i text → kept_of (texts_of (take i texts)) ≡ Some k → after_text k text.items ≡ None
    → IsFirstWrong (texts_of texts) i
first_wrong texts i text k within is so_far wrong =
    let f : Vec ℕ Global → List ℕ = λ t. t.items in
    let many : length (texts_of texts) ≡ length texts = length-map texts f in
    record {
      within = subst (λ (n : ℕ). i < n) (sym many) within;
      before = inr (subst (λ (o : Option Kept). IsSome o)
          (sym (ap (λ (l : List (List ℕ)). kept_of l) (take-map f i texts) ∙ so_far)) refl);
      here = ap (λ (l : List (List ℕ)). kept_of l) (take-map f (i + 1) texts)
          ∙ kept_more texts i text k within is so_far ∙ wrong;
    }
