-- The lengths that digests list.
use Rattle.std.proofs.Common.{◌≡◌, ℕ, ◌≤◌, inl, inr, Bool, true, false, cond, List, [], ◌∷◌, ◌++◌, Some, refl, sym, ap}
use Rattle.std.proofs.Common.{subst, ◌∙◌, arith}
use Rattle.std.specs.Prelude.{Option, None, IfSome, map, unwrap_or, ◌==◌}
use Rattle.std.proofs.lemmas.Bool.{cases_eq}
use Rattle.std.proofs.lemmas.Bool.Decides.{nat_tests}
use Rattle.entry.specs.declared.digest.Listed.{Listed}
use Rattle.entry.specs.declared.digest.Digest.{Digest}
use Rattle.entry.specs.Bag.{IsAmong}
use Rattle.entry.specs.Text.{len_in, listed_len}
use Rattle.entry.proofs.BagLemmas.{among_push}
use Rattle.log_laws.specs.Heads.{Start, ids_of, listed_with, digest_with, digest_for, len_next, lens_next}
use Rattle.log_laws.specs.Text.{length_of}
use Rattle.log_laws.specs.Data.{FailConfig}
use Rattle.log_laws.specs.Log.{Texts, text_lens, lens_in, AreLens}

-- ---- lengths of texts

-- the same texts have the same lengths
same_lens : (f g : Texts) (ids : List ℕ) → ((s : ℕ) → IsAmong s ids → g.text s ≡ f.text s)
    → text_lens f ids ≡ text_lens g ids
same_lens f g [] same = refl
same_lens f g (s ∷ ids) same =
    let here = sym (ap length_of (same s (inl refl))) in
    let rest = same_lens f g ids (λ t m. same t (inr m)) in (λ i. here i ∷ rest i)

-- so a digest that lists the ones lists the others
pub lens_each : (c : FailConfig) (f g : Texts) (n : Start) → ((s : ℕ) → IsAmong s n.others → g.text s ≡ f.text s)
    → AreLens c f n → AreLens c g n
lens_each c f g n same lens =
    lens ∙ ap (λ (l : List ℕ). cond (c.format == 2) (Some l) None) (same_lens f g n.others same)

-- ---- what a digest lists

len_there : (real : ℕ → ℕ) (own : Listed) (s : ℕ) (ids : List ℕ) → IsAmong s ids
    → len_in s (listed_with ids (map real ids) ++ own ∷ []) ≡ Some (real s)
len_there real own s [] m = absurd m
len_there real own s (t ∷ ids) m = elim (cases_eq t s)
    as (λ _. len_in s (listed_with (t ∷ ids) (map real (t ∷ ids)) ++ own ∷ []) ≡ Some (real s)) [
      | inl same ↦ (
          let test : (t == s) ≡ true = grind (arith, nat_tests) in rw test (ap (λ (z : ℕ). Some (real z)) same))
      | inr other ↦ (
          let test : (t == s) ≡ false = grind (arith, nat_tests) in
          rw test (len_there real own s ids (rest other m)))
    ]
  where
    rest : (t ≡ s → ⊥) → IsAmong s (t ∷ ids) → IsAmong s ids
    rest other (inl e) = absurd (omega arith)
    rest other (inr l) = l

module _ (c : FailConfig) (texts : Texts) (n : Start) (lens : AreLens c texts n) where
  abbrev real : ℕ → ℕ
  real = λ (s : ℕ). length_of (texts.text s)

  abbrev by_format : Bool → Digest
  by_format b = digest_with n.others (cond b (Some (text_lens texts n.others)) None) n.id

  digest_by : digest_for n ≡ by_format (c.format == 2)
  digest_by = ap (λ (o : Option (List ℕ)). digest_with n.others o n.id) lens

  -- under format 2 a listed length is that of the text
  pub listed_two : (s : ℕ) → IsAmong s n.others → c.format ≡ 2 → listed_len s (digest_for n) ≡ Some (real s)
  listed_two s m two =
      let test : (c.format == 2) ≡ true = grind (arith, nat_tests) in
      ap (λ (x : Digest). listed_len s x) (digest_by ∙ ap by_format test) ∙ len_there real _ s n.others m

  -- a replica as long as its text is as long as the digest says
  pub long_enough : (s : ℕ) → IsAmong s n.others → (size : ℕ) → size ≡ real s
      → IfSome (listed_len s (digest_for n)) (λ (k : ℕ). k ≤ size)
  long_enough s m size is =
      subst (λ (x : Digest). IfSome (listed_len s x) (λ (k : ℕ). k ≤ size)) (sym digest_by)
      (under (c.format == 2)) where
        under : (b : Bool) → IfSome (listed_len s (by_format b)) (λ (k : ℕ). k ≤ size)
        under true = subst (λ (o : Option ℕ). IfSome o (λ (k : ℕ). k ≤ size)) (sym (len_there real _ s n.others m))
            (omega arith)
        under false = tt

  -- ---- the next digest

  next_by : (len : ℕ → ℕ) (ids : List ℕ) (b : Bool) → (b ≡ true → map len ids ≡ text_lens texts ids)
      → lens_next (by_format b) len ids ≡ cond b (Some (text_lens texts ids)) None
  next_by len ids true is = ap (λ (l : List ℕ). Some l) (is refl)
  next_by len ids false is = refl

  -- if under format 2 these are the lengths of the texts, the next digest has what it is to have
  pub lens_known : (len : ℕ → ℕ) (ids : List ℕ)
      → ((c.format == 2) ≡ true → (s : ℕ) → IsAmong s ids → len s ≡ real s)
      → lens_next (digest_for n) len ids ≡ lens_in c.format texts ids
  lens_known len ids is =
      ap (λ (x : Digest). lens_next x len ids) digest_by
      ∙ next_by len ids (c.format == 2) (λ two. map_lens ids (is two)) where
        map_lens : (ids : List ℕ) → ((s : ℕ) → IsAmong s ids → len s ≡ real s) → map len ids ≡ text_lens texts ids
        map_lens [] each = refl
        map_lens (s ∷ ids) each =
            let here = each s (inl refl) in
            let rest = map_lens ids (λ t m. each t (inr m)) in (λ i. here i ∷ rest i)

  -- a listed length is that of the text, and the head's is what it is said to be
  module _ (two : (c.format == 2) ≡ true) (own : ℕ) (whole : real n.id ≡ own) (s : ℕ) where
    listed_is : IsAmong s n.others → unwrap_or (listed_len s (digest_for n)) own ≡ real s
    listed_is m =
        ap (λ (x : Digest). unwrap_or (listed_len s x) own) (digest_by ∙ ap by_format two)
        ∙ ap (λ (o : Option ℕ). unwrap_or o own) (len_there real _ s n.others m)

    pub len_known : IsAmong s (ids_of n) → len_next (digest_for n) n.id own s ≡ real s
    len_known m = elim (cases_eq s n.id) as (λ _. len_next (digest_for n) n.id own s ≡ real s) [
      | inl same ↦ (
          let test : (s == n.id) ≡ true = grind (arith, nat_tests) in
          rw test (sym whole ∙ ap real (sym same)))
      | inr other ↦ (
          let test : (s == n.id) ≡ false = grind (arith, nat_tests) in rw test (listed_is (before other)))
    ] where
      before : (s ≡ n.id → ⊥) → IsAmong s n.others
      before other = elim (among_push s n.others n.id m) as (λ _. IsAmong s n.others) [
        | inl l ↦ l
        | inr is ↦ absurd (other (sym is))
      ]
