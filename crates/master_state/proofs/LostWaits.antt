-- The loop over the waiting segments puts those that still wait to the front of the list.
use Rattle.std.proofs.Common.{◌≡◌, ℕ, zero, suc, ◌+◌, ◌<◌, ◌≤◌, Bool, true, false, List, [], ◌∷◌, ◌++◌, length, map}
use Rattle.std.proofs.Common.{filter, take, drop, get_or, refl, sym, ap, ◌∙◌, arith}
use Rattle.std.specs.Prelude.{if◌then◌else◌}
use Rattle.std.specs.List.{AllByRecursion}
use Rattle.std.proofs.Math.ListN.{set}
use Rattle.std.proofs.lemmas.List.{append-nil, drop-set-lt, get_or-drop, length-set, map-append, take_more}
use Rattle.std.proofs.lemmas.List.{take_more_set}
use Rattle.std.proofs.lemmas.List.Elements.{filter-append}

drop_more : {X : Type 0} (xs ys : List X) (n m : ℕ) → m ≡ suc n → drop n xs ≡ drop n ys → drop m xs ≡ drop m ys
drop_more xs ys n m is same =
    ap (λ (k : ℕ). drop k xs) is ∙ sym (one n xs) ∙ ap (drop 1) same ∙ one n ys ∙ ap (λ (k : ℕ). drop k ys) (sym is)
  where
    one : {X : Type 0} (k : ℕ) (zs : List X) → drop 1 (drop k zs) ≡ drop (suc k) zs
    one zero zs = refl
    one (suc k) [] = refl
    one (suc k) (z ∷ zs) = one k zs

module _ {X : Type 0} (old items : List X) (kept place : ℕ) (f : X → X) (keeps : X → Bool) (x : X) (le : kept ≤ place)
    (lt : place < length old) (count : length items ≡ length old)
    (front : take kept items ≡ filter keeps (map f (take place old))) (back : drop place items ≡ drop place old)
    (read : x ≡ get_or items place x) where
  pub read_old : get_or old place x ≡ x
  read_old =
      let here : place + 0 ≡ place = omega arith in
      ap (λ (n : ℕ). get_or old n x) (sym here) ∙ sym (get_or-drop place old 0 x)
      ∙ ap (λ (xs : List X). get_or xs 0 x) (sym back) ∙ get_or-drop place items 0 x
      ∙ ap (λ (n : ℕ). get_or items n x) here ∙ sym read

  whole : (t : Bool) → keeps (f x) ≡ t
      → filter keeps (map f (take (place + 1) old))
      ≡ filter keeps (map f (take place old)) ++ (if t then f x ∷ [] else [])
  whole t is =
      ap (λ (xs : List X). filter keeps (map f xs)) (take_more old place x lt
      ∙ ap (λ (y : X). take place old ++ y ∷ []) read_old)
      ∙ ap (filter keeps) (map-append f (take place old) (x ∷ []))
      ∙ filter-append keeps (map f (take place old)) (f x ∷ [])
      ∙ ap (λ (xs : List X). filter keeps (map f (take place old)) ++ xs) (one t is)
    where
      one : (t : Bool) → keeps (f x) ≡ t → filter keeps (f x ∷ []) ≡ (if t then f x ∷ [] else [])
      one true is = rw is refl
      one false is = rw is refl

  pub kept_front : (y : X) → y ≡ f x → keeps (f x) ≡ true
      → take (kept + 1) (set items kept y) ≡ filter keeps (map f (take (place + 1) old))
  kept_front y own is =
      take_more_set items kept y (omega arith)
      ∙ (λ i. front i ++ own i ∷ [])
      ∙ sym (whole true is)

  pub gone_front : keeps (f x) ≡ false → take kept items ≡ filter keeps (map f (take (place + 1) old))
  gone_front is =
      front ∙ sym (append-nil (filter keeps (map f (take place old)))) ∙ sym (whole false is)

  pub kept_back : (y : X) → drop (place + 1) (set items kept y) ≡ drop (place + 1) old
  kept_back y = drop-set-lt (place + 1) items kept y (omega arith) ∙ gone_back where
    gone_back : drop (place + 1) items ≡ drop (place + 1) old
    gone_back = drop_more items old place (place + 1) (omega arith) back

  pub gone_back : drop (place + 1) items ≡ drop (place + 1) old
  gone_back = drop_more items old place (place + 1) (omega arith) back

  pub kept_count : (y : X) → length (set items kept y) ≡ length old
  kept_count y = length-set items kept y ∙ count

pub all_at : {X : Type 0} (P : X → Type 0) (xs : List X) (n : ℕ) (d : X) → AllByRecursion P xs → n < length xs
    → P (get_or xs n d)
all_at P [] n d all lt = absurd (omega arith)
all_at P (x ∷ xs) zero d all lt = all.0
all_at P (x ∷ xs) (suc n) d all lt = all_at P xs n d all.1 (omega arith)
