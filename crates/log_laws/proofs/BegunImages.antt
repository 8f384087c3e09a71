-- The ids and images of a pass's survivors as it begins.
use Rattle.std.proofs.Common.{refl, ◌≡◌, ℕ, zero, suc, ◌+◌, Bool, true, false, cond, List, [], ◌∷◌, ◌++◌, sym, ap, ◌∙◌}
use Rattle.std.proofs.Common.{arith}
use Rattle.std.specs.Prelude.{◌==◌, ◌||◌, if◌then◌else◌}
use Rattle.std.specs.List.{range_with_len}
use Rattle.std.proofs.lemmas.Bool.{eq-eqb, eqb-true, eqb-false, ne_eqb}
use Rattle.log_laws.specs.Ids.{has}
use Rattle.log_laws.specs.Intact.{survivor_entries}
use Rattle.log_laws.specs.Memory.{Images, with_image}
use Rattle.log_laws.specs.ImageSteps.{survivors_begun}

pub range_more : (first n : ℕ) → range_with_len first (suc n) ≡ range_with_len first n ++ (first + n) ∷ []
range_more first zero = let here : first ≡ first + 0 = omega arith in ap (λ (s : ℕ). s ∷ []) here
range_more first (suc n) =
    let last : first + 1 + n ≡ first + suc n = omega arith in
    ap (λ (ids : List ℕ). first ∷ ids)
    (range_more (first + 1) n ∙ ap (λ (s : ℕ). range_with_len (first + 1) n ++ s ∷ []) last)

has_push : (ids : List ℕ) (z s : ℕ) → has (ids ++ z ∷ []) s ≡ (has ids s || (z == s))
has_push [] z s = go (z == s) where
  go : (b : Bool) → (b || false) ≡ b
  go true = refl
  go false = refl
has_push (x ∷ ids) z s = go (x == s) (has_push ids z s) where
  go : (b : Bool) → has (ids ++ z ∷ []) s ≡ (has ids s || (z == s))
      → (b || has (ids ++ z ∷ []) s) ≡ ((b || has ids s) || (z == s))
  go true later = refl
  go false later = later

-- the last survivor has its header alone too
pub image_more : (master z : ℕ) (ids : List ℕ) (image : Images) (s : ℕ)
    → with_image (survivors_begun master ids image) z (survivor_entries master z) s
    ≡ survivors_begun master (ids ++ z ∷ []) image s
image_more master z ids image s =
    go (s == z) refl ∙ ap (λ (b : Bool). if b then survivor_entries master s else image s) (sym (has_push ids z s))
  where
    or_true : (b : Bool) → (b || true) ≡ true
    or_true true = refl
    or_true false = refl

    or_false : (b : Bool) → (b || false) ≡ b
    or_false true = refl
    or_false false = refl

    go : (b : Bool) → (s == z) ≡ b
        → cond b (survivor_entries master z) (survivors_begun master ids image s)
        ≡ (if has ids s || (z == s) then survivor_entries master s else image s)
    go true here =
        let same = eqb-true s z here in
        let last : (has ids s || (z == s)) ≡ true =
        ap (λ (b : Bool). has ids s || b) (eq-eqb z s (sym same)) ∙ or_true (has ids s) in
        ap (survivor_entries master) (sym same)
        ∙ ap (λ (b : Bool). if b then survivor_entries master s else image s) (sym last)
    go false other =
        let not = eqb-false s z other in
        let before : (has ids s || (z == s)) ≡ has ids s =
        ap (λ (b : Bool). has ids s || b) (ne_eqb z s (λ same. not (sym same))) ∙ or_false (has ids s) in
        ap (λ (b : Bool). if b then survivor_entries master s else image s) (sym before)
