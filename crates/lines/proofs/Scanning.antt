-- How a line stands behind two parts of it, one after another.
use Rattle.std.proofs.Common.{◌≡◌, ◌≢◌, ◌∙◌, ◌<◌, ◌+◌, ◌++◌, ◌∷◌, [], sym, refl, subst, ap, get_or, ℕ, suc, Bool, true}
use Rattle.std.proofs.Common.{false, List, length, take, arith}
use Rattle.std.specs.List.{All}
use Rattle.std.proofs.lemmas.List.{take_more}
use Rattle.lines.specs.Scanning.{HoldsTogether, IsInBytes, behind, step}
use Rattle.lines.specs.Reading.{IsFrontOfLine, IsFrontOfWords}
use Rattle.lines.specs.declared.scan.Scan.{Scan}
use Rattle.lines.specs.declared.scan.Scan.TheVariants as scan

pub behind_both : (s : Scan) (xs ys : List ℕ) → behind s (xs ++ ys) ≡ behind (behind s xs) ys
behind_both s [] ys = refl
behind_both s (x ∷ xs) ys = behind_both (step s x) xs ys

pub hold_both : (s : Scan) (xs ys : List ℕ) → HoldsTogether s xs → HoldsTogether (behind s xs) ys
    → HoldsTogether s (xs ++ ys)
hold_both s [] ys first then = then
hold_both s (x ∷ xs) ys first then = (first.0, hold_both (step s x) xs ys first.1 then)

pub behind_words : (xs : List ℕ) → behind scan.Words xs ≡ scan.Words
behind_words [] = refl
behind_words (x ∷ xs) = behind_words xs

pub words_hold : (xs : List ℕ) → All (λ b. b ≢ 10) xs → HoldsTogether scan.Words xs
words_hold [] none = tt
words_hold (x ∷ xs) none = (
  λ is. absurd (none 0 0 (omega arith) is),
  words_hold xs (λ k d below. none (suc k) d (omega arith)),
)

-- one byte more
pub behind_one : (s : Scan) (xs : List ℕ) (b : ℕ) → behind s (xs ++ b ∷ []) ≡ step (behind s xs) b
behind_one s xs b = behind_both s xs (b ∷ [])

pub hold_one : (s : Scan) (xs : List ℕ) (b : ℕ) → HoldsTogether s xs → (b ≡ 10 → IsInBytes (behind s xs))
    → HoldsTogether s (xs ++ b ∷ [])
hold_one s xs b first last = hold_both s xs (b ∷ []) first (last, tt)

-- a line of words stands as it stood
pub words_front : (bytes : List ℕ) (most len : ℕ) (ended : Bool) → IsFrontOfWords bytes most len ended
    → IsFrontOfLine bytes most scan.Words len ended scan.Words
words_front bytes most len true is = (
  words_hold _ is.0,
  is.1,
  is.2,
  is.3,
  λ inside. subst IsInBytes (behind_words (take len bytes)) inside,
)
words_front bytes most len false is = (words_hold _ is.0, is.1, sym (behind_words (take len bytes)))

-- one byte more of what is shown
pub one_more : (s stands next : Scan) (bytes : List ℕ) (len : ℕ) → len < length bytes
    → stands ≡ behind s (take len bytes) → HoldsTogether s (take len bytes) → next ≡ step stands (get_or bytes len 0)
    → (get_or bytes len 0 ≡ 10 → IsInBytes stands)
    → (next ≡ behind s (take (len + 1) bytes)) × HoldsTogether s (take (len + 1) bytes)
one_more s stands next bytes len below so_far together is inside =
    let b = get_or bytes len 0 in
    let more = take_more bytes len 0 below in (
      is ∙ ap (λ (t : Scan). step t b) so_far ∙ sym (behind_one s (take len bytes) b)
          ∙ ap (λ l. behind s l) (sym more),
      subst (HoldsTogether s) (sym more)
          (hold_one s (take len bytes) b together (λ feed. subst IsInBytes so_far (inside feed))),
    )
