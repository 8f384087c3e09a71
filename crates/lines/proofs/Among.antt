-- The words of a text that are left, and those that were read.
use Rattle.std.proofs.Common.{◌≡◌, ◌∙◌, ℕ, List, [], ◌∷◌, ◌++◌, ap, refl, sym, append_assoc}
use Rattle.std.specs.Prelude.{Option, None, Some, IfSome}
use Rattle.std.specs.List.{slice_split}
use Rattle.lines.specs.Cutting.{is_space}
use Rattle.lines.specs.Reasons.{HasReason, HasWord, IsAmong, IsWrong, IsWrongWord}
use Rattle.lines.specs.declared.reason.Reason.{Reason}
use Rattle.lines.specs.declared.reason.Reason.TheVariants as reason

-- the words that are left of all
abbrev pub AreLeft : List (List ℕ) → List (List ℕ) → Type 0
AreLeft all rest = (before : List (List ℕ)) × (all ≡ before ++ rest)

pub all_left : (all : List (List ℕ)) → AreLeft all all
all_left all = ([], refl)

-- a word was read
module _ (all rest next : List (List ℕ)) (word : List ℕ) (left : AreLeft all rest) (is : rest ≡ word ∷ next) where
  pub among : IsAmong all word
  among = (left.0, next, left.1 ∙ ap (λ ws. left.0 ++ ws) is)

  pub one_read : AreLeft all next
  one_read = (left.0 ++ word ∷ [], left.1 ∙ ap (λ ws. left.0 ++ ws) is ∙ sym (append_assoc left.0 (word ∷ []) next))

-- ---- wrong words

pub wrong_among : (words : List (List ℕ)) (word : List ℕ) (found : Option Reason) → IsAmong words word
    → IfSome found (IsWrongWord word) → IfSome found (IsWrong words)
wrong_among words word None there wrong = tt
wrong_among words word (Some why) there wrong = (word, there, wrong)

-- a word behind the first one
behind : (first : List ℕ) (rest : List (List ℕ)) (word : List ℕ) (text : List ℕ)
    → slice_split is_space text ≡ first ∷ rest → IsAmong rest word → HasWord text word
behind first rest word text is there = (first ∷ there.0, there.1, is ∙ ap (λ ws. first ∷ ws) there.2)

pub wrong_behind : (text first : List ℕ) (rest : List (List ℕ)) (why : Reason)
    → slice_split is_space text ≡ first ∷ rest → IsWrong rest why → HasReason text why
wrong_behind text first rest reason.Number is w = (w.0, behind first rest w.0 text is w.1, w.2)
wrong_behind text first rest reason.LongKey is w = (w.0, behind first rest w.0 text is w.1, w.2)
wrong_behind text first rest reason.CarriageReturn is w = absurd w.2
wrong_behind text first rest (reason.Byte byte) is w = absurd w.2
wrong_behind text first rest reason.Spaces is w = absurd w.2
wrong_behind text first rest reason.Capital is w = absurd w.2
wrong_behind text first rest reason.Unknown is w = absurd w.2
wrong_behind text first rest (reason.Shape name shape) is w = absurd w.2
wrong_behind text first rest reason.Uncounted is w = absurd w.2
wrong_behind text first rest reason.TooLong is w = absurd w.2
wrong_behind text first rest reason.TooMany is w = absurd w.2
wrong_behind text first rest reason.NoLaterMaster is w = absurd w.2
wrong_behind text first rest (reason.NoBackup last) is w = absurd w.2
