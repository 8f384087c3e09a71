-- A file is the frames that count, and its end.
use Rattle.std.proofs.Common.{◌≡◌, ◌≢◌, inl, inr, ℕ, zero, suc, ◌+◌, ◌≤◌, ◌<◌, Bool, cond, List, [], ◌∷◌, ◌++◌}
use Rattle.std.proofs.Common.{length, take, drop, Option, Some, None, refl, sym, ◌∙◌, ap, subst, arith, append_assoc}
use Rattle.std.proofs.Common.{length-append}
use Rattle.std.proofs.Common.{take-append-drop}
use Rattle.std.proofs.lemmas.List.{drop-drop, length-take-le, length-drop}
use Rattle.std.proofs.lemmas.Bool.{cases_eq, cases_lt, ne_eqb}
use Rattle.std.proofs.lemmas.Option.{none-some}
use Rattle.take_journal.specs.Frames.{AreShort, IsShort, end_of, first_frame, frame, frames, len_bytes, named_len}
use Rattle.take_journal.specs.Frames.{recovered, split_at}
use Rattle.take_journal.proofs.Numbers.{AreBytes, AreBytes-drop, AreBytes-rest, len_bytes-back, length-len_bytes}
use Rattle.take_journal.proofs.Numbers.{named_len-fits}
use Rattle.take_journal.proofs.Reading.{recovered-none, recovered-some, shorter, split_short, split_whole}

-- ---- the first frame

abbrev text_of : Option (List ℕ × List ℕ) → List ℕ
text_of None = []
text_of (Some first) = first.0

abbrev rest_of : Option (List ℕ × List ℕ) → List ℕ
rest_of None = []
rest_of (Some first) = first.1

pub record FirstIs (file text after : List ℕ) : Type 0 where
  pub rest : List ℕ
  pub gate : file ≡ 1 ∷ rest
  pub whole : 4 + named_len rest ≤ length rest
  pub text_is : text ≡ take (named_len rest) (drop 4 rest)
  pub after_is : after ≡ drop (4 + named_len rest) rest

pub shut_first : (gate : ℕ) (rest : List ℕ) → gate ≢ 1 → first_frame (gate ∷ rest) ≡ None
shut_first gate rest shut = ap (λ (b : Bool). cond b (split_at (named_len rest) rest) None) (ne_eqb gate 1 shut)

pub first_is : (file text after : List ℕ) → first_frame file ≡ Some (text, after) → FirstIs file text after
first_is [] text after e = absurd (none-some (text, after) e)
first_is (gate ∷ rest) text after e = elim (cases_eq gate 1) [
  | inr shut ↦ absurd (none-some (text, after) (sym (shut_first gate rest shut) ∙ e))
  | inl is ↦
      let opened : split_at (named_len rest) rest ≡ Some (text, after) =
      subst (λ g. first_frame (g ∷ rest) ≡ Some (text, after)) is e in
      elim (cases_lt (length rest) (4 + named_len rest)) [
        | inl short ↦ absurd (none-some (text, after) (sym (split_short (named_len rest) rest short) ∙ opened))
        | inr whole ↦
            let both = sym (split_whole (named_len rest) rest whole) ∙ opened in
            record {
              rest = rest;
              gate = ap (λ g. g ∷ rest) is;
              whole = whole;
              text_is = sym (ap text_of both);
              after_is = sym (ap rest_of both);
            }
      ]
]

-- ---- the end

length-text : (file text after : List ℕ) → (f : FirstIs file text after) → length text ≡ named_len f.rest
length-text file text after f =
    ap length f.text_is
    ∙ length-take-le (named_len f.rest) (drop 4 f.rest) (omega (arith, f.whole, length-drop 4 f.rest))

pub end_of-some : (file text after : List ℕ) → first_frame file ≡ Some (text, after) → end_of file ≡ end_of after
unfolding end_of
end_of-some file text after e =
    let f = first_is file text after e in
    let n = length (frames (recovered after)) in
    let size : length (frames (recovered file)) ≡ suc ((4 + named_len f.rest) + n) = omega (
      arith,
      ap (λ (ts : List (List ℕ)). length (frames ts)) (recovered-some file text after e),
      length-frame text (frames (recovered after)),
      length-text file text after f,
    ) in
    ap (λ k. drop k file) size ∙ ap (λ (l : List ℕ). drop (suc ((4 + named_len f.rest) + n)) l) f.gate
    ∙ sym (drop-drop n (4 + named_len f.rest) f.rest) ∙ ap (λ (l : List ℕ). drop n l) (sym f.after_is)
  where
    length-frame : (text tail : List ℕ) → length (frame text ++ tail) ≡ suc ((4 + length text) + length tail)
    length-frame text tail =
        omega (
          arith,
          length-append (len_bytes (length text) ++ text) tail,
          length-append (len_bytes (length text))
              text,
          length-len_bytes (length text),
        )

pub end_of-none : (file : List ℕ) → first_frame file ≡ None → end_of file ≡ file
unfolding end_of
end_of-none file none = ap (λ (ts : List (List ℕ)). drop (length (frames ts)) file) (recovered-none file none)

-- ---- the whole

-- a file begins with its first frame
pub begins : (file text after : List ℕ) → AreBytes file → first_frame file ≡ Some (text, after)
    → IsShort text × (file ≡ frame text ++ after)
begins file text after each e =
    let f = first_is file text after e in
    let rest = f.rest in
    let n = named_len rest in
    let fits : AreBytes rest = AreBytes-rest 1 rest (subst AreBytes f.gate each) in
    let size = length-text file text after f in
    let front : len_bytes (length text) ≡ take 4 rest =
    ap len_bytes size ∙ len_bytes-back rest (omega (arith, f.whole)) fits in
    let back : text ++ after ≡ drop 4 rest =
    (λ i. f.text_is i ++ f.after_is i) ∙ ap (λ (l : List ℕ). take n (drop 4 rest) ++ l) (sym (drop-drop n 4 rest))
    ∙ take-append-drop n (drop 4 rest) in
    let both : rest ≡ (len_bytes (length text) ++ text) ++ after =
    sym (take-append-drop 4 rest) ∙ (λ i. sym front i ++ sym back i)
    ∙ sym (append_assoc (len_bytes (length text)) text after) in
    (omega (arith, size, named_len-fits rest fits), f.gate ∙ ap (λ (l : List ℕ). 1 ∷ l) both)

pub record Whole (file : List ℕ) : Type 0 where
  pub split : file ≡ frames (recovered file) ++ end_of file
  pub short : AreShort (recovered file)
  pub last : first_frame (end_of file) ≡ None
  pub bytes : AreBytes (end_of file)

none_left : (file : List ℕ) → AreBytes file → first_frame file ≡ None → Whole file
none_left file each none =
    let no_texts = recovered-none file none in
    let all = end_of-none file none in
    record {
      split = sym all ∙ ap (λ (ts : List (List ℕ)). frames ts ++ end_of file) (sym no_texts);
      short = subst AreShort (sym no_texts) tt;
      last = ap first_frame all ∙ none;
      bytes = subst AreBytes (sym all) each;
    }

one_more : (file text after : List ℕ) → AreBytes file → first_frame file ≡ Some (text, after) → Whole after
    → Whole file
one_more file text after each e w =
    let here = begins file text after each e in
    let texts = recovered-some file text after e in
    let end = end_of-some file text after e in
    record {
      split = here.1 ∙ ap (λ (l : List ℕ). frame text ++ l) w.split
          ∙ sym (append_assoc (frame text) (frames (recovered after)) (end_of after))
          ∙ (λ i. frames (sym texts i) ++ sym end i);
      short = subst AreShort (sym texts) (here.0, w.short);
      last = ap first_frame end ∙ w.last;
      bytes = subst AreBytes (sym end) w.bytes;
    }

after_bytes : (file text after : List ℕ) → AreBytes file → first_frame file ≡ Some (text, after) → AreBytes after
after_bytes file text after each e =
    let f = first_is file text after e in
    subst AreBytes (sym f.after_is) (AreBytes-drop (4 + named_len f.rest) f.rest
    (AreBytes-rest 1 f.rest (subst AreBytes f.gate each)))

by_first : (n : ℕ) (file : List ℕ) → length file ≤ n → AreBytes file
    → ((after : List ℕ) → length after < length file → AreBytes after → Whole after)
    → (first : Option (List ℕ × List ℕ)) → first_frame file ≡ first → Whole file
by_first n file le each again None e = none_left file each e
by_first n file le each again (Some first) e =
    one_more file first.0 first.1 each e (again first.1 (shorter file first.0 first.1 e)
    (after_bytes file first.0 first.1 each e))

within : (n : ℕ) (file : List ℕ) → length file ≤ n → AreBytes file → Whole file
within zero file le each =
    by_first zero file le each (λ after lt fits. absurd (omega (arith, le, lt))) (first_frame file) refl
within (suc n) file le each =
    by_first (suc n) file le each (λ after lt fits. within n after (omega (arith, le, lt)) fits) (first_frame file) refl

pub whole : (file : List ℕ) → AreBytes file → Whole file
whole file each = within (length file) file (omega arith) each
