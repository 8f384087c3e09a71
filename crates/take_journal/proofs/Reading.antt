-- What files of frames stand for.
use Rattle.std.proofs.Common.{◌≡◌, ◌≢◌, inl, inr, ℕ, zero, suc, ◌+◌, ◌≤◌, ◌<◌, Bool, true, false, cond, eqb, leb}
use Rattle.std.proofs.Common.{List, [], ◌∷◌, ◌++◌}
use Rattle.std.proofs.Common.{length, take, drop, Option, Some, None, refl, sym, ◌∙◌, ap, arith, append_assoc}
use Rattle.std.proofs.Common.{length-append, length-drop}
use Rattle.std.proofs.lemmas.List.{append-nil, take_at, drop_at}
use Rattle.std.specs.Option.{is_some}
use Rattle.std.proofs.lemmas.Bool.{false≢true, cases_eq, le-leb, lt-leb, ne_eqb}
use Rattle.take_journal.specs.Frames.{IsShort, AreShort, and_then, at_rest, frame, frames, first_frame, frames_in}
use Rattle.take_journal.specs.Frames.{len_bytes, named_len, recovered, split_at}
use Rattle.take_journal.proofs.Numbers.{named_len-reads, length-len_bytes}

-- ---- one frame

pub split_whole : (n : ℕ) (bytes : List ℕ) → 4 + n ≤ length bytes
    → split_at n bytes ≡ Some (take n (drop 4 bytes), drop (4 + n) bytes)
split_whole n bytes whole =
    ap (λ (b : Bool). cond b (Some (take n (drop 4 bytes), drop (4 + n) bytes)) None)
    (le-leb (4 + n) (length bytes) whole)

pub split_short : (n : ℕ) (bytes : List ℕ) → length bytes < 4 + n → split_at n bytes ≡ None
split_short n bytes short =
    ap (λ (b : Bool). cond b (Some (take n (drop 4 bytes), drop (4 + n) bytes)) None)
    (lt-leb (4 + n) (length bytes) short)

-- a frame with its gate open, and what stands behind it
pub behind_gate : (text tail : List ℕ) → IsShort text
    → split_at (named_len ((len_bytes (length text) ++ text) ++ tail))
    ((len_bytes (length text) ++ text) ++ tail) ≡ Some (text, tail)
behind_gate text tail short =
    let front = len_bytes (length text) in
    let bytes = (front ++ text) ++ tail in
    let four : length front ≡ 4 = length-len_bytes (length text) in
    let split : bytes ≡ front ++ (text ++ tail) = append_assoc front text tail in
    let len : named_len bytes ≡ length text =
    ap named_len split ∙ named_len-reads (length text) (text ++ tail) short in
    let size : length bytes ≡ 4 + (length text + length tail) =
    omega (arith, ap length split, length-append front (text ++ tail), length-append text tail, four) in
    let text_is : take (length text) (drop 4 bytes) ≡ text =
    ap (λ (l : List ℕ). take (length text) (drop 4 l)) split
    ∙ ap (λ (l : List ℕ). take (length text) l) (drop_at front (text ++ tail) 4 four)
    ∙ take_at text tail (length text) refl in
    let rest_is : drop (4 + length text) bytes ≡ tail =
    drop_at (front ++ text) tail (4 + length text) (omega (arith, length-append front text, four)) in
    ap (λ (n : ℕ). split_at n bytes) len
    ∙ split_whole (length text) bytes (omega (arith, size))
    ∙ (λ i. Some (text_is i, rest_is i))

-- ---- how many frames are asked for

abbrev rest_of : Option (List ℕ × List ℕ) → List ℕ
rest_of None = []
rest_of (Some front) = front.1

split_rest : (b : Bool) (text : List ℕ) (k : ℕ) (bytes : List ℕ)
    → length (rest_of (cond b (Some (text, drop k bytes)) None)) ≤ length bytes
split_rest true text k bytes = omega (arith, length-drop k bytes)
split_rest false text k bytes = omega arith

gate_rest : (b : Bool) (bytes : List ℕ)
    → length (rest_of (cond b (split_at (named_len bytes) bytes) None)) ≤ length bytes
gate_rest true bytes =
    split_rest (leb (4 + named_len bytes) (length bytes)) (take (named_len bytes) (drop 4 bytes))
    (4 + named_len bytes) bytes
gate_rest false bytes = omega arith

rest_short : (bytes : List ℕ) (n : ℕ) → length bytes ≤ suc n → length (rest_of (first_frame bytes)) ≤ n
rest_short [] n le = omega arith
rest_short (gate ∷ rest) n le = omega (arith, le, gate_rest (eqb gate 1) rest)

next_same : (n m : ℕ) → ((rest : List ℕ) → length rest ≤ n → length rest ≤ m → frames_in n rest ≡ frames_in m rest)
    → (front : Option (List ℕ × List ℕ)) → length (rest_of front) ≤ n → length (rest_of front) ≤ m
    → and_then (frames_in n) front ≡ and_then (frames_in m) front
next_same n m again None a b = refl
next_same n m again (Some front) a b = ap (λ (l : List (List ℕ)). front.0 ∷ l) (again front.1 a b)

-- to ask for more than there are finds no more
frames_same : (n m : ℕ) (bytes : List ℕ) → length bytes ≤ n → length bytes ≤ m → frames_in n bytes ≡ frames_in m bytes
frames_same zero zero bytes a b = refl
frames_same zero (suc m) [] a b = refl
frames_same zero (suc m) (x ∷ xs) a b = absurd (omega (arith, a))
frames_same (suc n) zero [] a b = refl
frames_same (suc n) zero (x ∷ xs) a b = absurd (omega (arith, b))
frames_same (suc n) (suc m) bytes a b =
    next_same n m (λ rest. frames_same n m rest) (first_frame bytes) (rest_short bytes n a) (rest_short bytes m b)

-- ---- files

-- an open frame, and then whatever the rest stands for
pub recovered-frame : (text tail : List ℕ) → IsShort text → recovered (frame text ++ tail) ≡ text ∷ recovered tail
unfolding recovered
recovered-frame text tail short =
    let bytes = (len_bytes (length text) ++ text) ++ tail in
    let long : length tail ≤ length bytes = omega (arith, length-append (len_bytes (length text) ++ text) tail) in
    ap (λ (front : Option (List ℕ × List ℕ)). and_then (frames_in (length bytes)) front) (behind_gate text tail short)
    ∙ ap (λ (l : List (List ℕ)). text ∷ l) (frames_same (length bytes) (length tail) tail long (omega arith))

pub recovered-frames : (texts : List (List ℕ)) (rest : List ℕ) → AreShort texts
    → recovered (frames texts ++ rest) ≡ texts ++ recovered rest
recovered-frames [] rest short = refl
recovered-frames (text ∷ texts) rest short =
    ap recovered (append_assoc (frame text) (frames texts) rest)
    ∙ recovered-frame text (frames texts ++ rest) short.0
    ∙ ap (λ (l : List (List ℕ)). text ∷ l) (recovered-frames texts rest short.1)

pub closed : (gate : ℕ) (rest : List ℕ) → gate ≢ 1 → recovered (gate ∷ rest) ≡ []
unfolding recovered
closed gate rest shut =
    ap (λ (b : Bool). and_then (frames_in (length rest)) (cond b (split_at (named_len rest) rest) None))
    (ne_eqb gate 1 shut)

-- too short for a frame
pub too_short : (bytes : List ℕ) → length bytes ≤ 4 → recovered bytes ≡ []
unfolding recovered
too_short [] short = refl
too_short (gate ∷ rest) short = elim (cases_eq gate 1) [
  | inl is ↦
      let none : split_at (named_len rest) rest ≡ None = split_short (named_len rest) rest (omega (arith, short)) in
      gate_none (eqb gate 1) rest none
  | inr shut ↦ gate_none_shut gate rest shut
]
  where
    gate_none : (b : Bool) (rest : List ℕ) → split_at (named_len rest) rest ≡ None
        → and_then (frames_in (length rest)) (cond b (split_at (named_len rest) rest) None) ≡ []
    gate_none true rest none =
        ap (λ (front : Option (List ℕ × List ℕ)). and_then (frames_in (length rest)) front) none
    gate_none false rest none = refl

    gate_none_shut : (gate : ℕ) (rest : List ℕ) → gate ≢ 1
        → and_then (frames_in (length rest)) (cond (eqb gate 1) (split_at (named_len rest) rest) None) ≡ []
    gate_none_shut gate rest shut =
        ap (λ (b : Bool). and_then (frames_in (length rest)) (cond b (split_at (named_len rest) rest) None))
        (ne_eqb gate 1 shut)

-- a closed gate ends them, whatever stands behind it
pub recovered-closed : (texts : List (List ℕ)) (gate : ℕ) (rest : List ℕ) → AreShort texts → gate ≢ 1
    → recovered (frames texts ++ gate ∷ rest) ≡ texts
recovered-closed texts gate rest short shut =
    recovered-frames texts (gate ∷ rest) short ∙ ap (λ (l : List (List ℕ)). texts ++ l) (closed gate rest shut)
    ∙ append-nil texts

pub recovered-at_rest : (texts : List (List ℕ)) → AreShort texts → recovered (at_rest texts) ≡ texts
recovered-at_rest texts short = recovered-closed texts 0 [] short (λ e. absurd (omega (arith, e)))

pub frames-append : (texts more : List (List ℕ)) → frames (texts ++ more) ≡ frames texts ++ frames more
frames-append [] more = refl
frames-append (text ∷ texts) more =
    ap (λ (l : List ℕ). frame text ++ l) (frames-append texts more)
    ∙ sym (append_assoc (frame text) (frames texts) (frames more))

pub short-append : (texts more : List (List ℕ)) → AreShort texts → AreShort more → AreShort (texts ++ more)
short-append [] more short also = also
short-append (text ∷ texts) more short also = (short.0, short-append texts more short.1 also)

-- ---- reading on

pub recovered-none : (bytes : List ℕ) → first_frame bytes ≡ None → recovered bytes ≡ []
unfolding recovered
recovered-none [] none = refl
recovered-none (x ∷ xs) none = ap (λ (front : Option (List ℕ × List ℕ)). and_then (frames_in (length xs)) front) none

pub shorter : (bytes text rest : List ℕ) → first_frame bytes ≡ Some (text, rest) → length rest < length bytes
shorter [] text rest e = absurd (false≢true (ap is_some e))
shorter (x ∷ xs) text rest e =
    omega (
      arith,
      rest_short (x ∷ xs) (length xs) (omega arith),
      ap
          (λ (front : Option (List ℕ × List ℕ)). length (rest_of front)) e,
    )

pub recovered-some : (bytes text rest : List ℕ) → first_frame bytes ≡ Some (text, rest)
    → recovered bytes ≡ text ∷ recovered rest
unfolding recovered
recovered-some [] text rest e = absurd (false≢true (ap is_some e))
recovered-some (x ∷ xs) text rest e =
    ap (λ (front : Option (List ℕ × List ℕ)). and_then (frames_in (length xs)) front) e
    ∙ ap (λ (l : List (List ℕ)). text ∷ l) (frames_same (length xs) (length rest) rest
    (omega (arith, shorter (x ∷ xs) text rest e)) (omega arith))
