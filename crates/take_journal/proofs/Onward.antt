-- One text of a file more: read, or written.
use Rattle.std.proofs.Common.{◌≡◌, ℕ, ◌+◌, ◌<◌, ◌≤◌, List, [], ◌∷◌, ◌++◌, length, get_or, drop, Some, None, Vec}
use Rattle.std.proofs.Common.{Global, zero, suc}
use Rattle.std.proofs.Common.{sym, ◌∙◌, ap, subst, arith, append_assoc}
use Rattle.std.proofs.lemmas.List.{append-nil, drop_more, drop_all, map_push}
use Rattle.take_journal.specs.Frames.{AreShort, IsShort, first_frame, frame, frames, recovered, texts_of}
use Rattle.take_journal.proofs.Reading.{recovered-none, recovered-some}

abbrev Texts : Type 0
Texts = List (Vec ℕ Global)

pub reads_more : (texts more : Texts) (v : Vec ℕ Global) (rest text after : List ℕ) (all : List (List ℕ))
    → more ≡ texts ++ v ∷ [] → v.items ≡ text → first_frame rest ≡ Some (text, after)
    → texts_of texts ++ recovered rest ≡ all → texts_of more ++ recovered after ≡ all
reads_more texts more v rest text after all pushed is front read =
    let one_more : texts_of more ≡ texts_of texts ++ text ∷ [] =
    ap texts_of pushed ∙ map_push (λ (t : Vec ℕ Global). t.items) texts v
    ∙ ap (λ (t : List ℕ). texts_of texts ++ t ∷ []) is in
    ap (λ (l : List (List ℕ)). l ++ recovered after) one_more
    ∙ append_assoc (texts_of texts) (text ∷ []) (recovered after)
    ∙ ap (λ (l : List (List ℕ)). texts_of texts ++ l) (sym (recovered-some rest text after front))
    ∙ read

pub reads_all : (texts : Texts) (rest : List ℕ) (all : List (List ℕ)) → first_frame rest ≡ None
    → texts_of texts ++ recovered rest ≡ all → texts_of texts ≡ all
reads_all texts rest all none read =
    sym (append-nil (texts_of texts))
    ∙ ap (λ (l : List (List ℕ)). texts_of texts ++ l) (sym (recovered-none rest none)) ∙ read

pub adds_one : (xs : Texts) (i : ℕ) (v : Vec ℕ Global) (so_far next all : List ℕ) → i < length xs → v ≡ get_or xs i v
    → next ≡ so_far ++ frame v.items → so_far ++ frames (texts_of (drop i xs)) ≡ all
    → next ++ frames (texts_of (drop (i + 1) xs)) ≡ all
adds_one xs i v so_far next all within is added so =
    let rest = frames (texts_of (drop (i + 1) xs)) in
    let here : drop i xs ≡ v ∷ drop (i + 1) xs =
    drop_more xs i v within ∙ ap (λ (u : Vec ℕ Global). u ∷ drop (i + 1) xs) (sym is) in
    ap (λ (l : List ℕ). l ++ rest) added
    ∙ append_assoc so_far (frame v.items) rest
    ∙ ap (λ (l : Texts). so_far ++ frames (texts_of l)) (sym here)
    ∙ so

pub adds_all : (xs : Texts) (i : ℕ) (so_far all : List ℕ) → length xs ≤ i
    → so_far ++ frames (texts_of (drop i xs)) ≡ all → so_far ≡ all
adds_all xs i so_far all past so =
    sym (append-nil so_far) ∙ ap (λ (l : Texts). so_far ++ frames (texts_of l)) (sym (drop_all i xs past)) ∙ so

pub short_at : (xs : Texts) (i : ℕ) (v : Vec ℕ Global) → i < length xs → v ≡ get_or xs i v → AreShort (texts_of xs)
    → IsShort v.items
short_at [] i v within is short = absurd (omega (arith, within))
short_at (x ∷ xs) zero v within is short = subst (λ (u : Vec ℕ Global). IsShort u.items) (sym is) short.0
short_at (x ∷ xs) (suc i) v within is short = short_at xs i v (omega (arith, within)) is short.1
