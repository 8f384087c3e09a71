-- Bytes that are read as an op are the op's text.
use Rattle.std.proofs.Common.{◌≡◌, inl, inr, ℕ, suc, ◌≤◌, Bool, true, false, cond, eqb, leb, List, [], ◌∷◌, ◌++◌}
use Rattle.std.proofs.Common.{length, drop, Option, Some, None, refl, sym, ◌∙◌, ap, subst, arith, append_assoc}
use Rattle.std.proofs.Common.{take-append-drop}
use Rattle.std.proofs.lemmas.Bool.{cases_Bool, eqb-true, leb-true}
use Rattle.std.proofs.lemmas.List.{drop-drop, nil_from_length}
use Rattle.std.proofs.lemmas.Option.{cond_some, none-some, same_Some}
use Rattle.std.specs.Option.{option_map}
use Rattle.entry.specs.Format.{number_at, number_bytes}
use Rattle.entry.specs.Key.{IsBytes}
use Rattle.entry.proofs.Numbers.{IsBytes-drop, bytes-there, number_at-lt, width-8}
use Rattle.replica.specs.Op.{ActValue, Open, Extend, Close, Seal, Free, OpValue}
use Rattle.op_text.specs.OpText.{FitsText, HasOneText, act_in, fits_act, kind_of, op_text, op_with, rest_of}

-- the kind and the bytes behind the numbers are the act's
record IsActs (kind : ℕ) (rest : List ℕ) (act : ActValue) : Type 0 where
  of_kind : kind ≡ kind_of act
  has_rest : rest ≡ rest_of act
  fits : fits_act act

-- the act is that of the kind k, or one of the others
pick : {P : Type 0} (kind k : ℕ) (a b : Option ActValue) (act : ActValue) → cond (eqb kind k) a b ≡ Some act
    → (kind ≡ k → a ≡ Some act → P) → (b ≡ Some act → P) → P
pick {P = P} kind k a b act is here other = elim (cases_Bool (eqb kind k)) [
  | inl same ↦ here (eqb-true kind k same) (ap (λ (t : Bool). cond t a b) (sym same) ∙ is)
  | inr not ↦ other (ap (λ (t : Bool). cond t a b) (sym not) ∙ is)
]

-- a number, and the bytes behind it
front_back : (rest : List ℕ) → IsBytes rest → 8 ≤ length rest → rest ≡ number_bytes 8
    (number_at 8 0 rest) ++ drop 8 rest
front_back rest bytes le =
    sym (take-append-drop 8 rest) ∙ ap (λ (l : List ℕ). l ++ drop 8 rest) (bytes-there 8 0 rest width-8 bytes le)

extend_is : (kind : ℕ) (rest : List ℕ) (act : ActValue) → IsBytes rest → kind ≡ 2
    → cond (leb 8 (length rest)) (Some (Extend (number_at 8 0 rest) (drop 8 rest))) None ≡ Some act
    → IsActs kind rest act
extend_is kind rest act bytes two is =
    let parts = cond_some (leb 8 (length rest)) (Extend (number_at 8 0 rest) (drop 8 rest)) act is in
    let le = leb-true 8 (length rest) parts.0 in
    subst (λ (a : ActValue). IsActs kind rest a) parts.1
    (record { of_kind = two; has_rest = front_back rest bytes le; fits = number_at-lt 8 0 rest bytes })

-- an act that has no bytes
bare_is : (kind : ℕ) (rest : List ℕ) (bare act : ActValue) → kind ≡ kind_of bare → rest_of bare ≡ [] → fits_act bare
    → cond (eqb (length rest) 0) (Some bare) None ≡ Some act → IsActs kind rest act
bare_is kind rest bare act of_kind none fits is =
    let parts = cond_some (eqb (length rest) 0) bare act is in
    let empty = nil_from_length rest (eqb-true (length rest) 0 parts.0) in
    subst (λ (a : ActValue). IsActs kind rest a) parts.1
    (record { of_kind = of_kind; has_rest = empty ∙ sym none; fits = fits })

-- an act that has all the bytes
full_is : (kind : ℕ) (rest : List ℕ) (full act : ActValue) → kind ≡ kind_of full → rest_of full ≡ rest → fits_act full
    → Some full ≡ Some act → IsActs kind rest act
full_is kind rest full act of_kind all fits is =
    subst (λ (a : ActValue). IsActs kind rest a) (same_Some full act is)
    (record { of_kind = of_kind; has_rest = sym all; fits = fits })

act_back : (kind : ℕ) (rest : List ℕ) (act : ActValue) → IsBytes rest → act_in kind rest ≡ Some act
    → IsActs kind rest act
act_back kind rest act bytes is =
    pick kind 1 _ _ act is (λ one. full_is kind rest (Open rest) act one refl tt)
    (λ is2. pick kind 2 _ _ act is2 (extend_is kind rest act bytes)
    (λ is3. pick kind 3 _ _ act is3 (λ three. bare_is kind rest Close act three refl tt)
    (λ is4. pick kind 4 _ _ act is4 (λ four. full_is kind rest (Seal rest) act four refl tt)
    (λ is5. pick kind 5 _ _ act is5 (λ five. bare_is kind rest Free act five refl tt)
    (λ none. absurd (none-some act none))))))

-- the numbers that the bytes begin with, and the bytes behind them
numbers_back : (rest : List ℕ) → IsBytes rest → 16 ≤ length rest
    → rest ≡ (number_bytes 8 (number_at 8 0 rest) ++ number_bytes 8 (number_at 8 8 rest)) ++ drop 16 rest
numbers_back rest bytes le =
    let first = number_bytes 8 (number_at 8 0 rest) in
    let second = number_bytes 8 (number_at 8 8 rest) in
    let next : drop 8 rest ≡ second ++ drop 16 rest =
    sym (take-append-drop 8 (drop 8 rest))
    ∙ (λ i. bytes-there 8 8 rest width-8 bytes le i ++ drop-drop 8 8 rest i) in
    front_back rest bytes (omega arith)
    ∙ ap (λ (l : List ℕ). first ++ l) next
    ∙ sym (append_assoc first second (drop 16 rest))

-- with the act that was read
op_back : (kind : ℕ) (rest : List ℕ) (o : Option ActValue) (op : OpValue) → IsBytes rest → 16 ≤ length rest
    → act_in kind (drop 16 rest) ≡ o → option_map (op_with rest) o ≡ Some op → (kind ∷ rest ≡ op_text op) × FitsText op
op_back kind rest None op bytes le acts is = absurd (none-some op is)
op_back kind rest (Some act) op bytes le acts is =
    let back = act_back kind (drop 16 rest) act (IsBytes-drop 16 rest bytes) acts in
    let front = number_bytes 8 (number_at 8 0 rest) ++ number_bytes 8 (number_at 8 8 rest) in
    let whole : kind ∷ rest ≡ op_text (op_with rest act) =
    (λ i. back.of_kind i ∷ (numbers_back rest bytes le ∙ ap (λ (l : List ℕ). front ++ l) back.has_rest) i) in
    subst (λ (x : OpValue). (kind ∷ rest ≡ op_text x) × FitsText x) (same_Some (op_with rest act) op is)
    (whole, record { master = number_at-lt 8 0 rest bytes; segment = number_at-lt 8 8 rest bytes; act = back.fits })

read_back : (kind : ℕ) (rest : List ℕ) (op : OpValue) (b : Bool) → IsBytes rest → leb 16 (length rest) ≡ b
    → cond b (option_map (op_with rest) (act_in kind (drop 16 rest))) None ≡ Some op →
    (kind ∷ rest ≡ op_text op) × FitsText op
read_back kind rest op true bytes size is =
    op_back kind rest (act_in kind (drop 16 rest)) op bytes (leb-true 16 (length rest) size) refl is
read_back kind rest op false bytes size is = absurd (none-some op is)

pub has_one_text : HasOneText
has_one_text [] op bytes is = absurd (none-some op is)
has_one_text (kind ∷ rest) op bytes is = read_back kind rest op (leb 16 (length rest)) (λ i. bytes (suc i)) refl is
