-- An op is read back from its text.
use Rattle.std.proofs.Common.{◌≡◌, ℕ, ◌+◌, ◌≤◌, ◌<◌, ◌^◌, Bool, cond, List, ◌++◌, length, drop}
use Rattle.std.proofs.Common.{Option, Some, None, refl, sym, ◌∙◌, ap, arith, append_assoc, length-append}
use Rattle.std.proofs.lemmas.List.{drop_at}
use Rattle.std.proofs.lemmas.Bool.{le-leb}
use Rattle.std.specs.Option.{option_map}
use Rattle.entry.specs.Format.{number_at, number_bytes}
use Rattle.entry.proofs.Numbers.{length-number_bytes, number_at-front, number_at-past}
use Rattle.replica.specs.Op.{ActValue, Open, Extend, Close, Seal, Free, OpValue}
use Rattle.op_text.specs.OpText.{ReadsBack, act_in, fits_act, kind_of, op_behind, op_with, rest_of}

-- the second of two numbers
number_at-second : (m n : ℕ) (rest : List ℕ) → n < 2 ^ 64
    → number_at 8 8 (number_bytes 8 m ++ (number_bytes 8 n ++ rest)) ≡ n
number_at-second m n rest fits =
    let front = number_bytes 8 m in
    let past = number_at-past 8 0 front (number_bytes 8 n ++ rest) in
    let eight : length front + 0 ≡ 8 = omega (arith, length-number_bytes 8 m) in
    ap (λ (at : ℕ). number_at 8 at (front ++ (number_bytes 8 n ++ rest))) (sym eight)
    ∙ past
    ∙ number_at-front 8 n rest fits

act-reads : (act : ActValue) → fits_act act → act_in (kind_of act) (rest_of act) ≡ Some act
act-reads (Open bytes) fits = refl
act-reads (Extend at bytes) fits =
    let front = number_bytes 8 at in
    let eight = length-number_bytes 8 at in
    let size : 8 ≤ length (front ++ bytes) = omega (arith, length-append front bytes, eight) in
    ap (λ (b : Bool). cond b (Some (Extend (number_at 8 0 (front ++ bytes)) (drop 8 (front ++ bytes)))) None)
    (le-leb 8 (length (front ++ bytes)) size)
    ∙ (λ i. Some (Extend (number_at-front 8 at bytes fits i) (drop_at front bytes 8 eight i)))
act-reads Close fits = refl
act-reads (Seal bytes) fits = refl
act-reads Free fits = refl

op_behind-is : (kind : ℕ) (rest : List ℕ) (m s : ℕ) (act : ActValue) → 16 ≤ length rest → number_at 8 0 rest ≡ m
    → number_at 8 8 rest ≡ s → act_in kind (drop 16 rest) ≡ Some act
    → op_behind kind rest ≡ Some (record { master = m; segment = s; act = act })
op_behind-is kind rest m s act size is_m is_s is =
    ap (λ (b : Bool). cond b (option_map (op_with rest) (act_in kind (drop 16 rest))) None)
    (le-leb 16 (length rest) size)
    ∙ ap (λ (o : Option ActValue). option_map (op_with rest) o) is
    ∙ (λ i. Some (let o : OpValue = record { master = is_m i; segment = is_s i; act = act } in o))

pub reads_back : ReadsBack
reads_back op fits =
    let m = number_bytes 8 op.master in
    let s = number_bytes 8 op.segment in
    let rest = m ++ (s ++ rest_of op.act) in
    let split : (m ++ s) ++ rest_of op.act ≡ rest = append_assoc m s (rest_of op.act) in
    let m_len = length-number_bytes 8 op.master in
    let s_len = length-number_bytes 8 op.segment in
    let size : 16 ≤ length rest =
    omega (arith, length-append m (s ++ rest_of op.act), length-append s (rest_of op.act), m_len, s_len) in
    let behind : drop 16 rest ≡ rest_of op.act =
    ap (λ (l : List ℕ). drop 16 l) (sym split)
    ∙ drop_at (m ++ s) (rest_of op.act) 16 (omega (arith, length-append m s, m_len, s_len)) in
    let act : act_in (kind_of op.act) (drop 16 rest) ≡ Some op.act =
    ap (λ (l : List ℕ). act_in (kind_of op.act) l) behind ∙ act-reads op.act fits.act in
    ap (λ (l : List ℕ). op_behind (kind_of op.act) l) split
    ∙ op_behind-is (kind_of op.act) rest op.master op.segment op.act size
    (number_at-front 8 op.master (s ++ rest_of op.act) fits.master)
    (number_at-second op.master op.segment (rest_of op.act) fits.segment) act
