-- Which bytes are a front of what stands behind an opened gate.
use Rattle.std.proofs.Common.{◌≡◌, ◌↔◌, inl, inr, ℕ, zero, suc, ◌+◌, ◌-◌, ◌≤◌, ◌<◌, List, [], ◌∷◌, ◌++◌, length, take}
use Rattle.std.proofs.Common.{drop, replicate}
use Rattle.std.proofs.Common.{Some, None, refl, sym, ◌∙◌, ap, subst, arith, append_assoc, length-append}
use Rattle.std.proofs.Math.Seq.{take-add, take-append-add}
use Rattle.std.proofs.lemmas.Bool.{cases_lt}
use Rattle.std.proofs.lemmas.List.{append-nil, drop-take, length-drop, length-replicate, length-take, length-take-le}
use Rattle.std.proofs.lemmas.List.{take-append-le, take-take, take_all, take_at}
use Rattle.std.proofs.lemmas.Option.{none-some}
use Rattle.take_journal.specs.Crash.{IsFront, IsTail}
use Rattle.take_journal.specs.Frames.{AreShort, IsShort, at_rest, end_of, first_frame, frame, frames, len_bytes}
use Rattle.take_journal.specs.Frames.{named_len, recovered, split_at}
use Rattle.take_journal.proofs.Numbers.{AreBytes, AreBytes-more, AreBytes-rest, len_bytes-back, length-len_bytes}
use Rattle.take_journal.proofs.Numbers.{named_len-fits, named_len-reads, named_len-take, padded}
use Rattle.take_journal.proofs.Reading.{behind_gate, frames-append, short-append, split_short, split_whole}
use Rattle.take_journal.proofs.Splitting.{end_of-none, end_of-some, whole}

-- ---- each front ends in a tail

split_cut : (text : List ℕ) (n : ℕ) → n < 4 + length text → IsShort text
    → split_at (named_len (take n (len_bytes (length text) ++ text))) (take n (len_bytes (length text) ++ text)) ≡ None
split_cut text n lt short =
    let front = len_bytes (length text) in
    let bytes = take n (front ++ text) in
    let size : length bytes ≤ n = omega (arith, length-take n (front ++ text)) in
    elim (cases_lt n 4) [
      | inl few ↦ split_short (named_len bytes) bytes (omega (arith, size, few))
      | inr four ↦
          let e : length front + (n - 4) ≡ n = omega (arith, length-len_bytes (length text), four) in
          let is : bytes ≡ front ++ take (n - 4) text =
          ap (λ k. take k (front ++ text)) (sym e) ∙ take-append-add front text (n - 4) in
          let len : named_len bytes ≡ length text =
          ap named_len is ∙ named_len-reads (length text) (take (n - 4) text) short in
          split_short (named_len bytes) bytes (omega (arith, size, lt, len))
    ]

cut_frame : (text : List ℕ) (n : ℕ) → n < length (frame text) → IsShort text → IsTail (end_of (take n (frame text)))
cut_frame text zero lt short = inl (end_of-none [] refl)
cut_frame text (suc n) lt short =
    let bytes = take n (len_bytes (length text) ++ text) in
    let less : n < 4 + length text =
    omega (arith, lt, length-append (len_bytes (length text)) text, length-len_bytes (length text)) in
    inr (inr (bytes, end_of-none (1 ∷ bytes) (split_cut text n less short)))

first_of : (text tail : List ℕ) → IsShort text → first_frame (frame text ++ tail) ≡ Some (text, tail)
first_of text tail short = behind_gate text tail short

front_tail : (texts : List (List ℕ)) (n : ℕ) → AreShort texts → IsTail (end_of (take n (at_rest texts)))
front_tail [] zero short = inl (end_of-none [] refl)
front_tail [] (suc n) short =
    inr (inl (ap end_of (take_all (suc n) (0 ∷ []) (omega arith)) ∙ end_of-none (0 ∷ []) refl))
front_tail (text ∷ texts) n short =
    let split : at_rest (text ∷ texts) ≡ frame text ++ at_rest texts =
    append_assoc (frame text) (frames texts) (0 ∷ []) in
    let front = ap (λ (l : List ℕ). take n l) split in
    elim (cases_lt n (length (frame text))) [
      | inl lt ↦
          let is = front ∙ take-append-le n (frame text) (at_rest texts) (omega (arith, lt)) in
          subst (λ (l : List ℕ). IsTail (end_of l)) (sym is) (cut_frame text n lt short.0)
      | inr le ↦
          let k = n - length (frame text) in
          let e : length (frame text) + k ≡ n = omega (arith, le) in
          let is =
          front ∙ ap (λ m. take m (frame text ++ at_rest texts)) (sym e)
          ∙ take-append-add (frame text) (at_rest texts) k in
          let end =
          ap end_of is
          ∙ end_of-some (frame text ++ take k (at_rest texts)) text (take k (at_rest texts))
          (first_of text (take k (at_rest texts)) short.0) in
          subst IsTail (sym end) (front_tail texts k short.1)
    ]

-- ---- and what ends in one is a front

record Completed (rest : List ℕ) : Type 0 where
  text : List ℕ
  n : ℕ
  short : IsShort text
  within : n ≤ length (frame text)
  is : 1 ∷ rest ≡ take n (frame text)

completed : (rest : List ℕ) → AreBytes rest → split_at (named_len rest) rest ≡ None → Completed rest
completed rest each none =
    let four = rest ++ replicate 4 0 in
    let size4 : length four ≡ length rest + 4 = length-append rest (replicate 4 0) in
    let N = named_len four in
    let all = four ++ replicate N 0 in
    let size : length all ≡ length rest + 4 + N =
    omega (arith, length-append four (replicate N 0), length-replicate {A = ℕ} N 0, size4) in
    let text = take N (drop 4 all) in
    let len : length text ≡ N = length-take-le N (drop 4 all) (omega (arith, size, length-drop 4 all)) in
    let front : len_bytes (length text) ≡ take 4 all =
    ap len_bytes len ∙ len_bytes-back four (omega (arith, size4)) (padded 4 rest each)
    ∙ sym (take-append-le 4 four (replicate N 0) (omega (arith, size4))) in
    let frame_is : frame text ≡ 1 ∷ take (4 + N) all =
    ap (λ (l : List ℕ). 1 ∷ l ++ text) front ∙ ap (λ (l : List ℕ). 1 ∷ l) (sym (take-add 4 N all)) in
    let most : length rest ≤ 4 + N = elim (cases_lt (length rest) 4) [
      | inl few ↦ omega (arith, few)
      | inr long ↦ elim (cases_lt (length rest) (4 + named_len rest)) [
        | inl short ↦
            let same : N ≡ named_len rest =
            sym (named_len-take four) ∙ ap named_len (take-append-le 4 rest (replicate 4 0) long)
            ∙ named_len-take rest in
            omega (arith, short, same)
        | inr long_enough ↦ absurd (none-some _ (sym none ∙ split_whole (named_len rest) rest long_enough))
      ]
    ] in
    let rest_is : take (length rest) all ≡ rest =
    ap (λ (l : List ℕ). take (length rest) l) (append_assoc rest (replicate 4 0) (replicate N 0))
    ∙ take_at rest (replicate 4 0 ++ replicate N 0) (length rest) refl in
    record {
      text = text;
      n = suc (length rest);
      short = omega (arith, len, named_len-fits four (padded 4 rest each));
      within = omega (arith, ap length frame_is, length-take-le (4 + N) all (omega (arith, size)), most);
      is = ap (λ (l : List ℕ). 1 ∷ l) (sym rest_is ∙ sym (take-take (length rest) (4 + N) all most))
          ∙ ap (λ (l : List ℕ). take (suc (length rest)) l) (sym frame_is);
    }

to_front : (behind : List ℕ) (texts : List (List ℕ)) (n : ℕ) → AreShort texts → 1 ∷ behind ≡ take n (at_rest texts)
    → IsFront behind
to_front behind texts zero short is = absurd (omega (arith, ap length is))
to_front behind texts (suc n) short is =
    let e : suc n ≡ 1 + n = omega arith in (
      texts,
      n,
      short,
      ap (λ (l : List ℕ). drop 1 l) is ∙ ap (λ k. drop 1 (take k (at_rest texts))) e
          ∙ drop-take 1 n (at_rest texts),
    )

tail_front : (behind : List ℕ) → AreBytes behind → IsTail (end_of (1 ∷ behind)) → IsFront behind
tail_front behind each tail =
    let file = 1 ∷ behind in
    let w = whole file (AreBytes-more 1 behind (omega arith) each) in
    let texts = recovered file in
    let with_end : (end : List ℕ) → end_of file ≡ end → file ≡ frames texts ++ end =
    λ end e. w.split ∙ ap (λ (l : List ℕ). frames texts ++ l) e in
    elim tail [
      | inl none ↦
          to_front behind texts (length (frames texts)) w.short
          (with_end [] none ∙ append-nil (frames texts)
          ∙ sym (take_at (frames texts) (0 ∷ []) (length (frames texts)) refl))
      | inr (inl shut) ↦
          to_front behind texts (length (at_rest texts)) w.short
          (with_end (0 ∷ []) shut ∙ sym (take_all (length (at_rest texts)) (at_rest texts) (omega arith)))
      | inr (inr open_end) ↦
          let rest = open_end.0 in
          let fits = AreBytes-rest 1 rest (subst AreBytes open_end.1 w.bytes) in
          let c = completed rest fits (sym (ap first_frame open_end.1) ∙ w.last) in
          let more = texts ++ c.text ∷ [] in
          let k = length (frames texts) + c.n in
          let spelled : at_rest more ≡ frames texts ++ ((frame c.text ++ []) ++ 0 ∷ []) =
          ap (λ (l : List ℕ). l ++ 0 ∷ []) (frames-append texts (c.text ∷ []))
          ∙ append_assoc (frames texts) (frame c.text ++ []) (0 ∷ []) in
          let front : take c.n ((frame c.text ++ []) ++ 0 ∷ []) ≡ take c.n (frame c.text) =
          ap (λ (l : List ℕ). take c.n (l ++ 0 ∷ [])) (append-nil (frame c.text))
          ∙ take-append-le c.n (frame c.text) (0 ∷ []) c.within in
          to_front behind more k (short-append texts (c.text ∷ []) w.short (c.short, tt))
          (with_end (1 ∷ rest) open_end.1 ∙ ap (λ (l : List ℕ). frames texts ++ l) (c.is ∙ sym front)
          ∙ sym (take-append-add (frames texts) ((frame c.text ++ []) ++ 0 ∷ []) c.n)
          ∙ ap (λ (l : List ℕ). take k l) (sym spelled))
    ]

-- the front alone, behind a gate
gate_alone : IsTail (end_of (1 ∷ []))
gate_alone = inr (inr ([], end_of-none (1 ∷ []) (split_short (named_len []) [] (omega arith))))

front_ends : (behind : List ℕ) → IsFront behind → IsTail (end_of (1 ∷ behind))
front_ends behind front = go front.0 front.1 front.2 front.3
  where
    go : (texts : List (List ℕ)) (n : ℕ) → AreShort texts → behind ≡ take n (drop 1 (at_rest texts))
        → IsTail (end_of (1 ∷ behind))
    go [] n short is =
        subst (λ (l : List ℕ). IsTail (end_of (1 ∷ l))) (sym (is ∙ take_all n [] (omega arith))) gate_alone
    go (text ∷ texts) n short is =
        subst (λ (l : List ℕ). IsTail (end_of (1 ∷ l))) (sym is) (front_tail (text ∷ texts) (suc n) short)

pub front_iff : (behind : List ℕ) → AreBytes behind → IsTail (end_of (1 ∷ behind)) ↔ IsFront behind
front_iff behind each = (tail_front behind each, front_ends behind)
