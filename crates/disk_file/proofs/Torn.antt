-- Writes of which a crash may leave a part.
use Rattle.std.proofs.Common.{◌≡◌, refl, sym, ◌∙◌, ap, ◌⊎◌, inl, inr, ℕ, zero, suc, ◌+◌}
use Rattle.std.proofs.Common.{◌-◌, ◌≤◌, ◌<◌, List, [], ◌++◌}
use Rattle.std.proofs.Common.{length, take, drop, arith, append_assoc, length-append, take-append-drop}
use Rattle.std.proofs.lemmas.List.{take-take, drop-drop, take_at, drop_at}
use Rattle.std.proofs.lemmas.List.{take_all, drop_all, length-take, length-drop, length-take-le}
use Rattle.take_journal.specs.Device.{IsTornCut, IsTornWrite, overwritten}
use Rattle.disk_file.specs.Standing.{IsTorn}

either : (a b : ℕ) → (a ≤ b) ⊎ (b < a)
either zero b = inl (omega arith)
either (suc a) zero = inr (omega arith)
either (suc a) (suc b) = elim (either a b) [ inl le ↦ inl (omega arith) | inr lt ↦ inr (omega arith) ]

-- A crash may leave nothing of a write.
pub torn_not : (at n : ℕ) (file : List ℕ) → IsTorn at n file file
torn_not at n file = record { ahead = refl; behind = refl; no_shorter = omega arith }

pub torn_cut_not : (len : ℕ) (file : List ℕ) → IsTornCut len file file
torn_cut_not len file = λ within. (length file, within, sym (take_all (length file) file (omega arith)))

-- Two writes, one after the other, are one write of a range that has both.
pub torn_both : (at n at' n' : ℕ) (old mid new : List ℕ) → IsTorn at n old mid → IsTorn at' n' mid new
    → at ≤ at' → at' + n' ≤ at + n → IsTorn at n old new
torn_both at n at' n' old mid new one two begins ends = record {
  ahead = sym (take-take at at' new begins) ∙ ap (take at) two.ahead ∙ take-take at at' mid begins ∙ one.ahead;
  behind = from_there new ∙ ap (drop (at + n - (at' + n'))) two.behind ∙ sym (from_there mid) ∙ one.behind;
  no_shorter = let first = one.no_shorter in let second = two.no_shorter in omega arith;
}
  where
    from_there : (file : List ℕ) → drop (at + n) file ≡ drop (at + n - (at' + n')) (drop (at' + n') file)
    from_there file =
        let is : at' + n' + (at + n - (at' + n')) ≡ at + n = omega arith in
        sym (ap (λ (k : ℕ). drop k file) is) ∙ sym (drop-drop (at + n - (at' + n')) (at' + n') file)

-- Whatever stands in the range is so many bytes in the place of what stood there.
pub torn_write : (at n : ℕ) (old new : List ℕ) → IsTorn at n old new → IsTornWrite at n old new
torn_write at n old new torn = λ within. (take n (drop at new), at_most, is)
  where
    at_most : length (take n (drop at new)) ≤ n
    at_most = let is = length-take n (drop at new) in omega arith

    behind : drop (at + length (take n (drop at new))) old ≡ drop (at + n) new
    behind = by_length (either (at + n) (length new))
      where
        by_length : (at + n ≤ length new) ⊎ (length new < at + n)
            → drop (at + length (take n (drop at new))) old ≡ drop (at + n) new
        by_length (inl le) =
            let len = length-take n (drop at new) in
            let left = length-drop at new in
            let is : length (take n (drop at new)) ≡ n = omega arith in
            ap (λ (k : ℕ). drop (at + k) old) is ∙ sym torn.behind
        by_length (inr lt) =
            let len = length-take n (drop at new) in
            let left = length-drop at new in
            let longer = torn.no_shorter in
            drop_all (at + length (take n (drop at new))) old (omega arith) ∙ sym (drop_all (at + n) new (omega arith))

    is : new ≡ overwritten at (take n (drop at new)) old
    is =
        sym (take-append-drop at new)
        ∙ ap (λ (l : List ℕ). take at new ++ l) (sym (take-append-drop n (drop at new)))
        ∙ ap (λ (l : List ℕ). take at new ++ (take n (drop at new) ++ l)) (drop-drop n at new ∙ sym behind)
        ∙ ap (λ (l : List ℕ). l ++ (take n (drop at new) ++ drop (at + length (take n (drop at new))) old)) torn.ahead

-- What was written in two parts is there as if it had been written at once.
pub overwritten_both : (at : ℕ) (one two file : List ℕ) → at ≤ length file
    → overwritten (at + length one) two (overwritten at one file) ≡ overwritten at (one ++ two) file
overwritten_both at one two file within =
    ap (λ (l : List ℕ). l ++ (two ++ drop (at + length one + length two) whole)) front
    ∙ ap (λ (l : List ℕ). (take at file ++ one) ++ (two ++ l)) rest
    ∙ append_assoc (take at file) one (two ++ drop (at + length (one ++ two)) file)
    ∙ ap (λ (l : List ℕ). take at file ++ l) (sym (append_assoc one two (drop (at + length (one ++ two)) file)))
  where
    ahead : List ℕ
    ahead = take at file ++ one

    whole : List ℕ
    whole = take at file ++ (one ++ drop (at + length one) file)

    is_split : whole ≡ ahead ++ drop (at + length one) file
    is_split = sym (append_assoc (take at file) one (drop (at + length one) file))

    len : length ahead ≡ at + length one
    len = length-append (take at file) one ∙ ap (λ (k : ℕ). k + length one) (length-take-le at file within)

    front : take (at + length one) whole ≡ ahead
    front = ap (take (at + length one)) is_split ∙ take_at ahead (drop (at + length one) file) (at + length one) len

    rest : drop (at + length one + length two) whole ≡ drop (at + length (one ++ two)) file
    rest =
        sym (drop-drop (length two) (at + length one) whole)
        ∙ ap (λ (l : List ℕ). drop (length two) (drop (at + length one) l)) is_split
        ∙ ap (drop (length two)) (drop_at ahead (drop (at + length one) file) (at + length one) len)
        ∙ drop-drop (length two) (at + length one) file
        ∙ ap (λ (k : ℕ). drop k file) (let both = length-append one two in omega arith)

pub overwritten_none : (at : ℕ) (file : List ℕ) → overwritten at [] file ≡ file
overwritten_none at file = let is : at + 0 ≡ at = omega arith in rw is (take-append-drop at file)
