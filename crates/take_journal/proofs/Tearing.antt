-- What a crash leaves of each step of an append, and of mending.
use Rattle.std.proofs.Common.{◌≡◌, inl, inr, ℕ, zero, suc, ◌+◌, ◌-◌, ◌≤◌, List, [], ◌∷◌, ◌++◌, length, take, drop}
use Rattle.std.proofs.Common.{refl, sym, ◌∙◌, ap, subst, arith, append_assoc, length-append}
use Rattle.std.proofs.Math.Seq.{drop-append-add, take-append-add}
use Rattle.std.proofs.lemmas.List.{append-nil, drop_all, length-take, take_all, take_at, take-take}
use Rattle.std.proofs.lemmas.Bool.{cases_eq, cases_lt}
use Rattle.take_journal.specs.Crash.{IsTornEnd, LeftByAppend, LeftByMending, MayBeLeft}
use Rattle.take_journal.specs.Device.{EachFrom, IsTornCut, IsTornWrite, LeavesJust, overwritten}
use Rattle.take_journal.specs.Frames.{AreShort, at_rest, frames, recovered}
use Rattle.take_journal.proofs.Reading.{closed, frames-append, recovered-at_rest, recovered-closed, recovered-frames}
use Rattle.take_journal.proofs.Reading.{short-append, too_short}

-- ---- one call

-- what a write leaves whole, cut short or not
pub over : (front back bytes : List ℕ) (at : ℕ) → at ≡ length front
    → overwritten at bytes (front ++ back) ≡ front ++ (bytes ++ drop (length bytes) back)
over front back bytes at is =
    let behind : drop (at + length bytes) (front ++ back) ≡ drop (length bytes) back =
    ap (λ n. drop (n + length bytes) (front ++ back)) is ∙ drop-append-add front back (length bytes) in
    ap (λ (l : List ℕ). l ++ (bytes ++ drop (at + length bytes) (front ++ back))) (take_at front back at (sym is))
    ∙ ap (λ (l : List ℕ). front ++ (bytes ++ l)) behind

pub torn_from : (at n : ℕ) (file : List ℕ) (before now : List ℕ → Type 0) → at ≤ length file → LeavesJust file before
    → EachFrom (IsTornWrite at n) before now → (left : List ℕ) → now left
    → (junk : List ℕ) × (length junk ≤ n) × (left ≡ overwritten at junk file)
torn_from at n file before now le just each left is =
    let from = each left is in
    subst (λ f. IsTornWrite at n f left) (just from.0 from.1) from.2 le

pub cut_from : (len : ℕ) (file : List ℕ) (before now : List ℕ → Type 0) → len ≤ length file → LeavesJust file before
    → EachFrom (IsTornCut len) before now → (left : List ℕ) → now left → (n : ℕ) × (len ≤ n) × (left ≡ take n file)
cut_from len file before now le just each left is =
    let from = each left is in
    subst (λ f. IsTornCut len f left) (just from.0 from.1) from.2 le

-- ---- an append

module _ (old : List (List ℕ)) (short : AreShort old) where
  -- whatever stands behind the closed gate
  pub shut_leaves : (more : List (List ℕ)) (junk file : List ℕ) → file ≡ frames old ++ 0 ∷ junk
      → LeftByAppend old more file
  shut_leaves more junk file is = record {
    texts = inl (ap recovered is ∙ recovered-closed old 0 junk short (λ e. absurd (omega (arith, e))));
    left = record { texts = old; end = 0 ∷ junk; short = short; split = is; torn = inr (inl (junk, refl)) };
  }

  module _ (more : List (List ℕ)) (also : AreShort more) (behind : List ℕ) (spelled : 1 ∷ behind ≡ at_rest more) where
    pub opened : frames old ++ 1 ∷ behind ≡ at_rest (old ++ more)
    opened =
        ap (λ (l : List ℕ). frames old ++ l) spelled
        ∙ sym (append_assoc (frames old) (frames more) (0 ∷ []))
        ∙ ap (λ (l : List ℕ). l ++ 0 ∷ []) (sym (frames-append old more))

    pub opened_stands : recovered (frames old ++ 1 ∷ behind) ≡ old ++ more
    opened_stands = ap recovered opened ∙ recovered-at_rest (old ++ more) (short-append old more short also)

    -- whatever a crash leaves of the gate
    pub gate_leaves : (gate : ℕ) (file : List ℕ) → file ≡ frames old ++ gate ∷ behind → LeftByAppend old more file
    gate_leaves gate file is = elim (cases_eq gate 1) [
      | inl open_is ↦
          let whole : file ≡ frames old ++ 1 ∷ behind = is ∙ ap (λ g. frames old ++ g ∷ behind) open_is in
          record {
            texts = inr (ap recovered whole ∙ opened_stands);
            left = record {
              texts = old ++ more;
              end = 0 ∷ [];
              short = short-append old more short also;
              split = whole ∙ opened;
              torn = inl (omega arith);
            };
          }
      | inr shut ↦
          let whole : behind ≡ drop 1 (at_rest more) = ap (λ (l : List ℕ). drop 1 l) spelled in
          let n = length (drop 1 (at_rest more)) in
          record {
            texts = inl (ap recovered is ∙ recovered-closed old gate behind short shut);
            left = record {
              texts = old;
              end = gate ∷ behind;
              short = short;
              split = is;
              torn = inr (inr (gate, behind, shut, refl, (more, n, also, whole ∙ sym (take_all n _ (omega arith)))));
            };
          }
    ]

    -- one byte, written or not
    pub torn_gate_leaves : (junk file : List ℕ) → length junk ≤ 1
        → file ≡ frames old ++ (junk ++ drop (length junk) (0 ∷ behind)) → LeftByAppend old more file
    torn_gate_leaves [] file le is = shut_leaves more behind file is
    torn_gate_leaves (gate ∷ []) file le is = gate_leaves gate file is
    torn_gate_leaves (gate ∷ x ∷ junk) file le is = absurd (omega (arith, le))

-- ---- mending

-- what a crash leaves behind the frames that count doesn't count, nor does its front
pub torn_quiet : (end : List ℕ) → IsTornEnd end → recovered end ≡ []
torn_quiet end (inl short) = too_short end (omega (arith, short))
torn_quiet end (inr (inl shut)) = ap recovered shut.1 ∙ closed 0 shut.0 (λ e. absurd (omega (arith, e)))
torn_quiet end (inr (inr torn)) = ap recovered torn.3 ∙ closed torn.0 torn.1 torn.2

take_twice : (m n : ℕ) (l : List ℕ) → (k : ℕ) × (take m (take n l) ≡ take k l)
take_twice m n l = elim (cases_lt m n) [
  | inl lt ↦ (m, take-take m n l (omega (arith, lt)))
  | inr le ↦ (n, take_all m (take n l) (omega (arith, le, length-take n l)))
]

pub torn_take : (m : ℕ) (end : List ℕ) → IsTornEnd end → IsTornEnd (take m end)
torn_take m end (inl short) = inl (omega (arith, short, length-take m end))
torn_take zero end (inr torn) = inl (omega arith)
torn_take (suc m) end (inr (inl shut)) = inr (inl (take m shut.0, ap (λ (l : List ℕ). take (suc m) l) shut.1))
torn_take (suc m) end (inr (inr torn)) =
    let front = torn.4 in
    let again = take_twice m front.1 (drop 1 (at_rest front.0)) in
    inr (inr (
      torn.0,
      take m torn.1,
      torn.2,
      ap (λ (l : List ℕ). take (suc m) l) torn.3,
      (front.0, again.0, front.2, ap (λ (l : List ℕ). take m l) front.3 ∙ again.1),
    ))

module _ (old : List ℕ) (left : MayBeLeft old) where
  abbrev texts : List (List ℕ)
  texts = left.texts

  pub stands : recovered old ≡ texts
  stands =
      ap recovered left.split ∙ recovered-frames texts left.end left.short
      ∙ ap (λ (l : List (List ℕ)). texts ++ l) (torn_quiet left.end left.torn) ∙ append-nil texts

  -- the frames that count, and such an end
  with_end : (end file : List ℕ) → IsTornEnd end → file ≡ frames texts ++ end → LeftByMending old file
  with_end end file torn is = record {
    same = ap recovered is ∙ recovered-frames texts end left.short
        ∙ ap (λ (l : List (List ℕ)). texts ++ l) (torn_quiet end torn) ∙ append-nil texts ∙ sym stands;
    left = λ _. record { texts = texts; end = end; short = left.short; split = is; torn = torn };
  }

  pub as_it_is : (file : List ℕ) → file ≡ old → LeftByMending old file
  as_it_is file is = record { same = ap recovered is; left = λ may. subst MayBeLeft (sym is) may }

  module _ (at : ℕ) (size : at ≡ length (frames (recovered old))) where
    pub size_is : at ≡ length (frames texts)
    size_is = size ∙ ap (λ (l : List (List ℕ)). length (frames l)) stands

    pub within : at ≤ length old
    within = omega (arith, size_is, ap length left.split, length-append (frames texts) left.end)

    pub cut_leaves : (n : ℕ) (file : List ℕ) → at ≤ n → file ≡ take n old → LeftByMending old file
    cut_leaves n file le is =
        let e : length (frames texts) + (n - at) ≡ n = omega (arith, size_is, le) in
        with_end (take (n - at) left.end) file (torn_take (n - at) left.end left.torn)
        (is ∙ ap (λ (l : List ℕ). take n l) left.split ∙ ap (λ k. take k (frames texts ++ left.end)) (sym e)
        ∙ take-append-add (frames texts) left.end (n - at))

    pub cut_to : take at old ≡ frames texts
    cut_to = ap (λ (l : List ℕ). take at l) left.split ∙ take_at (frames texts) left.end at (sym size_is)

    pub close_over : (junk : List ℕ) → overwritten at junk (frames texts) ≡ frames texts ++ junk
    close_over junk =
        ap (λ (f : List ℕ). overwritten at junk f) (sym (append-nil (frames texts)))
        ∙ over (frames texts) [] junk at size_is
        ∙ ap (λ (l : List ℕ). frames texts ++ (junk ++ l)) (drop_all (length junk) [] (omega arith))
        ∙ ap (λ (l : List ℕ). frames texts ++ l) (append-nil junk)

    pub close_leaves : (junk file : List ℕ) → length junk ≤ 1 → file ≡ overwritten at junk (frames texts)
        → LeftByMending old file
    close_leaves junk file le is = with_end junk file (inl le) (is ∙ close_over junk)
