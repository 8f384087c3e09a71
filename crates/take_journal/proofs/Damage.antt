-- When a file is damaged, and where.
use Rattle.std.proofs.Common.{◌≡◌, ℕ, ◌+◌, ◌-◌, ◌≤◌, List, ◌++◌, length, drop, sym, ◌∙◌, ap, subst, arith}
use Rattle.std.proofs.Common.{length-append}
use Rattle.std.proofs.lemmas.List.{drop_at}
use Rattle.take_journal.specs.Crash.{IsTornEnd, MayBeLeft}
use Rattle.take_journal.specs.Frames.{end_of, frames, recovered}
use Rattle.take_journal.proofs.Numbers.{AreBytes}
use Rattle.take_journal.proofs.Splitting.{whole}
use Rattle.take_journal.proofs.Tearing.{stands}

pub size : (file : List ℕ) → AreBytes file → length file ≡ length (frames (recovered file)) + length (end_of file)
size file each = ap length (whole file each).split ∙ length-append (frames (recovered file)) (end_of file)

pub place : (file end : List ℕ) → AreBytes file → end ≡ end_of file
    → length file - length end ≡ length (frames (recovered file))
place file end each is = omega (arith, size file each, ap length is)

pub inside : (file end : List ℕ) → AreBytes file → end ≡ end_of file → length end ≤ length file
inside file end each is = omega (arith, size file each, ap length is)

pub left_of : (file end : List ℕ) → AreBytes file → end ≡ end_of file → IsTornEnd end → MayBeLeft file
left_of file end each is torn =
    let w = whole file each in
    record {
      texts = recovered file;
      end = end;
      short = w.short;
      split = w.split ∙ ap (λ (l : List ℕ). frames (recovered file) ++ l) (sym is);
      torn = torn;
    }

pub torn_of : (file end : List ℕ) → end ≡ end_of file → MayBeLeft file → IsTornEnd end
unfolding end_of
torn_of file end is left =
    let at : length (frames (recovered file)) ≡ length (frames left.texts) =
    ap (λ (ts : List (List ℕ)). length (frames ts)) (stands file left) in
    let same : end ≡ left.end =
    is ∙ ap (λ k. drop k file) at ∙ ap (λ (l : List ℕ). drop (length (frames left.texts)) l) left.split
    ∙ drop_at (frames left.texts) left.end (length (frames left.texts)) (λ i. length (frames left.texts)) in
    subst IsTornEnd (sym same) left.torn
