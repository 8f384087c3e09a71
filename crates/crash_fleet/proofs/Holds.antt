-- Two backups hold the same if the lists of their replicas have the same.
use Rattle.std.proofs.Common.{◌≡◌, ℕ, List, Option, None, Some, refl, sym, ◌∙◌, ap, subst}
use mathlib.Core.Path.{fun_ext}
use Rattle.std.proofs.lemmas.Option.{none-some}
use Rattle.entry.specs.Bag.{IsAmong}
use Rattle.replica.specs.Picture.{Replica}
use Rattle.replica.specs.declared.holding.Holding.{Holding}
use Rattle.backup.specs.Shelf.{IsInOrder, holding_of, holdings_of, replica_at}
use Rattle.backup.specs.declared.memory.MemoryBackup.{MemoryBackup}
use Rattle.file_backup.specs.Replay.{held_in}
use Rattle.file_fleet.proofs.Held.{among_held, held_among, shown_value}
use Rattle.crash_fleet.specs.Same.{AreAmong, HaveSame}

module _ (one other : MemoryBackup) (ones : IsInOrder one) (others : IsInOrder other) where
  has_too : AreAmong (holdings_of 0 one) (holdings_of 0 other) → (m s : ℕ) (r : Replica) → replica_at one m s ≡ Some r
      → replica_at other m s ≡ Some r
  has_too are m s r held =
      let h : Holding = holding_of 0 ((m, s), r) in
      (among_held 0 other others h (are h (held_among 0 one h refl held))).1

  pub among_too : held_in one ≡ held_in other → AreAmong (holdings_of 0 one) (holdings_of 0 other)
  among_too same h among =
      let held = among_held 0 one ones h among in
      held_among 0 other h held.0 (sym (ap (λ p. p h.master h.segment) same) ∙ held.1)

module _ (one other : MemoryBackup) (ones : IsInOrder one) (others : IsInOrder other) where
  pub same_if : HaveSame (holdings_of 0 one) (holdings_of 0 other) → held_in one ≡ held_in other
  same_if same = fun_ext (λ m. fun_ext (λ s. by_case m s (replica_at one m s) (replica_at other m s) refl refl))
    where
      by_case : (m s : ℕ) (p q : Option Replica) → replica_at one m s ≡ p → replica_at other m s ≡ q
          → replica_at one m s ≡ replica_at other m s
      by_case m s None None e f = e ∙ sym f
      by_case m s (Some r) q e f = e ∙ sym (has_too one other ones others same.0 m s r e)
      by_case m s None (Some r) e f = has_too other one others ones same.1 m s r f ∙ sym f

  pub same_then : held_in one ≡ held_in other → HaveSame (holdings_of 0 one) (holdings_of 0 other)
  same_then same = (among_too one other ones others same, among_too other one others ones (sym same))
