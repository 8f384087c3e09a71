use Rattle.std.proofs.Common.{◌≡◌, ◌++◌, List, sym, ◌∙◌, ap, subst}
use Rattle.replica.specs.declared.holding.Holding.{Holding}
use Rattle.backup.specs.Shelf.{holdings_of}
use Rattle.file_backup.specs.Mirror.{memory_of}
use Rattle.file_backup.specs.Replay.{held_in}
use Rattle.file_fleet.proofs.Kept.{on_ok}
use Rattle.file_fleet.specs.Members.{replicas_at}
use Rattle.crash_fleet.specs.Same.{HaveSame}
use Rattle.crash_fleet.proofs.Holds.{same_if, same_then}
use Rattle.crash_fleet.proofs.reading.hold_same.Goals as goal

pub returns : goal.returns
returns g c =
    let one = c.memory.result.now in
    let other = c.memory-2.result.now in
    let ones : c.deref.result.now ≡ holdings_of 0 one =
    c.deref.ensures.value
    ∙ on_ok c.show.result _ (sym c.is_err.ensures.value ∙ c.if-is_err.false) c.show.ensures.shown
    ∙ ap (λ (hs : List Holding). hs ++ holdings_of 0 one) c.new-ones.ensures.items in
    let others : c.deref-2.result.now ≡ holdings_of 0 other =
    c.deref-2.ensures.value
    ∙ on_ok c.show-2.result _ (sym c.is_err-2.ensures.value ∙ c.if-is_err-2.false) c.show-2.ensures.shown
    ∙ ap (λ (hs : List Holding). hs ++ holdings_of 0 other) c.new-others.ensures.items in
    let held : held_in one ≡ replicas_at c.args.one.now =
    ap held_in (c.memory.ensures ∙ ap (λ b. memory_of b) c.backup.ensures) in
    let held-2 : held_in other ≡ replicas_at c.args.other.now =
    ap held_in (c.memory-2.ensures ∙ ap (λ b. memory_of b) c.backup-2.ensures) in (
      λ holds. sym held ∙ same_if one other c.show.ensures.ordered c.show-2.ensures.ordered
          (subst (λ (hs : List Holding). HaveSame hs (holdings_of 0 other)) ones
          (subst (λ (hs : List Holding). HaveSame c.deref.result.now hs) others (c.have_same.ensures.0 holds)))
          ∙ held-2,
      λ same. c.have_same.ensures.1 (subst (λ (hs : List Holding). HaveSame hs c.deref-2.result.now) (sym ones)
          (subst (λ (hs : List Holding). HaveSame (holdings_of 0 one) hs) (sym others)
          (same_then one other c.show.ensures.ordered c.show-2.ensures.ordered (held ∙ same ∙ sym held-2)))),
    )
