use Rattle.std.proofs.Common.{◌≡◌, ◌<◌, [], ◌++◌, List, map, drop, length, refl, sym, ap, subst, ◌∙◌, arith, rules}
use Rattle.std.proofs.lemmas.List.{append-nil, drop_all}
use Rattle.replica.specs.Picture.{label_of}
use Rattle.replica.specs.declared.holding.Holding.{Holding}
use Rattle.backup.specs.Inventory.{AreRising}
use Rattle.backup.proofs.Held.{any_held, on_err}
use Rattle.backup.proofs.Rising.{rising_labels}
use Rattle.backup.proofs.fleet.MemoryFleet.labels.Goals as goal

pub returns-in_err-labels-clause-memory : goal.returns-in_err-labels-clause-memory
returns-in_err-labels-clause-memory c =
    let hs = c.in_ok-inventory.inventory in
    let some : 0 < length hs = search rules in
    on_err c.from_residual-in_err-labels.result (any_held hs _ c.in_ok-inventory.ensures.shown some)

pub returns-clause-shown : goal.returns-clause-shown
returns-clause-shown c =
    let hs = c.in_ok-inventory.inventory in
    let last = c.loop-holding in
    let seen = c.as_slice-holdings.result.now in
    let none : drop last.holding-index seen ≡ [] = drop_all last.holding-index seen (omega arith) in
    let whole : last.labels.items ++ [] ≡ map label_of seen = rw none at last.invariant.whole in (
      hs,
      c.in_ok-inventory.ensures.shown,
      c.new.ensures ∙ sym (append-nil last.labels.items) ∙ whole
          ∙ ap (λ (xs : List Holding). map label_of xs) c.as_slice-holdings.ensures,
    )

pub returns-clause-rising : goal.returns-clause-rising
returns-clause-rising c =
    let hs = c.in_ok-inventory.inventory in
    let last = c.loop-holding in
    let seen = c.as_slice-holdings.result.now in
    let none : drop last.holding-index seen ≡ [] = drop_all last.holding-index seen (omega arith) in
    let whole : last.labels.items ++ [] ≡ map label_of seen = rw none at last.invariant.whole in
    let same : c.new.result ≡ map label_of hs =
    c.new.ensures ∙ sym (append-nil last.labels.items) ∙ whole
    ∙ ap (λ (xs : List Holding). map label_of xs) c.as_slice-holdings.ensures in
    subst AreRising (sym same) (rising_labels hs c.in_ok-inventory.ensures.rising)
