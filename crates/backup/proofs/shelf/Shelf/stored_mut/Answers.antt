use Rattle.std.proofs.Common.{◌<◌, length, refl, sym, ap, subst, ◌∙◌}
use Rattle.std.proofs.lemmas.List.{get_or_default}
use Rattle.backup.specs.Slots.{Slots, AreOrdered, with_stored}
use Rattle.backup.proofs.Shelves.{written_back, ordered_written}
use Rattle.backup.proofs.shelf.Shelf.stored_mut.Goals as goal

pub invariant_of-self-lent : goal.invariant_of-self-lent
invariant_of-self-lent c = λ w.
    let slots = c.self.inside.slots.items in
    let at = c.args.at in
    let within = subst (λ (xs : Slots). at < length xs) (sym c.self.view_is) c.requires in
    subst (λ (xs : Slots). AreOrdered xs)
    (sym (written_back slots at c.index_mut.result.now w within c.index_mut.ensures.value))
    (ordered_written slots at w c.self.invariant)

pub returns : goal.returns
returns c =
    let slots = c.self.inside.slots.items in
    let at = c.args.at in
    let slot = c.index_mut.result.now in
    let within = subst (λ (xs : Slots). at < length xs) (sym c.self.view_is) c.requires in (
      (
        refl,
        λ w. written_back slots at slot w within c.index_mut.ensures.value
            ∙ ap (λ (xs : Slots). with_stored xs at w) c.self.view_is,
      ),
      record {
        writes_back = tt;
        value = λ d. rw (← c.self.view_is)
            (ap (λ x. x.1) (sym (c.index_mut.ensures.value ∙ get_or_default slots at slot d within)));
      },
    )
