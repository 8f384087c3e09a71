use Rattle.std.proofs.Common.{sym, ap, ◌∙◌}
use Rattle.std.specs.Prelude.{slice_get}
use Rattle.std.proofs.lemmas.Option.{same_Some}
use Rattle.versioned_map.specs.declared.command.Record.{Record}
use Rattle.history.specs.View.{shown_record}
use Rattle.store_seat.proofs.Owning.{got, kept_is}
use Rattle.store_seat.proofs.forgetting.is_open.Goals as goal

pub returns-in-Some : goal.returns-in-Some
returns-in-Some c =
    let what = shown_record c.in-Some.what in
    let found = got c.args.history.now c.args.place what c.in-Some.ensures in (
      λ yes. let a = c.is_first.ensures.0 yes in (a.0, what, sym found.1, a.1, a.2),
      λ waits. c.is_first.ensures.1 (
        waits.0,
        ap (λ (r : Record). slice_get c.args.book.now.items r.seat) (same_Some _ _ (found.1 ∙ waits.2)) ∙ waits.3,
        waits.4,
      ),
    )

pub returns-in-None : goal.returns-in-None
returns-in-None c = (
  λ is. absurd (cc),
  λ waits. let none = c.in-None.ensures ∙ kept_is c.args.history.now c.args.place c.requires ∙ waits.2 in absurd (cc),
)
