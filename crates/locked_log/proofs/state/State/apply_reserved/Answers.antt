use Rattle.std.proofs.Common.{◌≡◌, rules, refl, ap, sym, ◌∙◌, Ok, Err, length, subst, inl, arith, ◌<◌, ◌+◌}
use Rattle.versioned_map.specs.declared.command.Command.{Command}
use Rattle.versioned_map.specs.declared.command.Reply.{Reply}
use Rattle.store_step.specs.master.World.{World, world}
use Rattle.store_seat.specs.declared.fault.CallFault.TheVariants.{CellRefused}
use Rattle.locked_log.specs.Held.{StateValue, Held, held}
use Rattle.store_seat.specs.Accounts.{Knows}
use Rattle.locked_log.specs.States.{IsState, Lasts}
use Rattle.store_seat.specs.Seats.{record_by}
use Rattle.locked_log.proofs.Adding.{place_is}
use Rattle.locked_log.proofs.Applied.{Done, declines_at, has_room, took, missed}
use Rattle.locked_log.proofs.Few.{small}
use Rattle.locked_log.proofs.Lasting.{lasts_same}
use Rattle.locked_log.proofs.state.State.apply_reserved.Given.{Over}
use Rattle.history.specs.View.{shown_command}
use Rattle.store_step.specs.master.master_state.declared.step.Step.TheVariants.{Apply}
use Rattle.store_step.specs.master.Steps.{Declines}
use Rattle.locked_log.proofs.state.State.apply_reserved.Goals as goal

pub returns-in-Err-clause-applies : goal.returns-in-Err-clause-applies
returns-in-Err-clause-applies g c =
    let known : Knows c.args.self.now.book c.args.seat.now = c.knows.ensures.0 (search rules) in
    let d = subst (λ (k : Command). Declines (world g.F.Fleet.state c.args.self.now.master)
    (Apply c.args.seat.now.number k) c.in-Err.refusal (world g.F.Fleet.state c.apply_command.new.master))
    c.view_command-view.ensures (declines_at g.F.Fleet.state _ c.args.self.now c.self.view_is c.args.seat.now
    c.number-number.result c.number-number.ensures (shown_command c.view_command-view.result) c.in-Err.refusal _
    c.in-Err.ensures.gives) in
    let off = ap (λ (y : StateValue _). y.is_refused) (sym c.self.view_is) ∙ c.if-self.false in
    let same : world g.F.Fleet.state c.apply_command.new.master ≡ world g.F.Fleet.state c.self.inside.master =
    c.in-Err.ensures.gives.0 in (
      d,
      off,
      known,
      (λ i. record {
        world = same i;
        book = c.self.inside.book.items;
        total = c.self.inside.total.total;
        start = g.B.Labels.start;
        row = c.self.inside.row;
        is_refused = c.self.inside.is_refused;
      })
          ∙ ap (λ (y : StateValue _). held g.F.Fleet.state y) c.self.view_is,
      refl,
    )

pub returns-in-Err-clause-lasts : goal.returns-in-Err-clause-lasts
returns-in-Err-clause-lasts g c =
    let same : world g.F.Fleet.state c.apply_command.new.master ≡ world g.F.Fleet.state c.self.inside.master =
    c.in-Err.ensures.gives.0 in
    let back = (λ i. record {
      world = same i;
      book = c.self.inside.book.items;
      total = c.self.inside.total.total;
      start = g.B.Labels.start;
      row = c.self.inside.row;
      is_refused = c.self.inside.is_refused;
    })
    ∙ ap (λ (y : StateValue _). held g.F.Fleet.state y) c.self.view_is in
    subst (λ (h : Held). Lasts 1 (held g.F.Fleet.state c.args.self.now) h) (sym back)
    (lasts_same 1 (held g.F.Fleet.state c.args.self.now))

pub returns-in-Err-clause-valid : goal.returns-in-Err-clause-valid
returns-in-Err-clause-valid g c =
    let same : world g.F.Fleet.state c.apply_command.new.master ≡ world g.F.Fleet.state c.self.inside.master =
    c.in-Err.ensures.gives.0 in
    subst (λ (w : World). IsState (record {
      world = w;
      book = c.self.inside.book.items;
      total = c.self.inside.total.total;
      start = g.B.Labels.start;
      row = c.self.inside.row;
      is_refused = c.self.inside.is_refused;
    })
    g.B.Naming.made) (sym same) c.self.invariant

pub invariant_of-self : goal.invariant_of-self
invariant_of-self g c =
    let same : world g.F.Fleet.state c.apply_command.new.master ≡ world g.F.Fleet.state c.self.inside.master =
    c.in-Err.ensures.gives.0 in
    subst (λ (w : World). IsState (record {
      world = w;
      book = c.self.inside.book.items;
      total = c.self.inside.total.total;
      start = g.B.Labels.start;
      row = c.self.inside.row;
      is_refused = c.self.inside.is_refused;
    })
    g.B.Naming.made) (sym same) c.self.invariant

pub file-requires-clause-room : goal.file-requires-clause-room
file-requires-clause-room g c =
    let known : Knows c.args.self.now.book c.args.seat.now = c.knows.ensures.0 (search rules) in
    small (held g.F.Fleet.state c.args.self.now) g.B.Naming.made c.args.seat.now
    (subst (λ (y : StateValue _). IsState (held g.F.Fleet.state y) g.B.Naming.made) c.self.view_is
    c.self.invariant) known

done-missed : (g : Over) (c : goal.Joined-reply g)
    → Done (held g.F.Fleet.state c.args.self.now) c.args.seat.now c.args.command.now (Err CellRefused)
    (record {
      world = world g.F.Fleet.state c.apply_command.new.master;
      book = c.file.new.book.items;
      total = c.file.new.total.total;
      start = g.B.Labels.start;
      row = c.file.new.row;
      is_refused = c.file.new.is_refused;
    })
    c.file.new.seat g.B.Naming.made
done-missed g c =
    let known : Knows c.args.self.now.book c.args.seat.now = c.knows.ensures.0 (search rules) in
    let asked = shown_command c.view_command-view.result in
    subst (λ (k : Command). Done (held g.F.Fleet.state c.args.self.now) c.args.seat.now k (Err CellRefused)
    (record {
      world = world g.F.Fleet.state c.apply_command.new.master;
      book = c.file.new.book.items;
      total = c.file.new.total.total;
      start = g.B.Labels.start;
      row = c.file.new.row;
      is_refused = c.file.new.is_refused;
    })
    c.file.new.seat g.B.Naming.made) c.view_command-view.ensures
    (missed g.F.Fleet.state _ c.args.self.now c.self.view_is c.args.seat.now c.number-number.result
    c.number-number.ensures asked c.in-Ok.applied.0 c.in-Ok.applied.1 _ g.B.Naming.made _
    c.self.invariant c.show_kept.ensures known c.if-self.false c.in-Ok.ensures.gives c.apply_command.ensures.keeps
    c.apply_command.ensures.remembers c.apply_command.ensures.valid refl (has_room g.F.Fleet.state _ c.args.self.now
    c.self.view_is c.in-Ok.applied.0 (place_is _ _ c.number-number.result asked c.in-Ok.applied.0 c.in-Ok.applied.1
    c.in-Ok.ensures.gives) c.requires)
    (ap (λ (r : Reply). record_by c.number-number.result asked r) c.view_reply.ensures)
    c.file.ensures.book c.file.ensures.total c.file.new.seat c.if-not-file.ensures.row c.if-not-file.ensures.refused
    c.if-not-file.ensures.seat)

pub invariant_of-self-then-not-file : goal.invariant_of-self-then-not-file
invariant_of-self-then-not-file g c = (done-missed g c).valid

pub returns-then-not-file-clause-applies : goal.returns-then-not-file-clause-applies
returns-then-not-file-clause-applies g c = (done-missed g c).applies

pub returns-then-not-file-clause-lasts : goal.returns-then-not-file-clause-lasts
returns-then-not-file-clause-lasts g c = (done-missed g c).lasts

pub returns-then-not-file-clause-valid : goal.returns-then-not-file-clause-valid
returns-then-not-file-clause-valid g c = (done-missed g c).valid

done-took : (g : Over) (c : goal.Else-not-file g)
    → Done (held g.F.Fleet.state c.args.self.now) c.args.seat.now c.args.command.now
    (Ok (c.in-Ok.applied.0, c.in-Ok.applied.1))
    (record {
      world = world g.F.Fleet.state c.apply_command.new.master;
      book = c.file.new.book.items;
      total = c.file.new.total.total;
      start = g.B.Labels.start;
      row = c.file.new.row;
      is_refused = c.file.new.is_refused;
    })
    c.file.new.seat g.B.Naming.made
done-took g c =
    let known : Knows c.args.self.now.book c.args.seat.now = c.knows.ensures.0 (search rules) in
    let asked = shown_command c.view_command-view.result in
    subst (λ (k : Command). Done (held g.F.Fleet.state c.args.self.now) c.args.seat.now k
    (Ok (c.in-Ok.applied.0, c.in-Ok.applied.1))
    (record {
      world = world g.F.Fleet.state c.apply_command.new.master;
      book = c.file.new.book.items;
      total = c.file.new.total.total;
      start = g.B.Labels.start;
      row = c.file.new.row;
      is_refused = c.file.new.is_refused;
    })
    c.file.new.seat g.B.Naming.made) c.view_command-view.ensures
    (took g.F.Fleet.state _ c.args.self.now c.self.view_is c.args.seat.now c.number-number.result
    c.number-number.ensures asked c.in-Ok.applied.0 c.in-Ok.applied.1 _ g.B.Naming.made _
    c.self.invariant c.show_kept.ensures known c.if-self.false c.in-Ok.ensures.gives c.apply_command.ensures.keeps
    c.apply_command.ensures.remembers c.apply_command.ensures.valid refl (has_room g.F.Fleet.state _ c.args.self.now
    c.self.view_is c.in-Ok.applied.0 (place_is _ _ c.number-number.result asked c.in-Ok.applied.0 c.in-Ok.applied.1
    c.in-Ok.ensures.gives) c.requires)
    (ap (λ (r : Reply). record_by c.number-number.result asked r) c.view_reply.ensures)
    c.file.ensures.book c.file.ensures.total c.file.new.seat c.if-not-file.ensures.row c.if-not-file.ensures.refused
    c.if-not-file.ensures.seat)

pub invariant_of-self-2 : goal.invariant_of-self-2
invariant_of-self-2 g c = (done-took g c).valid

pub returns-clause-applies : goal.returns-clause-applies
returns-clause-applies g c = (done-took g c).applies

pub returns-clause-lasts : goal.returns-clause-lasts
returns-clause-lasts g c = (done-took g c).lasts

pub returns-clause-valid : goal.returns-clause-valid
returns-clause-valid g c = (done-took g c).valid

-- ---- before the step

pub returns-then-self-clause-applies : goal.returns-then-self-clause-applies
returns-then-self-clause-applies g c = inl (
  ap (λ (y : StateValue _). y.is_refused) (sym c.self.view_is)
      ∙ c.if-self.true,
  refl,
  refl,
)

pub returns-then-self-clause-lasts : goal.returns-then-self-clause-lasts
returns-then-self-clause-lasts g c = lasts_same 1 (held g.F.Fleet.state c.args.self.now)

pub returns-then-self-clause-valid : goal.returns-then-self-clause-valid
returns-then-self-clause-valid g c =
    subst (λ (y : StateValue _). IsState (held g.F.Fleet.state y) g.B.Naming.made) c.self.view_is c.self.invariant

pub returns-then-not-knows-clause-applies : goal.returns-then-not-knows-clause-applies
returns-then-not-knows-clause-applies g c = (
  ap (λ (y : StateValue _). y.is_refused) (sym c.self.view_is)
      ∙ c.if-self.false,
  λ k. let yes = c.knows.ensures.1 k in
      let no = c.if-not-knows.true in cc,
  refl,
  refl,
)

pub returns-then-not-knows-clause-lasts : goal.returns-then-not-knows-clause-lasts
returns-then-not-knows-clause-lasts g c = lasts_same 1 (held g.F.Fleet.state c.args.self.now)

pub returns-then-not-knows-clause-valid : goal.returns-then-not-knows-clause-valid
returns-then-not-knows-clause-valid g c =
    subst (λ (y : StateValue _). IsState (held g.F.Fleet.state y) g.B.Naming.made) c.self.view_is c.self.invariant

-- ---- the cell of the record

pub file-requires-clause-cell : goal.file-requires-clause-cell
file-requires-clause-cell g c =
    let old = world g.F.Fleet.state c.self.inside.master in
    let new = world g.F.Fleet.state c.apply_command.new.master in
    let accepted = c.in-Ok.ensures.gives in
    let at_end = place_is old new c.number-number.result (shown_command c.view_command-view.result)
    c.in-Ok.applied.0 c.in-Ok.applied.1 accepted in
    let room = subst (λ (y : StateValue _). length y.master.knows.history < y.start + length y.row)
    (sym c.self.view_is) c.requires in
    (omega (arith, at_end, c.self.invariant.start), omega (arith, at_end, room))

pub file-requires-clause-known : goal.file-requires-clause-known
file-requires-clause-known g c =
    let known : Knows c.args.self.now.book c.args.seat.now = c.knows.ensures.0 (search rules) in
    subst (λ (y : StateValue _). Knows y.book c.args.seat.now) (sym c.self.view_is) known
