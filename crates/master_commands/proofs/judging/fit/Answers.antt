use Rattle.std.proofs.Common.{◌≡◌, ◌+◌, Bool, true, false, ℕ, List, length, sym, ap, ◌∙◌}
use Rattle.std.specs.Prelude.{nat_le}
use Rattle.entry.specs.declared.entry.Entry.{Entry}
use Rattle.entry.specs.Text.{text_of}
use Rattle.versioned_map.specs.declared.command.Command.{Command}
use Rattle.history.specs.View.{shown_command}
use Rattle.master_commands.specs.declared.change.Change.{Change}
use Rattle.master_state.specs.Budget.{is_working, may_roll, segments_for}
use Rattle.master_state.specs.Causes.{dead_segment, has_room, unit_now, is_empty}
use Rattle.master_commands.specs.Change.{is_nothing, unit_of_change, IsChangeNow}
use Rattle.master_state.specs.Data.{MasterData}
use Rattle.master_state.proofs.Refusals.{refused_nothing, refused_closed, refused_full, refused_due, refused_not}
use Rattle.master_commands.proofs.judging.fit.Goals as goal

-- the unit is empty just if the change is nothing
empty : (d : MasterData) (k : Command) (change : Change) (r b : Bool) → IsChangeNow d k change
    → r ≡ is_nothing change → r ≡ b
    → is_empty (unit_now d k) ≡ b
empty d k change r b is gives test = sym (is.nothing (dead_segment d k)) ∙ sym gives ∙ test

pub returns-then-is_nothing : goal.returns-then-is_nothing
returns-then-is_nothing c = λ is.
    let d = c.args.core.now in
    let k = shown_command c.args.command.now in
    sym (refused_nothing d k (unit_now d k) (empty d k c.args.change.now c.is_nothing.result true is
    c.is_nothing.ensures c.if-is_nothing.true))

pub returns-then-not-is_working : goal.returns-then-not-is_working
returns-then-not-is_working c = λ is.
    let d = c.args.core.now in
    let k = shown_command c.args.command.now in
    let some = empty d k c.args.change.now c.is_nothing.result false is c.is_nothing.ensures c.if-is_nothing.false in
    let closed : is_working d ≡ false = sym c.is_working.ensures ∙ c.if-not-is_working.true in
    sym (refused_closed d k (unit_now d k) some closed)

-- there is room just if the image with the unit's bytes stays within the segment
room_is : (d : MasterData) (k : Command) (change : Change) (len : ℕ) (b : Bool) → IsChangeNow d k change
    → ((segment : ℕ) → len ≡ length (text_of (unit_of_change segment k change)))
    → nat_le (length (text_of d.head.image) + len) d.config.segment ≡ b → has_room d (unit_now d k) ≡ b
room_is d k change len b is lens room =
    let same : length (text_of (unit_now d k)) ≡ len =
    sym (lens (dead_segment d k) ∙ ap (λ (es : List Entry). length (text_of es)) (is.unit (dead_segment d k))) in
    ap (λ (n : ℕ). nat_le (length (text_of d.head.image) + n) d.config.segment) same ∙ room

pub returns-then-fits : goal.returns-then-fits
returns-then-fits c = λ is.
    let d = c.args.core.now in
    let k = shown_command c.args.command.now in
    let some = empty d k c.args.change.now c.is_nothing.result false is c.is_nothing.ensures c.if-is_nothing.false in
    let opened : is_working d ≡ true = sym c.is_working.ensures ∙ c.if-not-is_working.false in
    let room = room_is d k c.args.change.now c.unit_len.result true is c.unit_len.ensures.len
    (ap (λ (m : MasterData). nat_le (length (text_of m.head.image) + c.unit_len.result) m.config.segment)
    (sym c.core.view_is)
    ∙ sym c.fits.ensures ∙ c.if-fits.true) in
    sym (refused_not d k (unit_now d k) some opened room)

pub returns-then-may_roll : goal.returns-then-may_roll
returns-then-may_roll c = λ is.
    let d = c.args.core.now in
    let k = shown_command c.args.command.now in
    let some = empty d k c.args.change.now c.is_nothing.result false is c.is_nothing.ensures c.if-is_nothing.false in
    let opened : is_working d ≡ true = sym c.is_working.ensures ∙ c.if-not-is_working.false in
    let full = room_is d k c.args.change.now c.unit_len.result false is c.unit_len.ensures.len
    (ap (λ (m : MasterData). nat_le (length (text_of m.head.image) + c.unit_len.result) m.config.segment)
    (sym c.core.view_is)
    ∙ sym c.fits.ensures ∙ c.if-fits.false) in
    let may : may_roll d (segments_for k) ≡ true =
    ap (may_roll d) (sym c.segments_for.ensures.needed) ∙ sym c.may_roll.ensures ∙ c.if-may_roll.true in
    sym (refused_due d k (unit_now d k) some opened full may)

pub returns : goal.returns
returns c = λ is.
    let d = c.args.core.now in
    let k = shown_command c.args.command.now in
    let some = empty d k c.args.change.now c.is_nothing.result false is c.is_nothing.ensures c.if-is_nothing.false in
    let opened : is_working d ≡ true = sym c.is_working.ensures ∙ c.if-not-is_working.false in
    let full = room_is d k c.args.change.now c.unit_len.result false is c.unit_len.ensures.len
    (ap (λ (m : MasterData). nat_le (length (text_of m.head.image) + c.unit_len.result) m.config.segment)
    (sym c.core.view_is)
    ∙ sym c.fits.ensures ∙ c.if-fits.false) in
    let never : may_roll d (segments_for k) ≡ false =
    ap (may_roll d) (sym c.segments_for.ensures.needed) ∙ sym c.may_roll.ensures ∙ c.if-may_roll.false in
    sym (refused_full d k (unit_now d k) some opened full never)
