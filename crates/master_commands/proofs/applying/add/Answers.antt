use Rattle.std.proofs.Common.{◌≡◌, ℕ, List, ◌++◌, ◌∷◌, [], None, ◌<◌, length, rules, refl, sym, ap, subst, ◌∙◌}
use Rattle.versioned_map.specs.declared.command.Command.{Command}
use Rattle.versioned_map.specs.declared.command.Record.{Record}
use Rattle.versioned_map.specs.declared.command.Reply.{Reply}
use Rattle.master_commands.specs.declared.change.Change.{Change}
use Rattle.log_head.specs.Head.{HeadValue, IsHeadValue}
use Rattle.master_state.specs.declared.step.StepAnswer.TheVariants.{Applied}
use Rattle.master_state.specs.Causes.{command_refusal, is_empty, live_now}
use Rattle.master_commands.specs.Change.{unit_of_change, had_now, IsJudged, IsSought}
use Rattle.master_commands.specs.Counts.{IsCounted}
use Rattle.master_state.specs.Steps.{appended, reply_now, Applies, MayApplyNow}
use Rattle.master_state.specs.contracts.state.Core.{the_view}
use Rattle.master_state.specs.Data.{MasterData}
use Rattle.versioned_map.specs.Command.{command_key}
use Rattle.master_state.specs.Images.{images_among}
use Rattle.master_state.specs.compactor.Places.{keys_in}
use Rattle.master_commands.proofs.Indexed.{IsMovedBy, moved_by}
use Rattle.master_state.specs.Invariant.{AreTallied, IsCore}
use Rattle.std.specs.Prelude.{IsSome}
use Rattle.std.proofs.lemmas.Result.{err_from_is_err_and}
use Rattle.master_state.proofs.Refusals.{sizes_of}
use Rattle.places.specs.Hashing.{hash_of}
use Rattle.master_commands.proofs.Changes.{put_is_some}
use Rattle.history.specs.Packing.{IsReplyTo}
use Rattle.history.specs.View.{shown_command, shown_reply, shown_record}
use Rattle.master_state.specs.Log.{state_now}
use Rattle.master_commands.proofs.Adding.{same_appended, image_appended, found_then, added, fits, may, added_core}
use Rattle.master_commands.proofs.Adding.{added_applies}
use Rattle.master_commands.proofs.Tallied.{change_tallied}
use Rattle.master_commands.proofs.applying.add.Goals as goal
use Rattle.master_commands.proofs.applying.add.Goals.{After-push, After-from_residual}

pub enact-requires-clause-fits : goal.enact-requires-clause-fits
enact-requires-clause-fits c =
    let d : MasterData = the_view c.core.inside in
    let command = shown_command c.args.accepted.now.command in
    let passed : command_refusal d command ≡ None = rw (← c.core.view_is) at c.requires.passed in
    let judged : IsJudged d command c.args.judged.now.change c.args.judged.now.held.place.segment =
    rw (← c.core.view_is) at c.requires.judged in
    fits d c.core.invariant.2 command c.args.judged.now.change c.args.judged.now.held.place.segment judged passed

-- ---- the core with the record, where memory was given

module _ (c : goal.After-push) where
  abbrev d : MasterData
  d = the_view c.core.inside

  abbrev command : Command
  command = shown_command c.args.accepted.now.command

  abbrev change : Change
  change = c.args.judged.now.change

  abbrev dead : ℕ
  dead = c.args.judged.now.held.place.segment

  passed : command_refusal d command ≡ None
  passed = rw (← c.core.view_is) at c.requires.passed

  judged : IsJudged d command change dead
  judged = rw (← c.core.view_is) at c.requires.judged

  reply : shown_reply c.args.accepted.now.reply ≡ reply_now d command
  reply = rw (← c.core.view_is) at c.requires.reply

  live : c.args.judged.now.live ≡ live_now d command
  live = rw (← c.core.view_is) at c.requires.live

  head_is : c.enact.new.head ≡ appended d.head (length d.history) (unit_of_change dead command change)
  head_is =
      c.in_ok-enact.ensures.head
      ∙ ap (λ (n : ℕ). appended d.head n (unit_of_change dead command change)) c.len-place.ensures

  head : IsHeadValue (appended d.head (length d.history) (unit_of_change dead command change))
  head = subst (λ (h : HeadValue). IsHeadValue h) head_is c.in_ok-enact.ensures.valid

  sought : IsSought d (command_key command) c.args.judged.now.held
  sought = rw (← c.core.view_is) at c.requires.sought

  moved : IsMovedBy (keys_in (images_among (appended d.head (length d.history) (unit_of_change dead command change))
      d.closed)) d.index
      change (command_key command) (record { segment = d.head.id; at = c.in_ok-enact.ensures.index.0 })
      c.enact.new.index.held
  moved =
      moved_by (keys_in (images_among (appended d.head (length d.history) (unit_of_change dead command change))
      d.closed)) d.index
      change (command_key command) c.args.judged.now.held.place
      (record { segment = d.head.id; at = c.in_ok-enact.ensures.index.0 })
      c.enact.new.index.held c.in_ok-enact.ensures.index.2
      (found_then d c.core.invariant.2 command change dead judged c.args.judged.now.held sought head)

  roll_then : c.enact.new.head.roll ≡ d.head.roll
  roll_then =
      ap (λ (h : HeadValue). h.roll) head_is
      ∙ (same_appended d.head (length d.history) (unit_of_change dead command change)).2

  items : c.push.new.self.records ≡ d.history ++ shown_record c.args.accepted.now ∷ []
  items = rw (c.push.ensures.records, c.enact.ensures.history) refl

  gone : c.push.new.self.forgotten ≡ d.forgotten
  gone = c.push.ensures.forgotten ∙ c.enact.ensures.forgotten

  abbrev e : MasterData
  e =
      let there = c.in_ok-enact.ensures.index in
      added d c.core.invariant.2 command change dead judged c.args.accepted.now.seat there.0 c.enact.new.index.held
      passed
      there.1 moved head

  abbrev left : MasterData
  left = record d {
    head = c.enact.new.head;
    index = c.enact.new.index.held;
    safe = c.safe_after-core-inside.result;
    history = c.push.new.self.records;
    forgotten = c.push.new.self.forgotten;
    live = c.args.judged.now.live;
  }

  abbrev with_reply : Reply → List Record
  with_reply r = d.history ++ record { seat = c.args.accepted.now.seat; command = command; reply = r } ∷ []

  knows : e ≡ left
  knows = λ i. record d {
    head = sym head_is i;
    index = c.enact.new.index.held;
    safe = sym c.safe_after-core-inside.ensures i;
    history = sym (items ∙ ap with_reply reply) i;
    forgotten = sym gone i;
    live = sym live i;
  }

  core : IsCore left
  core =
      let there = c.in_ok-enact.ensures.index in
      subst IsCore knows
      (added_core d c.core.invariant.2 command change dead judged c.args.accepted.now.seat there.0
      c.enact.new.index.held passed there.1 moved head)

  had : c.args.judged.now.had ≡ had_now d command
  had = rw (← c.core.view_is) at c.requires.had

  counted : IsCounted command change dead c.args.judged.now.had d.head.id c.core.inside.tallies c.count.new.tallies
  counted =
      let unit = unit_of_change dead command change in
      subst (λ (id : ℕ). IsCounted command change dead c.args.judged.now.had id c.core.inside.tallies
      c.count.new.tallies)
      (c.id-head.ensures.id ∙ ap (λ (h : HeadValue). h.id) head_is
      ∙ (same_appended d.head (length d.history) unit).0)
      c.count.ensures

  tallied : AreTallied left c.count.new.tallies
  tallied =
      let unit = unit_of_change dead command change in
      let same = same_appended d.head (length d.history) unit in
      let there = c.in_ok-enact.ensures.index in
      let was = c.args.judged.now.held in
      subst (λ (m : MasterData). AreTallied m c.count.new.tallies) knows
      (change_tallied d c.core.invariant.2 (appended d.head (length d.history) unit) unit same.0 same.2
      (image_appended d.head (length d.history) unit) head command change was.place there.0 c.args.judged.now.had
      c.enact.new.index.held c.core.inside.tallies c.count.new.tallies judged.change_of refl there.1 moved
      (found_then d c.core.invariant.2 command change dead judged was sought head) had counted c.core.invariant.4)

  applies : Applies d c.args.accepted.now.seat command (Applied (length d.history) (reply_now d command)) left
  applies =
      let there = c.in_ok-enact.ensures.index in
      let seat = c.args.accepted.now.seat in
      subst (λ (m : MasterData). Applies d seat command (Applied (length d.history) (reply_now d command)) m) knows
      (added_applies d c.core.invariant.2 command change dead judged seat there.0 c.enact.new.index.held passed
      there.1 moved head)

  may_apply : MayApplyNow d c.args.accepted.now.seat command
  may_apply =
      let there = c.in_ok-enact.ensures.index in
      may d c.core.invariant.2 command change dead judged c.args.accepted.now.seat there.0 c.enact.new.index.held passed
      there.1 moved head

pub invariant_of-core-2 : goal.invariant_of-core-2
invariant_of-core-2 c =
    let t = (goal.at.invariant_of-core-2 c).After-push in (
      λ some. c.core.invariant.0 (subst IsSome (roll_then t) some),
      c.core.invariant.1,
      core t,
      c.core.invariant.3,
      tallied t,
    )

pub returns-clause-added : goal.returns-clause-added
returns-clause-added c =
    let t = (goal.at.returns-clause-added c).After-push in
    let number : c.len-place.result ≡ length (d t).history = search rules in
    let seat = c.args.accepted.now.seat in
    rw (← c.core.view_is)
    (subst (λ (n : ℕ). Applies (d t) seat (command t) (Applied n (reply_now (d t) (command t))) (left t))
    (sym number) (applies t))

pub returns-clause-may : goal.returns-clause-may
returns-clause-may c =
    let t = (goal.at.returns-clause-may c).After-push in
    subst (λ (m : MasterData). MayApplyNow m c.args.accepted.now.seat (command t)) c.core.view_is (may_apply t)

pub returns-clause-valid : goal.returns-clause-valid
returns-clause-valid c = core (goal.at.returns-clause-valid c).After-push

-- ---- the core as it was, where memory was refused

module _ (c : goal.After-from_residual) where
  abbrev was : MasterData
  was = the_view c.core.inside

  unchanged : was ≡ record was {
    head = c.enact.new.head;
    index = c.enact.new.index.held;
    history = c.enact.new.history.records;
    forgotten = c.enact.new.history.forgotten;
  }
  unchanged =
      let kept = c.in_err-enact.ensures.err in
      let history = c.in_err-enact.ensures.history in
      let gone = c.in_err-enact.ensures.forgotten in
      λ i. record was { head = sym kept.0 i; index = sym kept.1 i; history = sym history i; forgotten = sym gone i }

pub invariant_of-core : goal.invariant_of-core
invariant_of-core c = (
  subst (λ (h : HeadValue). IsSome h.roll → length c.core.inside.closed.images < c.core.inside.closed.room)
      (sym c.in_err-enact.ensures.err.0)
      c.core.invariant.0,
  c.core.invariant.1,
  subst IsCore (unchanged c) c.core.invariant.2,
  c.core.invariant.3,
  subst (λ (m : MasterData). AreTallied m c.core.inside.tallies) (unchanged c) c.core.invariant.4,
)

pub returns-in_err-enact-clause-refused : goal.returns-in_err-enact-clause-refused
returns-in_err-enact-clause-refused c =
    let failed = err_from_is_err_and c.from_residual.result c.from_residual.ensures.1 in
    rw failed.1 (sym (unchanged c) ∙ c.core.view_is)

pub enact-requires-clause-limit : goal.enact-requires-clause-limit
enact-requires-clause-limit c = (sizes_of c.core.inside.config c.core.invariant.2.config).most_segment

pub enact-requires-clause-hash : goal.enact-requires-clause-hash
enact-requires-clause-hash c =
    c.requires.sought.hash
    ∙ ap (λ (m : MasterData). hash_of m.index.seed (command_key (shown_command c.args.accepted.now.command)))
    (sym c.core.view_is)

pub enact-requires-clause-put : goal.enact-requires-clause-put
enact-requires-clause-put c = λ of_put.
    let change = c.args.judged.now.change in
    let dead = c.args.judged.now.held.place.segment in
    let change_of = c.requires.judged.change_of in
    ap is_empty (change_of.unit dead) ∙ sym (change_of.nothing dead) ∙ put_is_some change of_put

pub push-requires-clause-value : goal.push-requires-clause-value
push-requires-clause-value c =
    subst (λ (r : Reply). IsReplyTo (shown_command c.args.accepted.now.command) r) (sym c.requires.reply)
    (c.replies_have_one_value.ensures (state_now c.args.core.now) (shown_command c.args.accepted.now.command))
