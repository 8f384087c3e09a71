use Rattle.std.proofs.Common.{◌≡◌, ℕ, None, true, false, sym, ap, subst, ◌∙◌}
use Rattle.std.specs.Prelude.{Option}
use Rattle.std.specs.Result.{result_err}
use Rattle.std.proofs.lemmas.Result.{err_from_is_err_and}
use Rattle.entry.specs.Meaning.{Versioned}
use Rattle.history.specs.View.{shown_command}
use Rattle.places.specs.Hashing.{hash_of}
use Rattle.versioned_map.specs.Versioned.{is_spent}
use Rattle.master_state.specs.Causes.{early_refusal, is_overcommitted, live_now}
use Rattle.master_state.specs.Data.{MasterData}
use Rattle.master_state.specs.Live.{bytes_of}
use Rattle.versioned_map.specs.Command.{command_key}
use Rattle.versioned_map.specs.declared.command.Command.{Command}
use Rattle.master_commands.specs.declared.change.Change.{Change}
use Rattle.master_commands.specs.Change.{version_in, found_at, live_of_change, IsChangeOf, IsChangeNow}
use Rattle.master_state.specs.Index.{segment_at}
use Rattle.master_state.specs.Log.{held_now, state_now, images_of}
use Rattle.master_commands.proofs.Found.{stands_found}
use Rattle.master_state.proofs.Refusals.{refused_early, refused_spent, refused_over, refused_late}
use Rattle.master_commands.proofs.judging.judge.Goals as goal

pub returns-in_err-admit-clause-refused : goal.returns-in_err-admit-clause-refused
returns-in_err-admit-clause-refused c =
    let failed = err_from_is_err_and c.from_residual.result c.from_residual.ensures.1 in
    rw (failed.1, failed.2) (refused_early c.args.core.now (shown_command c.args.command.now) c.in_err-admit.field-0.0
    (sym c.admit.ensures ∙ ap result_err c.in_err-admit.was))

pub returns-in_default-clause-refused : goal.returns-in_default-clause-refused
returns-in_default-clause-refused c =
    let d = c.args.core.now in
    let k = shown_command c.args.command.now in
    let version : version_in (held_now d k) ≡ c.version_of.result =
    sym (c.version_of.ensures ∙ ap (λ (y : Option Versioned). version_in y) c.look_up-found.ensures.object) in
    let safe : c.core.inside.safe ≡ (state_now d).safe = rw (← c.core.view_is) c.core.invariant.2.index.safe in
    let early : early_refusal d k ≡ None = sym c.admit.ensures ∙ ap result_err c.in_ok-admit.was in
    let spent : is_spent (state_now d).safe (held_now d k) k ≡ true =
    subst (λ (s : ℕ). is_spent s (held_now d k) k ≡ true) safe (c.in_default.ensures.spent (held_now d k) version) in
    refused_spent d k early spent

-- the bytes of the live objects once the command is done
live_then : (d : MasterData) (k : Command) (change : Change) (n had live : ℕ) → IsChangeNow d k change → n ≡ d.live
    → had ≡ bytes_of (command_key k) (held_now d k) → live ≡ live_of_change n had k change → live ≡ live_now d k
live_then d k change n had live is same has made =
    made ∙ (λ i. live_of_change (same i) (has i) k change) ∙ is.live d.live

pub returns-in_err-fit-clause-refused : goal.returns-in_err-fit-clause-refused
returns-in_err-fit-clause-refused c =
    let d = c.args.core.now in
    let k = shown_command c.args.command.now in
    let failed = err_from_is_err_and c.from_residual-in_err-fit.result c.from_residual-in_err-fit.ensures.1 in
    let version : version_in (held_now d k) ≡ c.version_of.result =
    sym (c.version_of.ensures ∙ ap (λ (y : Option Versioned). version_in y) c.look_up-found.ensures.object) in
    let safe : c.core.inside.safe ≡ (state_now d).safe = rw (← c.core.view_is) c.core.invariant.2.index.safe in
    let early : early_refusal d k ≡ None = sym c.admit.ensures ∙ ap result_err c.in_ok-admit.was in
    let is : IsChangeNow d k c.in-Ok.change =
    subst (λ (s : ℕ). IsChangeOf s (held_now d k) k c.in-Ok.change) safe
    (c.in-Ok.ensures.done (held_now d k) version) in
    let live = live_then d k c.in-Ok.change c.core.inside.live c.bytes_of-had.result c.live_after-live.result is
    (ap (λ (m : MasterData). m.live) c.core.view_is)
    (c.bytes_of-had.ensures ∙ ap (bytes_of (command_key k)) c.look_up-found.ensures.object) c.live_after-live.ensures in
    let within : is_overcommitted d (live_now d k) ≡ false =
    ap (is_overcommitted d) (sym live) ∙ sym c.is_overcommitted.ensures ∙ c.if-is_overcommitted.false in
    rw (failed.1, failed.2) (refused_late d k _ early is.not_spent within
    (sym (c.fit.ensures is) ∙ ap result_err c.in_err-fit.was))

pub returns-clause-passed : goal.returns-clause-passed
returns-clause-passed c =
    let d = c.args.core.now in
    let k = shown_command c.args.command.now in
    let version : version_in (held_now d k) ≡ c.version_of.result =
    sym (c.version_of.ensures ∙ ap (λ (y : Option Versioned). version_in y) c.look_up-found.ensures.object) in
    let safe : c.core.inside.safe ≡ (state_now d).safe = rw (← c.core.view_is) c.core.invariant.2.index.safe in
    let early : early_refusal d k ≡ None = sym c.admit.ensures ∙ ap result_err c.in_ok-admit.was in
    let is : IsChangeNow d k c.in-Ok.change =
    subst (λ (s : ℕ). IsChangeOf s (held_now d k) k c.in-Ok.change) safe
    (c.in-Ok.ensures.done (held_now d k) version) in
    let live = live_then d k c.in-Ok.change c.core.inside.live c.bytes_of-had.result c.live_after-live.result is
    (ap (λ (m : MasterData). m.live) c.core.view_is)
    (c.bytes_of-had.ensures ∙ ap (bytes_of (command_key k)) c.look_up-found.ensures.object) c.live_after-live.ensures in
    let within : is_overcommitted d (live_now d k) ≡ false =
    ap (is_overcommitted d) (sym live) ∙ sym c.is_overcommitted.ensures ∙ c.if-is_overcommitted.false in
    refused_late d k None early is.not_spent within (sym (c.fit.ensures is) ∙ ap result_err c.in_ok-fit.was)

pub returns-clause-judged : goal.returns-clause-judged
returns-clause-judged c =
    let d = c.args.core.now in
    let k = shown_command c.args.command.now in
    let version : version_in (held_now d k) ≡ c.version_of.result =
    sym (c.version_of.ensures ∙ ap (λ (y : Option Versioned). version_in y) c.look_up-found.ensures.object) in
    let safe : c.core.inside.safe ≡ (state_now d).safe = rw (← c.core.view_is) c.core.invariant.2.index.safe in
    let is : IsChangeNow d k c.in-Ok.change =
    subst (λ (s : ℕ). IsChangeOf s (held_now d k) k c.in-Ok.change) safe
    (c.in-Ok.ensures.done (held_now d k) version) in
    record { lies = c.place_of-place.ensures.segment ∙ ap segment_at c.look_up-found.ensures.place; change_of = is }

pub returns-clause-had : goal.returns-clause-had
returns-clause-had c =
    let k = shown_command c.args.command.now in
    c.bytes_of-had.ensures ∙ ap (bytes_of (command_key k)) c.look_up-found.ensures.object

pub returns-clause-live : goal.returns-clause-live
returns-clause-live c =
    let d = c.args.core.now in
    let k = shown_command c.args.command.now in
    let version : version_in (held_now d k) ≡ c.version_of.result =
    sym (c.version_of.ensures ∙ ap (λ (y : Option Versioned). version_in y) c.look_up-found.ensures.object) in
    let safe : c.core.inside.safe ≡ (state_now d).safe = rw (← c.core.view_is) c.core.invariant.2.index.safe in
    let is : IsChangeNow d k c.in-Ok.change =
    subst (λ (s : ℕ). IsChangeOf s (held_now d k) k c.in-Ok.change) safe
    (c.in-Ok.ensures.done (held_now d k) version) in
    live_then d k c.in-Ok.change c.core.inside.live c.bytes_of-had.result c.live_after-live.result is
    (ap (λ (m : MasterData). m.live) c.core.view_is)
    (c.bytes_of-had.ensures ∙ ap (bytes_of (command_key k)) c.look_up-found.ensures.object) c.live_after-live.ensures

pub returns-then-is_overcommitted-clause-refused : goal.returns-then-is_overcommitted-clause-refused
returns-then-is_overcommitted-clause-refused c =
    let d = c.args.core.now in
    let k = shown_command c.args.command.now in
    let version : version_in (held_now d k) ≡ c.version_of.result =
    sym (c.version_of.ensures ∙ ap (λ (y : Option Versioned). version_in y) c.look_up-found.ensures.object) in
    let safe : c.core.inside.safe ≡ (state_now d).safe = rw (← c.core.view_is) c.core.invariant.2.index.safe in
    let is : IsChangeNow d k c.in-Ok.change =
    subst (λ (s : ℕ). IsChangeOf s (held_now d k) k c.in-Ok.change) safe
    (c.in-Ok.ensures.done (held_now d k) version) in
    let early : early_refusal d k ≡ None = sym c.admit.ensures ∙ ap result_err c.in_ok-admit.was in
    let live =
    live_then d k c.in-Ok.change c.core.inside.live c.bytes_of-had.result c.live_after-live.result is
    (ap (λ (m : MasterData). m.live) c.core.view_is)
    (c.bytes_of-had.ensures ∙ ap (bytes_of (command_key k)) c.look_up-found.ensures.object) c.live_after-live.ensures in
    let over : is_overcommitted d (live_now d k) ≡ true =
    ap (is_overcommitted d) (sym live) ∙ sym c.is_overcommitted.ensures ∙ c.if-is_overcommitted.true in
    refused_over d k early is.not_spent over

pub returns-clause-present : goal.returns-clause-present
returns-clause-present c =
    let d = c.args.core.now in
    let k = shown_command c.args.command.now in
    let object = c.look_up-found.ensures.object in
    let version = c.version_of-2.ensures ∙ ap (λ (y : Option Versioned). version_in y) object in
    record {
      version = sym version;
      stands = subst (λ (v : Option ℕ). found_at (images_of d) v c.place_of-place.result ≡ held_now d k)
          (sym c.version_of-2.ensures)
          (stands_found (images_of d) c.look_up-found.result c.place_of-place.result c.look_up-found.ensures.there
          c.place_of-place.ensures.place ∙ object);
    }

pub returns-clause-sought : goal.returns-clause-sought
returns-clause-sought c = record {
  hash = c.hash-hash.ensures ∙ (λ i. hash_of (c.core.view_is i).index.seed (c.key_of.ensures i));
  place = λ p is. c.place_of-place.ensures.place p (c.look_up-found.ensures.place ∙ is);
}
