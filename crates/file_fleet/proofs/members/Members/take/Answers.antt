use Rattle.std.proofs.Common.{◌≡◌, true, Some, inl, refl, sym, ◌∙◌, subst}
use Rattle.std.specs.List.{slice_get}
use Rattle.std.proofs.lemmas.Bool.{false≢true}
use Rattle.std.proofs.lemmas.Option.{slice_get_read}
use Rattle.file_backup.specs.Mirror.{is_out}
use Rattle.replica.specs.Op.{shown_op}
use Rattle.file_fleet.specs.Files.{with_span}
use Rattle.file_fleet.specs.declared.registry.Span.TheVariants.{First}
use Rattle.file_fleet.specs.Moments.{LeavesEither}
use Rattle.file_fleet.proofs.Kept.{first_show, for_err, for_ok, kept_after, kept_ended, nothing_leaves, on_fault}
use Rattle.file_fleet.proofs.Kept.{on_ok}
use Rattle.file_fleet.proofs.Kept.{registry_still, take_leaves, went_on}
use Rattle.file_fleet.proofs.Pictures.{misses_on, same_picture, takes_on}
use Rattle.file_fleet.proofs.members.Members.take.Goals as goal

pub returns-then-self-clause-any_moment : goal.returns-then-self-clause-any_moment
returns-then-self-clause-any_moment g c goes_on =
    nothing_leaves g.D.Device.contents g.D.Device.may_leave g.D.Device.has_failed g.R.FleetRegistry.noted
    g.R.FleetRegistry.is_sound g.D.Device.clock g.D.Device.left_since g.met.D.Device.just_now
    g.R.FleetRegistry.time g.R.FleetRegistry.left_of g.R.FleetRegistry.leaves g.met.R.FleetRegistry.just_now
    g.met.R.FleetRegistry.just_kept c.args.self.now _ (c.requires.safe goes_on) refl refl c.args.backup
    (shown_op c.args.op.now)

pub returns-in_default-clause-any_moment : goal.returns-in_default-clause-any_moment
returns-in_default-clause-any_moment g c goes_on =
    nothing_leaves g.D.Device.contents g.D.Device.may_leave g.D.Device.has_failed g.R.FleetRegistry.noted
    g.R.FleetRegistry.is_sound g.D.Device.clock g.D.Device.left_since g.met.D.Device.just_now
    g.R.FleetRegistry.time g.R.FleetRegistry.left_of g.R.FleetRegistry.leaves g.met.R.FleetRegistry.just_now
    g.met.R.FleetRegistry.just_kept c.args.self.now _ (c.requires.safe goes_on) refl refl c.args.backup
    (shown_op c.args.op.now)

pub take-answer-requires-clause-member : goal.take-answer-requires-clause-member
take-answer-requires-clause-member g c =
    let list = c.args.self.now.list in
    let found = c.in-Some.ensures in
    let at : slice_get list.items c.args.backup ≡ Some c.in-Some.member.now =
    slice_get_read _ _ c.args.backup _ list.ok.0 (found.variant.0 refl) found.value in
    ((c.requires.safe c.if-self.false).each c.args.backup c.in-Some.member.now at).0

pub take-answer-requires-clause-goes_on : goal.take-answer-requires-clause-goes_on
take-answer-requires-clause-goes_on g c =
    let list = c.args.self.now.list in
    let found = c.in-Some.ensures in
    let at : slice_get list.items c.args.backup ≡ Some c.in-Some.member.now =
    slice_get_read _ _ c.args.backup _ list.ok.0 (found.variant.0 refl) found.value in
    went_on list.items c.args.backup c.in-Some.member.now at (λ out. false≢true (c.if-is_out_at.ensures.1 out))

pub returns-then-is_out-clause-safe : goal.returns-then-is_out-clause-safe
returns-then-is_out-clause-safe g c noted =
    let list = c.args.self.now.list in
    let registry = c.args.self.now.registry in
    let member = c.in-Some.member.now in
    let found = c.in-Some.ensures in
    let at : slice_get list.items c.args.backup ≡ Some member =
    slice_get_read _ _ c.args.backup _ list.ok.0 (found.variant.0 refl) found.value in
    let wrote = sym c.is_err-self.ensures.value ∙ noted in
    let out : is_out c.take-answer.new.self.backup ≡ true = sym c.is_out.ensures ∙ c.if-is_out.true in
    let failed = c.take-answer.ensures.out out in
    kept_ended g.D.Device.contents g.D.Device.may_leave g.D.Device.has_failed g.R.FleetRegistry.noted
    g.R.FleetRegistry.is_sound list.items registry c.end_journal.new.self c.args.backup member c.take-answer.new.self
    c.take-answer.new.self.frames (c.requires.safe c.if-self.false) at c.take-answer.ensures.member out
    (on_ok c.end_journal.result _ wrote c.end_journal.ensures.sound)
    (on_ok c.end_journal.result _ wrote c.end_journal.ensures.ended)
    (first_show g.D.Device.contents g.D.Device.may_leave g.D.Device.has_failed g.R.FleetRegistry.noted
    g.R.FleetRegistry.is_sound g.D.Device.clock g.D.Device.left_since g.met.D.Device.just_now
    g.R.FleetRegistry.time g.R.FleetRegistry.left_of member c.take-answer.new.self c.take-answer.new.self.frames
    (on_fault c.take-answer.result _ failed c.take-answer.ensures.frames)
    (on_fault c.take-answer.result _ failed c.take-answer.ensures.refused)
    c.take-answer.ensures.first g.met.D.Device.counts_now) c.take-answer.ensures.id

pub returns-then-is_out-clause-refused : goal.returns-then-is_out-clause-refused
returns-then-is_out-clause-refused g c =
    let list = c.args.self.now.list in
    let found = c.in-Some.ensures in
    let at : slice_get list.items c.args.backup ≡ Some c.in-Some.member.now =
    slice_get_read _ _ c.args.backup _ list.ok.0 (found.variant.0 refl) found.value in
    same_picture list.items c.args.backup c.in-Some.member.now c.take-answer.new.self at
    (on_fault c.take-answer.result _ (c.take-answer.ensures.out (sym c.is_out.ensures ∙ c.if-is_out.true))
    c.take-answer.ensures.refused)

pub returns-then-is_out-clause-any_moment : goal.returns-then-is_out-clause-any_moment
returns-then-is_out-clause-any_moment g c goes_on =
    let list = c.args.self.now.list in
    let registry = c.args.self.now.registry in
    let found = c.in-Some.ensures in
    let at : slice_get list.items c.args.backup ≡ Some c.in-Some.member.now =
    slice_get_read _ _ c.args.backup _ list.ok.0 (found.variant.0 refl) found.value in
    let failed = c.take-answer.ensures.out (sym c.is_out.ensures ∙ c.if-is_out.true) in
    let either : LeavesEither g.R.FleetRegistry.noted g.R.FleetRegistry.time g.R.FleetRegistry.left_of
    (with_span (g.R.FleetRegistry.noted registry) c.args.backup (First c.in-Some.member.now.frames)) registry
    c.end_journal.new.self =
    subst (λ n. LeavesEither g.R.FleetRegistry.noted g.R.FleetRegistry.time g.R.FleetRegistry.left_of
    (with_span (g.R.FleetRegistry.noted registry) c.args.backup (First n)) registry c.end_journal.new.self)
    (on_fault c.take-answer.result _ failed c.take-answer.ensures.frames) c.end_journal.ensures.any_moment in
    take_leaves g.D.Device.contents g.D.Device.may_leave g.D.Device.has_failed g.R.FleetRegistry.noted
    g.R.FleetRegistry.is_sound g.D.Device.clock g.D.Device.left_since g.met.D.Device.just_now
    g.R.FleetRegistry.time g.R.FleetRegistry.left_of c.args.self.now _ (c.requires.safe goes_on) c.args.backup
    c.in-Some.member.now c.take-answer.new.self at refl (shown_op c.args.op.now)
    (went_on list.items c.args.backup c.in-Some.member.now at (λ out. false≢true (c.if-is_out_at.ensures.1 out)))
    c.take-answer.ensures.any_moment c.take-answer.ensures.first either.each

pub returns-clause-safe : goal.returns-clause-safe
returns-clause-safe g c goes_on =
    let list = c.args.self.now.list in
    let found = c.in-Some.ensures in
    let at : slice_get list.items c.args.backup ≡ Some c.in-Some.member.now =
    slice_get_read _ _ c.args.backup _ list.ok.0 (found.variant.0 refl) found.value in
    kept_after g.D.Device.contents g.D.Device.may_leave g.D.Device.has_failed g.R.FleetRegistry.noted
    g.R.FleetRegistry.is_sound list.items c.args.self.now.registry c.args.backup c.in-Some.member.now
    c.take-answer.new.self
    (c.requires.safe goes_on) at c.take-answer.ensures.member
    (went_on list.items c.args.backup c.in-Some.member.now at (λ out. false≢true (c.if-is_out_at.ensures.1 out)))
    (sym c.is_out.ensures ∙ c.if-is_out.false) c.take-answer.ensures.id

pub returns-clause-taken : goal.returns-clause-taken
returns-clause-taken g c =
    let list = c.args.self.now.list in
    let found = c.in-Some.ensures in
    let at : slice_get list.items c.args.backup ≡ Some c.in-Some.member.now =
    slice_get_read _ _ c.args.backup _ list.ok.0 (found.variant.0 refl) found.value in
    for_ok c.take-answer.result _ _ (takes_on list.items c.args.backup c.in-Some.member.now c.take-answer.new.self at
    (shown_op c.args.op.now)) c.take-answer.ensures.taken

pub returns-clause-refused : goal.returns-clause-refused
returns-clause-refused g c =
    let list = c.args.self.now.list in
    let found = c.in-Some.ensures in
    let at : slice_get list.items c.args.backup ≡ Some c.in-Some.member.now =
    slice_get_read _ _ c.args.backup _ list.ok.0 (found.variant.0 refl) found.value in
    for_err c.take-answer.result _ _ (same_picture list.items c.args.backup c.in-Some.member.now c.take-answer.new.self
    at)
    c.take-answer.ensures.refused

pub returns-clause-wrong : goal.returns-clause-wrong
returns-clause-wrong g c is =
    let list = c.args.self.now.list in
    let found = c.in-Some.ensures in
    let at : slice_get list.items c.args.backup ≡ Some c.in-Some.member.now =
    slice_get_read _ _ c.args.backup _ list.ok.0 (found.variant.0 refl) found.value in
    misses_on list.items c.args.backup c.in-Some.member.now c.take-answer.new.self at (shown_op c.args.op.now)
    (c.take-answer.ensures.wrong is)

pub returns-clause-any_moment : goal.returns-clause-any_moment
returns-clause-any_moment g c goes_on =
    let list = c.args.self.now.list in
    let registry = c.args.self.now.registry in
    let found = c.in-Some.ensures in
    let at : slice_get list.items c.args.backup ≡ Some c.in-Some.member.now =
    slice_get_read _ _ c.args.backup _ list.ok.0 (found.variant.0 refl) found.value in
    take_leaves g.D.Device.contents g.D.Device.may_leave g.D.Device.has_failed g.R.FleetRegistry.noted
    g.R.FleetRegistry.is_sound g.D.Device.clock g.D.Device.left_since g.met.D.Device.just_now
    g.R.FleetRegistry.time g.R.FleetRegistry.left_of c.args.self.now _ (c.requires.safe goes_on) c.args.backup
    c.in-Some.member.now c.take-answer.new.self at refl (shown_op c.args.op.now)
    (went_on list.items c.args.backup c.in-Some.member.now at (λ out. false≢true (c.if-is_out_at.ensures.1 out)))
    c.take-answer.ensures.any_moment c.take-answer.ensures.first
    (λ left of_it. inl (registry_still g.D.Device.contents g.D.Device.may_leave g.D.Device.has_failed
    g.R.FleetRegistry.noted g.R.FleetRegistry.is_sound g.D.Device.clock g.D.Device.left_since g.met.D.Device.just_now
    g.R.FleetRegistry.time g.R.FleetRegistry.left_of g.R.FleetRegistry.leaves g.met.R.FleetRegistry.just_now
    g.met.R.FleetRegistry.just_kept registry (c.requires.safe goes_on).registry_is left of_it))
