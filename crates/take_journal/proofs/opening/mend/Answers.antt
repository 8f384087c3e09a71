use Rattle.take_journal.proofs.Appending.{unfailed}
use Rattle.take_journal.proofs.Mending.{after_all, after_close, after_cut, after_first_sync, at_end, is_settled}
use Rattle.take_journal.proofs.Mending.{same_texts}
use Rattle.take_journal.proofs.Tearing.{within}
use Rattle.take_journal.proofs.opening.mend.Goals as goal

pub cut-requires : goal.cut-requires
cut-requires g c =
    within (g.D.Device.contents c.args.device.now) c.requires.left c.args.at c.requires.place

pub write_at-requires : goal.write_at-requires
write_at-requires g c =
    at_end g.D.Device.contents g.D.Device.may_leave g.D.Device.clock g.D.Device.left_since g.D.Device.has_failed
    g.met.D.Device.just_now
    c.args.device.now c.requires.durable c.requires.left c.args.at c.requires.place
    c.cut.new.self c.cut.ensures.crash c.cut.ensures.time
    c.sync.new.self c.sync.ensures.crash c.sync.ensures.time
    c.in_ok-cut.ensures.cut c.sync.ensures.same c.in_ok-sync.ensures.durable

pub returns-in_err-cut-clause-any_moment : goal.returns-in_err-cut-clause-any_moment
returns-in_err-cut-clause-any_moment g c =
    after_cut g.D.Device.contents g.D.Device.may_leave g.D.Device.clock g.D.Device.left_since g.D.Device.has_failed
    g.met.D.Device.just_now
    c.args.device.now c.requires.durable c.requires.left c.args.at c.requires.place
    c.cut.new.self c.cut.ensures.crash c.cut.ensures.time

pub returns-in_err-sync-clause-any_moment : goal.returns-in_err-sync-clause-any_moment
returns-in_err-sync-clause-any_moment g c =
    after_first_sync g.D.Device.contents g.D.Device.may_leave g.D.Device.clock g.D.Device.left_since
    g.D.Device.has_failed g.met.D.Device.just_now
    c.args.device.now c.requires.durable c.requires.left c.args.at c.requires.place
    c.cut.new.self c.cut.ensures.crash c.cut.ensures.time
    c.sync.new.self c.sync.ensures.crash c.sync.ensures.time

pub returns-in_err-write_at-clause-any_moment : goal.returns-in_err-write_at-clause-any_moment
returns-in_err-write_at-clause-any_moment g c =
    after_close g.D.Device.contents g.D.Device.may_leave g.D.Device.clock g.D.Device.left_since g.D.Device.has_failed
    g.met.D.Device.just_now
    c.args.device.now c.requires.durable c.requires.left c.args.at c.requires.place
    c.cut.new.self c.cut.ensures.crash c.cut.ensures.time
    c.sync.new.self c.sync.ensures.crash c.sync.ensures.time
    c.in_ok-cut.ensures.cut c.sync.ensures.same c.in_ok-sync.ensures.durable
    c.write_at.new.self c.write_at.ensures.crash c.write_at.ensures.time

pub returns-in_err-sync-2-clause-any_moment : goal.returns-in_err-sync-2-clause-any_moment
returns-in_err-sync-2-clause-any_moment g c =
    after_all g.D.Device.contents g.D.Device.may_leave g.D.Device.clock g.D.Device.left_since g.D.Device.has_failed
    g.met.D.Device.just_now
    c.args.device.now c.requires.durable c.requires.left c.args.at c.requires.place
    c.cut.new.self c.cut.ensures.crash c.cut.ensures.time
    c.sync.new.self c.sync.ensures.crash c.sync.ensures.time
    c.in_ok-cut.ensures.cut c.sync.ensures.same c.in_ok-sync.ensures.durable
    c.write_at.new.self c.write_at.ensures.crash c.write_at.ensures.time
    c.sync-2.new.self c.sync-2.ensures.crash c.sync-2.ensures.time

pub returns-clause-any_moment : goal.returns-clause-any_moment
returns-clause-any_moment g c =
    after_all g.D.Device.contents g.D.Device.may_leave g.D.Device.clock g.D.Device.left_since g.D.Device.has_failed
    g.met.D.Device.just_now
    c.args.device.now c.requires.durable c.requires.left c.args.at c.requires.place
    c.cut.new.self c.cut.ensures.crash c.cut.ensures.time
    c.sync.new.self c.sync.ensures.crash c.sync.ensures.time
    c.in_ok-cut.ensures.cut c.sync.ensures.same c.in_ok-sync.ensures.durable
    c.write_at.new.self c.write_at.ensures.crash c.write_at.ensures.time
    c.sync-2.new.self c.sync-2.ensures.crash c.sync-2.ensures.time

pub returns-clause-texts : goal.returns-clause-texts
returns-clause-texts g c =
    same_texts g.D.Device.contents g.D.Device.may_leave g.D.Device.clock g.D.Device.left_since g.D.Device.has_failed
    g.met.D.Device.just_now
    c.args.device.now c.requires.durable c.requires.left c.args.at c.requires.place
    c.cut.new.self c.cut.ensures.crash c.cut.ensures.time
    c.sync.new.self c.sync.ensures.crash c.sync.ensures.time
    c.in_ok-cut.ensures.cut c.sync.ensures.same c.in_ok-sync.ensures.durable
    c.write_at.new.self c.write_at.ensures.crash c.write_at.ensures.time
    c.sync-2.new.self c.sync-2.ensures.crash c.sync-2.ensures.time
    c.in_ok-write_at.ensures.written c.sync-2.ensures.same c.in_ok-sync-2.ensures.durable

pub returns-clause-settled : goal.returns-clause-settled
returns-clause-settled g c =
    let ok1 = unfailed _ _ c.requires.unfailed c.in_ok-cut.ensures.failure in
    let ok2 = unfailed _ _ ok1 c.in_ok-sync.ensures.failure in
    let ok3 = unfailed _ _ ok2 c.in_ok-write_at.ensures.failure in
    is_settled g.D.Device.contents g.D.Device.may_leave g.D.Device.clock g.D.Device.left_since g.D.Device.has_failed
    g.met.D.Device.just_now
    c.args.device.now c.requires.durable c.requires.left c.args.at c.requires.place
    c.cut.new.self c.cut.ensures.crash c.cut.ensures.time
    c.sync.new.self c.sync.ensures.crash c.sync.ensures.time
    c.in_ok-cut.ensures.cut c.sync.ensures.same c.in_ok-sync.ensures.durable
    c.write_at.new.self c.write_at.ensures.crash c.write_at.ensures.time
    c.sync-2.new.self c.sync-2.ensures.crash c.sync-2.ensures.time
    c.in_ok-write_at.ensures.written c.sync-2.ensures.same c.in_ok-sync-2.ensures.durable
    (unfailed _ _ ok3 c.in_ok-sync-2.ensures.failure)
