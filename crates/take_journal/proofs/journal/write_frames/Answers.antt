use Rattle.std.proofs.lemmas.List.{take_rest}
use Rattle.take_journal.proofs.Appending.{after_all, after_gate, after_sync, after_write, is_settled, texts_are}
use Rattle.take_journal.proofs.Appending.{unfailed}
use Rattle.take_journal.proofs.journal.write_frames.Goals as goal

pub returns-in_err-write_at-clause-any_moment : goal.returns-in_err-write_at-clause-any_moment
returns-in_err-write_at-clause-any_moment g c =
    after_write g.D.Device.contents g.D.Device.may_leave g.D.Device.clock g.D.Device.left_since g.D.Device.has_failed
    g.met.D.Device.just_now
    c.args.device.now c.args.end c.requires.settled c.args.frames.now c.requires.batch _ (take_rest c.args.frames.now 1)
    c.write_at.new.self c.write_at.ensures.crash c.write_at.ensures.time

pub returns-in_err-sync-clause-any_moment : goal.returns-in_err-sync-clause-any_moment
returns-in_err-sync-clause-any_moment g c =
    after_sync g.D.Device.contents g.D.Device.may_leave g.D.Device.clock g.D.Device.left_since g.D.Device.has_failed
    g.met.D.Device.just_now
    c.args.device.now c.args.end c.requires.settled c.args.frames.now c.requires.batch _ (take_rest c.args.frames.now 1)
    c.write_at.new.self c.write_at.ensures.crash c.write_at.ensures.time
    c.sync.new.self c.sync.ensures.crash c.sync.ensures.time

pub returns-in_err-write_at-2-clause-any_moment : goal.returns-in_err-write_at-2-clause-any_moment
returns-in_err-write_at-2-clause-any_moment g c =
    after_gate g.D.Device.contents g.D.Device.may_leave g.D.Device.clock g.D.Device.left_since g.D.Device.has_failed
    g.met.D.Device.just_now
    c.args.device.now c.args.end c.requires.settled c.args.frames.now c.requires.batch _ (take_rest c.args.frames.now 1)
    c.write_at.new.self c.write_at.ensures.crash c.write_at.ensures.time
    c.sync.new.self c.sync.ensures.crash c.sync.ensures.time
    c.in_ok-write_at.ensures.written c.sync.ensures.same c.in_ok-sync.ensures.durable
    c.write_at-2.new.self c.write_at-2.ensures.crash c.write_at-2.ensures.time

pub returns-in_err-sync-2-clause-any_moment : goal.returns-in_err-sync-2-clause-any_moment
returns-in_err-sync-2-clause-any_moment g c =
    after_all g.D.Device.contents g.D.Device.may_leave g.D.Device.clock g.D.Device.left_since g.D.Device.has_failed
    g.met.D.Device.just_now
    c.args.device.now c.args.end c.requires.settled c.args.frames.now c.requires.batch _ (take_rest c.args.frames.now 1)
    c.write_at.new.self c.write_at.ensures.crash c.write_at.ensures.time
    c.sync.new.self c.sync.ensures.crash c.sync.ensures.time
    c.in_ok-write_at.ensures.written c.sync.ensures.same c.in_ok-sync.ensures.durable
    c.write_at-2.new.self c.write_at-2.ensures.crash c.write_at-2.ensures.time
    c.sync-2.new.self c.sync-2.ensures.crash c.sync-2.ensures.time

pub returns-clause-any_moment : goal.returns-clause-any_moment
returns-clause-any_moment g c =
    after_all g.D.Device.contents g.D.Device.may_leave g.D.Device.clock g.D.Device.left_since g.D.Device.has_failed
    g.met.D.Device.just_now
    c.args.device.now c.args.end c.requires.settled c.args.frames.now c.requires.batch _ (take_rest c.args.frames.now 1)
    c.write_at.new.self c.write_at.ensures.crash c.write_at.ensures.time
    c.sync.new.self c.sync.ensures.crash c.sync.ensures.time
    c.in_ok-write_at.ensures.written c.sync.ensures.same c.in_ok-sync.ensures.durable
    c.write_at-2.new.self c.write_at-2.ensures.crash c.write_at-2.ensures.time
    c.sync-2.new.self c.sync-2.ensures.crash c.sync-2.ensures.time

pub returns-clause-texts : goal.returns-clause-texts
returns-clause-texts g c =
    texts_are g.D.Device.contents g.D.Device.may_leave g.D.Device.clock g.D.Device.left_since g.D.Device.has_failed
    g.met.D.Device.just_now
    c.args.device.now c.args.end c.requires.settled c.args.frames.now c.requires.batch _ (take_rest c.args.frames.now 1)
    c.write_at.new.self c.write_at.ensures.crash c.write_at.ensures.time
    c.sync.new.self c.sync.ensures.crash c.sync.ensures.time
    c.in_ok-write_at.ensures.written c.sync.ensures.same c.in_ok-sync.ensures.durable
    c.write_at-2.new.self c.write_at-2.ensures.crash c.write_at-2.ensures.time
    c.sync-2.new.self c.sync-2.ensures.crash c.sync-2.ensures.time
    c.in_ok-write_at-2.ensures.written c.sync-2.ensures.same c.in_ok-sync-2.ensures.durable

pub returns-clause-settled : goal.returns-clause-settled
returns-clause-settled g c =
    let ok1 = unfailed _ _ c.requires.settled.unfailed c.in_ok-write_at.ensures.failure in
    let ok2 = unfailed _ _ ok1 c.in_ok-sync.ensures.failure in
    let ok3 = unfailed _ _ ok2 c.in_ok-write_at-2.ensures.failure in
    is_settled g.D.Device.contents g.D.Device.may_leave g.D.Device.clock g.D.Device.left_since g.D.Device.has_failed
    g.met.D.Device.just_now
    c.args.device.now c.args.end c.requires.settled c.args.frames.now c.requires.batch _ (take_rest c.args.frames.now 1)
    c.write_at.new.self c.write_at.ensures.crash c.write_at.ensures.time
    c.sync.new.self c.sync.ensures.crash c.sync.ensures.time
    c.in_ok-write_at.ensures.written c.sync.ensures.same c.in_ok-sync.ensures.durable
    c.write_at-2.new.self c.write_at-2.ensures.crash c.write_at-2.ensures.time
    c.sync-2.new.self c.sync-2.ensures.crash c.sync-2.ensures.time
    c.in_ok-write_at-2.ensures.written c.sync-2.ensures.same c.in_ok-sync-2.ensures.durable
    (unfailed _ _ ok3 c.in_ok-sync-2.ensures.failure)
