use Rattle.std.proofs.Common.{inl, inr, refl, arith}
use Rattle.lines.specs.Grammar.{Format, Idle, Seglets, Hex, Stop, Fault, Crash, Lose, Roll, BeginRoll, Compact}
use Rattle.lines.specs.Grammar.{Push, Log, Segments, Room, Listing, LiveBytes, Holdings, Copy, Seal, Free, Tend}
use Rattle.next_master.specs.answers.declared.answer.Answer.TheVariants.{Silent}
use Rattle.next_master.proofs.of_cluster.Standing.{stays_told}
use Rattle.script.specs.Sessions.{RunsLine, SessionAnswers}
use Rattle.script.proofs.Commanding.{has_command}
use Rattle.script.proofs.Sessions.{node_answers, ok_runs}
use Rattle.script.proofs.session.Session.run_any.Goals as goal

pub unreachable-requires : goal.unreachable-requires
unreachable-requires g c = has_command c.in-Command.field-0 (rw c.in-Command.is at c.requires.other)

pub returns-in-Idle-clause-ran : goal.returns-in-Idle-clause-ran
returns-in-Idle-clause-ran g c =
    let s = c.args.self.now in
    rw c.in-Idle.is (inl (node_answers s Idle s.node Silent
    (λ config number. stays_told s.node config Idle Silent (λ d at x. (refl, refl))) refl refl refl refl tt))

pub returns-in-Hex-clause-ran : goal.returns-in-Hex-clause-ran
returns-in-Hex-clause-ran g c = rw c.in-Hex.is (inl (node_answers c.args.self.now (Hex c.in-Hex.segment)
    c.args.self.now.node
    c.hex.result (λ config number. c.hex.ensures.told config) (refl, c.hex.ensures.shown) refl refl refl tt))

pub returns-in-Stop-clause-ran : goal.returns-in-Stop-clause-ran
returns-in-Stop-clause-ran g c = rw c.in-Stop.is (inl (node_answers c.args.self.now (Stop c.in-Stop.takes)
    c.stop.new.self
    c.stop.result (λ config number. c.stop.ensures.told config) c.stop.ensures.limited refl refl refl tt))

pub returns-in-Fault-clause-ran : goal.returns-in-Fault-clause-ran
returns-in-Fault-clause-ran g c = rw c.in-Fault.is (inl (node_answers c.args.self.now
    (Fault c.in-Fault.takes c.in-Fault.taken) c.fault.new.self
    c.fault.result (λ config number. c.fault.ensures.told config) c.fault.ensures.same refl refl refl tt))

pub returns-in-Crash-clause-ran : goal.returns-in-Crash-clause-ran
returns-in-Crash-clause-ran g c = rw c.in-Crash.is (inl (node_answers c.args.self.now Crash c.crash.new.self
    c.crash.result (λ config number. c.crash.ensures.told config) c.crash.ensures.dropped refl refl refl tt))

pub returns-in-Lose-2-clause-ran : goal.returns-in-Lose-2-clause-ran
returns-in-Lose-2-clause-ran g c = rw c.in-Lose-2.is (inl (node_answers c.args.self.now (Lose c.in-Lose-2.backup)
    c.lose.new.self
    c.lose.result (λ config number. c.lose.ensures.told config) c.lose.ensures.lost refl refl refl tt))

pub returns-in-Roll-clause-ran : goal.returns-in-Roll-clause-ran
returns-in-Roll-clause-ran g c = rw c.in-Roll.is (inl (node_answers c.args.self.now Roll c.roll.new.self
    c.roll.result (λ config number. c.roll.ensures.told config) c.roll.ensures.rolled refl refl refl tt))

pub returns-in-BeginRoll-clause-ran : goal.returns-in-BeginRoll-clause-ran
returns-in-BeginRoll-clause-ran g c = rw c.in-BeginRoll.is (inl (node_answers c.args.self.now BeginRoll c.step.new.self
    c.step.result (λ config number. c.step.ensures.told config) c.step.ensures.stepped refl refl refl tt))

pub returns-in-Compact-clause-ran : goal.returns-in-Compact-clause-ran
returns-in-Compact-clause-ran g c = rw c.in-Compact.is (inl (node_answers c.args.self.now
    (Compact c.in-Compact.segment) c.step-in-Compact.new.self
    c.step-in-Compact.result (λ config number. c.step-in-Compact.ensures.told config) c.step-in-Compact.ensures.stepped
    refl refl refl tt))

pub returns-in-Push-clause-ran : goal.returns-in-Push-clause-ran
returns-in-Push-clause-ran g c = rw c.in-Push.is (inl (node_answers c.args.self.now Push c.step-in-Push.new.self
    c.step-in-Push.result (λ config number. c.step-in-Push.ensures.told config) c.step-in-Push.ensures.stepped refl
    refl refl tt))

pub returns-in-Log-clause-ran : goal.returns-in-Log-clause-ran
returns-in-Log-clause-ran g c = rw c.in-Log.is (inl (node_answers c.args.self.now Log c.args.self.now.node
    c.log.result (λ config number. c.log.ensures.told config) (refl, c.log.ensures.shown) refl refl refl tt))

pub returns-in-Segments-clause-ran : goal.returns-in-Segments-clause-ran
returns-in-Segments-clause-ran g c = rw c.in-Segments.is (inl
    (node_answers c.args.self.now Segments c.args.self.now.node
    c.segments.result (λ config number. c.segments.ensures.told config) (refl, c.segments.ensures.shown) refl refl refl
    tt))

pub returns-in-Room-clause-ran : goal.returns-in-Room-clause-ran
returns-in-Room-clause-ran g c = rw c.in-Room.is (inl (node_answers c.args.self.now Room c.args.self.now.node
    c.room.result (λ config number. c.room.ensures.told config) (refl, c.room.ensures.shown) refl refl refl tt))

pub returns-in-List-clause-ran : goal.returns-in-List-clause-ran
returns-in-List-clause-ran g c =
    rw c.in-List.is (inl (node_answers c.args.self.now (Listing c.in-List.table) c.args.self.now.node
    c.list.result (λ config number. c.list.ensures.told config) (refl, c.list.ensures.shown) refl refl refl tt))

pub returns-in-Live-clause-ran : goal.returns-in-Live-clause-ran
returns-in-Live-clause-ran g c = rw c.in-Live.is (inl (node_answers c.args.self.now LiveBytes c.args.self.now.node
    c.live.result (λ config number. c.live.ensures.told config) (refl, c.live.ensures.shown) refl refl refl tt))

pub returns-in-Holdings-clause-ran : goal.returns-in-Holdings-clause-ran
returns-in-Holdings-clause-ran g c = rw c.in-Holdings.is (inl
    (node_answers c.args.self.now Holdings c.args.self.now.node
    c.holdings.result (λ config number. c.holdings.ensures.told config) (refl, c.holdings.ensures.shown) refl refl refl
    tt))

pub returns-in-Copy-clause-ran : goal.returns-in-Copy-clause-ran
returns-in-Copy-clause-ran g c = rw c.in-Copy.is (inl (node_answers c.args.self.now Copy c.step-in-Copy.new.self
    c.step-in-Copy.result (λ config number. c.step-in-Copy.ensures.told config) c.step-in-Copy.ensures.stepped refl
    refl refl tt))

pub returns-in-Seal-clause-ran : goal.returns-in-Seal-clause-ran
returns-in-Seal-clause-ran g c = rw c.in-Seal.is (inl (node_answers c.args.self.now Seal c.step-in-Seal.new.self
    c.step-in-Seal.result (λ config number. c.step-in-Seal.ensures.told config) c.step-in-Seal.ensures.stepped refl
    refl refl tt))

pub returns-in-Free-clause-ran : goal.returns-in-Free-clause-ran
returns-in-Free-clause-ran g c = rw c.in-Free.is (inl (node_answers c.args.self.now Free c.step-in-Free.new.self
    c.step-in-Free.result (λ config number. c.step-in-Free.ensures.told config) c.step-in-Free.ensures.stepped refl
    refl refl tt))

pub returns-in-Tend-clause-ran : goal.returns-in-Tend-clause-ran
returns-in-Tend-clause-ran g c = rw c.in-Tend.is (inl (node_answers c.args.self.now (Tend c.in-Tend.steps)
    c.tend.new.self
    c.tend.result (λ config number. c.tend.ensures.told config) c.tend.ensures.tended refl refl refl tt))

pub returns-in-Recover-clause-ran : goal.returns-in-Recover-clause-ran
returns-in-Recover-clause-ran g c = rw c.in-Recover.is (inr c.run_recover.ensures)

pub returns-in-Needs-clause-ran : goal.returns-in-Needs-clause-ran
returns-in-Needs-clause-ran g c = rw c.in-Needs.is (inl c.run_needs.ensures)

pub returns-in-Will-clause-ran : goal.returns-in-Will-clause-ran
returns-in-Will-clause-ran g c = rw c.in-Will.is (inl c.run_will.ensures)

pub returns-in-Clients-clause-ran : goal.returns-in-Clients-clause-ran
returns-in-Clients-clause-ran g c = rw c.in-Clients.is (inl c.run_clients.ensures)

pub returns-in-Format-clause-ran : goal.returns-in-Format-clause-ran
returns-in-Format-clause-ran g c =
    let s = c.args.self.now in
    rw c.in-Format.is (ok_runs c.run_format.result (SessionAnswers s Format c.run_format.new.self)
    (RunsLine s Format c.run_format.new.self) (λ a r. inl r) c.run_format.ensures.ran)

pub returns-in-Format-clause-refused : goal.returns-in-Format-clause-refused
returns-in-Format-clause-refused g c = rw c.in-Format.is c.run_format.ensures.refused

pub returns-in-Seglets-clause-ran : goal.returns-in-Seglets-clause-ran
returns-in-Seglets-clause-ran g c =
    let s = c.args.self.now in
    let line = Seglets c.in-Seglets.seglets in
    rw c.in-Seglets.is (ok_runs c.run_seglets.result (SessionAnswers s line c.run_seglets.new.self)
    (RunsLine s line c.run_seglets.new.self) (λ a r. inl r) c.run_seglets.ensures.ran)

pub returns-in-Seglets-clause-refused : goal.returns-in-Seglets-clause-refused
returns-in-Seglets-clause-refused g c = rw c.in-Seglets.is c.run_seglets.ensures.refused

pub returns-in-Lose-clause-refused : goal.returns-in-Lose-clause-refused
returns-in-Lose-clause-refused g c =
    let out = c.if-backup-self.true in
    rw c.in-Lose.is (c.in-Lose.backup, refl, λ below. absurd (omega (arith, below, out)))
