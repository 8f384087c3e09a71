use Rattle.locked_log.specs.Held.{held}
use Rattle.locked_log.proofs.Seeing.{claim_of}
use Rattle.locked_log.proofs.locking.StateLog.claim.Goals as goal

pub returns-clause-seat : goal.returns-clause-seat
returns-clause-seat g c =
    claim_of (held g.F.Fleet.state c.args.self.now) c.args.seat.now c.args.place c.claim_held.result
    c.claim_held.ensures.claims
