use Rattle.std.proofs.Common.{◌<◌, length, refl, arith}
use Rattle.backup.proofs.Pictures.{lost_by}
use Rattle.backup.proofs.fleet.MemoryFleet.lose.Goals as goal
use Rattle.backup.proofs.fleet.MemoryFleet.lose.Goals.{In-Some}

within : (c : In-Some) → c.args.backup < length c.args.self.now.backups.items
within c = omega (arith, c.in-Some.ensures.variant.0 refl)

pub returns-in-Some-clause-lost : goal.returns-in-Some-clause-lost
returns-in-Some-clause-lost c =
    let fleet = c.args.self.now in
    lost_by fleet.backups.items c.args.backup c.clear.new.self fleet.takes fleet.end fleet.faults _ _
    (within (goal.at.returns-in-Some-clause-lost c).In-Some) c.clear.ensures

pub returns-in-Some-clause-none : goal.returns-in-Some-clause-none
returns-in-Some-clause-none c =
    λ past. let less = within (goal.at.returns-in-Some-clause-none c).In-Some in absurd (omega arith)
