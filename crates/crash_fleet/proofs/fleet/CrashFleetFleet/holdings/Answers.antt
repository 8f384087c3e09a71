use Rattle.crash_fleet.proofs.fleet.CrashFleetFleet.holdings.Goals as goal

pub returns-in-On-clause-shown : goal.returns-in-On-clause-shown
returns-in-On-clause-shown g c = rw (← c.self.view_is) (rw c.in-On.is c.holdings.ensures.shown)

pub returns-in-Unread-clause-shown : goal.returns-in-Unread-clause-shown
returns-in-Unread-clause-shown g c = rw (← c.self.view_is) (rw c.in-Unread.is c.holdings-in-Unread.ensures.shown)
