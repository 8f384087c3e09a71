use Rattle.std.proofs.Common.{List, subst}
use Rattle.entry.specs.declared.entry.Entry.{Entry}
use Rattle.entry.specs.Bag.{IsAmong}
use Rattle.entry.specs.View.{shown_key}
use Rattle.entry.proofs.BagLemmas.{among_at}
use Rattle.tablet_will.specs.declared.part.Part.{Part}
use Rattle.division.specs.declared.fault.DivideFault.{DivideFault}
use Rattle.division.specs.Division.{HasStray, IsDivideFault}
use Rattle.rebuild_threads.proofs.Divided.{stray_here}
use Rattle.rebuild_threads.proofs.divider.Divider.divide.Goals as goal

pub returns-in-Err-Stray-clause-setback : goal.returns-in-Err-Stray-clause-setback
returns-in-Err-Stray-clause-setback g c =
    let qs = g.D.Division.parts in
    let es = c.in-Some.segment.now in
    let k = shown_key c.in-Err-Stray.field-0-0 in
    let in_log : IsAmong es g.D.Division.segments =
    subst (λ (ss : List (List Entry)). IsAmong es ss) c.self.invariant.is_log
    (among_at c.self.inside.segments.now c.args.at es c.in-Some.ensures.lookup.3.0 c.in-Some.ensures.lookup.1) in
    let stray : HasStray qs es k =
    subst (λ (ps : List Part). HasStray ps es k) c.self.invariant.is_will
    (subst (λ (f : DivideFault). IsDivideFault c.self.inside.will.now es f) c.in-Err-Stray.field-0-is
    c.in-Err-Stray.ensures.fault) in
    (k, stray_here qs g.D.Division.segments es k in_log stray)
