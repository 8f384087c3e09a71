use Rattle.std.proofs.Common.{ℕ, List, subst, ◌-◌, ◌<◌, length, take, drop, arith}
use Rattle.entry.specs.Format.{Begins}
use Rattle.entry.specs.View.{shown}
use Rattle.std.proofs.lemmas.List.{take_rest}
use Rattle.segment.proofs.RowLemmas.{front_of-len}
use Rattle.segment.proofs.FaultLemmas.{IsBadOrder-misplaced}
use Rattle.segment.proofs.WalkLemmas.{IsWalked-step}
use Rattle.segment.proofs.reading.step.Goals as goal

pub returns-in-Some-clause-walked : goal.returns-in-Some-clause-walked
returns-in-Some-clause-walked c =
    let bytes = c.args.bytes.now in
    let found =
    subst (λ (rest : List ℕ). Begins rest (shown c.in-Ok.entry) c.in-Ok.taken) (take_rest bytes c.args.at)
    c.in-Ok.ensures.found in
    IsWalked-step bytes c.args.at c.args.expected c.in-Some.next (shown c.in-Ok.entry) c.in-Ok.taken c.requires.walked
    found c.in-Some.ensures.allowed

pub returns-in-Some-clause-above : goal.returns-in-Some-clause-above
returns-in-Some-clause-above c =
    let bytes = c.args.bytes.now in
    let rest = take (length bytes - c.args.at) (drop c.args.at bytes) in
    let some : 0 < c.in-Ok.taken = (front_of-len rest (shown c.in-Ok.entry) c.in-Ok.taken c.in-Ok.ensures.front).0 in
    omega arith

pub returns-in-None-clause-fault : goal.returns-in-None-clause-fault
returns-in-None-clause-fault c =
    let bytes = c.args.bytes.now in
    let found =
    subst (λ (rest : List ℕ). Begins rest (shown c.in-Ok.entry) c.in-Ok.taken) (take_rest bytes c.args.at)
    c.in-Ok.ensures.found in (
      c.requires.limit,
      IsBadOrder-misplaced bytes c.args.at c.args.expected (shown c.in-Ok.entry) c.in-Ok.taken
          c.requires.walked found c.in-None.ensures.refused,
    )
