use Rattle.std.proofs.Common.{◌≡◌, ℕ, List, true, false, sym, subst, ◌∙◌}
use Rattle.std.specs.Prelude.{Option}
use Rattle.cleaner.specs.declared.pass.Pass.{Pass}
use Rattle.master_rolls.specs.Ends.{AreLeft, IsCountedOut}
use Rattle.tally.specs.declared.tallies.Tally.{Tally}
use Rattle.tally.specs.Rows.{IsCommitted, AreKeptBut}
use Rattle.master_rolls.proofs.ending.count_end.Goals as goal
use Rattle.master_rolls.proofs.ending.count_end.Goals.{in-Some+then-pass, in-Some+else-pass, in_default}

pub returns : goal.returns
returns c =
    let left : AreLeft c.args.pass.now c.args.tallies.now c.match-pass.tallies =
    elim c.match-pass.branch as (λ _. AreLeft c.args.pass.now c.args.tallies.now c.match-pass.tallies) [
      | in-Some+then-pass w ↦ subst (λ (o : Option Pass). AreLeft o c.args.tallies.now c.match-pass.tallies)
          (sym w.in-Some.is) (
            (λ commits. (
              (subst (λ (rows : List Tally). IsCommitted w.in-Some.pass.victims c.args.tallies.now rows)
                  (sym w.tallies-is) (subst (λ (ids : List ℕ). IsCommitted ids c.args.tallies.now w.commit.new.self)
                  w.as_slice.ensures w.commit.ensures.committed)),
              (subst (λ (rows : List Tally). AreKeptBut w.in-Some.pass.victims c.args.tallies.now rows)
                  (sym w.tallies-is) (subst (λ (ids : List ℕ). AreKeptBut ids c.args.tallies.now w.commit.new.self)
                  w.as_slice.ensures w.commit.ensures.kept)),
            )),
            (λ early. (let never : true ≡ false = sym w.if-pass.true ∙ early in absurd (cc))),
          )
      | in-Some+else-pass w ↦ subst (λ (o : Option Pass). AreLeft o c.args.tallies.now c.match-pass.tallies)
          (sym w.in-Some.is) (
            (λ commits. (let never : true ≡ false = sym commits ∙ w.if-pass.false in absurd (cc))),
            (λ early. w.tallies-is),
          )
      | in_default w ↦ subst (λ (o : Option Pass). AreLeft o c.args.tallies.now c.match-pass.tallies)
          (sym w.in_default.is) w.tallies-is
    ] in
    record { rest = c.match-pass.tallies; left = left; begun = c.begin.ensures.begun; kept = c.begin.ensures.kept }
