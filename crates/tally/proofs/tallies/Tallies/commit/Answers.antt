use Rattle.std.proofs.Common.{◌≡◌, ◌++◌, List, take, drop, map, length, subst, sym, ap, ◌∙◌}
use Rattle.tally.specs.declared.tallies.Tally.{Tally}
use Rattle.tally.specs.Rows.{AreRising, IsCommitted, AreKeptBut, staled}
use Rattle.tally.proofs.Edits.{without, committed, committed_kept, committed_rises, refilled}
use Rattle.tally.proofs.tallies.Tallies.commit.Goals as goal

-- the list at the end
at_end : (c : goal.After-self-1)
    → take c.take_out.new.rows.len (c.stale.new.rows ++ drop (length c.stale.new.rows) c.take_out.new.rows.items)
    ≡ map staled (without c.args.victims.now c.self.inside.rows.items)
at_end c =
    let left = c.take_out.new.rows.items in
    let slice = c.as_mut_slice.ensures in
    let many = ap (λ (xs : List Tally). length xs) (sym slice.value) ∙ slice.len in
    refilled staled c.take_out.new.rows.len left c.stale.new.rows many (c.stale.ensures ∙ ap (map staled) slice.value)
    ∙ ap (map staled) c.take_out.ensures

pub invariant_of-self : goal.invariant_of-self
invariant_of-self c =
    subst (λ (xs : List Tally). AreRising xs) (sym (at_end c))
    (committed_rises c.args.victims.now c.self.inside.rows.items c.self.invariant)

pub returns-clause-committed : goal.returns-clause-committed
returns-clause-committed c = rw (← c.self.view_is) (
    subst (λ (xs : List Tally). IsCommitted c.args.victims.now c.self.inside.rows.items xs) (sym (at_end c))
    (committed c.args.victims.now c.self.inside.rows.items))

pub returns-clause-kept : goal.returns-clause-kept
returns-clause-kept c = rw (← c.self.view_is) (
    subst (λ (xs : List Tally). AreKeptBut c.args.victims.now c.self.inside.rows.items xs) (sym (at_end c))
    (committed_kept c.args.victims.now c.self.inside.rows.items))
