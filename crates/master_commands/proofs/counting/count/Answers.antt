use Rattle.std.proofs.Common.{◌≡◌, ℕ, List, refl, subst}
use Rattle.tally.specs.declared.tallies.Tally.{Tally}
use Rattle.tally.specs.Rows.{more, IsChangedAt}
use Rattle.history.specs.View.{shown_command}
use Rattle.master_commands.specs.Counts.{put_len, stone_len}
use Rattle.master_commands.proofs.counting.count.Goals as goal

-- a segment has so many bytes more, by equal numbers
grown : (segment live stones l s : ℕ) (old new : List Tally) → live ≡ l → stones ≡ s
    → IsChangedAt segment (more live stones) old new → IsChangedAt segment (more l s) old new
grown segment live stones l s old new same_live same_stones =
    subst (λ (n : ℕ × ℕ). IsChangedAt segment (more n.0 n.1) old new) (λ i. (same_live i, same_stones i))

pub returns-in-Create : goal.returns-in-Create
returns-in-Create c = rw c.in-Create.is
    (grown c.args.head c.put_len.result 0 (put_len (shown_command c.args.command.now)) 0 c.args.tallies.now
    c.grow.new.self c.put_len.ensures refl c.grow.ensures.grown)

pub returns-in-Replace : goal.returns-in-Replace
returns-in-Replace c = rw c.in-Replace.is (
  c.shrink.new.self,
  c.shrink.ensures.shrunk,
  grown c.args.head c.put_len-in-Replace.result c.stone_len.result (put_len (shown_command c.args.command.now))
      (stone_len (shown_command c.args.command.now)) c.shrink.new.self c.grow-in-Replace.new.self
      c.put_len-in-Replace.ensures c.stone_len.ensures c.grow-in-Replace.ensures.grown,
)

pub returns-in-Delete : goal.returns-in-Delete
returns-in-Delete c = rw c.in-Delete.is (
  c.shrink-in-Delete.new.self,
  c.shrink-in-Delete.ensures.shrunk,
  grown c.args.head 0 c.stone_len-in-Delete.result 0 (stone_len (shown_command c.args.command.now))
      c.shrink-in-Delete.new.self c.grow-in-Delete.new.self refl c.stone_len-in-Delete.ensures
      c.grow-in-Delete.ensures.grown,
)
