-- Lines without a command.
use Rattle.std.proofs.Common.{◌≡◌, refl}
use Rattle.lines.specs.Grammar.{shown_line}
use Rattle.lines.specs.declared.command.CommandLine.{CommandLine}
use Rattle.lines.specs.declared.line.Line.{Line}
use Rattle.lines.specs.declared.line.Line.TheVariants as line
use Rattle.std.proofs.Common.{ℕ}
use Rattle.disk_lines.specs.Lines.{IsForMemory}

-- any other line is for a store in memory
pub for_memory : (l : Line) → (l ≡ line.Idle → ⊥) → ((c : CommandLine) → l ≡ line.Command c → ⊥)
    → ((table : ℕ) → l ≡ line.List table → ⊥) → IsForMemory (shown_line l)
for_memory line.Idle idle command list = absurd (idle refl)
for_memory (line.Command c) idle command list = absurd (command c refl)
for_memory (line.Compact segment) idle command list = tt
for_memory line.Roll idle command list = tt
for_memory line.BeginRoll idle command list = tt
for_memory line.Push idle command list = tt
for_memory line.Log idle command list = tt
for_memory line.Room idle command list = tt
for_memory line.Segments idle command list = tt
for_memory (line.List table) idle command list = absurd (list table refl)
for_memory (line.Hex segment) idle command list = tt
for_memory (line.Stop takes) idle command list = tt
for_memory (line.Fault takes taken) idle command list = tt
for_memory line.Format idle command list = tt
for_memory line.Crash idle command list = tt
for_memory (line.Lose backup) idle command list = tt
for_memory line.Will idle command list = tt
for_memory (line.Recover order) idle command list = tt
for_memory line.Holdings idle command list = tt
for_memory line.Live idle command list = tt
for_memory line.Needs idle command list = tt
for_memory (line.Seglets seglets) idle command list = tt
for_memory (line.Clean segments) idle command list = tt
for_memory (line.Begin segments) idle command list = tt
for_memory line.Copy idle command list = tt
for_memory line.Seal idle command list = tt
for_memory line.Free idle command list = tt
for_memory (line.Tend steps) idle command list = tt
for_memory (line.Clients clients rounds passes) idle command list = tt
