use Rattle.std.proofs.Common.{◌≡◌, ℕ, suc, ◌-◌, None, drop, sym, subst, arith}
use Rattle.registry_file.specs.Kept.{file_in}
use Rattle.registry_file.specs.declared.registry.BackupJournal.{BackupJournal}
use Rattle.registry_file.proofs.Lists.{file_found}
use Rattle.registry_file.proofs.registry.file_in.Goals as goal

pub returns-then-journals-i : goal.returns-then-journals-i
returns-then-journals-i c =
    let xs = c.args.journals.now in
    let place : c.loop-i.i ≡ suc (c.loop-i.i - 1) = omega (arith, c.loop-i-test.true) in
    let none : file_in (drop (suc (c.loop-i.i - 1)) xs) c.args.backup ≡ None =
    subst (λ (i : ℕ). file_in (drop i xs) c.args.backup ≡ None) place c.loop-i.invariant.1 in
    let d : BackupJournal = record { backup = 0; file = record { id = 0; count = 0 } } in
    sym (file_found xs (c.loop-i.i - 1) d c.args.backup (omega (arith, c.loop-i.invariant.0, c.loop-i-test.true))
    c.if-journals-i.true none)
