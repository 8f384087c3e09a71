use Rattle.std.proofs.Common.{◌≡◌, ℕ, suc, ◌-◌, List, None, drop, sym, ◌∙◌, ap, subst, arith, Vec}
use Rattle.std.specs.declared.alloc.Global.{Global}
use Rattle.registry_file.specs.Kept.{file_in, journal_at}
use Rattle.registry_file.specs.declared.registry.BackupJournal.{BackupJournal}
use Rattle.registry_file.proofs.Lists.{file_changed, file_pushed}
use Rattle.registry_file.proofs.registry.put_journal.Goals as goal

pub returns-then-index-journal : goal.returns-then-index-journal
returns-then-index-journal c =
    let xs = c.loop-i.journals.items in
    let j = c.args.journal in
    let place : c.loop-i.i ≡ suc (c.loop-i.i - 1) = omega (arith, c.loop-i-test.true) in
    let none : file_in (drop (suc (c.loop-i.i - 1)) xs) j.backup ≡ None =
    subst (λ (i : ℕ). file_in (drop i xs) j.backup ≡ None) place c.loop-i.invariant.behind in
    file_changed xs (c.loop-i.i - 1) j c.index.result.now (omega (arith, c.loop-i.invariant.within, c.loop-i-test.true))
    (ap (λ (x : BackupJournal). x.backup) (sym c.index.ensures) ∙ c.if-index-journal.true) none
    ∙ ap (λ (v : Vec BackupJournal Global). journal_at (file_in v.items) j.backup j.file) c.loop-i.invariant.same

pub returns : goal.returns
returns c =
    let j = c.args.journal in
    ap (λ (l : List BackupJournal). file_in l) c.push_reserved.ensures.items
    ∙ file_pushed c.loop-i.journals.items j
    ∙ ap (λ (v : Vec BackupJournal Global). journal_at (file_in v.items) j.backup j.file) c.loop-i.invariant.same
