use Rattle.std.proofs.Common.{ap, inl, inr, refl, subst}
use Rattle.std.proofs.KnownBytes.{Keeps-refl}
use Rattle.lines.specs.Grammar.{LineValue, shown_line}
use Rattle.raw_lines.specs.Raw.{SaysIn}
use Rattle.script.proofs.Commanding.{no_key_of}
use Rattle.lines.specs.declared.reason.Reason.TheVariants.{NoBackup}
use Rattle.script.specs.Sessions.{Forgets}
use Rattle.script.specs.Turns.{RefusesLine}
use Rattle.script.specs.declared.session.Session.{Session}
use Rattle.script.proofs.Commanding.{no_backup, says_none}
use Rattle.script.proofs.Turning.{plain_printed}
use Rattle.std.specs.Prelude.{is_some}
use Rattle.script.proofs.running.run_other.Goals as goal

pub returns-in-Ok : goal.returns-in-Ok
returns-in-Ok g c = λ last forgets.
    plain_printed c.args.is_raw _ _ _ _ _ _ c.in-Ok.answer c.print_plain.result
    (record {
      line = shown_line c.args.line;
      says = c.requires.says;
      of_fleet = c.in-Ok.ensures.of_fleet;
      runs = (c.run_any.new.self, c.in-Ok.ensures.ran, forgets);
    })
    (ap is_some c.requires.other) c.print_plain.ensures

pub returns-in-Err-NoBackup : goal.returns-in-Err-NoBackup
returns-in-Err-NoBackup g c = λ last forgets.
    let s = c.args.session.now in
    let line = shown_line c.args.line in
    let refused = subst (RefusesLine s line) c.in-Err-NoBackup.field-0-is c.in-Err-NoBackup.ensures.refused in (
      refl,
      λ other says allows. says_none s other line (c.one_plain_line.ensures c.args.is_raw c.args._text.now line other
          (no_key_of line c.requires.other)
          c.requires.says says)
          (no_backup s line refused) allows,
      Keeps-refl _,
      inr (inl (
        ap NoBackup c.backups-backups.ensures,
        refused.0,
        subst (λ (l : LineValue). SaysIn c.args.is_raw c.args._text.now l) refused.1 c.requires.says,
      )),
      subst (λ (x : Session). Forgets x last) c.in-Err-NoBackup.ensures.kept forgets,
    )

pub returns-in-Err-NoLaterMaster : goal.returns-in-Err-NoLaterMaster
returns-in-Err-NoLaterMaster g c = λ last forgets.
    let s = c.args.session.now in
    let line = shown_line c.args.line in
    let refused =
    subst (RefusesLine s line) c.in-Err-NoLaterMaster.field-0-is c.in-Err-NoLaterMaster.ensures.refused in (
      refl,
      λ other says allows. says_none s other line
          (c.one_plain_line-in-Err-NoLaterMaster.ensures c.args.is_raw c.args._text.now line other
          (no_key_of line c.requires.other) c.requires.says says)
          (λ all. refused.1 all.1) allows,
      Keeps-refl _,
      inr (inr (refl, line, refused.0, c.requires.says)),
      subst (λ (x : Session). Forgets x last) c.in-Err-NoLaterMaster.ensures.kept forgets,
    )
