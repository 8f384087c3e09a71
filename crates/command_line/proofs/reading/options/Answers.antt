use Rattle.std.proofs.Common.{◌∙◌, subst, sym}
use Rattle.clap.specs.Words.{HasKind, Kinds}
use Rattle.clap.proofs.KindLemmas.{fails_by_from}
use Rattle.command_line.proofs.Ramlog.{bare_options, bare_refusal, faults_are, has_flag, has_number, is_free}
use Rattle.command_line.proofs.Ramlog.{has_backups, has_replicas, has_step, has_segment, has_seglet, has_seglets}
use Rattle.command_line.proofs.Ramlog.{has_tables, has_history, has_bytes, has_objects, has_format, has_largest}
use Rattle.command_line.proofs.Ramlog.{has_live}
use Rattle.command_line.proofs.Ramlog.{has_forget, has_tend}
use Rattle.command_line.proofs.reading.options.Goals as goal

pub returns-in_err-matches-clause-refuses : goal.returns-in_err-matches-clause-refuses
returns-in_err-matches-clause-refuses c =
    let is = c.in_ok-command.ensures in
    let kinds = c.in_err-matches.ensures.kinds (is_free c.in_ok-command.command is) in
    let failed = c.from_residual-in_err-matches.ensures in
    fails_by_from _ _ _ (subst (λ (k : Kinds). HasKind k c.in_err-matches.field-0.0)
    (faults_are c.in_ok-command.command _ is) kinds)
    failed.0 failed.1

pub returns-in_err-matches-clause-bare : goal.returns-in_err-matches-clause-bare
returns-in_err-matches-clause-bare c one =
    bare_refusal c.args.words.now _ one c.from_residual-in_err-matches.ensures.0
    (returns-in_err-matches-clause-refuses c)

pub returns-clause-reads : goal.returns-clause-reads
returns-clause-reads c =
    let has = c.in_ok-matches.ensures in
    let of =
    has_number c.in_ok-command.command c.in_ok-matches.matches _ c.in_ok-command.ensures has.parsed has.matches in
    let read = c.read_matches.ensures in
    record {
      backups = of _ has_backups _ read.backups;
      replicas = of _ has_replicas _ read.replicas;
      step = of _ has_step _ read.step;
      segment = of _ has_segment _ read.segment;
      seglet = of _ has_seglet _ read.seglet;
      seglets = of _ has_seglets _ read.seglets;
      tables = of _ has_tables _ read.tables;
      history = of _ has_history _ read.history;
      bytes = of _ has_bytes _ read.bytes;
      objects = of _ has_objects _ read.objects;
      format = of _ has_format _ read.format;
      largest = of _ has_largest _ read.largest;
      live = of _ has_live _ read.live;
      tend = of _ has_tend _ read.tend;
      forget =
          has_flag c.in_ok-command.command c.in_ok-matches.matches _ c.in_ok-command.ensures has.parsed has.matches _
          has_forget _ read.forget;
    }

pub returns-clause-bare : goal.returns-clause-bare
returns-clause-bare c one = bare_options c.args.words.now _ one (returns-clause-reads c)

pub returns-clause-refuses : goal.returns-clause-refuses
returns-clause-refuses c =
    let is = c.in_ok-command.ensures in
    sym (faults_are c.in_ok-command.command _ is) ∙ c.in_ok-matches.ensures.kinds (is_free c.in_ok-command.command is)
