use Rattle.lines.specs.Grammar.{shown_command}
use Rattle.disk_lines.proofs.Shown.{carried_shown}
use Rattle.disk_lines.proofs.running.run_command.Goals as goal

pub write_reply-requires : goal.write_reply-requires
write_reply-requires g c = carried_shown c.args.is_raw c.args.store.now.master.knows (shown_command c.args.line)
    c.serve_line-reply.result c.serve_line-reply.new.store.master.knows c.serve_line-reply.ensures
