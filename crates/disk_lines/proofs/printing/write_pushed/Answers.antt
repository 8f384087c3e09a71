use Rattle.std.proofs.Common.{◌≡◌, ◌≤◌, ℕ, Bool, false, arith, subst, sym}
use Rattle.std.proofs.lemmas.Bool.Decides.{nat_tests}
use Rattle.std.specs.Prelude.{nat_lt, if◌then◌else◌, unwrap_or}
use Rattle.versioned_map.specs.declared.command.Reply.TheVariants as said
use Rattle.answers.specs.driving.master.log_laws.Data.{durable_of}
use Rattle.answers.specs.driving.master.master_state.Log.{log_of}
use Rattle.raw_answers.specs.Texts.{reply_in}
use Rattle.embedded.specs.Replies.{kept_reply}
use Rattle.disk_lines.specs.Groups.{unsure_line}
use Rattle.disk_lines.specs.Turns.{IsWritten}
use Rattle.disk_lines.proofs.printing.write_pushed.Goals as goal

not_below : (n m : ℕ) → n ≤ m → nat_lt m n ≡ false
not_below n m within = grind (arith, nat_tests)

pub returns-else-place-durable : goal.returns-else-place-durable
returns-else-place-durable g c =
    let knows = c.args.store.now.master.knows in
    let within : durable_of (log_of knows) ≤ c.args.place =
    subst (λ (n : ℕ). n ≤ c.args.place) c.durable.ensures.count c.if-place-durable.false in
    subst (λ (b : Bool). IsWritten (g.W.Write.contents c.args.writer.now) (g.W.Write.contents c.write_words.new.writer)
    (if b then reply_in c.args.is_raw (unwrap_or (kept_reply knows c.args.place) said.None)
    else unsure_line c.args.why.now) c.write_words.result)
    (sym (not_below (durable_of (log_of knows)) c.args.place within)) c.write_words.ensures
