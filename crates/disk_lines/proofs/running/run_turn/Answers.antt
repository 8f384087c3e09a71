use Rattle.std.proofs.Common.{[], ◌≡◌, ◌∙◌, ℕ, suc, ◌+◌, ◌≤◌, Bool, List, ◌∷◌, ◌++◌, length, arith, ap, refl, subst}
use Rattle.std.proofs.Common.{sym}
use Rattle.std.proofs.lemmas.List.{length-append}
use Rattle.std.proofs.KnownBytes.{Appends-kept, Appends-nil, Consumes-nil}
use Rattle.std.specs.Io.KnownBytes.{Consumes, Keeps}
use Rattle.std.specs.Prelude.{Option, Some, None, Result, Ok, Err}
use Rattle.lines.specs.Grammar.{LineValue}
use Rattle.lines.specs.Reading.{TakesLine}
use Rattle.lines.specs.declared.reading.ReadFault.{ReadFault}
use Rattle.lines.specs.declared.reading.ReadFault.TheVariants as read
use Rattle.lines.specs.declared.reading.Taken.{Taken}
use Rattle.lines.specs.declared.reading.Taken.TheVariants.{Ended, Last, TooLong, Nothing}
use Rattle.versioned_map.specs.History.{IsLegal}
use Rattle.versioned_map.specs.declared.command.Record.{Record}
use Rattle.answers.specs.declared.fault.ScriptFault.{ScriptFault}
use Rattle.answers.specs.declared.fault.ScriptFault.TheVariants as fault
use Rattle.answers.specs.driving.master.master_state.Data.{MasterData}
use Rattle.answers.specs.driving.master.master_state.Log.{opening_of}
use Rattle.disk_lines.specs.Groups.{AskFor}
use Rattle.disk_lines.specs.Runs.{Said, lines_of}
use Rattle.disk_lines.specs.Turns.{AnswersGroup, Gathers, HasRun, IsGathered, Known, TakesTurn}
use Rattle.disk_lines.proofs.Grouping.{answered_all, answered_short}
use Rattle.disk_lines.proofs.Telling.{has_run_after, runs_after, turn_after}
use Rattle.disk_lines.proofs.Turning.{stops_part, turn_no_memory, turn_unflushed, turn_unread}
use Rattle.disk_lines.proofs.running.run_turn.Goals as goal

asked_as_many : (ls : List LineValue) (rs : List Record) → AskFor ls rs → length ls ≡ length rs
asked_as_many [] [] are = refl
asked_as_many [] (r ∷ rs) are = absurd are
asked_as_many (l ∷ ls) [] are = absurd are
asked_as_many (l ∷ ls) (r ∷ rs) are = ap suc (asked_as_many ls rs are.1)

as_many_lines : (ss : List Said) → length (lines_of ss) ≡ length ss
as_many_lines [] = refl
as_many_lines (s ∷ ss) = ap suc (as_many_lines ss)

module _ (is_raw : Bool) where
  -- what was taken behind the group, whatever ended it
  taken_behind : (count : ℕ) (old mid : MasterData) (had left : Known) (text : List ℕ)
      (r : Result (Option Taken) ReadFault) → Gathers is_raw old mid had left text count r
      → (came : Known) × (part : List ℕ) × IsGathered is_raw count old mid had came × Consumes came left part
  taken_behind count old mid had left text (Ok None) g = (left, [], g.1, Consumes-nil left)
  taken_behind count old mid had left text (Ok (Some Ended)) (came, g, took) = (came, text ++ 10 ∷ [], g, took.0)
  taken_behind count old mid had left text (Ok (Some Last)) (came, g, took) = (came, text, g, took.0)
  taken_behind count old mid had left text (Ok (Some TooLong)) (came, g, took) = (came, text, g, took.0)
  taken_behind count old mid had left text (Ok (Some Nothing)) (came, g, took) = (came, [], g, took.0)
  taken_behind count old mid had left text (Err f) (came, g, stops) =
      let part = stops_part is_raw came left text f stops in (came, part.0, g, part.1)

  -- what was taken behind the group, as it was matched
  gathered_as : (count : ℕ) (old mid : MasterData) (had left : Known) (text : List ℕ)
      (r to : Result (Option Taken) ReadFault) → r ≡ to → Gathers is_raw old mid had left text count r
      → Gathers is_raw old mid had left text count to
  gathered_as count old mid had left text r to is g = subst (Gathers is_raw old mid had left text count) is g

  -- the records of the group are the last ones
  room_for : (count : ℕ) (old mid : MasterData) (had came : Known) → IsGathered is_raw count old mid had came
      → old.forgotten ≤ length old.history → mid.forgotten + count ≤ length mid.history
  room_for count old mid had came g within =
      let many = sym (asked_as_many (lines_of g.said) g.records g.asked) ∙ as_many_lines g.said ∙ g.many in
      let long = ap length g.applied.history ∙ length-append old.history g.records in
      let kept = g.applied.forgotten in
      omega (arith, many, long, kept, within)

  module _ (number count : ℕ) (old mid new : MasterData) (had held wrote holds : Known) (kept : Keeps held wrote)
      (first : IsLegal (opening_of old) old.history) (both : IsLegal (opening_of mid) mid.history)
      (within : old.forgotten ≤ length old.history) where
    -- the reader's flush kept what was written
    flushed_first : HasRun is_raw number number old old had had held wrote
    flushed_first = record {
      told = [];
      count = (let none : number ≡ number + 0 = omega arith in none);
      consumed = Consumes-nil had;
      tells = refl;
      printed = Appends-kept held held wrote [] (Appends-nil held) kept;
    }

    group_ran : (came : Known) → IsGathered is_raw count old mid had came
        → AnswersGroup is_raw count mid new wrote holds (Ok tt)
        → HasRun is_raw number (number + count) old new had came held holds
    group_ran came g a = has_run_after is_raw number number old old new had had came held wrote holds flushed_first
        (number + count)
        (answered_all is_raw old mid new had came first both within wrote holds number count g a)

    group_failed : (left : Known) (text : List ℕ) (r : Result (Option Taken) ReadFault) (f : ScriptFault)
        → Gathers is_raw old mid had left text count r → AnswersGroup is_raw count mid new wrote holds (Err f)
        → TakesTurn is_raw number old new had left held holds (Err f)
    group_failed left text r f gathers a =
        let behind = taken_behind count old mid had left text r gathers in
        runs_after is_raw number number old old new had had left held wrote holds flushed_first (Err f)
        (answered_short is_raw old mid new had behind.0 first both within wrote holds number count left behind.1 f
        behind.2 behind.3 a)

    group_alone : (left : Known) (text : List ℕ) → Gathers is_raw old mid had left text count (Ok None)
        → AnswersGroup is_raw count mid new wrote holds (Ok tt)
        → TakesTurn is_raw number old new had left held holds (Ok (Some (number + count)))
    group_alone left text (some, g) a = (omega (arith, some), group_ran left g a)

    group_then : (newer : MasterData) (left writes : Known) (text : List ℕ) (taken : Taken)
        (r : Result (Option ℕ) ScriptFault) → Gathers is_raw old mid had left text count (Ok (Some taken))
        → AnswersGroup is_raw count mid new wrote holds (Ok tt)
        → ((came : Known) → TakesLine is_raw came left text taken
        → TakesTurn is_raw (number + count) new newer came left holds writes r)
        → TakesTurn is_raw number old newer had left held writes r
    group_then newer left writes text taken r (came, g, took) a next =
        turn_after is_raw number (number + count) old new newer had came left held holds writes (group_ran came g a) r
        (next came took)

    read_failed : (left : Known) (text : List ℕ) → Gathers is_raw old mid had left text count (Err read.ReadFailed)
        → AnswersGroup is_raw count mid new wrote holds (Ok tt)
        → TakesTurn is_raw number old new had left held holds (Err fault.ReadFailed)
    read_failed left text (came, g, stops) a =
        let part = stops_part is_raw came left text read.ReadFailed stops in
        turn_after is_raw number (number + count) old new new had came left held holds holds (group_ran came g a)
        (Err fault.ReadFailed) (turn_unread is_raw new (number + count) came left holds part.0 part.1)

    write_failed : (left : Known) (text : List ℕ) → Gathers is_raw old mid had left text count (Err read.WriteFailed)
        → AnswersGroup is_raw count mid new wrote holds (Ok tt)
        → TakesTurn is_raw number old new had left held holds (Err fault.WriteFailed)
    write_failed left text (came, g, stops) a =
        let part = stops_part is_raw came left text read.WriteFailed stops in
        turn_after is_raw number (number + count) old new new had came left held holds holds (group_ran came g a)
        (Err fault.WriteFailed) (turn_unflushed is_raw new (number + count) came left holds part.0 part.1)

    no_memory : (left : Known) (text : List ℕ) → Gathers is_raw old mid had left text count (Err read.NoMemory)
        → AnswersGroup is_raw count mid new wrote holds (Ok tt)
        → TakesTurn is_raw number old new had left held holds (Err fault.NoMemory)
    no_memory left text (came, g, stops) a =
        let part = stops_part is_raw came left text read.NoMemory stops in
        turn_after is_raw number (number + count) old new new had came left held holds holds (group_ran came g a)
        (Err fault.NoMemory) (turn_no_memory is_raw new (number + count) came left holds part.0 part.1)

pub answer_group-requires : goal.answer_group-requires
answer_group-requires g c =
    let behind = taken_behind c.args.is_raw c.gather-count.result.0 c.args.store.now.master.knows
    c.gather-count.new.store.master.knows (g.R.Read.remaining c.args.reader.now)
    (g.R.Read.remaining c.gather-count.new.reader) c.gather-count.new.lines c.gather-count.result.1
    c.gather-count.ensures.gathered in
    room_for c.args.is_raw c.gather-count.result.0 c.args.store.now.master.knows c.gather-count.new.store.master.knows
    (g.R.Read.remaining c.args.reader.now) behind.0 behind.2 c.show_valid.ensures.history.within

pub returns-in-Err : goal.returns-in-Err
returns-in-Err g c =
    group_failed c.args.is_raw c.args.number c.gather-count.result.0 c.args.store.now.master.knows
    c.gather-count.new.store.master.knows c.answer_group.new.store.master.knows
    (g.R.Read.remaining c.args.reader.now) (g.W.Write.contents c.args.writer.now)
    (g.W.Write.contents c.gather-count.new.writer) (g.W.Write.contents c.answer_group.new.writer)
    c.gather-count.ensures.flushed c.show_valid.ensures.legal c.show_valid-2.ensures.legal
    c.show_valid.ensures.history.within
    (g.R.Read.remaining c.gather-count.new.reader) c.gather-count.new.lines c.gather-count.result.1 c.in-Err.fault
    c.gather-count.ensures.gathered c.in-Err.ensures

pub returns-in-Ok-Some : goal.returns-in-Ok-Some
returns-in-Ok-Some g c =
    group_then c.args.is_raw c.args.number c.gather-count.result.0 c.args.store.now.master.knows
    c.gather-count.new.store.master.knows c.answer_group.new.store.master.knows
    (g.R.Read.remaining c.args.reader.now) (g.W.Write.contents c.args.writer.now)
    (g.W.Write.contents c.gather-count.new.writer) (g.W.Write.contents c.answer_group.new.writer)
    c.gather-count.ensures.flushed c.show_valid.ensures.legal c.show_valid-2.ensures.legal
    c.show_valid.ensures.history.within c.run_taken.new.store.master.knows
    (g.R.Read.remaining c.gather-count.new.reader) (g.W.Write.contents c.run_taken.new.writer)
    c.gather-count.new.lines c.in-Ok-Some.taken c.run_taken.result
    (gathered_as c.args.is_raw c.gather-count.result.0 c.args.store.now.master.knows
    c.gather-count.new.store.master.knows (g.R.Read.remaining c.args.reader.now)
    (g.R.Read.remaining c.gather-count.new.reader) c.gather-count.new.lines c.gather-count.result.1
    (Ok (Some c.in-Ok-Some.taken))
    (c.in-Ok-Some.is ∙ ap Ok (rw c.in-Ok-Some.is at c.in-Ok-Some.field-0-is))
    c.gather-count.ensures.gathered)
    c.in_default.ensures
    (λ came took. c.run_taken.ensures came (g.R.Read.remaining c.gather-count.new.reader)
    (subst (λ (l : List ℕ). TakesLine c.args.is_raw came (g.R.Read.remaining c.gather-count.new.reader) l
    c.in-Ok-Some.taken) (sym c.text.ensures) took))

pub returns-in-Ok-None : goal.returns-in-Ok-None
returns-in-Ok-None g c =
    group_alone c.args.is_raw c.args.number c.gather-count.result.0 c.args.store.now.master.knows
    c.gather-count.new.store.master.knows c.answer_group.new.store.master.knows
    (g.R.Read.remaining c.args.reader.now) (g.W.Write.contents c.args.writer.now)
    (g.W.Write.contents c.gather-count.new.writer) (g.W.Write.contents c.answer_group.new.writer)
    c.gather-count.ensures.flushed c.show_valid.ensures.legal c.show_valid-2.ensures.legal
    c.show_valid.ensures.history.within
    (g.R.Read.remaining c.gather-count.new.reader) c.gather-count.new.lines
    (gathered_as c.args.is_raw c.gather-count.result.0 c.args.store.now.master.knows
    c.gather-count.new.store.master.knows (g.R.Read.remaining c.args.reader.now)
    (g.R.Read.remaining c.gather-count.new.reader) c.gather-count.new.lines c.gather-count.result.1 (Ok None)
    (c.in-Ok-None.is ∙ ap Ok (rw c.in-Ok-None.is at c.in-Ok-None.field-0-is))
    c.gather-count.ensures.gathered)
    c.in_default.ensures

pub returns-in-Err-ReadFailed : goal.returns-in-Err-ReadFailed
returns-in-Err-ReadFailed g c =
    read_failed c.args.is_raw c.args.number c.gather-count.result.0 c.args.store.now.master.knows
    c.gather-count.new.store.master.knows c.answer_group.new.store.master.knows
    (g.R.Read.remaining c.args.reader.now) (g.W.Write.contents c.args.writer.now)
    (g.W.Write.contents c.gather-count.new.writer) (g.W.Write.contents c.answer_group.new.writer)
    c.gather-count.ensures.flushed c.show_valid.ensures.legal c.show_valid-2.ensures.legal
    c.show_valid.ensures.history.within
    (g.R.Read.remaining c.gather-count.new.reader) c.gather-count.new.lines
    (gathered_as c.args.is_raw c.gather-count.result.0 c.args.store.now.master.knows
    c.gather-count.new.store.master.knows (g.R.Read.remaining c.args.reader.now)
    (g.R.Read.remaining c.gather-count.new.reader) c.gather-count.new.lines c.gather-count.result.1
    (Err read.ReadFailed)
    (c.in-Err-ReadFailed.is ∙ ap Err (rw c.in-Err-ReadFailed.is at c.in-Err-ReadFailed.field-0-is))
    c.gather-count.ensures.gathered)
    c.in_default.ensures

pub returns-in-Err-WriteFailed : goal.returns-in-Err-WriteFailed
returns-in-Err-WriteFailed g c =
    write_failed c.args.is_raw c.args.number c.gather-count.result.0 c.args.store.now.master.knows
    c.gather-count.new.store.master.knows c.answer_group.new.store.master.knows
    (g.R.Read.remaining c.args.reader.now) (g.W.Write.contents c.args.writer.now)
    (g.W.Write.contents c.gather-count.new.writer) (g.W.Write.contents c.answer_group.new.writer)
    c.gather-count.ensures.flushed c.show_valid.ensures.legal c.show_valid-2.ensures.legal
    c.show_valid.ensures.history.within
    (g.R.Read.remaining c.gather-count.new.reader) c.gather-count.new.lines
    (gathered_as c.args.is_raw c.gather-count.result.0 c.args.store.now.master.knows
    c.gather-count.new.store.master.knows (g.R.Read.remaining c.args.reader.now)
    (g.R.Read.remaining c.gather-count.new.reader) c.gather-count.new.lines c.gather-count.result.1
    (Err read.WriteFailed)
    (c.in-Err-WriteFailed.is ∙ ap Err (rw c.in-Err-WriteFailed.is at c.in-Err-WriteFailed.field-0-is))
    c.gather-count.ensures.gathered)
    c.in_default.ensures

pub returns-in-Err-NoMemory : goal.returns-in-Err-NoMemory
returns-in-Err-NoMemory g c =
    no_memory c.args.is_raw c.args.number c.gather-count.result.0 c.args.store.now.master.knows
    c.gather-count.new.store.master.knows c.answer_group.new.store.master.knows
    (g.R.Read.remaining c.args.reader.now) (g.W.Write.contents c.args.writer.now)
    (g.W.Write.contents c.gather-count.new.writer) (g.W.Write.contents c.answer_group.new.writer)
    c.gather-count.ensures.flushed c.show_valid.ensures.legal c.show_valid-2.ensures.legal
    c.show_valid.ensures.history.within
    (g.R.Read.remaining c.gather-count.new.reader) c.gather-count.new.lines
    (gathered_as c.args.is_raw c.gather-count.result.0 c.args.store.now.master.knows
    c.gather-count.new.store.master.knows (g.R.Read.remaining c.args.reader.now)
    (g.R.Read.remaining c.gather-count.new.reader) c.gather-count.new.lines c.gather-count.result.1 (Err read.NoMemory)
    (c.in-Err-NoMemory.is ∙ ap Err (rw c.in-Err-NoMemory.is at c.in-Err-NoMemory.field-0-is))
    c.gather-count.ensures.gathered)
    c.in_default.ensures
