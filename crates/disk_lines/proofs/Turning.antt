-- A line that is run by itself.
use Rattle.std.proofs.Common.{[], ◌∙◌, ℕ, ◌+◌, ◌-◌, ◌^◌, ◌<◌, Bool, List, ◌∷◌, ◌++◌, arith, inl, inr, refl, subst, sym}
use Rattle.std.proofs.lemmas.List.{append-nil}
use Rattle.std.specs.Prelude.{Some, None, Result, Ok, Err}
use Rattle.std.specs.Io.KnownBytes.{Appends, Consumes}
use Rattle.std.proofs.KnownBytes.{Appends-kept, Appends-nil, Appends-trans}
use Rattle.lines.specs.Grammar.{LineValue}
use Rattle.raw_lines.specs.Raw.{SaysIn}
use Rattle.lines.specs.Reading.{IsLineText, StopsIn, TakesLine}
use Rattle.lines.specs.declared.reading.ReadFault.{ReadFault}
use Rattle.lines.specs.declared.reading.ReadFault.TheVariants as read
use Rattle.lines.specs.declared.reading.Taken.TheVariants.{Ended, Last, TooLong, Nothing}
use Rattle.lines.specs.declared.reason.Reason.TheVariants as reason
use Rattle.answers.proofs.Fronts.{cut_later, cut_there}
use Rattle.answers.specs.declared.fault.ScriptFault.{ScriptFault}
use Rattle.answers.specs.declared.fault.ScriptFault.TheVariants as fault
use Rattle.answers.specs.driving.master.master_state.Data.{MasterData}
use Rattle.disk_lines.specs.Lines.{RunsLine}
use Rattle.disk_lines.specs.Runs.{AreLines, IsTakenLine, IsTold, RunsFrom, Told}
use Rattle.disk_lines.specs.Turns.{IsWritten, Known, PrintsText, TakesTurn}
use Rattle.disk_lines.proofs.Telling.{ends_there}

-- ---- what was written

-- some bytes were written, and then more
pub then_written : (held mid holds : Known) (bytes more : List ℕ) (r : Result (Unit {0}) ScriptFault)
    → Appends held mid bytes → IsWritten mid holds more r → IsWritten held holds (bytes ++ more) r
then_written held mid holds bytes more (Ok done) all next = Appends-trans held mid holds bytes more all next
then_written held mid holds bytes more (Err f) all next = (next.0, cut_later held mid holds bytes more all next.1)

-- the writer failed before more was written
pub cut_written : (held holds : Known) (bytes more : List ℕ) (f : ScriptFault) → IsWritten held holds bytes (Err f)
    → IsWritten held holds (bytes ++ more) (Err f)
cut_written held holds bytes more f cut = (cut.0, cut_there held holds bytes more cut.1)

module _ (is_raw : Bool) where
  -- the line of a text was run, and what is printed of it was written as far as the writer took it
  pub text_written : (old new : MasterData) (text : List ℕ) (number : ℕ) (held holds : Known) (line : LineValue)
      (printed : List ℕ) (r : Result (Unit {0}) ScriptFault) → SaysIn is_raw text line
      → RunsLine is_raw old line new printed → IsWritten held holds printed r
      → PrintsText is_raw old new text number held holds r
  text_written old new text number held holds line printed (Ok done) says runs written =
      (line, printed, says, runs, written)
  text_written old new text number held holds line printed (Err (fault.BadLine n why)) says runs written =
      let no = written.0 in absurd (cc)
  text_written old new text number held holds line printed (Err fault.ReadFailed) says runs written =
      (line, printed, says, runs, written)
  text_written old new text number held holds line printed (Err fault.WriteFailed) says runs written =
      (line, printed, says, runs, written)
  text_written old new text number held holds line printed (Err fault.NoMemory) says runs written =
      (line, printed, says, runs, written)

  -- ---- a turn of one line

  module _ (old new : MasterData) (number : ℕ) (had left held holds : Known) (text : List ℕ) where
    abbrev one_line : LineValue → List ℕ → Told
    one_line line printed = record { said = record { text = text; line = line } ∷ []; printed = printed }

    told_so : (line : LineValue) (printed : List ℕ) → IsLineText is_raw text → SaysIn is_raw text line
        → RunsLine is_raw old line new printed → IsTold is_raw old (one_line line printed) new
    told_so line printed whole says runs =
        record { says = ((whole, says), tt); runs = inl (line, refl, runs) }

    pub turn_more : TakesLine is_raw had left text Ended
        → PrintsText is_raw old new text number held holds (Ok tt)
        → TakesTurn is_raw number old new had left held holds (Ok (Some (number + 1)))
    turn_more taken (line, printed, says, runs, written) = (
      omega arith,
      record {
        told = one_line line printed ∷ [];
        count = refl;
        consumed = subst (Consumes had left) (sym (append-nil (text ++ 10 ∷ []))) taken.0;
        tells = (new, told_so line printed taken.1 says runs, refl);
        printed = subst (Appends held holds) (sym (append-nil printed)) written;
      },
    )

    pub turn_last : TakesLine is_raw had left text Last → PrintsText is_raw old new text number held holds (Ok tt)
        → TakesTurn is_raw number old new had left held holds (Ok None)
    turn_last taken (line, printed, says, runs, written) = record {
      told = one_line line printed ∷ [];
      taken = text;
      consumed = taken.0;
      tells = (new, told_so line printed taken.3 says runs, refl);
      ends = (inr ([], record { text = text; line = line }, refl, refl, taken.2), taken.1);
      prints = subst (Appends held holds) (sym (append-nil printed)) written;
    }

    -- the bytes that were taken for the line
    module _ (bytes : List ℕ) (consumed : Consumes had left bytes) (is : IsTakenLine text bytes left)
        (whole : IsLineText is_raw text) where
      lines_are : (line : LineValue) → AreLines (record { text = text; line = line } ∷ []) bytes
      lines_are line = by_end is where
        by_end : IsTakenLine text bytes left → AreLines (record { text = text; line = line } ∷ []) bytes
        by_end (inl e) = inl (e ∙ sym (append-nil (text ++ 10 ∷ [])))
        by_end (inr e) = inr ([], record { text = text; line = line }, refl, e.0, e.1)

      pub turn_fails : (f : ScriptFault) → number < 2 ^ 64 - 1
          → PrintsText is_raw old new text number held holds (Err f)
          → TakesTurn is_raw number old new had left held holds (Err f)
      turn_fails (fault.BadLine n why) below (is_number, none, kept, same) =
          subst (λ (d : MasterData). RunsFrom is_raw number old d had left held holds (Err (fault.BadLine n why)))
          (sym same)
          (ends_there is_raw number old had left held holds bytes (Err (fault.BadLine n why)) consumed (
            omega (arith, is_number),
            bytes,
            refl,
            inr (inl (text, is, (let now : n < 2 ^ 64 - 1 = omega (arith, is_number, below) in now), none)),
          )
          (Appends-kept held held holds [] (Appends-nil held) kept))
      turn_fails fault.ReadFailed below p = let no = p.4.0 in absurd (cc)
      turn_fails fault.WriteFailed below (line, printed, says, runs, written) = record {
        told = one_line line printed ∷ [];
        taken = bytes;
        consumed = consumed;
        tells = (new, told_so line printed whole says runs, refl);
        ends = inl (lines_are line);
        prints = inr (
          [],
          one_line line printed,
          written.1.0,
          written.1.1,
          refl,
          written.1.2,
          written.1.3,
        );
      }
      turn_fails fault.NoMemory below p = let no = p.4.0 in absurd (cc)

    pub ended_fails : (f : ScriptFault) → number < 2 ^ 64 - 1 → TakesLine is_raw had left text Ended
        → PrintsText is_raw old new text number held holds (Err f)
        → TakesTurn is_raw number old new had left held holds (Err f)
    ended_fails f below taken p = turn_fails (text ++ 10 ∷ []) taken.0 (inl refl) taken.1 f below p

    pub last_fails : (f : ScriptFault) → number < 2 ^ 64 - 1 → TakesLine is_raw had left text Last
        → PrintsText is_raw old new text number held holds (Err f)
        → TakesTurn is_raw number old new had left held holds (Err f)
    last_fails f below taken p = turn_fails text taken.0 (inr (refl, taken.2, taken.1)) taken.3 f below p

  -- ---- a turn without a line

  module _ (d : MasterData) (number : ℕ) (had left held : Known) (text : List ℕ) where
    pub turn_ends : TakesLine is_raw had left text Nothing
        → TakesTurn is_raw number d d had left held held (Ok None)
    turn_ends taken =
        ends_there is_raw number d had left held held [] (Ok tt) taken.0 (inl refl, taken.1) (Appends-nil held)

    pub turn_too_long : TakesLine is_raw had left text TooLong
        → TakesTurn is_raw number d d had left held held (Err (fault.BadLine number reason.TooLong))
    turn_too_long taken =
        ends_there is_raw number d had left held held text (Err (fault.BadLine number reason.TooLong)) taken.0
        (omega arith, text, refl, inl (refl, taken.1, taken.2)) (Appends-nil held)

  -- a read of a line ended in a fault
  pub stops_part : (had left : Known) (text : List ℕ) (f : ReadFault) → StopsIn is_raw had left text f
      → (part : List ℕ) × Consumes had left part
  stops_part had left text read.ReadFailed stops = (text, stops.0)
  stops_part had left text read.WriteFailed stops = (text, stops.0)
  stops_part had left text read.NoMemory stops = ([], stops.0)

  module _ (d : MasterData) (number : ℕ) (had left held : Known) (part : List ℕ) (consumed : Consumes had left part)
    where
      pub turn_unread : TakesTurn is_raw number d d had left held held (Err fault.ReadFailed)
      turn_unread = ends_there is_raw number d had left held held part (Err fault.ReadFailed) consumed (part, refl)
          (Appends-nil held)

      pub turn_unflushed : TakesTurn is_raw number d d had left held held (Err fault.WriteFailed)
      turn_unflushed = ends_there is_raw number d had left held held part (Err fault.WriteFailed) consumed
          (inr (part, refl)) (inl (Appends-nil held))

      pub turn_no_memory : TakesTurn is_raw number d d had left held held (Err fault.NoMemory)
      turn_no_memory = ends_there is_raw number d had left held held part (Err fault.NoMemory) consumed (part, refl)
          (Appends-nil held)
