-- Bad lines that are skipped, and what is reported of them.
use Rattle.std.proofs.Common.{[], ◌≡◌, ◌∙◌, ℕ, suc, ◌+◌, Bool, true, false, List, ◌∷◌, ◌++◌, length, ap, sym, subst}
use Rattle.std.proofs.Common.{arith, inl, refl, append-nil, append_assoc}
use Rattle.std.proofs.Common.{◌&&◌}
use Rattle.std.specs.Prelude.{Option, None, Some, Ok, Err, codes}
use Rattle.std.specs.Fmt.{decimal}
use Rattle.std.specs.Io.KnownBytes.{Appends}
use Rattle.std.proofs.KnownBytes.{Appends-kept, Appends-nil}
use Rattle.raw_answers.proofs.of_answers.Fronts.{writes_more}
use Rattle.lines.specs.Grammar.{LineValue, Idle}
use Rattle.lines.specs.Reading.{IsLineText}
use Rattle.next_master.specs.answers.Errors.{Errors, Reports, Writes}
use Rattle.next_master.specs.answers.Texts.{fault_lines}
use Rattle.next_master.specs.answers.declared.answer.Answer.{Answer}
use Rattle.next_master.specs.answers.declared.answer.Answer.TheVariants.{Silent}
use Rattle.next_master.specs.answers.declared.fault.ScriptFault.{ScriptFault}
use Rattle.next_master.specs.answers.declared.fault.ScriptFault.TheVariants as fault
use Rattle.next_master.proofs.of_cluster.Standing.{stays_told}
use Rattle.raw_answers.specs.Texts.{told_text}
use Rattle.script.specs.declared.session.Session.{Session}
use Rattle.script.specs.Runs.{EndsRun, IsScriptLine, ReportsAll, RunResult, has_command, has_skipped}
use Rattle.script.specs.Runs.{has_unsure, made_by, may_be_made, report_of, reports_of, skips_as, unsure_line}
use Rattle.script.specs.Sessions.{RunsLine}
use Rattle.script.specs.Telling.{Told}
use Rattle.script.specs.Turns.{IsNoBadLine, PrintsText, ReportsBadLine, RunsText, TakesText}
use Rattle.script.proofs.Sessions.{node_answers}

-- ---- commands that may have been made

-- the line that says so was written by its parts, and the output was flushed
pub unsure_written : (a b c d e : Errors) (number : ℕ) → Writes a b (codes "ramlog: the command of line ")
    → Writes b c (decimal number) → Writes c d (codes " may have been made" ++ 10 ∷ []) → Writes d e []
    → Writes a e (unsure_line true true number)
unsure_written a b c d e number head digits tail flushed =
    let line = codes "the command of line " in
    let end = codes " may have been made" in
    let whole = append_assoc line (decimal number ++ end) (10 ∷ [])
    ∙ ap (λ l. line ++ l) (append_assoc (decimal number) end (10 ∷ [])) in
    subst (Writes a e) (append-nil _ ∙ ap (λ l. codes "ramlog: " ++ l) (sym whole))
    (writes_more a d e _ [] (writes_more a b d _ _ head (writes_more b c d _ _ digits tail)) flushed)

-- whether a line may have been made is whether its command is unsure, if it has one
pub made_if : (line : LineValue) (unsure : Bool) → has_command line ≡ true → has_command line && unsure ≡ unsure
made_if line unsure has = ap (λ b. b && unsure) has

pub made_not : (line : LineValue) (unsure : Bool) → has_command line ≡ false → has_command line && unsure ≡ false
made_not line unsure has = ap (λ b. b && unsure) has

-- ---- what was reported

-- all lines were reported, however the run ended
pub all_reported : (before after : Errors) (told : List Told) (result : RunResult)
    → Reports before after (reports_of before.explains 1 told) → ReportsAll before after told result
all_reported before after told (Ok skipped) reports = reports
all_reported before after told (Err (fault.BadLine n why)) reports = reports
all_reported before after told (Err fault.ReadFailed) reports = reports
all_reported before after told (Err fault.WriteFailed) reports = inl reports
all_reported before after told (Err fault.NoMemory) reports = reports

-- the reports of one line more
pub reports_more : (explains : Bool) (first : ℕ) (told : List Told) (t : Told) (number : ℕ)
    → first + length told ≡ number
    → reports_of explains first (told ++ t ∷ []) ≡ reports_of explains first told ++ report_of explains number t
reports_more explains first [] t number count =
    let same : first ≡ number = omega (arith, count) in
    append-nil (report_of explains first t) ∙ ap (λ (n : ℕ). report_of explains n t) same
reports_more explains first (u ∷ us) t number count =
    ap (λ l. report_of explains first u ++ l) (reports_more explains (suc first) us t number (omega (arith, count)))
    ∙ sym (append_assoc (report_of explains first u) (reports_of explains (suc first) us) (report_of explains number t))

pub has_more : (before : Bool) (told : List Told) (t : Told)
    → has_skipped before (told ++ t ∷ []) ≡ skips_as (has_skipped before told) t.skipped
has_more before [] t = refl
has_more before (u ∷ us) t = has_more (skips_as before u.skipped) us t

-- ---- lines

-- a fleet of as many backups
pub fleet_line : (keeps is_raw : Bool) (was now : ℕ) (t : Told) → was ≡ now → IsScriptLine keeps is_raw was t
    → IsScriptLine keeps is_raw now t
fleet_line keeps is_raw was now t same is = subst (λ (n : ℕ). IsScriptLine keeps is_raw n t) same is

-- what is told of a line that was run
abbrev pub runs_told : (is_raw : Bool) (text : List ℕ) (answer : Answer) (old new : Session)
    → RunsText is_raw old text new answer → Told
runs_told is_raw text answer old new runs = record {
  text = text;
  line = runs.line;
  answer = answer;
  skipped = None;
  unsure = may_be_made old runs.line new;
}

pub ends_none : (f : ScriptFault) → IsNoBadLine f → EndsRun f
ends_none (fault.BadLine n why) none = absurd none
ends_none fault.ReadFailed none = tt
ends_none fault.WriteFailed none = tt
ends_none fault.NoMemory none = tt

-- an empty line leaves a session as it is
idle_runs : (s : Session) → RunsLine s Idle s Silent
idle_runs s = inl (node_answers s Idle s.node Silent
    (λ config number. stays_told s.node config Idle Silent (λ d at x. (refl, refl))) refl refl refl refl tt)

module _ (keeps is_raw : Bool) (old new : Session) (text : List ℕ) (number : ℕ) (held holds : Option (List ℕ))
    (before after : Errors) (was : Bool) where
  -- the line was run, and it was reported if its command is unsure
  run_taken : (answer : Answer) → IsLineText is_raw text → (runs : RunsText is_raw old text new answer)
      → Appends held holds (told_text is_raw answer)
      → Reports before after (unsure_line (may_be_made old runs.line new) before.explains number)
      → TakesText keeps is_raw old new text number held holds before after was was (Ok tt)
  run_taken answer whole runs printed reports = (
    runs_told is_raw text answer old new runs,
    refl,
    record {
      line = record { whole = whole; says = runs.says; of_fleet = runs.of_fleet };
      turn = (runs.runs, tt, refl);
      prints = printed;
      reports = reports;
    },
    refl,
  )

  -- the line of a command was run
  pub command_taken : (made : Option ℕ) → made ≡ made_by old.node → IsLineText is_raw text → (has : Bool) → has ≡ true
      → PrintsText is_raw old new text number held holds (Ok has)
      → Reports before after (unsure_line (has_unsure made new.node) before.explains number)
      → TakesText keeps is_raw old new text number held holds before after was was (Ok tt)
  command_taken made is whole has one (answer, runs, printed, same) reports =
      let unsure : has_unsure made new.node ≡ may_be_made old runs.line new =
      ap (λ (m : Option ℕ). has_unsure m new.node) is
      ∙ sym (made_if runs.line (has_unsure (made_by old.node) new.node) (same ∙ one)) in
      run_taken answer whole runs printed
      (subst (λ (b : Bool). Reports before after (unsure_line b before.explains number)) unsure reports)

  -- a line without a command was run
  pub other_taken : IsLineText is_raw text → (has : Bool) → has ≡ false
      → PrintsText is_raw old new text number held holds (Ok has)
      → after ≡ before → TakesText keeps is_raw old new text number held holds before after was was (Ok tt)
  other_taken whole has none (answer, runs, printed, same) kept =
      let sure : false ≡ may_be_made old runs.line new =
      sym (made_not runs.line (has_unsure (made_by old.node) new.node) (same ∙ none)) in
      run_taken answer whole runs printed
      (subst (λ (b : Bool). Reports before after (unsure_line b before.explains number)) sure kept)

  -- the line is bad, and was reported
  pub skip_taken : (f : ScriptFault) → keeps ≡ true → IsLineText is_raw text
      → PrintsText is_raw old new text number held holds (Err f) → ReportsBadLine f before after true
      → TakesText keeps is_raw old new text number held holds before after was true (Ok tt)
  skip_taken (fault.BadLine n why) on whole p reported = (
    record { text = text; line = Idle; answer = Silent; skipped = Some why; unsure = false },
    refl,
    record {
      line = (on, record { whole = whole; idle = refl; silent = refl; reason = p.3 });
      turn = ((old, idle_runs old, p.4), p.1, refl);
      prints = Appends-kept held held holds [] (Appends-nil held) p.2;
      reports = subst (Writes before after)
          (sym (append-nil (fault_lines before.explains (fault.BadLine number why))))
          (subst (λ (k : ℕ). Writes before after (fault_lines before.explains (fault.BadLine k why))) p.0 reported.1);
    },
    refl,
  )
  skip_taken fault.ReadFailed on whole p reported = absurd p
  skip_taken fault.WriteFailed on whole p reported = let no = reported.0 in absurd (cc)
  skip_taken fault.NoMemory on whole p reported = let no = reported.0 in absurd (cc)

  -- the fault is no bad line
  pub fault_taken : (f : ScriptFault) → PrintsText is_raw old new text number held holds (Err f)
      → ReportsBadLine f before after false
      → TakesText keeps is_raw old new text number held holds before after was was (Err f)
  fault_taken (fault.BadLine n why) p reported = let no = reported.0 in absurd (cc)
  fault_taken fault.ReadFailed p reported = absurd p
  fault_taken fault.WriteFailed p reported = (p, reported.1, λ on. tt)
  fault_taken fault.NoMemory p reported = (p, reported.1, λ on. tt)
