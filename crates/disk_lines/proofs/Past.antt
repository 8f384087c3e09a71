-- Bad lines behind which a run goes on.
use Rattle.std.proofs.Common.{[], ◌≡◌, ◌∙◌, ℕ, ◌+◌, ◌-◌, ◌^◌, Bool, true, false, List, ◌∷◌, ◌++◌, ap, refl}
use Rattle.std.proofs.Common.{append-nil, inl, inr, subst, sym}
use Rattle.std.proofs.lemmas.List.Concat.{flat_map-append}
use Rattle.std.specs.Prelude.{Some, None, Result, Ok, Err}
use Rattle.std.specs.Io.KnownBytes.{Keeps}
use Rattle.lines.specs.declared.reason.Reason.TheVariants.{TooMany}
use Rattle.answers.specs.Errors.{Errors, Reports}
use Rattle.answers.specs.Texts.{fault_lines}
use Rattle.answers.specs.declared.fault.ScriptFault.{ScriptFault}
use Rattle.answers.specs.declared.fault.ScriptFault.TheVariants as fault
use Rattle.answers.proofs.Fronts.{reports_explain, reports_join}
use Rattle.answers.specs.driving.master.master_state.Data.{MasterData}
use Rattle.disk_lines.specs.Runs.{IsBad, RunsFrom}
use Rattle.disk_lines.specs.Skips.{EndsRun, IsLast, MaySkip, RunsLines, RunsPast, Skipped, Skips, ending, has_some}
use Rattle.disk_lines.specs.Skips.{reports_of}
use Rattle.disk_lines.specs.Turns.{Known}
use Rattle.disk_lines.proofs.Telling.{fails_to_flush, flushes, runs_dry, starts_running}

some_more : (ss : List Skipped) (s : Skipped) → has_some (ss ++ s ∷ []) ≡ true
some_more [] s = refl
some_more (x ∷ ss) s = refl

module _ (is_raw : Bool) where
  -- A run from the line with the first number on came to these bad lines, and went on behind each. The next line has
  -- the next number.
  abbrev pub PastTo : ℕ → MasterData → Known → Known → List Skipped → ℕ → MasterData → Known → Known → Type 0
  PastTo first old had held [] next now came wrote =
      (first ≡ next) × (old ≡ now) × (had ≡ came) × (held ≡ wrote)
  PastTo first old had held (s ∷ ss) next now came wrote = MaySkip s.why
      × RunsFrom is_raw first old s.knows had s.left held s.holds (Err (fault.BadLine s.number s.why))
      × PastTo (s.number + 1) s.knows s.left s.holds ss next now came wrote

  module _ (next : ℕ) (now new : MasterData) (came left wrote holds : Known) (r : Result (Unit {0}) ScriptFault)
      (runs : RunsFrom is_raw next now new came left wrote holds r) where
    from_there : (first : ℕ) (old : MasterData) (had held : Known) → first ≡ next → old ≡ now → had ≡ came
        → held ≡ wrote → RunsFrom is_raw first old new had left held holds r
    from_there first old had held number master reader writer =
        subst (λ (n : ℕ). RunsFrom is_raw n old new had left held holds r) (sym number)
        (subst (λ (d : MasterData). RunsFrom is_raw next d new had left held holds r) (sym master)
        (subst (λ (k : Known). RunsFrom is_raw next now new k left held holds r) (sym reader)
        (subst (λ (k : Known). RunsFrom is_raw next now new came left k holds r) (sym writer) runs)))

    -- how the run ended behind them
    pub past_end : (first : ℕ) (old : MasterData) (had held : Known) (ss : List Skipped)
        → PastTo first old had held ss next now came wrote → RunsPast is_raw first old new had left held holds ss r
    past_end first old had held [] (number, master, reader, writer) =
        from_there first old had held number master reader writer
    past_end first old had held (s ∷ ss) (may, before, rest) =
        (may, before, past_end (s.number + 1) s.knows s.left s.holds ss rest)

  -- one more
  pub past_more : (first : ℕ) (old : MasterData) (had held : Known) (ss : List Skipped) (next : ℕ) (now : MasterData)
      (came wrote : Known) (s : Skipped) → PastTo first old had held ss next now came wrote → MaySkip s.why
      → RunsFrom is_raw next now s.knows came s.left wrote s.holds (Err (fault.BadLine s.number s.why))
      → PastTo first old had held (ss ++ s ∷ []) (s.number + 1) s.knows s.left s.holds
  past_more first old had held [] next now came wrote s (number, master, reader, writer) may runs = (
    may,
    from_there next now s.knows came s.left wrote s.holds (Err (fault.BadLine s.number s.why)) runs first old had held
        number master reader writer,
    (refl, refl, refl, refl),
  )
  past_more first old had held (x ∷ ss) next now came wrote s (may_x, before, rest) may runs =
      (may_x, before, past_more (x.number + 1) x.knows x.left x.holds ss next now came wrote s rest may runs)

  -- the writer was flushed
  module _ (new : MasterData) (left wrote holds : Known) (kept : Keeps wrote holds) where
    pub flush_past : (first : ℕ) (old : MasterData) (had held : Known) (ss : List Skipped)
        (r : Result (Unit {0}) ScriptFault) → RunsPast is_raw first old new had left held wrote ss r
        → RunsPast is_raw first old new had left held holds ss r
    flush_past first old had held [] r runs = flushes is_raw first old new had left held wrote holds kept r runs
    flush_past first old had held (s ∷ ss) r (may, before, rest) =
        (may, before, flush_past (s.number + 1) s.knows s.left s.holds ss r rest)

    pub fail_past : (first : ℕ) (old : MasterData) (had held : Known) (ss : List Skipped) (done : Unit {0})
        → RunsPast is_raw first old new had left held wrote ss (Ok done)
        → RunsPast is_raw first old new had left held holds ss (Err fault.WriteFailed)
    fail_past first old had held [] done runs =
        fails_to_flush is_raw first old new had left held wrote holds kept done runs
    fail_past first old had held (s ∷ ss) done (may, before, rest) =
        (may, before, fail_past (s.number + 1) s.knows s.left s.holds ss done rest)

  -- ---- a loop over bad lines

  -- the bad lines so far
  pub record IsPast (keeps : Bool) (old : MasterData) (had held : Known) (before : Errors) (next : ℕ) (now : MasterData)
      (came wrote : Known) (during : Errors) (some : Bool) : Type 0 where
    pub skipped : List Skipped
    pub past : PastTo 1 old had held skipped next now came wrote
    pub stops : keeps ≡ false → skipped ≡ []
    pub tells : some ≡ has_some skipped
    pub reports : Reports before during (reports_of before.explains skipped)

  pub starts_past : (keeps : Bool) (d : MasterData) (had held : Known) (e : Errors)
      → IsPast keeps d had held e 1 d had held e false
  starts_past keeps d had held e = record {
    skipped = [];
    past = (refl, refl, refl, refl);
    stops = λ none. refl;
    tells = refl;
    reports = refl;
  }

  -- a fault that ends even a run that goes on
  ends_for_good : (first : ℕ) (old new : MasterData) (had left held holds : Known) (f : ScriptFault)
      → RunsFrom is_raw first old new had left held holds (Err f) → IsLast f → EndsRun f
  ends_for_good first old new had left held holds (fault.BadLine number why) runs last =
      by_cause runs.ends.3 where
        by_cause : IsBad is_raw number runs.ends.1 left why → MaySkip why → ⊥
        by_cause (inl long) may = subst MaySkip long.0 may
        by_cause (inr (inl (text, is, below, none))) may = last may below
        by_cause (inr (inr many)) may = subst MaySkip many.0 may
  ends_for_good first old new had left held holds fault.ReadFailed runs last = tt
  ends_for_good first old new had left held holds fault.WriteFailed runs last = tt
  ends_for_good first old new had left held holds fault.NoMemory runs last = tt

  module _ (keeps : Bool) (old : MasterData) (had held : Known) (before : Errors) (next : ℕ) (now : MasterData)
      (came wrote : Known) (during : Errors) (some : Bool)
      (p : IsPast keeps old had held before next now came wrote during some) where
    -- one more line was skipped
    pub skips_more : (f : ScriptFault) (later : ℕ) (new : MasterData) (left holds : Known) (after : Errors)
        → RunsFrom is_raw next now new came left wrote holds (Err f) → Skips keeps f during after (Some later)
        → IsPast keeps old had held before later new left holds after true
    skips_more (fault.BadLine number why) later new left holds after runs (on, may, below, is, reported) =
        let s : Skipped =
        record { number = number; why = why; knows = new; left = left; holds = holds } in
        let explains = reports_explain before during (reports_of before.explains p.skipped) p.reports in
        subst (λ (n : ℕ). IsPast keeps old had held before n new left holds after true) (sym is)
        (record {
          skipped = p.skipped ++ s ∷ [];
          past = past_more 1 old had held p.skipped next now came wrote s p.past may runs;
          stops = λ (off : keeps ≡ false). absurd (cc);
          tells = sym (some_more p.skipped s);
          reports = subst (Reports before after)
              (sym (flat_map-append (λ (x : Skipped). fault_lines before.explains (fault.BadLine x.number x.why))
              p.skipped
              (s ∷ [])
              ∙ ap (λ l. reports_of before.explains p.skipped ++ l)
              (append-nil (fault_lines before.explains (fault.BadLine number why)))))
              (reports_join before during after (reports_of before.explains p.skipped)
              (fault_lines before.explains (fault.BadLine number why)) p.reports
              (subst (λ (e : Bool). Reports during after (fault_lines e (fault.BadLine number why))) explains
              reported));
        })
    skips_more fault.ReadFailed later new left holds after runs none = absurd none
    skips_more fault.WriteFailed later new left holds after runs none = absurd none
    skips_more fault.NoMemory later new left holds after runs none = absurd none

    -- the lines ended
    pub ends_past : (new : MasterData) (left holds : Known)
        → RunsFrom is_raw next now new came left wrote holds (Ok tt)
        → RunsLines keeps is_raw old new had left held holds before during (Ok some)
    ends_past new left holds runs = record {
      skipped = p.skipped;
      runs = past_end next now new came left wrote holds (Ok tt) runs 1 old had held p.skipped p.past;
      stops = p.stops;
      goes_on = λ on. tt;
      tells = p.tells;
      reports = p.reports;
    }

    -- a fault ended the run
    pub fails_past : (f : ScriptFault) (new : MasterData) (left holds : Known) (after : Errors)
        → RunsFrom is_raw next now new came left wrote holds (Err f) → Skips keeps f during after None
        → RunsLines keeps is_raw old new had left held holds before after (Err f)
    fails_past f new left holds after runs (same, last) = record {
      skipped = p.skipped;
      runs = past_end next now new came left wrote holds (Err f) runs 1 old had held p.skipped p.past;
      stops = p.stops;
      goes_on = λ on. ends_for_good next now new came left wrote holds f runs (last on);
      tells = tt;
      reports = subst (λ (e : Errors). Reports before e (reports_of before.explains p.skipped)) (sym same) p.reports;
    }

    -- no further line can have a number
    pub dry_past : next ≡ 2 ^ 64 - 1
        → RunsLines keeps is_raw old now had came held wrote before during
        (Err (fault.BadLine (2 ^ 64 - 1) TooMany))
    dry_past is = record {
      skipped = p.skipped;
      runs = past_end next now now came came wrote wrote (Err (fault.BadLine (2 ^ 64 - 1) TooMany))
          (runs_dry is_raw next now now came came wrote wrote next is (starts_running is_raw next now came wrote))
          1 old had held p.skipped p.past;
      stops = p.stops;
      goes_on = λ on may. may;
      tells = tt;
      reports = p.reports;
    }

  module _ (keeps : Bool) (old new : MasterData) (had left held wrote holds : Known) (kept : Keeps wrote holds)
      (before after : Errors) where
    pub flush_lines : (r : Result Bool ScriptFault)
        → RunsLines keeps is_raw old new had left held wrote before after r
        → RunsLines keeps is_raw old new had left held holds before after r
    flush_lines r is = record {
      skipped = is.skipped;
      runs = flush_past new left wrote holds kept 1 old had held is.skipped (ending r) is.runs;
      stops = is.stops;
      goes_on = is.goes_on;
      tells = is.tells;
      reports = is.reports;
    }

    pub fail_lines : (some : Bool) → RunsLines keeps is_raw old new had left held wrote before after (Ok some)
        → RunsLines keeps is_raw old new had left held holds before after (Err fault.WriteFailed)
    fail_lines some is = record {
      skipped = is.skipped;
      runs = fail_past new left wrote holds kept 1 old had held is.skipped tt is.runs;
      stops = is.stops;
      goes_on = λ on. tt;
      tells = tt;
      reports = is.reports;
    }
