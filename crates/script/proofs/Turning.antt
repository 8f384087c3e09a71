-- Lines that are run in turn.
use Rattle.std.proofs.Common.{[], ◌≡◌, ℕ, suc, ◌+◌, ◌-◌, ◌^◌, ◌<◌, ◌≤◌, Bool, true, false, List, ◌∷◌, ◌++◌, length}
use Rattle.std.proofs.Common.{refl}
use Rattle.std.proofs.Common.{sym, ap, subst, inl, inr, ◌∙◌, arith}
use Rattle.std.proofs.lemmas.List.{append-nil, length-append}
use Rattle.std.proofs.lemmas.List.Elements.{All-nil, All-push}
use Rattle.std.proofs.lemmas.List.Concat.{flat_map-append}
use Rattle.std.specs.Prelude.{Option, None, Some, IfErr, Result, Ok, Err}
use Rattle.std.specs.Io.KnownBytes.{Appends, Consumes, IsAtEnd, Keeps}
use Rattle.std.proofs.KnownBytes.{Appends-nil, Appends-trans, Appends-kept, Consumes-nil, Consumes-trans, Keeps-trans}
use Rattle.std.specs.List.{All}
use Rattle.lines.specs.Reading.{IsLineText, StopsIn, TakesLine}
use Rattle.lines.specs.declared.reading.ReadFault.{ReadFault}
use Rattle.lines.specs.declared.reading.Taken.{Taken}
use Rattle.lines.specs.declared.reason.Reason.{Reason}
use Rattle.versioned_map.specs.declared.command.Record.{Record}
use Rattle.next_master.specs.master.master_state.declared.config.Config.{Config}
use Rattle.next_master.specs.master.master_state.Data.{Origin, MasterData, no_origin}
use Rattle.next_master.specs.master.master_state.Log.{opening_of}
use Rattle.versioned_map.specs.Represents.{empty_state}
use Rattle.next_master.specs.answers.declared.answer.Answer.{Answer}
use Rattle.next_master.specs.answers.declared.fault.ScriptFault.{ScriptFault}
use Rattle.next_master.specs.answers.declared.fault.ScriptFault.TheVariants as fault
use Rattle.script.specs.declared.session.Session.{Session}
use Rattle.script.specs.Runs.{AreRunOn, IsScriptLine, IsTurn, texts_of, answers_of, AreLines, IsTakenLine}
use Rattle.script.specs.Runs.{IsBadLine, IsReasonFor, EndsRun, EndsWith, CutsLast, Prints, RunsScript}
use Rattle.script.specs.Runs.{ReportsAll, has_command, has_skipped, report_of, reports_of, skips_as}
use Rattle.next_master.specs.answers.Errors.{AppendsFront, Errors, Reports}
use Rattle.command_line.specs.declared.settings.Options.{Options}
use Rattle.lines.specs.Grammar.{LineValue, Recover}
use Rattle.next_master.specs.Configuration.{config_of, MayBegin}
use Rattle.next_master.specs.cluster.Lives.{Life, Position, at_start}
use Rattle.script.specs.Sessions.{RunsLine, RunsTurn, BeginsSession, IsCovered, AreLaterUnraised, Stands}
use Rattle.next_master.specs.Recoveries.{standing_of}
use Rattle.next_master.specs.cluster.Served.{AnswersLine, IsNodeAt, life_of}
use Rattle.raw_answers.specs.Texts.{told_text}
use Rattle.lines.specs.Scanning.{line_limit}
use Rattle.next_master.specs.Succession.{Standing, Succeeds}
use Rattle.script.specs.Telling.{at_first, Moves, AreTelling, TellLives, Told}
use Rattle.next_master.specs.cluster.Told.{Tells}
use Rattle.script.specs.Turns.{FailsTurn, IsNoMore, IsPrinted, IsPrintedPlain, PrintsText, RunsText, TakesText}
use Rattle.script.specs.Turns.{TakesTurn, TellsTurn}
use Rattle.raw_answers.proofs.of_answers.Fronts.{reports_explain, reports_join}
use Rattle.script.proofs.Skipping.{all_reported, ends_none, fleet_line, has_more, reports_more, runs_told}
use Rattle.script.proofs.Sessions.{begins_later, options_kept, options_renewed, options_stay, renewed_begins, told_of}
use Rattle.script.proofs.Forgetting.{same_config, same_set, still_begins, still_covered, still_numbered, still_there}
use Rattle.script.proofs.Forgetting.{still_unraised}
use Rattle.script.proofs.LaterMasters.{begins_unraised, line_numbers, line_unraised}
use Rattle.script.proofs.Succeeding.{nothing_more, telling_longer, telling_more, with_more}
use Rattle.next_master.proofs.of_cluster.Standing.{legal_of, same_opening}
use Rattle.entry.specs.Meaning.{contents_of}

module _ (is_raw : Bool) where
  -- ---- a line that was run

  -- and of whose answer the writer took a front
  pub answer_cut : (old new : Session) (text : List ℕ) (number : ℕ) (held holds : Option (List ℕ)) (answer : Answer)
      (e : ScriptFault) → RunsText is_raw old text new answer → IsPrinted is_raw held holds answer (Err e)
      → PrintsText is_raw old new text number held holds (Err e)
  answer_cut old new text number held holds answer e runs failed =
      subst (λ (f : ScriptFault). PrintsText is_raw old new text number held holds (Err f)) (sym failed.0)
      (answer, runs, failed.1)

  pub plain_printed : (old new : Session) (text : List ℕ) (number : ℕ) (held holds : Option (List ℕ)) (answer : Answer)
      (r : Result Bool ScriptFault) → (runs : RunsText is_raw old text new answer) → has_command runs.line ≡ false
      → IsPrintedPlain is_raw held holds answer r → PrintsText is_raw old new text number held holds r
  plain_printed old new text number held holds answer (Ok has) runs none printed =
      (answer, runs, printed.1, none ∙ sym printed.0)
  plain_printed old new text number held holds answer (Err e) runs none failed =
      answer_cut old new text number held holds answer e runs failed

  -- ---- what was taken for a line

  pub taken_as : (had left : Option (List ℕ)) (text bytes : List ℕ) (was is : Taken) → was ≡ is → text ≡ bytes
      → TakesLine is_raw had left text was
      → TakesLine is_raw had left bytes is
  taken_as had left text bytes was is same whole there =
      subst (λ (l : List ℕ). TakesLine is_raw had left l is) whole
      (subst (λ (t : Taken). TakesLine is_raw had left text t) same there)

  pub stopped_as : (had left : Option (List ℕ)) (text : List ℕ) (was is : ReadFault) → was ≡ is
      → StopsIn is_raw had left text was → StopsIn is_raw had left text is
  stopped_as had left text was is same there = subst (λ (f : ReadFault). StopsIn is_raw had left text f) same there

  -- ---- the writer was flushed before the line was run

  kept_first : (held wrote holds : Option (List ℕ)) (bytes : List ℕ) → Keeps held wrote → Appends wrote holds bytes
      → Appends held holds bytes
  kept_first None wrote holds bytes kept more = tt
  kept_first (Some xs) None holds bytes kept more = absurd kept
  kept_first (Some xs) (Some ys) None bytes kept more = absurd more
  kept_first (Some xs) (Some ys) (Some zs) bytes kept more = more ∙ ap (λ l. l ++ bytes) kept

  pub flushed_first : (old new : Session) (text : List ℕ) (number : ℕ) (held wrote holds : Option (List ℕ))
      (r : Result Bool ScriptFault)
      → Keeps held wrote → PrintsText is_raw old new text number wrote holds r
      → PrintsText is_raw old new text number held holds r
  flushed_first old new text number held wrote holds (Ok has) kept p =
      (p.0, p.1, kept_first held wrote holds (told_text is_raw p.0) kept p.2, p.3)
  flushed_first old new text number held wrote holds (Err (fault.BadLine n why)) kept p =
      (p.0, p.1, Keeps-trans held wrote holds kept p.2, p.3, p.4)
  flushed_first old new text number held wrote holds (Err fault.ReadFailed) kept p = absurd p
  flushed_first old new text number held wrote holds (Err fault.WriteFailed) kept p =
      (p.0, p.1, (p.2.0, p.2.1, p.2.2, kept_first held wrote holds p.2.0 kept p.2.3))
  flushed_first old new text number held wrote holds (Err fault.NoMemory) kept p = Keeps-trans held wrote holds kept p

  -- ---- a turn that failed

  turn_fault : (old new : Session) (number : ℕ) (had left held holds : Option (List ℕ)) (text taken : List ℕ)
      (f : ScriptFault) → IsLineText is_raw text
      → Consumes had left taken → IsTakenLine text taken left → PrintsText is_raw old new text number held holds (Err f)
      → FailsTurn is_raw old new number had left held holds f
  turn_fault old new number had left held holds text taken (fault.BadLine n why) whole consumed is p =
      (p.0, taken, consumed, inr (text, whole, is, inr p.1), p.2, inl (text, is, p.3))
  turn_fault old new number had left held holds text taken fault.ReadFailed whole consumed is p = absurd p
  turn_fault old new number had left held holds text taken fault.WriteFailed whole consumed is p =
      inl (text, taken, whole, consumed, is, p.0, p.1, p.2)
  turn_fault old new number had left held holds text taken fault.NoMemory whole consumed is p =
      let short = whole.short in
      let count : length taken ≤ line_limit is_raw + 1 = elim is [
        | inl e ↦ let long = ap length e in let both = length-append text (10 ∷ []) in omega arith
        | inr e ↦ let long = ap length e.0 in omega arith
      ] in
      (taken, consumed, count, p)

  -- ---- a turn

  module _ (keeps : Bool) (old new : Session) (number : ℕ) (had left held wrote holds : Option (List ℕ))
      (before after : Errors) (was skipped : Bool) (kept : Keeps held wrote) (text : List ℕ) where
    told_first : (t : Told) → TellsTurn keeps is_raw old number new wrote holds before after t
        → TellsTurn keeps is_raw old number new held holds before after t
    told_first t tells = record {
      line = tells.line;
      turn = tells.turn;
      prints = kept_first held wrote holds (told_text is_raw t.answer) kept tells.prints;
      reports = tells.reports;
    }

    pub turn_more : Consumes had left (text ++ 10 ∷ [])
        → TakesText keeps is_raw old new text number wrote holds before after was skipped (Ok tt)
        → TakesTurn keeps is_raw old new number had left held holds before after was skipped (Ok true)
    turn_more consumed (t, same, tells, skips) =
        (t, subst (λ (l : List ℕ). Consumes had left (l ++ 10 ∷ [])) (sym same) consumed, told_first t tells, skips)

    pub turn_last : Consumes had left text → IsAtEnd left → 0 < length text
        → TakesText keeps is_raw old new text number wrote holds before after was skipped (Ok tt)
        → TakesTurn keeps is_raw old new number had left held holds before after was skipped (Ok false)
    turn_last consumed end some (t, same, tells, skips) = inl (
      t,
      subst (Consumes had left) (sym same) consumed,
      end,
      subst (λ (l : List ℕ). 0 < length l) (sym same) some,
      told_first t tells,
      skips,
    )

    pub turn_fails : (f : ScriptFault) (taken : List ℕ) → IsLineText is_raw text → Consumes had left taken
        → IsTakenLine text taken left
        → TakesText keeps is_raw old new text number wrote holds before after was skipped (Err f)
        → TakesTurn keeps is_raw old new number had left held holds before after was skipped (Err f)
    turn_fails f taken whole consumed is t = (
      turn_fault old new number had left held holds text taken f whole consumed is
          (flushed_first old new text number held wrote holds (Err f) kept t.0),
      t.1,
      λ on. ends_none f (t.2 on),
    )

  -- a master that began with no keys
  empty_opening : (d : MasterData) → d.origin ≡ no_origin → opening_of d ≡ empty_state
  empty_opening d is = ap (λ (o : Origin). record { contents = contents_of o.objects; safe = o.safe }) is

  -- ---- all lines so far

  -- the lines that were run before the one of this number, and what the session stands for
  pub record Running (keeps : Bool) (options : Options) (session : Session) (had left held holds : Option (List ℕ))
      (before after : Errors) (skipped : Bool) (number : ℕ) : Type 0 where
    pub told : List Told
    pub first : Life
    pub start : Session
    pub knows : MasterData
    pub at : Position
    -- only the format and the seglets may be others
    pub set : record session.options { format = options.format; seglets = options.seglets } ≡ options
    pub begins : BeginsSession options start
    pub run : AreRunOn is_raw start told session
    pub covers : IsCovered session
    pub stands : IsNodeAt session.node (config_of session.options session.master) knows at
    pub used : session.master ≤ session.used
    pub later : AreLaterUnraised session
    pub may_begin : MayBegin session.later session.options
    pub count : suc (length told) ≡ number
    pub lines : All (IsScriptLine keeps is_raw options.backups) told
    pub opening : first.opening ≡ empty_state
    pub telling : AreTelling (at_first (config_of options 1) first) told
        (standing_of (config_of session.options session.master) knows at)
    pub consumed : Consumes had left (texts_of told)
    pub printed : Appends held holds (answers_of is_raw told)
    pub reported : Reports before after (reports_of before.explains 1 told)
    pub skips : skipped ≡ has_skipped false told

  pub starts_running : (keeps : Bool) (options : Options) (session : Session) (had held : Option (List ℕ))
      (before : Errors) → BeginsSession options session
      → Running keeps options session had had held held before before false 1
  starts_running keeps options session had held before begins =
      let d = begins.stands.0 in
      let set = begins.set in
      let number = begins.number in
      let same : config_of session.options session.master ≡ config_of options 1 = λ i. config_of (set i) (number i) in
      record {
        told = [];
        first = life_of d;
        start = session;
        knows = d;
        at = at_start;
        set = ap (λ (o : Options). record o { format = options.format; seglets = options.seglets }) set;
        begins = begins;
        run = refl;
        covers = begins.covers;
        stands = subst (λ (c : Config). IsNodeAt session.node c d at_start) (sym same) begins.stands.1;
        used = let used = begins.used in omega (arith, number, used);
        later = begins_unraised options session begins;
        may_begin = begins_later options session begins;
        count = refl;
        lines = All-nil (IsScriptLine keeps is_raw options.backups);
        opening = empty_opening d begins.stands.3;
        telling = λ i. standing_of (same i) d at_start;
        consumed = Consumes-nil had;
        printed = Appends-nil held;
        reported = refl;
        skips = refl;
      }

  -- the session stands for some master
  pub running_stands : (keeps : Bool) (options : Options) (session : Session) (had left held holds : Option (List ℕ))
      (before after : Errors) (skipped : Bool) (number : ℕ)
      → Running keeps options session had left held holds before after skipped number → Stands session
  running_stands keeps options session had left held holds before after skipped number r =
      (r.covers, (r.knows, r.at, r.stands), r.later, r.may_begin)

  -- ---- where a line leads

  -- the session stands for another master or the same, and the line leads there from where it stood
  abbrev LeadsOn : Session → LineValue → Answer → Session → MasterData → Position → Type 0
  LeadsOn old line a new d at = (e : MasterData) × (next : Position)
      × IsNodeAt new.node (config_of new.options new.master) e next
      × ((more : List Record)
      × Moves (with_more (standing_of (config_of old.options old.master) d at) more) line a
      (standing_of (config_of new.options new.master) e next))

  answers_lead : (old new : Session) (line : LineValue) (a : Answer) (d : MasterData) (at : Position)
      → new.options ≡ old.options
      → new.master ≡ old.master → AnswersLine old.node (config_of old.options old.master) line new.node a
      → IsNodeAt old.node (config_of old.options old.master) d at → LeadsOn old line a new d at
  answers_lead old new line a d at options number answers s =
      let c = config_of old.options old.master in
      let told = answers d at s in
      let e = told.0 in
      let same : config_of new.options new.master ≡ c = λ i. config_of (options i) (number i) in
      let opening = sym (same_opening d e told.3.1) in
      let history = told.3.2 in
      let lives : ◌≡◌ {A = Life} (life_of e) (record { opening = opening_of d; history = d.history ++ told.3.0 }) =
      λ i. record { opening = opening i; history = history i } in (
        e,
        told.1,
        subst (λ (k : Config). IsNodeAt new.node k e told.1) (sym same) told.2,
        (
          told.3.0,
          inl (record {
            config = same;
            life = lives;
            tells = subst
                (λ (l : Life). Tells c l at line a told.1) lives told.4;
          }),
        ),
      )

  line_leads : (old new : Session) (line : LineValue) (a : Answer) → RunsLine old line new a
      → (d : MasterData) (at : Position)
      → IsNodeAt old.node (config_of old.options old.master) d at → LeadsOn old line a new d at
  line_leads old new line a (inl r) d at s = answers_lead old new line a d at r.options r.number
      (r.answers (config_of old.options old.master) (told_of old line)) s
  line_leads old new line a (inr r) d at s =
      subst (λ (l : LineValue). LeadsOn old l a new d at) (sym r.asks)
      (elim r.recovers [
        | inl (number, answers) ↦
            answers_lead old new (Recover r.order) a d at (options_stay old new r.options number) number answers s
        | inr begins ↦
            let next = begins d at s in
            let above = next.4.config.0 in
            let other : new.master ≡ old.master → ⊥ = λ same. absurd (omega arith) in
            let options = sym (options_renewed old new r.options other) in
            let from = standing_of (config_of old.options old.master) d at in (
              next.0,
              next.1,
              subst (λ (o : Options). IsNodeAt new.node (config_of o new.master) next.0 next.1) options next.2,
              (
                [],
                subst (λ (f : Standing). Moves f (Recover r.order) a
                    (standing_of (config_of new.options new.master) next.0 next.1)) (sym (nothing_more from))
                    (inr (subst (λ (o : Options). Succeeds from (Recover r.order) a
                    (standing_of (config_of o new.master) next.0 next.1)) options next.4)),
              ),
            )
      ])

  -- and behind the line its master may forget
  turn_leads : (old new : Session) (line : LineValue) (a : Answer) → RunsTurn old line new a
      → (d : MasterData) (at : Position)
      → IsNodeAt old.node (config_of old.options old.master) d at → LeadsOn old line a new d at
  turn_leads old new line a (mid, runs, forgets) d at s =
      let led = line_leads old mid line a runs d at s in
      let there = still_there mid new forgets led.0 led.1 led.2 in
      let config = sym (same_config mid new forgets) in
      let life = there.2 in
      let from = standing_of (config_of old.options old.master) d at in
      let same : ◌≡◌ {A = Standing} (standing_of (config_of mid.options mid.master) led.0 led.1)
      (standing_of (config_of new.options new.master) there.0 led.1) =
      λ i. record { config = config i; life = life i; at = led.1 } in (
        there.0,
        led.1,
        there.1,
        (led.3.0, subst (λ (to : Standing). Moves (with_more from led.3.0) line a to) same led.3.1),
      )

  covers_on : (old new : Session) (line : LineValue) (a : Answer) → RunsTurn old line new a → Stands old → IsCovered new
  covers_on old new line a (mid, inl r, forgets) stands = still_covered mid new forgets (r.covers stands)
  covers_on old new line a (mid, inr r, forgets) stands = still_covered mid new forgets (r.covers stands)

  options_on : (old new : Session) (line : LineValue) (a : Answer) (format seglets : ℕ) → RunsTurn old line new a
      → record new.options { format = format; seglets = seglets }
      ≡ record old.options { format = format; seglets = seglets }
  options_on old new line a format seglets (mid, inl r, forgets) =
      same_set mid new forgets format seglets
      ∙ ap (λ (o : Options). record o { format = format; seglets = seglets }) r.options
  options_on old new line a format seglets (mid, inr r, forgets) =
      same_set mid new forgets format seglets ∙ options_kept old mid format seglets r.options

  -- later masters may begin as before, or as the line asks
  begins_on : (old new : Session) (line : LineValue) (a : Answer) → RunsTurn old line new a → Stands old
      → MayBegin new.later new.options
  begins_on old new line a (mid, inl r, forgets) stands = still_begins mid new forgets (r.begins stands)
  begins_on old new line a (mid, inr r, forgets) stands =
      still_begins mid new forgets (renewed_begins old mid r.options r.later stands.3)

  numbers_on : (old new : Session) (line : LineValue) (a : Answer) → RunsTurn old line new a → old.master ≤ old.used
      → new.master ≤ new.used
  numbers_on old new line a (mid, runs, forgets) within =
      still_numbered mid new forgets (line_numbers old mid line a runs within)

  unraised_on : (old new : Session) (line : LineValue) (a : Answer) → RunsTurn old line new a → (d : MasterData)
      (at : Position) → IsNodeAt old.node (config_of old.options old.master) d at → old.master ≤ old.used
      → AreLaterUnraised old → AreLaterUnraised new
  unraised_on old new line a (mid, runs, forgets) d at s within are =
      still_unraised mid new forgets (line_unraised old mid line a runs d at s within are)

  -- one line more was run
  runs_more : (first : Session) (told : List Told) (old : Session) (t : Told) (new : Session)
      → AreRunOn is_raw first told old → IsTurn is_raw old t new
      → AreRunOn is_raw first (told ++ t ∷ []) new
  runs_more first [] old t new same runs = (new, subst (λ (s : Session). IsTurn is_raw s t new) same runs, refl)
  runs_more first (u ∷ us) old t new (mid, ran, rest) runs = (mid, ran, runs_more mid us old t new rest runs)

  texts-more : (told : List Told) (t : Told) → texts_of (told ++ t ∷ []) ≡ texts_of told ++ (t.text ++ 10 ∷ [])
  texts-more told t = flat_map-append _ told (t ∷ []) ∙ ap (λ l. texts_of told ++ l) (append-nil (t.text ++ 10 ∷ []))

  answers-more : (told : List Told) (t : Told) → answers_of is_raw (told ++ t ∷ [])
      ≡ answers_of is_raw told ++ told_text is_raw t.answer
  answers-more told t = flat_map-append _ told (t ∷ []) ∙ ap (λ l. answers_of is_raw told ++ l)
      (append-nil (told_text is_raw t.answer))

  module _ (keeps : Bool) (options : Options) (old : Session) (had mid left held wrote holds : Option (List ℕ))
      (before during after : Errors) (was skipped : Bool) (number : ℕ)
      (r : Running keeps options old had mid held wrote before during was number) where
    fleet : old.options.backups ≡ options.backups
    fleet = ap (λ (o : Options). o.backups) r.set

    now_stands : Stands old
    now_stands = (r.covers, (r.knows, r.at, r.stands), r.later, r.may_begin)

    abbrev now : Standing
    now = standing_of (config_of old.options old.master) r.knows r.at

    -- the lines tell of one life after another
    tell_so_far : TellLives (config_of options 1) r.told
    tell_so_far = (
      r.first,
      r.opening,
      now,
      r.telling,
      record { legal = legal_of old.node r.at.left r.knows r.stands.node_of; whole = r.stands.made },
    )

    module _ (new : Session) (t : Told) (is : IsScriptLine keeps is_raw old.options.backups t)
        (turn : IsTurn is_raw old t new) where
      abbrev after_line : LeadsOn old t.line t.answer new r.knows r.at
      after_line = turn_leads old new t.line t.answer turn.0 r.knows r.at r.stands

      abbrev after_this : Standing
      after_this = standing_of (config_of new.options new.master) after_line.0 after_line.1

      abbrev longer : (before : List Record) × AreTelling (with_more (at_first (config_of options 1) r.first) before)
          r.told (with_more now after_line.3.0)
      longer = telling_longer (at_first (config_of options 1) r.first) r.told now after_line.3.0
          (let made = r.stands.made in omega arith) r.telling

      abbrev first_on : Life
      first_on = record { opening = r.first.opening; history = r.first.history ++ longer.0 }

      telling_on : AreTelling (at_first (config_of options 1) first_on) (r.told ++ t ∷ []) after_this
      telling_on = telling_more (at_first (config_of options 1) first_on) r.told
          (with_more now after_line.3.0) t after_this longer.1 after_line.3.1

      tell_longer : TellLives (config_of options 1) (r.told ++ t ∷ [])
      tell_longer = (
        first_on,
        r.opening,
        after_this,
        telling_on,
        record {
          legal = legal_of new.node after_line.1.left after_line.0 after_line.2.node_of;
          whole = after_line.2.made;
        },
      )

      run_on : AreRunOn is_raw r.start (r.told ++ t ∷ []) new
      run_on = runs_more r.start r.told old t new r.run turn

      line_there : All (IsScriptLine keeps is_raw options.backups) (r.told ++ t ∷ [])
      line_there = All-push (IsScriptLine keeps is_raw options.backups) r.told t r.lines
          (fleet_line keeps is_raw old.options.backups options.backups t fleet is)

      answers_on : Appends wrote holds (told_text is_raw t.answer)
          → Appends held holds (answers_of is_raw (r.told ++ t ∷ []))
      answers_on printed = subst (Appends held holds) (sym (answers-more r.told t))
          (Appends-trans held wrote holds (answers_of is_raw r.told) (told_text is_raw t.answer) r.printed printed)

      reports_on : Reports during after (report_of during.explains number t)
          → Reports before after (reports_of before.explains 1 (r.told ++ t ∷ []))
      reports_on more =
          let same = reports_explain before during (reports_of before.explains 1 r.told) r.reported in
          let count = r.count in
          subst (Reports before after)
          (sym (reports_more before.explains 1 r.told t number (omega arith)))
          (reports_join before during after (reports_of before.explains 1 r.told) (report_of before.explains number t)
          r.reported (subst (λ (e : Bool). Reports during after (report_of e number t)) same more))

      skips_on : skipped ≡ skips_as was t.skipped → skipped ≡ has_skipped false (r.told ++ t ∷ [])
      skips_on is_now = is_now ∙ ap (λ (b : Bool). skips_as b t.skipped) r.skips ∙ sym (has_more false r.told t)

      -- one line more was run
      runs_on : Consumes mid left (t.text ++ 10 ∷ []) → TellsTurn keeps is_raw old number new wrote holds during after t
          → skipped ≡ skips_as was t.skipped
          → Running keeps options new had left held holds before after skipped (number + 1)
      runs_on consumed tells is_now =
          let count = r.count in
          let longer = length-append r.told (t ∷ []) in
          record {
            told = r.told ++ t ∷ [];
            first = first_on;
            start = r.start;
            knows = after_line.0;
            at = after_line.1;
            set = options_on old new t.line t.answer options.format options.seglets turn.0 ∙ r.set;
            begins = r.begins;
            run = run_on;
            covers = covers_on old new t.line t.answer turn.0 now_stands;
            stands = after_line.2;
            used = numbers_on old new t.line t.answer turn.0 r.used;
            later = unraised_on old new t.line t.answer turn.0 r.knows r.at r.stands r.used r.later;
            may_begin = begins_on old new t.line t.answer turn.0 now_stands;
            count = omega arith;
            lines = line_there;
            opening = r.opening;
            telling = telling_on;
            consumed = subst (Consumes had left) (sym (texts-more r.told t))
                (Consumes-trans had mid left (texts_of r.told) (t.text ++ 10 ∷ []) r.consumed consumed);
            printed = answers_on tells.prints;
            reported = reports_on tells.reports;
            skips = skips_on is_now;
          }

      lines_are : (taken : List ℕ) → IsTakenLine t.text taken left
          → AreLines (r.told ++ t ∷ []) (texts_of r.told ++ taken)
      lines_are taken (inl e) = inl (ap (λ l. texts_of r.told ++ l) e ∙ sym (texts-more r.told t))
      lines_are taken (inr e) = inr (r.told, t, refl, ap (λ l. texts_of r.told ++ l) e.0, e.1)

      -- a line was run, and no more
      ends_here : (taken : List ℕ) (result : Result Bool ScriptFault) → Consumes mid left taken
          → EndsWith is_raw options (r.told ++ t ∷ []) (texts_of r.told ++ taken) left result
          → (keeps ≡ true → IfErr result EndsRun)
          → Prints is_raw held holds (r.told ++ t ∷ []) result
          → ReportsAll before after (r.told ++ t ∷ []) result
          → RunsScript keeps is_raw options had left held holds before after result
      ends_here taken result consumed ends goes_on prints reports = record {
        told = r.told ++ t ∷ [];
        taken = texts_of r.told ++ taken;
        consumed = Consumes-trans had mid left (texts_of r.told) taken r.consumed consumed;
        lines = line_there;
        tells = tell_longer;
        session = inr (record { first = r.start; last = new; begins = r.begins; run = run_on });
        ends = ends;
        goes_on = goes_on;
        prints = prints;
        reports = reports;
      }

      runs_last : Consumes mid left t.text → IsAtEnd left → 0 < length t.text
          → TellsTurn keeps is_raw old number new wrote holds during after t → skipped ≡ skips_as was t.skipped
          → RunsScript keeps is_raw options had left held holds before after (Ok skipped)
      runs_last consumed end some tells is_now = ends_here t.text (Ok skipped) consumed
          (lines_are t.text (inr (refl, some, end)), end, skips_on is_now) (λ on. tt) (answers_on tells.prints)
          (reports_on tells.reports)

      -- a front of the last answer was written
      cut_on : AppendsFront wrote holds (told_text is_raw t.answer) → CutsLast is_raw held holds (r.told ++ t ∷ [])
      cut_on (front, rest, is, some) = (
        r.told,
        t,
        front,
        rest,
        refl,
        is,
        Appends-trans held wrote holds (answers_of is_raw r.told) front r.printed some,
      )

      fails_to_write : (taken : List ℕ) → Consumes mid left taken → IsTakenLine t.text taken left
          → AppendsFront wrote holds (told_text is_raw t.answer) → after ≡ during
          → RunsScript keeps is_raw options had left held holds before after (Err fault.WriteFailed)
      fails_to_write taken consumed is front same =
          ends_here taken (Err fault.WriteFailed) consumed (inl (lines_are taken is)) (λ on. tt) (inr (cut_on front))
          (inr (
            r.told,
            t,
            refl,
            subst (λ (e : Errors). Reports before e (reports_of before.explains 1 r.told)) (sym same)
                r.reported,
          ))

    -- the lines were run, and no more
    closes : (taken : List ℕ) (result : Result Bool ScriptFault) → Consumes mid left taken
        → EndsWith is_raw options r.told (texts_of r.told ++ taken) left result → (keeps ≡ true → IfErr result EndsRun)
        → Prints is_raw held holds r.told result → after ≡ during
        → RunsScript keeps is_raw options had left held holds before after result
    closes taken result consumed ends goes_on prints same = record {
      told = r.told;
      taken = texts_of r.told ++ taken;
      consumed = Consumes-trans had mid left (texts_of r.told) taken r.consumed consumed;
      lines = r.lines;
      tells = tell_so_far;
      session = inr (record { first = r.start; last = old; begins = r.begins; run = r.run });
      ends = ends;
      goes_on = goes_on;
      prints = prints;
      reports = all_reported before after r.told result
          (subst (λ (e : Errors). Reports before e (reports_of before.explains 1 r.told)) (sym same) r.reported);
    }

    kept_answers : Keeps wrote holds → Appends held holds (answers_of is_raw r.told)
    kept_answers kept = Appends-kept held wrote holds (answers_of is_raw r.told) r.printed kept

    runs_out : Consumes mid left [] → IsAtEnd left → Keeps wrote holds → after ≡ during → skipped ≡ was
        → RunsScript keeps is_raw options had left held holds before after (Ok skipped)
    runs_out consumed end kept same is_now = closes [] (Ok skipped) consumed
        (inl (append-nil (texts_of r.told)), end, is_now ∙ r.skips) (λ on. tt) (kept_answers kept) same

    bad_here : (n : ℕ) (bad : List ℕ) → n ≡ number → IsBadLine is_raw old number bad left
        → IsBadLine is_raw old n bad left
    bad_here n bad is line = subst (λ (k : ℕ). IsBadLine is_raw old k bad left) (sym is) line

    reason_here : (n : ℕ) (bad : List ℕ) (why : Reason) → n ≡ number
        → IsReasonFor is_raw old.options.backups number bad left why
        → IsReasonFor is_raw options.backups n bad left why
    reason_here n bad why is reason =
        subst (λ (k : ℕ). IsReasonFor is_raw k n bad left why) fleet
        (subst (λ (k : ℕ). IsReasonFor is_raw old.options.backups k bad left why) (sym is) reason)

    fails_so : (new : Session) (f : ScriptFault) → FailsTurn is_raw old new number mid left wrote holds f → after
        ≡ during
        → (keeps ≡ true → EndsRun f)
        → RunsScript keeps is_raw options had left held holds before after (Err f)
    fails_so new (fault.BadLine n why) t same ends =
        closes t.1 (Err (fault.BadLine n why)) t.2 (
          t.0 ∙ sym r.count,
          t.1,
          refl,
          record { first = r.start; last = old; begins = r.begins; run = r.run },
          bad_here n t.1 t.0 t.3,
          reason_here n t.1 why t.0 t.5,
        ) ends (kept_answers t.4) same
    fails_so new fault.ReadFailed t same ends =
        closes t.0 (Err fault.ReadFailed) t.1 (t.0, refl, t.2) ends (kept_answers t.3) same
    fails_so new fault.WriteFailed (inl t) same ends =
        let told = runs_told is_raw t.0 t.5 old new t.6 in
        fails_to_write new told (record { whole = t.2; says = t.6.says; of_fleet = t.6.of_fleet }) (t.6.runs, tt, refl)
        t.1 t.3 t.4 t.7 same
    fails_so new fault.WriteFailed (inr t) same ends =
        closes t.0 (Err fault.WriteFailed) t.1 (inr (t.0, refl, t.2)) ends (inl (kept_answers t.3)) same
    fails_so new fault.NoMemory t same ends =
        closes t.0 (Err fault.NoMemory) t.1 (t.0, refl, t.2) ends (kept_answers t.3) same

    pub fails : (new : Session) (f : ScriptFault)
        → TakesTurn keeps is_raw old new number mid left wrote holds during after was skipped (Err f)
        → RunsScript keeps is_raw options had left held holds before after (Err f)
    fails new f t = fails_so new f t.0 t.1 t.2

    none_left : (new : Session)
        → TakesTurn keeps is_raw old new number mid left wrote holds during after was skipped (Ok false)
        → RunsScript keeps is_raw options had left held holds before after (Ok skipped)
    none_left new (inl t) = runs_last new t.0 t.4.line t.4.turn t.1 t.2 t.3 t.4 t.5
    none_left new (inr t) = runs_out t.0 t.1 t.2 t.3 t.4

    pub none_ran : (new : Session) (more : Bool) → more ≡ false
        → TakesTurn keeps is_raw old new number mid left wrote holds during after was skipped (Ok more)
        → RunsScript keeps is_raw options had left held holds before after (Ok skipped)
    none_ran new more is t = none_left new (subst (λ (b : Bool). TakesTurn keeps is_raw old new number mid left wrote
        holds during after was skipped (Ok b)) is t)

    pub more_ran : (new : Session) (more : Bool) → more ≡ true
        → TakesTurn keeps is_raw old new number mid left wrote holds during after was skipped (Ok more)
        → Running keeps options new had left held holds before after skipped (number + 1)
    more_ran new more is t =
        let ran : TakesTurn keeps is_raw old new number mid left wrote holds during after was skipped (Ok true) =
        subst (λ (b : Bool). TakesTurn keeps is_raw old new number mid left wrote holds during after was skipped (Ok b))
        is t in
        runs_on new ran.0 ran.2.line ran.2.turn ran.1 ran.2 ran.3

  -- ---- behind the last number, and behind the last line

  module _ (keeps : Bool) (options : Options) (old : Session) (had mid left held wrote holds : Option (List ℕ))
      (before after : Errors) (skipped : Bool) (number : ℕ) (is : number ≡ 2 ^ 64 - 1)
      (r : Running keeps options old had mid held wrote before after skipped number) where
    pub runs_dry : (done : Unit {0}) → IsNoMore is_raw mid left wrote holds (Ok done)
        → RunsScript keeps is_raw options had left held holds before after (Ok skipped)
    runs_dry done n = runs_out keeps options old had mid left held wrote holds before after after skipped skipped
        number r
        n.0 n.1 n.2 refl refl

    pub dry_fails : (f : ScriptFault) → IsNoMore is_raw mid left wrote holds (Err f)
        → RunsScript keeps is_raw options had left held holds before after (Err f)
    dry_fails (fault.BadLine n why) none =
        fails_so keeps options old had mid left held wrote holds before after after skipped skipped number r old
        (fault.BadLine n why) (
          none.0 ∙ sym is,
          none.1,
          none.2,
          subst (λ (k : ℕ). IsBadLine is_raw old k none.1 left) (none.0 ∙ sym is) (none.3 old),
          none.4,
          inr (inr (none.5, is)),
        ) refl (λ on. inr none.5)
    dry_fails fault.ReadFailed none =
        fails_so keeps options old had mid left held wrote holds before after after skipped skipped number r old
        fault.ReadFailed none refl (λ on. tt)
    dry_fails fault.WriteFailed none =
        fails_so keeps options old had mid left held wrote holds before after after skipped skipped number r old
        fault.WriteFailed (inr none) refl (λ on. tt)
    dry_fails fault.NoMemory none =
        fails_so keeps options old had mid left held wrote holds before after after skipped skipped number r old
        fault.NoMemory none refl (λ on. tt)

  -- the writer was flushed
  module _ (keeps : Bool) (options : Options) (had left held wrote holds : Option (List ℕ)) (before after : Errors)
      (kept : Keeps wrote holds) where
    pub flushes : (result : Result Bool ScriptFault)
        → RunsScript keeps is_raw options had left held wrote before after result
        → RunsScript keeps is_raw options had left held holds before after result
    flushes result r = record {
      told = r.told;
      taken = r.taken;
      consumed = r.consumed;
      lines = r.lines;
      tells = r.tells;
      session = r.session;
      ends = r.ends;
      goes_on = r.goes_on;
      prints = flushed result r.prints;
      reports = r.reports;
    } where
      flushed : (result : Result Bool ScriptFault) → Prints is_raw held wrote r.told result
          → Prints is_raw held holds r.told result
      flushed (Ok done) p = Appends-kept held wrote holds (answers_of is_raw r.told) p kept
      flushed (Err (fault.BadLine n why)) p = Appends-kept held wrote holds (answers_of is_raw r.told) p kept
      flushed (Err fault.ReadFailed) p = Appends-kept held wrote holds (answers_of is_raw r.told) p kept
      flushed (Err fault.WriteFailed) (inl p) = inl (Appends-kept held wrote holds (answers_of is_raw r.told) p kept)
      flushed (Err fault.WriteFailed) (inr (before, last, front, rest, told, text, p)) =
          inr (
            before,
            last,
            front,
            rest,
            told,
            text,
            Appends-kept held wrote holds (answers_of is_raw before ++ front) p kept,
          )
      flushed (Err fault.NoMemory) p = Appends-kept held wrote holds (answers_of is_raw r.told) p kept

    pub fails_to_flush : (skipped : Bool) → RunsScript keeps is_raw options had left held wrote before after
        (Ok skipped)
        → RunsScript keeps is_raw options had left held holds before after (Err fault.WriteFailed)
    fails_to_flush skipped r = record {
      told = r.told;
      taken = r.taken;
      consumed = r.consumed;
      lines = r.lines;
      tells = r.tells;
      session = r.session;
      ends = inl r.ends.0;
      goes_on = λ on. tt;
      prints = inl (Appends-kept held wrote holds (answers_of is_raw r.told) r.prints kept);
      reports = inl r.reports;
    }

  -- nothing was begun
  pub begins_not : (keeps : Bool) (options : Options) (had held : Option (List ℕ)) (before : Errors)
      → RunsScript keeps is_raw options had had held held before before (Err fault.NoMemory)
  begins_not keeps options had held before = record {
    told = [];
    taken = [];
    consumed = Consumes-nil had;
    lines = All-nil (IsScriptLine keeps is_raw options.backups);
    tells = (
      record { opening = empty_state; history = [] },
      refl,
      at_first (config_of options 1) (record { opening = empty_state; history = [] }),
      refl,
      record { legal = refl; whole = refl },
    );
    session = inl refl;
    ends = ([], refl, omega arith);
    goes_on = λ on. tt;
    prints = Appends-nil held;
    reports = refl;
  }
