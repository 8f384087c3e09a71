-- Lines that are told of, one after another.
use Rattle.std.proofs.Common.{[], ◌≡◌, ◌∙◌, ℕ, ◌+◌, ◌-◌, ◌^◌, Bool, List, ◌∷◌, ◌++◌, length, arith, ap, append_assoc}
use Rattle.std.proofs.Common.{inl, inr}
use Rattle.std.proofs.Common.{refl, subst, sym}
use Rattle.std.proofs.lemmas.List.{append-nil, length-append}
use Rattle.std.proofs.lemmas.List.Concat.{flat_map-append}
use Rattle.std.specs.Prelude.{Option, Some, None, Result, Ok, Err}
use Rattle.std.specs.Io.KnownBytes.{Appends, Consumes, Keeps}
use Rattle.std.proofs.KnownBytes.{Appends-kept, Appends-nil, Appends-trans, Consumes-nil, Consumes-trans}
use Rattle.answers.specs.declared.fault.ScriptFault.{ScriptFault}
use Rattle.answers.specs.declared.fault.ScriptFault.TheVariants as fault
use Rattle.answers.specs.driving.master.master_state.Data.{MasterData}
use Rattle.lines.specs.declared.reason.Reason.TheVariants.{TooMany}
use Rattle.disk_lines.specs.Runs.{AreLines, AreTold, EndsWith, Prints, RunsFrom, Said, Told}
use Rattle.disk_lines.specs.Runs.{printed_of, said_in, texts_of}
use Rattle.disk_lines.specs.Turns.{HasRun, Known, TakesTurn}

-- ---- two runs

pub said_both : (one two : List Told) → said_in (one ++ two) ≡ said_in one ++ said_in two
said_both one two = flat_map-append _ one two

pub texts_both : (one two : List Said) → texts_of (one ++ two) ≡ texts_of one ++ texts_of two
texts_both one two = flat_map-append _ one two

printed_both : (one two : List Told) → printed_of (one ++ two) ≡ printed_of one ++ printed_of two
printed_both one two = flat_map-append _ one two

module _ (is_raw : Bool) where
  told_both : (old mid new : MasterData) (one two : List Told) → AreTold is_raw old one mid
      → AreTold is_raw mid two new → AreTold is_raw old (one ++ two) new
  told_both old mid new [] two same rest = subst (λ (d : MasterData). AreTold is_raw d two new) same rest
  told_both old mid new (t ∷ ts) two (next, is, more) rest = (next, is, told_both next mid new ts two more rest)

  -- ---- how the second one ended

  lines_after : (one two : List Said) (taken : List ℕ) → AreLines two taken
      → AreLines (one ++ two) (texts_of one ++ taken)
  lines_after one two taken (inl e) = inl (ap (λ l. texts_of one ++ l) e ∙ sym (texts_both one two))
  lines_after one two taken (inr (before, last, is, bytes, some)) = inr (
    one ++ before,
    last,
    ap (λ (l : List Said). one ++ l) is ∙ sym (append_assoc one before (last ∷ [])),
    ap (λ l. texts_of one ++ l) bytes ∙ sym (append_assoc (texts_of one) (texts_of before) last.text)
        ∙ ap (λ l. l ++ last.text) (sym (texts_both one before)),
    some,
  )

  part_after : (one two : List Said) (taken part : List ℕ) → taken ≡ texts_of two ++ part
      → texts_of one ++ taken ≡ texts_of (one ++ two) ++ part
  part_after one two taken part is =
      ap (λ l. texts_of one ++ l) is ∙ sym (append_assoc (texts_of one) (texts_of two) part)
      ∙ ap (λ l. l ++ part) (sym (texts_both one two))

  module _ (first next : ℕ) (one two : List Said) (count : next ≡ first + length one) (taken : List ℕ)
      (left : Known) where
    ends_after : (r : Result (Unit {0}) ScriptFault) → EndsWith is_raw next two taken left r
        → EndsWith is_raw first (one ++ two) (texts_of one ++ taken) left r
    ends_after (Ok done) (lines, end) = (lines_after one two taken lines, end)
    ends_after (Err (fault.BadLine number why)) (is, bad, rest, wrong) = (
      (let longer = length-append one two in omega (arith, is, count, longer)),
      bad,
      part_after one two taken bad rest,
      wrong,
    )
    ends_after (Err fault.ReadFailed) (part, is) = (part, part_after one two taken part is)
    ends_after (Err fault.WriteFailed) (inl lines) = inl (lines_after one two taken lines)
    ends_after (Err fault.WriteFailed) (inr (part, is)) = inr (part, part_after one two taken part is)
    ends_after (Err fault.NoMemory) (part, is) = (part, part_after one two taken part is)

  module _ (held wrote holds : Known) (one two : List Told) (first : Appends held wrote (printed_of one)) where
    all_after : Appends wrote holds (printed_of two) → Appends held holds (printed_of (one ++ two))
    all_after all = subst (Appends held holds) (sym (printed_both one two))
        (Appends-trans held wrote holds (printed_of one) (printed_of two) first all)

    prints_after : (r : Result (Unit {0}) ScriptFault) → Prints wrote holds two r → Prints held holds (one ++ two) r
    prints_after (Ok done) all = all_after all
    prints_after (Err (fault.BadLine number why)) all = all_after all
    prints_after (Err fault.ReadFailed) all = all_after all
    prints_after (Err fault.WriteFailed) (inl all) = inl (all_after all)
    prints_after (Err fault.WriteFailed) (inr (before, last, front, rest, is, cut, all)) = inr (
      one ++ before,
      last,
      front,
      rest,
      ap (λ (l : List Told). one ++ l) is ∙ sym (append_assoc one before (last ∷ [])),
      cut,
      subst (Appends held holds)
          (sym (append_assoc (printed_of one) (printed_of before) front)
          ∙ ap (λ l. l ++ front) (sym (printed_both one before)))
          (Appends-trans held wrote holds (printed_of one) (printed_of before ++ front) first all),
    )
    prints_after (Err fault.NoMemory) all = all_after all

  -- ---- a run behind another

  pub starts_running : (first : ℕ) (d : MasterData) (had held : Known) → HasRun is_raw first first d d had had held held
  starts_running first d had held = record {
    told = [];
    count = (let same : first ≡ first + 0 = omega arith in same);
    consumed = Consumes-nil had;
    tells = refl;
    printed = Appends-nil held;
  }

  module _ (first next : ℕ) (old mid new : MasterData) (had came left held wrote holds : Known)
      (h : HasRun is_raw first next old mid had came held wrote) where
    pub runs_after : (r : Result (Unit {0}) ScriptFault) → RunsFrom is_raw next mid new came left wrote holds r
        → RunsFrom is_raw first old new had left held holds r
    runs_after r is =
        let both = said_both h.told is.told in
        record {
          told = h.told ++ is.told;
          taken = texts_of (said_in h.told) ++ is.taken;
          consumed = Consumes-trans had came left (texts_of (said_in h.told)) is.taken h.consumed is.consumed;
          tells = told_both old mid new h.told is.told h.tells is.tells;
          ends = subst (λ (l : List Said). EndsWith is_raw first l (texts_of (said_in h.told) ++ is.taken) left r)
              (sym both)
              (ends_after first next (said_in h.told) (said_in is.told) h.count is.taken left r is.ends);
          prints = prints_after held wrote holds h.told is.told h.printed r is.prints;
        }

    pub has_run_after : (more : ℕ) → HasRun is_raw next more mid new came left wrote holds
        → HasRun is_raw first more old new had left held holds
    has_run_after more is =
        let both = said_both h.told is.told in
        let longer = ap (λ (l : List Said). length l) both ∙ length-append (said_in h.told) (said_in is.told) in
        let one = h.count in
        let two = is.count in
        record {
          told = h.told ++ is.told;
          count = omega (arith, one, two, longer);
          consumed = subst (Consumes had left)
              (sym (ap texts_of both ∙ texts_both (said_in h.told) (said_in is.told)))
              (Consumes-trans had came left (texts_of (said_in h.told)) (texts_of (said_in is.told))
              h.consumed is.consumed);
          tells = told_both old mid new h.told is.told h.tells is.tells;
          printed = all_after held wrote holds h.told is.told h.printed is.printed;
        }

    pub turn_after : (r : Result (Option ℕ) ScriptFault) → TakesTurn is_raw next mid new came left wrote holds r
        → TakesTurn is_raw first old new had left held holds r
    turn_after (Ok (Some more)) (later, is) =
        let one = h.count in (omega (arith, later, one), has_run_after more is)
    turn_after (Ok None) is = runs_after (Ok tt) is
    turn_after (Err f) is = runs_after (Err f) is

  -- ---- all lines

  -- nothing was told of
  pub ends_there : (first : ℕ) (d : MasterData) (had left held holds : Known) (taken : List ℕ)
      (r : Result (Unit {0}) ScriptFault) → Consumes had left taken → EndsWith is_raw first [] taken left r
      → Prints held holds [] r → RunsFrom is_raw first d d had left held holds r
  ends_there first d had left held holds taken r consumed ends prints = record {
    told = [];
    taken = taken;
    consumed = consumed;
    tells = refl;
    ends = ends;
    prints = prints;
  }

  -- no further line can have a number
  pub runs_dry : (first : ℕ) (old now : MasterData) (had left held holds : Known) (number : ℕ)
      → number ≡ 2 ^ 64 - 1 → HasRun is_raw first number old now had left held holds
      → RunsFrom is_raw first old now had left held holds (Err (fault.BadLine (2 ^ 64 - 1) TooMany))
  runs_dry first old now had left held holds number is h = record {
    told = h.told;
    taken = texts_of (said_in h.told);
    consumed = h.consumed;
    tells = h.tells;
    ends = (sym is ∙ h.count, [], sym (append-nil (texts_of (said_in h.told))), inr (inr (refl, refl)));
    prints = h.printed;
  }

  -- the writer was flushed
  module _ (first : ℕ) (old new : MasterData) (had left held wrote holds : Known) (kept : Keeps wrote holds) where
    pub flushes : (r : Result (Unit {0}) ScriptFault) → RunsFrom is_raw first old new had left held wrote r
        → RunsFrom is_raw first old new had left held holds r
    flushes r is = record {
      told = is.told;
      taken = is.taken;
      consumed = is.consumed;
      tells = is.tells;
      ends = is.ends;
      prints = flushed r is.prints;
    } where
      flushed : (r : Result (Unit {0}) ScriptFault) → Prints held wrote is.told r → Prints held holds is.told r
      flushed (Ok done) p = Appends-kept held wrote holds (printed_of is.told) p kept
      flushed (Err (fault.BadLine n why)) p = Appends-kept held wrote holds (printed_of is.told) p kept
      flushed (Err fault.ReadFailed) p = Appends-kept held wrote holds (printed_of is.told) p kept
      flushed (Err fault.WriteFailed) (inl p) = inl (Appends-kept held wrote holds (printed_of is.told) p kept)
      flushed (Err fault.WriteFailed) (inr (before, last, front, rest, told, text, p)) = inr (
        before,
        last,
        front,
        rest,
        told,
        text,
        Appends-kept held wrote holds (printed_of before ++ front) p kept,
      )
      flushed (Err fault.NoMemory) p = Appends-kept held wrote holds (printed_of is.told) p kept

    pub fails_to_flush : (done : Unit {0}) → RunsFrom is_raw first old new had left held wrote (Ok done)
        → RunsFrom is_raw first old new had left held holds (Err fault.WriteFailed)
    fails_to_flush done is = record {
      told = is.told;
      taken = is.taken;
      consumed = is.consumed;
      tells = is.tells;
      ends = inl is.ends.0;
      prints = inl (Appends-kept held wrote holds (printed_of is.told) is.prints kept);
    }
