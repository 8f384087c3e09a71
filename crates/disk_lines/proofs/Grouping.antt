-- Commands that are gathered, and what is printed of them.
use Rattle.std.proofs.Common.{[], ◌≡◌, ◌∙◌, ℕ, zero, suc, ◌+◌, ◌-◌, ◌<◌, ◌≤◌, Bool, true, false, List, ◌∷◌, ◌++◌}
use Rattle.std.proofs.Common.{length}
use Rattle.std.proofs.Common.{arith, ap, append_assoc, inl, inr, refl, subst, sym}
use Rattle.std.proofs.Math.Nat.{le_trans}
use Rattle.std.proofs.lemmas.List.{append-nil, append_cancel_left, length-append, map-append}
use Rattle.std.proofs.lemmas.Bool.Decides.{nat_tests}
use Rattle.std.specs.Prelude.{Option, Some, Ok, Err, if◌then◌else◌, nat_lt, slice_get, unwrap_or}
use Rattle.std.specs.Option.{option_map}
use Rattle.std.specs.Io.KnownBytes.{Appends, Consumes}
use Rattle.std.proofs.KnownBytes.{Appends-kept, Appends-nil, Consumes-nil, Consumes-trans}
use Rattle.lines.specs.Grammar.{LineValue}
use Rattle.lines.specs.Reading.{IsLineText}
use Rattle.raw_lines.specs.Raw.{SaysIn}
use Rattle.entry.specs.Meaning.{contents_of}
use Rattle.versioned_map.specs.History.{IsLegal, commands_of, replies_of}
use Rattle.versioned_map.specs.Versioned.{State, after, after_command, replies, reply_to}
use Rattle.versioned_map.specs.declared.command.Command.{Command}
use Rattle.versioned_map.specs.declared.command.Record.{Record}
use Rattle.versioned_map.specs.declared.command.Reply.{Reply as MapReply}
use Rattle.versioned_map.specs.declared.command.Reply.TheVariants as said
use Rattle.answers.specs.declared.fault.ScriptFault.{ScriptFault}
use Rattle.answers.specs.driving.Served.{LivesOn}
use Rattle.answers.specs.driving.master.log_laws.Data.{durable_of}
use Rattle.answers.specs.driving.master.master_state.Data.{MasterData}
use Rattle.answers.specs.driving.master.master_state.Log.{log_of, opening_of, state_now}
use Rattle.raw_answers.specs.Texts.{reply_in}
use Rattle.embedded.specs.Replies.{GoesOn, kept_reply}
use Rattle.disk_lines.specs.Groups.{AppliesLine, AskFor, Asks, IsAnsweredBy, told_short, told_whole, unsure_line}
use Rattle.disk_lines.specs.Runs.{AreSaid, IsTold, RunsFrom, Said, Told, lines_of, texts_of}
use Rattle.disk_lines.specs.Turns.{AnswersGroup, HasRun, IsGathered, IsPushed, IsWritten, Known, told_at}
use Rattle.disk_lines.specs.Turns.{told_from}
use Rattle.disk_lines.proofs.Telling.{texts_both}

-- ---- replies

replies_both : (st : State) (one two : List Command) → replies st (one ++ two)
    ≡ replies st one ++ replies (after st one) two
replies_both st [] two = refl
replies_both st (c ∷ cs) two = ap (λ l. reply_to st c ∷ l) (replies_both (after_command st c) cs two)

-- the records behind a legal history are legal behind its state, if all together are legal
legal_behind : (st : State) (one two : List Record) → IsLegal st one → IsLegal st (one ++ two)
    → IsLegal (after st (commands_of one)) two
legal_behind st one two first all =
    append_cancel_left (replies_of one) (replies_of two) (replies (after st (commands_of one)) (commands_of two))
    (sym (map-append (λ (r : Record). r.reply) one two) ∙ all
    ∙ ap (replies st) (map-append (λ (r : Record). r.command) one two)
    ∙ replies_both st (commands_of one) (commands_of two)
    ∙ ap (λ l. l ++ replies (after st (commands_of one)) (commands_of two)) (sym first))

pub legal_group : (old new : MasterData) (records : List Record) → IsLegal (opening_of old) old.history
    → IsLegal (opening_of new) new.history → LivesOn old new records → IsLegal (state_now old) records
legal_group old new records first all lives =
    legal_behind (opening_of old) old.history records first
    (subst (λ (rs : List Record). IsLegal (opening_of old) rs) lives.history
    (subst (λ (o : State). IsLegal o new.history)
    (ap (λ o. record { contents = contents_of o.objects; safe = o.safe }) lives.origin) all))

-- ---- what is gathered

asks_more : (ls : List LineValue) (rs : List Record) (l : LineValue) (r : Record) → AskFor ls rs → Asks l r.command
    → AskFor (ls ++ l ∷ []) (rs ++ r ∷ [])
asks_more [] [] l r are is = (is, tt)
asks_more [] (x ∷ rs) l r are is = absurd are
asks_more (k ∷ ls) [] l r are is = absurd are
asks_more (k ∷ ls) (x ∷ rs) l r are is = (are.0, asks_more ls rs l r are.1 is)

asked_many : (ls : List LineValue) (rs : List Record) → AskFor ls rs → length ls ≡ length rs
asked_many [] [] are = refl
asked_many [] (r ∷ rs) are = absurd are
asked_many (l ∷ ls) [] are = absurd are
asked_many (l ∷ ls) (r ∷ rs) are = ap suc (asked_many ls rs are.1)

lines_many : (ss : List Said) → length (lines_of ss) ≡ length ss
lines_many [] = refl
lines_many (s ∷ ss) = ap suc (lines_many ss)

lives_more : (a b c : MasterData) (one two : List Record) → LivesOn a b one → LivesOn b c two
    → LivesOn a c (one ++ two)
lives_more a b c one two before later = record {
  config = later.config ∙ before.config;
  origin = later.origin ∙ before.origin;
  durable = le_trans before.durable later.durable;
  history = later.history ∙ ap (λ (rs : List Record). rs ++ two) before.history ∙ append_assoc a.history one two;
  forgotten = later.forgotten ∙ before.forgotten;
}

module _ (is_raw : Bool) where
  said_more : (ss : List Said) (s : Said) → AreSaid is_raw ss → IsLineText is_raw s.text × SaysIn is_raw s.text s.line
      → AreSaid is_raw (ss ++ s ∷ [])
  said_more [] s are is = (is, tt)
  said_more (x ∷ ss) s are is = (are.0, said_more ss s are.1 is)

  pub starts_gathering : (d : MasterData) (had : Known) → LivesOn d d [] → IsGathered is_raw 0 d d had had
  starts_gathering d had same = record {
    said = [];
    records = [];
    many = refl;
    consumed = Consumes-nil had;
    says = tt;
    asked = tt;
    applied = same;
    none = λ is. refl;
  }

  -- a line more
  pub gathers_more : (count : ℕ) (old mid new : MasterData) (had came left : Known) (text : List ℕ)
      → IsGathered is_raw count old mid had came → Consumes came left (text ++ 10 ∷ []) → IsLineText is_raw text
      → (line : LineValue) × SaysIn is_raw text line × AppliesLine mid line new
      → IsGathered is_raw (count + 1) old new had left
  gathers_more count old mid new had came left text g consumed whole (line, says, applied) =
      let s : Said = record { text = text; line = line } in
      let r : Record = record { seat = 0; command = applied.0; reply = applied.2.0 } in
      let many = g.many in
      let longer = length-append g.said (s ∷ []) in
      record {
        said = g.said ++ s ∷ [];
        records = g.records ++ r ∷ [];
        many = omega (arith, many, longer);
        consumed = subst (Consumes had left)
            (ap (λ l. texts_of g.said ++ l) (sym (append-nil (text ++ 10 ∷ []))) ∙ sym (texts_both g.said (s ∷ [])))
            (Consumes-trans had came left (texts_of g.said) (text ++ 10 ∷ []) g.consumed consumed);
        says = said_more g.said s g.says (whole, says);
        asked = subst (λ (ls : List LineValue). AskFor ls (g.records ++ r ∷ []))
            (sym (map-append (λ (x : Said). x.line) g.said (s ∷ [])))
            (asks_more (lines_of g.said) g.records line r g.asked applied.1);
        applied = lives_more old mid new g.records (r ∷ []) g.applied applied.2.1;
        none = λ is. absurd (omega (arith, is));
      }

  -- the lines were gathered over a reader that kept what it had
  pub gathered_kept : (count : ℕ) (old now new : MasterData) (had came left : Known)
      → IsGathered is_raw count old now had came → new ≡ now → Consumes came left []
      → IsGathered is_raw count old new had left
  gathered_kept count old now new had came left g same consumed = record {
    said = g.said;
    records = g.records;
    many = g.many;
    consumed = subst (Consumes had left) (append-nil (texts_of g.said))
        (Consumes-trans had came left (texts_of g.said) [] g.consumed consumed);
    says = g.says;
    asked = g.asked;
    applied = subst (λ (d : MasterData). LivesOn old d g.records) (sym same) g.applied;
    none = λ is. same ∙ g.none is;
  }

  -- ---- what is printed of places

  pub told_more : (d : MasterData) (why : List ℕ) (place one two : ℕ)
      → told_from is_raw d why place (one + two)
      ≡ told_from is_raw d why place one ++ told_from is_raw d why (place + one) two
  told_more d why place zero two =
      let none : 0 + two ≡ two = omega arith in
      let here : place ≡ place + 0 = omega arith in
      ap (λ (n : ℕ). told_from is_raw d why place n) none ∙ ap (λ (n : ℕ). told_from is_raw d why n two) here
  told_more d why place (suc one) two =
      let more : suc one + two ≡ suc (one + two) = omega arith in
      let there : suc place + one ≡ place + suc one = omega arith in
      ap (λ (n : ℕ). told_from is_raw d why place n) more
      ∙ ap (λ l. told_at is_raw d why place ++ l)
      (told_more d why (suc place) one two
      ∙ ap (λ (n : ℕ). told_from is_raw d why (suc place) one ++ told_from is_raw d why n two) there)
      ∙ sym (append_assoc (told_at is_raw d why place) (told_from is_raw d why (suc place) one)
      (told_from is_raw d why (place + suc one) two))

  -- ---- what is printed of records

  get_there : (before : List Record) (r : Record) (rest : List Record)
      → slice_get (before ++ r ∷ rest) (length before) ≡ Some r
  get_there [] r rest = refl
  get_there (x ∷ before) r rest = get_there before r rest

  not_below : (n m : ℕ) → n ≤ m → nat_lt m n ≡ false
  not_below n m within = grind (arith, nat_tests)

  below : (n m : ℕ) → n < m → nat_lt n m ≡ true
  below n m is = grind (arith, nat_tests)

  -- the reply of a record can be read
  pub kept_there : (d : MasterData) (before : List Record) (r : Record) (rest : List Record) (place : ℕ)
      → d.history ≡ before ++ r ∷ rest → place ≡ length before → d.forgotten ≤ place
      → kept_reply d place ≡ Some r.reply
  kept_there d before r rest place is at within =
      rw (not_below d.forgotten place within)
      (ap (option_map (λ (x : Record). x.reply))
      (ap (λ (rs : List Record). slice_get rs place) is ∙ ap (slice_get (before ++ r ∷ rest)) at
      ∙ get_there before r rest))

  told_records : (d : MasterData) (why : List ℕ) (before rs : List Record) (place : ℕ) → d.history ≡ before ++ rs
      → place ≡ length before → d.forgotten ≤ place
      → told_from is_raw d why place (length rs) ≡ told_short is_raw (durable_of (log_of d)) why place rs
  told_records d why before [] place is at within = refl
  told_records d why before (r ∷ rs) place is at within =
      let here : told_at is_raw d why place
      ≡ (if nat_lt place (durable_of (log_of d)) then reply_in is_raw r.reply else unsure_line why) =
      ap (λ (o : Option MapReply). if nat_lt place (durable_of (log_of d)) then reply_in is_raw (unwrap_or o said.None)
      else unsure_line why) (kept_there d before r rs place is at within) in
      let longer = length-append before (r ∷ []) in
      ap (λ l. l ++ told_from is_raw d why (suc place) (length rs)) here
      ∙ ap (λ l. (if nat_lt place (durable_of (log_of d)) then reply_in is_raw r.reply else unsure_line why) ++ l)
      (told_records d why (before ++ r ∷ []) rs (suc place) (is ∙ sym (append_assoc before (r ∷ []) rs))
      (omega (arith, at, longer)) (omega (arith, within)))

  -- all of them are durable
  told_all : (durable : ℕ) (why : List ℕ) (place : ℕ) (rs : List Record) → place + length rs ≤ durable
      → told_short is_raw durable why place rs ≡ told_whole is_raw rs
  told_all durable why place [] all = refl
  told_all durable why place (r ∷ rs) all =
      rw (below place durable (omega (arith, all)))
      (ap (λ l. reply_in is_raw r.reply ++ l) (told_all durable why (suc place) rs (omega (arith, all))))

  -- what is written of the last records
  pub answered_by : (d : MasterData) (why : List ℕ) (before rs : List Record) (place : ℕ) → d.history ≡ before ++ rs
      → place ≡ length before → d.forgotten ≤ place → IsPushed d why
      → IsAnsweredBy is_raw place rs d (told_from is_raw d why place (length rs))
  answered_by d why before rs place is at within (inl all) =
      let long = ap length is ∙ length-append before rs in
      inl (
        all,
        told_records d why before rs place is at within
            ∙ told_all (durable_of (log_of d)) why place rs (omega (arith, long, all, at)),
      )
  answered_by d why before rs place is at within (inr (r, of_push, word)) = inr (
    r,
    of_push,
    told_records d why before rs place is at within
        ∙ ap (λ (w : List ℕ). told_short is_raw (durable_of (log_of d)) w place rs) word,
  )

  -- ---- a group in a turn

  no_said : (ss : List Said) → length ss ≡ 0 → ss ≡ []
  no_said [] is = refl
  no_said (s ∷ ss) is = absurd (omega (arith, is))

  -- a group of one command or more was pushed and answered
  module _ (more : ℕ) (old mid new : MasterData) (had came : Known) (g : IsGathered is_raw (suc more) old mid had came)
      (first : IsLegal (opening_of old) old.history) (both : IsLegal (opening_of mid) mid.history)
      (within : old.forgotten ≤ length old.history) (why : List ℕ) (pushed : MasterData) (lives : LivesOn mid pushed [])
      (outcome : IsPushed pushed why) (goes_on : GoesOn pushed new []) where
    abbrev printed : List ℕ
    printed = told_from is_raw pushed why (length mid.history - suc more) (suc more)

    abbrev group : Told
    group = record { said = g.said; printed = printed }

    many : length g.records ≡ suc more
    many = sym (asked_many (lines_of g.said) g.records g.asked) ∙ lines_many g.said ∙ g.many

    place : length mid.history - suc more ≡ length old.history
    place =
        let long = ap length g.applied.history ∙ length-append old.history g.records in
        omega (arith, long, many)

    history : pushed.history ≡ old.history ++ g.records
    history = lives.history ∙ append-nil mid.history ∙ g.applied.history

    answered : IsAnsweredBy is_raw (length old.history) g.records pushed printed
    answered =
        let kept = lives.forgotten ∙ g.applied.forgotten in
        subst (λ (n : ℕ). IsAnsweredBy is_raw (length old.history) g.records pushed
        (told_from is_raw pushed why n (suc more))) (sym place)
        (subst (λ (n : ℕ). IsAnsweredBy is_raw (length old.history) g.records pushed
        (told_from is_raw pushed why (length old.history) n)) many
        (answered_by pushed why old.history g.records (length old.history) history refl (omega (arith, kept, within))
        outcome))

    group_told : IsTold is_raw old group new
    group_told = record {
      says = g.says;
      runs = inr (record {
        records = g.records;
        some = omega (arith, many);
        asked = g.asked;
        legal = legal_group old mid g.records first both g.applied;
        pushed = pushed;
        applied = record {
          config = lives.config ∙ g.applied.config;
          origin = lives.origin ∙ g.applied.origin;
          durable = le_trans g.applied.durable lives.durable;
          history = history;
        };
        answered = answered;
        goes_on = goes_on;
      });
    }

    pub group_answered : (number : ℕ) (held holds : Known) → Appends held holds printed
        → HasRun is_raw number (number + suc more) old new had came held holds
    group_answered number held holds written =
        let all = g.many in
        let same = append-nil g.said in
        record {
          told = group ∷ [];
          count = (let long = ap (λ (l : List Said). length l) same in omega (arith, all, long));
          consumed = subst (λ (l : List Said). Consumes had came (texts_of l)) (sym same) g.consumed;
          tells = (new, group_told, refl);
          printed = subst (Appends held holds) (sym (append-nil printed)) written;
        }

    pub group_cut : (number : ℕ) (left held holds : Known) (part : List ℕ) (f : ScriptFault) → Consumes came left part
        → IsWritten held holds printed (Err f) → RunsFrom is_raw number old new had left held holds (Err f)
    group_cut number left held holds part f rest (failed, cut) =
        subst (λ (x : ScriptFault). RunsFrom is_raw number old new had left held holds (Err x)) (sym failed)
        (record {
          told = group ∷ [];
          taken = texts_of g.said ++ part;
          consumed = Consumes-trans had came left (texts_of g.said) part g.consumed rest;
          tells = (new, group_told, refl);
          ends = inr (part, ap (λ (l : List Said). texts_of l ++ part) (sym (append-nil g.said)));
          prints = inr ([], group, cut.0, cut.1, refl, cut.2, cut.3);
        })

  module _ (old mid new : MasterData) (had came : Known) (first : IsLegal (opening_of old) old.history)
      (both : IsLegal (opening_of mid) mid.history) (within : old.forgotten ≤ length old.history) (held holds : Known)
      (number : ℕ) where
    -- the group was answered; it may be empty
    pub answered_all : (count : ℕ) → IsGathered is_raw count old mid had came
        → AnswersGroup is_raw count mid new held holds (Ok tt)
        → HasRun is_raw number (number + count) old new had came held holds
    answered_all zero g (is, same, kept) = record {
      told = [];
      count = refl;
      consumed = subst (λ (l : List Said). Consumes had came (texts_of l)) (no_said g.said g.many) g.consumed;
      tells = same ∙ g.none refl;
      printed = Appends-kept held held holds [] (Appends-nil held) kept;
    }
    answered_all (suc more) g (why, pushed, lives, outcome, goes_on, written) =
        group_answered more old mid new had came g first both within why pushed lives outcome goes_on number held holds
        written

    -- the writer failed as the group was answered
    pub answered_short : (count : ℕ) (left : Known) (part : List ℕ) (f : ScriptFault)
        → IsGathered is_raw count old mid had came → Consumes came left part
        → AnswersGroup is_raw count mid new held holds (Err f)
        → RunsFrom is_raw number old new had left held holds (Err f)
    answered_short zero left part f g rest (is, same, kept) = absurd (cc)
    answered_short (suc more) left part f g rest (why, pushed, lives, outcome, goes_on, written) =
        group_cut more old mid new had came g first both within why pushed lives outcome goes_on number left held holds
        part f rest written
