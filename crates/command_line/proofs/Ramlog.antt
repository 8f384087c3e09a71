-- The program's command: how it grows, that clap's exact rules apply to it, and what its options are.
use Rattle.std.proofs.Common.{◌||◌, ◌≡◌, ◌∙◌, ap, ap₂, Bool, true, false, [], ◌∷◌, inl, inr, length, ℕ, List, Option}
use Rattle.std.proofs.Common.{Some}
use Rattle.std.proofs.Common.{None, refl, sym, subst, arith, drop, ◌+◌, ◌<◌, ◌≤◌, slice_index_or, codes}
use Rattle.std.proofs.lemmas.List.{at_drop_more, drop_all}
use Rattle.std.proofs.lemmas.List.Elements.{All-nil}
use Rattle.std.specs.Prelude.{Ok, Err, IsErr, Result, unwrap_or}
use Rattle.clap.specs.Walk.{texts}
use Rattle.clap.specs.declared.error.Error.{Error}
use Rattle.std.specs.Str.Parse.{digits_value, without_leading_plus}
use Rattle.std.specs.Borrow.{Bor}
use Rattle.std.specs.List.{All, fold}
use Rattle.clap.specs.Simple.{app_of_fields}
use Rattle.clap.specs.declared.builder.command.Command.TheOpen.{Command-F}
use Rattle.clap.specs.declared.builder.command.Command.TheViews.{out-Command}
use Rattle.clap.specs.Words.{AddsArg, App, FailsBy, HasKind, HasMatchesOf, IsParsedFrom, IsPlain, IsPlainArg}
use Rattle.clap.specs.Words.{Kinds, Row, Text, app_of, args_of, fault_of, found_of, groups_of, is_simple}
use Rattle.clap.specs.Words.{is_simple_and_free, matches_of, new_app, one_of, one_text, rule_of, with_rule}
use Rattle.clap.specs.Values.{bool_text}
use Rattle.clap.specs.declared.builder.value_parser.Reading.TheVariants.{AsWritten}
use Rattle.clap.specs.declared.parser.matches.ValueSource.TheVariants.{DefaultValue}
use Rattle.clap.specs.declared.builder.arg.Arg.{Arg}
use Rattle.clap.specs.declared.builder.command.Command.{Command}
use Rattle.clap.specs.declared.parser.matches.ArgMatches.{ArgMatches}
use Rattle.clap.proofs.CallerLemmas.{added_plain}
use Rattle.clap.proofs.OnLiterals.{clap_on_literals}
use Rattle.clap.proofs.WalkLemmas.{one_text-rows}
use Rattle.command_line.specs.CommandLine.{HasNumber, HasOptions, IsCommand, IsDefault, IsNumberIn}
use Rattle.command_line.specs.CommandLine.{IsFlag, NumberOption, ReadsFlag, ReadsNumber, default_options, flag_rule}
use Rattle.command_line.specs.CommandLine.{forget}
use Rattle.command_line.specs.CommandLine.{number_rule, numbered}
use Rattle.command_line.specs.CommandLine.{ramlog, with_version, ramlog_faults, ramlog_matches}
use Rattle.command_line.specs.CommandLine.{backups, replicas, step, segment, seglet, seglets}
use Rattle.command_line.specs.CommandLine.{tables, history, bytes, objects, format, largest, live, tend}
use Rattle.command_line.specs.declared.number_option.NumberOption as code
use Rattle.command_line.specs.declared.settings.Options.{Options}
use Rattle.command_line.proofs.Numbers.{IsNamed, IsOptionOf, takes_flag, text_flag, text_number}

-- the texts of a command's help, and its version
pub record Texts : Type 0 where
  pub about : Option (Bor Text)
  pub after_help : Option (Bor Text)
  pub usage : Option (Bor Text)
  pub version : Bor Text

-- a command's fields with these texts
abbrev pub with_texts : Command-F Command → Texts → Command-F Command
with_texts f t =
    record f { about = t.about; after_help = t.after_help; usage_str = t.usage; version = Some t.version }

-- texts that are given one after another
pub texts_given : (f about after usage version : Command-F Command) (t : Texts) → about ≡ record f { about = t.about }
    → after ≡ record about { after_help = t.after_help } → usage ≡ record after { usage_str = t.usage }
    → version ≡ record usage { version = Some t.version } → version ≡ with_texts f t
texts_given f about after usage version t first second third last =
    last ∙ ap (λ (g : Command-F Command). record g { version = Some t.version })
    (third ∙ ap (λ (g : Command-F Command). record g { usage_str = t.usage })
    (second ∙ ap (λ (g : Command-F Command). record g { after_help = t.after_help }) first))

-- a command that was given its texts
described : (old new : Command) (app : App) (t : Texts) → IsCommand app old
    → out-Command new ≡ with_texts (out-Command old) t → IsCommand (with_version app) new
described old new app t is same = record {
  shape = ap app_of_fields same ∙ ap with_version is.shape;
  plain = subst (λ (f : Command-F Command). All IsPlainArg f.args.items × (f.groups.items ≡ [])) (sym same) is.plain;
  local = ap (λ (f : Command-F Command). f.has_globals) same ∙ is.local;
}

-- the app with an option of the code
abbrev with_listed : App → code.NumberOption → App
with_listed app o = with_rule app (number_rule o.name.now o.least o.most)

-- a command that is the program's, but for its flag, once these options are added
pub record Growing (c : Command) (left : List code.NumberOption) : Type 0 where
  pub shape : fold with_listed (app_of c) left ≡ numbered
  pub plain : IsPlain c
  pub local : (out-Command c).has_globals ≡ false

pub growing : (old new : Command) (a : Arg) (options : List code.NumberOption) (i : ℕ) (o : code.NumberOption)
    → Growing old (drop i options) → i < length options → AddsArg old a new
    → rule_of a ≡ number_rule (slice_index_or options i o).name.now (slice_index_or options i o).least
    (slice_index_or options i o).most
    → IsPlainArg a → a.global ≡ false → Growing new (drop (i + 1) options)
growing old new a options i o is under added rule plain local =
    let next = slice_index_or options i o in
    let left = at_drop_more (fold with_listed (app_of old)) options i o under in
    record {
      shape =
          ap (λ app. fold with_listed app (drop (i + 1) options)) (added.shape local ∙ ap (with_rule (app_of old)) rule)
          ∙ (sym left ∙ is.shape);
      plain = added_plain old new a added is.plain plain;
      local = added.globals ∙ ap₂ (λ b d. b || d) is.local local;
    }

pub grown : (c : Command) (options : List code.NumberOption) (i : ℕ) → Growing c (drop i options) → length options ≤ i
    → IsCommand numbered c
grown c options i is over =
    let none : drop i options ≡ [] = drop_all i options over in
    record {
      shape = subst (λ left. fold with_listed (app_of c) left ≡ numbered) none is.shape;
      plain = is.plain;
      local = is.local;
    }

-- and with its flag it is the program's
pub flagged : (old new : Command) (a : Arg) → IsCommand numbered old → AddsArg old a new
    → rule_of a ≡ flag_rule forget → IsPlainArg a → a.global ≡ false → IsCommand ramlog new
unfolding ramlog
flagged old new a is added rule plain local = record {
  shape = added.shape local ∙ ap₂ with_rule is.shape rule;
  plain = added_plain old new a added is.plain plain;
  local = added.globals ∙ ap₂ (λ b d. b || d) is.local local;
}

-- the command before its options
pub opening : (new old : Command) (t : Texts) (options : List code.NumberOption)
    → app_of old ≡ new_app (codes "ramlog") → (args_of old ≡ []) × (groups_of old ≡ [])
    → (out-Command old).has_globals ≡ false
    → out-Command new ≡ with_texts (out-Command old) t
    → fold with_listed (with_version (new_app (codes "ramlog"))) options ≡ numbered → Growing new options
opening new old t options app empty local same whole = record {
  shape = ap (λ app. fold with_listed app options) is.shape ∙ whole;
  plain = is.plain;
  local = is.local;
}
  where
    is : IsCommand (with_version (new_app (codes "ramlog"))) new
    is = described old new _ t record {
      shape = app;
      plain = (subst (All IsPlainArg) (sym empty.0) (All-nil IsPlainArg), empty.1);
      local = local;
    } same

is_simple_ramlog : is_simple ramlog ≡ true
unfolding clap_on_literals ramlog numbered
is_simple_ramlog = refl

is_free_ramlog : is_simple_and_free ramlog ≡ true
unfolding clap_on_literals ramlog numbered
is_free_ramlog = refl

-- clap's exact kinds of error apply to the command
pub is_free : (c : Command) → IsCommand ramlog c → is_simple_and_free (app_of c) ≡ true
is_free c is = ap is_simple_and_free is.shape ∙ is_free_ramlog

-- and they are the program's
pub faults_are : (c : Command) (words : List Text) → IsCommand ramlog c
    → fault_of (app_of c) words ≡ ramlog_faults words
unfolding ramlog_faults
faults_are c words is = ap (λ a. fault_of a words) is.shape

-- the text that is read of an option is that of the exact matches
text_is : (c : Command) (m : ArgMatches) (words : List Text) → IsCommand ramlog c → HasMatchesOf (app_of c) words m
    → (name : Text) → one_text (found_of m) name ≡ one_of name (ramlog_matches words)
unfolding ramlog_matches
text_is c m words is has name =
    one_text-rows (found_of m) name
    ∙ ap (one_of name) ((has (ap is_simple is.shape ∙ is_simple_ramlog)).0 ∙ ap (λ a. matches_of a words) is.shape)

-- the number that is read of an option is its number in the exact matches
pub has_number : (c : Command) (m : ArgMatches) (words : List Text) → IsCommand ramlog c → IsParsedFrom c m
    → HasMatchesOf (app_of c) words m → (o : NumberOption) → IsOptionOf o ramlog.top.rules
    → (n : ℕ) → ReadsNumber o.default (one_text (found_of m) o.name) n → HasNumber o (ramlog_matches words) n
has_number c m words is p has o known n number =
    go (one_text (found_of m) o.name) (one_of o.name (ramlog_matches words)) refl (text_is c m words is has o.name)
    number
  where
    go : (read text : Option Text) → one_text (found_of m) o.name ≡ read → read ≡ text → ReadsNumber o.default read n
        → IsNumberIn o text n
    go None None e same h = h
    go None (Some u) e same h = cc
    go (Some t) None e same h = cc
    go (Some t) (Some u) e same h =
        let range = text_number ramlog c m p is o known t e in
        let number : n ≡ digits_value 10 (without_leading_plus t) = h range.0 range.1 in
        let text : t ≡ u = ap (λ (w : Option Text). unwrap_or w t) same in
        subst (λ (w : Text). IsNumberIn o (Some w) n) text
        (range.0, number, omega (arith, number, range.2), omega (arith, number, range.3))

-- and so is the flag
pub has_flag : (c : Command) (m : ArgMatches) (words : List Text) → IsCommand ramlog c → IsParsedFrom c m
    → HasMatchesOf (app_of c) words m → (name : Text) → IsNamed name takes_flag ramlog.top.rules
    → (set : Bool) → ReadsFlag (one_text (found_of m) name) set → IsFlag (one_of name (ramlog_matches words)) set
has_flag c m words is p has name known set flag =
    go (one_text (found_of m) name) (one_of name (ramlog_matches words)) refl (text_is c m words is has name) flag
  where
    go : (read text : Option Text) → one_text (found_of m) name ≡ read → read ≡ text → ReadsFlag read set
        → IsFlag text set
    go None None e same h = h
    go None (Some u) e same h = cc
    go (Some t) None e same h = cc
    go (Some t) (Some u) e same h =
        let text = text_flag ramlog c m p is name known t e in
        let equal : t ≡ u = ap (λ (w : Option Text). unwrap_or w t) same in
        sym equal ∙ (text.1 ∙ ap bool_text (sym (h text.0 text.1)))

pub has_forget : IsNamed forget takes_flag ramlog.top.rules
unfolding ramlog numbered
has_forget = record { obeyed = refl; named = refl; not_help = refl; not_version = refl }

pub has_backups : IsOptionOf backups ramlog.top.rules
unfolding ramlog numbered
has_backups = record { obeyed = refl; named = refl; not_help = refl; not_version = refl }

pub has_replicas : IsOptionOf replicas ramlog.top.rules
unfolding ramlog numbered
has_replicas = record { obeyed = refl; named = refl; not_help = refl; not_version = refl }

pub has_step : IsOptionOf step ramlog.top.rules
unfolding ramlog numbered
has_step = record { obeyed = refl; named = refl; not_help = refl; not_version = refl }

pub has_segment : IsOptionOf segment ramlog.top.rules
unfolding ramlog numbered
has_segment = record { obeyed = refl; named = refl; not_help = refl; not_version = refl }

pub has_seglet : IsOptionOf seglet ramlog.top.rules
unfolding ramlog numbered
has_seglet = record { obeyed = refl; named = refl; not_help = refl; not_version = refl }

pub has_seglets : IsOptionOf seglets ramlog.top.rules
unfolding ramlog numbered
has_seglets = record { obeyed = refl; named = refl; not_help = refl; not_version = refl }

pub has_tables : IsOptionOf tables ramlog.top.rules
unfolding ramlog numbered
has_tables = record { obeyed = refl; named = refl; not_help = refl; not_version = refl }

pub has_history : IsOptionOf history ramlog.top.rules
unfolding ramlog numbered
has_history = record { obeyed = refl; named = refl; not_help = refl; not_version = refl }

pub has_bytes : IsOptionOf bytes ramlog.top.rules
unfolding ramlog numbered
has_bytes = record { obeyed = refl; named = refl; not_help = refl; not_version = refl }

pub has_objects : IsOptionOf objects ramlog.top.rules
unfolding ramlog numbered
has_objects = record { obeyed = refl; named = refl; not_help = refl; not_version = refl }

pub has_format : IsOptionOf format ramlog.top.rules
unfolding ramlog numbered
has_format = record { obeyed = refl; named = refl; not_help = refl; not_version = refl }

pub has_largest : IsOptionOf largest ramlog.top.rules
unfolding ramlog numbered
has_largest = record { obeyed = refl; named = refl; not_help = refl; not_version = refl }

pub has_live : IsOptionOf live ramlog.top.rules
unfolding ramlog numbered
has_live = record { obeyed = refl; named = refl; not_help = refl; not_version = refl }

pub has_tend : IsOptionOf tend ramlog.top.rules
unfolding ramlog numbered
has_tend = record { obeyed = refl; named = refl; not_help = refl; not_version = refl }

-- of the program's name alone clap finds nothing but that the flag isn't set
abbrev bare_rows : List Row
bare_rows = record {
  id = forget;
  values = codes "false" ∷ [];
  count = None;
  source = Some DefaultValue;
  reading = AsWritten;
} ∷ []

no_matches : (w : Text) → ramlog_matches (w ∷ []) ≡ bare_rows
unfolding clap_on_literals ramlog numbered ramlog_matches
no_matches w = refl

-- and no fault
no_faults : (w : Text) → ramlog_faults (w ∷ []) ≡ []
unfolding clap_on_literals ramlog numbered ramlog_faults
no_faults w = refl

flag_is_false : (set : Bool) → codes "false" ≡ bool_text set → set ≡ false
flag_is_false true same =
    let bad : ◌≡◌ {A = ℕ} 5 4 = ap length same in
    absurd (omega (arith, bad))
flag_is_false false same = refl

-- so the options are the defaults
are_defaults : (o : Options) → HasOptions bare_rows o → o ≡ default_options
are_defaults o has =
    let forget : o.forget ≡ false = flag_is_false o.forget has.forget in
    rw (
      has.backups,
      has.replicas,
      has.step,
      has.segment,
      has.seglet,
      has.seglets,
      has.tables,
      has.history,
      has.bytes,
      has.objects,
      has.format,
      has.largest,
      has.live,
      has.tend,
      forget,
    ) refl

-- the name alone gives the defaults
pub bare_options : (words : List (Bor Text)) (o : Options) → length words ≡ 1
    → HasOptions (ramlog_matches (texts words)) o
    → o ≡ default_options
bare_options (w ∷ []) o one has = are_defaults o (subst (λ (rows : List Row). HasOptions rows o) (no_matches w.now) has)
bare_options [] o one has = absurd (omega arith)
bare_options (v ∷ w ∷ words) o one has = absurd (omega arith)

-- and is refused only if memory runs out
pub bare_refusal : (words : List (Bor Text)) (r : Result Options Error) → length words ≡ 1 → IsErr r
    → FailsBy (ramlog_faults (texts words)) r → IsDefault r
bare_refusal (w ∷ []) (Err e) one err fails = elim (subst (λ (k : Kinds). HasKind k e) (no_faults w.now) fails) [
  | inl memory ↦ memory
  | inr none ↦ absurd none
]
bare_refusal words (Ok o) one err fails = cc
bare_refusal [] (Err e) one err fails = absurd (omega arith)
bare_refusal (v ∷ w ∷ words) (Err e) one err fails = absurd (omega arith)
