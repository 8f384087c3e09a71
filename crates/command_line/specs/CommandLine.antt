-- The command line: which options there are, what number each one has, and which words are refused.
use Rattle.std.specs.Prelude.{◌≡◌, ◌<◌, ◌≤◌, ◌-◌, ◌^◌, ℕ, List, [], ◌∷◌, Option, Some}
use Rattle.std.specs.Prelude.{Bool, None, Result, MatchResult, codes, true, false}
use Rattle.std.specs.List.{fold}
use Rattle.std.specs.Str.Parse.{IsNumeral, digits_value, without_leading_plus}
use Rattle.clap.specs.declared.builder.command.Command.{Command}
use Rattle.clap.specs.declared.builder.command.Command.TheViews.{out-Command}
use Rattle.clap.specs.Words.{App, IsPlain, Kinds, Row, Rule, Text, app_of, fault_of, kind_of}
use Rattle.clap.specs.Values.{bool_text}
use Rattle.clap.specs.Words.{matches_of, new_app, new_rule, one_of, with_rule}
use Rattle.clap.specs.declared.builder.ArgAction.TheVariants.{Set, SetTrue}
use Rattle.clap.specs.declared.builder.value_parser.ValueParser.TheVariants as parser
use Rattle.clap.specs.declared.error.Error.{Error}
use Rattle.clap.specs.declared.error.kind.ErrorKind.TheVariants.{OutOfMemory}
use Rattle.command_line.specs.declared.settings.Options.{Options}

-- an option `--NAME N`: the least and the most that N may be, and the number without the option
pub record NumberOption : Type 0 where
  pub name : Text
  pub least : ℕ
  pub most : ℕ
  pub default : ℕ

-- the fourteen options that take a number
abbrev pub backups : NumberOption
backups = record { name = codes "backups"; least = 1; most = 64; default = 3 }

abbrev pub replicas : NumberOption
replicas = record { name = codes "replicas"; least = 1; most = 64; default = 2 }

abbrev pub step : NumberOption
step = record { name = codes "step"; least = 1; most = 64; default = 1 }

abbrev pub segment : NumberOption
segment = record { name = codes "segment"; least = 512; most = 8388608; default = 512 }

abbrev pub seglet : NumberOption
seglet = record { name = codes "seglet"; least = 64; most = 65536; default = 64 }

abbrev pub seglets : NumberOption
seglets = record { name = codes "seglets"; least = 4; most = 4294967296; default = 64 }

abbrev pub tables : NumberOption
tables = record { name = codes "tables"; least = 1; most = 64; default = 4 }

abbrev pub history : NumberOption
history = record { name = codes "history"; least = 1; most = 1048576; default = 1048576 }

abbrev pub bytes : NumberOption
bytes = record { name = codes "bytes"; least = 1; most = 4294967296; default = 1048576 }

abbrev pub objects : NumberOption
objects = record { name = codes "objects"; least = 1; most = 4294967296; default = 1000000 }

abbrev pub format : NumberOption
format = record { name = codes "format"; least = 1; most = 2; default = 1 }

abbrev pub largest : NumberOption
largest = record { name = codes "largest"; least = 24; most = 8388608; default = 2 ^ 64 - 1 }

abbrev pub live : NumberOption
live = record { name = codes "live"; least = 0; most = 281474976710656; default = 2 ^ 64 - 1 }

abbrev pub tend : NumberOption
tend = record { name = codes "tend"; least = 0; most = 65536; default = 0 }

-- an option as clap takes it: a long name, and one value that is a number in the range
abbrev pub number_rule : Text → ℕ → ℕ → Rule
number_rule name least most = record (new_rule name) {
  long = Some name;
  value_names = 1;
  action = Some Set;
  parser = Some (parser.Unsigned least most);
}

-- the option that takes none
abbrev pub forget : Text
forget = codes "forget"

-- such an option as clap takes it: a long name, and no value
abbrev pub flag_rule : Text → Rule
flag_rule name = record (new_rule name) {
  long = Some name;
  action = Some SetTrue;
  parser = Some parser.Bool;
}

abbrev pub with_option : App → NumberOption → App
with_option app option = with_rule app (number_rule option.name option.least option.most)

-- the app with a version
abbrev pub with_version : App → App
with_version app = record app { top = record app.top { has_version = true } }

-- a command with a version and the options that take a number
unfoldable pub numbered : App
numbered = fold with_option (with_version (new_app (codes "ramlog")))
    (backups ∷ replicas ∷ step ∷ segment ∷ seglet ∷ seglets ∷ tables ∷ history ∷ bytes ∷ objects ∷ format
    ∷ largest ∷ live ∷ tend ∷ [])

-- the program's command: the fifteen options, a version, and nothing else
unfoldable pub ramlog : App
ramlog = with_rule numbered (flag_rule forget)

-- clap's exact matches of the words
unfoldable pub ramlog_matches : List Text → List Row
ramlog_matches words = matches_of ramlog words

-- the kinds of error with which clap refuses the words: none if it takes them
unfoldable pub ramlog_faults : List Text → Kinds
ramlog_faults words = fault_of ramlog words

-- n is the number that the option's text writes, in its range, or its default if there is no text
abbrev pub IsNumberIn : NumberOption → Option Text → ℕ → Type 0
IsNumberIn option None n = n ≡ option.default
IsNumberIn option (Some text) n = IsNumeral 10 (without_leading_plus text)
    × (n ≡ digits_value 10 (without_leading_plus text)) × (option.least ≤ n) × (n ≤ option.most)

-- the flag is set if its text is 'true', and isn't if that is 'false' or there is none
abbrev pub IsFlag : Option Text → Bool → Type 0
IsFlag None set = set ≡ false
IsFlag (Some text) set = text ≡ bool_text set

-- n is the option's number in the matches
abbrev pub HasNumber : NumberOption → List Row → ℕ → Type 0
HasNumber option rows n = IsNumberIn option (one_of option.name rows) n

-- the relations hold of each option and its field
pub record HasEach (Is : NumberOption → ℕ → Type 0) (IsSet : Text → Bool → Type 0) (o : Options) : Type 0 where
  pub backups : Is backups o.backups
  pub replicas : Is replicas o.replicas
  pub step : Is step o.step
  pub segment : Is segment o.segment
  pub seglet : Is seglet o.seglet
  pub seglets : Is seglets o.seglets
  pub tables : Is tables o.tables
  pub history : Is history o.history
  pub bytes : Is bytes o.bytes
  pub objects : Is objects o.objects
  pub format : Is format o.format
  pub largest : Is largest o.largest
  pub live : Is live o.live
  pub tend : Is tend o.tend
  pub forget : IsSet forget o.forget

-- each field is its option's number in the matches, or says whether the option is set there
abbrev pub HasOptions : List Row → Options → Type 0
HasOptions rows o = HasEach (λ option n. HasNumber option rows n) (λ name set. IsFlag (one_of name rows) set) o

-- the options of a command line that names none
abbrev pub default_options : Options
default_options = record {
  backups = backups.default;
  replicas = replicas.default;
  step = step.default;
  segment = segment.default;
  seglet = seglet.default;
  seglets = seglets.default;
  tables = tables.default;
  history = history.default;
  bytes = bytes.default;
  objects = objects.default;
  format = format.default;
  largest = largest.default;
  live = live.default;
  tend = tend.default;
  forget = false;
}

-- the defaults, unless memory runs out
abbrev pub IsDefault : Result Options Error → Type 0
IsDefault result = MatchResult result (λ o. o ≡ default_options) (λ e. kind_of e ≡ OutOfMemory)

-- n is the number that the text writes, if it writes one of 64 bits, or the default if there is no text
abbrev pub ReadsNumber : ℕ → Option Text → ℕ → Type 0
ReadsNumber default None n = n ≡ default
ReadsNumber default (Some text) n = IsNumeral 10 (without_leading_plus text)
    → digits_value 10 (without_leading_plus text) < 2 ^ 64
    → n ≡ digits_value 10 (without_leading_plus text)

-- the same of a text that is 'true' or 'false'
abbrev pub ReadsFlag : Option Text → Bool → Type 0
ReadsFlag None set = set ≡ false
ReadsFlag (Some text) set = (b : Bool) → text ≡ bool_text b → set ≡ b

-- each field is the number that its option's text writes, or its default without one
abbrev pub ReadsOptions : (Text → Option Text) → Options → Type 0
ReadsOptions text o =
    HasEach (λ option n. ReadsNumber option.default (text option.name) n) (λ name set. ReadsFlag (text name) set) o

-- the command has this shape, and it is plain: nothing in it excludes anything or is for subcommands
pub record IsCommand (app : App) (command : Command) : Type 0 where
  pub shape : app_of command ≡ app
  pub plain : IsPlain command
  pub local : (out-Command command).has_globals ≡ false
