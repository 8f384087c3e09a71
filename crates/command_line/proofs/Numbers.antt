-- What a parse of a command gives for an option whose values have to pass a parser.
use Rattle.std.proofs.Common.{◌&&◌, ◌||◌, ◌==◌, ◌≡◌, ◌∙◌, ◌<◌, ap, ap₂, not, ℕ, Bool, true, false, List, [], ◌∷◌}
use Rattle.std.proofs.Common.{length, map, Option, Some, None, refl, sym, subst, inl, inr, arith, codes}
use Rattle.std.specs.Prelude.{option_map, slice_get, unwrap_or}
use Rattle.std.specs.Borrow.{Bor}
use Rattle.std.specs.List.{All, list_all, slice_index_or}
use Rattle.std.specs.Str.{bytes_eq}
use Rattle.std.proofs.lemmas.Bool.{and_parts, cases_lt, eqb-true, or_cases}
use Rattle.std.proofs.lemmas.List.Elements.{All-get_or}
use Rattle.std.proofs.lemmas.List.Folds.{list_all-map}
use Rattle.std.proofs.lemmas.List.Sums.{AllPass-from_list_all}
use Rattle.std.proofs.lemmas.Slice.Eq.{bytes_eq-Decides}
use Rattle.clap.specs.Built.{IsAuto, SameRules}
use Rattle.clap.specs.Facts.{Entry, EntryPasses, PassesArg, parser_of_value}
use Rattle.clap.specs.Values.{IsUnsignedIn, bool_text}
use Rattle.clap.specs.Words.{Accepts, App, IsParsedFrom, Rule, Text, args_of, found_of, groups_of}
use Rattle.clap.specs.Words.{matched_of, one_text, parser_of, read_as, reading_of, rule_of}
use Rattle.clap.specs.declared.builder.arg.Arg.{Arg}
use Rattle.clap.specs.declared.builder.command.Command.{Command}
use Rattle.clap.specs.declared.builder.value_parser.Reading.{Reading}
use Rattle.clap.specs.declared.builder.value_parser.Reading.TheVariants as reading
use Rattle.clap.specs.declared.builder.value_parser.ValueParser.{ValueParser}
use Rattle.clap.specs.declared.builder.value_parser.ValueParser.TheVariants as parser
use Rattle.clap.specs.declared.parser.matches.ArgMatches.{ArgMatches}
use Rattle.clap.specs.declared.parser.matches.MatchedArg.{MatchedArg}
use Rattle.clap.proofs.CallerLemmas.{entry_by_id}
use Rattle.command_line.specs.CommandLine.{IsCommand, NumberOption}

-- a parser that is written as it is read, and that this test finds
pub record IsParser (takes : Option ValueParser → Bool) (p : ValueParser) : Type 0 where
  pub found : (q : Option ValueParser) → takes q ≡ true → q ≡ Some p
  pub written : reading_of p ≡ reading.AsWritten

abbrev pub takes_range : ℕ → ℕ → Option ValueParser → Bool
takes_range least most (Some (parser.Unsigned low high)) = low == least && high == most
takes_range least most _ = false

abbrev pub takes_flag : Option ValueParser → Bool
takes_flag (Some parser.Bool) = true
takes_flag _ = false

-- a rule of another name, or one whose parser the test finds
abbrev pub obeys : Text → (Option ValueParser → Bool) → Rule → Bool
obeys name takes r = not (bytes_eq r.id name) || takes r.parser

-- under this name the rules of a command have parsers alone that the test finds; the name is none that clap adds
pub record IsNamed (name : Text) (takes : Option ValueParser → Bool) (rules : List Rule) : Type 0 where
  pub obeyed : list_all (obeys name takes) rules ≡ true
  pub named : bytes_eq [] name ≡ false
  pub not_help : bytes_eq (codes "help") name ≡ false
  pub not_version : bytes_eq (codes "version") name ≡ false

-- under the option's name the rules of a command take its numbers alone
abbrev pub IsOptionOf : NumberOption → List Rule → Type 0
IsOptionOf o rules = IsNamed o.name (takes_range o.least o.most) rules

pub is_range : (least most : ℕ) → IsParser (takes_range least most) (parser.Unsigned least most)
is_range least most = record { found = found; written = refl }
  where
    found : (p : Option ValueParser) → takes_range least most p ≡ true → p ≡ Some (parser.Unsigned least most)
    found (Some (parser.Unsigned low high)) h =
        let both = and_parts (low == least) (high == most) h in
        ap₂ (λ a b. Some (parser.Unsigned a b)) (eqb-true low least both.0) (eqb-true high most both.1)
    found _ h = absurd (cc)

pub is_flag : IsParser takes_flag parser.Bool
is_flag = record { found = found; written = refl }
  where
    found : (p : Option ValueParser) → takes_flag p ≡ true → p ≡ Some parser.Bool
    found (Some parser.Bool) h = refl
    found _ h = absurd (cc)

rule_obeys : (name : Text) (takes : Option ValueParser → Bool) (p : ValueParser) → IsParser takes p → (r : Rule)
    → obeys name takes r ≡ true → bytes_eq r.id name ≡ true → r.parser ≡ Some p
rule_obeys name takes p is r h same = is.found r.parser (rw same at h)

-- the arguments of this name have this parser
abbrev AllTake : Command → Text → ValueParser → Type 0
AllTake c name p = (j : ℕ) (x : Arg) → j < length (args_of c) → slice_index_or (args_of c) j x ≡ x
    → bytes_eq x.id.now name ≡ true → x.value_parser ≡ Some p

differs : (a b : Text) → bytes_eq a b ≡ false → a ≡ b → ⊥
differs a b h e =
    let same : bytes_eq a b ≡ true = (bytes_eq-Decides a b).1 e in
    let bad : true ≡ false = rw same at h in
    cc

all_take : (app : App) (c : Command) (m : ArgMatches) (from : IsParsedFrom c m) → IsCommand app c
    → (name : Text) (takes : Option ValueParser → Bool) (p : ValueParser) → IsParser takes p
    → IsNamed name takes app.top.rules → AllTake from.built name p
all_take app c m from is name takes p parsed has j x high at same =
    elim (cases_lt j (length (args_of c))) [
      | inl under ↦
          let rules = subst (λ w. SameRules (slice_index_or (args_of c) j x) w) at (from.from.kept j x under).1 in
          let own : bytes_eq (slice_index_or (args_of c) j x).id.now name ≡ true = rw (← rules.id) same in
          rules.parser _
          (rule_obeys name takes p parsed (rule_of (slice_index_or (args_of c) j x)) (obeyed under) own)
      | inr over ↦
          let own : x.id.now ≡ name = (bytes_eq-Decides x.id.now name).0 same in
          absurd (elim (subst IsAuto at (from.from.extra j x over high)) [
            | inl help ↦ differs _ _ has.not_help (sym help ∙ own)
            | inr version ↦ differs _ _ has.not_version (sym version ∙ own)
          ])
    ]
  where
    obeyed : j < length (args_of c) → obeys name takes (rule_of (slice_index_or (args_of c) j x)) ≡ true
    obeyed under =
        let rules : map rule_of (args_of c) ≡ app.top.rules = ap (λ (a : App). a.top.rules) is.shape in
        let all : list_all (λ a. obeys name takes (rule_of a)) (args_of c) ≡ true =
        sym (list_all-map (obeys name takes) rule_of (args_of c))
        ∙ (ap (list_all (obeys name takes)) rules ∙ has.obeyed) in
        All-get_or (λ a. obeys name takes (rule_of a) ≡ true) (args_of c) j x under
        (AllPass-from_list_all (λ a. obeys name takes (rule_of a)) (args_of c) all)

-- some text that passes the parser, whatever its case
abbrev pub IsTaken : ValueParser → Text → Type 0
IsTaken p t = (ignores : Bool) × Accepts ignores p t

-- the first text of a list of which each passed the option's arguments
first_text : (c : Command) (name : Text) (p : ValueParser) → AllTake c name p → (values : List (Bor Text))
    → All (λ v. PassesArg c name v.now) values
    → (t : Text) → option_map (λ v. read_as reading.AsWritten v.now) (slice_get values 0) ≡ Some t
    → IsTaken p t
first_text c name p all [] passed t is = cc
first_text c name p all (v ∷ values) passed t is =
    let any = All-get_or (λ v. PassesArg c name v.now) (v ∷ values) 0 v (omega arith) passed in
    let own : parser_of any.1 ≡ p = ap parser_of_value (all any.0 any.1 any.2 any.3 any.4.0) in
    let text : v.now ≡ t = ap (λ (w : Option Text). unwrap_or w t) is in
    let taken : Accepts any.1.ignore_case p v.now =
    subst (λ (q : ValueParser). Accepts any.1.ignore_case q v.now) own any.4.1 in
    (any.1.ignore_case, subst (Accepts any.1.ignore_case p) text taken)

-- the text that is read of an entry of the option's name
entry_text : (c : Command) (name : Text) (p : ValueParser) → groups_of c ≡ [] → bytes_eq [] name ≡ false
    → reading_of p ≡ reading.AsWritten → AllTake c name p
    → (e : Entry) → e.0.now ≡ name → EntryPasses c e
    → (t : Text) → option_map (λ v. read_as e.1.reading v.now) (slice_get e.1.vals.items 0) ≡ Some t
    → IsTaken p t
entry_text c name p no_groups named as_written all e own pass t is =
    first_text c name p all e.1.vals.items values t
    (subst (λ (r : Reading). option_map (λ v. read_as r v.now) (slice_get e.1.vals.items 0) ≡ Some t) written is)
  where
    no_group : e.1.is_group ≡ true → ⊥
    no_group group = elim (pass.3 group) [
      | inl empty ↦ differs [] name named (sym empty ∙ own)
      | inr some ↦
          let none : length (groups_of c) ≡ 0 = ap length no_groups in
          absurd (omega arith)
    ]

    values : All (λ v. PassesArg c name v.now) e.1.vals.items
    values = elim pass.0 [
      | inl group ↦ absurd (no_group group)
      | inr passed ↦ subst (λ (w : Text). All (λ v. PassesArg c w v.now) e.1.vals.items) own passed
    ]

    written : e.1.reading ≡ reading.AsWritten
    written = elim pass.4 [
      | inl group ↦ absurd (no_group group)
      | inr any ↦
          let same : bytes_eq any.1.id.now name ≡ true =
          subst (λ (w : Text). bytes_eq any.1.id.now w ≡ true) own any.4.0 in
          let parsed : parser_of any.1 ≡ p = ap parser_of_value (all any.0 any.1 any.2 any.3 same) in
          sym any.4.1 ∙ ap reading_of parsed ∙ as_written
    ]

-- the text that is read of a name after a parse passes the parser of its rules
pub taken_text : (app : App) (c : Command) (m : ArgMatches) → IsParsedFrom c m → IsCommand app c
    → (name : Text) (takes : Option ValueParser → Bool) (p : ValueParser) → IsParser takes p
    → IsNamed name takes app.top.rules
    → (t : Text) → one_text (found_of m) name ≡ Some t → IsTaken p t
taken_text app c m from is name takes p parsed has t read = go (matched_of (found_of m) name) refl
  where
    go : (x : Option MatchedArg) → matched_of (found_of m) name ≡ x → IsTaken p t
    go None found =
        let bad : None ≡ Some t = rw found at read in
        cc
    go (Some x) found =
        let passed = (from.parsed (from.from.globals ∙ is.local)).values in
        let got = entry_by_id (EntryPasses from.built) (found_of m).entries.items name x passed found in
        let text : option_map (λ v. read_as x.reading v.now) (slice_get x.vals.items 0) ≡ Some t = rw found at read in
        entry_text from.built name p (from.from.plain is.plain).1 has.named parsed.written
        (all_take app c m from is name takes p parsed has)
        got.0 ((bytes_eq-Decides got.0.0.now name).0 got.2) got.3 t
        (subst (λ (y : MatchedArg). option_map (λ v. read_as y.reading v.now) (slice_get y.vals.items 0) ≡ Some t)
        (sym got.1) text)

-- the text that is read of the option after a parse is a number in its range
pub text_number : (app : App) (c : Command) (m : ArgMatches) → IsParsedFrom c m → IsCommand app c
    → (o : NumberOption) → IsOptionOf o app.top.rules
    → (t : Text) → one_text (found_of m) o.name ≡ Some t → IsUnsignedIn o.least o.most t
text_number app c m from is o has t read =
    (taken_text app c m from is o.name (takes_range o.least o.most) (parser.Unsigned o.least o.most)
    (is_range o.least o.most) has t read).1

-- the text that is read of a flag after a parse is 'true' or 'false'
pub text_flag : (app : App) (c : Command) (m : ArgMatches) → IsParsedFrom c m → IsCommand app c
    → (name : Text) → IsNamed name takes_flag app.top.rules
    → (t : Text) → one_text (found_of m) name ≡ Some t → (b : Bool) × (t ≡ bool_text b)
text_flag app c m from is name has t read =
    let taken : (bytes_eq t (codes "true") || bytes_eq t (codes "false")) ≡ true =
    (taken_text app c m from is name takes_flag parser.Bool is_flag has t read).1 in
    elim (or_cases (bytes_eq t (codes "true")) (bytes_eq t (codes "false")) taken) [
      | inl set ↦ (true, (bytes_eq-Decides t (codes "true")).0 set)
      | inr unset ↦ (false, (bytes_eq-Decides t (codes "false")).0 unset)
    ]
