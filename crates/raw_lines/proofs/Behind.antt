-- What is behind the name of a line with a key.
use Rattle.std.proofs.Common.{◌≡◌, ◌≢◌, ◌∙◌, ◌<◌, ◌≤◌, ◌+◌, ◌-◌, ◌^◌, ◌++◌, ◌∷◌, [], ap, sym, refl, ℕ, List, length}
use Rattle.std.proofs.Common.{take, drop, codes}
use Rattle.std.proofs.Common.{append_assoc, arith, subst, Option, None, Some}
use Rattle.std.specs.List.{All}
use Rattle.std.proofs.lemmas.List.Elements.{All-nil, All-cons}
use Rattle.lines.specs.Grammar.{shown_command}
use Rattle.lines.specs.declared.command.CommandLine.{CommandLine}
use Rattle.std.proofs.lemmas.List.{take-append-drop, take_rest}
use Rattle.std.specs.Fmt.{decimal}
use Rattle.lines.specs.Keys.{IsKey}
use Rattle.lines.specs.Grammar.{LineValue, Put, New, Cas, Get, Del}
use Rattle.raw_lines.specs.Raw.{IsKeyLine, IsRaw, behind_name, counted, key_name}
use Rattle.raw_lines.specs.Cutting.{HasNoNumber, ReadsBehind, ReadsRaw}
use Rattle.raw_lines.proofs.Cuts.{counted_cut, first_cut, no_space, none_cut, number_cut}

abbrev head : List ℕ → ℕ
head [] = 0
head (b ∷ bs) = b

-- ---- what a text may be

abbrev pub key_rest : ℕ → List ℕ → List ℕ
key_rest table key = decimal table ++ 32 ∷ counted key

abbrev pub value_rest : ℕ → List ℕ → List ℕ → List ℕ
value_rest table key value = decimal table ++ 32 ∷ (counted key ++ 32 ∷ counted value)

abbrev pub version_rest : ℕ → List ℕ → ℕ → List ℕ → List ℕ
version_rest table key version value =
    decimal table ++ 32 ∷ (counted key ++ 32 ∷ (decimal version ++ 32 ∷ counted value))

abbrev pub HasNoKeyRest : List ℕ → Type 0
HasNoKeyRest rest = (table : ℕ) (key : List ℕ) → table < 2 ^ 64 → IsKey key → rest ≢ key_rest table key

abbrev pub HasNoValueRest : List ℕ → Type 0
HasNoValueRest rest = (table : ℕ) (key value : List ℕ) → table < 2 ^ 64 → IsKey key → length value ≤ 2097152
    → rest ≢ value_rest table key value

abbrev pub HasNoVersionRest : List ℕ → Type 0
HasNoVersionRest rest = (table : ℕ) (key : List ℕ) (version : ℕ) (value : List ℕ) → table < 2 ^ 64 → IsKey key
    → version < 2 ^ 64 → length value ≤ 2097152 → rest ≢ version_rest table key version value

-- ---- no command of a name

pub no_put : (rest : List ℕ) → HasNoValueRest rest → ReadsBehind (codes "put") rest None
no_put rest lacks (Put table key value) limits named is = lacks table key value limits.0 limits.1 limits.2 is
no_put rest lacks (New table key value) limits named is = omega (arith, ap head named)
no_put rest lacks (Cas table key version value) limits named is = omega (arith, ap head named)
no_put rest lacks (Get table key) limits named is = omega (arith, ap head named)
no_put rest lacks (Del table key) limits named is = omega (arith, ap head named)
no_put rest lacks _ limits named is = limits

pub no_new : (rest : List ℕ) → HasNoValueRest rest → ReadsBehind (codes "new") rest None
no_new rest lacks (Put table key value) limits named is = omega (arith, ap head named)
no_new rest lacks (New table key value) limits named is = lacks table key value limits.0 limits.1 limits.2 is
no_new rest lacks (Cas table key version value) limits named is = omega (arith, ap head named)
no_new rest lacks (Get table key) limits named is = omega (arith, ap head named)
no_new rest lacks (Del table key) limits named is = omega (arith, ap head named)
no_new rest lacks _ limits named is = limits

pub no_cas : (rest : List ℕ) → HasNoVersionRest rest → ReadsBehind (codes "cas") rest None
no_cas rest lacks (Put table key value) limits named is = omega (arith, ap head named)
no_cas rest lacks (New table key value) limits named is = omega (arith, ap head named)
no_cas rest lacks (Cas table key version value) limits named is =
    lacks table key version value limits.0 limits.1 limits.2 limits.3 is
no_cas rest lacks (Get table key) limits named is = omega (arith, ap head named)
no_cas rest lacks (Del table key) limits named is = omega (arith, ap head named)
no_cas rest lacks _ limits named is = limits

pub no_get : (rest : List ℕ) → HasNoKeyRest rest → ReadsBehind (codes "get") rest None
no_get rest lacks (Put table key value) limits named is = omega (arith, ap head named)
no_get rest lacks (New table key value) limits named is = omega (arith, ap head named)
no_get rest lacks (Cas table key version value) limits named is = omega (arith, ap head named)
no_get rest lacks (Get table key) limits named is = lacks table key limits.0 limits.1 is
no_get rest lacks (Del table key) limits named is = omega (arith, ap head named)
no_get rest lacks _ limits named is = limits

pub no_del : (rest : List ℕ) → HasNoKeyRest rest → ReadsBehind (codes "del") rest None
no_del rest lacks (Put table key value) limits named is = omega (arith, ap head named)
no_del rest lacks (New table key value) limits named is = omega (arith, ap head named)
no_del rest lacks (Cas table key version value) limits named is = omega (arith, ap head named)
no_del rest lacks (Get table key) limits named is = omega (arith, ap head named)
no_del rest lacks (Del table key) limits named is = lacks table key limits.0 limits.1 is
no_del rest lacks _ limits named is = limits

-- ---- a part of what is behind the name can't be read

-- no table
pub key_no_table : (rest : List ℕ) → HasNoNumber 32 rest → HasNoKeyRest rest
key_no_table rest lacks = λ table key small key_is is. lacks table _ small (no_space table small) is

pub value_no_table : (rest : List ℕ) → HasNoNumber 32 rest → HasNoValueRest rest
value_no_table rest lacks = λ table key value small key_is short is. lacks table _ small (no_space table small) is

pub version_no_table : (rest : List ℕ) → HasNoNumber 32 rest → HasNoVersionRest rest
version_no_table rest lacks = λ table key version value small key_is also short is.
    lacks table _ small (no_space table small) is

-- behind the table
module _ (rest mid : List ℕ) (n : ℕ) (small : n < 2 ^ 64) (read : rest ≡ decimal n ++ 32 ∷ mid) where
  behind_table : (table : ℕ) (more : List ℕ) → table < 2 ^ 64 → rest ≡ decimal table ++ 32 ∷ more → mid ≡ more
  behind_table table more also is = (number_cut n table mid more small also (sym read ∙ is)).1

  pub key_no_key : ((key : List ℕ) → IsKey key → mid ≢ counted key) → HasNoKeyRest rest
  key_no_key lacks = λ table key also key_is is. lacks key key_is (behind_table table _ also is)

  pub value_no_key : ((key more : List ℕ) → IsKey key → mid ≢ counted key ++ 32 ∷ more) → HasNoValueRest rest
  value_no_key lacks = λ table key value also key_is short is. lacks key _ key_is (behind_table table _ also is)

  pub version_no_key : ((key more : List ℕ) → IsKey key → mid ≢ counted key ++ 32 ∷ more) → HasNoVersionRest rest
  version_no_key lacks = λ table key version value also key_is fits short is. lacks key _ key_is
      (behind_table table _ also is)

  -- behind the key
  module _ (last key : List ℕ) (key_is : IsKey key) (read_key : mid ≡ counted key ++ 32 ∷ last) where
    short_key : length key < 2 ^ 64
    short_key = let short = key_is.short in omega (arith, short)

    behind_key : (other more : List ℕ) → IsKey other → mid ≡ counted other ++ 32 ∷ more → last ≡ more
    behind_key other more other_is is =
        let short = other_is.short in
        ap (λ l. drop 1 l)
        (counted_cut key other (32 ∷ last) (32 ∷ more) short_key (omega (arith, short)) (sym read_key ∙ is)).1

    pub value_no_value : ((value : List ℕ) → length value ≤ 2097152 → last ≢ counted value) → HasNoValueRest rest
    value_no_value lacks = λ table other value also other_is short is.
        lacks value short (behind_key other _ other_is (behind_table table _ also is))

    pub version_no_version : HasNoNumber 32 last → HasNoVersionRest rest
    version_no_version lacks = λ table other version value also other_is fits short is.
        lacks version _ fits (no_space version fits) (behind_key other _ other_is (behind_table table _ also is))

    pub version_no_value : (end : List ℕ) (m : ℕ) → m < 2 ^ 64 → last ≡ decimal m ++ 32 ∷ end
        → ((value : List ℕ) → length value ≤ 2097152 → end ≢ counted value) → HasNoVersionRest rest
    version_no_value end m fits_m read_version lacks = λ table other version value also other_is fits short is.
        lacks value short (number_cut m version end _ fits_m fits
        (sym read_version ∙ behind_key other _ other_is (behind_table table _ also is))).1

-- ---- all of it was read

pub read_value : (rest mid last key value : List ℕ) (n : ℕ) → rest ≡ decimal n ++ 32 ∷ mid
    → mid ≡ counted key ++ 32 ∷ last → last ≡ counted value → rest ≡ value_rest n key value
read_value rest mid last key value n first then end =
    first ∙ ap (λ l. decimal n ++ 32 ∷ l) (then ∙ ap (λ l. counted key ++ 32 ∷ l) end)

pub read_key : (rest mid key : List ℕ) (n : ℕ) → rest ≡ decimal n ++ 32 ∷ mid → mid ≡ counted key
    → rest ≡ key_rest n key
read_key rest mid key n first then = first ∙ ap (λ l. decimal n ++ 32 ∷ l) then

pub read_version : (rest mid last end key value : List ℕ) (n m : ℕ) → rest ≡ decimal n ++ 32 ∷ mid
    → mid ≡ counted key ++ 32 ∷ last → last ≡ decimal m ++ 32 ∷ end → end ≡ counted value
    → rest ≡ version_rest n key m value
read_version rest mid last end key value n m first then next final =
    first ∙ ap (λ l. decimal n ++ 32 ∷ l) (then ∙ ap (λ l. counted key ++ 32 ∷ l)
    (next ∙ ap (λ l. decimal m ++ 32 ∷ l) final))

-- ---- a text

-- the bytes before the first of a value, and those behind it
pub cut_out : (text : List ℕ) (at e : ℕ) → take (at + 1) text ≡ take at text ++ e ∷ []
    → text ≡ take at text ++ e ∷ take (length text - (at + 1)) (drop (at + 1) text)
cut_out text at e is =
    sym (take-append-drop (at + 1) text) ∙ ap (λ l. l ++ drop (at + 1) text) is
    ∙ append_assoc (take at text) (e ∷ []) (drop (at + 1) text)
    ∙ ap (λ l. take at text ++ e ∷ l) (sym (take_rest text (at + 1)))

-- ---- the name

three : (a b c : ℕ) → a ≢ 32 → b ≢ 32 → c ≢ 32 → All (λ b. b ≢ 32) (a ∷ b ∷ c ∷ [])
three a b c first second third = All-cons (λ b. b ≢ 32) a (b ∷ c ∷ []) first
    (All-cons (λ b. b ≢ 32) b (c ∷ []) second (All-cons (λ b. b ≢ 32) c [] third (All-nil (λ b. b ≢ 32))))

name_clean : (line : LineValue) → IsKeyLine line → All (λ b. b ≢ 32) (key_name line)
name_clean (Put table key value) limits =
    three 112 117 116 (λ e. omega (arith, e)) (λ e. omega (arith, e)) (λ e. omega (arith, e))
name_clean (New table key value) limits =
    three 110 101 119 (λ e. omega (arith, e)) (λ e. omega (arith, e)) (λ e. omega (arith, e))
name_clean (Cas table key version value) limits =
    three 99 97 115 (λ e. omega (arith, e)) (λ e. omega (arith, e)) (λ e. omega (arith, e))
name_clean (Get table key) limits =
    three 103 101 116 (λ e. omega (arith, e)) (λ e. omega (arith, e)) (λ e. omega (arith, e))
name_clean (Del table key) limits =
    three 100 101 108 (λ e. omega (arith, e)) (λ e. omega (arith, e)) (λ e. omega (arith, e))
name_clean _ limits = absurd limits

-- what was read behind this name was read of the text
pub reads_as : (text name rest word : List ℕ) (r : Option CommandLine) → text ≡ name ++ 32 ∷ rest
    → All (λ b. b ≢ 32) name → name ≡ word → ReadsBehind word rest r → ReadsRaw text r
reads_as text name rest word None is clean named reads = λ line raw.
    let cut = first_cut 32 name rest (key_name line) (behind_name line) clean (name_clean line raw.limits)
    (sym is ∙ raw.spaced) in
    reads line raw.limits (sym cut.0 ∙ named) cut.1
reads_as text name rest word (Some command) is clean named reads =
    subst (λ t. IsRaw t (shown_command command)) (ap (λ n. n ++ 32 ∷ rest) (sym named) ∙ sym is) reads

-- no line has this name
pub unnamed : (text name rest : List ℕ) → text ≡ name ++ 32 ∷ rest → All (λ b. b ≢ 32) name → name ≢ codes "put"
    → name ≢ codes "new" → name ≢ codes "cas" → name ≢ codes "get" → name ≢ codes "del" → ReadsRaw text None
unnamed text name rest is clean put new cas get del = λ line raw.
    let cut = first_cut 32 name rest (key_name line) (behind_name line) clean (name_clean line raw.limits)
    (sym is ∙ raw.spaced) in
    other line raw.limits cut.0
  where
    other : (line : LineValue) → IsKeyLine line → name ≡ key_name line → ⊥
    other (Put table key value) limits same = put same
    other (New table key value) limits same = new same
    other (Cas table key version value) limits same = cas same
    other (Get table key) limits same = get same
    other (Del table key) limits same = del same
    other _ limits same = limits

-- and none has no space
pub unspaced : (text : List ℕ) → All (λ b. b ≢ 32) text → ReadsRaw text None
unspaced text clean = λ line raw. none_cut 32 text (key_name line) (behind_name line) clean raw.spaced
