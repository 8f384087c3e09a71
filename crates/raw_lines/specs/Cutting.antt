-- What is cut off a text.
use Rattle.std.specs.Prelude.{◌≡◌, ◌≢◌, ◌<◌, ◌≤◌, ◌^◌, ℕ, List, [], ◌∷◌, ◌++◌, length, Option, Some, None}
use Rattle.std.specs.Borrow.{Bor}
use Rattle.std.specs.List.{All}
use Rattle.std.specs.Fmt.{decimal}
use Rattle.lines.specs.Keys.{IsKey}
use Rattle.lines.specs.Grammar.{LineValue, shown_command}
use Rattle.lines.specs.declared.command.CommandLine.{CommandLine}
use Rattle.raw_lines.specs.Raw.{IsKeyLine, IsRaw, behind_name, counted, key_name}

-- the bytes before the first byte of this value were cut off with it, or there is none
abbrev pub CutsAt : ℕ → List ℕ → List ℕ → Option (Bor (List ℕ)) → Type 0
CutsAt end old new None = All (λ b. b ≢ end) old
CutsAt end old new (Some front) = (old ≡ front.now ++ end ∷ new) × All (λ b. b ≢ end) front.now

-- no number of 64 bits and this byte stand at the front of the text; the number has no such byte
abbrev pub HasNoNumber : ℕ → List ℕ → Type 0
HasNoNumber end text = (n : ℕ) (rest : List ℕ) → n < 2 ^ 64 → All (λ b. b ≢ end) (decimal n)
    → text ≢ decimal n ++ end ∷ rest

-- no counted bytes stand at its front, at most so many
abbrev pub HasNoBytes : ℕ → List ℕ → Type 0
HasNoBytes most text = (bytes : List ℕ) (rest : List ℕ) → length bytes ≤ most → text ≢ counted bytes ++ rest

-- no key and a space stand at its front
abbrev pub HasNoKeyFront : List ℕ → Type 0
HasNoKeyFront text = (key : List ℕ) (rest : List ℕ) → IsKey key → text ≢ counted key ++ 32 ∷ rest

-- the command that the text behind this name is that of, or None if it is that of none
abbrev pub ReadsBehind : List ℕ → List ℕ → Option CommandLine → Type 0
ReadsBehind name rest None =
    (line : LineValue) → IsKeyLine line → key_name line ≡ name → rest ≢ behind_name line
ReadsBehind name rest (Some command) = IsRaw (name ++ 32 ∷ rest) (shown_command command)

-- the command of the text, or None if it is that of none
abbrev pub ReadsRaw : List ℕ → Option CommandLine → Type 0
ReadsRaw text None = (line : LineValue) → IsRaw text line → ⊥
ReadsRaw text (Some command) = IsRaw text (shown_command command)
