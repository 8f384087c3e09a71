-- Words are those of one line at most, which their first word decides.
use Rattle.std.proofs.Common.{◌≡◌, ◌∙◌, ◌==◌, ◌+◌, ◌^◌, ◌<◌, ◌≤◌, ◌∷◌, [], None, ap, sym, ℕ, List, Bool, get_or, drop}
use Rattle.std.proofs.Common.{map, cond, codes, true, false, arith}
use Rattle.std.specs.Str.Parse.{digits_value}
use Rattle.std.specs.Fmt.{decimal}
use Rattle.lines.specs.Grammar.{LineValue, words_of}
use Rattle.lines.specs.Grammar.{Idle, Put, New, Cas, Get, Del, Compact, Roll, BeginRoll, Push, Log, Room, LiveBytes}
use Rattle.lines.specs.Grammar.{Needs}
use Rattle.lines.specs.Grammar.{Hex, Stop, Fault, Format, Seglets, Crash, Lose, Will, Recover, Holdings}
use Rattle.lines.specs.Grammar.{Clean, Begin, Copy, Seal, Free, Clients, Listing, Tend, Segments}
use Rattle.lines.specs.declared.line.ReplayOrder.{ReplayOrder}
use Rattle.lines.specs.declared.line.ReplayOrder.TheVariants.{Forward, Reverse, Threads}
use Rattle.lines.specs.Words.{AreWordsOf, ReadsWords}
use Rattle.lines.proofs.NumberWords.{value, values}

abbrev pub word_at : ℕ → List (List ℕ) → List ℕ
word_at i ws = get_or ws i []

abbrev number_at : ℕ → List (List ℕ) → ℕ
number_at i ws = digits_value 10 (word_at i ws)

abbrev numbers_behind : List (List ℕ) → List ℕ
numbers_behind ws = map (digits_value 10) (drop 1 ws)

abbrev order_behind : List (List ℕ) → ReplayOrder
order_behind [] = Forward
order_behind (w ∷ []) = Reverse
order_behind (w ∷ number ∷ ws) = Threads (digits_value 10 number)

-- the sum of a word's bytes, which is another for each name
abbrev pub sum_of : List ℕ → ℕ
sum_of [] = 0
sum_of (b ∷ bs) = b + sum_of bs

abbrev are_named : List ℕ → List (List ℕ) → Bool
are_named name ws = sum_of (word_at 0 ws) == sum_of name

-- the word behind the number of a take is "taken"
abbrev is_taken : List (List ℕ) → Bool
is_taken ws = sum_of (word_at 2 ws) == sum_of (codes "taken")

-- the one line that may have the words
abbrev line_of : List (List ℕ) → LineValue
line_of ws =
    cond (are_named (codes "put") ws) (Put (number_at 1 ws) (word_at 2 ws) (word_at 3 ws))
    (cond (are_named (codes "new") ws) (New (number_at 1 ws) (word_at 2 ws) (word_at 3 ws))
    (cond (are_named (codes "cas") ws) (Cas (number_at 1 ws) (word_at 2 ws) (number_at 3 ws) (word_at 4 ws))
    (cond (are_named (codes "get") ws) (Get (number_at 1 ws) (word_at 2 ws))
    (cond (are_named (codes "del") ws) (Del (number_at 1 ws) (word_at 2 ws))
    (cond (are_named (codes "compact") ws) (Compact (number_at 1 ws))
    (cond (are_named (codes "roll") ws) Roll
    (cond (are_named (codes "beginroll") ws) BeginRoll
    (cond (are_named (codes "push") ws) Push
    (cond (are_named (codes "log") ws) Log
    (cond (are_named (codes "room") ws) Room
    (cond (are_named (codes "segments") ws) Segments
    (cond (are_named (codes "list") ws) (Listing (number_at 1 ws))
    (cond (are_named (codes "live") ws) LiveBytes
    (cond (are_named (codes "needs") ws) Needs
    (cond (are_named (codes "hex") ws) (Hex (number_at 1 ws))
    (cond (are_named (codes "stop") ws) (Stop (number_at 1 ws))
    (cond (are_named (codes "fault") ws) (Fault (number_at 1 ws) (is_taken ws))
    (cond (are_named (codes "format") ws) Format
    (cond (are_named (codes "seglets") ws) (Seglets (number_at 1 ws))
    (cond (are_named (codes "crash") ws) Crash
    (cond (are_named (codes "lose") ws) (Lose (number_at 1 ws))
    (cond (are_named (codes "will") ws) Will
    (cond (are_named (codes "recover") ws) (Recover (order_behind (drop 1 ws)))
    (cond (are_named (codes "holdings") ws) Holdings
    (cond (are_named (codes "clean") ws) (Clean (numbers_behind ws))
    (cond (are_named (codes "begin") ws) (Begin (numbers_behind ws))
    (cond (are_named (codes "copy") ws) Copy
    (cond (are_named (codes "seal") ws) Seal
    (cond (are_named (codes "free") ws) Free
    (cond (are_named (codes "tend") ws) (Tend (number_at 1 ws))
    (cond (are_named (codes "clients") ws) (Clients (number_at 1 ws) (number_at 2 ws) (number_at 3 ws))
    Idle)))))))))))))))))))))))))))))))

pub line_is : (words : List (List ℕ)) (line : LineValue) → AreWordsOf words line → line_of words ≡ line
line_is words Idle are = absurd are
line_is words (Put t k v) are = ap line_of are.spelled ∙ ap (λ n. Put n k v) (value t are.limits.0)
line_is words (New t k v) are = ap line_of are.spelled ∙ ap (λ n. New n k v) (value t are.limits.0)
line_is words (Cas t k n v) are =
    let read = digits_value 10 (decimal n) in
    ap line_of are.spelled ∙ (ap (λ m. Cas m k read v) (value t are.limits.0)
    ∙ ap (λ m. Cas t k m v) (value n are.limits.2))
line_is words (Get t k) are = ap line_of are.spelled ∙ ap (λ n. Get n k) (value t are.limits.0)
line_is words (Del t k) are = ap line_of are.spelled ∙ ap (λ n. Del n k) (value t are.limits.0)
line_is words (Compact n) are = ap line_of are.spelled ∙ ap Compact (value n are.limits)
line_is words Roll are = ap line_of are.spelled
line_is words BeginRoll are = ap line_of are.spelled
line_is words Push are = ap line_of are.spelled
line_is words Log are = ap line_of are.spelled
line_is words Room are = ap line_of are.spelled
line_is words Segments are = ap line_of are.spelled
line_is words (Listing n) are = ap line_of are.spelled ∙ ap Listing (value n are.limits)
line_is words LiveBytes are = ap line_of are.spelled
line_is words Needs are = ap line_of are.spelled
line_is words (Hex n) are = ap line_of are.spelled ∙ ap Hex (value n are.limits)
line_is words (Stop n) are = ap line_of are.spelled ∙ ap Stop (value n are.limits)
line_is words (Fault n true) are =
    ap line_of are.spelled ∙ ap (λ m. Fault m true) (value n (omega (arith, are.limits.1)))
line_is words (Fault n false) are =
    ap line_of are.spelled ∙ ap (λ m. Fault m false) (value n (omega (arith, are.limits.1)))
line_is words Format are = ap line_of are.spelled
line_is words (Seglets n) are = ap line_of are.spelled ∙ ap Seglets (value n (omega (arith, are.limits.1)))
line_is words Crash are = ap line_of are.spelled
line_is words (Lose n) are = ap line_of are.spelled ∙ ap Lose (value n are.limits)
line_is words Will are = ap line_of are.spelled
line_is words (Recover Forward) are = ap line_of are.spelled
line_is words (Recover Reverse) are = ap line_of are.spelled
line_is words (Recover (Threads n)) are =
    ap line_of are.spelled ∙ ap (λ m. Recover (Threads m)) (value n (omega (arith, are.limits.1)))
line_is words Holdings are = ap line_of are.spelled
line_is words (Clean ns) are = ap line_of are.spelled ∙ ap Clean (values ns are.limits.1)
line_is words (Begin ns) are = ap line_of are.spelled ∙ ap Begin (values ns are.limits.1)
line_is words Copy are = ap line_of are.spelled
line_is words Seal are = ap line_of are.spelled
line_is words Free are = ap line_of are.spelled
line_is words (Tend n) are = ap line_of are.spelled ∙ ap Tend (value n (omega (arith, are.limits.1)))
line_is words (Clients c n p) are =
    let rounds = digits_value 10 (decimal n) in
    let passes = digits_value 10 (decimal p) in
    ap line_of are.spelled ∙ (ap (λ m. Clients m rounds passes) (value c (omega (arith, are.limits.0.1)))
    ∙ (ap (λ m. Clients c m passes) (value n (omega (arith, are.limits.1.1)))
    ∙ ap (Clients c n) (value p are.limits.2)))

-- no version is behind the key of `cas`
pub no_version : (rest behind : List (List ℕ)) (t : ℕ) (k : List ℕ) → rest ≡ decimal t ∷ k ∷ behind
    → ((n : ℕ) (ws : List (List ℕ)) → n < 2 ^ 64 → behind ≡ decimal n ∷ ws → ⊥) → ReadsWords (codes "cas" ∷ rest) None
no_version rest behind t k is none Idle are = are
no_version rest behind t k is none (Cas u l n v) are =
    none n (v ∷ []) are.limits.2 (ap (drop 3) (sym (ap (λ ws. codes "cas" ∷ ws) is) ∙ are.spelled))
no_version rest behind t k is none line are =
    let names : sum_of (codes "cas") ≡ sum_of (word_at 0 (words_of line)) =
    ap (λ ws. sum_of (word_at 0 ws)) are.spelled in absurd (omega arith)

-- no number of rounds is behind that of the clients
pub no_rounds : (rest behind : List (List ℕ)) (c : ℕ) → rest ≡ decimal c ∷ behind
    → ((n : ℕ) (ws : List (List ℕ)) → 1 ≤ n → n ≤ 1000000 → behind ≡ decimal n ∷ ws → ⊥)
    → ReadsWords (codes "clients" ∷ rest) None
no_rounds rest behind c is none Idle are = are
no_rounds rest behind c is none (Clients d n p) are =
    none n (decimal p ∷ []) are.limits.1.0 are.limits.1.1
    (ap (drop 2) (sym (ap (λ ws. codes "clients" ∷ ws) is) ∙ are.spelled))
no_rounds rest behind c is none line are =
    let names : sum_of (codes "clients") ≡ sum_of (word_at 0 (words_of line)) =
    ap (λ ws. sum_of (word_at 0 ws)) are.spelled in absurd (omega arith)
