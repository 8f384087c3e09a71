-- What next_line has taken of its reader, part by part.
use Rattle.std.proofs.Common.{◌≡◌, ◌∙◌, ◌≤◌, ◌<◌, ◌+◌, ◌++◌, [], sym, subst, ap, ℕ, true, false, List, Option, None}
use Rattle.std.proofs.Common.{Some, Bool}
use Rattle.std.proofs.Common.{length, take, drop, take-append-drop, length-append, append-nil, append_assoc}
use Rattle.std.proofs.Common.{length-take-le, arith, ◌∷◌}
use Rattle.std.specs.Prelude.{IfSome, Ok}
use Rattle.std.specs.Io.{StartsWith}
use Rattle.std.specs.Io.BufRead.{DropsConsumable}
use Rattle.std.specs.Io.KnownBytes.{Consumes, Keeps}
use Rattle.std.proofs.KnownBytes.{Consumes-kept, Consumes-trans}
use Rattle.std.proofs.BufReadLemmas.{Consumes_shown}
use Rattle.lines.specs.Reading.{BeginsWithLine, IsFrontOfLine, IsUnbroken, TakesByte, TakesLine, TakesShown}
use Rattle.lines.specs.Scanning.{HoldsTogether, IsInBytes, behind, line_limit, starts, step}
use Rattle.lines.proofs.Scanning.{behind_both, behind_one, hold_both, hold_one}
use Rattle.lines.specs.declared.scan.Scan.{Scan}
use Rattle.lines.specs.declared.reading.Took.{Took}
use Rattle.lines.specs.declared.reading.Took.TheVariants as took_as
use Rattle.lines.specs.declared.reading.Taken.TheVariants.{Ended, Last}

-- the line at the reader's end, which showed nothing more and gave no byte
pub last_line : (is_raw : Bool) (limit : ℕ) (scan : Scan) (old middle kept new : Option (List ℕ)) (line after : List ℕ)
    (took : Took) (byte : Option ℕ) → limit ≡ line_limit is_raw
    → Consumes old middle line
    → IsUnbroken is_raw line → took ≡ took_as.Nothing → TakesShown limit scan middle kept line after (Ok took)
    → byte ≡ None → TakesByte kept new byte
    → 0 < length after → length after ≤ limit → TakesLine is_raw old new after Last
last_line is_raw limit scan old middle kept new line after took byte is_limit taken unbroken is there none next some
    short =
    let same = subst (λ s. TakesShown limit scan middle kept line after (Ok s)) is there in
    let end : TakesByte kept new None = subst (TakesByte kept new) none next in
    let before = Consumes-kept old middle kept line taken same.0 in
    let all = subst (Consumes old new) (append-nil line) (Consumes-trans old kept new line [] before end.0) in (
      subst (Consumes old new) (sym same.1) all,
      end.1,
      some,
      record {
        unbroken = subst (IsUnbroken is_raw) (sym same.1) unbroken;
        short = subst (λ (n : ℕ). length after ≤ n) is_limit short;
      },
    )

-- a part more of a line that stood so
module _ (is_raw : Bool) (limit : ℕ) (scan : Scan) (old middle new : Option (List ℕ)) (line after : List ℕ)
    (is_limit : limit ≡ line_limit is_raw) (taken : Consumes old middle line) (unbroken : IsUnbroken is_raw line)
    (stands : scan ≡ behind (starts is_raw) line) where
  unbroken_on : (part : List ℕ) → after ≡ line ++ part → HoldsTogether scan part → IsUnbroken is_raw after
  unbroken_on part grown holds = subst (IsUnbroken is_raw) (sym grown)
      (hold_both (starts is_raw) line part unbroken (subst (λ (s : Scan). HoldsTogether s part) stands holds))

  stands_on : (part : List ℕ) → after ≡ line ++ part → behind (starts is_raw) after ≡ behind scan part
  stands_on part grown =
      ap (behind (starts is_raw)) grown ∙ behind_both (starts is_raw) line part
      ∙ ap (λ (s : Scan). behind s part) (sym stands)

  -- with its line feed
  pub line_ended : (took : Took) → took ≡ took_as.Ended → TakesShown limit scan middle new line after (Ok took)
      → TakesLine is_raw old new after Ended
  line_ended took is shown =
      let t = subst (λ (k : Took). TakesShown limit scan middle new line after (Ok k)) is shown in
      let part = t.0 in
      let grown = t.2.0 in
      let whole : line ++ (part ++ 10 ∷ []) ≡ after ++ 10 ∷ [] =
      sym (append_assoc line part (10 ∷ [])) ∙ ap (λ l. l ++ 10 ∷ []) (sym grown) in (
        subst (Consumes old new) whole (Consumes-trans old middle new line (part ++ 10 ∷ []) taken t.1),
        record {
          unbroken = unbroken_on part grown t.2.1;
          short = subst (λ (n : ℕ). length after ≤ n) is_limit t.3;
        },
        λ inside. t.4 (subst IsInBytes (stands_on part grown) inside),
      )

  -- and no line feed yet
  pub line_grown : (took : Took) (next : Scan) → took ≡ took_as.Part next
      → TakesShown limit scan middle new line after (Ok took)
      → Consumes old new after × IsUnbroken is_raw after × (next ≡ behind (starts is_raw) after)
      × (length after ≤ line_limit is_raw + 1)
  line_grown took next is shown =
      let t = subst (λ (k : Took). TakesShown limit scan middle new line after (Ok k)) is shown in
      let grown = t.2.0 in (
        subst (Consumes old new) (sym grown) (Consumes-trans old middle new line t.0 taken t.1),
        unbroken_on t.0 grown t.2.1,
        t.5 ∙ sym (stands_on t.0 grown),
        subst (λ (n : ℕ). length after ≤ n + 1) is_limit t.3,
      )

  -- one byte more, behind nothing that was shown
  pub byte_more : (kept : Option (List ℕ)) (took : Took) (given : Option ℕ) (byte : ℕ) (next : Scan) (then : List ℕ)
      → took ≡ took_as.Nothing → TakesShown limit scan middle kept line after (Ok took)
      → given ≡ Some byte → TakesByte kept new given → then ≡ after ++ byte ∷ [] → next ≡ step scan byte
      → (byte ≡ 10 → IsInBytes scan) → length line ≤ limit
      → Consumes old new then × IsUnbroken is_raw then × (next ≡ behind (starts is_raw) then)
      × (length then ≤ line_limit is_raw + 1)
  byte_more kept took given byte next then is shown some took_byte grown steps inside short =
      let got : TakesByte kept new (Some byte) = subst (TakesByte kept new) some took_byte in
      let t = subst (λ (k : Took). TakesShown limit scan middle kept line after (Ok k)) is shown in
      let longer : then ≡ line ++ byte ∷ [] = grown ∙ ap (λ l. l ++ byte ∷ []) t.1 in
      let before = Consumes-kept old middle kept line taken t.0 in (
        subst (Consumes old new) (sym longer) (Consumes-trans old kept new line (byte ∷ []) before got),
        subst (IsUnbroken is_raw) (sym longer) (hold_one (starts is_raw) line byte unbroken
            (λ feed. subst IsInBytes stands (inside feed))),
        steps ∙ ap (λ (s : Scan). step s byte) stands ∙ sym (behind_one (starts is_raw) line byte)
            ∙ ap (behind (starts is_raw)) (sym longer),
        omega (arith, ap length longer, length-append line (byte ∷ []), is_limit, short),
      )

-- a whole line is at the front of what is shown
pub whole_line : (is_raw : Bool) (limit len : ℕ) (scan next : Scan) (bytes : List ℕ) (ended : Bool)
    → limit ≡ line_limit is_raw → scan ≡ starts is_raw → IsFrontOfLine bytes (limit + 1) scan len ended next
    → ended ≡ true → BeginsWithLine is_raw bytes
whole_line is_raw limit len scan next bytes ended is_limit start front is_end =
    let is = subst (λ (e : Bool). IsFrontOfLine bytes (limit + 1) scan len e next) is_end front in
    let line = take len bytes in
    let long = length-take-le len bytes (omega (arith, is.2)) in (
      line,
      drop (len + 1) bytes,
      sym (take-append-drop (len + 1) bytes) ∙ ap (λ l. l ++ drop (len + 1) bytes) is.1
          ∙ append_assoc line (10 ∷ []) (drop (len + 1) bytes),
      record {
        unbroken = subst (λ (s : Scan). HoldsTogether s line) start is.0;
        short = omega (arith, long, is.3, is_limit);
      },
      λ inside. is.4 (subst (λ (s : Scan). IsInBytes (behind s line)) (sym start) inside),
    )

-- the reader goes on with more than it shows
pub shown_first : (is_raw : Bool) (known : Option (List ℕ)) (bytes : List ℕ)
    → IfSome known (λ xs. StartsWith xs bytes) → BeginsWithLine is_raw bytes → IfSome known (BeginsWithLine is_raw)
shown_first is_raw None bytes starts_so at_hand = tt
shown_first is_raw (Some xs) bytes starts_so (line, rest, is, whole, ends) =
    let more = drop (length bytes) xs in (
      line,
      rest ++ more,
      sym (take-append-drop (length bytes) xs) ∙ ap (λ l. l ++ more) (starts_so ∙ is)
          ∙ append_assoc line (10 ∷ rest) more,
      whole,
      ends,
    )

-- what was shown of the line was taken
module _ (a b c : Option (List ℕ)) (room : Option ℕ) (bytes before after : List ℕ) (limit most len : ℕ)
    (scan next : Scan)
    (front : IfSome a (λ xs. StartsWith xs bytes)) (end : IfSome a (λ xs. length bytes ≡ 0 → xs ≡ []))
    (kept : Keeps a b)
    (fits : IfSome a (λ _. IfSome room (λ k. length bytes ≤ k))) (grown : after ≡ before ++ take len bytes) where
  taken_at : (n : ℕ) → n ≤ length bytes → DropsConsumable b c room n → Consumes a c (take n bytes)
  taken_at n below drops = (Consumes_shown a b c room bytes n below front end kept fits drops).0

  grown_by : len ≤ length bytes → length after ≡ length before + len
  grown_by below =
      ap length grown ∙ length-append before (take len bytes)
      ∙ ap (λ n. length before + n) (length-take-le len bytes below)

  pub shown_to_the_end : (ended : Bool) → ended ≡ true → IsFrontOfLine bytes most scan len ended next
      → length before + most ≤ limit + 1 → DropsConsumable b c room (len + 1)
      → TakesShown limit scan a c before after (Ok took_as.Ended)
  shown_to_the_end ended is_end front_is within drops =
      let is = subst (λ (e : Bool). IsFrontOfLine bytes most scan len e next) is_end front_is in
      let all = subst (Consumes a c) is.1 (taken_at (len + 1) (omega (arith, is.2)) drops) in
      (take len bytes, all, (grown, is.0), omega (arith, grown_by (omega (arith, is.2)), is.3, within), is.4)

  pub shown_in_part : (ended : Bool) → ended ≡ false → IsFrontOfLine bytes most scan len ended next
      → length before + most ≤ limit + 1 → 0 < length bytes → 0 < most → DropsConsumable b c room len
      → TakesShown limit scan a c before after (Ok (took_as.Part next))
  shown_in_part ended is_part front_is within some room_left drops =
      let is = subst (λ (e : Bool). IsFrontOfLine bytes most scan len e next) is_part front_is in
      let below : len ≤ length bytes = omega (arith, is.1) in
      let long = length-take-le len bytes below in (
        take len bytes,
        taken_at len below drops,
        (grown, is.0),
        omega (arith, grown_by below, is.1, within),
        omega (arith, long, is.1),
        is.2,
      )
