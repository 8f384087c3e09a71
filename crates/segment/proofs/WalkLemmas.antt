-- How a reader of segments goes from one entry to the next.
use Rattle.std.proofs.Common.{◌≡◌, ℕ, ◌+◌, ◌≤◌, true, List, [], ◌∷◌, ◌++◌, length}
use Rattle.std.proofs.Common.{take, drop, refl, sym, ap, ◌∙◌, arith}
use Rattle.std.proofs.lemmas.List.{length-drop, append-nil, take_all}
use Rattle.std.proofs.Math.Seq.{take-add}
use Rattle.entry.specs.declared.entry.Entry.{Entry}
use Rattle.entry.specs.Format.{spelling, IsEntry, Begins}
use Rattle.entry.specs.Text.{text_of, is_whole, IsTextOf, entries_in}
use Rattle.entry.proofs.ListLemmas.{all_append}
use Rattle.entry.proofs.TextLemmas.{entries_in-text}
use Rattle.segment.specs.declared.expected.Expected.{Expected}
use Rattle.segment.specs.declared.expected.Expected.TheVariants as expected
use Rattle.segment.specs.Bytes.{IsSegmentBytes}
use Rattle.segment.specs.Order.{completes, Expects}
use Rattle.segment.specs.Walk.{IsWalked}
use Rattle.segment.proofs.RowLemmas.{text_of-append}
use Rattle.segment.proofs.OrderLemmas.{IsBeginning-from_expects, Expects-start, Expects-step, is_whole-expects}

pub IsWalked-start : (bytes : List ℕ) → IsWalked bytes 0 expected.Header
IsWalked-start bytes = (
  [],
  record {
    within = omega arith;
    text = refl;
    each = tt;
    order = IsBeginning-from_expects [] expected.Header Expects-start;
  },
  Expects-start,
)

pub IsWalked-step : (bytes : List ℕ) (at : ℕ) (x y : Expected) (e : Entry) (n : ℕ) → IsWalked bytes at x
    → Begins (drop at bytes) e n
    → ((more : List Entry) → completes x (e ∷ more) ≡ completes y more) → IsWalked bytes (at + n) y
IsWalked-step bytes at x y e n (before, stand, expects) begins allowed =
    let next = before ++ e ∷ [] in
    let next_expects : Expects next y = Expects-step before x y e expects allowed in
    let at_within = stand.within in
    let n_within = begins.within in
    let last : text_of (e ∷ []) ≡ spelling e = append-nil (spelling e) in
    let text : take (at + n) bytes ≡ text_of next =
    rw (take-add, stand.text, begins.text, text_of-append, last) refl in (
      next,
      record {
        within = omega (arith, length-drop at bytes);
        text = text;
        each = all_append IsEntry before (e ∷ []) stand.each (begins.entry, tt);
        order = IsBeginning-from_expects next y next_expects;
      },
      next_expects,
    )

-- the text of entries that are a segment's
pub IsTextOf-entries_in : (bytes : List ℕ) (es : List Entry) → IsTextOf bytes es → entries_in bytes ≡ es
IsTextOf-entries_in bytes es is = ap entries_in is.text ∙ entries_in-text es is.segment.each

pub IsSegmentBytes-from_text : (bytes : List ℕ) (es : List Entry) → IsTextOf bytes es → length bytes ≤ 8388608
    → IsSegmentBytes bytes
IsSegmentBytes-from_text bytes es is limit = record { text = rw (IsTextOf-entries_in bytes es is) is; limit = limit }

pub IsSegmentBytes-walked : (bytes : List ℕ) (at : ℕ) → IsWalked bytes at expected.Data → length bytes ≤ at
    → length bytes ≤ 8388608 → IsSegmentBytes bytes
IsSegmentBytes-walked bytes at (before, stand, expects) all limit =
    let whole : is_whole before ≡ true = is_whole-expects before expected.Data expects in
    let text : bytes ≡ text_of before = sym (take_all at bytes all) ∙ stand.text in
    IsSegmentBytes-from_text bytes before (record {
      segment = record { each = stand.each; order = whole };
      text = text;
    }) limit
