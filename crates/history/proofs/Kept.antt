-- The records of rows: growing texts keep them, texts without their first blocks keep those of later rows, one more row
-- adds a record, and a reader finds the record of a row.
use Rattle.std.proofs.Common.{◌≡◌, ℕ, zero, suc, ◌+◌, ◌<◌, ◌≤◌, List, [], ◌∷◌, ◌++◌, length, get_or, take, drop, Some}
use Rattle.std.proofs.Common.{not, true}
use Rattle.std.proofs.Common.{refl, sym, ap, subst, ◌∙◌, arith}
use Rattle.std.proofs.lemmas.List.{take-take, drop-drop, drop-take, map-append}
use Rattle.std.proofs.lemmas.Option.{slice_get-map, slice_get_read}
use Rattle.std.specs.List.{slice_get}
use Rattle.std.specs.Option.{option_map}
use Rattle.entry.specs.Key.{IsKeyBytes}
use Rattle.entry.specs.Limits.{IsValue}
use Rattle.versioned_map.specs.declared.command.Record.{Record}
use Rattle.history.specs.declared.packing.Row.{Row}
use Rattle.history.specs.declared.numbers.Numbers.{Numbers}
use Rattle.history.specs.Numbers.{are_small, front_of, AreWords}
use Rattle.history.specs.Packing.{unpacked, record_of, row_numbers, front_len, key_of, value_of}
use Rattle.history.specs.Texts.{TextsValue, steps_to, text_at, part, IsWithin, KeepsParts, KeepsFrom}
use Rattle.history.proofs.Fronts.{front_long, numbers_are}
use Rattle.history.specs.Records.{front_at, key_at, value_at, record_in, records_in, IsRow, AreRows, AreFrom, Ascend}

-- ---- texts that change

-- a row whose parts stay
module _ (old new : TextsValue) (r : Row) (is : IsRow old r)
    (within : (start len : ℕ) → IsWithin old r.block start len → IsWithin new r.block start len)
    (same : (start len : ℕ) → IsWithin old r.block start len → part new r.block start len ≡ part old r.block start len)
  where
    front_within : IsWithin old r.block r.start (front_len r)
    front_within = record { among = is.within.among; ends = omega (arith, is.within.ends) }

    key_within : IsWithin old r.block (r.start + front_len r) r.key_len
    key_within = record { among = is.within.among; ends = omega (arith, is.within.ends) }

    value_within : IsWithin old r.block (r.start + front_len r + r.key_len) r.value_len
    value_within = record { among = is.within.among; ends = omega (arith, is.within.ends) }

    front_kept : front_at new r ≡ front_at old r
    front_kept = same r.start (front_len r) front_within

    key_kept : key_at new r ≡ key_at old r
    key_kept = same (r.start + front_len r) r.key_len key_within

    value_kept : value_at new r ≡ value_at old r
    value_kept = same (r.start + front_len r + r.key_len) r.value_len value_within

    row_kept : IsRow new r
    row_kept = record {
      within = within r.start (front_len r + r.key_len + r.value_len) is.within;
      key = subst (λ (bytes : List ℕ). IsKeyBytes bytes) (sym key_kept) is.key;
      value = subst (λ (bytes : List ℕ). IsValue bytes) (sym value_kept) is.value;
    }

    record_kept : record_in new r ≡ record_in old r
    record_kept = λ i. unpacked r (front_kept i) (key_kept i) (value_kept i)

-- texts that grow
module _ (old new : TextsValue) (keeps : KeepsParts old new) where
  pub rows_kept : (rows : List Row) → AreRows old rows → AreRows new rows
  rows_kept [] are = tt
  rows_kept (r ∷ rs) are = (
    row_kept old new r are.0 (λ start len. keeps.within r.block start len) (λ start len. keeps.same r.block start len),
    rows_kept rs are.1,
  )

  pub records_kept : (rows : List Row) → AreRows old rows → records_in new rows ≡ records_in old rows
  records_kept [] are = refl
  records_kept (r ∷ rs) are = λ i.
      record_kept old new r are.0 (λ start len. keeps.within r.block start len)
      (λ start len. keeps.same r.block start len) i ∷ records_kept rs are.1 i

-- texts whose first ones were given back
module _ (least : ℕ) (old new : TextsValue) (keeps : KeepsFrom least old new) where
  pub rows_kept_from : (rows : List Row) → AreFrom old.base least rows → AreRows old rows → AreRows new rows
  rows_kept_from [] from are = tt
  rows_kept_from (r ∷ rs) from are = (
    row_kept old new r are.0 (λ start len is. keeps.within r.block start len from.0 is)
        (λ start len is. keeps.same r.block start len from.0 is),
    rows_kept_from rs from.1 are.1,
  )

  pub records_kept_from : (rows : List Row) → AreFrom old.base least rows → AreRows old rows
      → records_in new rows ≡ records_in old rows
  records_kept_from [] from are = refl
  records_kept_from (r ∷ rs) from are = λ i.
      record_kept old new r are.0 (λ start len is. keeps.within r.block start len from.0 is)
      (λ start len is. keeps.same r.block start len from.0 is) i ∷ records_kept_from rs from.1 are.1 i

  -- the rows are as far from each other as before
  from_kept : (base : ℕ) (rows : List Row) → least ≤ base → AreFrom old.base least rows → AreFrom old.base base rows
      → (now : ℕ) → now + least ≡ base → AreFrom new.base now rows
  from_kept base [] above from are now is = tt
  from_kept base (r ∷ rs) above from are now is = (
    omega (arith, keeps.steps r.block from.0, are.0, is),
    from_kept base rs above from.1 are.1 now is,
  )

  pub ascend_kept : (rows : List Row) → AreFrom old.base least rows → Ascend old.base rows → Ascend new.base rows
  ascend_kept [] from up = tt
  ascend_kept (r ∷ rs) from up = (
    from_kept (steps_to old.base r.block) rs from.0 from.1 up.0 (steps_to new.base r.block)
        (keeps.steps r.block from.0),
    ascend_kept rs from.1 up.1,
  )

-- ---- one more row

module _ (t : TextsValue) (row : Row) (r : Record) (numbers : Numbers) (block start : ℕ) (key value : List ℕ)
    (has_key : key ≡ key_of r) (has_value : value ≡ value_of r) (in_block : row.block ≡ block)
    (at_start : row.start ≡ start) (key_len : row.key_len ≡ length (key_of r))
    (value_len : row.value_len ≡ length (value_of r)) (is_long : row.is_long ≡ not (are_small numbers))
    (fit : AreWords numbers) (small : are_small numbers ≡ true → (front : List ℕ) → row_numbers row front ≡ numbers)
    (same : record_of row numbers (key_of r) (value_of r) ≡ r)
    (within : IsWithin t block start (length (front_of numbers) + length key + length value))
    (front_there : part t block start (length (front_of numbers)) ≡ front_of numbers)
    (key_there : part t block (start + length (front_of numbers)) (length key) ≡ key)
    (value_there : part t block (start + length (front_of numbers) + length key) (length value) ≡ value) where
  key_long : row.key_len ≡ length key
  key_long = key_len ∙ sym (ap (λ (bytes : List ℕ). length bytes) has_key)

  value_long : row.value_len ≡ length value
  value_long = value_len ∙ sym (ap (λ (bytes : List ℕ). length bytes) has_value)

  before_key : front_len row ≡ length (front_of numbers)
  before_key = front_long row numbers is_long

  front_is : front_at t row ≡ front_of numbers
  front_is = (λ i. part t (in_block i) (at_start i) (before_key i)) ∙ front_there

  key_is : key_at t row ≡ key
  key_is = (λ i. part t (in_block i) (at_start i + before_key i) (key_long i)) ∙ key_there

  value_is : value_at t row ≡ value
  value_is = (λ i. part t (in_block i) (at_start i + before_key i + key_long i) (value_long i)) ∙ value_there

  pub new_record : record_in t row ≡ r
  new_record =
      (λ i. record_of row (numbers_are row numbers is_long fit small (front_at t row) front_is i)
      ((key_is ∙ has_key) i) ((value_is ∙ has_value) i)) ∙ same

  pub new_row : IsKeyBytes key → IsValue value → IsRow t row
  new_row is_key is_value = record {
    within = record {
      among = subst (λ (b : ℕ). steps_to t.base b ≤ length t.full) (sym in_block) within.among;
      ends = omega (
        arith,
        at_start,
        before_key,
        key_long,
        value_long,
        ap (λ (b : ℕ). length (text_at t b)) in_block,
        within.ends,
      );
    };
    key = subst (λ (bytes : List ℕ). IsKeyBytes bytes) (sym key_is) is_key;
    value = subst (λ (bytes : List ℕ). IsValue bytes) (sym value_is) is_value;
  }

pub rows_and_one : (t : TextsValue) (rows : List Row) (row : Row) → AreRows t rows → IsRow t row
    → AreRows t (rows ++ row ∷ [])
rows_and_one t [] row are is = (is, tt)
rows_and_one t (r ∷ rs) row are is = (are.0, rows_and_one t rs row are.1 is)

pub records_and_one : (t : TextsValue) (rows : List Row) (row : Row) (r : Record) → record_in t row ≡ r
    → records_in t (rows ++ row ∷ []) ≡ records_in t rows ++ r ∷ []
records_and_one t rows row r is =
    map-append (λ (x : Row). record_in t x) rows (row ∷ [])
    ∙ ap (λ (x : Record). records_in t rows ++ x ∷ []) is

from_and_one : (base least : ℕ) (rows : List Row) (row : Row) → AreFrom base least rows
    → least ≤ steps_to base row.block → AreFrom base least (rows ++ row ∷ [])
from_and_one base least [] row are above = (above, tt)
from_and_one base least (r ∷ rs) row are above = (are.0, from_and_one base least rs row are.1 above)

-- a row whose bytes are in the last text
pub ascend_and_one : (t : TextsValue) (rows : List Row) (row : Row) → AreRows t rows → Ascend t.base rows
    → steps_to t.base row.block ≡ length t.full → Ascend t.base (rows ++ row ∷ [])
ascend_and_one t [] row are up last = (tt, tt)
ascend_and_one t (r ∷ rs) row are up last = (
  from_and_one t.base (steps_to t.base r.block) rs row up.0 (omega (arith, are.0.within.among, last)),
  ascend_and_one t rs row are.1 up.1 last,
)

-- ---- fewer rows

pub rows_drop : (t : TextsValue) (n : ℕ) (rows : List Row) → AreRows t rows → AreRows t (drop n rows)
rows_drop t zero rows are = are
rows_drop t (suc n) [] are = tt
rows_drop t (suc n) (r ∷ rs) are = rows_drop t n rs are.1

pub ascend_drop : (base n : ℕ) (rows : List Row) → Ascend base rows → Ascend base (drop n rows)
ascend_drop base zero rows up = up
ascend_drop base (suc n) [] up = tt
ascend_drop base (suc n) (r ∷ rs) up = ascend_drop base n rs up.1

pub records_cut : (t : TextsValue) (n : ℕ) (rows : List Row)
    → records_in t (take n rows) ++ records_in t (drop n rows) ≡ records_in t rows
records_cut t zero rows = refl
records_cut t (suc n) [] = refl
records_cut t (suc n) (r ∷ rs) = λ i. record_in t r ∷ records_cut t n rs i

pub taken_length : (t : TextsValue) (n : ℕ) (rows : List Row) → n ≤ length rows
    → length (records_in t (take n rows)) ≡ n
taken_length t zero rows few = refl
taken_length t (suc n) [] few = absurd (omega (arith, few))
taken_length t (suc n) (r ∷ rs) few = ap suc (taken_length t n rs (omega (arith, few)))

-- no row is before the first
pub from_first : (base : ℕ) (rows : List Row) (row : Row) → Ascend base rows → 0 < length rows
    → row ≡ get_or rows 0 row → AreFrom base (steps_to base row.block) rows
from_first base [] row up some is = tt
from_first base (r ∷ rs) row up some is =
    subst (λ (x : Row). AreFrom base (steps_to base x.block) (r ∷ rs)) (sym is) (omega arith, up.0)

-- ---- a row that is read

grouped : (f k v : ℕ) → f + k + v ≡ f + (k + v)
grouped f k v = omega arith

pub row_at : (t : TextsValue) (rows : List Row) (place : ℕ) (row : Row) → AreRows t rows → place < length rows
    → row ≡ get_or rows place row → IsRow t row
row_at t [] place row are below is = absurd (omega (arith, below))
row_at t (r ∷ rs) zero row are below is = subst (λ (x : Row). IsRow t x) (sym is) are.0
row_at t (r ∷ rs) (suc n) row are below is = row_at t rs n row are.1 (omega (arith, below)) is

pub record_at : (t : TextsValue) (rows : List Row) (place : ℕ) (row : Row) → place < length rows
    → row ≡ get_or rows place row → Some (record_in t row) ≡ slice_get (records_in t rows) place
record_at t rows place row below is =
    let found = slice_get_read rows (length rows) place row refl below is in
    sym (ap (λ x. option_map (λ (r : Row). record_in t r) x) found)
    ∙ sym (slice_get-map (λ (r : Row). record_in t r) rows place)

-- The bytes of a row are read at once, and taken apart: so many before the key, the key, and the value.
module _ (t : TextsValue) (row : Row) (f len : ℕ) (bytes front rest key value : List ℕ) (f_is : f ≡ front_len row)
    (len_is : len ≡ f + row.key_len + row.value_len) (there : bytes ≡ part t row.block row.start len)
    (front_is : front ≡ take f bytes) (rest_is : rest ≡ drop f bytes)
    (key_is : key ≡ take row.key_len rest) (value_is : value ≡ drop row.key_len rest) where
  pub front_there : front ≡ front_at t row
  front_there =
      front_is ∙ ap (λ (bs : List ℕ). take f bs) there
      ∙ take-take f len (drop row.start (text_at t row.block)) (omega (arith, len_is))
      ∙ ap (λ (n : ℕ). part t row.block row.start n) f_is

  rest_there : rest ≡ take (row.key_len + row.value_len) (drop (row.start + front_len row) (text_at t row.block))
  rest_there =
      let from = drop row.start (text_at t row.block) in
      let n = row.key_len + row.value_len in
      rest_is ∙ ap (λ (bs : List ℕ). drop f bs) there
      ∙ ap (λ (m : ℕ). drop f (take m from)) (len_is ∙ grouped f row.key_len row.value_len) ∙ drop-take f n from
      ∙ ap (λ (bs : List ℕ). take n bs) (drop-drop f row.start (text_at t row.block))
      ∙ ap (λ (m : ℕ). take n (drop (row.start + m) (text_at t row.block))) f_is

  pub key_there : key ≡ key_at t row
  key_there =
      key_is ∙ ap (λ (bs : List ℕ). take row.key_len bs) rest_there
      ∙ take-take row.key_len (row.key_len + row.value_len) (drop (row.start + front_len row) (text_at t row.block))
      (omega arith)

  pub value_there : value ≡ value_at t row
  value_there =
      let start = row.start + front_len row in
      value_is ∙ ap (λ (bs : List ℕ). drop row.key_len bs) rest_there
      ∙ drop-take row.key_len row.value_len (drop start (text_at t row.block))
      ∙ ap (λ (bs : List ℕ). take row.value_len bs) (drop-drop row.key_len start (text_at t row.block))

  pub key_valid : IsRow t row → IsKeyBytes key
  key_valid is = subst (λ (bs : List ℕ). IsKeyBytes bs) (sym key_there) is.key

  pub value_valid : IsRow t row → IsValue value
  value_valid is = subst (λ (bs : List ℕ). IsValue bs) (sym value_there) is.value

  pub read_as : (n : Numbers) → n ≡ row_numbers row front → record_of row n key value ≡ record_in t row
  read_as n is = (λ i. record_of row (is i) (key_there i) (value_there i))
      ∙ ap (λ (bs : List ℕ). unpacked row bs (key_at t row) (value_at t row)) front_there
