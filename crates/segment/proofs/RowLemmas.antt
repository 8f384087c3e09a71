-- Which entries are read from bytes, one after the other.
use Rattle.std.proofs.Common.{◌≡◌, ℕ, zero, suc, ◌-◌, ◌<◌, ◌≤◌, List, [], ◌∷◌, ◌++◌, length, take}
use Rattle.std.proofs.Common.{drop, Option, Some, None, refl, sym, ap, ◌∙◌, append_assoc, arith}
use Rattle.std.specs.Prelude.{is_none, if◌then◌else◌}
use Rattle.std.specs.Option.{option_map_or}
use Rattle.std.specs.List.{AllByRecursion}
use Rattle.std.proofs.lemmas.List.{length-append, length-drop, take_rest, drop_at}
use Rattle.std.proofs.lemmas.Grind.{flat_map-append}
use Rattle.entry.specs.declared.entry.Entry.{Entry}
use Rattle.entry.specs.declared.kind.Kind.{Kind}
use Rattle.entry.specs.declared.kind.Kind.TheVariants as kind
use Rattle.entry.specs.declared.fault.EntryFault.{EntryFault}
use Rattle.entry.specs.Format.{spelling, IsEntry, kind_of, fault_in, fault_of_kind, first_fault}
use Rattle.entry.specs.Format.{entry_of, whole_len, front_of, front_of_kind}
use Rattle.entry.specs.Text.{text_of, entries_within, entries_in, IsTextOf}
use Rattle.entry.proofs.FrontLemmas.{Passes-from_none}
use Rattle.entry.proofs.PrefixFree.{prefix_free}
use Rattle.entry.proofs.ListLemmas.{all_split}
use Rattle.entry.proofs.TextLemmas.{spelling-some, length-text_of}
use Rattle.segment.specs.Bytes.{IsSegmentBytes, standing_at}

-- ---- what is at the front

whole_len-some : (k : Kind) (bytes : List ℕ) → 0 < whole_len k bytes
whole_len-some kind.Header bytes = omega arith
whole_len-some kind.Digest bytes = omega arith
whole_len-some kind.Safe bytes = omega arith
whole_len-some kind.Object bytes = omega arith
whole_len-some kind.Tombstone bytes = omega arith
whole_len-some kind.Lengths bytes = omega arith

abbrev front : Option EntryFault → Entry → ℕ → Option (Entry × ℕ)
front f e n = if is_none f then Some (e, n) else None

front-some : (f : Option EntryFault) (e d : Entry) (m n : ℕ) → front f e m ≡ Some (d, n) → (f ≡ None) × (m ≡ n)
front-some None e d m n is = (refl, ap (λ (r : Option (Entry × ℕ)). option_map_or (λ (x : Entry × ℕ). x.1) r 0) is)
front-some (Some f) e d m n is = absurd (cc)

kind-len : (k : Option Kind) (bytes : List ℕ) (e : Entry) (n : ℕ) → front_of_kind k bytes ≡ Some (e, n)
    → (0 < n) × (n ≤ length bytes)
kind-len None bytes e n is = absurd (cc)
kind-len (Some k) bytes e n is =
    let parts = front-some (fault_in k bytes) (entry_of k bytes) e (whole_len k bytes) n is in
    let whole = (Passes-from_none k bytes parts.0).whole in
    let len : whole_len k bytes ≡ n = parts.1 in
    (omega (arith, whole_len-some k bytes), omega arith)

-- an entry at the front takes some bytes, and no more than there are
pub front_of-len : (bytes : List ℕ) (e : Entry) (n : ℕ) → front_of bytes ≡ Some (e, n) → (0 < n) × (n ≤ length bytes)
front_of-len [] e n is = absurd (cc)
front_of-len (b ∷ bs) e n is = kind-len (kind_of b) (b ∷ bs) e n is

-- if a test fails, no entry is at the front
pub front_of-fault : (bytes : List ℕ) (f : EntryFault) → first_fault bytes ≡ Some f → front_of bytes ≡ None
front_of-fault [] f is = refl
front_of-fault (b ∷ bs) f is = go (kind_of b) (b ∷ bs) is where
  go : (k : Option Kind) (bytes : List ℕ) → fault_of_kind k bytes ≡ Some f → front_of_kind k bytes ≡ None
  go None bytes is = refl
  go (Some k) bytes is = rw is refl

-- ---- the entries in bytes

-- as many steps as there are bytes are enough
within-enough : (m n : ℕ) (bytes : List ℕ) → length bytes ≤ m → length bytes ≤ n
    → entries_within m bytes ≡ entries_within n bytes
within-enough zero zero bytes p q = refl
within-enough zero (suc n) [] p q = refl
within-enough zero (suc n) (b ∷ bs) p q = absurd (omega arith)
within-enough (suc m) zero [] p q = refl
within-enough (suc m) zero (b ∷ bs) p q = absurd (omega arith)
within-enough (suc m) (suc n) bytes p q = go (λ (rest : List ℕ). within-enough m n rest) (front_of bytes) refl where
  go : ((rest : List ℕ) → length rest ≤ m → length rest ≤ n → entries_within m rest ≡ entries_within n rest)
      → (r : Option (Entry × ℕ)) → front_of bytes ≡ r
      → option_map_or (λ (x : Entry × ℕ). x.0 ∷ entries_within m (drop x.1 bytes)) r []
      ≡ option_map_or (λ (x : Entry × ℕ). x.0 ∷ entries_within n (drop x.1 bytes)) r []
  go more None is = refl
  go more (Some x) is =
      let len = front_of-len bytes x.0 x.1 is in
      let some : 0 < x.1 = len.0 in
      let fits : x.1 ≤ length bytes = len.1 in
      ap (λ (es : List Entry). x.0 ∷ es) (more (drop x.1 bytes) (omega (arith, length-drop x.1 bytes))
      (omega (arith, length-drop x.1 bytes)))

-- the entry at the front comes first
pub entries_in-front : (bytes : List ℕ) (e : Entry) (n : ℕ) → front_of bytes ≡ Some (e, n)
    → entries_in bytes ≡ e ∷ entries_in (drop n bytes)
entries_in-front [] e n is = absurd (cc)
entries_in-front (b ∷ bs) e n is =
    let len = front_of-len (b ∷ bs) e n is in
    let some : 0 < n = len.0 in
    rw is (ap (λ (es : List Entry). e ∷ es) (within-enough (length bs) (length (drop n (b ∷ bs))) (drop n (b ∷ bs))
    (omega (arith, length-drop n (b ∷ bs))) (omega arith)))

-- the same, if the rest is a slice
pub entries_in-rest : (bytes : List ℕ) (e : Entry) (n : ℕ) → front_of bytes ≡ Some (e, n)
    → entries_in bytes ≡ e ∷ entries_in (take (length bytes - n) (drop n bytes))
entries_in-rest bytes e n is = rw take_rest (entries_in-front bytes e n is)

-- the entry that begins at an offset
pub record IsThere (bytes : List ℕ) (at : ℕ) (e : Entry) (after : List Entry) : Type 0 where
  pub within : at ≤ length bytes
  pub entry : IsEntry e
  pub text : take (length bytes - at) (drop at bytes) ≡ spelling e ++ text_of after

-- no entry at the front, no entries
pub entries_in-none : (bytes : List ℕ) → front_of bytes ≡ None → entries_in bytes ≡ []
entries_in-none [] is = refl
entries_in-none (b ∷ bs) is = rw is refl

-- ---- rows of entries

pub text_of-append : (xs ys : List Entry) → text_of (xs ++ ys) ≡ text_of xs ++ text_of ys
text_of-append xs ys = flat_map-append spelling xs ys

-- a row whose text begins another row's text begins that row
pub record IsFront (before es : List Entry) (bytes : List ℕ) : Type 0 where
  pub rest : List Entry
  pub entries : es ≡ before ++ rest
  pub text : bytes ≡ text_of rest

not_spelled : (e : Entry) (xs : List ℕ) → spelling e ++ xs ≡ [] → ⊥
not_spelled e xs is = absurd (omega (arith, spelling-some e, length-append (spelling e) xs, ap length is))

pub cons_same : (a b : Entry) (x y : List Entry) → a ≡ b → x ≡ y → a ∷ x ≡ b ∷ y
cons_same a b x y p q = rw (p, q) refl

pub IsFront-from_text : (before es : List Entry) (bytes : List ℕ) → AllByRecursion IsEntry before
    → AllByRecursion IsEntry es → text_of before ++ bytes ≡ text_of es → IsFront before es bytes
IsFront-from_text [] es bytes p q is = record { rest = es; entries = refl; text = is }
IsFront-from_text (x ∷ xs) [] bytes p q is = absurd (not_spelled x (text_of xs ++ bytes) (simp append_assoc at is))
IsFront-from_text (x ∷ xs) (e ∷ es) bytes p q is =
    let parts : spelling x ++ (text_of xs ++ bytes) ≡ spelling e ++ text_of es = simp append_assoc at is in
    let first = prefix_free x e (text_of xs ++ bytes) (text_of es) p.0 q.0 parts in
    let others = IsFront-from_text xs es bytes p.1 q.1 first.1 in
    record {
      rest = others.rest;
      entries = cons_same e x es (xs ++ others.rest) (sym first.0) others.entries;
      text = others.text;
    }

pub IsThere-from_split : (bytes : List ℕ) (at : ℕ) (before after : List Entry) (e : Entry)
    → IsTextOf bytes (entries_in bytes) → entries_in bytes ≡ before ++ e ∷ after → at ≡ length (text_of before)
    → IsThere bytes at e after
IsThere-from_split bytes at before after e is split place =
    let parts : bytes ≡ text_of before ++ (spelling e ++ text_of after) =
    is.text ∙ ap text_of split ∙ text_of-append before (e ∷ after) in
    let each = all_split IsEntry before (e ∷ after) (rw split at is.segment.each) in
    let behind : drop at (text_of before ++ (spelling e ++ text_of after)) ≡ spelling e ++ text_of after =
    drop_at (text_of before) (spelling e ++ text_of after) at (sym place) in
    record {
      within = omega (arith, ap length parts, length-append (text_of before) (spelling e ++ text_of after));
      entry = each.1.0;
      text = take_rest bytes at ∙ ap (λ (l : List ℕ). drop at l) parts ∙ behind;
    }

-- a segment has no more entries than bytes
pub length-entries_in : (bytes : List ℕ) → IsSegmentBytes bytes → length (entries_in bytes) ≤ 8388608
length-entries_in bytes is =
    let limit = is.limit in
    omega (arith, length-text_of (entries_in bytes), ap (λ (l : List ℕ). length l) is.text.text)

-- ---- what is at an offset of a text

pub standing_at-front : (bytes : List ℕ) (at : ℕ) (e : Entry) (n : ℕ) → IsSegmentBytes bytes
    → front_of (take (length bytes - at) (drop at bytes)) ≡ Some (e, n)
    → Some e ≡ standing_at at (text_of (entries_in bytes))
standing_at-front bytes at e n is front =
    let there : front_of (drop at bytes) ≡ Some (e, n) = rw take_rest at front in
    rw (← is.text.text, there) refl

pub standing_at-fault : (bytes : List ℕ) (at : ℕ) (f : EntryFault) → IsSegmentBytes bytes
    → first_fault (take (length bytes - at) (drop at bytes)) ≡ Some f
    → None ≡ standing_at at (text_of (entries_in bytes))
standing_at-fault bytes at f is fault =
    let none : front_of (drop at bytes) ≡ None = front_of-fault (drop at bytes) f (rw take_rest at fault) in
    rw (← is.text.text, none) refl
