-- A store is read back from its text, and so is a record. Bytes that are read as one are its text.
use Rattle.std.proofs.Common.{◌≡◌, inl, inr, ℕ, suc, ◌+◌, ◌*◌, ◌≤◌, ◌<◌, ◌^◌, Bool, true, cond, eqb, leb}
use Rattle.std.proofs.Common.{List, [], ◌∷◌, ◌++◌, length, Option, Some, None, refl, sym, ◌∙◌, ap, subst}
use Rattle.std.proofs.Common.{arith, append_assoc, length-append}
use Rattle.std.specs.Prelude.{◌&&◌}
use Rattle.std.specs.List.{flat_map}
use Rattle.std.proofs.lemmas.Bool.{and_parts, cases_Bool, eqb-true, le-leb, eq-eqb}
use Rattle.std.proofs.lemmas.List.{append-nil, take_all}
use Rattle.std.proofs.lemmas.Option.{cond_some, none-some}
use Rattle.entry.specs.Format.{ids_at, number_at, number_bytes}
use Rattle.entry.specs.Key.{IsBytes}
use Rattle.entry.proofs.IdLemmas.{Fronts-ids, ids_at-lt, length-ids_at}
use Rattle.entry.proofs.Numbers.{Fronts, Fronts-number, length-number_bytes, number_at-front, number_at-lt}
use Rattle.entry.proofs.Numbers.{number_at-past, width-2, width-8}
use Rattle.registry_text.specs.RecordText.{AreReadBack, FitsFleet, FitsRecord, FleetValue, HaveOneText}
use Rattle.registry_text.specs.RecordText.{fleet_in, fleet_of, fleet_text, is_fleet, record_behind, record_in}
use Rattle.registry_text.specs.RecordText.{record_text}
use Rattle.registry_text.specs.declared.record.Record.{Record}
use Rattle.registry_text.specs.declared.record.Record.TheVariants as says
use Rattle.registry_text.proofs.Options.{length-options, options-back}

-- ---- numbers in a row

eight-at : (front : List ℕ) (n at : ℕ) (rest : List ℕ) → length front ≡ at → n < 2 ^ 64
    → number_at 8 at (front ++ (number_bytes 8 n ++ rest)) ≡ n
eight-at front n at rest len fits =
    let e : at ≡ length front + 0 = omega (arith, len) in
    ap (λ (k : ℕ). number_at 8 k (front ++ (number_bytes 8 n ++ rest))) e
    ∙ number_at-past 8 0 front (number_bytes 8 n ++ rest)
    ∙ number_at-front 8 n rest fits

last-at : (front : List ℕ) (n at : ℕ) → length front ≡ at → n < 2 ^ 64
    → number_at 8 at (front ++ number_bytes 8 n) ≡ n
last-at front n at len fits =
    ap (λ (l : List ℕ). number_at 8 at (front ++ l)) (sym (append-nil (number_bytes 8 n)))
    ∙ eight-at front n at [] len fits

only-at : (n : ℕ) → n < 2 ^ 64 → number_at 8 0 (number_bytes 8 n) ≡ n
only-at n fits = last-at [] n 0 refl fits

when-size : {X : Type 0} (rest : List ℕ) (n : ℕ) (x y : X) → length rest ≡ n → x ≡ y
    → cond (eqb (length rest) n) (Some x) None ≡ Some y
when-size rest n x y size same =
    ap (λ (b : Bool). cond b (Some x) None) (eq-eqb (length rest) n size) ∙ ap (λ z. Some z) same

-- ---- records are read back

record_back : (r : Record) → FitsRecord r → record_in (record_text r) ≡ Some r
record_back (says.Journal backup id count) fits =
    let a = number_bytes 8 backup in
    let b = number_bytes 8 id in
    let c = number_bytes 8 count in
    let rest = (a ++ b) ++ c in
    let many_a = length-number_bytes 8 backup in
    let many_b = length-number_bytes 8 id in
    let many_ab : length (a ++ b) ≡ 16 = omega (arith, length-append a b, many_a, many_b) in
    let size : length rest ≡ 24 = omega (arith, length-append (a ++ b) c, many_ab, length-number_bytes 8 count) in
    let split : rest ≡ a ++ (b ++ c) = append_assoc a b c in
    let first : number_at 8 0 rest ≡ backup =
    ap (λ (l : List ℕ). number_at 8 0 l) split ∙ eight-at [] backup 0 (b ++ c) refl fits.0 in
    let second : number_at 8 8 rest ≡ id =
    ap (λ (l : List ℕ). number_at 8 8 l) split ∙ eight-at a id 8 c many_a fits.1 in
    let third : number_at 8 16 rest ≡ count = last-at (a ++ b) count 16 many_ab fits.2 in
    let same : says.Journal (number_at 8 0 rest) (number_at 8 8 rest) (number_at 8 16 rest)
    ≡ says.Journal backup id count = (λ i. says.Journal (first i) (second i) (third i)) in
    when-size rest 24 _ (says.Journal backup id count) size same
record_back (says.Raise master head) fits =
    let a = number_bytes 8 master in
    let b = number_bytes 8 head in
    let rest = a ++ b in
    let many_a = length-number_bytes 8 master in
    let size : length rest ≡ 16 = omega (arith, length-append a b, many_a, length-number_bytes 8 head) in
    let first : number_at 8 0 rest ≡ master = eight-at [] master 0 b refl fits.0 in
    let second : number_at 8 8 rest ≡ head = last-at a head 8 many_a fits.1 in
    let same : says.Raise (number_at 8 0 rest) (number_at 8 8 rest) ≡ says.Raise master head =
    (λ i. says.Raise (first i) (second i)) in
    when-size rest 16 _ (says.Raise master head) size same
record_back (says.Master number) fits =
    let rest = number_bytes 8 number in
    let same : says.Master (number_at 8 0 rest) ≡ says.Master number = (λ i. says.Master (only-at number fits i)) in
    when-size rest 8 _ (says.Master number) (length-number_bytes 8 number) same
record_back (says.Format number) fits =
    let rest = number_bytes 8 number in
    let same : says.Format (number_at 8 0 rest) ≡ says.Format number = (λ i. says.Format (only-at number fits i)) in
    when-size rest 8 _ (says.Format number) (length-number_bytes 8 number) same

-- ---- a store is read back

fleet_back : (f : FleetValue) → FitsFleet f → fleet_in (fleet_text f) ≡ Some f
fleet_back f fits =
    let a = number_bytes 8 f.id in
    let b = number_bytes 2 (length f.options) in
    let c = flat_map (number_bytes 8) f.options in
    let rest = (a ++ b) ++ c in
    let many_a = length-number_bytes 8 f.id in
    let many_b = length-number_bytes 2 (length f.options) in
    let many_ab : length (a ++ b) ≡ 10 = omega (arith, length-append a b, many_a, many_b) in
    let size : length rest ≡ 10 + 8 * length f.options =
    omega (arith, length-append (a ++ b) c, many_ab, length-options f.options) in
    let split : rest ≡ a ++ (b ++ c) = append_assoc a b c in
    let id : number_at 8 0 rest ≡ f.id =
    ap (λ (l : List ℕ). number_at 8 0 l) split ∙ eight-at [] f.id 0 (b ++ c) refl fits.id in
    let place : 8 ≡ length a + 0 = omega (arith, many_a) in
    let count : number_at 2 8 rest ≡ length f.options =
    ap (λ (l : List ℕ). number_at 2 8 l) split
    ∙ ap (λ (k : ℕ). number_at 2 k (a ++ (b ++ c))) place
    ∙ number_at-past 2 0 a (b ++ c)
    ∙ number_at-front 2 (length f.options) c fits.count in
    let options : ids_at (number_at 2 8 rest) 10 rest ≡ f.options =
    ap (λ (n : ℕ). ids_at n 10 rest) count ∙ options-back (a ++ b) f.options 10 many_ab fits.options in
    let whole : length rest ≡ 10 + 8 * number_at 2 8 rest = size ∙ ap (λ (n : ℕ). 10 + 8 * n) (sym count) in
    let least : 10 ≤ length rest = omega (arith, size) in
    let test : is_fleet rest ≡ true =
    (λ i. le-leb 10 (length rest) least i && eq-eqb (length rest) (10 + 8 * number_at 2 8 rest) whole i) in
    let same : fleet_of rest ≡ f = (λ i. let g : FleetValue = record { id = id i; options = options i } in g) in
    ap (λ (b : Bool). cond b (Some (fleet_of rest)) None) test ∙ ap (λ (g : FleetValue). Some g) same

pub are_read_back : AreReadBack
are_read_back = record { fleets = fleet_back; records = record_back }

-- ---- records have one text

-- the record is that of the kind k, or one of the others
pick : {P : Type 0} (kind k : ℕ) (a b : Option Record) (r : Record) → cond (eqb kind k) a b ≡ Some r
    → (kind ≡ k → a ≡ Some r → P) → (b ≡ Some r → P) → P
pick {P = P} kind k a b r is here other = elim (cases_Bool (eqb kind k)) [
  | inl same ↦ here (eqb-true kind k same) (ap (λ (t : Bool). cond t a b) (sym same) ∙ is)
  | inr not ↦ other (ap (λ (t : Bool). cond t a b) (sym not) ∙ is)
]

abbrev Says : ℕ → List ℕ → Record → Type 0
Says kind rest r = (kind ∷ rest ≡ record_text r) × FitsRecord r

-- the front of so many bytes is all of them
all_of : (rest text : List ℕ) (n : ℕ) → length rest ≡ n → Fronts rest n text → rest ≡ text
all_of rest text n size front =
    sym (take_all n rest (omega (arith, size))) ∙ front.same

none_before : (rest : List ℕ) → Fronts rest 0 []
none_before rest = record { within = omega arith; same = refl }

first_eight : (rest : List ℕ) → IsBytes rest → 8 ≤ length rest → Fronts rest 8 (number_bytes 8 (number_at 8 0 rest))
first_eight rest bytes le =
    Fronts-number 8 0 rest [] (number_at 8 0 rest) width-8 bytes (none_before rest) le refl

of_size : (kind k n : ℕ) (rest : List ℕ) (one r : Record) → kind ≡ k → (length rest ≡ n → Says k rest one)
    → cond (eqb (length rest) n) (Some one) None ≡ Some r → Says kind rest r
of_size kind k n rest one r of_kind says_it is =
    let parts = cond_some (eqb (length rest) n) one r is in
    subst (λ (x : Record). Says kind rest x) parts.1
    (subst (λ (j : ℕ). Says j rest one) (sym of_kind) (says_it (eqb-true (length rest) n parts.0)))

journal_is : (rest : List ℕ) → IsBytes rest → length rest ≡ 24
    → Says 2 rest (says.Journal (number_at 8 0 rest) (number_at 8 8 rest) (number_at 8 16 rest))
journal_is rest bytes size =
    let one = first_eight rest bytes (omega (arith, size)) in
    let two = Fronts-number 8 8 rest _ (number_at 8 8 rest) width-8 bytes one (omega (arith, size)) refl in
    let three = Fronts-number 8 16 rest _ (number_at 8 16 rest) width-8 bytes two (omega (arith, size)) refl in (
      ap (λ (l : List ℕ). 2 ∷ l) (all_of rest _ 24 size three),
      (number_at-lt 8 0 rest bytes, number_at-lt 8 8 rest bytes, number_at-lt 8 16 rest bytes),
    )

raise_is : (rest : List ℕ) → IsBytes rest → length rest ≡ 16
    → Says 3 rest (says.Raise (number_at 8 0 rest) (number_at 8 8 rest))
raise_is rest bytes size =
    let one = first_eight rest bytes (omega (arith, size)) in
    let two = Fronts-number 8 8 rest _ (number_at 8 8 rest) width-8 bytes one (omega (arith, size)) refl in
    (ap (λ (l : List ℕ). 3 ∷ l) (all_of rest _ 16 size two), (number_at-lt 8 0 rest bytes, number_at-lt 8 8 rest bytes))

one_number : (rest : List ℕ) → IsBytes rest → length rest ≡ 8 → rest ≡ number_bytes 8 (number_at 8 0 rest)
one_number rest bytes size =
    let one = first_eight rest bytes (omega (arith, size)) in
    all_of rest _ 8 size one

record_is : (kind : ℕ) (rest : List ℕ) (r : Record) → IsBytes rest → record_behind kind rest ≡ Some r → Says kind rest r
record_is kind rest r bytes is =
    pick kind 2 _ _ r is (λ two. of_size kind 2 24 rest _ r two (journal_is rest bytes))
    (λ is3. pick kind 3 _ _ r is3 (λ three. of_size kind 3 16 rest _ r three (raise_is rest bytes))
    (λ is4. pick kind 4 _ _ r is4
    (λ four. of_size kind 4 8 rest _ r four
    (λ size. (ap (λ (l : List ℕ). 4 ∷ l) (one_number rest bytes size), number_at-lt 8 0 rest bytes)))
    (λ is5. pick kind 5 _ _ r is5
    (λ five. of_size kind 5 8 rest _ r five
    (λ size. (ap (λ (l : List ℕ). 5 ∷ l) (one_number rest bytes size), number_at-lt 8 0 rest bytes)))
    (λ none. absurd (none-some r none)))))

records_once : (text : List ℕ) (r : Record) → IsBytes text → record_in text ≡ Some r
    → (text ≡ record_text r) × FitsRecord r
records_once [] r bytes is = absurd (none-some r is)
records_once (kind ∷ rest) r bytes is = record_is kind rest r (λ i. bytes (suc i)) is

-- ---- a store has one text

fleet_is : (rest : List ℕ) → IsBytes rest → is_fleet rest ≡ true
    → (1 ∷ 82 ∷ rest ≡ fleet_text (fleet_of rest)) × FitsFleet (fleet_of rest)
fleet_is rest bytes test =
    let n = number_at 2 8 rest in
    let tests = and_parts (leb 10 (length rest)) (eqb (length rest) (10 + 8 * n)) test in
    let size = eqb-true (length rest) (10 + 8 * n) tests.1 in
    let many : length (ids_at n 10 rest) ≡ n = length-ids_at n 10 rest in
    let one = first_eight rest bytes (omega (arith, size)) in
    let two = Fronts-number 2 8 rest _ (length (ids_at n 10 rest)) width-2 bytes one (omega (arith, size)) many in
    let all = Fronts-ids n 10 rest _ bytes two (omega (arith, size)) in (
      ap (λ (l : List ℕ). 1 ∷ 82 ∷ l) (all_of rest _ (10 + 8 * n) size all),
      record {
        id = number_at-lt 8 0 rest bytes;
        count = subst (λ (k : ℕ). k < 2 ^ 16) (sym many) (number_at-lt 2 8 rest bytes);
        options = ids_at-lt n 10 rest bytes;
      },
    )

fleets_once : (text : List ℕ) (f : FleetValue) → IsBytes text → fleet_in text ≡ Some f
    → (text ≡ fleet_text f) × FitsFleet f
fleets_once [] f bytes is = absurd (none-some f is)
fleets_once (version ∷ []) f bytes is = absurd (none-some f is)
fleets_once (version ∷ kind ∷ rest) f bytes is =
    let parts = cond_some (eqb version 1 && (eqb kind 82 && is_fleet rest)) (fleet_of rest) f is in
    let first = and_parts (eqb version 1) (eqb kind 82 && is_fleet rest) parts.0 in
    let second = and_parts (eqb kind 82) (is_fleet rest) first.1 in
    let are = fleet_is rest (λ i. bytes (suc (suc i))) second.1 in
    let v = eqb-true version 1 first.0 in
    let k = eqb-true kind 82 second.0 in
    subst (λ (g : FleetValue). (version ∷ kind ∷ rest ≡ fleet_text g) × FitsFleet g) parts.1
    ((λ i. v i ∷ k i ∷ rest) ∙ are.0, are.1)

pub have_one_text : HaveOneText
have_one_text = record { fleets = fleets_once; records = records_once }
