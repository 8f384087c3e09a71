-- What has been printed after one element more of a list.
use Rattle.std.proofs.Common.{[], ◌≡◌, ◌∙◌, ◌+◌, ◌-◌, ◌<◌, ◌∷◌, ◌++◌, append_assoc, ap, sym, subst, ℕ, suc, List}
use Rattle.std.proofs.Common.{Option}
use Rattle.std.proofs.Common.{length, take, get_or, arith, ◌≤◌, zero, slice_index_or, refl}
use Rattle.std.proofs.lemmas.List.{flat_map_more, take_more}
use Rattle.std.specs.Fmt.{decimal}
use Rattle.std.specs.List.{flat_map, range_with_len}
use Rattle.std.specs.Io.KnownBytes.{Appends}
use Rattle.std.proofs.KnownBytes.{Appends-trans}
use Rattle.entry.specs.declared.entry.Object.{Object}
use Rattle.tablet_will.specs.declared.part.Part.{Part}
use Rattle.answers.specs.Texts.{cleaned_text, object_text, part_text, place_text, spaced_text}
use Rattle.recovery.specs.master.cleaner.Passes.{survivor_ids}
use Rattle.recovery.specs.master.cleaner.declared.survivors.Survivors.{Survivors}
use Rattle.std.specs.Prelude.{Result, codes}
use Rattle.answers.specs.Errors.{AppendsFront, IsHanded}
use Rattle.answers.proofs.Fronts.{cut_later, cut_there, hands_as, next_of_cut}
use Rattle.tablet_will.specs.Parts.{partitions_of}

pub one_printed : {X : Type 0} (text : X → List ℕ) (xs : List X) (i : ℕ) (default : X)
    (old mid new : Option (List ℕ)) → i < length xs
    → Appends old mid (flat_map text (take i xs)) → Appends mid new (text (get_or xs i default))
    → Appends old new (flat_map text (take (i + 1) xs))
one_printed text xs i default old mid new below before one =
    let grown = flat_map_more text [] (take i xs) (get_or xs i default)
    ∙ ap (flat_map text) (sym (take_more xs i default below)) in
    subst (Appends old new) grown (Appends-trans old mid new _ _ before one)

pub one_more_printed : {X : Type 0} (text : X → List ℕ) (done : List X) (x : X) (old mid new : Option (List ℕ))
    → Appends old mid (flat_map text done)
    → Appends mid new (text x) → Appends old new (flat_map text (done ++ x ∷ []))
one_more_printed text done x old mid new before one =
    subst (Appends old new) (flat_map_more text [] done x) (Appends-trans old mid new _ _ before one)

-- one number more of those that follow one another
range_more : (first n : ℕ) → range_with_len first n ++ (first + n) ∷ [] ≡ range_with_len first (suc n)
range_more first zero = ap (λ (m : ℕ). m ∷ []) (omega arith)
range_more first (suc n) =
    ap (λ (l : List ℕ). first ∷ l)
    (ap (λ (m : ℕ). range_with_len (first + 1) n ++ m ∷ []) (omega arith) ∙ range_more (first + 1) n)

pub next_printed : (text : ℕ → List ℕ) (first n : ℕ) (old mid new : Option (List ℕ))
    → Appends old mid (flat_map text (range_with_len first n)) → Appends mid new (text (first + n))
    → Appends old new (flat_map text (range_with_len first (n + 1)))
next_printed text first n old mid new before one =
    let more : suc n ≡ n + 1 = omega arith in
    subst (λ (l : List ℕ). Appends old new (flat_map text l))
    (range_more first n ∙ ap (λ (m : ℕ). range_with_len first m) more)
    (one_more_printed text (range_with_len first n) (first + n) old mid new before one)

-- the pieces of an object's line
pub object_printed : (o : Object) (a b c d e : Option (List ℕ)) → Appends a b (decimal o.key.table ++ 32 ∷ [])
    → Appends b c o.key.bytes → Appends c d (32 ∷ [])
    → Appends d e (decimal o.version ++ 32 ∷ o.value ++ 10 ∷ []) → Appends a e (object_text o)
object_printed o a b c d e table key space rest =
    let first = decimal o.key.table ++ 32 ∷ o.key.bytes in
    let front : Appends a d (first ++ 32 ∷ []) =
    Appends-trans a c d _ _ (subst (Appends a c) (append_assoc (decimal o.key.table) (32 ∷ []) o.key.bytes)
    (Appends-trans a b c _ _ table key)) space in
    let grouped = sym (append_assoc (first ++ 32 ∷ []) (decimal o.version ++ 32 ∷ o.value) (10 ∷ []))
    ∙ ap (λ l. l ++ 10 ∷ []) (sym (append_assoc (first ++ 32 ∷ []) (decimal o.version) (32 ∷ o.value)))
    ∙ ap (λ l. l ++ 32 ∷ o.value ++ 10 ∷ []) (append_assoc first (32 ∷ []) (decimal o.version)) in
    subst (Appends a e) grouped (Appends-trans a d e _ _ front rest)

-- what ends with a space, before what follows
spaced : (a b c : List ℕ) → (a ++ 32 ∷ []) ++ (b ++ c) ≡ (a ++ 32 ∷ b) ++ c
spaced a b c = sym (append_assoc (a ++ 32 ∷ []) b c) ∙ ap (λ (l : List ℕ). l ++ c) (append_assoc a (32 ∷ []) b)

-- four pieces of a line as one
joined : (t f l p : List ℕ) → (((t ++ 32 ∷ []) ++ (f ++ 32 ∷ [])) ++ (l ++ 32 ∷ [])) ++ (p ++ 10 ∷ [])
    ≡ t ++ 32 ∷ f ++ 32 ∷ l ++ 32 ∷ p ++ 10 ∷ []
joined t f l p =
    ap (λ (x : List ℕ). (x ++ (l ++ 32 ∷ [])) ++ (p ++ 10 ∷ [])) (spaced t f (32 ∷ []))
    ∙ ap (λ (x : List ℕ). x ++ (p ++ 10 ∷ [])) (spaced (t ++ 32 ∷ f) l (32 ∷ []))
    ∙ spaced (t ++ 32 ∷ f ++ 32 ∷ l) p (10 ∷ [])

four_printed : (t f l p : List ℕ) (a b c d e : Option (List ℕ)) → Appends a b (t ++ 32 ∷ [])
    → Appends b c (f ++ 32 ∷ []) → Appends c d (l ++ 32 ∷ [])
    → Appends d e (p ++ 10 ∷ []) → Appends a e (t ++ 32 ∷ f ++ 32 ∷ l ++ 32 ∷ p ++ 10 ∷ [])
four_printed t f l p a b c d e one two three four =
    subst (Appends a e) (joined t f l p) (Appends-trans a d e _ _
    (Appends-trans a c d _ _ (Appends-trans a b c _ _ one two) three) four)

-- the pieces of a part's line
pub part_printed : (q : Part) (a b c d e : Option (List ℕ)) → Appends a b (decimal q.table ++ 32 ∷ [])
    → Appends b c (place_text q.first ++ 32 ∷ [])
    → Appends c d (place_text q.last ++ 32 ∷ []) → Appends d e (decimal q.partition ++ 10 ∷ [])
    → Appends a e (part_text q)
part_printed q a b c d e = four_printed (decimal q.table) (place_text q.first) (place_text q.last)
    (decimal q.partition) a b c d e

-- the pieces of the line of a cleaning
pub cleaned_pieces : (survivors : Survivors) (head : ℕ)
    → (codes "cleaned" ++ flat_map spaced_text (survivor_ids survivors)) ++ (spaced_text head ++ 10 ∷ [])
    ≡ cleaned_text survivors head
cleaned_pieces survivors head =
    sym (append_assoc (codes "cleaned" ++ flat_map spaced_text (survivor_ids survivors)) (spaced_text head) (10 ∷ []))

last_pieces : (lines words digits : List ℕ)
    → lines ++ (words ++ digits ++ 10 ∷ []) ≡ lines ++ words ++ digits ++ 10 ∷ []
last_pieces lines words digits = sym (append_assoc lines (words ++ digits) (10 ∷ []))
    ∙ ap (λ (l : List ℕ). l ++ 10 ∷ []) (sym (append_assoc lines words digits))

-- the last line, behind others
pub last_printed : (lines words digits : List ℕ) (a b c : Option (List ℕ)) → Appends a b lines
    → Appends b c (words ++ digits ++ 10 ∷ [])
    → Appends a c (lines ++ words ++ digits ++ 10 ∷ [])
last_printed lines words digits a b c before last =
    subst (Appends a c) (last_pieces lines words digits) (Appends-trans a b c _ _ before last)

-- the numbers that follow one another, before one of them, at it and behind it
range_split : (first n left : ℕ) → range_with_len first n ++ ((first + n) ∷ range_with_len (first + n + 1) left)
    ≡ range_with_len first (suc (n + left))
range_split first zero left =
    let at : first + 0 ≡ first = omega arith in
    let count : left ≡ 0 + left = omega arith in
    ap (λ (m : ℕ). m ∷ range_with_len (m + 1) left) at
    ∙ ap (λ (k : ℕ). first ∷ range_with_len (first + 1) k) count
range_split first (suc n) left =
    let at : first + suc n ≡ first + 1 + n = omega arith in
    let count : suc (n + left) ≡ suc n + left = omega arith in
    ap (λ (l : List ℕ). first ∷ l)
    (ap (λ (m : ℕ). range_with_len (first + 1) n ++ (m ∷ range_with_len (m + 1) left)) at
    ∙ range_split (first + 1) n left ∙ ap (λ (k : ℕ). range_with_len (first + 1) k) count)

-- ---- as far as a writer takes them

-- the pieces of a version and a value
pub versioned_first : (n m : ℕ) (value : List ℕ) → n ≡ m
    → (decimal n ++ 32 ∷ []) ++ (value ++ 10 ∷ []) ≡ decimal m ++ 32 ∷ value ++ 10 ∷ []
versioned_first n m value same =
    spaced (decimal n) value (10 ∷ []) ∙ ap (λ (k : ℕ). decimal k ++ 32 ∷ value ++ 10 ∷ []) same

pub versioned_later : (n m : ℕ) (value : List ℕ) → n ≡ m
    → ((decimal n ++ 32 ∷ []) ++ value) ++ 10 ∷ [] ≡ decimal m ++ 32 ∷ value ++ 10 ∷ []
versioned_later n m value same =
    ap (λ (l : List ℕ). l ++ 10 ∷ []) (append_assoc (decimal n) (32 ∷ []) value)
    ∙ ap (λ (k : ℕ). decimal k ++ 32 ∷ value ++ 10 ∷ []) same

-- the bytes of a part's line
part_pieces : (q : Part) → (((decimal q.table ++ 32 ∷ []) ++ (place_text q.first ++ 32 ∷ []))
    ++ (place_text q.last ++ 32 ∷ [])) ++ (decimal q.partition ++ 10 ∷ []) ≡ part_text q
part_pieces q = joined (decimal q.table) (place_text q.first) (place_text q.last) (decimal q.partition)

pub part_handed : {E : Type 0} (q : Part) (a b c d e : Option (List ℕ)) (r : Result (Unit {0}) E)
    → Appends a b (decimal q.table ++ 32 ∷ []) → Appends b c (place_text q.first ++ 32 ∷ [])
    → Appends c d (place_text q.last ++ 32 ∷ []) → IsHanded d e (decimal q.partition ++ 10 ∷ []) r
    → IsHanded a e (part_text q) r
part_handed q a b c d e r one two three four =
    hands_as a d e _ _ _ r (Appends-trans a c d _ _ (Appends-trans a b c _ _ one two) three) four (part_pieces q)

-- the front of three pieces is one of the line
part_cut : (q : Part) (a d : Option (List ℕ)) → AppendsFront a d (((decimal q.table ++ 32 ∷ [])
    ++ (place_text q.first ++ 32 ∷ [])) ++ (place_text q.last ++ 32 ∷ []))
    → AppendsFront a d (part_text q)
part_cut q a d front =
    subst (AppendsFront a d) (part_pieces q) (cut_there a d _ (decimal q.partition ++ 10 ∷ []) front)

pub part_cut_first : (q : Part) (a b : Option (List ℕ)) → AppendsFront a b (decimal q.table ++ 32 ∷ [])
    → AppendsFront a b (part_text q)
part_cut_first q a b front =
    part_cut q a b (cut_there a b _ (place_text q.last ++ 32 ∷ [])
    (cut_there a b _ (place_text q.first ++ 32 ∷ []) front))

pub part_cut_second : (q : Part) (a b c : Option (List ℕ)) → Appends a b (decimal q.table ++ 32 ∷ [])
    → AppendsFront b c (place_text q.first ++ 32 ∷ [])
    → AppendsFront a c (part_text q)
part_cut_second q a b c one front =
    part_cut q a c (cut_there a c _ (place_text q.last ++ 32 ∷ []) (cut_later a b c _ _ one front))

pub part_cut_third : (q : Part) (a b c d : Option (List ℕ)) → Appends a b (decimal q.table ++ 32 ∷ [])
    → Appends b c (place_text q.first ++ 32 ∷ [])
    → AppendsFront c d (place_text q.last ++ 32 ∷ []) → AppendsFront a d (part_text q)
part_cut_third q a b c d one two front =
    part_cut q a d (cut_later a c d _ _ (Appends-trans a b c _ _ one two) front)

-- the bytes of an object's line
object_pieces : (o : Object) → (((decimal o.key.table ++ 32 ∷ []) ++ o.key.bytes) ++ 32 ∷ [])
    ++ (decimal o.version ++ 32 ∷ o.value ++ 10 ∷ []) ≡ object_text o
object_pieces o =
    let first = decimal o.key.table ++ 32 ∷ o.key.bytes in
    ap (λ (l : List ℕ). (l ++ 32 ∷ []) ++ (decimal o.version ++ 32 ∷ o.value ++ 10 ∷ []))
    (append_assoc (decimal o.key.table) (32 ∷ []) o.key.bytes)
    ∙ sym (append_assoc (first ++ 32 ∷ []) (decimal o.version ++ 32 ∷ o.value) (10 ∷ []))
    ∙ ap (λ l. l ++ 10 ∷ []) (sym (append_assoc (first ++ 32 ∷ []) (decimal o.version) (32 ∷ o.value)))
    ∙ ap (λ l. l ++ 32 ∷ o.value ++ 10 ∷ []) (append_assoc first (32 ∷ []) (decimal o.version))

pub object_handed : {E : Type 0} (o : Object) (a b c d e : Option (List ℕ)) (r : Result (Unit {0}) E)
    → Appends a b (decimal o.key.table ++ 32 ∷ []) → Appends b c o.key.bytes → Appends c d (32 ∷ [])
    → IsHanded d e (decimal o.version ++ 32 ∷ o.value ++ 10 ∷ []) r → IsHanded a e (object_text o) r
object_handed o a b c d e r table key space rest =
    hands_as a d e _ _ _ r (Appends-trans a c d _ _ (Appends-trans a b c _ _ table key) space) rest (object_pieces o)

-- the front of three pieces is one of the line
object_cut : (o : Object) (a d : Option (List ℕ))
    → AppendsFront a d (((decimal o.key.table ++ 32 ∷ []) ++ o.key.bytes) ++ 32 ∷ [])
    → AppendsFront a d (object_text o)
object_cut o a d front =
    subst (AppendsFront a d) (object_pieces o)
    (cut_there a d _ (decimal o.version ++ 32 ∷ o.value ++ 10 ∷ []) front)

pub object_cut_first : (o : Object) (a b : Option (List ℕ)) → AppendsFront a b (decimal o.key.table ++ 32 ∷ [])
    → AppendsFront a b (object_text o)
object_cut_first o a b front =
    object_cut o a b (cut_there a b _ (32 ∷ []) (cut_there a b _ o.key.bytes front))

pub object_cut_second : (o : Object) (a b c : Option (List ℕ)) → Appends a b (decimal o.key.table ++ 32 ∷ [])
    → AppendsFront b c o.key.bytes → AppendsFront a c (object_text o)
object_cut_second o a b c one front = object_cut o a c (cut_there a c _ (32 ∷ []) (cut_later a b c _ _ one front))

pub object_cut_third : (o : Object) (a b c d : Option (List ℕ)) → Appends a b (decimal o.key.table ++ 32 ∷ [])
    → Appends b c o.key.bytes
    → AppendsFront c d (32 ∷ []) → AppendsFront a d (object_text o)
object_cut_third o a b c d one two front =
    object_cut o a d (cut_later a c d _ _ (Appends-trans a b c _ _ one two) front)

-- the last line was handed over, behind others
pub last_handed : {E : Type 0} (lines words digits : List ℕ) (a b c : Option (List ℕ)) (r : Result (Unit {0}) E)
    → Appends a b lines
    → IsHanded b c (words ++ digits ++ 10 ∷ []) r → IsHanded a c (lines ++ words ++ digits ++ 10 ∷ []) r
last_handed lines words digits a b c r before last =
    hands_as a b c _ _ _ r before last (last_pieces lines words digits)

-- the writer failed before the last line
pub last_cut : (lines words digits : List ℕ) (a b : Option (List ℕ)) → AppendsFront a b lines
    → AppendsFront a b (lines ++ words ++ digits ++ 10 ∷ [])
last_cut lines words digits a b front =
    subst (AppendsFront a b) (last_pieces lines words digits)
    (cut_there a b lines (words ++ digits ++ 10 ∷ []) front)

-- the writer failed at one of the numbers that follow one another
pub next_cut : (text : ℕ → List ℕ) (first n count : ℕ) (old mid new : Option (List ℕ)) → n < count
    → Appends old mid (flat_map text (range_with_len first n)) → AppendsFront mid new (text (first + n))
    → AppendsFront old new (flat_map text (range_with_len first count))
next_cut text first n count old mid new below before front =
    let left = count - (n + 1) in
    let all : suc (n + left) ≡ count = omega arith in
    next_of_cut text (range_with_len first n) (first + n) (range_with_len (first + n + 1) left)
    (range_with_len first count) old mid new
    (range_split first n left ∙ ap (λ (k : ℕ). range_with_len first k) all) before front

-- ---- the parts of a will

-- the last part tells how many partitions there are
pub counts_last : (qs : List Part) (other : Part) → 1 ≤ length qs
    → (slice_index_or qs (length qs - 1) other).partition + 1 ≡ partitions_of qs
counts_last qs other some = go qs (length qs - 1) (omega arith)
  where
    go : (qs : List Part) (n : ℕ) → length qs ≡ suc n → (slice_index_or qs n other).partition + 1 ≡ partitions_of qs
    go [] n is = absurd (omega arith)
    go (q ∷ []) zero is = refl
    go (q ∷ []) (suc n) is = absurd (omega arith)
    go (q ∷ r ∷ qs) zero is = absurd (omega arith)
    go (q ∷ r ∷ qs) (suc n) is = go (r ∷ qs) n (omega arith)
