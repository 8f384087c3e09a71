-- One op for each replica makes them all.
use Rattle.std.proofs.Common.{◌≡◌, ◌⊎◌, inl, inr, ℕ, suc, Bool, true, false, cond, List, [], ◌∷◌, map}
use Rattle.std.proofs.Common.{Option, Some, None, Result, Ok, Err, Vec, refl, sym, ◌∙◌, ap, subst, arith}
use Rattle.std.specs.Prelude.{◌==◌, ◌&&◌, IfOk, OnOk}
use Rattle.std.specs.declared.alloc.Global.{Global}
use Rattle.std.specs.BTreeMap.{is_at}
use Rattle.std.specs.Cmp.{tied_then, unsigned_tied}
use Rattle.std.specs.List.{All, AllByRecursion}
use Rattle.std.specs.Map.{keys_of}
use Rattle.std.specs.Option.{option_and_then, option_map}
use Rattle.std.specs.Ordering.{is_eq, nat_cmp}
use Rattle.std.specs.declared.cmp.Ordering.TheVariants.{Less}
use Rattle.std.proofs.lemmas.Bool.{cases_Bool, eqb-true, eq-eqb, and_parts, false_from_ne_true, true≢false}
use Rattle.std.proofs.lemmas.Map.Keys.{sorted_tail}
use Rattle.std.proofs.lemmas.Map.Views.{All-after_first}
use Rattle.replica.specs.Op.{OpValue}
use Rattle.replica.specs.Picture.{Replica}
use Rattle.replica.specs.Take.{effect}
use Rattle.replica.specs.declared.holding.Holding.{Holding}
use Rattle.backup.specs.Acts.{adding}
use Rattle.backup.specs.Shelf.{IsInOrder, holding_of, holdings_of}
use Rattle.backup.specs.Slots.{AreOrdered, Place, Slots, found_in, place_cmp}
use Rattle.backup.specs.declared.memory.MemoryBackup.{MemoryBackup}
use Rattle.op_text.specs.OpText.{ReadsBack}
use Rattle.file_backup.specs.Replay.{Replicas, after_op, held_in, no_replicas, replayed, shown, with_at}
use Rattle.take_journal.specs.Crash.{HasVersion}
use Rattle.take_journal.specs.Frames.{AreShort, IsShort, texts_of}
use Rattle.file_backup.specs.Whole.{IsReady, making, texts_making}
use Rattle.file_backup.proofs.Versions.{version_first}

-- ---- places

-- two places tie just if both numbers are the same
ties : (p q : Place) → is_eq (place_cmp p q) ≡ ((p.0 == q.0) && (p.1 == q.1))
ties p q =
    let e : is_eq (nat_cmp p.0 q.0) ≡ (p.0 == q.0) = unsigned_tied p.0 q.0 in
    let d : is_eq (nat_cmp p.1 q.1) ≡ (p.1 == q.1) = unsigned_tied p.1 q.1 in
    sym (tied_then (nat_cmp p.0 q.0) (nat_cmp p.1 q.1)) ∙ rw (e, d) refl

differ : (p q : Place) → place_cmp p q ≡ Less → ((p.0 == q.0) && (p.1 == q.1)) ≡ false
differ p q less = sym (ties p q) ∙ ap is_eq less

-- a place below all others isn't found among them
unfound : (p : Place) (slots : Slots) → AllByRecursion (λ (q : Place). place_cmp p q ≡ Less) (keys_of slots)
    → found_in slots p ≡ None
unfound p [] below = refl
unfound p (x ∷ xs) below =
    ap (λ (b : Bool). cond b (Some x.1) (found_in xs p)) (ap is_eq below.0) ∙ unfound p xs below.1

all_again : {X : Type 0} (P : X → Type 0) (xs : List X) → All P xs → AllByRecursion P xs
all_again P [] all = tt
all_again P (x ∷ xs) all = (all 0 x (omega arith), all_again P xs (λ i d lt. all (suc i) d (omega (arith, lt))))

-- the first place is below the others
first_below : (x : Place × Replica) (xs : Slots) → AreOrdered (x ∷ xs)
    → AllByRecursion (λ (q : Place). place_cmp x.0 q ≡ Less) (keys_of xs)
first_below x xs ordered =
    all_again (λ (q : Place). place_cmp x.0 q ≡ Less) (keys_of xs) (All-after_first place_cmp x.0 (keys_of xs) ordered)

others_ordered : (x : Place × Replica) (xs : Slots) → AreOrdered (x ∷ xs) → AreOrdered xs
others_ordered x xs ordered = sorted_tail place_cmp x.0 (keys_of xs) ordered

-- ---- replicas

-- no replica is at any of these places
abbrev AreFree : Replicas → List Place → Type 0
AreFree p places = AllByRecursion (λ (q : Place). p q.0 q.1 ≡ None) places

-- the replicas, and then these
abbrev joined : Replicas → Slots → Replicas
joined p [] = p
joined p (x ∷ xs) = joined (with_at p x.0.0 x.0.1 (Some x.1)) xs

free_still : (p : Replicas) (place : Place) (r : Replica) (places : List Place)
    → AllByRecursion (λ (q : Place). place_cmp place q ≡ Less) places → AreFree p places
    → AreFree (with_at p place.0 place.1 (Some r)) places
free_still p place r [] below free = tt
free_still p place r (q ∷ qs) below free = (
  ap (λ (b : Bool). cond b (Some r) (p q.0 q.1)) (differ place q below.0) ∙ free.0,
  free_still p place r qs below.1 free.1,
)

free_at_first : (places : List Place) → AreFree no_replicas places
free_at_first [] = tt
free_at_first (q ∷ qs) = (refl, free_at_first qs)

-- an op that makes a replica where there is none
makes : (bytes : List ℕ) (is_open : Bool)
    → effect (adding bytes is_open) None ≡ Some (Some (record { bytes = bytes; is_open = is_open }))
makes bytes true = refl
makes bytes false = refl

made : (p : Replicas) (b : ℕ) (x : Place × Replica) → p x.0.0 x.0.1 ≡ None
    → after_op p (making (holding_of b x)) ≡ Some (with_at p x.0.0 x.0.1 (Some x.1))
made p b x free =
    ap (λ (o : Option Replica). option_map (with_at p x.0.0 x.0.1) (effect (adding x.1.bytes x.1.is_open) o)) free
    ∙ ap (λ (o : Option (Option Replica)). option_map (with_at p x.0.0 x.0.1) o) (makes x.1.bytes x.1.is_open)

replayed-joined : ReadsBack → (p : Replicas) (b : ℕ) (slots : Slots) → AreOrdered slots → AreFree p (keys_of slots)
    → AllByRecursion IsReady (map (holding_of b) slots)
    → replayed p (texts_making (map (holding_of b) slots)) ≡ Some (joined p slots)
replayed-joined reads p b [] ordered free ready = refl
replayed-joined reads p b (x ∷ xs) ordered free ready =
    let op = making (holding_of b x) in
    let rest = texts_making (map (holding_of b) xs) in
    let next = with_at p x.0.0 x.0.1 (Some x.1) in
    ap (λ (o : Option OpValue). option_and_then (λ q. replayed q rest) (option_and_then (after_op p) o))
    (reads op ready.0.fits)
    ∙ ap (λ (o : Option Replicas). option_and_then (λ q. replayed q rest) o) (made p b x free.0)
    ∙ replayed-joined reads next b xs (others_ordered x xs ordered)
    (free_still p x.0 x.1 (keys_of xs) (first_below x xs ordered) free.1) ready.1

-- what is found among the slots, else what was there before
abbrev found_or : Option Replica → Option Replica → Option Replica
found_or (Some r) before = Some r
found_or None before = before

-- the same test, from the other side
turned : (a b : ℕ) (t : Bool) → (a == b) ≡ t → (b == a) ≡ t
turned a b true same = eq-eqb b a (sym (eqb-true a b same))
turned a b false other = false_from_ne_true (b == a)
    (λ same. true≢false (sym (eq-eqb a b (sym (eqb-true b a same))) ∙ other))

both_turned : (a b c d : ℕ) (t : Bool) → ((a == b) && (c == d)) ≡ t → ((b == a) && (d == c)) ≡ t
both_turned a b c d t is = (λ i. turned a b (a == b) refl i && turned c d (c == d) refl i) ∙ is

joined-finds : (p : Replicas) (slots : Slots) → AreOrdered slots → (q : Place)
    → joined p slots q.0 q.1 ≡ found_or (found_in slots q) (p q.0 q.1)
joined-finds p [] ordered q = refl
joined-finds p (x ∷ xs) ordered q = joined-finds next xs (others_ordered x xs ordered) q ∙ first (cases_Bool at)
  where
    next : Replicas
    next = with_at p x.0.0 x.0.1 (Some x.1)

    at : Bool
    at = (x.0.0 == q.0) && (x.0.1 == q.1)

    finds : (t : Bool) → at ≡ t → is_at (place_cmp q) x.0 ≡ t
    finds t is = ties q x.0 ∙ both_turned x.0.0 q.0 x.0.1 q.1 t is

    first : (at ≡ true) ⊎ (at ≡ false) → found_or (found_in xs q) (next q.0 q.1) ≡ found_or (found_in (x ∷ xs) q)
        (p q.0 q.1)
    first (inl same) =
        let parts = and_parts (x.0.0 == q.0) (x.0.1 == q.1) same in
        let place : x.0 ≡ q = λ i. (eqb-true x.0.0 q.0 parts.0 i, eqb-true x.0.1 q.1 parts.1 i) in
        let none : found_in xs q ≡ None = ap (λ (r : Place). found_in xs r) (sym place) ∙ unfound x.0 xs
        (first_below x xs ordered) in
        ap (λ (o : Option Replica). found_or o (next q.0 q.1)) none
        ∙ ap (λ (b : Bool). cond b (Some x.1) (p q.0 q.1)) same
        ∙ ap (λ (b : Bool). found_or (cond b (Some x.1) (found_in xs q)) (p q.0 q.1)) (sym (finds true same))
    first (inr other) =
        ap (λ (b : Bool). found_or (found_in xs q) (cond b (Some x.1) (p q.0 q.1))) other
        ∙ ap (λ (b : Bool). found_or (cond b (Some x.1) (found_in xs q)) (p q.0 q.1)) (sym (finds false other))

made_whole : ReadsBack → (b : ℕ) (memory : MemoryBackup) → IsInOrder memory
    → AllByRecursion IsReady (holdings_of b memory)
    → replayed no_replicas (texts_making (holdings_of b memory)) ≡ Some (held_in memory)
made_whole reads b memory ordered ready =
    let slots = memory.replicas in
    replayed-joined reads no_replicas b slots ordered (free_at_first (keys_of slots)) ready
    ∙ ap (λ (p : Replicas). Some p)
    (λ i n t. (joined-finds no_replicas slots ordered (n, t) ∙ only_found (found_in slots (n, t))) i)
  where
    only_found : (o : Option Replica) → found_or o None ≡ o
    only_found None = refl
    only_found (Some r) = refl

are_short : (hs : List Holding) → AllByRecursion IsReady hs → AreShort (texts_making hs)
are_short [] ready = tt
are_short (h ∷ hs) ready = (ready.0.short, are_short hs ready.1)

-- what a call made of all replicas
pub texts_shown : {E : Type 0} → ReadsBack → (memory : MemoryBackup) (first : List ℕ) (hs : List Holding)
    (r : Result (Vec (Vec ℕ Global) Global) E) → hs ≡ holdings_of 0 memory → IsInOrder memory
    → IfOk r (λ texts. texts_of texts.items ≡ first ∷ texts_making hs) → OnOk r (AllByRecursion IsReady hs)
    → IfOk r (λ texts. shown (texts_of texts.items) ≡ Some (held_in memory))
texts_shown reads memory first hs (Ok texts) all ordered are ready =
    ap (λ (l : List (List ℕ)). shown l) (are ∙ ap (λ (l : List Holding). first ∷ texts_making l) all)
    ∙ made_whole reads 0 memory ordered (subst (λ (l : List Holding). AllByRecursion IsReady l) all ready)
texts_shown reads memory first hs (Err e) all ordered are ready = tt

pub texts_version : {E : Type 0} → (first : List ℕ) (hs : List Holding) (r : Result (Vec (Vec ℕ Global) Global) E)
    → HasVersion (first ∷ []) → IfOk r (λ texts. texts_of texts.items ≡ first ∷ texts_making hs)
    → IfOk r (λ texts. HasVersion (texts_of texts.items))
texts_version first hs (Ok texts) has are =
    subst (λ (l : List (List ℕ)). HasVersion l) (sym are) (version_first first (texts_making hs) has)
texts_version first hs (Err e) has are = tt

pub texts_short : {E : Type 0} → (first : List ℕ) (hs : List Holding) (r : Result (Vec (Vec ℕ Global) Global) E)
    → IsShort first
    → IfOk r (λ texts. texts_of texts.items ≡ first ∷ texts_making hs) → OnOk r (AllByRecursion IsReady hs)
    → IfOk r (λ texts. AreShort (texts_of texts.items))
texts_short first hs (Ok texts) short are ready =
    subst (λ (l : List (List ℕ)). AreShort l) (sym are) (short, are_short hs ready)
texts_short first hs (Err e) short are ready = tt
