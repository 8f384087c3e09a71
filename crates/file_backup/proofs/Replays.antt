-- Replays, one op or one text at a time.
use Rattle.std.proofs.Common.{◌≡◌, inl, inr, ℕ, ◌+◌, ◌<◌, Bool, false, cond, List, [], ◌∷◌, ◌++◌, length, take, drop}
use Rattle.std.proofs.Common.{Option, Some, None, Result, Ok, Err, Vec, refl, sym, ◌∙◌, ap, subst, arith}
use Rattle.std.proofs.Common.{take-append-drop, get_or}
use Rattle.std.specs.Prelude.{◌==◌, ◌&&◌, IsSome}
use Rattle.std.specs.declared.alloc.Global.{Global}
use Rattle.std.proofs.lemmas.List.{length-map, length-take, map_more, take-map}
use Rattle.std.proofs.lemmas.Bool.{cases_Bool, eqb-true, and_parts}
use Rattle.std.proofs.lemmas.Option.{none-some}
use Rattle.std.specs.Option.{option_and_then, option_map}
use Rattle.replica.specs.Op.{OpValue}
use Rattle.replica.specs.Picture.{Replica}
use Rattle.replica.specs.Take.{effect}
use Rattle.op_text.specs.OpText.{op_in, op_text}
use Rattle.replica.specs.declared.op.TakeFault.{TakeFault}
use Rattle.replica.specs.declared.op.TakeFault.TheVariants as take_fault
use Rattle.backup.specs.Shelf.{ActsAt, KeepsOthers, replica_at}
use Rattle.backup.specs.declared.memory.MemoryBackup.{MemoryBackup}
use Rattle.take_journal.specs.Frames.{texts_of}
use Rattle.file_backup.specs.Replay.{IsFirstWrong, Replicas, TakesText, after_op, after_text, held_in, no_replicas}
use Rattle.file_backup.specs.Replay.{replayed, shown, with_at}

-- ---- one op

-- whoever changed this replica alone has the replicas with the new one
placed : (old new : Replicas) (m s : ℕ) → ((n t : ℕ) → ((m == n) && (s == t)) ≡ false → new n t ≡ old n t)
    → with_at old m s (new m s) ≡ new
placed old new m s others = λ i n t. at n t i
  where
    at : (n t : ℕ) → with_at old m s (new m s) n t ≡ new n t
    at n t = elim (cases_Bool ((m == n) && (s == t))) [
      | inl same ↦
          let both = and_parts (m == n) (s == t) same in
          ap (λ (b : Bool). cond b (new m s) (old n t)) same
          ∙ (λ j. new (eqb-true m n both.0 j) (eqb-true s t both.1 j))
      | inr other ↦ ap (λ (b : Bool). cond b (new m s) (old n t)) other ∙ sym (others n t other)
    ]

pub after_op-done : (old new : Replicas) (op : OpValue)
    → effect op.act (old op.master op.segment) ≡ Some (new op.master op.segment)
    → ((n t : ℕ) → ((op.master == n) && (op.segment == t)) ≡ false → new n t ≡ old n t) → after_op old op ≡ Some new
after_op-done old new op does others =
    ap (λ (o : Option (Option Replica)). option_map (with_at old op.master op.segment) o) does
    ∙ ap (λ (p : Replicas). Some p) (placed old new op.master op.segment others)

pub after_op-wrong : (old : Replicas) (op : OpValue) → effect op.act (old op.master op.segment) ≡ None
    → after_op old op ≡ None
after_op-wrong old op wrong =
    ap (λ (o : Option (Option Replica)). option_map (with_at old op.master op.segment) o) wrong

-- ---- several texts

append_next : (xs ys : List (List ℕ))
    → ((q : Replicas) → replayed q (xs ++ ys) ≡ option_and_then (λ r. replayed r ys) (replayed q xs))
    → (o : Option Replicas) → option_and_then (λ q. replayed q (xs ++ ys)) o
    ≡ option_and_then (λ q. replayed q ys) (option_and_then (λ q. replayed q xs) o)
append_next xs ys each None = refl
append_next xs ys each (Some q) = each q

replayed-append : (p : Replicas) (xs ys : List (List ℕ))
    → replayed p (xs ++ ys) ≡ option_and_then (λ q. replayed q ys) (replayed p xs)
replayed-append p [] ys = refl
replayed-append p (x ∷ xs) ys = append_next xs ys (λ q. replayed-append q xs ys) (after_text p x)

only : (o : Option Replicas) → option_and_then (λ q. Some q) o ≡ o
only None = refl
only (Some p) = refl

-- one text more
pub replayed-push : (p q : Replicas) (texts : List (List ℕ)) (text : List ℕ) → replayed p texts ≡ Some q
    → replayed p (texts ++ text ∷ []) ≡ after_text q text
replayed-push p q texts text is =
    replayed-append p texts (text ∷ [])
    ∙ ap (λ (o : Option Replicas). option_and_then (λ r. replayed r (text ∷ [])) o) is
    ∙ only (after_text q text)

-- ---- what texts show

pub shown-push : (q : Replicas) (texts : List (List ℕ)) (text : List ℕ) → shown texts ≡ Some q
    → shown (texts ++ text ∷ []) ≡ after_text q text
shown-push q [] text is = absurd (none-some q is)
shown-push q (first ∷ texts) text is = replayed-push no_replicas q texts text is

-- one op more
pub shown-op : (q r : Replicas) (texts : List (List ℕ)) (op : OpValue) → shown texts ≡ Some q
    → op_in (op_text op) ≡ Some op → after_op q op ≡ Some r → shown (texts ++ op_text op ∷ []) ≡ Some r
shown-op q r texts op is reads does =
    shown-push q texts (op_text op) is
    ∙ ap (λ (o : Option OpValue). option_and_then (after_op q) o) reads
    ∙ does

none_stays : (front rest : List (List ℕ)) → 0 < length front → shown front ≡ None → shown (front ++ rest) ≡ None
none_stays [] rest more none = absurd (omega (arith, more))
none_stays (x ∷ xs) rest more none =
    replayed-append no_replicas xs rest ∙ ap (λ (o : Option Replicas). option_and_then (λ q. replayed q rest) o) none

-- a front that doesn't fit spoils the whole
pub wrong_whole : (texts : List (List ℕ)) (i : ℕ) → IsFirstWrong texts i → (p : Replicas) → shown texts ≡ Some p → ⊥
wrong_whole texts i wrong p is =
    let front = take (i + 1) texts in
    let size : 0 < length front = omega (arith, wrong.within, length-take (i + 1) texts) in
    let none : shown texts ≡ None =
    ap (λ (l : List (List ℕ)). shown l) (sym (take-append-drop (i + 1) texts))
    ∙ none_stays front (drop (i + 1) texts) size wrong.here in
    none-some p (sym none ∙ is)

-- ---- a backup in memory

-- the replicas after what a backup in memory took
pub memory_takes : (old new : MemoryBackup) (op : OpValue) (text : List ℕ) (result : Result Unit TakeFault)
    → op_in text ≡ Some op → ActsAt op.act op.master op.segment old result new
    → KeepsOthers op.master op.segment old new → TakesText (held_in old) text result (held_in new)
memory_takes old new op text (Ok u) is acts others =
    ap (λ (o : Option OpValue). option_and_then (after_op (held_in old)) o) is
    ∙ after_op-done (held_in old) (held_in new) op acts others
memory_takes old new op text (Err take_fault.NoMemory) is acts others = tt
memory_takes old new op text (Err take_fault.Wrong) is acts others =
    ap (λ (o : Option OpValue). option_and_then (after_op (held_in old)) o) is
    ∙ after_op-wrong (held_in old) op acts.0
memory_takes old new op text (Err take_fault.Fault) is acts others = absurd acts
memory_takes old new op text (Err take_fault.Spent) is acts others = absurd acts

pub no_text : (old : Replicas) (text : List ℕ) → op_in text ≡ None → after_text old text ≡ None
no_text old text none = ap (λ (o : Option OpValue). option_and_then (after_op old) o) none

-- what a backup in memory holds as long as nothing is done
pub unmoved : (old new : MemoryBackup) (op : OpValue)
    → replica_at new op.master op.segment ≡ replica_at old op.master op.segment
    → KeepsOthers op.master op.segment old new → held_in new ≡ held_in old
unmoved old new op here others = λ i n t. at n t i
  where
    at : (n t : ℕ) → replica_at new n t ≡ replica_at old n t
    at n t = elim (cases_Bool ((op.master == n) && (op.segment == t))) [
      | inl same ↦
          let both = and_parts (op.master == n) (op.segment == t) same in
          subst (λ (q : ℕ × ℕ). replica_at new q.0 q.1 ≡ replica_at old q.0 q.1)
          (λ i. (eqb-true op.master n both.0 i, eqb-true op.segment t both.1 i)) here
      | inr other ↦ others n t other
    ]

-- ---- a loop over texts

-- one text more
texts_more : (texts : List (Vec ℕ Global)) (i : ℕ) (text : Vec ℕ Global) → i < length texts → text ≡ get_or texts i text
    → texts_of (take (i + 1) texts) ≡ texts_of (take i texts) ++ text.items ∷ []
texts_more texts i text within is =
    map_more (λ (t : Vec ℕ Global). t.items) texts i text within
    ∙ ap (λ (t : Vec ℕ Global). texts_of (take i texts) ++ t.items ∷ []) (sym is)

pub shown_first : (texts : List (Vec ℕ Global)) (memory : MemoryBackup) → 0 < length texts
    → ((m s : ℕ) → replica_at memory m s ≡ None) → shown (texts_of (take 1 texts)) ≡ Some (held_in memory)
shown_first [] memory more none = absurd (omega (arith, more))
shown_first (x ∷ xs) memory more none = λ i. Some (λ m s. sym (none m s) i)

pub shown_more : (texts : List (Vec ℕ Global)) (i : ℕ) (text : Vec ℕ Global) (p : Replicas) → i < length texts
    → text ≡ get_or texts i text → shown (texts_of (take i texts)) ≡ Some p
    → shown (texts_of (take (i + 1) texts)) ≡ after_text p text.items
shown_more texts i text p within is so_far =
    ap (λ (l : List (List ℕ)). shown l) (texts_more texts i text within is)
    ∙ shown-push p (texts_of (take i texts)) text.items so_far

pub first_wrong : (texts : List (Vec ℕ Global)) (i : ℕ) (text : Vec ℕ Global) (p : Replicas) → i < length texts
    → text ≡ get_or texts i text → shown (texts_of (take i texts)) ≡ Some p → after_text p text.items ≡ None
    → IsFirstWrong (texts_of texts) i
first_wrong texts i text p within is so_far wrong =
    let f : Vec ℕ Global → List ℕ = λ t. t.items in
    let many : length (texts_of texts) ≡ length texts = length-map texts f in
    record {
      within = subst (λ (n : ℕ). i < n) (sym many) within;
      before = subst (λ (o : Option Replicas). IsSome o)
          (sym (ap (λ (l : List (List ℕ)). shown l) (take-map f i texts) ∙ so_far)) refl;
      here = ap (λ (l : List (List ℕ)). shown l) (take-map f (i + 1) texts)
          ∙ shown_more texts i text p within is so_far ∙ wrong;
    }
