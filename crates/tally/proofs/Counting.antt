-- What is true during the walk that counts the bytes of kept tombstones.
use Rattle.std.proofs.Common.{◌≡◌, ℕ, ◌+◌, ◌≤◌, Bool, true, false, List, [], ◌∷◌, ◌++◌, length, sym, ap, subst, arith}
use Rattle.std.proofs.Common.{if◌then◌else◌}
use Rattle.entry.specs.declared.entry.Entry.{Entry}
use Rattle.entry.specs.declared.entry.Entry.TheVariants as entry
use Rattle.entry.specs.Format.{spelling}
use Rattle.entry.specs.Text.{text_of}
use Rattle.compactor.specs.Kept.{has_id}
use Rattle.compactor.proofs.Cutting.{IsCut, IsCut-start, cut_next, cut_end, cut_length}
use Rattle.compactor.proofs.Walking.{IsHere}
use Rattle.tally.specs.Live.{stone_one, stone_bytes}

-- the bytes of the kept tombstones before an offset are counted
pub record IsCounted (ids : List ℕ) (es : List Entry) (at len : ℕ) : Type 0 where
  pub before : List Entry
  pub rest : List Entry
  pub cut : IsCut es before rest at
  pub sum : len + stone_bytes ids rest ≡ stone_bytes ids es

pub counted_none : (ids : List ℕ) (es : List Entry) → IsCounted ids es 0 0
counted_none ids es = record { before = []; rest = es; cut = IsCut-start es; sum = omega arith }

pub cut_behind : (es before later : List Entry) (e : Entry) (at n : ℕ) → IsCut es before (e ∷ later) at
    → n ≡ length (spelling e) → IsCut es (before ++ e ∷ []) later (at + n)
cut_behind es before later e at n cut size =
    subst (λ (m : ℕ). IsCut es (before ++ e ∷ []) later (at + m)) (sym size) (cut_next es before later e at cut)

pub counted_next : (ids : List ℕ) (es : List Entry) (at len : ℕ) (s : IsCounted ids es at len) (e : Entry) (n : ℕ)
    → IsHere es s.before s.rest at e n → IsCounted ids es (at + n) (len + stone_one ids e)
counted_next ids es at len s e n here = record {
  before = s.before ++ e ∷ [];
  rest = here.later;
  cut = cut_behind es s.before here.later e at n here.cut here.size;
  sum = omega (arith, s.sum, ap (stone_bytes ids) here.is);
}

pub counted_all : (ids : List ℕ) (es : List Entry) (at len : ℕ) → IsCounted ids es at len → length (text_of es) ≤ at
    → len ≡ stone_bytes ids es
counted_all ids es at len s past =
    let none : stone_bytes ids s.rest ≡ 0 = ap (stone_bytes ids) (cut_end es s.before s.rest at s.cut past) in
    omega (arith, s.sum, none)

pub one_at_most : (ids : List ℕ) (e : Entry) → stone_one ids e ≤ length (spelling e)
one_at_most ids (entry.Header h) = omega arith
one_at_most ids (entry.Digest l) = omega arith
one_at_most ids (entry.Safe v) = omega arith
one_at_most ids (entry.Object o) = omega arith
one_at_most ids (entry.Tombstone t) = go (has_id ids t.segment) (length (spelling (entry.Tombstone t)))
  where
    go : (b : Bool) (n : ℕ) → (if b then n else 0) ≤ n
    go true n = omega arith
    go false n = omega arith

-- ---- the walk

pub record IsWalked (ids : List ℕ) (es : List Entry) (text : List ℕ) (at len : ℕ) : Type 0 where
  pub counted : IsCounted ids es at len
  pub low : len ≤ at
  pub within : at ≤ length text

pub walked_next : (ids : List ℕ) (es : List Entry) (text : List ℕ) (at len : ℕ) (s : IsCounted ids es at len)
    (e : Entry) (n stone : ℕ) → len ≤ at → text ≡ text_of es → IsHere es s.before s.rest at e n
    → stone ≡ stone_one ids e → IsWalked ids es text (at + n) (len + stone)
walked_next ids es text at len s e n stone low is here one = record {
  counted = subst (λ (m : ℕ). IsCounted ids es (at + n) (len + m)) (sym one) (counted_next ids es at len s e n here);
  low = omega (arith, low, one, one_at_most ids e, here.size);
  within = omega (
    arith,
    cut_length es (s.before ++ e ∷ []) here.later (at + n)
        (cut_behind es s.before here.later e at n here.cut here.size),
    ap length is,
  );
}
