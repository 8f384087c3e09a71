-- How many seglets the objects of a list need, counted one object after another.
use Rattle.std.proofs.Common.{◌≡◌, ◌<◌, ◌≤◌, ◌+◌, ℕ, List, [], ◌∷◌, length, sym, ap, subst, ◌∙◌, arith}
use Rattle.entry.specs.declared.entry.Entry.TheVariants as entry
use Rattle.entry.specs.declared.entry.Object.{Object}
use Rattle.entry.specs.Format.{spelling}
use Rattle.entry.proofs.TextLemmas.{length_first}
use Rattle.packing.specs.declared.new_log.NewLog.{NewLog}
use Rattle.packing.specs.Packing.{IsSmall, empty_log, most_ids, packed, seglets_at, with_object}
use Rattle.packing.proofs.Packed.{closed_grows, loads_from, loads_since}
use Rattle.driving.specs.master_core.master_state.declared.config.Config.{Config}
use Rattle.driving.specs.master_core.master_state.Config.{sizes_of}
use Rattle.replay.specs.Needs.{length_of, lengths_of, needed_for, IsNeeded, NoneIsEnough}

-- So far as the count has come: with the objects that are left, the log becomes what all of them make of it.
pub record IsOnTheWay (c : Config) (os left : List Object) (l : NewLog) : Type 0 where
  pub leads : packed (sizes_of c) l (lengths_of left) ≡ packed (sizes_of c) (empty_log (sizes_of c)) (lengths_of os)
  pub small : IsSmall (sizes_of c) l

-- the bytes of an object are those of its spelling
spelled : (o : Object) (n : ℕ) → n ≡ length (spelling (entry.Object o)) → n ≡ length_of o
spelled o n is = let all = length_first (entry.Object o) [] in omega arith

module _ (c : Config) (os left rest : List Object) (l : NewLog) (o : Object) (n : ℕ) (way : IsOnTheWay c os left l)
    (first : left ≡ o ∷ rest) (len : n ≡ length (spelling (entry.Object o))) where
  leads_on : packed (sizes_of c) (with_object (sizes_of c) l n) (lengths_of rest)
      ≡ packed (sizes_of c) (empty_log (sizes_of c)) (lengths_of os)
  leads_on = ap (λ (m : ℕ). packed (sizes_of c) (with_object (sizes_of c) l m) (lengths_of rest)) (spelled o n len)
      ∙ ap (λ (ps : List Object). packed (sizes_of c) l (lengths_of ps)) (sym first)
      ∙ way.leads

  pub next_on_the_way : (next : NewLog) → next ≡ with_object (sizes_of c) l n → IsSmall (sizes_of c) next
      → IsOnTheWay c os rest next
  next_on_the_way next is small = record {
    leads = ap (λ (x : NewLog). packed (sizes_of c) x (lengths_of rest)) is ∙ leads_on;
    small = small;
  }

  -- where the digest has too few places for the next head, it has too few for all
  pub none_on_the_way : most_ids (sizes_of c) < (with_object (sizes_of c) l n).closed + 2 → NoneIsEnough c os
  none_on_the_way over = λ seglets can.
      let grows = closed_grows (sizes_of c) (lengths_of rest) (with_object (sizes_of c) l n) in
      let same = ap (λ (x : NewLog). x.closed) leads_on in
      let places = (loads_since (sizes_of c) seglets (lengths_of os) can).0 in
      absurd (omega (arith, over))

-- ---- all objects

module _ (c : Config) (os left : List Object) (l : NewLog) (way : IsOnTheWay c os left l) (end : left ≡ []) where
  all_packed : l ≡ packed (sizes_of c) (empty_log (sizes_of c)) (lengths_of os)
  all_packed = ap (λ (ps : List Object). packed (sizes_of c) l (lengths_of ps)) (sym end) ∙ way.leads

  pub needed_is : (n : ℕ) → n ≡ seglets_at (sizes_of c) l → n ≡ needed_for c os
  needed_is n is = is ∙ ap (seglets_at (sizes_of c)) all_packed

  pub is_needed : (n : ℕ) → n ≡ seglets_at (sizes_of c) l → IsNeeded c os n
  is_needed n is = record {
    enough = λ seglets le. loads_from (sizes_of c) seglets (lengths_of os)
        (subst (λ (x : NewLog). x.closed + 2 ≤ most_ids (sizes_of c)) all_packed way.small.places)
        (subst (λ (m : ℕ). m ≤ seglets) (needed_is n is) le);
    least = λ seglets can. subst (λ (m : ℕ). m ≤ seglets) (sym (needed_is n is))
        (loads_since (sizes_of c) seglets (lengths_of os) can).1;
  }
