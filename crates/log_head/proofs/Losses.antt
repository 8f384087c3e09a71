-- A head from which a lost replica is removed.
use Rattle.std.proofs.Common.{ℕ, zero, suc, ◌≤◌, ◌<◌, List, [], ◌∷◌, length, drop, arith}
use Rattle.std.specs.Prelude.{Option, Some, None, IfSome}
use Rattle.std.specs.List.{AllByRecursion, remove}
use Rattle.std.proofs.lemmas.List.Edits.{length-remove}
use Rattle.log_head.specs.Head.{HeadValue, IsHeadValue}
use Rattle.log_head.specs.Steps.{lost}

all_behind : (P : ℕ → Type 0) (ns : List ℕ) (j : ℕ) → AllByRecursion P ns → AllByRecursion P (drop j ns)
all_behind P ns zero all = all
all_behind P [] (suc j) all = tt
all_behind P (n ∷ ns) (suc j) all = all_behind P ns j all.1

pub all_left : (P : ℕ → Type 0) (ns : List ℕ) (j : ℕ) → AllByRecursion P ns → AllByRecursion P (remove ns j)
all_left P [] zero all = tt
all_left P [] (suc j) all = tt
all_left P (n ∷ ns) zero all = all_behind P ns zero all.1
all_left P (n ∷ ns) (suc j) all = (all.0, all_left P ns j all.1)

pub lost_valid : (h : HeadValue) (replica : Option ℕ) → IfSome replica (λ j. j < length h.taken) → IsHeadValue h
    → IsHeadValue (lost h replica)
lost_valid h None within valid = record {
  segment = valid.segment;
  limit = valid.limit;
  units = valid.units;
  opened = valid.opened;
  few = valid.few;
  taken = valid.taken;
  roll = tt;
}
lost_valid h (Some j) within valid = record {
  segment = valid.segment;
  limit = valid.limit;
  units = valid.units;
  opened = (let less = length-remove h.taken j within in let few = valid.opened in omega arith);
  few = valid.few;
  taken = all_left (λ n. n ≤ length h.units) h.taken j valid.taken;
  roll = tt;
}
