-- At each stop of each run the log is kept, and the master knows what the backups that haven't failed hold.
use Rattle.std.proofs.Common.{◌≡◌, ℕ, ◌<◌, inl, inr, List, ◌∷◌, length, refl, sym, ap}
use Rattle.std.proofs.Common.{subst, ◌∙◌}
use Rattle.log_laws.specs.Shown.{Shown, Act, Op, On, Raise}
use Rattle.log_laws.specs.Data.{Closes, FailConfig, FailData, new_of, is_failing}
use Rattle.log_laws.specs.Steps.{with_taken, with_count}
use Rattle.log_laws.specs.Runs.{IsThere, IsOn}
use Rattle.log_laws.specs.Runs.{IsFaulted, GoesOn, NextGoesOn}
use Rattle.log_laws.proofs.Pictures.{is_taken, unchanged}

-- ---- ops

-- what an op leaves that keeps the mode
same_mode : (d e : FailData) (counts : ℕ → ℕ) (shut : List ℕ) (took : ℕ → List ℕ)
    → e ≡ record d { counts = counts; shut = shut; took = took } → GoesOn d e
same_mode d e counts shut took is = record {
  counts = counts;
  shut = shut;
  took = took;
  mode = d.mode;
  new = refl;
  failing = refl;
  gives = is;
}

pub next_goes_on : NextGoesOn
next_goes_on d e texts p o (inl is) = same_mode d e (with_count d.counts is.b is.to) d.shut d.took is.gives
next_goes_on d e texts p o (inr (inl is)) =
    same_mode d e d.counts d.shut (with_taken d.took is.n.id is.b) is.gives
next_goes_on d e texts p o (inr (inr (inl is))) =
    same_mode d e (with_count d.counts is.b (length d.head.units)) d.shut (with_taken d.took d.head.start.id is.b)
    is.gives
next_goes_on d e texts p o (inr (inr (inr (inl is)))) = record {
  counts = d.counts;
  shut = d.shut;
  took = d.took;
  mode = Closes is.n;
  new = sym (ap new_of is.mode);
  failing = sym (ap is_failing is.mode);
  gives = is.gives;
}
next_goes_on d e texts p o (inr (inr (inr (inr (inl is))))) =
    same_mode d e d.counts (is.b ∷ d.shut) d.took is.gives
next_goes_on d e texts p o (inr (inr (inr (inr (inr (inl is)))))) =
    same_mode d e d.counts d.shut (with_taken d.took is.0.s is.0.b) is.0.gives
next_goes_on d e texts p o (inr (inr (inr (inr (inr (inr (inl is))))))) =
    same_mode d e d.counts d.shut (with_taken d.took is.s is.b) is.gives
next_goes_on d e texts p o (inr (inr (inr (inr (inr (inr (inr is))))))) =
    same_mode d e d.counts d.shut d.took is.gives

pub there : (c : FailConfig) (o : Op) (b s : ℕ) (act : Act) → o ≡ On b s act → IsThere c o → b < c.backups
there c o b s act is at = subst (IsThere c) is at

-- an op on a backup changes what it holds alone
pub elsewhere : (p q : Shown) (o : Op) (b : ℕ) → IsOn b o → IsFaulted p o q → (c s : ℕ) → (c ≡ b → ⊥)
    → q.holds c s ≡ p.holds c s
elsewhere p q o b on (inl same) c s other = ap (λ (x : Shown). x.holds c s) same
elsewhere p q (Raise id) b on (inr took) c s other = absurd on
elsewhere p q (On x t act) b on (inr took) c s other =
    let is = is_taken p q (On x t act) x t act refl took in
    ap (λ (y : Shown). y.holds c s) is.same ∙ unchanged p.holds x t is.x c s (λ both. other (sym both.0 ∙ on))
