-- Each home of the newest opened head of a kept log holds it.
use Rattle.std.proofs.Common.{◌≡◌, ℕ, ◌<◌, inl, inr, true, List, [], ◌∷◌, length, refl, sym, ap}
use Rattle.std.proofs.Common.{subst, ◌∙◌, arith}
use Rattle.std.specs.Prelude.{IsSome, ◌==◌}
use Rattle.std.proofs.lemmas.Bool.Decides.{nat_tests}
use Rattle.replica.specs.Picture.{Shown}
use Rattle.log_laws.specs.Ids.{has}
use Rattle.log_laws.specs.Text.{Text, Replica}
use Rattle.log_laws.specs.Shown.{Shown as ModelShown}
use Rattle.log_laws.specs.Data.{FailData}
use Rattle.log_laws.specs.Log.{Texts, IsReplica, IsLogHeld}
use Rattle.log_bytes.specs.Spelled.{IsSpelled}

-- some backup took what so many took
pub taker : (bs : List ℕ) → 0 < length bs → (b : ℕ) × (has bs b ≡ true)
taker [] some = absurd (omega arith)
taker (b ∷ bs) some = (b, first b bs) where
  first : (x : ℕ) (xs : List ℕ) → has (x ∷ xs) x ≡ true
  first x xs = let same : (x == x) ≡ true = grind (arith, nat_tests) in rw same refl

module _ (master : ℕ) (d : FailData) (texts : Texts) (shown : Shown) (p : ModelShown)
    (spelled : IsSpelled master shown p) (held : IsLogHeld d texts p) where
  abbrev id : ℕ
  id = d.head.start.id

  -- a replica of the head in force has its opening
  pub head_bears : (b : ℕ) (r : Replica) → IsReplica d texts p.least b id r → IsSome r.text.opening
  head_bears b r (inl is) = subst (λ (t : Text). IsSome t.opening) (sym is.1.text) refl
  head_bears b r (inr (inl new)) =
      let newer = held.logged.newer new.0 new.1 in let same = new.2 in absurd (omega arith)
  head_bears b r (inr (inr is)) =
      subst IsSome (sym (is.opening ∙ ap (λ (t : Text). t.opening) held.logged.text)) refl
