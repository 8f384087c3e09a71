-- One place of what is held changed, and an op taken.
use Rattle.std.proofs.Common.{◌≡◌, ℕ, ◌⊎◌, inl, inr, Bool, true, false, cond, List, ◌++◌, Some, refl, sym, ap, ◌∙◌}
use Rattle.std.proofs.Common.{arith}
use Rattle.std.specs.Prelude.{Option, None, IsSome, ◌==◌, ◌&&◌}
use Rattle.std.specs.Option.{option_map}
use Rattle.std.proofs.lemmas.Bool.Decides.{nat_tests}
use Rattle.std.proofs.lemmas.Option.{same_Some}
use Rattle.entry.specs.declared.entry.Entry.{Entry}
use Rattle.log_laws.specs.Text.{Text, Replica, length_of}
use Rattle.log_laws.specs.Shown.{Holds, Shown, Act, Open, Extend, Close, Seal, Free, Op, On, effect, with_replica}
use Rattle.log_laws.specs.Shown.{taken}

-- two places are one or not
place_tells : (b s c t : ℕ)
    → ((((b == c) && (s == t)) ≡ true) × (b ≡ c) × (s ≡ t))
    ⊎ ((((b == c) && (s == t)) ≡ false) × ((b ≡ c) × (s ≡ t) → ⊥))
place_tells b s c t = grind (arith, nat_tests)

module _ (h : Holds) (b s : ℕ) (x : Option Replica) where
  pub changed : with_replica h b s x b s ≡ x
  changed = elim (place_tells b s b s) [
    | inl e ↦ (let is = e.0 in rw is refl)
    | inr e ↦ absurd (e.1 (refl, refl))
  ]

  pub unchanged : (c t : ℕ) → ((b ≡ c) × (s ≡ t) → ⊥) → with_replica h b s x c t ≡ h c t
  unchanged c t other = elim (place_tells b s c t) [
    | inl e ↦ absurd (other (e.1, e.2))
    | inr e ↦ (let is = e.0 in rw is refl)
  ]

  -- each replica is the changed one or one from before
  pub either : (c t : ℕ) (r : Replica) → with_replica h b s x c t ≡ Some r
      → ((b ≡ c) × (s ≡ t) × (x ≡ Some r)) ⊎ (((b ≡ c) × (s ≡ t) → ⊥) × (h c t ≡ Some r))
  either c t r e = elim (place_tells b s c t) [
    | inl w ↦ (let is = w.0 in inl (w.1, w.2, sym (rw is refl) ∙ e))
    | inr w ↦ (let is = w.0 in inr (w.1, sym (rw is refl) ∙ e))
  ]

-- with a replica put there what is held stays held, there or elsewhere
pub still_held : (h : Holds) (b s : ℕ) (r : Replica) (c t : ℕ) → IsSome (h c t)
    → IsSome (with_replica h b s (Some r) c t)
still_held h b s r c t some = elim (place_tells b s c t) as (λ _. IsSome (with_replica h b s (Some r) c t)) [
  | inl e ↦ (let is = e.0 in rw is refl)
  | inr e ↦ (let is = e.0 in rw is some)
]

-- ---- an op

-- What an op on a replica makes of what is shown.
pub record IsTaken (p : Shown) (b s : ℕ) (act : Act) (q : Shown) : Type 0 where
  pub x : Option Replica
  pub given : effect act (p.holds b s) ≡ Some x
  pub same : q ≡ record { holds = with_replica p.holds b s x; least = p.least }

pub is_taken : (p q : Shown) (o : Op) (b s : ℕ) (act : Act) → o ≡ On b s act → taken p o ≡ Some q
    → IsTaken p b s act q
is_taken p q o b s act is took = go (effect act (p.holds b s)) refl (ap (taken p) (sym is) ∙ took) where
  go : (y : Option (Option Replica)) → effect act (p.holds b s) ≡ y
      → option_map (λ (x : Option Replica). record { holds = with_replica p.holds b s x; least = p.least }) y ≡ Some q
      → IsTaken p b s act q
  go None is e = absurd (cc)
  go (Some x) is e = record {
    x = x;
    given = is;
    same = sym (same_Some (record { holds = with_replica p.holds b s x; least = p.least }) q e);
  }

-- ---- each act

-- an Open or a Seal
pub opened : (text : Text) (o x : Option Replica) → effect (Open text) o ≡ Some x
    → (o ≡ None) × (x ≡ Some (record { text = text; is_open = true }))
opened text None x e = (refl, sym (same_Some _ x e))
opened text (Some r) x e = absurd (cc)

pub sealed : (text : Text) (o x : Option Replica) → effect (Seal text) o ≡ Some x
    → (o ≡ None) × (x ≡ Some (record { text = text; is_open = false }))
sealed text None x e = (refl, sym (same_Some _ x e))
sealed text (Some r) x e = absurd (cc)

pub freed : (o x : Option Replica) → effect Free o ≡ Some x → x ≡ None
freed None x e = absurd (cc)
freed (Some r) x e = sym (same_Some None x e)

-- What was there before a Close or an Extend.
pub record WasOpen (o x : Option Replica) (text : Replica → Text) (is_open : Bool) : Type 0 where
  pub r : Replica
  pub had : o ≡ Some r
  pub was : r.is_open ≡ true
  pub now : x ≡ Some (record { text = text r; is_open = is_open })

pub closed : (o x : Option Replica) → effect Close o ≡ Some x → WasOpen o x (λ r. r.text) false
closed None x e = absurd (cc)
closed (Some r) x e = go r.is_open refl e where
  go : (t : Bool) → r.is_open ≡ t
      → (cond t (Some (Some (record { text = r.text; is_open = false }))) None) ≡ Some x
      → WasOpen (Some r) x (λ q. q.text) false
  go true is e = record { r = r; had = refl; was = is; now = sym (same_Some _ x e) }
  go false is e = absurd (cc)

-- What was there before an Extend, and its length.
pub record WasLonger (o x : Option Replica) (at : ℕ) (more : List Entry) : Type 0 where
  pub was : WasOpen o x (λ r. record (r.text) { entries = r.text.entries ++ more }) true
  pub size : at ≡ length_of was.r.text

pub extended : (at : ℕ) (more : List Entry) (o x : Option Replica) → effect (Extend at more) o ≡ Some x
    → WasLonger o x at more
extended at more None x e = absurd (cc)
extended at more (Some r) x e = go r.is_open refl (at == length_of r.text) refl e where
  go : (t : Bool) → r.is_open ≡ t → (u : Bool) → (at == length_of r.text) ≡ u
      → (cond (t && u) (Some (Some (record {
        text = record (r.text) { entries = r.text.entries ++ more };
        is_open = true;
      }))) None) ≡ Some x → WasLonger (Some r) x at more
  go true is true len e = record {
    was = record { r = r; had = refl; was = is; now = sym (same_Some _ x e) };
    size = (let n = length_of r.text in grind (arith, nat_tests));
  }
  go true is false len e = absurd (cc)
  go false is u len e = absurd (cc)
