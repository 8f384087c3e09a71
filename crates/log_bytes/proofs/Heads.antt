-- The texts of heads stay segments.
use Rattle.std.proofs.Common.{append-nil, ◌≡◌, ℕ, ◌⊎◌, inl, inr, List, [], length, Some, refl, sym, ap, subst, ◌∙◌}
use Rattle.std.specs.Prelude.{None}
use Rattle.std.proofs.lemmas.Option.{same_Some}
use Rattle.entry.specs.Bag.{IsAmong}
use Rattle.log_laws.specs.Heads.{Start}
use Rattle.log_laws.specs.Shown.{Shown, Op}
use Rattle.log_laws.specs.Data.{FailData, Mode, Calm, Rolls, Mends, Opens, Closes, Repairs, front, bare}
use Rattle.log_laws.specs.Data.{IsNew, new_of}
use Rattle.log_laws.specs.Log.{Texts}
use Rattle.entry.specs.declared.entry.Entry.{Entry}
use Rattle.versioned_map.specs.Versioned.{State}
use Rattle.log_laws.specs.Data.{opening_for, front_entries}
use Rattle.log_laws.specs.Steps.{adopted, rolling, id_taken, ended, failing, new_heads, mended}
use Rattle.log_bytes.specs.Text.{IsWholeText}
use Rattle.log_bytes.specs.Segments.{HeadsAreSegments, IsHeldOp, RollingHasSegments}
use Rattle.log_bytes.specs.Segments.{EndedHasSegments, OpHasSegments, OthersHaveSegments}

module _ (master : ℕ) (d : FailData) (heads : HeadsAreSegments master d) where
  -- a master with the same head whose new heads are among these
  same_head : (e : FailData) → e.head ≡ d.head → ((n : Start) → IsNew e n → IsNew d n) → HeadsAreSegments master e
  same_head e same new = record {
    head = subst (λ h. IsWholeText master h.start.id (front h (length h.units))) (sym same) heads.head;
    new = λ n is. heads.new n (new n is);
  }

  -- one that an op leads to
  op_heads : (e : FailData) (texts : Texts) (p : Shown) (o : Op) → IsHeldOp d texts p o e → HeadsAreSegments master e
  op_heads e texts p o (inl is) = subst (HeadsAreSegments master) (sym is.gives) (same_head _ refl (λ n new. new))
  op_heads e texts p o (inr (inl is)) = subst (HeadsAreSegments master) (sym is.gives) (same_head _ refl (λ n new. new))
  op_heads e texts p o (inr (inr (inl is))) =
      subst (HeadsAreSegments master) (sym is.gives) (same_head _ refl (λ n new. new))
  op_heads e texts p o (inr (inr (inr (inl is)))) =
      subst (HeadsAreSegments master) (sym is.gives) (same_head _ refl (λ n new. raised n new))
    where
      raised : (n : Start) → (Some is.n ≡ Some n) ⊎ IsAmong n d.abandoned → IsNew d n
      raised n (inl same) = inl (ap new_of is.mode ∙ same)
      raised n (inr old) = inr old
  op_heads e texts p o (inr (inr (inr (inr (inl is))))) =
      subst (HeadsAreSegments master) (sym is.gives) (same_head _ refl (λ n new. new))
  op_heads e texts p o (inr (inr (inr (inr (inr (inl is)))))) =
      subst (HeadsAreSegments master) (sym is.gives) (same_head _ refl (λ n new. new))
  op_heads e texts p o (inr (inr (inr (inr (inr (inr (inl is))))))) =
      subst (HeadsAreSegments master) (sym is.gives) (same_head _ refl (λ n new. new))
  op_heads e texts p o (inr (inr (inr (inr (inr (inr (inr is))))))) =
      subst (HeadsAreSegments master) (sym is.gives) heads

  -- one that begins a roll
  turned : (n : Start) (mode : Mode) → new_of mode ≡ Some n → IsWholeText master n.id (bare n)
      → HeadsAreSegments master (rolling d n mode)
  turned n mode is whole = record { head = heads.head; new = new } where
    new : (m : Start) → (new_of mode ≡ Some m) ⊎ IsAmong m d.abandoned → IsWholeText master m.id (bare m)
    new m (inl same) =
        subst (λ (x : Start). IsWholeText master x.id (bare x)) (same_Some n m (sym is ∙ same)) whole
    new m (inr old) = heads.new m (inr old)

  -- one whose new head is in force
  ends : (n : Start) (mode : Mode) → new_of d.mode ≡ Some n → new_of mode ≡ None
      → HeadsAreSegments master (ended d n mode)
  ends n mode is none = record { head = heads.new n (inl is); new = new } where
    new : (m : Start) → (new_of mode ≡ Some m) ⊎ IsAmong m [] → IsWholeText master m.id (bare m)
    new m (inl same) = let never : None ≡ Some m = sym none ∙ same in absurd (cc)
    new m (inr old) = absurd old

  -- one whose backup has failed
  failed : (b : ℕ) → HeadsAreSegments master (failing d b)
  failed b = same_head (failing d b) refl (λ n is. new n is) where
    was : (m : Mode) (n : Start) → IsAmong n (new_heads m) → new_of m ≡ Some n
    was (Rolls x) n (inl same) = ap (λ (y : Start). Some y) same
    was (Rolls x) n (inr more) = absurd more
    was Calm n is = absurd is
    was Mends n is = absurd is
    was (Opens x) n is = absurd is
    was (Closes x) n is = absurd is
    was Repairs n is = absurd is

    new : (n : Start) → (None ≡ Some n) ⊎ IsAmong n (new_heads d.mode) → IsNew d n
    new n (inl never) = absurd (cc)
    new n (inr among) = inl (was d.mode n among)

  ended_failover : HeadsAreSegments master (mended d)
  ended_failover = same_head (mended d) refl (λ n is. new n is) where
    new : (n : Start) → (None ≡ Some n) ⊎ IsAmong n d.abandoned → IsNew d n
    new n (inl never) = absurd (cc)
    new n (inr old) = inr old

-- ---- laws

pub rolling_has_segments : RollingHasSegments
rolling_has_segments master d n mode heads is whole = turned master d heads n mode is whole

pub ended_has_segments : EndedHasSegments
ended_has_segments master d n mode heads is none = ends master d heads n mode is none

pub op_has_segments : OpHasSegments
op_has_segments master d e texts p o heads op = op_heads master d heads e texts p o op

-- what was loaded is the head's whole text
adopted_heads : (master : ℕ) (d : FailData) (st : State) → HeadsAreSegments master d
    → HeadsAreSegments master (adopted d st)
adopted_heads master d st heads = record {
  head = subst (λ (es : List Entry). IsWholeText master d.head.start.id
      (record { opening = Some (opening_for d.head.start); entries = es }))
      (sym (append-nil (front_entries d.head (length d.head.units)))) heads.head;
  new = heads.new;
}

pub others_have_segments : OthersHaveSegments
others_have_segments master d heads = (
  same_head master d heads (id_taken d) refl (λ n new. new),
  failed master d heads,
  ended_failover master d heads,
  λ st. adopted_heads master d st heads,
)
