-- A log writes whole segments.
use Rattle.std.proofs.Common.{◌≡◌, ℕ, ◌⊎◌, inl, inr, Bool, true, false, cond, List, length, Some, refl, sym}
use Rattle.std.proofs.Common.{ap, subst, ◌∙◌, arith}
use Rattle.std.specs.Prelude.{Option, None, ◌==◌, ◌&&◌}
use Rattle.std.proofs.lemmas.Bool.Decides.{nat_tests}
use Rattle.std.proofs.lemmas.Option.{same_Some}
use Rattle.entry.specs.declared.entry.Entry.{Entry}
use Rattle.log_laws.specs.Heads.{Start, entries_of}
use Rattle.log_laws.specs.HeadSteps.{units_between}
use Rattle.log_laws.specs.Text.{Text, Replica, length_of}
use Rattle.log_laws.specs.Shown.{Shown, Act, Open, Extend, Close, Seal, Free, Op, On, Raise, taken, effect}
use Rattle.log_laws.specs.Data.{FailData, Rolls, Opens, front, bare, IsNew, new_of}
use Rattle.log_laws.specs.Laws.{ExtendHandsOver}
use Rattle.log_laws.specs.Log.{Texts, IsLogHeld}
use Rattle.log_laws.specs.Steps.{Extends}
use Rattle.log_bytes.specs.Text.{IsWholeText}
use Rattle.log_bytes.specs.Spelled.{AreSegments}
use Rattle.log_bytes.specs.Segments.{HeadsAreSegments, SealsSegment, IsHeldOp, OpLeavesSegments}
use Rattle.log_bytes.proofs.FleetOps.{Fitting, fitting}
use Rattle.log_bytes.proofs.Fronts.{front_whole}

-- ---- a place that was changed

place_is : (b s c t : ℕ) → ((b ≡ c) × (s ≡ t)) ⊎ (((b == c) && (s == t)) ≡ false)
place_is b s c t = grind (arith, nat_tests)

there : (b s : ℕ) → ((b == b) && (s == s)) ≡ true
there b s = grind (arith, nat_tests)

module _ (master : ℕ) (p : Shown) (segments : AreSegments master p) where
  -- all are segments if the changed one is
  changed : (b s : ℕ) (act : Act) (q : Shown) (f : Fitting p b s act q)
      → ((r : Replica) → f.x ≡ Some r → q.holds b s ≡ Some r → IsWholeText master s r.text) → AreSegments master q
  changed b s act q f here c t r held = elim (place_is b s c t) as (λ _. IsWholeText master t r.text) [
    | inl same ↦ (
        let at : q.holds b s ≡ Some r = (λ i. q.holds (same.0 i) (same.1 i)) ∙ held in
        let test = there b s in
        let is : q.holds b s ≡ f.x =
        ap (λ (y : Shown). y.holds b s) f.same ∙ ap (λ (z : Bool). cond z f.x (p.holds b s)) test in
        subst (λ (n : ℕ). IsWholeText master n r.text) same.1 (here r (sym is ∙ at) at))
    | inr other ↦ segments c t r
        (sym (ap (λ (z : Bool). cond z f.x (p.holds c t)) other) ∙ sym (ap (λ (y : Shown). y.holds c t) f.same) ∙ held)
  ]

  -- what an act leaves
  opened : (text : Text) (o : Option Replica) (x : Option Replica) (r : Replica) → effect (Open text) o ≡ Some x
      → x ≡ Some r → r.text ≡ text
  opened text None x r is e =
      let new : Some (record { text = text; is_open = true }) ≡ Some r = same_Some _ _ is ∙ e in
      sym (ap (λ (y : Replica). y.text) (same_Some _ _ new))
  opened text (Some y) x r is e = absurd (cc)

  sealed : (text : Text) (o : Option Replica) (x : Option Replica) (r : Replica) → effect (Seal text) o ≡ Some x
      → x ≡ Some r → r.text ≡ text
  sealed text None x r is e =
      let new : Some (record { text = text; is_open = false }) ≡ Some r = same_Some _ _ is ∙ e in
      sym (ap (λ (y : Replica). y.text) (same_Some _ _ new))
  sealed text (Some y) x r is e = absurd (cc)

  freed : (o : Option Replica) (x : Option Replica) (r : Replica) → effect Free o ≡ Some x → x ≡ Some r → ⊥
  freed None x r is e = absurd (cc)
  freed (Some y) x r is e = let never : None ≡ Some r = same_Some _ _ is ∙ e in cc

  closed : (o : Option Replica) (x : Option Replica) (r : Replica) → effect Close o ≡ Some x → x ≡ Some r
      → (y : Replica) × (o ≡ Some y) × (r.text ≡ y.text)
  closed None x r is e = absurd (cc)
  closed (Some y) x r is e = by_test y.is_open is where
    by_test : (b : Bool) → cond b (Some (Some (record { text = y.text; is_open = false }))) None ≡ Some x
        → (z : Replica) × (Some y ≡ Some z) × (r.text ≡ z.text)
    by_test true same =
        let new : Some (record { text = y.text; is_open = false }) ≡ Some r = same_Some _ _ same ∙ e in
        (y, refl, sym (ap (λ (z : Replica). z.text) (same_Some _ _ new)))
    by_test false same = absurd (cc)

  -- an Extend has a replica to go on with
  was_there : (at : ℕ) (more : List Entry) (o : Option Replica) (x : Option Replica)
      → effect (Extend at more) o ≡ Some x → (y : Replica) × (o ≡ Some y)
  was_there at more None x is = absurd (cc)
  was_there at more (Some y) x is = (y, refl)

  -- ---- an op

  puts : (b s : ℕ) (text : Text) (q : Shown) → taken p (On b s (Open text)) ≡ Some q → IsWholeText master s text
      → AreSegments master q
  puts b s text q took whole =
      let f = fitting p b s (Open text) q took in
      changed b s (Open text) q f (λ r is held.
      subst (IsWholeText master s) (sym (opened text (p.holds b s) f.x r f.is is)) whole)

  seals : (b s : ℕ) (text : Text) (q : Shown) → taken p (On b s (Seal text)) ≡ Some q → IsWholeText master s text
      → AreSegments master q
  seals b s text q took whole =
      let f = fitting p b s (Seal text) q took in
      changed b s (Seal text) q f (λ r is held.
      subst (IsWholeText master s) (sym (sealed text (p.holds b s) f.x r f.is is)) whole)

  frees : (b s : ℕ) (q : Shown) → taken p (On b s Free) ≡ Some q → AreSegments master q
  frees b s q took =
      let f = fitting p b s Free q took in
      changed b s Free q f (λ r is held. absurd (freed (p.holds b s) f.x r f.is is))

  closes : (b s : ℕ) (q : Shown) → taken p (On b s Close) ≡ Some q → AreSegments master q
  closes b s q took =
      let f = fitting p b s Close q took in
      changed b s Close q f (λ r is held.
      let y = closed (p.holds b s) f.x r f.is is in
      subst (IsWholeText master s) (sym y.2) (segments b s y.0 y.1))

  raises : (id : ℕ) (q : Shown) → taken p (Raise id) ≡ Some q → AreSegments master q
  raises id q took b s r held =
      segments b s r (ap (λ (y : Shown). y.holds b s) (same_Some _ q took) ∙ held)

  -- an op that is this one
  abbrev Leaves : Op → Shown → Type 0
  Leaves o q = taken p o ≡ Some q → AreSegments master q

  is_op : (o n : Op) (q : Shown) → o ≡ n → Leaves n q → Leaves o q
  is_op o n q same leaves = subst (λ (x : Op). Leaves x q) (sym same) leaves

  module _ (d e : FailData) (texts : Texts) (q : Shown) (o : Op) (held : IsLogHeld d texts p)
      (heads : HeadsAreSegments master d) (sealed_whole : SealsSegment master o) (hands_over : ExtendHandsOver) where
    extends : (is : Extends d o e) → taken p o ≡ Some q → AreSegments master q
    extends is took =
        let at = length_of (front d.head (d.counts is.b)) in
        let more = entries_of (units_between d.head.units (d.counts is.b) is.to) in
        let f = fitting p is.b d.head.start.id (Extend at more) q
        (subst (λ (x : Op). taken p x ≡ Some q) is.op took) in
        changed is.b d.head.start.id (Extend at more) q f (λ r same there.
        let y = was_there at more (p.holds is.b d.head.start.id) f.x f.is in
        subst (IsWholeText master d.head.start.id)
        (sym (hands_over d e texts p q o held is took y.0 r y.1 there).1) (front_whole master d.head is.to heads.head))

    pub op_leaves : IsHeldOp d texts p o e → taken p o ≡ Some q → AreSegments master q
    op_leaves (inl is) took = extends is took
    op_leaves (inr (inl is)) took =
        is_op o _ q is.op (λ t. puts is.b is.n.id (bare is.n) q t (heads.new is.n (opening d is.n is.mode))) took
      where
        opening : (x : FailData) (n : Start) → (x.mode ≡ Rolls n) ⊎ (x.mode ≡ Opens n) → IsNew x n
        opening x n (inl is) = inl (ap new_of is)
        opening x n (inr is) = inl (ap new_of is)
    op_leaves (inr (inr (inl is))) took =
        is_op o _ q is.op (λ t. puts is.b d.head.start.id (front d.head (length d.head.units)) q t heads.head) took
    op_leaves (inr (inr (inr (inl is)))) took = is_op o _ q is.op (λ t. raises is.n.id q t) took
    op_leaves (inr (inr (inr (inr (inl is))))) took = is_op o _ q is.op (λ t. closes is.b d.head.start.id q t) took
    op_leaves (inr (inr (inr (inr (inr (inl is)))))) took =
        is_op o _ q is.op (λ t. seals is.b is.s _ q t (subst (SealsSegment master) is.op sealed_whole)) took
    op_leaves (inr (inr (inr (inr (inr (inr (inl is))))))) took =
        is_op o _ q is.op (λ t. seals is.b is.s _ q t (subst (SealsSegment master) is.op sealed_whole)) took
    op_leaves (inr (inr (inr (inr (inr (inr (inr is))))))) took = is_op o _ q is.op (λ t. frees is.b is.s q t) took

pub op_leaves_segments : ExtendHandsOver → OpLeavesSegments
op_leaves_segments hands_over master d e texts p q o held next took heads seals segments =
    op_leaves master p segments d e texts q o held heads seals hands_over next took
