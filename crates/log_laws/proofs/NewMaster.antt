-- The log of a new master is kept if the backups hold nothing of the master.
use Rattle.std.proofs.Common.{◌≡◌, ℕ, inl, inr, true, false, List, [], ◌++◌, take, Some, refl, sym, ap, subst, ◌∙◌}
use Rattle.std.proofs.Common.{arith}
use Rattle.std.specs.Prelude.{None, ◌==◌, if◌then◌else◌}
use Rattle.std.proofs.lemmas.Bool.{cases_eq}
use Rattle.std.proofs.lemmas.Bool.Decides.{nat_tests}
use Rattle.std.proofs.lemmas.Option.{same_Some}
use Rattle.entry.specs.declared.entry.Entry.{Entry}
use Rattle.versioned_map.specs.Represents.{Represents, empty_state}
use Rattle.versioned_map.proofs.Represented.{nothing_yet}
use Rattle.log_laws.specs.Heads.{Start, entries_of}
use Rattle.log_laws.specs.Text.{Replica}
use Rattle.log_laws.specs.Shown.{Shown}
use Rattle.log_laws.specs.Data.{bare, FailConfig, FailData, IsNew}
use Rattle.log_laws.specs.Log.{Texts, IsBase, AreOfTablets, IsStart, IsLogged, IsMirrored, IsStanding, IsLogHeld}
use Rattle.log_laws.specs.Steps.{no_head, restored_start, restored, fresh, MayBegin, IsKnown}
use Rattle.log_laws.specs.Laws.{FreshIsKept}
use Rattle.log_laws.proofs.States.{no_units, take_none}

module _ (c : FailConfig) (safe : ℕ) where
  abbrev first : Start
  first = restored_start c.format safe

  abbrev pub texts_of : Texts
  texts_of = record {
    text = λ s. if s == 1 then bare first else bare (no_head c.format);
    images = λ s. [];
  }

  no_entries : (s : ℕ) → (texts_of.text s).entries ≡ []
  no_entries s = elim (cases_eq s 1) as (λ _. (texts_of.text s).entries ≡ []) [
    | inl same ↦ (let is : (s == 1) ≡ true = grind (arith, nat_tests) in rw is refl)
    | inr other ↦ (let is : (s == 1) ≡ false = grind (arith, nat_tests) in rw is refl)
  ]

module _ (c : FailConfig) (safe : ℕ) (p : Shown) (begins : MayBegin c p) where
  abbrev d : FailData
  d = restored c safe

  abbrev texts : Texts
  texts = texts_of c safe

  only : (n : Start) → IsNew d n → first c safe ≡ n
  only n (inl is) = same_Some (first c safe) n is
  only n (inr among) = absurd among

  never : (b s : ℕ) (r : Replica) → p.holds b s ≡ Some r → ⊥
  never b s r is = let none : None ≡ Some r = sym (begins.nothing b s) ∙ is in cc

  first_logged : IsLogged d texts
  first_logged = record {
    head = record { below = tt; lens = refl; next = omega arith };
    text = refl;
    counted = λ b. omega arith;
    one = refl;
    some = λ u among. absurd among;
    new = λ n is_new. subst (IsStart c 2 texts) (only n is_new)
        (record { below = tt; lens = refl; next = omega arith });
    newer = λ n is_new. let id = ap (λ (x : Start). x.id) (only n is_new) in omega arith;
    new_text = λ n is_new. subst (λ (x : Start). texts.text x.id ≡ bare x) (only n is_new) refl;
    new_one = λ n is_new. refl;
    keys = λ s es variant. elim variant as (λ _. AreOfTablets c es) [
      | inl is ↦ (let none : es ≡ [] = is ∙ no_entries c safe s in
          subst (AreOfTablets c) (sym none) (λ e k m at. absurd m))
      | inr image ↦ absurd image
    ];
    images = λ s es e never_one. absurd never_one;
    above = λ n m third. absurd (cc);
    settled = λ _. refl;
    repairs = λ _. (refl, refl);
    two = λ fails. absurd (cc);
  }

  first_mirrored : IsMirrored d texts p
  first_mirrored = record {
    bounded = λ b s r is. absurd (never b s r is);
    each = λ b s r is. absurd (never b s r is);
    head = λ b took. absurd (cc);
    opened = inl refl;
    new = λ n b is_new took. absurd (cc);
    others = λ s b other home. absurd (let took = home.0 in cc);
    whole = λ n b e is_new some home. absurd (let took = home.0 in cc);
    least = inl (let none = begins.least in omega arith);
    raised = λ n is. absurd (cc);
    shut = λ b r is. absurd (cc);
    homes = λ _ b took. absurd (cc);
    new_homes = λ n b _ took. absurd (cc);
  }

  pub first_known : IsKnown d p
  first_known = record {
    absent = λ b s _ _. begins.nothing b s;
    new = λ b n failed. absurd (cc);
    head = λ b failed. absurd (cc);
    exact = λ b r home. absurd (let took = home.0 in cc);
  }

  pub first_held : IsLogHeld d texts p
  first_held = record { some = begins.some; logged = first_logged; mirrored = first_mirrored }

pub fresh_standing : (c : FailConfig) (p : Shown) → MayBegin c p → IsStanding (fresh c) (texts_of c 1)
fresh_standing c p begins = record {
  numbers = omega arith;
  fronts = λ k base le at.
      let none : base ++ entries_of (take k no_units) ≡ [] =
      ap (λ (l : List Entry). l ++ entries_of (take k no_units)) at ∙ ap entries_of (take_none k) in
      subst (λ (l : List Entry). Represents 1 l empty_state) (sym none) nothing_yet;
  new = λ n is_new base at.
      let one = only c 1 p begins n is_new in
      let none : base ≡ [] = subst (λ (x : Start). IsBase (texts_of c 1) x.others base) (sym one) at in
      subst (λ (x : Start). Represents x.safe base empty_state) one
      (subst (λ (l : List Entry). Represents 1 l empty_state) (sym none) nothing_yet);
  frozen = λ fails. absurd (cc);
}

pub fresh_is_kept : FreshIsKept
fresh_is_kept c p begins = (
  record {
    texts = texts_of c 1;
    held = first_held c 1 p begins;
    standing = fresh_standing c p begins;
  },
  first_known c 1 p begins,
)
