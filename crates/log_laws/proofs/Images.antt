-- Variants between images and texts represent the present state.
use Rattle.std.proofs.Common.{ℕ, ◌≤◌, inl, inr, List, [], ◌∷◌, refl, sym, subst, arith}
use Rattle.entry.specs.declared.key.Key.{Key}
use Rattle.entry.specs.declared.entry.Entry.{Entry}
use Rattle.entry.specs.Bag.{IsAmong}
use Rattle.entry.specs.Meaning.{IsOfKey, among}
use Rattle.entry.proofs.BagLemmas.{among_left, among_right, among_either}
use Rattle.versioned_map.specs.Represents.{Represents}
use Rattle.versioned_map.specs.Versioned.{State}
use Rattle.log_laws.specs.Memory.{Place, Index, LogSet, Pass, ImagesHave, LogHas}
use Rattle.log_laws.specs.Tracked.{IsTracked, IsPassing, IsAround}
use Rattle.log_laws.proofs.TrackedBags.{between_clean, between_means}
use Rattle.log_laws.specs.Images.{AreBetween, AreAll, BetweenStands}
use Rattle.log_laws.specs.Log.{Texts, IsVariant, IsBase}

-- what all variants of a segment have, its base has
base_in : (texts : Texts) (ids : List ℕ) (base : List Entry) → IsBase texts ids base → (s : ℕ) (e : Entry)
    → IsAmong s ids → ((es : List Entry) → IsVariant texts s es → IsAmong e es) → IsAmong e base
base_in texts [] base is s e m all = absurd m
base_in texts (t ∷ ids) base (es, rest, here, more, is) s e (inl same) all =
    subst (IsAmong e) (sym is) (among_left e es rest
    (all es (subst (λ (k : ℕ). IsVariant texts k es) same here)))
base_in texts (t ∷ ids) base (es, rest, here, more, is) s e (inr m) all =
    subst (IsAmong e) (sym is) (among_right e es rest (base_in texts ids rest more s e m all))

-- A segment's variant that has the entry.
pub record IsFrom (texts : Texts) (ids : List ℕ) (e : Entry) : Type 0 where
  pub s : ℕ
  pub listed : IsAmong s ids
  pub es : List Entry
  pub variant : IsVariant texts s es
  pub has : IsAmong e es

pub base_out : (texts : Texts) (ids : List ℕ) (base : List Entry) → IsBase texts ids base → (e : Entry) → IsAmong e base
    → IsFrom texts ids e
base_out texts [] base is e m = absurd (subst (IsAmong e) is m)
base_out texts (t ∷ ids) base (es, rest, here, more, is) e m =
    elim (among_either e es rest (subst (IsAmong e) is m)) as (λ _. IsFrom texts (t ∷ ids) e) [
      | inl l ↦ record { s = t; listed = inl refl; es = es; variant = here; has = l }
      | inr r ↦ (
          let from = base_out texts ids rest more e r in
          record { s = from.s; listed = inr from.listed; es = from.es; variant = from.variant; has = from.has })
    ]

module _ (log : LogSet) (pass : Pass) (index : Index) (places : List Place) (st : State) (next recorded : ℕ)
    (texts : Texts) (ids : List ℕ) (base : List Entry) (tracked : IsTracked log pass index st.contents)
    (passing : IsPassing log.ids log.image pass index places) (around : IsAround log pass st.contents st.safe next)
    (between : AreBetween log texts ids) (all : AreAll log pass ids) (is : IsBase texts ids base) where
  in_base : (s : ℕ) (e : Entry) (k : Key) → IsOfKey k e → IsAmong s ids → IsAmong e (log.image s) → among base e
  in_base s e k at m l =
      base_in texts ids base is s e m (λ es variant. between.image s es k e m variant at l)

  -- what images have of a key the base has: a survivor's copy is a victim's
  there : (e : Entry) (k : Key) → IsOfKey k e → ImagesHave log.ids log.image e → among base e
  there e k at h = elim (all.rest h.0 h.1.counts) as (λ _. among base e) [
    | inl listed ↦ in_base h.0 e k at listed h.1.among
    | inr (inl survivor) ↦ (
        let copy = passing.copies h.0 e k survivor h.1.among at in
        in_base copy.0 e k at (all.victims copy.0 copy.1.counts) copy.1.among)
    | inr (inr none) ↦ absurd (none k e at h.1.among)
  ]

  from : (e : Entry) (k : Key) → IsOfKey k e → among base e → LogHas log e
  from e k at m =
      let one = base_out texts ids base is e m in (
        one.s,
        record {
          counts = between.counts one.s one.listed;
          among = inr (between.text one.s one.es k e one.listed one.variant at one.has);
        },
      )

  stands : st.safe ≤ recorded → Represents recorded base st
  stands le = record {
    meaning = between_means log pass index st.contents tracked (among base) there from;
    clean = between_clean log pass index st.contents tracked (among base) there from;
    below = λ k e none m at. let h = from e k at m in around.versions k none h.0 e h.1 at;
    safe = omega arith;
  }

pub between_stands : BetweenStands
between_stands log pass index places st next recorded texts ids base tracked passing around between all le is =
    stands log pass index places st next recorded texts ids base tracked passing around between all is le
