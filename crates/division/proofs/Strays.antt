-- A walk over entries that looks for a key without a partition.
use Rattle.std.proofs.Common.{◌≡◌, List, [], ◌∷◌, ◌++◌, inl, inr, sym, ap, subst, ◌∙◌, refl, append_assoc}
use Rattle.std.proofs.lemmas.List.{append-nil}
use Rattle.entry.specs.declared.entry.Entry.{Entry}
use Rattle.entry.specs.Bag.{IsAmong}
use Rattle.entry.proofs.BagLemmas.{among_push, among_right}
use Rattle.tablet_will.specs.declared.part.Part.{Part}
use Rattle.division.specs.Division.{IsCovered, AreCovered}

-- each key of the entries before these has a partition
pub record IsCoveredTo (qs : List Part) (es left : List Entry) : Type 0 where
  pub done : List Entry
  pub whole : done ++ left ≡ es
  pub covered : AreCovered qs done

pub covered_first : (qs : List Part) (es : List Entry) → IsCoveredTo qs es es
covered_first qs es = record { done = []; whole = refl; covered = λ e m. absurd m }

module _ (qs : List Part) (es left : List Entry) (h : IsCoveredTo qs es left) where
  pub covered_end : left ≡ [] → AreCovered qs es
  covered_end none =
      subst (AreCovered qs) (sym (append-nil h.done) ∙ ap (λ (l : List Entry). h.done ++ l) (sym none) ∙ h.whole)
      h.covered

  module _ (e : Entry) (later : List Entry) (is : left ≡ e ∷ later) where
    pub next_among : IsAmong e es
    next_among =
        subst (IsAmong e) h.whole
        (among_right e h.done left (subst (λ (l : List Entry). IsAmong e l) (sym is) (inl refl)))

    pub covered_more : IsCovered qs e → IsCoveredTo qs es later
    covered_more here = record {
      done = h.done ++ e ∷ [];
      whole = append_assoc h.done (e ∷ []) later ∙ ap (λ (l : List Entry). h.done ++ l) (sym is) ∙ h.whole;
      covered = λ f m. elim (among_push f h.done e m) [
        | inl before ↦ h.covered f before
        | inr last ↦ subst (IsCovered qs) last here
      ];
    }
