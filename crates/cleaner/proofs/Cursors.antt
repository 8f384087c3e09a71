-- How a walk over victims goes on.
use Rattle.std.proofs.Common.{◌≡◌, ℕ, ◌+◌, ◌<◌, ◌≤◌, true, false, List, [], ◌∷◌, ◌++◌, length, drop, refl, sym, ap}
use Rattle.std.proofs.Common.{subst, ◌∙◌, arith}
use Rattle.std.specs.Prelude.{Some, None}
use Rattle.std.proofs.lemmas.List.{drop_all}
use Rattle.entry.specs.declared.entry.Entry.{Entry}
use Rattle.entry.specs.Format.{spelling}
use Rattle.entry.specs.Text.{text_of, is_data}
use Rattle.places.specs.declared.place.Place.{Place}
use Rattle.compactor.specs.Places.{LiesAt}
use Rattle.compactor.proofs.Cutting.{IsCut, cut_next, cut_end}
use Rattle.compactor.proofs.Walking.{IsHere}
use Rattle.cleaner.specs.declared.walking.WalkPosition.{WalkPosition}
use Rattle.cleaner.specs.Passes.{places_from, places_past, places_of, places_on}
use Rattle.cleaner.specs.Walks.{IsBetween, IsPositionBetween, IsSpotAt, FindsData, GoesOn}
use Rattle.cleaner.proofs.Places.{from_data, past_cut, on_start}

-- ---- in a segment

pub cut_of : (es : List Entry) (at : ℕ) (b : IsBetween es at) → IsCut es b.before b.rest at
cut_of es at b = record { split = b.split; offset = b.offset }

pub between_start : (es : List Entry) → IsBetween es 0
between_start es = record { before = []; rest = es; split = refl; offset = refl }

-- behind an entry
pub between_behind : (es : List Entry) (at n : ℕ) (e : Entry) → LiesAt es at e → n ≡ length (spelling e)
    → IsBetween es (at + n)
between_behind es at n e lies size =
    let cut = cut_next es lies.before lies.after e at (record { split = lies.split; offset = lies.offset }) in
    record {
      before = lies.before ++ e ∷ [];
      rest = lies.after;
      split = cut.split;
      offset = ap (λ (m : ℕ). at + m) size ∙ cut.offset;
    }

module _ (es : List Entry) (from : ℕ) where
  -- no object or tombstone lies between the two offsets
  pub record IsOnWay (at : ℕ) : Type 0 where
    pub between : IsBetween es at
    pub same : (s : ℕ) → places_past s at es ≡ places_past s from es

  pub way_start : IsBetween es from → IsOnWay from
  way_start between = record { between = between; same = λ s. refl }

  pub way_end : (at : ℕ) → IsOnWay at → length (text_of es) ≤ at → FindsData es from None
  way_end at w past = λ s.
      let b = w.between in
      sym (w.same s)
      ∙ past_cut s at es b.before b.rest b.split b.offset
      ∙ ap (places_from s at) (cut_end es b.before b.rest at (cut_of es at b) past)

  module _ (at : ℕ) (w : IsOnWay at) (e : Entry) (n : ℕ) (here : IsHere es w.between.before w.between.rest at e n) where
    lies_here : LiesAt es at e
    lies_here = record {
      before = w.between.before;
      after = here.later;
      split = here.cut.split;
      offset = here.cut.offset;
    }

    pub way_found : is_data e ≡ true → FindsData es from (Some at)
    way_found is = ((e, lies_here, is), w.same)

    pub way_next : is_data e ≡ false → IsOnWay (at + n)
    unfolding between_behind lies_here
    way_next isnt =
        let b = between_behind es at n e lies_here here.size in
        record {
          between = b;
          same = λ s.
              past_cut s (at + n) es b.before b.rest b.split b.offset
              ∙ ap (λ (m : ℕ). places_from s (at + m) here.later) here.size
              ∙ sym (from_data s at e here.later false isnt)
              ∙ sym (past_cut s at es w.between.before (e ∷ here.later) here.cut.split here.cut.offset)
              ∙ w.same s;
        }

-- ---- in the victims

-- at the start of the first
pub starts : (images : ℕ → List Entry) (ids : List ℕ) → IsPositionBetween images ids 0
starts images [] = tt
starts images (s ∷ ids) = between_start (images s)

module _ (images : ℕ → List Entry) (victims : List ℕ) (from : WalkPosition) where
  -- no object or tombstone lies between the two spots
  pub record IsGoing (now : WalkPosition) : Type 0 where
    pub within : now.victim ≤ length victims
    pub between : IsPositionBetween images (drop now.victim victims) now.at
    pub rest : places_on images (drop now.victim victims) now.at ≡ places_on images (drop from.victim victims) from.at

  pub going_start : from.victim ≤ length victims → IsPositionBetween images
      (drop from.victim victims) from.at → IsGoing from
  going_start within between = record { within = within; between = between; rest = refl }

  pub going_end : (now : WalkPosition) → IsGoing now → length victims ≤ now.victim → GoesOn images victims from now
  going_end now g past =
      let none : drop now.victim victims ≡ [] = drop_all now.victim victims past in
      record {
        within = g.within;
        rest = g.rest;
        position = subst (λ (ids : List ℕ). IsSpotAt images ids now.at) (sym none) tt;
      }

  module _ (now : WalkPosition) (g : IsGoing now) (s : ℕ) (ids : List ℕ) (split : drop now.victim victims ≡ s ∷ ids)
      (es : List Entry) (is : es ≡ images s) where
    pub going_between : IsBetween es now.at
    going_between =
        subst (λ (xs : List Entry). IsBetween xs now.at) (sym is)
        (subst (λ (ds : List ℕ). IsPositionBetween images ds now.at) split g.between)

    pub going_found : (at : ℕ) → FindsData es now.at (Some at) → GoesOn images victims from (record now { at = at })
    going_found at finds = record {
      within = g.within;
      rest =
          ap (λ (ds : List ℕ). places_on images ds at) split
          ∙ ap (λ (xs : List Entry). places_past s at xs ++ places_of images ids) (sym is)
          ∙ ap (λ (ps : List Place). ps ++ places_of images ids) (finds.1 s)
          ∙ ap (λ (xs : List Entry). places_past s now.at xs ++ places_of images ids) is
          ∙ ap (λ (ds : List ℕ). places_on images ds now.at) (sym split)
          ∙ g.rest;
      position =
          subst (λ (ds : List ℕ). IsSpotAt images ds at) (sym split)
          (subst (λ (xs : List Entry). (e : Entry) × LiesAt xs at e × (is_data e ≡ true)) is finds.0);
    }

    pub going_next : FindsData es now.at None → now.victim < length victims → ids ≡ drop (now.victim + 1) victims
        → IsGoing (record { victim = now.victim + 1; at = 0 })
    going_next finds lt later = record {
      within = omega (arith, lt);
      between = starts images (drop (now.victim + 1) victims);
      rest =
          on_start images (drop (now.victim + 1) victims)
          ∙ ap (places_of images) (sym later)
          ∙ ap (λ (ps : List Place). ps ++ places_of images ids) (sym (finds s))
          ∙ ap (λ (xs : List Entry). places_past s now.at xs ++ places_of images ids) is
          ∙ ap (λ (ds : List ℕ). places_on images ds now.at) (sym split)
          ∙ g.rest;
    }
