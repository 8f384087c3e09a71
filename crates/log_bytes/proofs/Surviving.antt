-- Which losses leave a choice, in the model and in bytes.
use Rattle.std.proofs.Common.{ℕ, ◌≤◌, inl, inr, Bool, Some}
use Rattle.std.proofs.Common.{◌∙◌, arith}
use Rattle.std.specs.Prelude.{Option, None}
use Rattle.std.proofs.lemmas.Bool.{cases_lt}
use Rattle.entry.specs.Meaning.{among}
use Rattle.replica.specs.Picture.{Shown}
use Rattle.replica.specs.Survival.{IsHeadLeft, HeadSurvives, SegmentsSurvive}
use Rattle.log_laws.specs.Shown.{Shown as ModelShown}
use Rattle.log_laws.specs.Choice.{IsNewestOpened}
use Rattle.log_laws.specs.Choice.{IsHeadLeft as IsModelHeadLeft, HeadSurvives as ModelHeadSurvives}
use Rattle.log_laws.specs.Choice.{SegmentsSurvive as ModelSegmentsSurvive}
use Rattle.log_laws.specs.Data.{FailData, IsHome}
use Rattle.log_laws.specs.Sound.{IsOpenedHead as ModelOpenedHead}
use Rattle.log_bytes.specs.Spelled.{spelled_replica, IsSpelled}
use Rattle.log_bytes.specs.Choice.{IsOpenedHead, IsNewestOpenedOrNone}
use Rattle.log_bytes.specs.Laws.{SurvivesInModel}
use Rattle.log_bytes.proofs.Texts.{reads_opening}
use Rattle.log_bytes.proofs.Reading.{spelled_held}
use Rattle.log_bytes.proofs.Choosing.{head_there, head_back}

-- ---- which losses leave a choice

module _ (master : ℕ) (d : FailData) (shown : Shown) (p : ModelShown) (spelled : IsSpelled master shown p) where
  counts_there : (s : ℕ) → IsOpenedHead d master shown s → shown.least ≤ s → ModelOpenedHead d p s
  counts_there s counts usable =
      (counts.0, (counts.1.0, counts.1.1, head_there master shown p spelled counts.1.0 s counts.1.2 usable))

  counts_back : (s : ℕ) → ModelOpenedHead d p s → IsOpenedHead d master shown s
  counts_back s opened =
      (opened.0, (opened.1.0, opened.1.1, (head_back master shown p spelled opened.1.0 s opened.1.2).0))

  module _ (keep : ℕ → Bool) where
    left_there : (s : ℕ) → IsHeadLeft shown master keep s → shown.least ≤ s → IsModelHeadLeft p keep s
    left_there s left usable = (left.0, left.1, head_there master shown p spelled left.0 s left.2 usable)

    heads : (newest : Option ℕ) → IsNewestOpenedOrNone (IsOpenedHead d master shown) shown.least newest
        → HeadSurvives (IsHome d) newest shown master keep → ModelHeadSurvives (IsHome d) (ModelOpenedHead d p) p keep
    heads (Some s) is survives =
        let usable = is.usable in
        let least = spelled.least in
        let opened : IsNewestOpened (ModelOpenedHead d p) p.least s =
        record {
          opened = counts_there s is.opened usable;
          usable = omega arith;
          newest = λ u was. is.newest u (counts_back u was);
        } in inl (
          s,
          opened,
          elim survives [
            | inl home ↦ inl home
            | inr later ↦ (
                let newer = later.1 in inr (later.0, newer, left_there later.0 later.2 (omega arith)))
          ],
        )
    heads None none survives =
        let least = spelled.least in
        let never : (s : ℕ) → ModelOpenedHead d p s → p.least ≤ s → ⊥ =
        (λ s was usable. none s (counts_back s was) (omega arith)) in
        inr (never, (survives.0, left_there survives.0 survives.2 survives.1))

    segments : SegmentsSurvive (IsHome d) shown master keep → ModelSegmentsSurvive (IsHome d) p keep
    segments survive s opening newest id among apart =
        survive s opening (record {
          b = newest.b;
          r = spelled_replica master s newest.r;
          is_kept = newest.is_kept;
          held = spelled_held master shown p spelled newest.b s newest.r newest.held;
          bears = reads_opening master s newest.r.text (spelled.segments newest.b s newest.r newest.held)
              ∙ newest.bears;
          newest = λ t left. greatest t left;
        }) id among apart
      where
        greatest : (t : ℕ) → IsHeadLeft shown master keep t → t ≤ s
        greatest t left = elim (cases_lt t shown.least) as (λ _. t ≤ s) [
          | inl below ↦ (let least = spelled.least in let usable = newest.usable in omega arith)
          | inr usable ↦ newest.newest t (left_there t left usable)
        ]
        -- ---- back

pub survives_in_model : SurvivesInModel
survives_in_model master d shown p keep newest spelled is survive = record {
  head = heads master d shown p spelled keep newest is survive.head;
  segments = segments master d shown p spelled keep survive.segments;
}
