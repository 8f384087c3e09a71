-- Calls of an index, one after another.
use Rattle.std.proofs.Common.{◌≡◌, ℕ, List, [], ◌∷◌, ◌++◌, append_assoc, refl, sym, ap, subst, ◌∙◌}
use Rattle.std.proofs.lemmas.List.{append-nil}
use Rattle.std.specs.Prelude.{Option, Some}
use Rattle.entry.specs.declared.key.Key.{Key}
use Rattle.places.specs.declared.place.Place.{Place}
use Rattle.places.specs.Map.{Places, found, AreKeptBy, IsSetBy, IsSameMapBy}
use Rattle.place_index.specs.declared.call.MapAnswer.{MapAnswer}
use Rattle.place_index.specs.declared.call.MapAnswer.TheVariants as said
use Rattle.place_index.specs.declared.call.MapCall.{MapCall}
use Rattle.place_index.specs.declared.call.MapCall.TheVariants as asked
use Rattle.place_index.specs.Runs.{MapValue, after, answer, answers_to, left_by, AreTold, Carries, IsToldBy}

module _ (hash : List ℕ → Key → ℕ) (keys : Place → Option Key) where
  abbrev map_of : Places → MapValue
  map_of ps k = found keys k ps

  -- room was reserved, the key's place set, and the index grown
  pub carries_set : (old taken mid new : Places) (k shown : Key) (p : Place) (c : MapCall) → c ≡ asked.Set k p
      → shown ≡ k → taken ≡ old
      → (AreKeptBy hash keys taken → keys p ≡ Some shown → IsSetBy hash keys taken shown (Some p) mid)
      → (AreKeptBy hash keys mid → IsSameMapBy hash keys mid new) → AreKeptBy hash keys old → IsToldBy keys c
      → Carries hash keys old c new said.Set
  carries_set old taken mid new k shown p c is shows same sets grows kept =
      subst (λ (d : MapCall). IsToldBy keys d → Carries hash keys old d new said.Set) (sym is)
      (λ told. (let put = there told in let grown = grows put.kept in
      record { kept = grown.kept; gives = refl; finds = λ q. grown.finds q ∙ put.finds q }))
    where
      there : keys p ≡ Some k → IsSetBy hash keys old k (Some p) mid
      there told =
          let all = subst (λ (ps : Places). AreKeptBy hash keys ps) (sym same) kept in
          let at : keys p ≡ Some shown = told ∙ ap (λ (x : Key). Some x) (sym shows) in
          subst (λ (ps : Places). IsSetBy hash keys ps k (Some p) mid) same
          (subst (λ (x : Key). IsSetBy hash keys taken x (Some p) mid) shows (sets all at))

  -- What was answered so far, and what the calls that are left answer and leave, are the whole.
  pub record IsRunning (calls : List MapCall) (old now : Places) (rest : List MapCall) (answers : List MapAnswer)
      : Type 0 where
    pub kept : AreKeptBy hash keys now
    pub told : AreTold keys rest
    pub answered : answers ++ answers_to rest (map_of now) ≡ answers_to calls (map_of old)
    pub leaves : left_by rest (map_of now) ≡ left_by calls (map_of old)

  pub goes_on : (calls : List MapCall) (old now new : Places) (c : MapCall) (rest : List MapCall)
      (answers : List MapAnswer) (a : MapAnswer)
      → (AreKeptBy hash keys now → IsToldBy keys c → Carries hash keys now c new a)
      → IsRunning calls old now (c ∷ rest) answers → IsRunning calls old new rest (answers ++ a ∷ [])
  goes_on calls old now new c rest answers a carries running = record {
    kept = carried.kept;
    told = running.told.1;
    answered =
        append_assoc answers (a ∷ []) (answers_to rest (map_of new))
        ∙ ap (λ (b : MapAnswer). answers ++ b ∷ answers_to rest (map_of new)) carried.gives
        ∙ ap (λ (m : MapValue). answers ++ answer c (map_of now) ∷ answers_to rest m) moves
        ∙ running.answered;
    leaves = ap (λ (m : MapValue). left_by rest m) moves ∙ running.leaves;
  } where
    carried : Carries hash keys now c new a
    carried = carries running.kept running.told.0

    moves : map_of new ≡ after c (map_of now)
    moves = λ i. λ k. carried.finds k i

  pub answers_all : (calls : List MapCall) (old now : Places) (answers : List MapAnswer)
      → IsRunning calls old now [] answers → answers ≡ answers_to calls (map_of old)
  answers_all calls old now answers running = sym (append-nil answers) ∙ running.answered

  pub leaves_all : (calls : List MapCall) (old now : Places) (answers : List MapAnswer)
      → IsRunning calls old now [] answers → (q : Key) → found keys q now ≡ left_by calls (map_of old) q
  leaves_all calls old now answers running q = ap (λ (m : MapValue). m q) running.leaves
