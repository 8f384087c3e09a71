-- A command's unit that is appended to the head's image keeps what is tracked.
use Rattle.std.proofs.Common.{◌≡◌, ℕ, ◌+◌, ◌*◌, ◌<◌, ◌≤◌, ◌⊎◌, inl, inr, max, Bool, true, false, cond, List, [], ◌∷◌}
use Rattle.std.proofs.Common.{◌++◌, refl, sym, ap, subst, ◌∙◌, arith}
use Rattle.std.specs.Prelude.{Option, Some, None}
use Rattle.entry.specs.declared.key.Key.{Key}
use Rattle.entry.specs.declared.entry.Object.{Object as ObjectValue}
use Rattle.entry.specs.declared.entry.Tombstone.{Tombstone as TombstoneValue}
use Rattle.entry.specs.declared.entry.Entry.{Entry}
use Rattle.entry.specs.declared.entry.Entry.TheVariants.{Object, Tombstone}
use Rattle.entry.specs.Bag.{IsAmong}
use Rattle.entry.specs.Meaning.{Versioned, Contents, IsOfKey, version_of, rank_of, versioned}
use Rattle.versioned_map.specs.declared.command.Command.{Command}
use Rattle.versioned_map.specs.declared.command.Command.TheVariants.{Get, Put, Delete}
use Rattle.versioned_map.specs.Command.{command_key}
use Rattle.versioned_map.specs.Represents.{unit_of}
use Rattle.versioned_map.specs.Units.{put_unit, delete_unit}
use Rattle.versioned_map.specs.Versioned.{State, is_met, with_contents, after_command, after_put, after_delete}
use Rattle.versioned_map.proofs.Keys.{at_key, at_other}
use Rattle.versioned_map.proofs.Tops.{rank_bound, version_bound}
use Rattle.log_laws.specs.Rising.{Texts}
use Rattle.log_laws.specs.Memory.{Place, Index, Images, LogSet, Pass, SegmentHas, grown, copied}
use Rattle.log_laws.specs.ImageSteps.{with_place, next_place, images_with, index_with}
use Rattle.log_laws.specs.Tracked.{IsTracked, IsPassing, NamesBelow, VersionsBelow}
use Rattle.log_laws.proofs.AddedEntries.{added_copied, object_added, tombstone_added}
use Rattle.log_laws.proofs.IndexPlaces.{place_set}
use Rattle.log_laws.proofs.ImageLists.{member_differs, at_from, grown_in, grown_last, grown_out, image_there}
use Rattle.log_laws.proofs.ImageLists.{have_grown}
use Rattle.log_laws.proofs.Premises.{IsSet}
use Rattle.log_laws.proofs.TrackedBags.{key_tells, of_same, of_other}

-- ---- images

pub images_there : (image : Images) (s z : ℕ) (es : List Entry) → (z ≡ s → ⊥) → images_with image s es z ≡ image z
images_there image s z [] other = refl
images_there image s z (e ∷ es) other =
    images_there (grown image s e) s z es other ∙ image_there image s (image s ++ e ∷ []) z other

images_in : (image : Images) (s z : ℕ) (es : List Entry) (f : Entry) → IsAmong f (image z)
    → IsAmong f (images_with image s es z)
images_in image s z [] f m = m
images_in image s z (e ∷ es) f m = images_in (grown image s e) s z es f (grown_in image s e z f m)

pub images_last : (image : Images) (s : ℕ) (es : List Entry) (f : Entry) → IsAmong f es
    → IsAmong f (images_with image s es s)
images_last image s [] f m = absurd m
images_last image s (e ∷ es) f (inl same) =
    images_in (grown image s e) s s es f
    (subst (λ (g : Entry). IsAmong g (grown image s e s)) same (grown_last image s e))
images_last image s (e ∷ es) f (inr m) = images_last (grown image s e) s es f m

pub images_out : (image : Images) (s z : ℕ) (es : List Entry) (f : Entry) → IsAmong f (images_with image s es z)
    → IsAmong f (image z) ⊎ ((z ≡ s) × IsAmong f es)
images_out image s z [] f m = inl m
images_out image s z (e ∷ es) f m = elim (images_out (grown image s e) s z es f m) [
  | inl a ↦ elim (grown_out image s e z f a) [ inl b ↦ inl b | inr w ↦ inr (w.0, inl w.1) ]
  | inr w ↦ inr (w.0, inr w.1)
]

-- ---- one entry

-- a pass goes on over what is appended
passing_appended : (log : LogSet) (pass : Pass) (index moved : Index) (rest : List Place) (head : ℕ) (e : Entry)
    → IsPassing log.ids log.image pass index rest
    → (IsAmong head pass.victims → ⊥) → (IsAmong head pass.survivors → ⊥)
    → ((k : Key) (p : Place) → moved k ≡ Some p → (index k ≡ Some p) ⊎ (p.segment ≡ head))
    → IsPassing log.ids (grown log.image head e) pass moved rest
passing_appended log pass index moved rest head e open_pass no_victim no_survivor to = record {
  victims_count = open_pass.victims_count;
  survivors_count = open_pass.survivors_count;
  disjoint = open_pass.disjoint;
  copies = λ z f k c m at. elim (grown_out log.image head e z f m) [
    | inl a ↦ have_grown log.image head e pass.victims f (open_pass.copies z f k c a at)
    | inr w ↦ absurd (member_differs pass.survivors z head c no_survivor w.0)
  ];
  live = λ k p i victim. elim (to k p i) [
    | inl was ↦ open_pass.live k p was victim
    | inr here ↦ absurd (member_differs pass.victims p.segment head victim no_victim here)
  ];
  carried = λ p t victim at named.
      let other = member_differs pass.victims p.segment head victim no_victim in
      let was = at_from log.image head _ p.segment p.position (Tombstone t) other at in
      elim (open_pass.carried p t victim was named) [
        | inl m ↦ inl m
        | inr c ↦ inr (have_grown log.image head e pass.survivors (Tombstone t) c)
      ];
}

-- What holds between two entries of a unit.
pub record IsStage (log : LogSet) (pass : Pass) (index : Index) (rest : List Place) (contents : Contents)
    (safe next : ℕ) : Type 0 where
  pub tracked : IsTracked log pass index contents
  pub passing : IsPassing log.ids log.image pass index rest
  pub below : (s : ℕ) → IsAmong s log.ids → s < next
  pub named_below : NamesBelow log next
  pub versions : (k : Key) → contents k ≡ None → VersionsBelow log k safe

module _ (pass : Pass) (rest : List Place) (next head : ℕ) (no_victim : IsAmong head pass.victims → ⊥)
    (no_survivor : IsAmong head pass.survivors → ⊥) where
  module _ (log : LogSet) (index : Index) (contents : Contents) (safe : ℕ)
      (is : IsStage log pass index rest contents safe next) (counts : IsAmong head log.ids) (moved : Index)
      (after : Contents) (more : ℕ) where
    -- versions of absent keys are below this, of what was there
    abbrev AreLow : Type 0
    AreLow = (k : Key) → after k ≡ None → (s : ℕ) (f : Entry) → SegmentHas log s f → IsOfKey k f → version_of f < more

    stage_object : (o : ObjectValue) → contents o.key ≡ None
        → ((z : ℕ) (f : Entry) → SegmentHas log z f → IsOfKey o.key f → rank_of f < 2 * o.version)
        → IsSet index moved o.key (Some (next_place log.image head))
        → IsSet contents after o.key (Some (versioned o))
        → AreLow → IsStage (copied log head (Object o)) pass moved rest after more next
    stage_object o absent above to changes old =
        let added = added_copied log head (Object o) in
        record {
          tracked = object_added log (copied log head (Object o)) head o added pass index moved contents after
              is.tracked counts to changes absent above;
          passing = passing_appended log pass index moved rest head (Object o) is.passing no_victim no_survivor
              (λ k p i. elim (key_tells k o.key) [
                | inl same ↦ (
                    let e = ap moved same in
                    let now = to.here in
                    let one : next_place log.image head ≡ p = cc in inr (ap (λ (z : Place). z.segment) (sym one)))
                | inr other ↦ inl (sym (to.there k other) ∙ i)
              ]);
          below = is.below;
          named_below = λ s t c m.
              elim (grown_out log.image head (Object o) s (Tombstone t) m) as (λ _. t.segment < next) [
                | inl a ↦ is.named_below s t c a
                | inr w ↦ (let e = w.1 in absurd (cc))
              ];
          versions = λ k gone s f m at. elim (added.out s f m) as (λ _. version_of f < more) [
            | inl l ↦ old k gone s f l at
            | inr w ↦ (
                let key : o.key ≡ k = of_same k (Object o) f w.1 at in
                let e = ap after key in
                let now = changes.here in absurd (cc))
          ];
        }

    stage_tombstone : (t : TombstoneValue) (x : Versioned) (p : Place) → contents t.key ≡ Some x
        → t.version ≡ x.version → index t.key ≡ Some p → t.segment ≡ p.segment → IsAmong p.segment log.ids
        → IsSet index moved t.key None → IsSet contents after t.key None → AreLow → t.version < more
        → IsStage (copied log head (Tombstone t)) pass moved rest after more next
    stage_tombstone t x p present version indexed names there to changes old lt =
        let added = added_copied log head (Tombstone t) in
        record {
          tracked = tombstone_added log (copied log head (Tombstone t)) head t added pass index moved contents after
              is.tracked (head, record { counts = counts; among = grown_last log.image head (Tombstone t) }) x present
              version p indexed names to changes;
          passing = passing_appended log pass index moved rest head (Tombstone t) is.passing no_victim no_survivor
              (λ k q i. elim (key_tells k t.key) [
                | inl same ↦ (let e = ap moved same in let now = to.here in absurd (cc))
                | inr other ↦ inl (sym (to.there k other) ∙ i)
              ]);
          below = is.below;
          named_below = λ s u c m.
              elim (grown_out log.image head (Tombstone t) s (Tombstone u) m) as (λ _. u.segment < next) [
                | inl a ↦ is.named_below s u c a
                | inr w ↦ (
                    let same : t ≡ u = cc (w.1) in
                    let e = ap (λ (z : TombstoneValue). z.segment) same in
                    let less = is.below p.segment there in omega arith)
              ];
          versions = λ k gone s f m at. elim (added.out s f m) as (λ _. version_of f < more) [
            | inl l ↦ old k gone s f l at
            | inr w ↦ subst (λ (g : Entry). version_of g < more) w.1 lt
          ];
        }

  -- ---- a command

  contents_set : (contents : Contents) (k : Key) (x : Option Versioned)
      → IsSet contents (with_contents contents k x) k x
  contents_set contents k x =
      record { here = at_key contents k x k refl; there = λ q other. at_other contents k x q other }

  module _ (ids : List ℕ) (image : Images) (text : Texts) (index : Index) (st : State)
      (counts : IsAmong head ids) where
    abbrev log : LogSet
    log = record { ids = ids; image = image; text = text }

    -- once this unit is appended
    abbrev Then : List Entry → State → Type 0
    Then unit to = IsStage (record { ids = ids; image = images_with image head unit; text = text }) pass
        (index_with image index head unit) rest to.contents to.safe next

    module _ (is : Then [] st) (segment : ℕ) (k : Key)
        (named : (p : Place) → index k ≡ Some p → segment ≡ p.segment) where
      -- a key that is absent then was so before, if this one is present
      was_absent : (contents : Contents) (x : Versioned) (q : Key) → with_contents contents k (Some x) q ≡ None
          → (q ≡ k → ⊥) × (contents q ≡ None)
      was_absent contents x q none =
          let other : q ≡ k → ⊥ = λ same. let e = at_key contents k (Some x) q same in absurd (cc) in
          (other, sym (at_other contents k (Some x) q other) ∙ none)

      put_new : (value : List ℕ) → st.contents k ≡ None
          → Then (put_unit st.safe segment k value None) (after_put st k value None)
      put_new value gone =
          let x : Versioned = record { version = st.safe; value = value } in
          stage_object log index st.contents st.safe is counts (with_place index k (Some (next_place image head)))
          (with_contents st.contents k (Some x)) (st.safe + 1)
          (record { key = k; version = st.safe; value = value }) gone
          (λ z f l at. rank_bound f st.safe (is.versions k gone z f l at))
          (place_set index k (Some (next_place image head))) (contents_set st.contents k (Some x))
          (λ q none s f l at.
          let lt = is.versions q (was_absent st.contents x q none).1 s f l at in omega arith)

      -- the tombstone of what the key has
      abbrev grave : Versioned → TombstoneValue
      grave x = record { key = k; version = x.version; segment = segment }

      gone_stage : (x : Versioned) → st.contents k ≡ Some x → (more : ℕ) → st.safe ≤ more → x.version < more
          → IsStage (copied log head (Tombstone (grave x))) pass (with_place index k None) rest
          (with_contents st.contents k None) more next
      gone_stage x has more le lt =
          let f = is.tracked.found k x has in
          stage_tombstone log index st.contents st.safe is counts (with_place index k None)
          (with_contents st.contents k None) more (grave x) x f.place has refl f.indexed
          (named f.place f.indexed) f.counts (place_set index k None) (contents_set st.contents k None)
          (λ q none s e l at. elim (key_tells q k) as (λ _. version_of e < more) [
            | inl same ↦ (
                let high = is.tracked.highest k x has s e l (of_other q k e same at) in
                let vb = version_bound e x.version high in omega arith)
            | inr other ↦ (
                let was = sym (at_other st.contents k None q other) ∙ none in
                let vl = is.versions q was s e l at in omega arith)
          ]) lt

      put_over : (value : List ℕ) (x : Versioned) → st.contents k ≡ Some x
          → Then (put_unit st.safe segment k value (Some x)) (after_put st k value (Some x))
      put_over value x has =
          let t = Tombstone (grave x) in
          let y : Versioned = record { version = x.version + 1; value = value } in
          let added = added_copied log head t in
          let first = gone_stage x has (st.safe + x.version + 1) (omega arith) (omega arith) in
          stage_object (copied log head t) (with_place index k None) (with_contents st.contents k None)
          (st.safe + x.version + 1) first counts
          (with_place (with_place index k None) k (Some (next_place (grown image head t) head)))
          (with_contents st.contents k (Some y)) st.safe
          (record { key = k; version = x.version + 1; value = value }) (at_key st.contents k None k refl)
          (λ z f l at. elim (added.out z f l) as (λ _. rank_of f < 2 * (x.version + 1)) [
            | inl a ↦ (let le = is.tracked.highest k x has z f a at in omega arith)
            | inr w ↦ (let r : 2 * x.version + 1 ≡ rank_of f = ap rank_of w.1 in omega arith)
          ])
          (place_set (with_place index k None) k (Some (next_place (grown image head t) head)))
          (record {
            here = at_key st.contents k (Some y) k refl;
            there = λ q other. at_other st.contents k (Some y) q other ∙ sym (at_other st.contents k None q other);
          })
          (λ q none s f l at.
          let was = was_absent st.contents y q none in
          elim (added.out s f l) as (λ _. version_of f < st.safe) [
            | inl a ↦ is.versions q was.1 s f a at
            | inr w ↦ absurd (was.0 (sym (of_same q t f w.1 at)))
          ])

      put_any : (value : List ℕ) (x : Option Versioned) → st.contents k ≡ x → (b : Bool)
          → Then (cond b (put_unit st.safe segment k value x) []) (cond b (after_put st k value x) st)
      put_any value x has false = is
      put_any value None has true = put_new value has
      put_any value (Some x) has true = put_over value x has

      delete_any : (x : Option Versioned) → st.contents k ≡ x → Then (delete_unit segment k x) (after_delete st k x)
      delete_any None has = is
      delete_any (Some x) has = gone_stage x has (max st.safe (x.version + 1)) (omega arith) (omega arith)

    pub command_then : (segment : ℕ) (c : Command)
        → ((p : Place) → index (command_key c) ≡ Some p → segment ≡ p.segment) → Then [] st
        → Then (unit_of st segment c) (after_command st c)
    command_then segment (Get k) named is = is
    command_then segment (Put k value when) named is =
        put_any is segment k named value (st.contents k) refl (is_met when (st.contents k))
    command_then segment (Delete k) named is = delete_any is segment k named (st.contents k) refl
