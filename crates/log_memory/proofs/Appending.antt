-- What images and texts have when a unit is appended to the head; and a command that appends nothing.
use Rattle.std.proofs.Common.{◌≡◌, ℕ, ◌⊎◌, inl, inr, Bool, true, false, cond, List, [], ◌∷◌, ◌++◌, length, refl, sym}
use Rattle.std.proofs.Common.{ap, subst, ◌∙◌, append_assoc}
use Rattle.std.specs.Prelude.{Option, Some, None, filter}
use Rattle.std.proofs.lemmas.Bool.{cases_eq}
use Rattle.std.proofs.lemmas.List.{append-nil}
use Rattle.entry.specs.declared.key.Key.{Key}
use Rattle.entry.specs.declared.entry.Entry.{Entry}
use Rattle.entry.specs.Bag.{IsAmong}
use Rattle.entry.specs.Meaning.{Versioned, IsOfKey}
use Rattle.entry.specs.Text.{is_data}
use Rattle.entry.proofs.BagLemmas.{among_left, among_right, among_either}
use Rattle.versioned_map.specs.declared.command.Command.{Command}
use Rattle.versioned_map.specs.declared.command.Command.TheVariants.{Get, Put, Delete}
use Rattle.versioned_map.specs.Represents.{unit_of}
use Rattle.versioned_map.specs.Units.{put_unit, delete_unit}
use Rattle.versioned_map.specs.Versioned.{State, is_met, after_put, after_delete, after_command}
use Rattle.versioned_map.proofs.Units.{units_data}
use Rattle.log_bytes.specs.log_laws.Heads.{entries_of}
use Rattle.log_bytes.proofs.log_laws.Fronts.{unit_entries}
use Rattle.log_bytes.specs.log_laws.Memory.{Images, grown}
use Rattle.log_bytes.specs.log_laws.ImageSteps.{images_with}
use Rattle.log_bytes.specs.log_laws.Tracked.{AreTexted}
use Rattle.log_bytes.proofs.log_laws.AppendedUnits.{images_there, images_last, images_out}
use Rattle.log_bytes.proofs.log_laws.ImageLists.{image_here}
use Rattle.log_bytes.specs.log_laws.Text.{Text}
use Rattle.log_bytes.specs.log_laws.Data.{FailData, front}
use Rattle.log_bytes.specs.log_laws.Log.{Texts, IsLogged}
use Rattle.log_bytes.specs.log_laws.Steps.{with_appended, texts_appended}
use Rattle.log_bytes.proofs.log_laws.States.{whole_front, own_entries}
use Rattle.log_bytes.proofs.log_laws.Texts.{text_there, text_other}
use Rattle.log_memory.specs.Memory.{FailMemory, entries_in, log_ids, log_set_of, AreImages}
use Rattle.log_memory.proofs.Openings.{IsData, IsImage, image_still, image_longer}

-- ---- nothing

-- a command that appends nothing changes nothing
pub unit_none : (st : State) (segment : ℕ) (c : Command) → unit_of st segment c ≡ [] → after_command st c ≡ st
unit_none st segment (Get k) is = refl
unit_none st segment (Put k value when) is = go (st.contents k) (is_met when (st.contents k)) is where
  go : (x : Option Versioned) (b : Bool) → cond b (put_unit st.safe segment k value x) [] ≡ []
      → cond b (after_put st k value x) st ≡ st
  go x false is = refl
  go None true is = absurd (cc)
  go (Some v) true is = absurd (cc)
unit_none st segment (Delete k) is = go (st.contents k) is where
  go : (x : Option Versioned) → delete_unit segment k x ≡ [] → after_delete st k x ≡ st
  go None is = refl
  go (Some v) is = absurd (cc)

-- ---- a unit

-- it has objects and tombstones alone
pub unit_data : (st : State) (segment : ℕ) (c : Command) → IsData (unit_of st segment c)
unit_data st segment c =
    let u = unit_of st segment c in
    let all = units_data st (c ∷ []) (u ∷ []) ((segment, refl), tt) in
    ap (filter is_data) (sym (append-nil u)) ∙ all.1 ∙ append-nil u

images_here : (image : Images) (s : ℕ) (es : List Entry) → images_with image s es s ≡ image s ++ es
images_here image s [] = sym (append-nil (image s))
images_here image s (e ∷ es) =
    images_here (grown image s e) s es
    ∙ ap (λ (l : List Entry). l ++ es) (image_here image s (image s ++ e ∷ []))
    ∙ append_assoc (image s) (e ∷ []) es

module _ (d : FailData) (m : FailMemory) (texts : Texts) (log : IsLogged d texts) (unit : List Entry) where
  abbrev id : ℕ
  id = d.head.start.id

  abbrev now : Texts
  now = texts_appended d texts unit

  abbrev images : Images
  images = images_with m.images id unit

  abbrev whole : Text
  whole = front (with_appended d d.history unit).head (length (with_appended d d.history unit).head.units)

  text_now : entries_in now id ≡ entries_in texts id ++ unit
  text_now =
      ap (λ (t : Text). t.entries) (text_there texts id whole)
      ∙ whole_front (with_appended d d.history unit).head
      ∙ ap (λ (es : List Entry). d.head.loaded ++ es) (unit_entries d.head.units (length d.history) unit)
      ∙ sym (append_assoc d.head.loaded (entries_of d.head.units) unit)
      ∙ ap (λ (es : List Entry). es ++ unit) (sym (own_entries d texts log))

  pub text_still : (z : ℕ) → (z ≡ id → ⊥) → now.text z ≡ texts.text z
  text_still z other = text_other texts id whole z other

  entries_still : (z : ℕ) → (z ≡ id → ⊥) → entries_in now z ≡ entries_in texts z
  entries_still z other = ap (λ (t : Text). t.entries) (text_still z other)

  -- what a text has an image has, or the text had it
  pub appended_from : (z : ℕ) (f : Entry) → IsAmong f (entries_in now z)
      → IsAmong f (images z) ⊎ IsAmong f (entries_in texts z)
  appended_from z f l = elim (cases_eq z id) [
    | inl same ↦
        elim (among_either f (entries_in texts id) unit
        (subst (λ (es : List Entry). IsAmong f es) (ap (entries_in now) same ∙ text_now) l)) [
          | inl a ↦ inr (subst (λ (y : ℕ). IsAmong f (entries_in texts y)) (sym same) a)
          | inr u ↦ inl (subst (λ (y : ℕ). IsAmong f (images y)) (sym same) (images_last m.images id unit f u))
        ]
    | inr other ↦ inr (subst (λ (es : List Entry). IsAmong f es) (entries_still z other) l)
  ]

  -- what an image has of a key its text has
  pub appended_texted : AreTexted (log_set_of d m texts) m.pass → (z : ℕ) (f : Entry) (k : Key)
      → IsAmong z (log_ids d m) → (IsAmong z m.pass.survivors → ⊥) → IsOfKey k f → IsAmong f (images z)
      → IsAmong f (entries_in now z)
  appended_texted before z f k c not at l = elim (images_out m.images id z unit f l) [
    | inl a ↦ (
        let old = before z f k c not at a in
        elim (cases_eq z id) as (λ _. IsAmong f (entries_in now z)) [
          | inl same ↦ subst (λ (es : List Entry). IsAmong f es) (sym (ap (entries_in now) same ∙ text_now))
              (among_left f (entries_in texts id) unit (subst (λ (y : ℕ). IsAmong f (entries_in texts y)) same old))
          | inr other ↦ subst (λ (es : List Entry). IsAmong f es) (sym (entries_still z other)) old
        ])
    | inr w ↦ subst (λ (es : List Entry). IsAmong f es) (sym (ap (entries_in now) w.0 ∙ text_now))
        (among_right f (entries_in texts id) unit w.1)
  ]

  -- what is appended stands behind the opening
  pub appended_images : IsData unit → AreImages d m texts → (z : ℕ) → IsAmong z (log_ids d m)
      → IsImage d.config.master z (now.text z) (images z)
  appended_images bare are z c = elim (cases_eq z id)
      as (λ _. IsImage d.config.master z (now.text z) (images z)) [
        | inl same ↦ subst (λ (y : ℕ). IsImage d.config.master y (now.text y) (images y)) (sym same)
            (image_still d.config.master id (texts.text id) (now.text id) (m.images id ++ unit) (images id)
            (ap (λ (t : Text). t.opening) (text_there texts id whole)
            ∙ sym (ap (λ (t : Text). t.opening) log.text)) (images_here m.images id unit)
            (image_longer d.config.master id (texts.text id) (m.images id) unit bare
            (are id (subst (λ (y : ℕ). IsAmong y (log_ids d m)) same c))))
        | inr other ↦ image_still d.config.master z (texts.text z) (now.text z) (m.images z) (images z)
            (ap (λ (t : Text). t.opening) (text_still z other)) (images_there m.images id z unit other) (are z c)
      ]
