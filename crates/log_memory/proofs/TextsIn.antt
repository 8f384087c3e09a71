-- What memory has of a segment, as a text: the opening is that of the segment's text, the length its image's.
use Rattle.std.proofs.Common.{◌≡◌, ℕ, inl, inr, Bool, true, false, cond, List, [], ◌∷◌, length, refl, sym, ap, subst}
use Rattle.std.proofs.Common.{◌∙◌}
use Rattle.std.specs.Prelude.{None, filter}
use Rattle.entry.specs.declared.key.Key.{Key}
use Rattle.entry.specs.declared.entry.Entry.{Entry}
use Rattle.entry.specs.declared.entry.Entry.TheVariants as entry
use Rattle.entry.specs.Bag.{IsAmong}
use Rattle.entry.specs.Meaning.{IsOfKey}
use Rattle.entry.specs.Text.{text_of, is_data, opening_of}
use Rattle.log_bytes.specs.log_laws.Text.{Text, length_of}
use Rattle.log_bytes.specs.log_laws.Steps.{survivor_text}
use Rattle.log_bytes.proofs.Texts.{length_is}
use Rattle.log_memory.proofs.Openings.{IsImage, image_opening}

-- ---- objects and tombstones have keys

-- An entry of some key, among these.
pub record IsKeyed (es : List Entry) (e : Entry) : Type 0 where
  pub key : Key
  pub of_key : IsOfKey key e
  pub among : IsAmong e es

has_key : (e : Entry) → is_data e ≡ true → (k : Key) × IsOfKey k e
has_key (entry.Header h) is = absurd (cc)
has_key (entry.Digest l) is = absurd (cc)
has_key (entry.Safe version) is = absurd (cc)
has_key (entry.Object o) is = (o.key, refl)
has_key (entry.Tombstone t) is = (t.key, refl)

pub data_keyed : (e : Entry) (es : List Entry) → IsAmong e (filter is_data es) → IsKeyed es e
data_keyed e [] m = absurd m
data_keyed e (x ∷ es) m = go (λ l. data_keyed e es l) (is_data x) refl m where
  more : IsKeyed es e → IsKeyed (x ∷ es) e
  more is = record { key = is.key; of_key = is.of_key; among = inr is.among }

  go : (IsAmong e (filter is_data es) → IsKeyed es e) → (b : Bool) → is_data x ≡ b
      → IsAmong e (cond b (x ∷ filter is_data es) (filter is_data es)) → IsKeyed (x ∷ es) e
  go later true is (inl same) =
      let has = has_key e (subst (λ (y : Entry). is_data y ≡ true) same is) in
      record { key = has.0; of_key = has.1; among = inl same }
  go later true is (inr l) = more (later l)
  go later false is l = more (later l)

-- ---- an image as a text

module _ (master s : ℕ) (t : Text) (image : List Entry) (is : IsImage master s t image) where
  -- the segment's text with other objects and tombstones
  pub image_text : record { opening = opening_of image; entries = filter is_data image }
      ≡ record t { entries = filter is_data image }
  image_text j = record { opening = image_opening master s t image is j; entries = filter is_data image }

  -- that of a survivor has no opening
  pub image_survivor : t.opening ≡ None
      → record { opening = opening_of image; entries = filter is_data image } ≡ survivor_text (filter is_data image)
  image_survivor bare j = record {
    opening = (image_opening master s t image is ∙ bare) j;
    entries = filter is_data image;
  }

  -- if the text has just these, the image is as long
  pub image_length : t.entries ≡ filter is_data image → length (text_of image) ≡ length_of t
  image_length same =
      ap (λ (es : List Entry). length (text_of es)) is
      ∙ length_is master s (record t { entries = filter is_data image })
      ∙ ap length_of (λ j. record { opening = t.opening; entries = sym same j })
