-- A reader of a text's bytes gets the text that was written.
use Rattle.std.proofs.Common.{◌≡◌, ℕ, arith, true, List, ◌∷◌, Some, refl, sym, ap, subst, ◌∙◌}
use Rattle.std.specs.Prelude.{Option, None, IsSomeAnd, filter, length}
use Rattle.std.specs.Option.{option_map}
use Rattle.std.proofs.lemmas.Bool.{and_parts}
use Rattle.std.proofs.lemmas.Option.{same_Some}
use Rattle.entry.specs.declared.entry.Role.{Role}
use Rattle.entry.specs.declared.entry.Role.TheVariants as role
use Rattle.entry.specs.declared.entry.Header.{Header}
use Rattle.entry.specs.declared.entry.Entry.{Entry}
use Rattle.entry.specs.declared.entry.Entry.TheVariants as entry
use Rattle.entry.specs.Text.{text_of, is_data, are_data, is_whole, is_head_rest, is_rest, ends_with, listed_ids}
use Rattle.entry.specs.Text.{entries_in}
use Rattle.entry.specs.Text.{header_of, opening_of, Opening, IsSegment}
use Rattle.replica.specs.Picture.{Replica, Shown}
use Rattle.log_laws.specs.ReplicaBytes.{IsTextOfSegment}
use Rattle.log_laws.proofs.Segments.{data_alone}
use Rattle.log_laws.specs.Text.{Text, Replica as ModelReplica}
use Rattle.log_laws.specs.Shown.{Shown as ModelShown}
use Rattle.log_bytes.specs.Text.{entries_for, bytes_for, IsWholeText}
use Rattle.log_bytes.specs.Spelled.{spelled_replica, IsSpelled, read_replica, read_shown}
use Rattle.log_bytes.specs.Laws.{TextsAreSpelled, SpelledIsRead}
use Rattle.log_bytes.proofs.Texts.{no_opening, reads_opening, reads_data, reads_text}

-- ---- a text that is read

-- the text that is read of a segment's entries
abbrev text_read : List Entry → Text
text_read es = record { opening = opening_of es; entries = filter is_data es }

-- its entries are these
head_written : (h : Header) (es : List Entry) → h.role ≡ role.Head → is_head_rest h.segment es ≡ true
    → entries_for h.master h.segment (text_read (entry.Header h ∷ es)) ≡ entry.Header h ∷ es
head_written h (entry.Digest d ∷ entry.Safe v ∷ rest) is whole =
    let behind = data_alone rest (and_parts (ends_with h.segment (listed_ids d)) (are_data rest) whole).1 in
    (λ i. entry.Header (record { master = h.master; segment = h.segment; role = sym is i })
    ∷ entry.Digest d ∷ entry.Safe v ∷ behind i)
head_written h _ is whole = absurd (cc)

survivor_written : (h : Header) (es : List Entry) → h.role ≡ role.Survivor → are_data es ≡ true
    → entries_for h.master h.segment (text_read (entry.Header h ∷ es)) ≡ entry.Header h ∷ es
survivor_written h es is are =
    let none = no_opening h es are in
    let behind = data_alone es are in
    ap (λ (o : Option Opening). entries_for h.master h.segment
    (record { opening = o; entries = filter is_data es })) none
    ∙ (λ i. entry.Header (record { master = h.master; segment = h.segment; role = sym is i }) ∷ behind i)

rest_written : (h : Header) (es : List Entry) (r : Role) → h.role ≡ r → is_rest r h.segment es ≡ true
    → entries_for h.master h.segment (text_read (entry.Header h ∷ es)) ≡ entry.Header h ∷ es
rest_written h es role.Head is whole = head_written h es is whole
rest_written h es role.Survivor is whole = survivor_written h es is whole

-- the header names master and segment
abbrev Names : ℕ → ℕ → Header → Type 0
Names master s h = (h.master ≡ master) × (h.segment ≡ s)

all_written : (master s : ℕ) (es : List Entry) → is_whole es ≡ true → IsSomeAnd (header_of es) (Names master s)
    → entries_for master s (text_read es) ≡ es
all_written master s (entry.Header h ∷ es) whole names =
    (λ i. entries_for (sym names.0 i) (sym names.1 i) (text_read (entry.Header h ∷ es)))
    ∙ rest_written h es h.role refl whole
all_written master s _ whole names = absurd (cc)

module _ (master s : ℕ) (bytes : List ℕ) (is : IsTextOfSegment bytes master s) where
  same_entries : entries_for master s (text_read (entries_in bytes)) ≡ entries_in bytes
  same_entries = all_written master s (entries_in bytes) is.text.text.segment.order is.header

  -- the bytes are those of the text that is read of them
  pub bytes_written : bytes_for master s (text_read (entries_in bytes)) ≡ bytes
  bytes_written = ap text_of same_entries ∙ sym is.text.text.text

  -- which is a whole segment's
  pub text_is_whole : IsWholeText master s (text_read (entries_in bytes))
  text_is_whole = record {
    segment_is = subst IsSegment (sym same_entries) is.text.text.segment;
    limit = let same = ap length bytes_written in let limit = is.text.limit in omega arith;
  }

pub texts_are_spelled : TextsAreSpelled
texts_are_spelled master shown texts = record {
  replicas = λ b s. each b s (shown.holds b master s) refl;
  least = refl;
  segments = λ b s r is. whole b s r (shown.holds b master s) refl is;
} where
  each : (b s : ℕ) (o : Option Replica) → shown.holds b master s ≡ o
      → o ≡ option_map (spelled_replica master s) (option_map read_replica o)
  each b s None is = refl
  each b s (Some r) is =
      let bytes = bytes_written master s r.bytes (texts b s r is) in
      (λ i. Some (record { bytes = sym bytes i; is_open = r.is_open }))

  whole : (b s : ℕ) (q : ModelReplica) (o : Option Replica) → shown.holds b master s ≡ o
      → option_map read_replica o ≡ Some q → IsWholeText master s q.text
  whole b s q None is read = absurd (cc)
  whole b s q (Some r) is read =
      subst (λ (x : ModelReplica). IsWholeText master s x.text) (same_Some (read_replica r) q read)
      (text_is_whole master s r.bytes (texts b s r is))

-- ---- what is shown

module _ (master : ℕ) (shown : Shown) (p : ModelShown) (spelled : IsSpelled master shown p) where
  -- a replica that is held spells one of the model
  pub held_spelled : (b s : ℕ) (r : Replica) → shown.holds b master s ≡ Some r
      → (q : ModelReplica) × (p.holds b s ≡ Some q) × (r ≡ spelled_replica master s q)
  held_spelled b s r held = go (p.holds b s) refl (sym (spelled.replicas b s) ∙ held) where
    go : (o : Option ModelReplica) → p.holds b s ≡ o → option_map (spelled_replica master s) o ≡ Some r
        → (q : ModelReplica) × (p.holds b s ≡ Some q) × (r ≡ spelled_replica master s q)
    go None is e = absurd (cc)
    go (Some q) is e = (q, is, sym (same_Some (spelled_replica master s q) r e))

  -- and one of the model is spelled by one that is held
  pub spelled_held : (b s : ℕ) (q : ModelReplica) → p.holds b s ≡ Some q
      → shown.holds b master s ≡ Some (spelled_replica master s q)
  spelled_held b s q is = spelled.replicas b s ∙ ap (option_map (spelled_replica master s)) is

  -- which is read from it
  pub read_back : (s : ℕ) (q : ModelReplica) → IsWholeText master s q.text
      → read_replica (spelled_replica master s q) ≡ q
  read_back s q is =
      let opening = reads_opening master s q.text is in
      let entries = reads_data master s q.text is in
      (λ i. record { text = record { opening = opening i; entries = entries i }; is_open = q.is_open })

  holds_read : (b s : ℕ) → option_map read_replica (shown.holds b master s) ≡ p.holds b s
  holds_read b s = go (p.holds b s) refl where
    go : (o : Option ModelReplica) → p.holds b s ≡ o
        → option_map read_replica (shown.holds b master s) ≡ p.holds b s
    go None is =
        ap (option_map read_replica) (spelled.replicas b s ∙ ap (option_map (spelled_replica master s)) is) ∙ sym is
    go (Some q) is =
        ap (option_map read_replica) (spelled_held b s q is)
        ∙ ap (λ (x : ModelReplica). Some x) (read_back s q (spelled.segments b s q is)) ∙ sym is

  pub shown_read : read_shown master shown ≡ p
  shown_read = let least = spelled.least in
      (λ i. record { holds = λ b s. holds_read b s i; least = least i })

  pub texts_held : (b s : ℕ) (r : Replica) → shown.holds b master s ≡ Some r → IsTextOfSegment r.bytes master s
  texts_held b s r held =
      let q = held_spelled b s r held in
      subst (λ (x : Replica). IsTextOfSegment x.bytes master s) (sym q.2)
      (reads_text master s q.0.text (spelled.segments b s q.0 q.1))

pub spelled_is_read : SpelledIsRead
spelled_is_read master shown p spelled = (shown_read master shown p spelled, texts_held master shown p spelled)
