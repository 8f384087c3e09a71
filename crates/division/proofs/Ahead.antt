-- A walk over the text of a segment, entry by entry.
use Rattle.std.proofs.Common.{◌≡◌, ℕ, ◌+◌, ◌-◌, ◌<◌, ◌≤◌, List, [], ◌∷◌, length, take, drop}
use Rattle.std.proofs.Common.{Option, Some, None, refl, sym, ap, ◌∙◌, arith}
use Rattle.std.specs.List.{AllByRecursion}
use Rattle.std.specs.Option.{option_map, option_map_or}
use Rattle.std.proofs.lemmas.List.{length-append, length-drop, take_rest, drop_at, drop-drop}
use Rattle.entry.specs.declared.entry.Entry.{Entry}
use Rattle.entry.specs.declared.fault.EntryFault.{EntryFault}
use Rattle.entry.specs.Format.{spelling, IsEntry, front_of, first_fault}
use Rattle.entry.specs.Text.{text_of}
use Rattle.entry.proofs.TextLemmas.{front_of-spelling, spelling-some}
use Rattle.segment.specs.Bytes.{standing_at}
use Rattle.segment.proofs.RowLemmas.{front_of-fault}

-- from the offset on, the bytes are the text of these entries
pub record IsAhead (bytes : List ℕ) (at : ℕ) (left : List Entry) : Type 0 where
  pub within : at ≤ length bytes
  pub text : drop at bytes ≡ text_of left
  pub each : AllByRecursion IsEntry left

-- the entry at the offset is the first of them
pub record IsNext (bytes : List ℕ) (at : ℕ) (left : List Entry) (e : Entry) (n : ℕ) : Type 0 where
  pub later : List Entry
  pub is : left ≡ e ∷ later
  pub stands : standing_at at bytes ≡ Some e
  pub ahead : IsAhead bytes (at + n) later

pub ahead_first : (bytes : List ℕ) (es : List Entry) → bytes ≡ text_of es → AllByRecursion IsEntry es
    → IsAhead bytes 0 es
ahead_first bytes es is each = record { within = omega arith; text = is; each = each }

-- before the end of the bytes an entry is there
ahead_front : (bytes : List ℕ) (at : ℕ) (e : Entry) (later : List Entry) → IsAhead bytes at (e ∷ later)
    → front_of (drop at bytes) ≡ Some (e, length (spelling e))
ahead_front bytes at e later h = ap front_of h.text ∙ front_of-spelling e (text_of later) h.each.0

pub ahead_none : (bytes : List ℕ) (at : ℕ) (left : List Entry) → IsAhead bytes at left → length bytes ≤ at → left ≡ []
ahead_none bytes at [] h past = refl
ahead_none bytes at (e ∷ later) h past =
    absurd (omega (
      arith,
      past,
      ap length h.text,
      length-drop at bytes,
      length-append (spelling e) (text_of later),
      spelling-some e,
    ))

not_some : {X : Type 0} {x : X} → None ≡ Some x → ⊥
not_some is = absurd (cc)

pub ahead_some : (bytes : List ℕ) (at : ℕ) (left : List Entry) (f : EntryFault) → IsAhead bytes at left
    → at < length bytes → first_fault (take (length bytes - at) (drop at bytes)) ≡ Some f → ⊥
ahead_some bytes at [] f h lt is = absurd (omega (arith, lt, ap length h.text, length-drop at bytes))
ahead_some bytes at (e ∷ later) f h lt is =
    let none : front_of (drop at bytes) ≡ None = front_of-fault (drop at bytes) f (rw take_rest at is) in
    not_some (sym none ∙ ahead_front bytes at e later h)

-- ---- what is read

front_entry : (x e : Entry) (m n : ℕ) (r : Option (Entry × ℕ)) → r ≡ Some (x, m) → r ≡ Some (e, n) → (x ≡ e) × (m ≡ n)
front_entry x e m n r first again =
    let is = sym first ∙ again in (
      ap (λ (r : Option (Entry × ℕ)). option_map_or (λ (p : Entry × ℕ). p.0) r x) is,
      ap (λ (r : Option (Entry × ℕ)). option_map_or (λ (p : Entry × ℕ). p.1) r m) is,
    )

pub ahead_next : (bytes : List ℕ) (at : ℕ) (left : List Entry) (e : Entry) (n : ℕ) → IsAhead bytes at left
    → front_of (take (length bytes - at) (drop at bytes)) ≡ Some (e, n) → IsNext bytes at left e n
ahead_next bytes at left e n h read = go left h
  where
    there : front_of (drop at bytes) ≡ Some (e, n)
    there = rw take_rest at read

    go : (left : List Entry) → IsAhead bytes at left → IsNext bytes at left e n
    go [] h = absurd (not_some (sym (ap front_of h.text) ∙ there))
    go (x ∷ later) h =
        let parts = front_entry x e (length (spelling x)) n (front_of (drop at bytes)) (ahead_front bytes at x later h)
        there in
        let size : length (spelling x) ≡ n = parts.1 in
        record {
          later = later;
          is = ap (λ (f : Entry). f ∷ later) parts.0;
          stands = ap (λ (r : Option (Entry × ℕ)). option_map (λ (front : Entry × ℕ). front.0) r) there;
          ahead = record {
            within = omega (
              arith,
              h.within,
              size,
              ap length h.text,
              length-drop at bytes,
              length-append (spelling x) (text_of later),
            );
            text =
                sym (drop-drop n at bytes) ∙ ap (λ (l : List ℕ). drop n l) h.text
                ∙ drop_at (spelling x) (text_of later) n size;
            each = h.each.1;
          };
        }
