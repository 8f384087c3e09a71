-- A whole segment with fewer units at its end is a whole segment too.
use Rattle.std.proofs.Common.{◌≡◌, ℕ, true, List, ◌++◌, length, take, drop, Some, refl, sym, ap, subst, ◌∙◌}
use Rattle.std.proofs.Common.{append_assoc, arith}
use Rattle.std.proofs.lemmas.Bool.{and_parts}
use Rattle.std.proofs.lemmas.List.{length-append}
use Rattle.entry.specs.declared.entry.Entry.{Entry}
use Rattle.entry.specs.Format.{IsEntry}
use Rattle.entry.specs.Text.{Opening, text_of, are_data, ends_with, listed_ids}
use Rattle.entry.proofs.ListLemmas.{all_split}
use Rattle.segment.proofs.RowLemmas.{text_of-append}
use Rattle.log_laws.specs.Heads.{entries_of}
use Rattle.log_laws.proofs.Segments.{data_split, units_parts, units_all}
use Rattle.log_laws.specs.Text.{Text}
use Rattle.log_laws.specs.Data.{Head, opening_for, front, front_entries}
use Rattle.log_bytes.specs.Text.{entries_for, bytes_for, IsWholeText}

-- a head's text
abbrev head_text : Opening → List Entry → Text
head_text o es = record { opening = Some o; entries = es }

shorter : (master s : ℕ) (o : Opening) (xs ys : List Entry) → IsWholeText master s (head_text o (xs ++ ys))
    → IsWholeText master s (head_text o xs)
shorter master s o xs ys is =
    let order = and_parts (ends_with s (listed_ids o.digest)) (are_data (xs ++ ys)) is.segment_is.order in
    let last = order.0 in
    let first : are_data xs ≡ true = (data_split xs ys order.1).0 in
    let text = text_of-append (entries_for master s (head_text o xs)) ys in
    let size = length-append (bytes_for master s (head_text o xs)) (text_of ys) in
    let whole : length (bytes_for master s (head_text o (xs ++ ys)))
    ≡ length (bytes_for master s (head_text o xs) ++ text_of ys) = ap length text in
    let limit = is.limit in
    record {
      segment_is = record {
        each = (all_split IsEntry (entries_for master s (head_text o xs)) ys is.segment_is.each).0;
        order = rw (last, first) refl;
      };
      limit = omega arith;
    }

-- a head's front is whole if the head is
pub front_whole : (master : ℕ) (h : Head) (count : ℕ) → IsWholeText master h.start.id (front h (length h.units))
    → IsWholeText master h.start.id (front h count)
front_whole master h count is =
    let parts : front_entries h (length h.units) ≡ front_entries h count ++ entries_of (drop count h.units) =
    ap (λ (es : List Entry). h.loaded ++ es) (ap entries_of (units_all h.units) ∙ units_parts h.units count)
    ∙ sym (append_assoc h.loaded (entries_of (take count h.units)) (entries_of (drop count h.units))) in
    shorter master h.start.id (opening_for h.start) (front_entries h count) (entries_of (drop count h.units))
    (subst (λ (es : List Entry). IsWholeText master h.start.id (head_text (opening_for h.start) es)) parts is)
