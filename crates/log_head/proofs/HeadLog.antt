-- Which head of the log an image holds after each step of a head.
use Rattle.std.proofs.Common.{◌≡◌, ℕ, zero, suc, true, ◌+◌, ◌-◌, ◌≤◌, List, [], ◌∷◌, ◌++◌, length, take, drop, refl}
use Rattle.std.proofs.Common.{sym, ap, subst, ◌∙◌, append_assoc, arith}
use Rattle.std.specs.Prelude.{Option, Some, None, IfSome, map, filter}
use Rattle.std.specs.List.{AllByRecursion}
use Rattle.std.proofs.lemmas.List.{append-nil, length-append, take_at, take_all}
use Rattle.entry.specs.declared.digest.Listed.{Listed}
use Rattle.entry.specs.declared.digest.Digest.{Digest}
use Rattle.entry.specs.declared.digest.Digest.TheVariants as digest
use Rattle.entry.specs.declared.entry.Entry.{Entry}
use Rattle.entry.specs.Limits.{ids_in}
use Rattle.entry.specs.Format.{IsEntry}
use Rattle.entry.specs.Text.{text_of, is_data, is_whole, entries_in, data_in, Opening, opening_of, listed_ids}
use Rattle.entry.specs.Text.{IsSegment}
use Rattle.entry.proofs.TextLemmas.{entries_in-text}
use Rattle.entry.proofs.ListLemmas.{all_split}
use Rattle.segment.proofs.RowLemmas.{text_of-append}
use Rattle.log_laws.specs.Heads.{Start, LogUnit, Head, listed_with, own_listed, digest_with, digest_for}
use Rattle.log_laws.specs.Heads.{start_entries, entries_of, head_entries}
use Rattle.log_laws.specs.HeadSteps.{units_between}
use Rattle.log_laws.proofs.ListedIds.{ids_listed}
use Rattle.log_laws.proofs.Segments.{data_split, data_alone, start_order}
use Rattle.log_head.specs.declared.head.UnitEnd.{UnitEnd}
use Rattle.log_head.specs.Head.{HeadValue, end_of}
use Rattle.log_head.specs.Steps.{fresh_head, with_unit_end, counts_without, lost}
use Rattle.log_head.specs.Log.{but_last, other_lens, start_in, HasLens, entries_between, units_from, loaded_in}
use Rattle.log_head.specs.Log.{head_of, AreEnds, IsImageOf}
use Rattle.log_head.proofs.Heads.{text_more}

-- ---- the opening

pub but_last_is : (xs : List ℕ) (x : ℕ) → but_last (xs ++ x ∷ []) ≡ xs
but_last_is [] x = refl
but_last_is (y ∷ []) x = refl
but_last_is (y ∷ z ∷ zs) x = ap (λ (l : List ℕ). y ∷ l) (but_last_is (z ∷ zs) x)

lens_with : (others ns : List ℕ) → length ns ≡ length others
    → map (λ (s : Listed). s.len) (listed_with others ns) ≡ ns
lens_with [] [] same = refl
lens_with [] (n ∷ ns) same = absurd (omega arith)
lens_with (s ∷ others) [] same = absurd (omega arith)
lens_with (s ∷ others) (n ∷ ns) same = ap (λ (l : List ℕ). n ∷ l) (lens_with others ns (omega arith))

lens_push : (ss : List Listed) (own : Listed)
    → map (λ (s : Listed). s.len) (ss ++ own ∷ []) ≡ map (λ (s : Listed). s.len) ss ++ own.len ∷ []
lens_push [] own = refl
lens_push (s ∷ ss) own = ap (λ (l : List ℕ). s.len ∷ l) (lens_push ss own)

lens_read : (others : List ℕ) (lens : Option (List ℕ)) (id : ℕ)
    → IfSome lens (λ (ns : List ℕ). length ns ≡ length others) → other_lens (digest_with others lens id) ≡ lens
lens_read others None id same = refl
lens_read others (Some ns) id same =
    ap (λ (l : List ℕ). Some (but_last l)) (lens_push (listed_with others ns) (own_listed others id))
    ∙ ap (λ (l : List ℕ). Some l)
    (but_last_is (map (λ (s : Listed). s.len) (listed_with others ns)) (own_listed others id).len
    ∙ lens_with others ns same)

-- what a head begins with is read from its opening
pub start_read : (n : Start) → HasLens n
    → start_in n.id (Some (record { digest = digest_for n; safe = n.safe })) ≡ n
start_read n has =
    let others = ap but_last (ids_listed n) ∙ but_last_is n.others n.id in
    let lens = lens_read n.others n.lens n.id has in
    (λ i. record { id = n.id; others = others i; lens = lens i; safe = n.safe })

-- there is a length for each id that is read
length_last : (ss : List Listed) → length (but_last (map (λ (s : Listed). s.len) ss)) ≡ length (but_last (ids_in ss))
length_last [] = refl
length_last (s ∷ []) = refl
length_last (s ∷ t ∷ ss) = ap suc (length_last (t ∷ ss))

lens_listed : (d : Digest)
    → IfSome (other_lens d) (λ (ns : List ℕ). length ns ≡ length (but_last (listed_ids d)))
lens_listed (digest.Ids ids) = tt
lens_listed (digest.Lengths segments) = length_last segments

pub read_has : (id : ℕ) (o : Option Opening) → HasLens (start_in id o)
read_has id None = tt
read_has id (Some o) = lens_listed o.digest

-- ---- the units

drop_at : (xs ys : List ℕ) (n : ℕ) → n ≡ length xs → drop n (xs ++ ys) ≡ ys
drop_at [] ys n is = ap (λ (k : ℕ). drop k ys) is
drop_at (x ∷ xs) ys zero is = absurd (omega arith)
drop_at (x ∷ xs) ys (suc n) is = drop_at xs ys n (omega arith)

-- the bytes of a middle part
middle : (xs ys zs : List ℕ) (from to : ℕ) → from ≡ length xs → to ≡ from + length ys
    → take (to - from) (drop from (xs ++ (ys ++ zs))) ≡ ys
middle xs ys zs from to at size =
    let len : to - from ≡ length ys = omega arith in
    ap (take (to - from)) (drop_at xs (ys ++ zs) from at) ∙ take_at ys zs (to - from) (sym len)

entries_of_cons : (u : LogUnit) (us : List LogUnit) → entries_of (u ∷ us) ≡ u.entries ++ entries_of us
entries_of_cons u us = refl

-- the units are read from the bytes behind any others
units_are : (us : List LogUnit) (es : List UnitEnd) (before : List ℕ) (from : ℕ) → from ≡ length before
    → AllByRecursion IsEntry (entries_of us) → AreEnds from es us
    → units_from (before ++ text_of (entries_of us)) from es ≡ us
units_are [] [] before from at each ends = refl
units_are [] (e ∷ es) before from at each ends = absurd ends
units_are (u ∷ us) [] before from at each ends = absurd ends
units_are (u ∷ us) (e ∷ es) before from at each ends =
    let split = all_split IsEntry u.entries (entries_of us) each in
    let own = text_of u.entries in
    let rest = text_of (entries_of us) in
    let parts : text_of (entries_of (u ∷ us)) ≡ text_of u.entries ++ text_of (entries_of us) =
    text_of-append u.entries (entries_of us) in
    let here : entries_between (before ++ text_of (entries_of (u ∷ us))) from e.end ≡ u.entries =
    ap (λ (bs : List ℕ). entries_in (take (e.end - from) (drop from (before ++ bs)))) parts
    ∙ ap entries_in (middle before own rest from e.end at ends.1)
    ∙ entries_in-text u.entries split.0 in
    let size : e.end ≡ length (before ++ text_of u.entries) = ends.1 ∙ ap (λ (n : ℕ). n + length (text_of u.entries)) at
    ∙ sym (length-append before (text_of u.entries)) in
    let later : units_from (before ++ text_of (entries_of (u ∷ us))) e.end es ≡ us =
    ap (λ (bs : List ℕ). units_from (before ++ bs) e.end es) parts
    ∙ ap (λ (bs : List ℕ). units_from bs e.end es) (sym (append_assoc before own rest))
    ∙ units_are us es (before ++ own) e.end size split.1 ends.2 in
    (λ i. record { number = ends.0 i; entries = here i } ∷ later i)

module _ (master : ℕ) (h : HeadValue) (l : Head) (is : IsImageOf master h l) where
  -- what comes before the units
  abbrev base_entries : List Entry
  base_entries = start_entries master l.start ++ l.loaded

  -- the head's entries up to a unit
  entries_at : (n : ℕ) → head_entries master l n ≡ base_entries ++ entries_of (take n l.units)
  entries_at n = sym (append_assoc (start_entries master l.start) l.loaded (entries_of (take n l.units)))

  base_is : h.base ≡ length (text_of base_entries)
  base_is = is.base ∙ ap (λ (es : List Entry). length (text_of es)) (entries_at 0 ∙ append-nil base_entries)

  units_all : take (length l.units) l.units ≡ l.units
  units_all = take_all (length l.units) l.units (omega arith)

  image_is : h.image ≡ base_entries ++ entries_of l.units
  image_is = is.image ∙ entries_at (length l.units)
      ∙ ap (λ (us : List LogUnit). base_entries ++ entries_of us) units_all

  text_is : text_of h.image ≡ text_of base_entries ++ text_of (entries_of l.units)
  text_is = ap text_of image_is ∙ text_of-append base_entries (entries_of l.units)

  -- what the image says is this head
  pub head_is : IsSegment h.image → head_of h ≡ l
  head_is segment =
      let each = subst (λ (es : List Entry). AllByRecursion IsEntry es) image_is segment.each in
      let split = all_split IsEntry base_entries (entries_of l.units) each in
      let start : start_in h.id (opening_of h.image) ≡ l.start =
      (λ i. start_in (sym is.id i) (opening_of (image_is i)))
      ∙ start_read l.start is.lens in
      let order : is_whole (base_entries ++ entries_of l.units) ≡ true =
      subst (λ (es : List Entry). is_whole es ≡ true) image_is segment.order in
      let objects = data_split l.loaded (entries_of l.units)
      (start_order master l.start (l.loaded ++ entries_of l.units) order).1 in
      let bytes : take h.base (text_of h.image) ≡ text_of base_entries =
      ap (take h.base) text_is ∙ take_at (text_of base_entries) (text_of (entries_of l.units)) h.base (sym base_is) in
      let loaded : loaded_in h ≡ l.loaded =
      ap data_in bytes ∙ ap (filter is_data) (entries_in-text base_entries split.0) ∙ data_alone l.loaded objects.0 in
      let units : units_from (text_of h.image) h.base h.units ≡ l.units =
      ap (λ (bs : List ℕ). units_from bs h.base h.units) text_is
      ∙ units_are l.units h.units (text_of base_entries) h.base base_is split.1 is.ends in
      (λ i. record { start = start i; loaded = loaded i; units = units i; taken = sym is.taken i })

  -- ---- ends

  ends_are : (us : List LogUnit) (es : List UnitEnd) (from n : ℕ) → AreEnds from es us
      → end_of from es n ≡ from + length (text_of (entries_of (take n us)))
  ends_are us es from zero ends = omega arith
  ends_are [] [] from (suc n) ends = omega arith
  ends_are [] (e ∷ es) from (suc n) ends = absurd ends
  ends_are (u ∷ us) [] from (suc n) ends = absurd ends
  ends_are (u ∷ us) (e ∷ es) from (suc n) ends =
      let later = ends_are us es e.end n ends.2 in
      let parts = text_more u.entries (entries_of (take n us)) in
      let here = ends.1 in omega arith

  -- a replica with the first units is as long as these end
  pub end_is : (n : ℕ) → end_of h.base h.units n ≡ length (text_of (head_entries master l n))
  end_is n =
      let at = ends_are l.units h.units h.base n is.ends in
      let base = base_is in
      let parts = text_more base_entries (entries_of (take n l.units)) in
      let whole : length (text_of (head_entries master l n))
      ≡ length (text_of (base_entries ++ entries_of (take n l.units))) =
      ap (λ (es : List Entry). length (text_of es)) (entries_at n) in
      omega arith

  -- there are as many ends as units
  pub count_is : length h.units ≡ length l.units
  count_is = go h.base h.units l.units is.ends where
    go : (from : ℕ) (es : List UnitEnd) (us : List LogUnit) → AreEnds from es us → length es ≡ length us
    go from [] [] ends = refl
    go from [] (u ∷ us) ends = absurd ends
    go from (e ∷ es) [] ends = absurd ends
    go from (e ∷ es) (u ∷ us) ends = ap suc (go e.end es us ends.2)

  -- ---- parts of the image

  take_drop : (n : ℕ) (us : List LogUnit) → entries_of (take n us) ++ entries_of (drop n us) ≡ entries_of us
  take_drop zero us = refl
  take_drop (suc n) [] = refl
  take_drop (suc n) (u ∷ us) =
      append_assoc u.entries (entries_of (take n us)) (entries_of (drop n us))
      ∙ ap (λ (es : List Entry). u.entries ++ es) (take_drop n us)

  between : (us : List LogUnit) (m n : ℕ) → m ≤ n → entries_of (take m us) ++ entries_of (units_between us m n)
      ≡ entries_of (take n us)
  between us zero n le = refl
  between us (suc m) zero le = absurd (omega arith)
  between [] (suc m) (suc n) le = refl
  between (u ∷ us) (suc m) (suc n) le =
      append_assoc u.entries (entries_of (take m us)) (entries_of (units_between us m n))
      ∙ ap (λ (es : List Entry). u.entries ++ es) (between us m n (omega arith))

  -- the bytes of the image up to a unit
  pub front_is : (n : ℕ) → take (end_of h.base h.units n) (text_of h.image) ≡ text_of (head_entries master l n)
  front_is n =
      let front = base_entries ++ entries_of (take n l.units) in
      let rest = entries_of (drop n l.units) in
      let image : h.image ≡ (base_entries ++ entries_of (take n l.units)) ++ entries_of (drop n l.units) =
      image_is ∙ ap (λ (es : List Entry). base_entries ++ es) (sym (take_drop n l.units))
      ∙ sym (append_assoc base_entries (entries_of (take n l.units)) (entries_of (drop n l.units))) in
      let bytes : text_of h.image ≡ text_of front ++ text_of rest = ap text_of image ∙ text_of-append front rest in
      let len : end_of h.base h.units n ≡ length (text_of front) = end_is n
      ∙ ap (λ (es : List Entry). length (text_of es)) (entries_at n) in
      ap (take (end_of h.base h.units n)) bytes ∙ take_at (text_of front) (text_of rest)
      (end_of h.base h.units n) (sym len)
      ∙ ap text_of (sym (entries_at n))

  -- the bytes of the image between two units are those of the units between them
  pub part_is : (m n : ℕ) → m ≤ n
      → take (end_of h.base h.units n - end_of h.base h.units m) (drop (end_of h.base h.units m) (text_of h.image))
      ≡ text_of (entries_of (units_between l.units m n))
  part_is m n le =
      let front = base_entries ++ entries_of (take m l.units) in
      let own = entries_of (units_between l.units m n) in
      let rest = entries_of (drop n l.units) in
      let image : h.image ≡ front ++ (own ++ rest) =
      image_is ∙ ap (λ (es : List Entry). base_entries ++ es)
      (sym (take_drop n l.units) ∙ ap (λ (es : List Entry). es ++ entries_of (drop n l.units))
      (sym (between l.units m n le))
      ∙ append_assoc (entries_of (take m l.units)) (entries_of (units_between l.units m n))
      (entries_of (drop n l.units)))
      ∙ sym (append_assoc base_entries (entries_of (take m l.units)) (own ++ rest)) in
      let bytes : text_of h.image ≡ text_of front ++ (text_of own ++ text_of rest) =
      ap text_of image ∙ text_of-append front (own ++ rest)
      ∙ ap (λ (bs : List ℕ). text_of front ++ bs) (text_of-append own rest) in
      let from : end_of h.base h.units m ≡ length (text_of front) = end_is m
      ∙ ap (λ (es : List Entry). length (text_of es)) (entries_at m) in
      let upto : end_of h.base h.units n ≡ length (text_of (base_entries ++ entries_of (take n l.units))) =
      end_is n ∙ ap (λ (es : List Entry). length (text_of es)) (entries_at n) in
      let joined : base_entries ++ entries_of (take n l.units) ≡ front ++ own =
      ap (λ (es : List Entry). base_entries ++ es) (sym (between l.units m n le))
      ∙ sym (append_assoc base_entries (entries_of (take m l.units)) own) in
      let sum = text_more front own in
      let whole : length (text_of (base_entries ++ entries_of (take n l.units))) ≡ length (text_of (front ++ own)) =
      ap (λ (es : List Entry). length (text_of es)) joined in
      let to : end_of h.base h.units n ≡ end_of h.base h.units m + length (text_of own) = omega arith in
      ap (λ (bs : List ℕ). take (end_of h.base h.units n - end_of h.base h.units m)
      (drop (end_of h.base h.units m) bs)) bytes
      ∙ middle (text_of front) (text_of own) (text_of rest) (end_of h.base h.units m) (end_of h.base h.units n) from to

  -- ---- steps

  entries_push : (us : List LogUnit) (u : LogUnit) → entries_of (us ++ u ∷ []) ≡ entries_of us ++ u.entries
  entries_push [] u = append-nil u.entries
  entries_push (v ∷ us) u = ap (λ (es : List Entry). v.entries ++ es) (entries_push us u)
      ∙ sym (append_assoc v.entries (entries_of us) u.entries)

  ends_push : (us : List LogUnit) (es : List UnitEnd) (from : ℕ) (u : LogUnit) (e : UnitEnd) → AreEnds from es us
      → e.number ≡ u.number
      → e.end ≡ from + length (text_of (entries_of us)) + length (text_of u.entries)
      → AreEnds from (es ++ e ∷ []) (us ++ u ∷ [])
  ends_push [] [] from u e ends number at = (number, omega arith, tt)
  ends_push [] (x ∷ es) from u e ends number at = absurd ends
  ends_push (v ∷ us) [] from u e ends number at = absurd ends
  ends_push (v ∷ us) (x ∷ es) from u e ends number at =
      let parts = text_more v.entries (entries_of us) in
      let here = ends.1 in
      (ends.0, ends.1, ends_push us es x.end u e ends.2 number (omega arith))

  -- with one more unit the image holds the head with one more unit
  pub image_with_unit : (number : ℕ) (unit : List Entry)
      → IsImageOf master (with_unit_end h number unit) (record l
      { units = l.units ++ record { number = number; entries = unit } ∷ [] })
  image_with_unit number unit =
      let u : LogUnit = record { number = number; entries = unit } in
      let more : List LogUnit = l.units ++ u ∷ [] in
      let all : take (length (l.units ++ u ∷ [])) (l.units ++ u ∷ []) ≡ l.units ++ u ∷ [] =
      take_all (length (l.units ++ u ∷ [])) (l.units ++ u ∷ []) (omega arith) in
      let whole : text_of h.image ≡ text_of base_entries ++ text_of (entries_of l.units) = text_is in
      let size : length (text_of h.image) ≡ h.base + length (text_of (entries_of l.units)) =
      ap length text_is ∙ length-append (text_of base_entries) (text_of (entries_of l.units))
      ∙ ap (λ (n : ℕ). n + length (text_of (entries_of l.units))) (sym base_is) in
      let end = text_more h.image unit in
      record {
        id = is.id;
        lens = is.lens;
        image = ap (λ (es : List Entry). es ++ unit) image_is
            ∙ append_assoc base_entries (entries_of l.units) unit
            ∙ ap (λ (es : List Entry). base_entries ++ es) (sym (entries_push l.units u) ∙ ap entries_of (sym all))
            ∙ append_assoc (start_entries master l.start) l.loaded
            (entries_of (take (length (l.units ++ u ∷ [])) (l.units ++ u ∷ [])));
        base = is.base;
        ends = ends_push l.units h.units h.base u (record { number = number; end = length (text_of (h.image ++ unit)) })
            is.ends refl (omega arith);
        taken = is.taken;
      }

  -- what replicas have changes nothing else
  pub image_with_counts : (ks : List ℕ) → IsImageOf master (record h { taken = ks }) (record l { taken = ks })
  image_with_counts ks = record {
    id = is.id;
    lens = is.lens;
    image = is.image;
    base = is.base;
    ends = is.ends;
    taken = refl;
  }

  -- nor do a lost replica and an abandoned roll
  pub image_lost : (replica : Option ℕ)
      → IsImageOf master (lost h replica) (record l { taken = counts_without h.taken replica })
  image_lost replica = record {
    id = is.id;
    lens = is.lens;
    image = is.image;
    base = is.base;
    ends = is.ends;
    taken = refl;
  }

-- a head that begins
pub image_fresh : (master replicas : ℕ) (start : Start) → HasLens start
    → IsImageOf master (fresh_head master replicas start)
    (record { start = start; loaded = []; units = []; taken = [] })
image_fresh master replicas start has = record {
  id = refl;
  lens = has;
  image = sym (append-nil (start_entries master start));
  base = refl;
  ends = tt;
  taken = refl;
}
