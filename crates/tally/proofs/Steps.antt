-- What a put, a delete or a copy makes of live bytes.
use Rattle.std.proofs.Common.{◌≡◌, ℕ, ◌+◌, ◌<◌, true, false, List, ◌∷◌, ◌++◌, length, sym, ap, ◌∙◌, arith}
use Rattle.std.specs.Prelude.{Option, Some}
use Rattle.entry.specs.declared.key.Key.{Key}
use Rattle.entry.specs.declared.entry.Object.{Object}
use Rattle.entry.specs.declared.entry.Entry.{Entry}
use Rattle.entry.specs.declared.entry.Entry.TheVariants as entry
use Rattle.entry.specs.Format.{spelling}
use Rattle.entry.specs.Text.{text_of}
use Rattle.entry.proofs.TextLemmas.{length_first, spelling-some}
use Rattle.places.specs.declared.place.Place.{Place}
use Rattle.places.specs.Map.{Places, found, AreKept, IsSet}
use Rattle.places.specs.Relocation.{names}
use Rattle.places.proofs.Words.{found_named}
use Rattle.segment.proofs.RowLemmas.{text_of-append}
use Rattle.std.proofs.lemmas.List.{length-append}
use Rattle.compactor.specs.Places.{LiesAt}
use Rattle.tally.specs.Live.{live_from, live_bytes}
use Rattle.tally.specs.Laws.{IsBehind, OthersStay, OneDies, MoreCount}
use Rattle.tally.proofs.Naming.{names_same, names_gone}
use Rattle.tally.proofs.Sums.{live_append, all_same, one_dies}

-- an entry that lies in a segment begins before the segment's end
lies_before : (es : List Entry) (at : ℕ) (e : Entry) → LiesAt es at e → at < length (text_of es)
lies_before es at e s =
    let whole : length (text_of es) ≡ length (text_of (s.before ++ e ∷ s.after)) =
    ap (λ (xs : List Entry). length (text_of xs)) s.split in
    omega (
      arith,
      whole,
      ap length (text_of-append s.before (e ∷ s.after)),
      length-append (text_of s.before) (text_of (e ∷ s.after)),
      length_first e s.after,
      spelling-some e,
      s.offset,
    )

abbrev spot : ℕ → ℕ → Place
spot segment n = record { segment = segment; at = n }

same_spot : (segment n m : ℕ) → Some (spot segment n) ≡ Some (spot segment m) → n ≡ m
same_spot segment n m is =
    let place : spot segment n ≡ spot segment m = cc in
    ap (λ (p : Place). p.at) place

module _ (keys : Place → Option Key) (old new : Places) (k : Key) (x : Option Place) (segment : ℕ) (es : List Entry)
    (all : AreKept keys old) (set : IsSet keys old k x new) (behind : IsBehind segment es x) where
  -- no entry begins at the key's new place
  not_new : (n : ℕ) → n < length (text_of es) → x ≡ Some (record { segment = segment; at = n }) → ⊥
  not_new n lt is =
      let le = behind (record { segment = segment; at = n }) is (λ i. segment) in
      omega (arith, lt, le)

  pub others_stay : ((p : Place) → found keys k old ≡ Some p → p.segment ≡ segment → ⊥)
      → live_bytes new segment es ≡ live_bytes old segment es
  others_stay elsewhere =
      all_same old new segment 0 (length (text_of es)) 0 es
      (λ n from to q. names_same keys old new k x all set q (record { segment = segment; at = n })
      (λ is. elsewhere (record { segment = segment; at = n }) is (λ i. segment)) (not_new n to))
      (omega arith) (omega arith)

  pub dies : (was : Place) (o : Object) → found keys k old ≡ Some was → was.segment ≡ segment
      → LiesAt es was.at (entry.Object o) → o.key ≡ k
      → live_bytes old segment es ≡ live_bytes new segment es + length (spelling (entry.Object o))
  dies was o is here lies key =
      let there : was ≡ record { segment = segment; at = was.at } =
      ap (λ (s : ℕ). record was { segment = s }) here in
      let found_there : found keys k old ≡ Some (record { segment = segment; at = was.at }) =
      is ∙ ap (λ (p : Place). Some p) there in
      let within = lies_before es was.at (entry.Object o) lies in
      let named : names old k (record { segment = segment; at = was.at }) ≡ true =
      found_named keys k (record { segment = segment; at = was.at }) old all found_there in
      let gone : names new k (record { segment = segment; at = was.at }) ≡ false =
      names_gone keys old new k x all set (record { segment = segment; at = was.at }) found_there
      (not_new was.at within) in
      one_dies old new segment es was.at o lies
      (ap (λ (q : Key). names old q (record { segment = segment; at = was.at })) key ∙ named)
      (ap (λ (q : Key). names new q (record { segment = segment; at = was.at })) key ∙ gone)
      (λ n to other q. names_same keys old new k x all set q (record { segment = segment; at = n })
      (λ found_here. other (same_spot segment n was.at (sym found_here ∙ found_there))) (not_new n to))

pub others_stay_law : OthersStay
others_stay_law keys old new k x segment es all set behind elsewhere =
    others_stay keys old new k x segment es all set behind elsewhere

pub one_dies_law : OneDies
one_dies_law keys old new k x segment es all set behind was o is here lies key =
    dies keys old new k x segment es all set behind was o is here lies key

pub more_count : MoreCount
more_count held segment es more =
    let start : 0 + length (text_of es) ≡ length (text_of es) = omega arith in
    live_append held segment 0 es more
    ∙ ap (λ (n : ℕ). live_bytes held segment es + live_from held segment n more) start
