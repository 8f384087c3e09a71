-- Objects within a limit can be loaded.
use Rattle.std.proofs.Common.{◌≡◌, ℕ, ◌+◌, ◌*◌, ◌%◌, ◌<◌, ◌≤◌, inl, inr, Bool, true, false, List, [], ◌∷◌, refl}
use Rattle.std.proofs.Common.{sym, ap, subst, arith}
use Rattle.std.specs.Prelude.{◌⊎◌, if◌then◌else◌, sum}
use Rattle.std.specs.Int.{div_ceil}
use Rattle.std.proofs.lemmas.Bool.{and_from, leb-true, leb-false, le-leb}
use Rattle.std.proofs.lemmas.Grind.{div_ceil_times}
use Rattle.std.proofs.lemmas.List.Sums.{sum_by-cons}
use Rattle.packing.specs.declared.new_log.NewLog.{NewLog}
use Rattle.packing.specs.declared.sizes.Sizes.{Sizes}
use Rattle.packing.specs.Packing.{AreSound, whole, most_ids, opening_len, empty_log, rolled, longer, takes}
use Rattle.packing.specs.Packing.{with_object, packed, seglets_at}
use Rattle.packing.specs.Limits.{IsLimit, AreLengths, mean_opening}
use Rattle.packing.specs.Laws.{WithinLimitLoads}
use Rattle.packing.proofs.Numbers.{few_heads, closes_more, bytes_more, whole_more, enough_whole, enough_bytes}
use Rattle.packing.proofs.Numbers.{whole_is, within_whole}
use Rattle.packing.proofs.Heads.{opening_le, mean_le, mean_more}

-- What holds once objects of so many bytes are loaded.
record Holds (s : Sizes) (most heads : ℕ) (l : NewLog) (done : ℕ) : Type 0 where
  few : l.closed ≤ heads
  begins : opening_len s (l.closed + 1) ≤ l.len
  within : l.len ≤ s.segment
  closes : l.closed * (s.segment + 1) + l.len
      ≤ done + l.closed * most + l.closed * mean_opening s l.closed + opening_len s (l.closed + 1)
  bytes : l.used * s.seglet + l.len
      ≤ done + l.closed * s.seglet + l.closed * mean_opening s l.closed + opening_len s (l.closed + 1)
  counts : l.used ≤ l.closed * whole s

-- It holds of a log, for some bytes that are no more than there may be.
record Ends (s : Sizes) (most heads live : ℕ) (l : NewLog) : Type 0 where
  done : ℕ
  below : done ≤ live
  holds : Holds s most heads l done

module _ (s : Sizes) (most heads live : ℕ) (sound : AreSound s) (multiple : s.segment % s.seglet ≡ 0)
    (limit : IsLimit s most heads live) where
  some_seglet : 0 < s.seglet
  some_seglet = let least = sound.seglet in omega arith

  first_holds : Holds s most heads (empty_log s) 0
  first_holds =
      let fits = limit.fits in
      let low = opening_le s 1 (heads + 1) (omega arith) in
      record {
        few = omega arith;
        begins = omega arith;
        within = omega arith;
        closes = omega arith;
        bytes = omega arith;
        counts = omega arith;
      }

  module _ (l : NewLog) (done n : ℕ) (holds : Holds s most heads l done) (some : 0 < n) (small : n ≤ most)
      (below : done + n ≤ live) where
    longer_holds : l.len + n ≤ s.segment → Holds s most heads (longer l n) (done + n)
    longer_holds le =
        let begins = holds.begins in
        let closes = holds.closes in
        let bytes = holds.bytes in
        record {
          few = holds.few;
          begins = omega arith;
          within = le;
          closes = omega arith;
          bytes = omega arith;
          counts = holds.counts;
        }

    module _ (over : s.segment < l.len + n) where
      -- the closed heads' openings, with that of the head that closes
      openings : (l.closed + 1) * mean_opening s (l.closed + 1)
          ≡ l.closed * mean_opening s l.closed + opening_len s (l.closed + 1)
      openings = mean_more s l.closed

      last : l.closed ≡ heads
          → live + (l.closed + 1) * most + (l.closed * mean_opening s l.closed + opening_len s (l.closed + 1))
          ≤ (l.closed + 1) * (s.segment + 1)
      last is =
          let closes = subst (λ (h : ℕ). live + (h + 1) * (most + mean_opening s (h + 1)) ≤ (h + 1) * (s.segment + 1))
          (sym is) limit.closes in
          let same = openings in omega arith

      one_more : l.closed + 1 ≤ heads
      one_more = few_heads s.segment most l.closed heads l.len done n live (l.closed * mean_opening s l.closed)
          (opening_len s (l.closed + 1)) holds.few holds.closes over small some below last

      ceil : div_ceil l.len s.seglet * s.seglet < l.len + s.seglet
      ceil = (div_ceil_times l.len s.seglet some_seglet).1

      rolled_within : opening_len s (l.closed + 2) + n ≤ s.segment
      rolled_within =
          let le = one_more in
          let low = opening_le s (l.closed + 2) (heads + 1) (omega arith) in
          let fits = limit.fits in omega arith

      -- `l.closed + 1 + 1` and `l.closed + 2` are one number
      next_is : opening_len s (l.closed + 1 + 1) ≡ opening_len s (l.closed + 2)
      next_is = ap (opening_len s) (omega arith)

      rolled_holds : Holds s most heads (longer (rolled s l) n) (done + n)
      rolled_holds =
          let next = next_is in
          let same = openings in
          let closes = closes_more s.segment most l.closed l.len done n (l.closed * mean_opening s l.closed)
          (opening_len s (l.closed + 1)) (opening_len s (l.closed + 2)) holds.closes over small in
          let bytes = bytes_more l.used s.seglet (div_ceil l.len s.seglet) l.closed l.len done n
          (l.closed * mean_opening s l.closed) (opening_len s (l.closed + 1)) (opening_len s (l.closed + 2))
          holds.bytes ceil in
          record {
            few = one_more;
            begins = omega arith;
            within = rolled_within;
            closes = omega arith;
            bytes = omega arith;
            counts = whole_more l.used (whole s) (div_ceil l.len s.seglet) l.closed holds.counts
                (within_whole s.segment s.seglet l.len (div_ceil l.len s.seglet) (whole s)
                (whole_is s.segment s.seglet multiple) holds.within ceil);
          }

    one_holds : Holds s most heads (with_object s l n) (done + n)
    one_holds = go (takes s l n) refl where
      go : (t : Bool) → takes s l n ≡ t
          → Holds s most heads (if t then longer l n else longer (rolled s l) n) (done + n)
      go true test = longer_holds (leb-true _ _ test)
      go false test = rolled_holds (leb-false _ _ test)

  all_hold : (ns : List ℕ) (l : NewLog) (done : ℕ) → Holds s most heads l done → AreLengths most ns
      → done + sum ns ≤ live → Ends s most heads live (packed s l ns)
  all_hold [] l done holds lengths below = record { done = done; below = omega arith; holds = holds }
  all_hold (n ∷ ns) l done holds lengths below =
      let parts = sum_by-cons (λ (x : ℕ). x) n ns in
      all_hold ns (with_object s l n) (done + n)
      (one_holds l done n holds lengths.0.0 lengths.0.1 (omega arith)) lengths.1 (omega arith)

  places_left : (l : NewLog) → Ends s most heads live l → l.closed + 2 ≤ most_ids s
  places_left l e =
      let most = limit.places in
      let le = e.holds.few in omega arith

  memory_left : (l : NewLog) → Ends s most heads live l → seglets_at s l + 2 * whole s ≤ s.seglets
  memory_left l e = go limit.memory
    where
      go : ((heads + 5) * whole s ≤ s.seglets)
          ⊎ (5 * whole s * s.seglet + live + heads * (mean_opening s heads + s.seglet) ≤ s.seglets * s.seglet)
          → seglets_at s l + 2 * whole s ≤ s.seglets
      go (inl enough) = enough_whole l.used (whole s) s.seglets l.closed heads e.holds.counts e.holds.few enough
      go (inr enough) =
          enough_bytes l.used (whole s) s.seglet s.seglets l.len e.done (opening_len s (l.closed + 1))
          (mean_opening s l.closed) (mean_opening s heads) l.closed heads live e.holds.bytes e.holds.begins e.holds.few
          (mean_le s l.closed heads e.holds.few) e.below some_seglet enough

pub within_limit_loads : WithinLimitLoads
within_limit_loads s most heads live ns sound multiple limit lengths below =
    let ends = all_hold s most heads live sound multiple limit ns (empty_log s) 0
    (first_holds s most heads live sound multiple limit) lengths (omega (arith, below)) in
    let places = places_left s most heads live sound multiple limit (packed s (empty_log s) ns) ends in
    let memory = memory_left s most heads live sound multiple limit (packed s (empty_log s) ns) ends in
    record {
      places = le-leb _ _ places;
      memory = memory;
      loads = and_from _ _ (le-leb _ _ places) (le-leb _ _ (omega (arith, memory)));
    }
