-- What a pass keeps has room in its survivors.
use Rattle.std.proofs.Common.{◌≡◌, ℕ, ◌+◌, List, length, sym, ap, subst, ◌∙◌, arith}
use Rattle.entry.specs.declared.entry.Entry.{Entry}
use Rattle.entry.specs.Text.{text_of}
use Rattle.cleaner.specs.declared.level.Level.{Level}
use Rattle.cleaner.specs.Filling.{HasRooms, AreSome}
use Rattle.cleaner.specs.KeptLengths.{kept_lengths, lengths_left}
use Rattle.cleaner.specs.Laws.{BeginHasRoomsIn, SurvivorsDoNotGrow, RoomsStay}
use Rattle.cleaner.specs.Passes.{images_in, places_of, rest_of, level_of}
use Rattle.cleaner.proofs.Ends.{rest_same, rest_segment}
use Rattle.cleaner.proofs.Fillings.{begin_has_rooms, fewer_fill_no_more, fewer_rooms, rooms_count}
use Rattle.cleaner.proofs.Lengths.{lengths_agree, no_more_are_some}
use Rattle.cleaner.proofs.Places.{of_segment, of_same}
use Rattle.cleaner.proofs.SegmentFits.{victims_fit}
use Rattle.cleaner.proofs.SurvivorIds.{id_among}

abbrev pub level : ℕ → ℕ → Level
level i x = record { survivor = i; len = x }

pub level_same : (i j x y : ℕ) → i ≡ j → x ≡ y → level i x ≡ level j y
level_same i j x y is at = ap (λ (n : ℕ). level n x) is ∙ ap (λ (n : ℕ). level j n) at

-- ---- a pass begins

pub begin_has_rooms_in : BeginHasRoomsIn
begin_has_rooms_in segment ids p images held least none rest valid enough blank =
    let ns = kept_lengths ids held (images_in images) (places_of (images_in images) p.victims) in
    let left : lengths_left ids p images held ≡ ns = ap (kept_lengths ids held (images_in images)) rest in
    let len : length (text_of (images_in images (p.survivors.first + p.filling))) ≡ 18 =
    blank (p.survivors.first + p.filling)
    (id_among p.survivors.first p.survivors.count p.filling (omega (arith, none, enough))) in
    record {
      rooms =
          subst (λ (a : Level). HasRooms segment p.survivors.count a (lengths_left ids p images held))
          (sym (level_same p.filling 0 (length (text_of (images_in images (p.survivors.first + p.filling)))) 18 none
          len))
          (subst (λ (xs : List ℕ). HasRooms segment p.survivors.count (level 0 18) xs) (sym left)
          (begin_has_rooms segment p.survivors.count ns least
          (victims_fit segment ids held (images_in images) p.victims valid) (omega (arith, enough))));
      blank = λ i lt less.
          blank (p.survivors.first + i) (id_among p.survivors.first p.survivors.count i less);
    }

-- ---- less is kept

pub survivors_do_not_grow : SurvivorsDoNotGrow
survivors_do_not_grow segment ids again held later images after victims same so =
    let places : places_of after victims ≡ places_of images victims = of_same images after victims same in
    let lengths : kept_lengths again later after (places_of after victims)
    ≡ kept_lengths again later images (places_of images victims) =
    ap (kept_lengths again later after) places
    ∙ lengths_agree again later images after (places_of images victims)
    (λ p m. same p.segment (of_segment images victims p m)) in
    fewer_fill_no_more segment (kept_lengths again later after (places_of after victims))
    (kept_lengths ids held images (places_of images victims))
    (subst (λ (ns : List ℕ). AreSome ns (kept_lengths ids held images (places_of images victims))) (sym lengths)
    (no_more_are_some ids again held later images (places_of images victims) so))

pub rooms_stay : RoomsStay
rooms_stay segment ids again p images after held later same own so r =
    let rest : rest_of (images_in after) p ≡ rest_of (images_in images) p =
    rest_same (images_in images) (images_in after) p same in
    let lengths : lengths_left again p after later
    ≡ kept_lengths again later (images_in images) (rest_of (images_in images) p) =
    ap (kept_lengths again later (images_in after)) rest
    ∙ lengths_agree again later (images_in images) (images_in after) (rest_of (images_in images) p)
    (λ q m. same q.segment (rest_segment (images_in images) p q m)) in
    let some : AreSome (lengths_left again p after later) (lengths_left ids p images held) =
    subst (λ (ns : List ℕ). AreSome ns (lengths_left ids p images held)) (sym lengths)
    (no_more_are_some ids again held later (images_in images) (rest_of (images_in images) p) so) in
    let count = rooms_count segment p.survivors.count (level_of p images) (lengths_left ids p images held) r.rooms in
    let level_is : level_of p after ≡ level_of p images =
    ap (λ (es : List Entry). level p.filling (length (text_of es)))
    (own (p.survivors.first + p.filling) (id_among p.survivors.first p.survivors.count p.filling count)) in
    record {
      rooms =
          subst (λ (a : Level). HasRooms segment p.survivors.count a (lengths_left again p after later)) (sym level_is)
          (fewer_rooms segment p.survivors.count (level_of p images) (lengths_left ids p images held)
          (lengths_left again p after later) some r.rooms);
      blank = λ i lt less.
          ap (λ (es : List Entry). length (text_of es))
          (own (p.survivors.first + i) (id_among p.survivors.first p.survivors.count i less))
          ∙ r.blank i lt less;
    }
