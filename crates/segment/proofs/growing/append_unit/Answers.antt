use Rattle.std.proofs.Common.{◌≡◌, ◌++◌, ◌≤◌, List, length, map, ap, ℕ, refl, ◌∙◌, arith, length-append}
use Rattle.entry.specs.Text.{text_of, entries_in, IsTextOf}
use Rattle.entry.specs.View.{shown}
use Rattle.segment.proofs.WalkLemmas.{IsTextOf-entries_in, IsSegmentBytes-from_text}
use Rattle.segment.proofs.UnitLemmas.{IsTextOf-append}
use Rattle.segment.proofs.growing.append_unit.Goals.{After-write_all}
use Rattle.segment.proofs.growing.append_unit.Goals as goal

module _ (c : After-write_all) where
  abbrev old : List ℕ
  old = c.args.text.now.items

  abbrev new : List ℕ
  new = c.write_all.new.out.items

  longer : new ≡ old ++ text_of (map shown c.args.unit.now)
  longer = c.write_all.ensures.items
      ∙ ap (λ (l : List ℕ). l ++ text_of (map shown c.args.unit.now)) c.in_ok-reserve.ensures.items

  is_text : IsTextOf new (entries_in old ++ map shown c.args.unit.now)
  is_text = IsTextOf-append old new (map shown c.args.unit.now) c.requires.segment
      c.in-Some-len_within.ensures.valid c.requires.«data» longer

pub returns-clause-valid : goal.returns-clause-valid
returns-clause-valid c =
    let old = c.args.text.now.items in
    let unit = map shown c.args.unit.now in
    let fits : length (text_of unit) ≤ c.in-Some.room = c.in-Some-len_within.ensures.fits.0 refl in
    let room = c.in-Some.ensures in
    let limit : length c.write_all.new.out.items ≤ 8388608 =
    omega (arith, ap length (longer c), length-append old (text_of unit), room.0, room.1) in
    IsSegmentBytes-from_text c.write_all.new.out.items (entries_in old ++ unit) (is_text c) limit

pub returns-clause-ok : goal.returns-clause-ok
returns-clause-ok c =
    IsTextOf-entries_in c.write_all.new.out.items (entries_in c.args.text.now.items ++ map shown c.args.unit.now)
    (is_text c)
