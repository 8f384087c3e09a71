use Rattle.std.proofs.Common.{◌≡◌, ◌+◌, ◌≤◌, List, [], ◌∷◌, ◌++◌, ◌∙◌, length, map, refl, ap, arith}
use Rattle.std.proofs.lemmas.List.{length-append}
use Rattle.entry.specs.declared.entry.Entry.{Entry}
use Rattle.entry.specs.Text.{text_of}
use Rattle.entry.specs.View.{shown}
use Rattle.log_head.specs.declared.head.UnitEnd.{UnitEnd}
use Rattle.log_head.specs.Head.{EndAt, IsHeadValue}
use Rattle.log_head.proofs.Heads.{EndAt_push, all_more, text_more}
use Rattle.log_head.proofs.head.Head.append.Goals as goal

grown : (c : goal.After-push_reserved) → IsHeadValue (record {
  id = c.self.inside.id;
  replicas = c.self.inside.replicas;
  image = c.append.new.self;
  base = c.self.inside.base;
  units = c.push_reserved.new.self.items;
  taken = c.self.inside.taken.items;
  roll = c.self.inside.roll;
})
grown c =
    let old = c.self.invariant.1 in
    let units = c.self.inside.units.items in
    let end = length c.bytes-end.result.now in
    let unit : UnitEnd = record { number = c.args.number; end = length c.bytes-end.result.now } in
    let at : length c.bytes-end.result.now ≡ length (text_of c.append.new.self) = ap length c.bytes-end.ensures.text in
    let parts : length (text_of c.append.new.self) ≡ length (text_of c.self.inside.image) + length
    (text_of (map shown c.args.unit.now)) =
    ap (λ (es : List Entry). length (text_of es)) c.in_ok-append.ensures.ok
    ∙ text_more c.self.inside.image (map shown c.args.unit.now) in
    let more : length (text_of c.self.inside.image) ≤ length c.bytes-end.result.now = omega arith in
    let items : c.push_reserved.new.self.items ≡ units ++ unit ∷ [] =
    c.push_reserved.ensures.items ∙ rw c.reserve.ensures.items refl in
    let count : length units ≤ length (units ++ unit ∷ []) = omega (arith, length-append units (unit ∷ [])) in
    let ends : EndAt c.self.inside.base (units ++ unit ∷ []) (length c.bytes-end.result.now) =
    EndAt_push units c.self.inside.base _ unit old.units more in record {
      segment = c.bytes-end.ensures.valid;
      limit = (let le = c.bytes-end.ensures.limit in omega arith);
      units = rw (items, ← at) ends;
      opened = old.opened;
      few = old.few;
      taken = rw items (all_more c.self.inside.taken.items (length units)
          (length (units ++ unit ∷ [])) count old.taken);
      roll = old.roll;
    }

pub invariant_of-self-2 : goal.invariant_of-self-2
invariant_of-self-2 c = (c.self.invariant.0, grown c)

pub returns-clause-valid : goal.returns-clause-valid
returns-clause-valid c = grown c
