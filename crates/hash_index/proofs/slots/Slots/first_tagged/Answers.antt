use Rattle.std.proofs.Common.{ℕ, ◌==◌, List, length, if◌then◌else◌, w16, w64, sym, ap, ◌∙◌, arith}
use Rattle.std.specs.Int.{trailing_zeros}
use Rattle.std.specs.List.{position_or_len}
use Rattle.std.proofs.lemmas.Simd.{bitmask_splat, first_set_mask_l}
use Rattle.places.specs.declared.place.Held.{Held}
use Rattle.hash_index.specs.Packing.{has_tag}
use Rattle.hash_index.proofs.Packing.{slots_len, tag_slot}
use Rattle.hash_index.proofs.slots.Slots.first_tagged.Goals as goal

pub returns-clause-slot : goal.returns-clause-slot
returns-clause-slot c =
    let s = c.self.inside in
    let told = c.self.told in
    let tag = c.args.tag in
    c.lowest.ensures
    ∙ ap (λ (m : ℕ). if m == 0 then 8 else trailing_zeros w64 m)
    (bitmask_splat w16 (λ (a b : ℕ). a == b) s.tags 8 tag told.0 (omega arith))
    ∙ first_set_mask_l (λ (t : ℕ). t == tag) s.tags 8 told.0 (omega arith)
    ∙ tag_slot tag s.tags s.ats s.segments c.self.invariant.1 (told.1 ∙ sym told.0) (told.2 ∙ sym told.0)
    ∙ ap (λ (hs : List Held). position_or_len (has_tag tag) hs) c.self.view_is

pub returns-clause-len : goal.returns-clause-len
returns-clause-len c =
    let s = c.self.inside in
    ap (λ (hs : List Held). length hs) (sym c.self.view_is)
    ∙ slots_len 8 s.tags s.ats s.segments c.self.told.0 c.self.told.1 c.self.told.2
