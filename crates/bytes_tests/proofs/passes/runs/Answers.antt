use Rattle.std.proofs.Common.{◌≡◌, ℕ, Bool, true, false, cond, List, [], ◌∷◌, length, refl, sym, ap, subst, ◌∙◌, inl}
use Rattle.std.proofs.Common.{inr, arith}
use Rattle.std.specs.Prelude.{Option, Some, None, nat_le}
use Rattle.std.specs.List.{range_with_len}
use Rattle.std.proofs.lemmas.Option.{same_Some}
use Rattle.entry.specs.Bag.{IsAmong}
use Rattle.entry.specs.Text.{text_of}
use Rattle.cleaner.specs.declared.pass.Pass.{Pass}
use Rattle.cleaner.specs.KeptLengths.{survivors_over}
use Rattle.cleaner.specs.Passes.{images_in, ids_in, survivor_ids, places_of, rest_of}
use Rattle.cleaner.proofs.Images.{len_is}
use Rattle.cleaner.proofs.RoomLaws.{begin_has_rooms_in}
use Rattle.cleaner.proofs.SegmentFits.{AreFine}
use Rattle.bytes_tests.proofs.passes.runs.Goals.{After-begin-pass}
use Rattle.bytes_tests.proofs.passes.runs.Goals as goal

-- so many survivors were counted
counted : (m n : ℕ) → Some n ≡ cond (nat_le m 4) (Some m) None → n ≡ m
counted m n is = go (nat_le m 4) is where
  go : (b : Bool) → Some n ≡ cond b (Some m) None → n ≡ m
  go true same = same_Some n m same
  go false same = absurd (cc)

pub copies-requires-clause-room : goal.copies-requires-clause-room
copies-requires-clause-room c =
    let images = c.args.images.now.images in
    let held = c.args.index.now.held in
    let ids = ids_in images 2 (Some 4) in
    let p = c.begin-pass.result in
    let begun = c.begin-pass.ensures.begun in
    let victims : p.victims ≡ 1 ∷ [] = ap (λ (x : Pass). x.victims) begun ∙ c.new.ensures ∙ c.in-Ok.ensures.items in
    let survivors = ap (λ (x : Pass). x.survivors) begun in
    let own = ap (λ (x : Pass). x.victims) begun in
    let count = counted (survivors_over 512 ids held (images_in images) (1 ∷ [])) c.in-Some.size.survivors
    c.in-Some.ensures.count in
    begin_has_rooms_in 512 ids p images held (omega arith) (ap (λ (x : Pass). x.filling) begun)
    (c.begin-pass.ensures.rest ∙ ap (places_of (images_in images)) (sym own))
    (subst (AreFine 512 (images_in images)) (sym victims) c.fit.ensures.valid)
    (let over = ap (survivors_over 512 ids held (images_in images)) victims in
    let many = ap (λ x. x.count) survivors in
    omega (arith, over, many, count, c.if-size-ne1.false))
    (λ s m. blank (goal.at.copies-requires-clause-room c).After-begin-pass s
    (subst (λ x. IsAmong s (survivor_ids x)) survivors m))
  where
    blank : (c : After-begin-pass) (s : ℕ) → IsAmong s (range_with_len 3 1)
        → length (text_of (images_in c.args.images.now.images s)) ≡ 18
    blank c s (inl same) =
        ap (λ (x : ℕ). length (text_of (images_in c.args.images.now.images x))) (sym same)
        ∙ sym (len_is c.args.images.now.images 3)
        ∙ sym c.len_of.ensures
        ∙ c.if-len_of-ne18.false
    blank c s (inr m) = absurd m
