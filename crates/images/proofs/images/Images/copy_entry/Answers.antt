use Rattle.std.proofs.Common.{◌≡◌, ◌+◌, ◌<◌, ◌≤◌, ◌↔◌, [], ◌∷◌, List, length, ap, subst, sym, arith}
use Rattle.std.specs.Prelude.{IfSome, OnOk, OnErr, IsErrOf, IsSomeAnd}
use Rattle.entry.specs.declared.entry.Entry.{Entry}
use Rattle.entry.specs.Format.{spelling}
use Rattle.entry.proofs.ListLemmas.{written_back}
use Rattle.segment.specs.declared.fault.AppendFault.TheVariants.{Full}
use Rattle.images.specs.contracts.images.Images.{the_view}
use Rattle.images.specs.Image.{Image}
use Rattle.images.specs.Images.{ImagesValue}
use Rattle.images.specs.Sorted.{IsWhole, image_of, changed}
use Rattle.images.specs.Steps.{with_unit, len_at, entry_at, HasData}
use Rattle.images.proofs.Copies.{copied_valid, data_of, whole_room, copied_value}
use Rattle.images.proofs.images.Images.copy_entry.Goals as goal

pub invariant_of-self : goal.invariant_of-self
invariant_of-self c =
    let v = the_view c.self.inside in
    let old = c.as_mut_slice.result.now in
    let new = c.copy_entry.new.images in
    let r = c.copy_entry.result in
    let is = c.as_mut_slice.ensures.value in
    let whole = subst (λ (w : ImagesValue). IsWhole w.images c.args.to) (sym c.self.view_is) c.requires.whole in
    let there = subst (λ (w : ImagesValue). HasData w.images c.args.from c.args.at c.args.len)
    (sym c.self.view_is) c.requires.data in
    let some = data_of v.images c.args.from c.args.at c.args.len there in
    let ok = subst (λ (xs : List Image). OnOk r (IfSome (entry_at xs c.args.from c.args.at)
    (λ (e : Entry). new ≡ changed xs c.args.to (with_unit (e ∷ [])))))
    is c.copy_entry.ensures.ok in
    let full = subst (λ (xs : List Image). IfSome (entry_at xs c.args.from c.args.at)
    (λ (e : Entry). IsErrOf r Full ↔ (v.segment < len_at xs c.args.to + length (spelling e)))) is
    c.copy_entry.ensures.full in
    let err = subst (λ (xs : List Image). OnErr r (new ≡ xs)) is c.copy_entry.ensures.err in
    let len : length new ≡ c.self.inside.images.len = omega
    (arith, c.as_mut_slice.ensures.len, c.copy_entry.ensures.len) in
    let le : length c.self.inside.images.items ≤ length new =
    omega (arith, ap (λ (xs : List Image). length xs) is, c.copy_entry.ensures.len) in
    rw (written_back c.self.inside.images.len c.self.inside.images.items new le len, c.self.invariant.0)
    (copied_valid v c.args.from c.args.at c.args.to new r c.self.invariant.1 whole some ok full err)

pub copy_entry-requires-clause-room : goal.copy_entry-requires-clause-room
copy_entry-requires-clause-room c =
    let v = the_view c.self.inside in
    let whole = subst (λ (w : ImagesValue). IsWhole w.images c.args.to) (sym c.self.view_is) c.requires.whole in
    subst (λ (xs : List Image). IsSomeAnd (image_of xs c.args.to) (λ (x : Image). v.segment ≤ x.room))
    (sym c.as_mut_slice.ensures.value) (whole_room v c.args.to c.self.invariant.1 whole)

pub returns-clause-ok : goal.returns-clause-ok
returns-clause-ok c =
    let v = the_view c.self.inside in
    let new = c.copy_entry.new.images in
    let r = c.copy_entry.result in
    let is = c.as_mut_slice.ensures.value in
    let ok = subst (λ (xs : List Image). OnOk r (IfSome (entry_at xs c.args.from c.args.at)
    (λ (e : Entry). new ≡ changed xs c.args.to (with_unit (e ∷ [])))))
    is c.copy_entry.ensures.ok in
    let len : length new ≡ c.self.inside.images.len = omega
    (arith, c.as_mut_slice.ensures.len, c.copy_entry.ensures.len) in
    let le : length c.self.inside.images.items ≤ length new =
    omega (arith, ap (λ (xs : List Image). length xs) is, c.copy_entry.ensures.len) in
    let back = written_back c.self.inside.images.len c.self.inside.images.items new le len in
    rw (← c.self.view_is) (copied_value v _ (entry_at v.images c.args.from c.args.at) r new
    (λ (e : Entry). changed v.images c.args.to (with_unit (e ∷ [])))
    (ap (λ (xs : List Image). record v { images = xs }) back) ok)
