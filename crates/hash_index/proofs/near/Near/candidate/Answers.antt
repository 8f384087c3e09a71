use Rattle.std.proofs.Common.{◌≡◌, ℕ, ◌<◌, ◌≤◌, List, length, get_or, sym, ap, subst, ◌∙◌, arith}
use Rattle.std.specs.Prelude.{Option, Some, None}
use Rattle.std.specs.List.{position_or_len}
use Rattle.places.specs.declared.place.Held.{Held}
use Rattle.places.specs.declared.place.Place.{Place}
use Rattle.places.specs.Lists.{AreKeptIn, IsCandidateIn, found_in, has_hash}
use Rattle.hash_index.specs.Packing.{taken}
use Rattle.hash_index.proofs.Taken.{any_taken, none_at_all, none_hashed, no_piece, found_slot, passes_at, hashed_taken}
use Rattle.hash_index.proofs.near.Near.candidate.Goals as goal

pub returns-in_err-tag : goal.returns-in_err-tag
returns-in_err-tag c = λ hash_of keys k of.
    let slots = c.self.inside.slots in
    let none = no_piece c.args.hash c.in_err-tag.ensures.other slots c.show_valid.ensures in
    subst (λ (o : Option Place). AreKeptIn hash_of keys c.args.self.now → IsCandidateIn keys k c.args.self.now o)
    (sym c.from_residual.ensures)
    (subst (λ (hs : List Held). AreKeptIn hash_of keys hs → found_in keys k hs ≡ None) c.self.view_is
    (λ all. none_hashed hash_of keys k c.args.hash of (taken slots) all.told none))

pub returns-then-slot-ge-SLOTS : goal.returns-then-slot-ge-SLOTS
returns-then-slot-ge-SLOTS c = λ hash_of keys k of.
    let slots = c.self.inside.slots in
    let first = c.first_hashed-slot.ensures.slot
    ∙ ap (λ (h : ℕ). position_or_len (has_hash h) slots) c.in_ok-tag.ensures.parts in
    let none = any_taken (has_hash c.args.hash) slots (none_at_all (has_hash c.args.hash) slots
    (omega (arith, first, c.first_hashed-slot.ensures.len, c.if-slot-ge-SLOTS.true))) in
    subst (λ (hs : List Held). AreKeptIn hash_of keys hs → found_in keys k hs ≡ None) c.self.view_is
    (λ all. none_hashed hash_of keys k c.args.hash of (taken slots) all.told none)

pub returns : goal.returns
returns c = λ hash_of keys k of.
    let slots = c.self.inside.slots in
    let i = c.first_hashed-slot.result in
    let x = c.get.result in
    let first = c.first_hashed-slot.ensures.slot
    ∙ ap (λ (h : ℕ). position_or_len (has_hash h) slots) c.in_ok-tag.ensures.parts in
    let below : i < length slots = omega (arith, c.first_hashed-slot.ensures.len, c.if-slot-ge-SLOTS.false) in
    let large : 512 ≤ c.args.hash = omega (arith, c.in_ok-tag.ensures.parts, c.in_ok-tag.ensures.tag) in
    let isnt = hashed_taken c.args.hash (get_or slots i x) large
    (passes_at (has_hash c.args.hash) slots i x first below) in
    let here = ap (λ (h : Held). h.place) (sym c.get.ensures.slot) in
    subst (λ (hs : List Held). AreKeptIn hash_of keys hs → keys x.place ≡ Some k → found_in keys k hs ≡ Some x.place)
    c.self.view_is
    (λ all there. found_slot hash_of keys k c.args.hash of slots i x below isnt all (ap keys here ∙ there)
    ∙ ap (λ (p : Place). Some p) here)
