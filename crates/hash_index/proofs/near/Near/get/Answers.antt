use Rattle.std.proofs.Common.{◌≡◌, ℕ, ◌<◌, ◌≤◌, ◌==◌, List, length, get_or, sym, ap, subst, ◌∙◌, arith}
use Rattle.std.specs.Prelude.{Some, None}
use Rattle.std.specs.List.{position_or_len}
use Rattle.std.proofs.lemmas.Bool.{and_parts}
use Rattle.entry.specs.View.{shown_key}
use Rattle.places.specs.declared.place.Held.{Held}
use Rattle.places.specs.declared.place.Place.{Place}
use Rattle.places.specs.Lists.{AreKeptIn, found_in, has_hash, is_of, tells}
use Rattle.places.proofs.Finding.{tells_is}
use Rattle.hash_index.specs.Packing.{taken}
use Rattle.hash_index.proofs.Taken.{any_taken, none_at_all, none_found, none_hashed, no_piece, found_slot, passes_at}
use Rattle.hash_index.proofs.Taken.{hashed_taken}
use Rattle.hash_index.proofs.near.Near.get.Goals as goal

pub returns-in_err-tag : goal.returns-in_err-tag
returns-in_err-tag g c = λ hash_of of.
    let keys = g.R.Resolve.keys c.args.resolver.now in
    let k = shown_key c.args.key.now in
    let slots = c.self.inside.slots in
    let none = no_piece c.args.hash c.in_err-tag.ensures.other slots c.show_valid.ensures in
    subst (λ (hs : List Held). AreKeptIn hash_of keys hs → c.from_residual.result ≡ found_in keys k hs) c.self.view_is
    (λ all. c.from_residual.ensures ∙ sym (none_hashed hash_of keys k c.args.hash of (taken slots) all.told none))

pub returns-then-slot-ge-SLOTS : goal.returns-then-slot-ge-SLOTS
returns-then-slot-ge-SLOTS g c = λ hash_of of.
    let keys = g.R.Resolve.keys c.args.resolver.now in
    let k = shown_key c.args.key.now in
    let slots = c.self.inside.slots in
    let first = c.first_hashed-slot.ensures.slot
    ∙ ap (λ (h : ℕ). position_or_len (has_hash h) slots) c.in_ok-tag.ensures.parts in
    let none = any_taken (has_hash c.args.hash) slots (none_at_all (has_hash c.args.hash) slots
    (omega (arith, first, c.first_hashed-slot.ensures.len, c.if-slot-ge-SLOTS.true))) in
    subst (λ (hs : List Held). AreKeptIn hash_of keys hs → None ≡ found_in keys k hs) c.self.view_is
    (λ all. sym (none_hashed hash_of keys k c.args.hash of (taken slots) all.told none))

pub returns-then-stands : goal.returns-then-stands
returns-then-stands g c = λ hash_of of.
    let keys = g.R.Resolve.keys c.args.resolver.now in
    let k = shown_key c.args.key.now in
    let slots = c.self.inside.slots in
    let i = c.first_hashed-slot.result in
    let x = c.get.result in
    let first = c.first_hashed-slot.ensures.slot
    ∙ ap (λ (h : ℕ). position_or_len (has_hash h) slots) c.in_ok-tag.ensures.parts in
    let below : i < length slots = omega (arith, c.first_hashed-slot.ensures.len, c.if-slot-ge-SLOTS.false) in
    let large : 512 ≤ c.args.hash = omega (arith, c.in_ok-tag.ensures.parts, c.in_ok-tag.ensures.tag) in
    let isnt = hashed_taken c.args.hash (get_or slots i x) large
    (passes_at (has_hash c.args.hash) slots i x first below) in
    let here = ap (λ (h : Held). h.place) (sym c.get.ensures.slot) in
    let there = tells_is keys k x.place (sym c.if-stands.ensures) in
    subst (λ (hs : List Held). AreKeptIn hash_of keys hs → Some x.place ≡ found_in keys k hs) c.self.view_is
    (λ all. sym (found_slot hash_of keys k c.args.hash of slots i x below isnt all (ap keys here ∙ there)
    ∙ ap (λ (p : Place). Some p) here))

pub returns-then-slot-ge-SLOTS-2 : goal.returns-then-slot-ge-SLOTS-2
returns-then-slot-ge-SLOTS-2 g c = λ hash_of of.
    let keys = g.R.Resolve.keys c.args.resolver.now in
    let k = shown_key c.args.key.now in
    let slots = c.self.inside.slots in
    let p = is_of keys k c.args.hash in
    let first = c.first_of-slot.ensures.slot in
    let none = none_at_all p slots (omega (arith, first, c.first_of-slot.ensures.len, c.if-slot-ge-SLOTS-2.true)) in
    subst (λ (hs : List Held). AreKeptIn hash_of keys hs → None ≡ found_in keys k hs) c.self.view_is
    (λ all. sym (none_found hash_of keys k c.args.hash of (taken slots) all.told (any_taken p slots none)))

pub returns : goal.returns
returns g c = λ hash_of of.
    let keys = g.R.Resolve.keys c.args.resolver.now in
    let k = shown_key c.args.key.now in
    let slots = c.self.inside.slots in
    let i = c.first_of-slot.result in
    let x = c.get-2.result in
    let p = is_of keys k c.args.hash in
    let first = c.first_of-slot.ensures.slot in
    let below : i < length slots = omega (arith, c.first_of-slot.ensures.len, c.if-slot-ge-SLOTS-2.false) in
    let large : 512 ≤ c.args.hash = omega (arith, c.in_ok-tag.ensures.parts, c.in_ok-tag.ensures.tag) in
    let parts = and_parts ((get_or slots i x).hash == c.args.hash) (tells keys k (get_or slots i x).place)
    (passes_at p slots i x first below) in
    let isnt = hashed_taken c.args.hash (get_or slots i x) large parts.0 in
    let there = tells_is keys k (get_or slots i x).place parts.1 in
    let here = ap (λ (h : Held). h.place) (sym c.get-2.ensures.slot) in
    subst (λ (hs : List Held). AreKeptIn hash_of keys hs → Some x.place ≡ found_in keys k hs) c.self.view_is
    (λ all. sym (found_slot hash_of keys k c.args.hash of slots i x below isnt all there
    ∙ ap (λ (q : Place). Some q) here))
