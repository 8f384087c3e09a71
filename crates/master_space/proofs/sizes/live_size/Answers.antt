use Rattle.std.proofs.Common.{◌≡◌, ◌+◌, true, false, ℕ, Bool, length, sym, ap, ◌∙◌}
use Rattle.std.specs.Prelude.{Some, None, if◌then◌else◌}
use Rattle.std.specs.Option.{option_map}
use Rattle.entry.specs.declared.tablet.Size.{Size}
use Rattle.entry.specs.declared.view.EntryRef.{EntryRef}
use Rattle.entry.specs.View.{shown, shown_object}
use Rattle.entry.proofs.SpellingLemmas.{length-object}
use Rattle.places.specs.Relocation.{holds}
use Rattle.master_state.specs.Sizes.{size_of, live_at}
use Rattle.master_space.proofs.sizes.live_size.Goals.{After-holds}
use Rattle.master_space.proofs.sizes.live_size.Goals as goal

-- whether the index holds the object's place decides
by_index : (c : After-holds) (b : Bool) → c.holds.result ≡ b
    → option_map size_of (live_at c.args.index.now.held c.args.place (shown c.args.entry.now))
    ≡ option_map size_of (if b then Some (shown_object c.in-Object.object) else None)
by_index c b is =
    ap (λ (e : EntryRef). option_map size_of (live_at c.args.index.now.held c.args.place (shown e))) c.in-Object.is
    ∙ ap (λ (h : ℕ). option_map size_of (if holds c.args.index.now.held (record { hash = h; place = c.args.place })
    then Some (shown_object c.in-Object.object) else None)) (sym c.hash-hash.ensures)
    ∙ ap (λ (t : Bool). option_map size_of (if t then Some (shown_object c.in-Object.object) else None))
    (sym c.holds.ensures ∙ is)

pub returns-then-holds : goal.returns-then-holds
returns-then-holds c =
    let o = shown_object c.in-Object.object in
    let same : record {
      table = o.key.table;
      place = c.place.result;
      bytes = 23 + length o.key.bytes + length o.value;
    } ≡ size_of o =
    λ i. record { table = o.key.table; place = c.place.ensures i; bytes = sym (length-object o) i } in
    ap (λ (s : Size). Some s) same ∙ sym (by_index (goal.at.returns-then-holds c).After-holds true c.if-holds.true)

pub returns-else-holds : goal.returns-else-holds
returns-else-holds c = sym (by_index (goal.at.returns-else-holds c).After-holds false c.if-holds.false)
