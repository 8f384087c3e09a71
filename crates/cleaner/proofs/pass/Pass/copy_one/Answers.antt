use Rattle.std.proofs.Common.{ℕ, ◌≡◌, ◌+◌, ◌<◌, List, get_or, refl, subst, sym, ap, ◌∙◌}
use Rattle.std.specs.Prelude.{Option, unwrap_or}
use Rattle.std.specs.Option.{option_map}
use Rattle.cleaner.specs.declared.ahead.Seen.{Seen}
use Rattle.cleaner.specs.Passes.{images_in, ids_in, seen_len, next_len}
use Rattle.cleaner.specs.Walks.{GoesTo, Treats}
use Rattle.cleaner.proofs.Places.{place_at}
use Rattle.cleaner.proofs.Steps.{own_room, filling_after, after_there, after_cursor, copies, stays_pass}
use Rattle.cleaner.proofs.pass.Pass.copy_one.Goals.{After-treat-copied, After-go_on}
use Rattle.cleaner.proofs.pass.Pass.copy_one.Goals as goal

pub treat-copied-requires-clause-room : goal.treat-copied-requires-clause-room
treat-copied-requires-clause-room c =
    let images = c.args.images.now.images in
    rw c.as_slice-victims.ensures (own_room c.args.index.now.held.seed c.args.self.now images c.requires.pass
    c.requires.more c.args.images.now.segment (ids_in images c.args.head c.args.new) c.args.index.now.held
    c.requires.room)

-- the entry was treated
treated : (c : After-treat-copied)
    → Treats c.args.images.now.segment (ids_in c.args.images.now.images c.args.head c.args.new)
    c.args.images.now.images c.args.index.now.held
    (place_at (get_or c.args.self.now.victims c.args.self.now.cursor.victim 0) c.args.self.now.cursor.at)
    c.args.self.now.survivors c.args.self.now.filling c.treat-copied.result (seen_len c.in-Some.seen)
    c.treat-copied.new.filling c.treat-copied.new.images.images c.treat-copied.new.index.held
treated c =
    let p = c.args.self.now in
    let images = c.args.images.now.images in
    subst (λ (vs : List ℕ). Treats c.args.images.now.segment (ids_in images c.args.head c.args.new) images
    c.args.index.now.held (place_at (get_or vs p.cursor.victim 0) p.cursor.at) p.survivors p.filling
    c.treat-copied.result (seen_len c.in-Some.seen) c.treat-copied.new.filling c.treat-copied.new.images.images
    c.treat-copied.new.index.held) c.as_slice-victims.ensures c.treat-copied.ensures.treated

-- the entry is as long as the pass says
size : (c : After-treat-copied) → next_len c.args.self.now ≡ seen_len c.in-Some.seen
size c = ap (λ (o : Option Seen). unwrap_or (option_map seen_len o) 0) (sym c.first.ensures ∙ c.in-Some.is)

-- the survivor that is filled then is one of them
within : (c : After-treat-copied) → c.treat-copied.new.filling < c.args.self.now.survivors.count
within c =
    let images = c.args.images.now.images in
    let held = c.args.index.now.held in
    filling_after held.seed c.args.self.now images c.requires.pass c.requires.more c.args.images.now.segment
    (ids_in images c.args.head c.args.new) held refl c.treat-copied.result (seen_len c.in-Some.seen)
    c.treat-copied.new.filling c.treat-copied.new.images.images c.treat-copied.new.index.held (treated c)
    c.requires.room

-- and the cursor goes on behind it
gone : (c : After-go_on)
    → GoesTo c.treat-copied.new.index.held.seed (images_in c.treat-copied.new.images.images) c.args.self.now.victims
    (record { victim = c.args.self.now.cursor.victim; at = c.args.self.now.cursor.at + seen_len c.in-Some.seen })
    c.go_on.new.cursor
gone c =
    let p = c.args.self.now in
    let seed = c.treat-copied.new.index.held.seed in
    let images = images_in c.treat-copied.new.images.images in
    let from = subst (λ (n : ℕ). GoesTo seed images c.as_slice-victims.result.now
    (record { victim = p.cursor.victim; at = p.cursor.at + n }) c.go_on.new.cursor) c.len.ensures c.go_on.ensures in
    subst (λ (vs : List ℕ). GoesTo seed images vs
    (record { victim = p.cursor.victim; at = p.cursor.at + seen_len c.in-Some.seen }) c.go_on.new.cursor)
    c.as_slice-victims.ensures from

pub go_on-requires-clause-there : goal.go_on-requires-clause-there
go_on-requires-clause-there c =
    let images = c.args.images.now.images in
    let held = c.args.index.now.held in
    rw c.as_slice-victims.ensures (after_there held.seed c.args.self.now images c.requires.pass c.requires.more
    c.args.images.now.segment (ids_in images c.args.head c.args.new) held refl c.treat-copied.result
    (seen_len c.in-Some.seen)
    c.treat-copied.new.filling c.treat-copied.new.images.images c.treat-copied.new.index.held
    (treated (goal.at.go_on-requires-clause-there c).After-treat-copied))

pub go_on-requires-clause-cursor : goal.go_on-requires-clause-cursor
go_on-requires-clause-cursor c =
    let images = c.args.images.now.images in
    let held = c.args.index.now.held in
    rw c.as_slice-victims.ensures (after_cursor held.seed c.args.self.now images c.requires.pass c.requires.more
    c.args.images.now.segment (ids_in images c.args.head c.args.new) held refl c.treat-copied.result
    (seen_len c.in-Some.seen)
    c.treat-copied.new.filling c.treat-copied.new.images.images c.treat-copied.new.index.held
    (treated (goal.at.go_on-requires-clause-cursor c).After-treat-copied))

pub returns-clause-copied : goal.returns-clause-copied
returns-clause-copied c =
    let images = c.args.images.now.images in
    let held = c.args.index.now.held in
    copies held.seed c.args.self.now images c.requires.pass c.requires.more c.args.images.now.segment
    (ids_in images c.args.head c.args.new) held refl c.treat-copied.result (seen_len c.in-Some.seen)
    c.treat-copied.new.filling c.treat-copied.new.images.images c.treat-copied.new.index.held
    (treated (goal.at.returns-clause-copied c).After-treat-copied)
    (size (goal.at.returns-clause-copied c).After-treat-copied)
    (within (goal.at.returns-clause-copied c).After-treat-copied)
    c.go_on.new.cursor
    (gone (goal.at.returns-clause-copied c).After-go_on)

pub returns-clause-pass : goal.returns-clause-pass
returns-clause-pass c =
    let images = c.args.images.now.images in
    let held = c.args.index.now.held in
    stays_pass held.seed c.args.self.now images c.requires.pass c.requires.more c.args.images.now.segment
    (ids_in images c.args.head c.args.new) held refl c.treat-copied.result (seen_len c.in-Some.seen)
    c.treat-copied.new.filling c.treat-copied.new.images.images c.treat-copied.new.index.held
    (treated (goal.at.returns-clause-pass c).After-treat-copied)
    (size (goal.at.returns-clause-pass c).After-treat-copied)
    (within (goal.at.returns-clause-pass c).After-treat-copied)
    c.go_on.new.cursor
    (gone (goal.at.returns-clause-pass c).After-go_on)
