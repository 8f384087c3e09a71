use Rattle.std.proofs.Common.{◌≡◌, ◌++◌, List, length, length-append, refl, sym, ap, subst, ◌∙◌, arith}
use Rattle.std.specs.Prelude.{Some, None}
use Rattle.places.specs.declared.place.Held.{Held}
use Rattle.places.specs.Hashing.{pieces}
use Rattle.places.specs.Lists.{without}
use Rattle.places.specs.Map.{IndexValue, AreKeptBy, IsSetBy, found}
use Rattle.place_index.proofs.Adding.{taken_set}
use Rattle.place_index.proofs.Joining.{shuffled_itself, shuffled_left}
use Rattle.place_index.proofs.TakingOut.{without_none, without_len, without_in_first, without_in_other}
use Rattle.place_index.proofs.index.PlaceIndex.take_out.Goals as goal

pub invariant_of-self : goal.invariant_of-self
invariant_of-self g c =
    let h = c.args.held in
    let table = g.T.Table.places c.self.inside.table in
    let waiting = c.self.inside.waiting.held in
    let new = g.T.Table.places c.take_out.new.self in
    let less = without_len h table (sym c.take_out.ensures.had ∙ c.if-take_out.true) in
    let same = c.take_out.ensures.taken.len in
    record {
      counted = omega (
        arith,
        same,
        less,
        c.self.invariant.counted,
        length-append table waiting,
        length-append new waiting,
      );
      fits = omega (arith, c.self.invariant.fits);
      taken = c.self.invariant.taken;
    }

pub returns-then-take_out-clause-taken : goal.returns-then-take_out-clause-taken
returns-then-take_out-clause-taken g c = λ keys k.
    let h = c.args.held in
    let hash_of = g.H.KeyHash.hash_of in
    let seed = g.H.KeyHash.seed c.self.inside.hasher in
    let table = g.T.Table.places c.self.inside.table in
    let waiting = c.self.inside.waiting.held in
    let new = g.T.Table.places c.take_out.new.self in
    let all = without_in_first h table waiting (without h table) refl
    (sym c.take_out.ensures.had ∙ c.if-take_out.true) in
    let shuffled = shuffled_left (without h table) new waiting c.take_out.ensures.taken in
    subst (λ (v : IndexValue). AreKeptBy hash_of keys v.held → found keys k v.held ≡ Some h.place
    → h.hash ≡ pieces hash_of v.held.seed k
    → IsSetBy hash_of keys v.held k None (record { seed = seed; list = new ++ waiting })) c.self.view_is
    (λ kept is of. (let set = taken_set (pieces hash_of seed) keys k (table ++ waiting) (without h table ++ waiting)
    (new ++ waiting) h all shuffled kept is of in record { seed = refl; kept = set.kept; finds = set.finds }))

pub invariant_of-self-then-leave_out : goal.invariant_of-self-then-leave_out
invariant_of-self-then-leave_out g c =
    let h = c.args.held in
    let table = g.T.Table.places c.self.inside.table in
    let waiting = c.self.inside.waiting.held in
    let new = g.T.Table.places c.take_out.new.self in
    let others = c.leave_out.new.self.held in
    let first : length new ≡ length table =
    ap (λ (xs : List Held). length xs) (c.take_out.ensures.same c.if-take_out.false) in
    let less = without_len h waiting (sym c.leave_out.ensures.had ∙ c.if-leave_out.true) in
    let second : length others ≡ length (without h waiting) =
    ap (λ (xs : List Held). length xs) c.leave_out.ensures.taken in
    record {
      counted = omega (
        arith,
        first,
        second,
        less,
        c.self.invariant.counted,
        length-append table waiting,
        length-append new others,
      );
      fits = omega (arith, c.self.invariant.fits);
      taken = omega (arith, c.self.invariant.taken, c.leave_out.ensures.room);
    }

pub returns-then-leave_out-clause-taken : goal.returns-then-leave_out-clause-taken
returns-then-leave_out-clause-taken g c = λ keys k.
    let h = c.args.held in
    let hash_of = g.H.KeyHash.hash_of in
    let seed = g.H.KeyHash.seed c.self.inside.hasher in
    let table = g.T.Table.places c.self.inside.table in
    let waiting = c.self.inside.waiting.held in
    let new = g.T.Table.places c.take_out.new.self in
    let others = c.leave_out.new.self.held in
    let isnt = sym c.take_out.ensures.had ∙ c.if-take_out.false in
    let all = without_in_other h table waiting new
    (c.take_out.ensures.same c.if-take_out.false ∙ sym (without_none h table isnt)) others isnt
    c.leave_out.ensures.taken in
    subst (λ (v : IndexValue). AreKeptBy hash_of keys v.held → found keys k v.held ≡ Some h.place
    → h.hash ≡ pieces hash_of v.held.seed k
    → IsSetBy hash_of keys v.held k None (record { seed = seed; list = new ++ others })) c.self.view_is
    (λ kept is of. (let set = taken_set (pieces hash_of seed) keys k (table ++ waiting) (new ++ others) (new ++ others)
    h all (shuffled_itself (new ++ others)) kept is of in record { seed = refl; kept = set.kept; finds = set.finds }))

pub invariant_of-self-else-leave_out : goal.invariant_of-self-else-leave_out
invariant_of-self-else-leave_out g c =
    let h = c.args.held in
    let table = g.T.Table.places c.self.inside.table in
    let waiting = c.self.inside.waiting.held in
    let new = g.T.Table.places c.take_out.new.self in
    let others = c.leave_out.new.self.held in
    let first : length new ≡ length table =
    ap (λ (xs : List Held). length xs) (c.take_out.ensures.same c.if-take_out.false) in
    let second : length others ≡ length waiting =
    ap (λ (xs : List Held). length xs)
    (c.leave_out.ensures.taken ∙ without_none h waiting (sym c.leave_out.ensures.had ∙ c.if-leave_out.false)) in
    record {
      counted = omega (
        arith,
        first,
        second,
        c.self.invariant.counted,
        length-append table waiting,
        length-append new others,
      );
      fits = c.self.invariant.fits;
      taken = omega (arith, c.self.invariant.taken, c.leave_out.ensures.room);
    }

pub returns-clause-taken : goal.returns-clause-taken
returns-clause-taken g c = λ keys k.
    let h = c.args.held in
    let hash_of = g.H.KeyHash.hash_of in
    let seed = g.H.KeyHash.seed c.self.inside.hasher in
    let table = g.T.Table.places c.self.inside.table in
    let waiting = c.self.inside.waiting.held in
    let new = g.T.Table.places c.take_out.new.self in
    let others = c.leave_out.new.self.held in
    let isnt = sym c.take_out.ensures.had ∙ c.if-take_out.false in
    let all = without_in_other h table waiting new
    (c.take_out.ensures.same c.if-take_out.false ∙ sym (without_none h table isnt)) others isnt
    c.leave_out.ensures.taken in
    subst (λ (v : IndexValue). AreKeptBy hash_of keys v.held → found keys k v.held ≡ Some h.place
    → h.hash ≡ pieces hash_of v.held.seed k
    → IsSetBy hash_of keys v.held k None (record { seed = seed; list = new ++ others })) c.self.view_is
    (λ kept is of. (let set = taken_set (pieces hash_of seed) keys k (table ++ waiting) (new ++ others) (new ++ others)
    h all (shuffled_itself (new ++ others)) kept is of in record { seed = refl; kept = set.kept; finds = set.finds }))

pub returns-clause-same : goal.returns-clause-same
returns-clause-same g c = λ _.
    let h = c.args.held in
    let seed = g.H.KeyHash.seed c.self.inside.hasher in
    let table = g.T.Table.places c.self.inside.table in
    let waiting = c.self.inside.waiting.held in
    let others = c.leave_out.new.self.held in
    let list = ap (λ (xs : List Held). xs ++ others) (c.take_out.ensures.same c.if-take_out.false)
    ∙ ap (λ (xs : List Held). table ++ xs)
    (c.leave_out.ensures.taken ∙ without_none h waiting (sym c.leave_out.ensures.had ∙ c.if-leave_out.false)) in
    ap (λ (xs : List Held). record { seed = seed; list = xs }) list
    ∙ ap (λ (v : IndexValue). v.held) c.self.view_is
