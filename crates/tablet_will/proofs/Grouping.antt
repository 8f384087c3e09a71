-- How the sizes of one place are joined to a group.
use Rattle.std.proofs.Common.{◌≡◌, ℕ, suc, ◌+◌, ◌<◌, Bool, true, false, List, [], ◌∷◌, length}
use Rattle.std.proofs.Common.{get_or, drop, refl, sym, ap, ◌∙◌, arith}
use Rattle.std.specs.Prelude.{◌==◌, ◌&&◌}
use Rattle.std.proofs.Math.Seq.{drop-cons}
use Rattle.std.proofs.lemmas.Bool.{and_parts, eqb-true}
use Rattle.entry.specs.declared.tablet.Size.{Size}
use Rattle.tablet_will.specs.declared.group.Group.{Group}
use Rattle.tablet_will.specs.Rule.{is_same_place, joined, groups}

-- a group of one size
abbrev pub alone : Size → Group
alone s = record { table = s.table; place = s.place; bytes = s.bytes; objects = 1 }

-- some bytes and objects at the place of a size
abbrev pub at_place : Size → ℕ → ℕ → Group
at_place s bytes objects = record { table = s.table; place = s.place; bytes = bytes; objects = objects }

-- the first of some groups has the place of the group that is joined to them
pub record Begins (t p : ℕ) (gs : List Group) : Type 0 where
  pub group : Group
  pub others : List Group
  pub are : gs ≡ group ∷ others
  pub table : group.table ≡ t
  pub place : group.place ≡ p

pub joined_begins : (g : Group) (gs : List Group) → Begins g.table g.place (joined g gs)
joined_begins g [] = record { group = g; others = []; are = refl; table = refl; place = refl }
joined_begins g (h ∷ hs) = go (is_same_place g h) refl
  where
    go : (b : Bool) → is_same_place g h ≡ b → Begins g.table g.place (joined g (h ∷ hs))
    go true e = record {
      group = record g { bytes = g.bytes + h.bytes; objects = g.objects + h.objects };
      others = hs;
      are = rw e refl;
      table = refl;
      place = refl;
    }
    go false e = record { group = g; others = h ∷ hs; are = rw e refl; table = refl; place = refl }

-- a group isn't joined to one of another place
pub joined_apart : (g : Group) (s : Size) (ss : List Size) → ((g.table == s.table) && (g.place == s.place)) ≡ false
    → joined g (groups (s ∷ ss)) ≡ g ∷ groups (s ∷ ss)
joined_apart g s ss e =
    let b = joined_begins (alone s) (groups ss) in
    let other : is_same_place g b.group ≡ false =
    ap (λ (t : ℕ). (g.table == t) && (g.place == b.group.place)) b.table
    ∙ ap (λ (p : ℕ). (g.table == s.table) && (g.place == p)) b.place ∙ e in
    rw (b.are, other) refl

-- two groups of one place are joined one after the other, or at once
pub joined_same : (t p b c m n : ℕ) (gs : List Group)
    → joined (record { table = t; place = p; bytes = b; objects = m })
    (joined (record { table = t; place = p; bytes = c; objects = n }) gs)
    ≡ joined (record { table = t; place = p; bytes = b + c; objects = m + n }) gs
joined_same t p b c m n [] = rw same refl
  where
    same : ((t == t) && (p == p)) ≡ true
    same = grind arith
joined_same t p b c m n (h ∷ hs) = go ((t == h.table) && (p == h.place)) refl
  where
    same : ((t == t) && (p == p)) ≡ true
    same = grind arith

    go : (x : Bool) → ((t == h.table) && (p == h.place)) ≡ x
        → joined (record { table = t; place = p; bytes = b; objects = m })
        (joined (record { table = t; place = p; bytes = c; objects = n }) (h ∷ hs))
        ≡ joined (record { table = t; place = p; bytes = b + c; objects = m + n }) (h ∷ hs)
    go true e =
        let bytes : b + (c + h.bytes) ≡ b + c + h.bytes = omega arith in
        let objects : m + (n + h.objects) ≡ m + n + h.objects = omega arith in
        rw (e, same, bytes, objects) refl
    go false e = rw (e, same) refl

-- ---- the walk over the sizes of one place

module _ (ss : List Size) (s : Size) (bytes objects : ℕ)
    (so_far : groups ss ≡ joined (at_place s bytes objects) (groups (drop objects ss))) where
  pub group_grows : (d : Size) → objects < length ss
      → ((s.table == (get_or ss objects d).table) && (s.place == (get_or ss objects d).place)) ≡ true
      → groups ss ≡ joined (at_place s (bytes + (get_or ss objects d).bytes) (objects + 1))
      (groups (drop (objects + 1) ss))
  group_grows d lt e =
      let x = get_or ss objects d in
      let parts = and_parts (s.table == x.table) (s.place == x.place) e in
      let own : alone x ≡ at_place s x.bytes 1 =
      λ i. record {
        table = sym (eqb-true s.table x.table parts.0) i;
        place =
            sym (eqb-true s.place x.place parts.1) i;
        bytes = x.bytes;
        objects = 1;
      } in
      let one : objects + 1 ≡ suc objects = omega arith in
      let here : groups (drop objects ss) ≡ joined (at_place s x.bytes 1) (groups (drop (objects + 1) ss)) =
      rw one (ap groups (drop-cons ss objects d lt)
      ∙ ap (λ (g : Group). joined g (groups (drop (suc objects) ss))) own) in
      so_far ∙ ap (joined (at_place s bytes objects)) here
      ∙ joined_same s.table s.place bytes x.bytes objects 1 (groups (drop (objects + 1) ss))

  pub group_stops : (d : Size) → objects < length ss
      → ((s.table == (get_or ss objects d).table) && (s.place == (get_or ss objects d).place)) ≡ false
      → groups ss ≡ at_place s bytes objects ∷ groups (drop objects ss)
  group_stops d lt e =
      let x = get_or ss objects d in
      let split = drop-cons ss objects d lt in
      so_far ∙ ap (λ (xs : List Size). joined (at_place s bytes objects) (groups xs)) split
      ∙ joined_apart (at_place s bytes objects) x (drop (suc objects) ss) e
      ∙ ap (λ (xs : List Size). at_place s bytes objects ∷ groups xs) (sym split)

  pub group_ends : drop objects ss ≡ [] → groups ss ≡ at_place s bytes objects ∷ groups (drop objects ss)
  group_ends none =
      so_far ∙ ap (λ (xs : List Size). joined (at_place s bytes objects) (groups xs)) none
      ∙ ap (λ (xs : List Size). at_place s bytes objects ∷ groups xs) (sym none)

-- the first size is a group to which the others are joined
pub group_first : (ss : List Size) (d : Size) → 0 < length ss
    → groups ss ≡ joined (alone (get_or ss 0 d)) (groups (drop 1 ss))
group_first ss d lt = ap groups (drop-cons ss 0 d lt)
