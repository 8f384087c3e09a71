-- A table within the limit of a configuration fits a new master of it, and is within each limit that is no lower.
use Rattle.std.proofs.Common.{◌≡◌, ◌⊎◌, ◌≤◌, Bool, true, false, List, [], ◌∷◌, length, refl, ap, inl, inr}
use Rattle.std.proofs.Common.{◌+◌, ◌*◌, ◌/◌, ◌∙◌, arith}
use Rattle.std.specs.Prelude.{not, ◌==◌, ◌||◌}
use Rattle.std.proofs.lemmas.Bool.{or_cases, or_parts, ltb-false, le-ltb, eqb-true, not-false}
use Rattle.entry.specs.declared.entry.Object.{Object}
use Rattle.entry.specs.declared.tablet.Tablet.{Tablet}
use Rattle.entry.specs.Tablet.{have_key}
use Rattle.packing.specs.Limits.{AreLengths, longest, is_limit, unlimited}
use Rattle.packing.proofs.Testing.{tested_limit_loads}
use Rattle.replay.specs.master.master_state.declared.config.Config.{Config}
use Rattle.replay.specs.master.master_state.Causes.{is_too_big, is_longer}
use Rattle.replay.specs.master.master_state.Config.{has_backups, has_step, has_seglet, has_segment}
use Rattle.replay.specs.master.master_state.Config.{has_budget, has_tablets, has_history, has_format, has_live}
use Rattle.replay.specs.master.master_state.Config.{sizes_of}
use Rattle.replay.specs.Needs.{length_of, lengths_of}
use Rattle.replay.proofs.of_driving.of_master.master_state.Refusals.{passes}
use Rattle.replay.proofs.of_driving.of_master.master_state.Refusals.{sizes_of as config_sizes}
use Rattle.adoptable.specs.Laws.{MoreAdmits}
use Rattle.adoptable.specs.Limit.{HasLimit, HasRoomFor, IsAllowed, IsWithin, put_of}
use Rattle.adoptable.proofs.Dropped.{length_is}
use Rattle.adoptable.proofs.Sums.{AreAllowed}

-- a valid configuration with a limit has one that leaves room
limit_holds : (c : Config) → HasLimit c → is_limit (sizes_of c) c.largest c.most_live ≡ true
unfolding has_live
limit_holds c limit =
    let a = passes (not (has_backups c)) _ _ limit.valid in
    let b = passes (not (has_step c)) _ _ a.1 in
    let g = passes (not (has_seglet c)) _ _ b.1 in
    let s = passes (not (has_segment c)) _ _ g.1 in
    let m = passes (not (has_budget c)) _ _ s.1 in
    let t = passes (not (has_tablets c)) _ _ m.1 in
    let h = passes (not (has_history c)) _ _ t.1 in
    let f = passes (not (has_format c)) _ _ h.1 in
    let l = passes (not (has_live c)) _ _ f.1 in
    go (or_cases _ _ (not-false (has_live c) l.0))
  where
    go : ((c.most_live == unlimited) ≡ true) ⊎ (is_limit (sizes_of c) c.largest c.most_live ≡ true)
        → is_limit (sizes_of c) c.largest c.most_live ≡ true
    go (inl none) =
        absurd (let same = eqb-true c.most_live unlimited none in let lt = limit.limited in omega arith)
    go (inr is) = is

-- ---- lengths

allowed_length : (c : Config) (o : Object) → IsAllowed c (put_of o) → length_of o ≤ longest (sizes_of c) c.largest
allowed_length c o allowed =
    let both = or_parts (is_too_big (put_of o) c.segment) (is_longer (put_of o) c.largest) allowed.1 in
    let big = ltb-false (c.segment / 4) (50 + 2 * length o.key.bytes + length o.value) both.0 in
    let long = ltb-false c.largest (23 + length o.key.bytes + length o.value) both.1 in
    let is = length_is o in
    omega arith

lengths_are : (c : Config) (os : List Object) → AreAllowed c os
    → AreLengths (longest (sizes_of c) c.largest) (lengths_of os)
lengths_are c [] allowed = tt
lengths_are c (o ∷ os) allowed =
    ((let is = length_is o in omega arith, allowed_length c o allowed.0), lengths_are c os allowed.1)

-- ---- room

pub within_fits : (c : Config) (os : List Object) → HasLimit c → IsWithin c os → HasRoomFor c os
within_fits c os limit within =
    let sizes = config_sizes c limit.valid in
    let loads = tested_limit_loads (sizes_of c) c.largest c.most_live (lengths_of os)
    (record { seglet = sizes.least_seglet; least = sizes.least_segment; most = sizes.most_segment }) sizes.multiple
    (limit_holds c limit) (lengths_are c os within.allowed) within.sum in
    record { adoptable = loads.loads; spare = loads.memory }

-- ---- more

-- another configuration, with as much or more
module _ (c e : Config) (tablets : e.tablets ≡ c.tablets) (segment : e.segment ≡ c.segment)
    (largest : c.largest ≤ e.largest) where
  -- it allows what the first one allows
  one_more : (o : Object) → IsAllowed c (put_of o) → IsAllowed e (put_of o)
  one_more o allowed =
      let both = or_parts (is_too_big (put_of o) c.segment) (is_longer (put_of o) c.largest) allowed.1 in
      let big = ap (is_too_big (put_of o)) segment ∙ both.0 in
      let long = ltb-false c.largest (23 + length o.key.bytes + length o.value) both.1 in
      let longer : is_longer (put_of o) e.largest ≡ false =
      le-ltb e.largest (23 + length o.key.bytes + length o.value) (omega arith) in
      (ap (λ (ts : List Tablet). have_key ts o.key) tablets ∙ allowed.0, rw (big, longer) refl)

  all_more : (os : List Object) → AreAllowed c os → AreAllowed e os
  all_more [] allowed = tt
  all_more (o ∷ os) allowed = (one_more o allowed.0, all_more os allowed.1)

pub more_admits : MoreAdmits
more_admits c e d tablets segment largest more admitted count os within once has =
    let all = admitted count os within once has in
    let sum = all.sum in
    record { sum = omega arith; allowed = all_more c e tablets segment largest os all.allowed }
