-- What stays the same of a fleet when the replicas of other masters are freed.
use Rattle.std.proofs.Common.{◌≡◌, ℕ, ◌+◌, inl, inr, List, [], ◌∷◌, ◌++◌, length, Bool, true, false}
use Rattle.std.proofs.Common.{refl, sym, ap, subst, ◌∙◌, arith}
use Rattle.std.specs.Prelude.{Option, Some, None, Result, Ok, Err, nat_lt, ◌==◌, ◌&&◌, if◌then◌else◌}
use Rattle.std.proofs.lemmas.Bool.{ne_eqb}
use Rattle.std.proofs.lemmas.Option.{same_Some}
use Rattle.std.proofs.Math.Bool.{and-false}
use Rattle.entry.specs.Bag.{IsAmong}
use Rattle.entry.proofs.BagLemmas.{among_left, among_right}
use Rattle.replica.specs.declared.op.TakeFault.{TakeFault}
use Rattle.replica.specs.declared.op.TakeFault.TheVariants as take_fault
use Rattle.replica.specs.declared.spot.Spot.{Spot}
use Rattle.replica.specs.Op.{OpValue}
use Rattle.replica.specs.Acks.{acked, Grows}
use Rattle.replica.specs.Picture.{Replica, Picture, FleetState, with_replica, is_same_place}
use Rattle.replica.specs.Take.{effect, taken, with_effect, Takes, Refuses}
use Rattle.replica.specs.Retire.{AreOthers, freeing, TakesEach, FreesEach, EndsAt, Retires}
use Rattle.replica.proofs.Acks.{grows_not, grows_one, grows_twice, acked_apart}

-- What an op leaves as it is: the backups, the count but for one, the least heads, and other masters' replicas and
-- acks.
pub record IsOneMore (f : FleetState) (master : ℕ) (g : FleetState) : Type 0 where
  pub backups : g.backups ≡ f.backups
  pub least : g.least ≡ f.least
  pub takes : g.takes ≡ f.takes + 1
  pub others : (b m s : ℕ) → (master ≡ m → ⊥) → g.picture b m s ≡ f.picture b m s
  pub acked : (b m s : ℕ) → (master ≡ m → ⊥) → acked g.acks b m s ≡ acked f.acks b m s
  pub grows : Grows f.acks g.acks

other_master : (p : Picture) (b m s : ℕ) (r : Option Replica) (c n t : ℕ) → (m ≡ n → ⊥)
    → with_replica p b m s r c n t ≡ p c n t
other_master p b m s r c n t other =
    let away : (m == n) ≡ false = ne_eqb m n other in
    let e : is_same_place b m s c n t ≡ false =
    ap (λ (x : Bool). (b == c) && (x && (s == t))) away ∙ and-false (b == c) in
    rw e refl

effect_more : (f : FleetState) (b : ℕ) (op : OpValue) (e : Option (Option Replica)) (g : FleetState)
    → with_effect f b op e ≡ Some g → IsOneMore f op.master g
effect_more f b op None g is = absurd (cc)
effect_more f b op (Some r) g is =
    let same = same_Some _ g is in
    subst (λ (h : FleetState). IsOneMore f op.master h) same (record {
      backups = refl;
      least = refl;
      takes = refl;
      others = λ c n t other. other_master f.picture b op.master op.segment r c n t other;
      acked = λ c n t other. acked_apart f.acks (record { backup = b; op = op }) c n t other;
      grows = grows_one f.acks (record { backup = b; op = op });
    })

taken_more : (f : FleetState) (b : ℕ) (op : OpValue) (g : FleetState) → taken f b op ≡ Some g
    → IsOneMore f op.master g
taken_more f b op g is = go (nat_lt b f.backups) is where
  go : (t : Bool) → (if t then with_effect f b op (effect op.act (f.picture b op.master op.segment)) else None) ≡ Some g
      → IsOneMore f op.master g
  go true e = effect_more f b op (effect op.act (f.picture b op.master op.segment)) g e
  go false e = absurd (cc)

-- ---- several

pub nothing_freed : (f : FleetState) → FreesEach f [] f
nothing_freed f = record { each = refl; takes = omega arith }

each_more : (old mid new : FleetState) (spots : List Spot) (x : Spot) → TakesEach old spots mid
    → Takes mid x.backup (freeing x) new → TakesEach old (spots ++ x ∷ []) new
each_more old mid new [] x each takes =
    subst (λ (f : FleetState). TakesEach f (x ∷ []) new) each (new, takes, refl)
each_more old mid new (y ∷ ys) x each takes = (each.0, each.1, each_more each.0 mid new ys x each.2 takes)

length_more : (spots : List Spot) (x : Spot) → length (spots ++ x ∷ []) ≡ length spots + 1
length_more [] x = refl
length_more (y ∷ ys) x = let e = length_more ys x in omega (arith, e)

-- one more is freed
pub frees_more : (old mid new : FleetState) (spots : List Spot) (x : Spot) → FreesEach old spots mid
    → Takes mid x.backup (freeing x) new → FreesEach old (spots ++ x ∷ []) new
frees_more old mid new spots x freed takes =
    let one = (taken_more mid x.backup (freeing x) new takes.1).takes in
    let count = freed.takes in
    let len = length_more spots x in
    record { each = each_more old mid new spots x freed.each takes; takes = omega arith }

-- What stays the same of a fleet: the backups, the least heads, and the replicas and acks of this master.
pub record IsSparing (f : FleetState) (keep : ℕ) (g : FleetState) : Type 0 where
  pub backups : g.backups ≡ f.backups
  pub least : g.least ≡ f.least
  pub same : (b s : ℕ) → g.picture b keep s ≡ f.picture b keep s
  pub acked : (b s : ℕ) → acked g.acks b keep s ≡ acked f.acks b keep s
  pub grows : Grows f.acks g.acks

spares_all : (f : FleetState) (keep : ℕ) → IsSparing f keep f
spares_all f keep = record {
  backups = refl;
  least = refl;
  same = λ b s. refl;
  acked = λ b s. refl;
  grows = grows_not f.acks;
}

sparing_after : (f g h : FleetState) (keep : ℕ) → IsSparing f keep g → IsSparing g keep h → IsSparing f keep h
sparing_after f g h keep one two = record {
  backups = two.backups ∙ one.backups;
  least = two.least ∙ one.least;
  same = λ b s. two.same b s ∙ one.same b s;
  acked = λ b s. two.acked b s ∙ one.acked b s;
  grows = grows_twice f.acks g.acks h.acks one.grows two.grows;
}

takes_sparing : (f g : FleetState) (keep : ℕ) (x : Spot) → (x.master ≡ keep → ⊥) → Takes f x.backup (freeing x) g
    → IsSparing f keep g
takes_sparing f g keep x other takes =
    let one = taken_more f x.backup (freeing x) g takes.1 in
    record {
      backups = one.backups;
      least = one.least;
      same = λ b s. one.others b keep s other;
      acked = λ b s. one.acked b keep s other;
      grows = one.grows;
    }

each_sparing : (f g : FleetState) (keep : ℕ) (spots : List Spot)
    → ((x : Spot) → IsAmong x spots → x.master ≡ keep → ⊥) → TakesEach f spots g → IsSparing f keep g
each_sparing f g keep [] others each =
    subst (λ (h : FleetState). IsSparing f keep h) (sym each) (spares_all f keep)
each_sparing f g keep (x ∷ xs) others each =
    sparing_after f each.0 g keep (takes_sparing f each.0 keep x (others x (inl refl)) each.1)
    (each_sparing each.0 g keep xs (λ y among. others y (inr among)) each.2)

refuses_sparing : (f g : FleetState) (keep : ℕ) (x : Spot) (fault : TakeFault) → (x.master ≡ keep → ⊥)
    → Refuses f x.backup (freeing x) fault g → IsSparing f keep g
refuses_sparing f g keep x take_fault.NoMemory other is =
    subst (λ (h : FleetState). IsSparing f keep h) (sym is) (spares_all f keep)
refuses_sparing f g keep x take_fault.Wrong other is =
    subst (λ (h : FleetState). IsSparing f keep h) (sym is.1) (spares_all f keep)
refuses_sparing f g keep x take_fault.Fault other (inl is) =
    subst (λ (h : FleetState). IsSparing f keep h) (sym is)
    (record { backups = refl; least = refl; same = λ b s. refl; acked = λ b s. refl; grows = grows_not f.acks })
refuses_sparing f g keep x take_fault.Fault other (inr took) =
    let one = takes_sparing f took.0 keep x other took.1 in
    subst (λ (h : FleetState). IsSparing f keep h) (sym took.2)
    (record {
      backups = one.backups;
      least = one.least;
      same = one.same;
      acked = λ b s. refl;
      grows = grows_not f.acks;
    })
refuses_sparing f g keep x take_fault.Spent other is =
    subst (λ (h : FleetState). IsSparing f keep h) (sym is.1) (spares_all f keep)

-- ---- by the answer

ends_sparing : (old new : FleetState) (keep : ℕ) (spots : List Spot) (fault : TakeFault)
    → AreOthers spots old.picture keep → EndsAt old spots fault new → IsSparing old keep new
ends_sparing old new keep spots fault others ends =
    let every : (x : Spot) → IsAmong x (ends.front ++ ends.next ∷ ends.rest) → x.master ≡ keep → ⊥ =
    subst (λ (xs : List Spot). (x : Spot) → IsAmong x xs → x.master ≡ keep → ⊥) ends.split
    (λ x among. ((others.each x).0 among).0) in
    sparing_after old ends.mid new keep
    (each_sparing old ends.mid keep ends.front
    (λ x among. every x (among_left x ends.front (ends.next ∷ ends.rest) among)) ends.freed.each)
    (refuses_sparing ends.mid new keep ends.next fault
    (every ends.next (among_right ends.next ends.front (ends.next ∷ ends.rest) (inl refl))) ends.refused)

-- no replica of the master that is kept changes, whatever is answered
pub retire_spares : (old new : FleetState) (keep : ℕ) (result : Result Unit TakeFault) → Retires old keep result new
    → IsSparing old keep new
retire_spares old new keep (Ok u) (spots, others, freed) =
    each_sparing old new keep spots (λ x among. ((others.each x).0 among).0) freed.each
retire_spares old new keep (Err why) (inl (spots, others, ends)) = ends_sparing old new keep spots why others ends
retire_spares old new keep (Err why) (inr none) =
    subst (λ (h : FleetState). IsSparing old keep h) (sym none.1) (spares_all old keep)
