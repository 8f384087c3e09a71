-- What a core becomes when a replica of the old head was closed.
use Rattle.std.proofs.Common.{◌≡◌, ℕ, suc, Bool, true, false, List, [], refl, sym, ap, subst, ◌∙◌}
use Rattle.std.specs.Prelude.{Option, Some, None, IfSome, IsSome, ◌==◌, is_none, if◌then◌else◌}
use Rattle.std.specs.Option.{option_map_or}
use Rattle.std.proofs.lemmas.Option.{same_Some}
use Rattle.cleaner.specs.declared.pass.Pass.{Pass}
use Rattle.cleaner.specs.Seals.{first_lacking}
use Rattle.entry.specs.declared.entry.Entry.{Entry}
use Rattle.images.specs.Image.{Image, closed_image}
use Rattle.images.specs.Sorted.{added}
use Rattle.log_head.specs.declared.head.Roll.{Roll}
use Rattle.log_head.specs.declared.next.Next.{Next}
use Rattle.log_head.specs.declared.next.Next.TheVariants as next
use Rattle.log_head.specs.Head.{HeadValue, IsHeadValue}
use Rattle.log_head.specs.Log.{head_of}
use Rattle.log_head.specs.Next.{IsNextPush}
use Rattle.log_head.specs.Steps.{in_force, with_closed_replica, old_image}
use Rattle.log_head.specs.log_laws.Heads.{Start}
use Rattle.master_state.specs.declared.failover.Failover.{Failover}
use Rattle.master_state.specs.declared.failover.Part.TheVariants as part
use Rattle.master_state.specs.declared.ledger.Posting.{Posting}
use Rattle.master_state.specs.Data.{MasterData}
use Rattle.master_state.specs.Images.{with_closed}
use Rattle.master_state.specs.Invariant.{IsCore, IsFailover, AreWhole, AreTallied}
use Rattle.master_state.specs.Log.{is_opened}
use Rattle.master_state.specs.Steps.{roll_ended, closed_data, taken_data}
use Rattle.master_rolls.specs.Ends.{pass_left, closed_left, waiting_left, IsCountedOut}
use Rattle.master_rolls.proofs.RollEnds.{HasFailover, left_as, calm_failover, none_found, old_closed, all_opened}
use Rattle.master_rolls.proofs.RollEnds.{nothing_loaded}
use Rattle.master_rolls.proofs.Taken.{closed_core, ended_core, ended_whole}
use Rattle.master_rolls.proofs.Tallied.{on_tallied, left_tallied, begun_tallied}
use Rattle.tally.specs.declared.tallies.Tally.{Tally}
use Rattle.tally.specs.Rows.{WithOne, of_nothing}

-- what the end of a roll leaves, field by field
pub ended_is : (o : Option Pass) (g : MasterData) → roll_ended o (record g { pass = o })
    ≡ record g { closed = closed_left o g.closed; pass = pass_left o; waiting = waiting_left o g.closed g.waiting }
ended_is None g = refl
ended_is (Some p) g = go p.is_committing refl where
  go : (t : Bool) → p.is_committing ≡ t → roll_ended (Some p) (record g { pass = Some p })
      ≡ record g {
        closed = closed_left (Some p) g.closed;
        pass = pass_left (Some p);
        waiting = waiting_left (Some p) g.closed g.waiting;
      }
  go true is = rw is refl
  go false is = rw is refl

-- no pass that stays is committed
pub left_early : (o : Option Pass) (A : Pass → Type 0)
    → IfSome (pass_left o) (λ (p : Pass). p.is_committing ≡ true → A p)
left_early None A = tt
left_early (Some p) A = go p.is_committing refl where
  go : (t : Bool) → p.is_committing ≡ t → IfSome (pass_left (Some p)) (λ (q : Pass). q.is_committing ≡ true → A q)
  go true is = rw is tt
  go false is =
      subst (λ (o : Option Pass). IfSome o (λ (q : Pass). q.is_committing ≡ true → A q)) (sym (left is))
      (λ commits. (let never : false ≡ true = sym is ∙ commits in absurd (cc)))
    where
      left : p.is_committing ≡ false → pass_left (Some p) ≡ Some p
      left early = ap (λ (b : Bool). if b then None else Some p) early

-- from what `close_old` gave
module _ (k : MasterData) (core : IsCore k) (r : Roll) (is : k.head.roll ≡ Some r) (h : HeadValue)
    (image : Option (List Entry)) (counts : IfSome k.head.roll (λ r. h ≡ with_closed_replica k.head r))
    (gives : IfSome k.head.roll (λ r. image ≡ old_image k.head r)) (valid : IsHeadValue h) where
  head_closed : h ≡ with_closed_replica k.head r
  head_closed = subst (λ (o : Option Roll). IfSome o (λ r. h ≡ with_closed_replica k.head r)) is counts

  image_out : image ≡ old_image k.head r
  image_out = subst (λ (o : Option Roll). IfSome o (λ r. image ≡ old_image k.head r)) is gives

  pub some_then : IsSome k.head.roll
  some_then = subst IsSome (sym is) refl

  module _ (x : List Entry) (out : image ≡ Some x) where
    pub last : (suc r.closed == k.head.replicas) ≡ true
    last = go (suc r.closed == k.head.replicas) refl where
      go : (t : Bool) → (suc r.closed == k.head.replicas) ≡ t → (suc r.closed == k.head.replicas) ≡ true
      go true test = test
      go false test =
          let never : Some x ≡ None = sym out ∙ image_out ∙ rw test refl in
          absurd (cc)

    -- once the old image is out the new head is in force
    pub head_then : h ≡ in_force k.head r
    head_then = let test = last in head_closed ∙ rw test refl

    pub none_then : h.roll ≡ None
    none_then = ap (λ (g : HeadValue). g.roll) head_then

    -- the old image that is out is the head's
    pub old_is : x ≡ k.head.image
    old_is = let test = last in same_Some x k.head.image (sym out ∙ image_out ∙ rw test refl)

    abbrev cs : List Image
    cs = added (closed_image k.head.id x k.config.replicas) k.closed

    -- the core when the roll has ended
    abbrev pub core_ended : MasterData
    core_ended = record k {
      head = h;
      closed = closed_left k.pass cs;
      pass = pass_left k.pass;
      waiting = waiting_left k.pass cs k.waiting;
    }

    pub ended_taken : closed_data k r ≡ core_ended
    ended_taken =
        let test = last in
        (rw test refl)
        ∙ ap (λ (g : MasterData). roll_ended k.pass g) before
        ∙ ended_is k.pass (record k { head = h; closed = cs })
      where
        before : record k {
          head = with_closed_replica k.head r;
          closed = with_closed k.closed k.head.id k.config.replicas (old_image k.head r);
        }
            ≡ record k { head = h; closed = cs }
        before = λ i. record k {
          head = sym head_closed i;
          closed = with_closed k.closed k.head.id k.config.replicas
              ((sym image_out ∙ out) i);
        }

    -- what the end of the roll makes of a core
    ended_same : roll_ended k.pass (old_closed k core r is) ≡ core_ended
    ended_same = ap (λ (g : MasterData). roll_ended k.pass g) now ∙ ended_is k.pass (record k { head = h; closed = cs })
      where
        now : old_closed k core r is ≡ record k { head = h; closed = cs }
        now = λ i. record k {
          head = sym head_then i;
          closed = added (closed_image k.head.id (sym old_is i) k.config.replicas) k.closed;
        }

    ended_as : (f : Option Failover) (gone : List Start) (ps : List Posting)
        → HasFailover (left_as core_ended f gone ps) → IsCore (left_as core_ended f gone ps)
    ended_as f gone ps failing =
        subst (λ (g : MasterData). IsCore (left_as g f gone ps)) ended_same
        (ended_core k core r is k.pass refl f gone ps (subst IsHeadValue head_then valid)
        (subst (λ (g : MasterData). HasFailover (left_as g f gone ps)) (sym ended_same) failing))

    whole_then : AreWhole k → AreWhole core_ended
    whole_then whole = subst AreWhole ended_same (ended_whole k core r is k.pass refl whole)

    pub ended_valid : k.failover ≡ None → IsCore core_ended
    ended_valid calm =
        ended_as k.failover k.abandoned k.ledger
        (calm_failover core_ended calm (whole_then (core.whole calm)) (core.abandoned calm))

    -- what is counted of segments
    pub ended_tallied : (old new : List Tally) → IsCountedOut k.pass h.id old new → AreTallied k old
        → AreTallied core_ended new
    ended_tallied old new counts right =
        begun_tallied k core r is core_ended head_then counts.rest new
        (subst (λ (id : ℕ). WithOne (of_nothing id) counts.rest new) (ap (λ (g : HeadValue). g.id) head_then)
        counts.begun)
        (subst (λ (g : MasterData). AreTallied g counts.rest) ended_same
        (left_tallied k core r is k.pass refl old counts.rest counts.left right))

    -- a failover goes on with its repairs, or ends, if no replica is lost
    module _ (g : Failover) (fails : k.failover ≡ Some g) (closes : g.part ≡ part.Closes) where
      was : IsFailover k g
      was = subst (λ (o : Option Failover). IfSome o (IsFailover k)) fails core.failover

      bare : (g.is_first ≡ false) × (g.abandoned ≡ None)
      bare = (let all = was.closes closes in (all.0, all.1))

      abbrev goes_on : Failover
      goes_on = record g { part = part.Repairs }

      repairs_then : (ps : List Posting) → (AreWhole core_ended → ⊥)
          → IsFailover (left_as core_ended (Some goes_on) [] ps) goes_on
      repairs_then ps lost = record {
        some = was.some;
        closed = was.closed;
        mends = λ never. absurd (cc);
        opens = λ never. absurd (cc);
        first = λ first. absurd (let not = bare.0 in cc);
        closes = λ never. absurd (cc);
        repairs = λ same. (
          bare.0,
          bare.1,
          none_then,
          subst (λ (v : HeadValue). is_opened v ≡ true) (sym head_then) (all_opened k core r is),
          subst (λ (v : HeadValue). v.units ≡ []) (sym head_then) refl,
          subst (λ (v : HeadValue). (head_of v).loaded ≡ []) (sym head_then) (nothing_loaded k core r is),
          lost,
          refl,
        );
      }

      pub ended_repairs : (ps : List Posting) (t : Bool)
          → is_none (first_lacking k.config.replicas core_ended.closed (head_of h).start.others) ≡ t
          → IsCore (left_as core_ended (if t then None else Some goes_on) [] ps)
      ended_repairs ps true whole =
          ended_as None [] ps (record {
            bare = tt;
            whole = λ none. none_found _ whole;
            failover = tt;
            abandoned = λ none. refl;
          })
      ended_repairs ps false lost =
          ended_as (Some goes_on) [] ps (record {
            bare = bare;
            whole = λ none. absurd (cc);
            failover = repairs_then ps (λ whole. (
                let never : false ≡ true = sym lost ∙ ap (λ (o : Option (ℕ × ℕ)). is_none o) whole in cc));
            abandoned = λ none. refl;
          })

  module _ (out : image ≡ None) where
    pub more_left : (suc r.closed == k.head.replicas) ≡ false
    more_left = go (suc r.closed == k.head.replicas) refl where
      go : (t : Bool) → (suc r.closed == k.head.replicas) ≡ t → (suc r.closed == k.head.replicas) ≡ false
      go true test =
          let never : None ≡ Some k.head.image = sym out ∙ image_out ∙ rw test refl in
          absurd (cc)
      go false test = test

    pub early_head : h ≡ record k.head { roll = Some (record r { closed = suc r.closed }) }
    early_head = let test = more_left in head_closed ∙ rw test refl

    pub early_taken : closed_data k r ≡ record k { head = h }
    early_taken =
        let test = more_left in
        (rw test refl)
        ∙ (λ i. record k {
          head = sym head_closed i;
          closed = with_closed k.closed k.head.id k.config.replicas
              ((sym image_out ∙ out) i);
        })

    pub early_valid : k.failover ≡ None → IsCore (record k { head = h })
    early_valid calm =
        subst IsCore early_taken (closed_core k core r is calm (subst IsHeadValue head_closed valid))

    pub early_tallied : (rows : List Tally) → AreTallied k rows → AreTallied (record k { head = h }) rows
    early_tallied rows right =
        subst (λ (g : HeadValue). AreTallied (record k { head = g }) rows) (sym early_head)
        (on_tallied k core r is (record r { closed = suc r.closed }) refl refl rows right)

-- the roll of a push that closes the old head
pub closing_roll : (k : MasterData) (push : Next) (j : ℕ) → push ≡ next.CloseOld j → IsNextPush k.head (Some push)
    → (r : Roll) × (k.head.roll ≡ Some r) × (taken_data k push ≡ closed_data k r)
closing_roll k push j was is =
    let ends : IsNextPush k.head (Some (next.CloseOld j)) =
    subst (λ (n : Next). IsNextPush k.head (Some n)) was is in (
      ends.1,
      ends.2,
      ap (taken_data k) was ∙ ap (λ (o : Option Roll). option_map_or (closed_data k) o k) ends.2,
    )
