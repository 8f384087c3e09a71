-- A core stays valid when one more replica of the old head, or the last one, is closed in a failover.
use Rattle.std.proofs.Common.{◌≡◌, ℕ, suc, Bool, true, false, List, [], ◌∷◌, refl, sym, ap, subst, ◌∙◌}
use Rattle.std.specs.Prelude.{Option, Some, None, IfSome, is_none, ◌==◌, if◌then◌else◌}
use Rattle.std.specs.Option.{option_map}
use Rattle.master_state.specs.cleaner.Seals.{first_lacking}
use Rattle.entry.specs.declared.entry.Entry.{Entry}
use Rattle.log_head.specs.declared.head.Roll.{Roll}
use Rattle.log_head.specs.Head.{HeadValue, IsHeadValue}
use Rattle.log_head.specs.Log.{head_of}
use Rattle.log_head.specs.Steps.{with_closed_replica, old_image}
use Rattle.log_head.specs.declared.next.Next.TheVariants as nexts
use Rattle.master_state.specs.declared.failover.Failover.{Failover}
use Rattle.master_state.specs.declared.failover.Part.TheVariants as part
use Rattle.master_state.specs.declared.ledger.Posting.TheVariants as posting
use Rattle.master_state.specs.Data.{MasterData}
use Rattle.master_state.specs.Invariant.{IsCore, AreTallied}
use Rattle.master_state.specs.tally.declared.tallies.Tally.{Tally}
use Rattle.master_state.specs.Log.{home}
use Rattle.master_state.specs.Steps.{closed_data}
use Rattle.master_rolls.proofs.Closing.{last, core_ended, ended_taken, ended_repairs, more_left, early_head}
use Rattle.master_rolls.proofs.Closing.{early_taken}
use Rattle.master_failover.specs.declared.push.Push.TheVariants as push
use Rattle.master_failover.specs.Mending.{IsNextMend, with_part, repaired_data, closed_more}
use Rattle.master_failover.proofs.Rolled.{counting_tallied, old_closed_core}

-- what a Close that is posted makes of a core
abbrev pub closing_now : MasterData → ℕ → Roll → MasterData
closing_now k j r =
    let e = closed_data k r in
    if suc j == k.config.replicas
    then repaired_data (with_part (record e { abandoned = []; ledger = posting.Ended ∷ e.ledger }) part.Repairs)
    else e

module _ (k : MasterData) (core : IsCore k) (j : ℕ) (next : IsNextMend k (push.Head (nexts.CloseOld j))) (h : HeadValue)
    (image : Option (List Entry)) (counts : IfSome k.head.roll (λ r. h ≡ with_closed_replica k.head r))
    (gives : IfSome k.head.roll (λ r. image ≡ old_image k.head r)) (valid : IsHeadValue h) where
  tested : (t : Bool) → (suc next.1.closed == k.head.replicas) ≡ t → (suc j == k.config.replicas) ≡ t
  tested t test = (λ i. suc (next.3 i) == sym core.replicas i) ∙ test

  -- the last one
  module _ (x : List Entry) (out : image ≡ Some x) where
    abbrev pub ended : MasterData
    ended = core_ended k core next.1 next.2 h image counts gives valid x out

    module _ (t : Bool)
        (test : is_none (first_lacking k.config.replicas ended.closed (head_of h).start.others) ≡ t) where
      abbrev goes_on : Failover
      goes_on = record next.0.0 { part = part.Repairs }

      part_then : option_map (λ (f : Failover). record f { part = part.Repairs }) k.failover ≡ Some goes_on
      part_then = ap (option_map (λ (f : Failover). record f { part = part.Repairs })) next.0.1

      pub last_core : IsCore (record ended {
        failover = if t then None else option_map (λ (f : Failover). record f { part = part.Repairs }) k.failover;
        abandoned = [];
        ledger = posting.Ended ∷ k.ledger;
      })
      last_core =
          subst (λ (o : Option Failover). IsCore (record ended {
            failover = if t then None else o;
            abandoned = [];
            ledger = posting.Ended ∷ k.ledger;
          })) (sym part_then)
          (ended_repairs k core next.1 next.2 h image counts gives valid x out next.0.0 next.0.1 next.0.2
          (posting.Ended ∷ k.ledger) t test)

      pub last_is : closing_now k j next.1 ≡ record ended {
        failover = if t then None else option_map (λ (f : Failover). record f { part = part.Repairs }) k.failover;
        abandoned = [];
        ledger = posting.Ended ∷ k.ledger;
      }
      last_is =
          let all = tested true (last k core next.1 next.2 h image counts gives valid x out) in
          (rw all refl)
          ∙ ap (λ (e : MasterData). repaired_data (with_part (record e {
            abandoned = [];
            ledger = posting.Ended ∷ e.ledger;
          }) part.Repairs)) (ended_taken k core next.1 next.2 h image counts gives valid x out)
          ∙ go t test
        where
          go : (u : Bool)
              → is_none (first_lacking k.config.replicas ended.closed (head_of h).start.others) ≡ u
              → repaired_data (with_part (record ended {
                abandoned = [];
                ledger = posting.Ended ∷ k.ledger;
              }) part.Repairs) ≡ record ended {
                failover = if u then None
                    else option_map (λ (f : Failover). record f { part = part.Repairs }) k.failover;
                abandoned = [];
                ledger = posting.Ended ∷ k.ledger;
              }
          go true whole = rw whole refl
          go false lost = rw lost refl

  -- another
  module _ (out : image ≡ None) where
    head_is : h ≡ record k.head { roll = Some (record next.1 { closed = suc next.1.closed }) }
    head_is = early_head k core next.1 next.2 h image counts gives valid out

    pub early_core : IsCore (record k { head = h })
    early_core =
        subst (λ (g : HeadValue). IsCore (record k { head = g })) (sym head_is)
        (old_closed_core k core next.1 next.2 j next (subst IsHeadValue head_is valid))

    pub early_tallied : (rows : List Tally) → AreTallied k rows → AreTallied (record k { head = h }) rows
    early_tallied rows right =
        subst (λ (g : HeadValue). AreTallied (record k { head = g }) rows) (sym head_is)
        (counting_tallied k next.1 next.1.opened (suc next.1.closed) rows next.2 right)

    pub early_is : closing_now k j next.1 ≡ record k { head = h }
    early_is =
        let more = tested false (more_left k core next.1 next.2 h image counts gives valid out) in
        (rw more refl) ∙ early_taken k core next.1 next.2 h image counts gives valid out

-- ---- the Close is posted

module _ (d k : MasterData) (j b : ℕ) (posted : k ≡ record d { ledger = posting.Shut b ∷ d.ledger })
    (next : IsNextMend d (push.Head (nexts.CloseOld j))) where
  abbrev pub closing_next : IsNextMend k (push.Head (nexts.CloseOld j))
  closing_next = (
    (next.0.0, ap (λ (m : MasterData). m.failover) posted ∙ next.0.1, next.0.2),
    next.1,
    ap (λ (m : MasterData). m.head.roll) posted ∙ next.2,
    next.3,
  )

  pub closed_then : (e : MasterData) → b ≡ home d.config d.failed d.head.id j → e ≡ closing_now k j next.1
      → IfSome d.head.roll (λ (r : Roll). e ≡ closed_more d j r)
  closed_then e on is =
      subst (λ (o : Option Roll). IfSome o (λ (r : Roll). e ≡ closed_more d j r)) (sym next.2)
      (is
      ∙ ap (λ (m : MasterData). closing_now m j next.1) posted
      ∙ ap (λ (x : ℕ). closing_now (record d { ledger = posting.Shut x ∷ d.ledger }) j next.1) on)
