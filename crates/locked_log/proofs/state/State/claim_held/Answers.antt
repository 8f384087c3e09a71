use Rattle.std.proofs.Common.{◌≤◌, ◌∙◌, ap, refl, sym, subst, drop, List, Option, rules}
use Rattle.versioned_map.specs.declared.command.Record.{Record}
use Rattle.store_step.specs.master.World.{world}
use Rattle.history_row.specs.Rows.{IsRowOf}
use Rattle.store_seat.specs.Accounts.{Knows}
use Rattle.store_seat.specs.Claims.{Owns}
use Rattle.locked_log.specs.Held.{StateValue, held}
use Rattle.locked_log.specs.States.{IsState}
use Rattle.locked_log.proofs.Handing.{owned_here, owned_kept, kept_here, claims_at}
use Rattle.locked_log.proofs.Writing.{row_whole}
use Rattle.locked_log.proofs.state.State.claim_held.Goals as goal

pub claim-requires-clause-written : goal.claim-requires-clause-written
claim-requires-clause-written g c =
    subst (λ (h : List Record). IsRowOf c.self.inside.row (drop g.B.Labels.start h)) (sym c.history.ensures.records)
    (row_whole c.self.inside.row _ c.self.inside.is_refused c.self.invariant.written c.if-self.false)

pub claim-requires-clause-owned : goal.claim-requires-clause-owned
claim-requires-clause-owned g c =
    let owned : Owns c.args.self.now.start c.args.self.now.master.knows.history c.args.seat.now c.args.place
    × (c.args.self.now.master.knows.forgotten ≤ c.args.place) = c.owns_held.ensures.0 (search rules) in
    owned_here g.F.Fleet.state _ c.args.self.now c.self.view_is c.args.seat.now c.args.place _ c.history.ensures.records
    _ c.history.ensures.forgotten owned.0

pub claim-requires-clause-kept : goal.claim-requires-clause-kept
claim-requires-clause-kept g c =
    let owned : Owns c.args.self.now.start c.args.self.now.master.knows.history c.args.seat.now c.args.place
    × (c.args.self.now.master.knows.forgotten ≤ c.args.place) = c.owns_held.ensures.0 (search rules) in
    kept_here g.F.Fleet.state _ c.args.self.now c.self.view_is c.args.seat.now c.args.place _ c.history.ensures.records
    _ c.history.ensures.forgotten owned.1

pub invariant_of-self : goal.invariant_of-self
invariant_of-self g c =
    subst (λ (row : List (Option Record)). IsState (record {
      world = world g.F.Fleet.state c.self.inside.master;
      book = c.self.inside.book.items;
      total = c.self.inside.total.total;
      start = g.B.Labels.start;
      row = row;
      is_refused = c.self.inside.is_refused;
    })
    g.B.Naming.made) (sym c.claim.ensures.row) c.self.invariant

pub returns-clause-claims : goal.returns-clause-claims
returns-clause-claims g c =
    let known : Knows c.args.self.now.book c.args.seat.now = c.knows.ensures.0 (search rules) in
    let owned : Owns c.args.self.now.start c.args.self.now.master.knows.history c.args.seat.now c.args.place
    × (c.args.self.now.master.knows.forgotten ≤ c.args.place) = c.owns_held.ensures.0 (search rules) in
    claims_at g.F.Fleet.state _ c.args.self.now c.self.view_is c.args.seat.now c.args.place _ c.history.ensures.records
    _ c.history.ensures.forgotten c.claim.result c.if-self.false known owned.0 c.claim.ensures.claims

pub returns-clause-same : goal.returns-clause-same
returns-clause-same g c =
    (λ i. record {
      world = world g.F.Fleet.state c.self.inside.master;
      book = c.self.inside.book.items;
      total = c.self.inside.total.total;
      start = g.B.Labels.start;
      row = c.claim.ensures.row i;
      is_refused = c.self.inside.is_refused;
    })
    ∙ ap (λ (y : StateValue _). held g.F.Fleet.state y) c.self.view_is

pub returns-then-self-clause-claims : goal.returns-then-self-clause-claims
returns-then-self-clause-claims g c =
    ap (λ (y : StateValue _). y.is_refused) (sym c.self.view_is) ∙ c.if-self.true

pub returns-then-not-knows-clause-claims : goal.returns-then-not-knows-clause-claims
returns-then-not-knows-clause-claims g c = (
  ap (λ (y : StateValue _). y.is_refused) (sym c.self.view_is)
      ∙ c.if-self.false,
  λ k. let yes = c.knows.ensures.1 k in
      let no = c.if-not-knows.true in cc,
)

pub returns-then-not-owns_held-clause-claims : goal.returns-then-not-owns_held-clause-claims
returns-then-not-owns_held-clause-claims g c =
    let known : Knows c.args.self.now.book c.args.seat.now = c.knows.ensures.0 (search rules) in (
      ap (λ (y : StateValue _). y.is_refused) (sym c.self.view_is)
          ∙ c.if-self.false,
      known,
      λ owned. let yes = c.owns_held.ensures.1 (
        owned,
        owned_kept g.F.Fleet.state _ c.args.self.now c.self.view_is
            c.args.seat.now c.args.place _ refl _ refl g.B.Naming.made c.self.invariant known owned,
      ) in
          let no = c.if-not-owns_held.true in cc,
    )
