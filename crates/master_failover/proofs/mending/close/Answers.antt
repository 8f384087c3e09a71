use Rattle.std.proofs.Common.{◌≡◌, ℕ, ◌+◌, ◌-◌, ◌≤◌, ◌∷◌, [], List, true, length, refl, sym, ap, subst, ◌∙◌}
use Rattle.std.proofs.Common.{vec_capacity}
use Rattle.std.specs.Prelude.{Option, None, IfSome, IsSome, is_none, if◌then◌else◌}
use Rattle.std.specs.Option.{option_map}
use Rattle.master_state.specs.cleaner.declared.pass.Pass.{Pass}
use Rattle.master_state.specs.cleaner.Seals.{first_lacking}
use Rattle.entry.specs.declared.entry.Entry.{Entry}
use Rattle.images.specs.Image.{Image, closed_image}
use Rattle.images.specs.Images.{ImagesValue}
use Rattle.images.specs.Sorted.{image_of, added}
use Rattle.log_head.specs.declared.head.Roll.{Roll}
use Rattle.log_head.specs.Head.{digest_of}
use Rattle.log_head.specs.Log.{head_of, but_last}
use Rattle.log_head.specs.declared.next.Next.TheVariants as nexts
use Rattle.master_state.specs.contracts.state.Core.{the_view}
use Rattle.master_state.specs.declared.failover.Failover.{Failover}
use Rattle.master_state.specs.declared.failover.Part.TheVariants as part
use Rattle.master_state.specs.declared.ledger.Posting.TheVariants.{Shut, Ended}
use Rattle.master_state.specs.Budget.{seglets_of}
use Rattle.master_state.specs.Data.{MasterData}
use Rattle.master_state.specs.Invariant.{IsCore, AreImagesOf}
use Rattle.master_state.specs.Log.{home}
use Rattle.master_state.proofs.LogIds.{absent, no_head}
use Rattle.master_state.proofs.Tallying.{none_right}
use Rattle.master_rolls.specs.Ends.{closed_left, waiting_left}
use Rattle.master_rolls.proofs.Budgets.{closed_seglets, closing_fits, free_again}
use Rattle.master_rolls.proofs.Closing.{left_early, none_then, old_is}
use Rattle.master_failover.specs.declared.push.Push.TheVariants as push
use Rattle.master_failover.specs.Mending.{IsNextMend}
use Rattle.master_failover.proofs.Losses.{others_are, none_from}
use Rattle.master_failover.proofs.OldClosed.{closing_next, closed_then, ended, last_core, last_is, early_core}
use Rattle.master_failover.proofs.OldClosed.{early_tallied}
use Rattle.master_failover.proofs.mending.close.Goals as goal

-- ---- another replica

module _ (c : goal.In_default) where
  abbrev k : MasterData
  k = the_view c.core-2.inside

  next : IsNextMend k (push.Head (nexts.CloseOld c.args.replica))
  next = closing_next c.args.core.now k c.args.replica c.home-backup.result (c.core-2.view_is ∙ c.post.ensures.posted)
      c.requires

  still : IsCore (record k { head = c.close_old.new.self })
  still =
      early_core k c.core-2.invariant.2 c.args.replica next c.close_old.new.self c.close_old.result
      c.close_old.ensures.closed c.close_old.ensures.old c.close_old.ensures.valid c.in_default.is

  has_roll : IsSome k.head.roll
  has_roll = subst IsSome (sym next.2) refl

pub invariant_of-core : goal.invariant_of-core
invariant_of-core c = (
  λ some. c.core-2.invariant.0 (has_roll c),
  c.core-2.invariant.1,
  still c,
  c.core-2.invariant.3,
  early_tallied (k c) c.core-2.invariant.2 c.args.replica (next c) c.close_old.new.self c.close_old.result
      c.close_old.ensures.closed c.close_old.ensures.old c.close_old.ensures.valid c.in_default.is
      c.core-2.inside.tallies c.core-2.invariant.4,
)

pub returns-in_default-clause-valid : goal.returns-in_default-clause-valid
returns-in_default-clause-valid c = still c

-- ---- the last one: no closed segment has its number, and its seglets are free

module _ (c : goal.After-add_closed-arg-1) where
  abbrev d : MasterData
  d = the_view c.core-2.inside

  waits : IsNextMend d (push.Head (nexts.CloseOld c.args.replica))
  waits = closing_next c.args.core.now d c.args.replica c.home-backup.result (c.core-2.view_is ∙ c.post.ensures.posted)
      c.requires

  rolls : IsSome d.head.roll
  rolls = subst IsSome (sym waits.2) refl

  -- the posting changes no id
  number : c.id-id.result ≡ d.head.id
  number =
      c.id-id.ensures.id
      ∙ ap (λ (m : MasterData). m.head.id) c.core.view_is
      ∙ sym (ap (λ (m : MasterData). m.head.id) (c.core-2.view_is ∙ c.post.ensures.posted))

  image_is : c.in-Some.image ≡ d.head.image
  image_is =
      old_is d c.core-2.invariant.2 waits.1 waits.2 c.close_old.new.self c.close_old.result
      c.close_old.ensures.closed c.close_old.ensures.old c.close_old.ensures.valid c.in-Some.image c.in-Some.is

pub add_closed-requires-clause-other : goal.add_closed-requires-clause-other
add_closed-requires-clause-other c =
    subst (λ (id : ℕ). image_of c.core-2.inside.closed.images id ≡ None) (sym (number c))
    (absent (d c).closed (d c).head.id (no_head (d c) c.core-2.invariant.2))

pub add_closed-requires-clause-free : goal.add_closed-requires-clause-free
add_closed-requires-clause-free c =
    free_again c.core-2.inside.config c.core-2.inside.closed
    (closed_image c.id-id.result c.in-Some.image c.core-2.inside.config.replicas)
    c.core-2.invariant.1
    (subst (λ (es : List Entry). seglets_of c.core-2.inside.config es
    ≤ c.core-2.inside.config.seglets - closed_seglets (d c)) (sym (image_is c))
    (closing_fits (d c) c.core-2.invariant.2 (rolls c)))

-- ---- and then

module _ (c : goal.After-end_if) where
  abbrev m : MasterData
  m = the_view c.core-2.inside

  posted : m ≡ record c.args.core.now { ledger = Shut c.home-backup.result ∷ c.args.core.now.ledger }
  posted = c.core-2.view_is ∙ c.post.ensures.posted

  abbrev closes : IsNextMend m (push.Head (nexts.CloseOld c.args.replica))
  closes = closing_next c.args.core.now m c.args.replica c.home-backup.result posted c.requires

  abbrev over : MasterData
  over = ended m c.core-2.invariant.2 c.args.replica closes c.close_old.new.self c.close_old.result
      c.close_old.ensures.closed c.close_old.ensures.old c.close_old.ensures.valid c.in-Some.image c.in-Some.is

  head_id : c.id-id.result ≡ m.head.id
  head_id =
      c.id-id.ensures.id
      ∙ ap (λ (x : MasterData). x.head.id) c.core.view_is
      ∙ sym (ap (λ (x : MasterData). x.head.id) posted)

  config_same : c.core.inside.config.replicas ≡ m.config.replicas
  config_same =
      ap (λ (x : MasterData). x.config.replicas) c.core.view_is
      ∙ sym (ap (λ (x : MasterData). x.config.replicas) posted)

  cs : c.add_closed.new.self.images ≡ added (closed_image m.head.id c.in-Some.image m.config.replicas) m.closed
  cs =
      ap (λ (v : ImagesValue). v.images) c.add_closed.ensures
      ∙ (λ i. added (closed_image (head_id i) c.in-Some.image (config_same i)) m.closed)

  closed_is : over.closed ≡ c.end_pass.new.closed.images
  closed_is =
      ap (closed_left m.pass) (sym cs) ∙ sym (ap (λ (v : ImagesValue). v.images) c.end_pass.ensures.closed)

  test : is_none (first_lacking m.config.replicas over.closed (head_of c.close_old.new.self).start.others)
      ≡ c.is_none-is_whole.result
  test =
      (λ i. is_none (first_lacking (sym config_same i) (closed_is i)
      ((others_are c.close_old.new.self ∙ ap (λ (es : List Entry). but_last (digest_of es))
      (sym c.image.ensures.image)) i)))
      ∙ ap is_none (sym c.first_lost.ensures)
      ∙ none_from c.first_lost.result c.is_none-is_whole.result (sym c.is_none-is_whole.ensures)

  abbrev left : MasterData
  left = record m {
    head = c.close_old.new.self;
    closed = c.end_pass.new.closed.images;
    pass = c.end_pass.new.pass;
    waiting = c.end_pass.new.waiting.items;
    failover = c.end_if.new.failover;
    abandoned = c.none-core-inside.result.heads;
    ledger = c.with-core-inside.result.postings;
  }

  left_is : record over {
    failover = if c.is_none-is_whole.result then None
        else option_map (λ (f : Failover). record f { part = part.Repairs }) m.failover;
    abandoned = [];
    ledger = Ended ∷ m.ledger;
  } ≡ left
  left_is = λ i. record m {
    head = c.close_old.new.self;
    closed = closed_is i;
    pass = sym c.end_pass.ensures.pass i;
    waiting = sym (c.end_pass.ensures.waiting
        ∙ ap (λ (images : List Image). waiting_left m.pass images m.waiting) cs) i;
    failover = sym (c.end_if.ensures ∙ ap (λ (o : Option Failover). if c.is_none-is_whole.result then None else o)
        c.go_on.ensures) i;
    abandoned = sym c.none-core-inside.ensures i;
    ledger = sym c.with-core-inside.ensures i;
  }

  valid : IsCore left
  valid =
      subst IsCore left_is (last_core m c.core-2.invariant.2 c.args.replica closes c.close_old.new.self
      c.close_old.result c.close_old.ensures.closed c.close_old.ensures.old c.close_old.ensures.valid c.in-Some.image
      c.in-Some.is c.is_none-is_whole.result test)

  no_roll : IsSome c.close_old.new.self.roll → ⊥
  no_roll some =
      let none = none_then m c.core-2.invariant.2 closes.1 closes.2 c.close_old.new.self c.close_old.result
      c.close_old.ensures.closed c.close_old.ensures.old c.close_old.ensures.valid c.in-Some.image c.in-Some.is in
      let never : IsSome {T = Roll} None = subst IsSome none some in cc

  sizes : AreImagesOf m.config c.end_pass.new.closed
  sizes =
      subst (AreImagesOf m.config) (sym c.end_pass.ensures.closed)
      (let own = subst (AreImagesOf m.config) (sym c.add_closed.ensures) (let first = c.core-2.invariant.1 in
      record { segment = first.segment; seglet = first.seglet; seglets = first.seglets }) in
      record { segment = own.segment; seglet = own.seglet; seglets = own.seglets })

  room : IfSome c.end_pass.new.pass (λ p. p.is_committing ≡ true
      → length c.end_pass.new.waiting.items + length p.victims ≤ vec_capacity c.end_pass.new.waiting)
  room =
      subst (λ (o : Option Pass). IfSome o (λ p. p.is_committing ≡ true
      → length c.end_pass.new.waiting.items + length p.victims ≤ vec_capacity c.end_pass.new.waiting))
      (sym c.end_pass.ensures.pass)
      (left_early m.pass (λ p. length c.end_pass.new.waiting.items + length p.victims
      ≤ vec_capacity c.end_pass.new.waiting))

pub invariant_of-core-2 : goal.invariant_of-core-2
invariant_of-core-2 c =
    (λ some. absurd (no_roll c some), sizes c, valid c, room c, none_right _ _ _ _ c.clear.ensures)

pub returns-clause-closed : goal.returns-clause-closed
returns-clause-closed c =
    closed_then c.args.core.now (m c) c.args.replica c.home-backup.result (posted c) c.requires (left c)
    (c.home-backup.ensures.home
    ∙ ap (λ (id : ℕ). home c.args.core.now.config c.args.core.now.failed id c.args.replica)
    (c.id-id.ensures.id ∙ ap (λ (x : MasterData). x.head.id) c.core.view_is))
    (sym (last_is (m c) c.core-2.invariant.2 c.args.replica (closes c) c.close_old.new.self c.close_old.result
    c.close_old.ensures.closed c.close_old.ensures.old c.close_old.ensures.valid c.in-Some.image c.in-Some.is
    c.is_none-is_whole.result (test c) ∙ left_is c))

pub returns-clause-valid : goal.returns-clause-valid
returns-clause-valid c = valid c
