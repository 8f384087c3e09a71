use Rattle.std.proofs.Common.{ℕ, inl, inr, refl, sym, subst, arith}
use Rattle.command_line.specs.declared.settings.Options.{Options}
use Rattle.lines.specs.Grammar.{Recover}
use Rattle.next_master.specs.recovery.Orders.{Covers}
use Rattle.next_master.specs.Configuration.{config_of, later_options, tables_to}
use Rattle.next_master.specs.Numbers.{Renumbers}
use Rattle.next_master.specs.Recoveries.{Ends, Recovers}
use Rattle.script.specs.Sessions.{asked_of}
use Rattle.next_master.proofs.HowItEnds.{down_at, limit_made, want_ends}
use Rattle.next_master.proofs.of_cluster.Standing.{not_up}
use Rattle.script.proofs.Sessions.{stands_checked, unknown_at, want_at}
use Rattle.script.proofs.session.Session.run_recover.Goals as goal

pub whole_will-requires : goal.whole_will-requires
whole_will-requires g c = stands_checked c.args.self.now c.requires.stands

pub returns-in_default-whole_will : goal.returns-in_default-whole_will
returns-in_default-whole_will g c =
    let s = c.args.self.now in
    let config = config_of s.options s.master in
    let down = not_up s.node c.in_default.not-Up in
    let stands = c.requires.stands.1 in
    let fleet = down_at s.node config stands.0 stands.1 down stands.2 in
    record {
      order = c.args.order;
      asks = refl;
      options = inl (refl, refl);
      later = refl;
      known = refl;
      covers = λ all. all.0;
      numbers = record { rises = omega arith; fresh = inl refl };
      recovers = inl (refl, want_at s.node config c.args.order down);
      ends = inl (
        inr c.if-not-self.false,
        want_ends s.node (later_options s.later s.options) (asked_of s c.args.order) fleet.0 fleet.1,
      );
      limit = refl;
      will = inl (refl, refl);
      least = inl refl;
      spent = λ is. absurd (cc);
    }

pub returns-else-recovery-self : goal.returns-else-recovery-self
returns-else-recovery-self g c =
    let s = c.args.self.now in
    let later = later_options s.later s.options in
    let r = c.recover_node-recovery in
    let ended : Ends s.node later (asked_of s c.args.order) r.result.used r.new.node r.result.answer
    r.result.master = r.ensures.ends in
    record {
      order = c.args.order;
      asks = refl;
      options = inl (refl, refl);
      later = refl;
      known = refl;
      covers = λ all. all.0;
      numbers = subst (λ (n : ℕ). Renumbers s.master s.used n r.result.used) c.if-recovery-self.false r.ensures.numbers;
      recovers = subst (λ (n : ℕ). Recovers s.node s.options s.later s.master c.args.order r.new.node
          r.result.answer n) c.if-recovery-self.false r.ensures.recovers;
      ends = inl (
        inr c.if-not-self.false,
        subst (λ (n : ℕ). Ends s.node later
            (asked_of s c.args.order) r.result.used r.new.node r.result.answer n) c.if-recovery-self.false ended,
      );
      limit = limit_made s.node r.new.node later (asked_of s c.args.order) r.result.used r.result.answer
          r.result.master ended;
      will = inl (refl, refl);
      least = r.ensures.least;
      spent = r.ensures.spent;
    }

pub returns-then-recovery-self : goal.returns-then-recovery-self
returns-then-recovery-self g c =
    let s = c.args.self.now in
    let later = later_options s.later s.options in
    let r = c.recover_node-recovery in
    let ended : Ends s.node later (asked_of s c.args.order) r.result.used r.new.node r.result.answer
    r.result.master = r.ensures.ends in
    record {
      order = c.args.order;
      asks = refl;
      options = inr (c.if-recovery-self.true, c.later_options-self.ensures);
      later = refl;
      known = refl;
      covers = λ all. subst (λ (o : Options). Covers (tables_to o.tables) c.in-Ok.whole)
          (sym c.later_options-self.ensures) c.in-Ok.ensures.covers;
      numbers = r.ensures.numbers;
      recovers = r.ensures.recovers;
      ends = inl (inr c.if-not-self.false, ended);
      limit = limit_made s.node r.new.node later (asked_of s c.args.order) r.result.used r.result.answer
          r.result.master ended;
      will = inr (c.if-recovery-self.true, c.in-Ok.ensures.whole);
      least = r.ensures.least;
      spent = r.ensures.spent;
    }

pub returns-then-not-self : goal.returns-then-not-self
returns-then-not-self g c =
    let s = c.args.self.now in
    let config = config_of s.options s.master in
    let down = not_up s.node c.in_default.not-Up in
    record {
      order = c.args.order;
      asks = refl;
      options = inl (refl, refl);
      later = refl;
      known = refl;
      covers = λ all. all.0;
      numbers = record { rises = omega arith; fresh = inl refl };
      recovers = inl (refl, unknown_at s.node config (Recover c.args.order) down (inl (c.args.order, refl)));
      ends = inr (down, c.if-not-self.true, refl, refl);
      limit = refl;
      will = inl (refl, refl);
      least = inl refl;
      spent = λ is. absurd (cc);
    }
