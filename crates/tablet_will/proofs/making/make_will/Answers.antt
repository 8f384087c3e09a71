use Rattle.std.proofs.Common.{◌≡◌, ◌≤◌, List, length, sym, ap, subst, ◌∙◌}
use Rattle.tablet_will.specs.declared.part.Part.{Part}
use Rattle.tablet_will.specs.declared.group.Start.{Start}
use Rattle.tablet_will.specs.Parts.{AreParts, Divides}
use Rattle.tablet_will.specs.Rule.{starts_of}
use Rattle.tablet_will.specs.Starts.{AreRising}
use Rattle.tablet_will.proofs.Cuts.{above_rising}
use Rattle.tablet_will.proofs.Covering.{parts}
use Rattle.tablet_will.proofs.Starting.{started}
use Rattle.tablet_will.proofs.Dividing.{divides}
use Rattle.tablet_will.proofs.making.make_will.Goals as goal

pub parts_of-requires-clause-rising : goal.parts_of-requires-clause-rising
parts_of-requires-clause-rising c =
    let is = c.as_slice.ensures.value ∙ c.in_ok-starts.ensures.starts in
    let s = started c.args.tablets.now c.args.sizes.now c.args.max_bytes c.args.max_objects
    (sym c.are_tablets.ensures ∙ c.if-not-are_tablets.false) (sym c.are_sizes.ensures ∙ c.if-not-are_sizes.false) in
    subst AreRising (sym is) (above_rising s.table s.place
    (starts_of c.args.max_bytes c.args.max_objects c.args.sizes.now) s.above)

pub parts_of-requires-clause-limit : goal.parts_of-requires-clause-limit
parts_of-requires-clause-limit c =
    let is = c.as_slice.ensures.value ∙ c.in_ok-starts.ensures.starts in
    let s = started c.args.tablets.now c.args.sizes.now c.args.max_bytes c.args.max_objects
    (sym c.are_tablets.ensures ∙ c.if-not-are_tablets.false) (sym c.are_sizes.ensures ∙ c.if-not-are_sizes.false) in
    subst (λ (xs : List Start). length xs ≤ 4294967294) (sym is) s.limit

pub new-requires : goal.new-requires
new-requires c =
    let ts = c.args.tablets.now in
    let starts = starts_of c.args.max_bytes c.args.max_objects c.args.sizes.now in
    let tablets = sym c.are_tablets.ensures ∙ c.if-not-are_tablets.false in
    let s = started ts c.args.sizes.now c.args.max_bytes c.args.max_objects tablets
    (sym c.are_sizes.ensures ∙ c.if-not-are_sizes.false) in
    let is : c.as_slice.result.now ≡ starts = c.as_slice.ensures.value ∙ c.in_ok-starts.ensures.starts in
    let own : c.in_ok-parts.parts.items ≡ parts starts ts =
    c.in_ok-parts.ensures ∙ ap (λ (xs : List Start). parts xs ts) is in
    subst AreParts (sym own) (divides ts starts tablets s).parts

pub returns-clause-rule : goal.returns-clause-rule
returns-clause-rule c =
    let is = c.as_slice.ensures.value ∙ c.in_ok-starts.ensures.starts in
    c.new.ensures ∙ c.in_ok-parts.ensures ∙ ap (λ (xs : List Start). parts xs c.args.tablets.now) is

pub returns-clause-divides : goal.returns-clause-divides
returns-clause-divides c =
    let ts = c.args.tablets.now in
    let starts = starts_of c.args.max_bytes c.args.max_objects c.args.sizes.now in
    let tablets = sym c.are_tablets.ensures ∙ c.if-not-are_tablets.false in
    let s = started ts c.args.sizes.now c.args.max_bytes c.args.max_objects tablets
    (sym c.are_sizes.ensures ∙ c.if-not-are_sizes.false) in
    let is : c.as_slice.result.now ≡ starts = c.as_slice.ensures.value ∙ c.in_ok-starts.ensures.starts in
    let own : c.new.result ≡ parts starts ts =
    c.new.ensures ∙ c.in_ok-parts.ensures ∙ ap (λ (xs : List Start). parts xs ts) is in
    subst (λ (qs : List Part). Divides ts qs) (sym own) (divides ts starts tablets s)
