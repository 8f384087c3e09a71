use Rattle.std.proofs.Common.{◌≡◌, get_or, refl, sym, subst, ◌∙◌, ap}
use Rattle.std.specs.Prelude.{Some}
use Rattle.std.specs.Borrow.{Bor}
use Rattle.std.specs.Ordering.{nat_cmp}
use Rattle.std.specs.BTreeMap.{get}
use Rattle.entry.specs.View.{shown_digest, shown_ids}
use Rattle.replica.specs.declared.holding.Holding.{Holding}
use Rattle.recovery_plan.specs.Looked.{IsUsableFor}
use Rattle.recovery_plan.proofs.Lookups.{get-at, told-len, usable-by, by-usable, copied-some, true-not-false}
use Rattle.recovery_plan.proofs.listed.found_at.Goals as goal
use Rattle.recovery_plan.proofs.listed.found_at.Goals.{in_default-via-in-Some+else-is_usable, in_default-via-in_default}

some-of : {a b : Bor Holding} → Some a ≡ Some b → a ≡ b
some-of e = cc

pub returns-in-Some : goal.returns-in-Some
returns-in-Some c =
    let d = shown_digest c.args.digest.now in
    let i = c.args.place in
    let at : get_or (shown_ids c.args.digest.now) i 0 ≡ c.id.result = get-at _ i c.id.result c.id.ensures in (
      ap (get nat_cmp c.args.best.now) at ∙ sym c.in-Some.ensures.value,
      usable-by d _ c.len.result c.in-Some.holding.now.now (told-len d i c.id.result c.len.result c.id.ensures
          c.len.ensures)
          (c.if-is_usable.ensures.0 refl),
    )

pub returns-in_default : goal.returns-in_default
returns-in_default c h is may =
    let d = shown_digest c.args.digest.now in
    let i = c.args.place in
    let at : get_or (shown_ids c.args.digest.now) i 0 ≡ c.id.result = get-at _ i c.id.result c.id.ensures in
    let there : get nat_cmp c.args.best.now c.id.result ≡ Some h =
    ap (get nat_cmp c.args.best.now) (sym at) ∙ is in
    elim c.in_default.branch [
      | in_default-via-in-Some+else-is_usable w ↦
          let same : h ≡ w.in-Some.holding.now = some-of (sym there ∙ sym w.in-Some.ensures.value) in
          absurd (true-not-false (w.if-is_usable.ensures.1
          (by-usable d _ w.len.result w.in-Some.holding.now.now
          (told-len d i c.id.result w.len.result c.id.ensures w.len.ensures)
          (subst (λ (b : Bor Holding). IsUsableFor d (get_or (shown_ids c.args.digest.now) i 0) b.now) same may))))
      | in_default-via-in_default w ↦
          let known = copied-some c.get.result h (c.get.ensures.value ∙ there) in w.in_default.not-Some known.0 known.1
    ]
