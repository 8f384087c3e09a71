use Rattle.std.proofs.Common.{◌≡◌, ℕ, ◌+◌, ◌<◌, ◌^◌, true, false, Option, Some, None, refl, sym, ap, ◌∙◌, arith, rules}
use Rattle.std.proofs.lemmas.Bool.Decides.{nat_tests}
use Rattle.std.specs.Prelude.{nat_lt, ◌↔◌, Result, Ok, Err, IfErr, IsSome}
use Rattle.entry.specs.declared.entry.Object.{Object}
use Rattle.entry.specs.Meaning.{versioned}
use Rattle.versioned_map.specs.declared.command.Reply.{Reply}
use Rattle.versioned_map.specs.declared.command.Command.TheVariants.{Put}
use Rattle.versioned_map.specs.Versioned.{is_met, after_command}
use Rattle.versioned_map.specs.declared.fault.ApplyFault.{ApplyFault}
use Rattle.versioned_map.specs.declared.fault.ApplyFault.TheVariants.{VersionsSpent}
use Rattle.versioned_map.specs.Map.{MapValue, IsAtSlot, map_state}
use Rattle.versioned_map.proofs.Failing.{failing_from_all}
use Rattle.versioned_map.proofs.Puts.{slot_has, map_state-set}
use Rattle.versioned_map.proofs.map.VersionedMap.overwrite.Goals as goal

pub returns-then-not-is_met-clause-reply : goal.returns-then-not-is_met-clause-reply
returns-then-not-is_met-clause-reply c =
    let os = c.self.inside.objects.items in
    let o = c.index.result.now in
    let unmet : is_met c.args.when (Some (versioned o)) ≡ false =
    sym (c.is_met.ensures o.value) ∙ c.if-not-is_met.true in
    rw (← c.self.view_is) (λ k at. let has = slot_has os k c.args.slot o c.self.invariant at c.index.ensures in
    rw (has, unmet) refl)

pub returns-then-not-is_met-clause-state : goal.returns-then-not-is_met-clause-state
returns-then-not-is_met-clause-state c =
    let os = c.self.inside.objects.items in
    let o = c.index.result.now in
    let unmet : is_met c.args.when (Some (versioned o)) ≡ false =
    sym (c.is_met.ensures o.value) ∙ c.if-not-is_met.true in
    rw (← c.self.view_is) (λ k at. let has = slot_has os k c.args.slot o c.self.invariant at c.index.ensures in
    rw (has, unmet) refl)

last_version : (r : Option ℕ) (n : ℕ) → r ≡ None → IsSome r ↔ (n < 2 ^ 62) → 2 ^ 62 < n + 1
last_version None n is valid = let no : n < 2 ^ 62 → ⊥ = λ lt. (let some = valid.1 lt in cc) in omega arith
last_version (Some m) n is valid = absurd (cc)

if_spent : (r : Result Reply ApplyFault) (P : Type 0) → P → IfErr r (λ fault. fault ≡ VersionsSpent → P)
if_spent (Ok reply) P p = tt
if_spent (Err fault) P p = λ _. p

pub returns-in_err-version-clause-spent : goal.returns-in_err-version-clause-spent
returns-in_err-version-clause-spent c =
    let os = c.self.inside.objects.items in
    let o = c.index.result.now in
    let met : is_met c.args.when (Some (versioned o)) ≡ true = sym (c.is_met.ensures o.value) ∙ c.if-not-is_met.false in
    let none : c.next.result ≡ None = search rules in
    let last : 2 ^ 62 < o.version + 1 = last_version c.next.result o.version none c.next.ensures.valid in
    let over : nat_lt (2 ^ 62) (o.version + 1) ≡ true = grind (arith, nat_tests) in
    rw (← c.self.view_is)
    (if_spent c.from_residual.result _ (λ k at. let has = slot_has os k c.args.slot o c.self.invariant at
    c.index.ensures in rw (has, met, over) refl))

pub returns-clause-reply : goal.returns-clause-reply
returns-clause-reply c =
    let os = c.self.inside.objects.items in
    let o = c.index.result.now in
    let met : is_met c.args.when (Some (versioned o)) ≡ true = sym (c.is_met.ensures o.value) ∙ c.if-not-is_met.false in
    let next : c.in_ok-version.version ≡ o.version + 1 = grind arith in
    rw (← c.self.view_is) (λ k at. let has = slot_has os k c.args.slot o c.self.invariant at c.index.ensures in
    rw (has, met, next) refl)

pub returns-clause-state : goal.returns-clause-state
returns-clause-state c =
    let os = c.self.inside.objects.items in
    let o = c.index.result.now in
    let p : Object =
    record {
      key = c.index_mut-object.result.now.key;
      version = c.in_ok-version.version;
      value = c.in_ok-value.value;
    } in
    let met : is_met c.args.when (Some (versioned o)) ≡ true = sym (c.is_met.ensures o.value) ∙ c.if-not-is_met.false in
    let next : p.version ≡ o.version + 1 = grind arith in
    let same = c.index_mut-object.ensures.value in
    λ k slot.
    let there : IsAtSlot os k c.args.slot = rw (← c.self.view_is) at slot in
    map_state-set os c.self.inside.safe k c.args.value.now c.args.when c.args.slot o p c.self.invariant there
    c.index.ensures met
    (ap (λ (q : Object). q.key) same ∙ there.of_key c.index_mut-object.result.now) next c.in_ok-value.ensures
    ∙ ap (λ (m : MapValue). after_command (map_state m) (Put k c.args.value.now c.args.when)) c.self.view_is

pub returns-in_err-version-clause-refused : goal.returns-in_err-version-clause-refused
returns-in_err-version-clause-refused c =
    let os = c.self.inside.objects.items in
    let o = c.index.result.now in
    let met : is_met c.args.when (Some (versioned o)) ≡ true = sym (c.is_met.ensures o.value) ∙ c.if-not-is_met.false in
    rw (← c.self.view_is)
    (failing_from_all c.from_residual.result _ (λ k at. let has = slot_has os k c.args.slot o c.self.invariant at
    c.index.ensures in rw has met))

pub returns-in_err-value-clause-refused : goal.returns-in_err-value-clause-refused
returns-in_err-value-clause-refused c =
    let os = c.self.inside.objects.items in
    let o = c.index.result.now in
    let met : is_met c.args.when (Some (versioned o)) ≡ true = sym (c.is_met.ensures o.value) ∙ c.if-not-is_met.false in
    rw (← c.self.view_is)
    (failing_from_all c.from_residual-in_err-value.result _
    (λ k at. let has = slot_has os k c.args.slot o c.self.invariant at c.index.ensures in rw has met))
