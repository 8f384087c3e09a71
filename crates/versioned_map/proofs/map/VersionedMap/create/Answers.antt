use Rattle.std.proofs.Common.{◌≡◌, ◌+◌, ◌++◌, ◌∷◌, [], true, None, refl, ap, ◌∙◌, arith}
use Rattle.entry.specs.declared.entry.Object.{Object}
use Rattle.entry.specs.Meaning.{contents_of}
use Rattle.versioned_map.specs.declared.command.Command.TheVariants.{Put}
use Rattle.versioned_map.specs.Versioned.{is_met, after_command}
use Rattle.versioned_map.specs.Map.{MapValue, map_state}
use Rattle.versioned_map.proofs.ObjectLists.{differ_push}
use Rattle.versioned_map.proofs.Puts.{absent_is_met, map_state-push}
use Rattle.versioned_map.proofs.map.VersionedMap.create.Goals as goal

pub invariant_of-self-2 : goal.invariant_of-self-2
invariant_of-self-2 c =
    let os = c.self.inside.objects.items in
    let o : Object =
    record {
      key = c.in_ok-copy_key.field-0;
      version = c.in_ok-version.version;
      value = c.in_ok-copy_value.field-0;
    } in
    let items : c.push.new.self.items ≡ os ++ o ∷ [] = c.in_ok-push.ensures.items in
    let absent : contents_of os c.args.key.now ≡ None = rw (← c.self.view_is) at c.requires in
    let key : o.key ≡ c.args.key.now = c.in_ok-copy_key.ensures in
    rw items (differ_push os o c.self.invariant (ap (contents_of os) key ∙ absent))

pub returns : goal.returns
returns c =
    let os = c.self.inside.objects.items in
    let k = c.args.key.now in
    let value = c.args.value.now in
    let o : Object =
    record {
      key = c.in_ok-copy_key.field-0;
      version = c.in_ok-version.version;
      value = c.in_ok-copy_value.field-0;
    } in
    let items : c.push.new.self.items ≡ os ++ o ∷ [] = c.in_ok-push.ensures.items in
    let absent : contents_of os k ≡ None = rw (← c.self.view_is) at c.requires in
    let version : o.version ≡ c.self.inside.safe = grind arith in
    let met : is_met c.args.when None ≡ true = absent_is_met c.args.when c.in_default.not-Version in
    let safe : c.safe_above-self-inside.result ≡ o.version + 1 = c.safe_above-self-inside.ensures in
    record {
      reply = rw (← c.self.view_is) (rw (absent, met, version) refl);
      state = rw (items, safe)
          (map_state-push os c.self.inside.safe k value c.args.when o absent met c.in_ok-copy_key.ensures version
          c.in_ok-copy_value.ensures
          ∙ ap (λ (m : MapValue). after_command (map_state m) (Put k value c.args.when)) c.self.view_is);
      err = tt;
      refused = tt;
      spent = tt;
    }
