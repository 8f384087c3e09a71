use Rattle.std.proofs.Common.{◌≡◌, ◌<◌, ◌++◌, ◌∷◌, [], true, false, List, length, take, sym, ap, subst, ◌∙◌, arith}
use Rattle.entry.specs.declared.entry.Entry.TheVariants as entry
use Rattle.std.specs.Prelude.{is_some}
use Rattle.entry.specs.declared.entry.Object.{Object}
use Rattle.entry.specs.declared.entry.Entry.{Entry}
use Rattle.entry.specs.Meaning.{among, object_at, contents_of}
use Rattle.versioned_map.proofs.Failing.{failing_from_all}
use Rattle.versioned_map.proofs.Listings.{IsHighest, take_next, among_next, listing_passes, listing_takes}
use Rattle.versioned_map.proofs.Listings.{listing_means, listed_already, highest_from_top}
use Rattle.versioned_map.proofs.bag.meaning.Goals.{in-Object+then-is_top+then-not-is_listed+in_ok-copy_object+in_ok-push}
use Rattle.versioned_map.proofs.bag.meaning.Goals.{in-Object+else-is_top}
use Rattle.versioned_map.proofs.bag.meaning.Goals.{else-is_top-via-then-is_top+else-not-is_listed}
use Rattle.versioned_map.proofs.bag.meaning.Goals.{else-is_top-via-else-is_top, in_default}
use Rattle.versioned_map.proofs.bag.meaning.Goals as goal

pub loop-entry-preserved : goal.loop-entry-preserved
loop-entry-preserved c =
    let bag = c.args.bag.now in
    let os = c.loop-entry.objects.items in
    let i = c.loop-entry.entry-index in
    let e = c.entry-item.result in
    let lt : i < length bag = omega arith in
    let more = take_next bag i e lt c.entry-item.is in
    let held = among_next bag i e lt c.entry-item.is in
    let before = c.loop-entry.invariant in
    elim c.match-entry.branch [
      | in-Object+then-is_top+then-not-is_listed+in_ok-copy_object+in_ok-push w ↦ (
          let o = w.in-Object.object in
          let highest : IsHighest bag o = w.is_top.ensures.0 w.if-is_top.true in
          let listed : w.is_listed.result ≡ is_some (contents_of os o.key) =
          w.is_listed.ensures ∙ ap (λ (xs : List Object). is_some (contents_of xs o.key)) w.as_slice.ensures.value in
          let new : is_some (contents_of os o.key) ≡ false = sym listed ∙ w.if-not-is_listed.true in
          rw (w.objects-is, w.in_ok-push.ensures.items, w.in_ok-copy_object.ensures)
          (listing_takes bag i os o (more ∙ ap (λ (f : Entry). take i bag ++ f ∷ []) w.in-Object.is)
          (subst (among bag) w.in-Object.is held) before highest new)
          )
      | in-Object+else-is_top w ↦ rw w.objects-is (listing_passes bag i os e more before (λ k x here top.
          let o = w.in-Object.object in
          let same : entry.Object o ≡ object_at k x = sym w.in-Object.is ∙ here in
          elim w.else-is_top.branch [
            | else-is_top-via-then-is_top+else-not-is_listed v ↦ (
                let listed : v.is_listed.result ≡ is_some (contents_of os o.key) =
                v.is_listed.ensures ∙ ap (λ (xs : List Object). is_some (contents_of xs o.key))
                v.as_slice.ensures.value in
                listed_already os o k x (sym listed ∙ v.if-not-is_listed.false) same
                )
            | else-is_top-via-else-is_top v ↦ (
                let is : w.is_top.result ≡ true = w.is_top.ensures.1 (highest_from_top bag o k x same top) in
                let not : w.is_top.result ≡ false = v.if-is_top.false in
                absurd (cc)
                )
          ]))
      | in_default w ↦ rw w.objects-is (listing_passes bag i os e more before
          (λ k x here top. absurd (w.in_default.not-Object _ here)))
    ]

pub returns-clause-meaning : goal.returns-clause-meaning
returns-clause-meaning c =
    let bag = c.args.bag.now in
    let os = c.loop-entry.objects.items in
    let all : c.loop-entry.entry-index ≡ length bag = omega arith in
    listing_means bag os (rw all at c.loop-entry.invariant)

pub returns-in_err-copy_object-clause-refused : goal.returns-in_err-copy_object-clause-refused
returns-in_err-copy_object-clause-refused c =
    let bag = c.args.bag.now in
    let held = among_next bag c.loop-entry.entry-index c.entry-item.result (omega arith) c.entry-item.is in
    failing_from_all c.from_residual.result _ (c.in-Object.object, subst (among bag) c.in-Object.is held)

pub returns-in_err-push-clause-refused : goal.returns-in_err-push-clause-refused
returns-in_err-push-clause-refused c =
    let bag = c.args.bag.now in
    let held = among_next bag c.loop-entry.entry-index c.entry-item.result (omega arith) c.entry-item.is in
    failing_from_all c.from_residual-in_err-push.result _ (c.in-Object.object, subst (among bag) c.in-Object.is held)
