use Rattle.std.proofs.Common.{rules, ◌≡◌, ◌∙◌, Bool, true, List, map, max, ap, subst, sym}
use Rattle.std.specs.Prelude.{All}
use Rattle.claims.specs.declared.claim.Claim.{Claim}
use Rattle.claims.specs.Claims.{Claimed, claimed, claims_of, bound_of_claims, has_clash, objects_in, tops}
use Rattle.partitions.specs.Parted.{Parceled, bag_in, entries_in}
use Rattle.partitions.specs.Setbacks.{IsSetback}
use Rattle.claims.specs.Settled.{AreOf}
use Rattle.partitions.proofs.Parting.{gathered_all, listed_of, clash_of, setback_is}
use Rattle.partitions.proofs.share.Share.finish.Given as given
use Rattle.partitions.proofs.share.Share.finish.Goals.{After-as_slice-4}
use Rattle.partitions.proofs.share.Share.finish.Goals as goal

-- all claims of the partition came
gathered : (g : given.Over) (c : After-as_slice-4 g)
    → AreOf (bag_in g.D.Division.parts c.self.inside.partition g.D.Division.segments)
    (map claimed c.in_ok-claims.claims.items)
gathered g c =
    let partition = c.self.inside.partition in
    subst (λ (cs : List Claimed). AreOf (bag_in g.D.Division.parts partition g.D.Division.segments) cs)
    (sym (c.in_ok-claims.ensures ∙ ap (λ (ps : List Parceled). claims_of (entries_in ps)) c.as_slice-2.ensures.value))
    (gathered_all g.D.Division.parts g.D.Division.segments partition c.self.inside.marks.items
    (claims_of (entries_in c.self.inside.parcels.items)) c.self.invariant
    (subst (λ (ms : List Bool). All (λ (mark : Bool). mark ≡ true) ms) c.as_slice.ensures.value
    (c.are_whole.ensures.each c.if-not-are_whole.false)))

pub returns-in_err-objects : goal.returns-in_err-objects
returns-in_err-objects g c =
    let segments = g.D.Division.segments in
    let all = (goal.at.returns-in_err-objects g c).After-as_slice-4 in
    let why : IsSetback g.D.Division.parts segments c.in_err-objects.field-0.0 =
    setback_is g.D.Division.parts segments c.in_err-objects.field-0.0
    (λ is. clash_of g.D.Division.parts segments c.self.inside.partition c.in_ok-claims.claims.items
    c.sort_unstable.new.self.items (gathered g all) c.sort_unstable.ensures.permutation c.sort_unstable.ensures.sorted
    (subst (λ (cs : List Claim). has_clash (map claimed cs) ≡ true) c.as_slice-4.ensures.value
    (c.in_err-objects.ensures.setback is))) c.in_err-objects.ensures.covered in
    search (rules, why)

pub new-requires : goal.new-requires
new-requires g c =
    let all = (goal.at.new-requires g c).After-as_slice-4 in
    let before = c.in_ok-claims.claims.items in
    let after = c.sort_unstable.new.self.items in
    let same = c.as_slice-4.ensures.value in
    listed_of g.D.Division.parts g.D.Division.segments c.self.inside.partition before after (gathered g all)
    c.sort_unstable.ensures.permutation c.sort_unstable.ensures.sorted g.D.Division.safe c.safe_above-safe.result
    c.in_ok-objects.objects
    (subst (λ (cs : List Claim). has_clash (map claimed cs) ≡ _) same c.in_ok-objects.ensures.clean)
    (c.in_ok-objects.ensures.objects ∙ ap (λ (cs : List Claim). objects_in (tops (map claimed cs))) same)
    c.in_ok-objects.ensures.valid
    (c.safe_above-safe.ensures
    ∙ ap (λ n. max n (bound_of_claims (map claimed c.as_slice-3.result.now))) c.requires
    ∙ ap (λ (cs : List Claim). max g.D.Division.safe (bound_of_claims (map claimed cs))) c.as_slice-3.ensures.value)
