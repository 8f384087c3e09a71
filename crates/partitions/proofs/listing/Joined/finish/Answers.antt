use Rattle.std.proofs.Common.{◌∙◌, subst}
use Rattle.tablet_will.specs.Parts.{partitions_of}
use Rattle.claims.specs.Bags.{segments_bag}
use Rattle.partitions.specs.Parted.{AreJoined, IsListed}
use Rattle.partitions.proofs.PartLists.{joined_below, joined_listed}
use Rattle.partitions.proofs.listing.Joined.finish.Given as given
use Rattle.partitions.proofs.listing.Joined.finish.Goals.{After-self}
use Rattle.partitions.proofs.listing.Joined.finish.Goals as goal

-- the lists of all partitions are joined
whole : (g : given.Over) (c : After-self g)
    → AreJoined g.D.Division.parts g.D.Division.segments g.D.Division.safe (partitions_of g.D.Division.parts)
    c.self.inside.objects c.self.inside.safe
whole g c =
    subst (λ n. AreJoined g.D.Division.parts g.D.Division.segments g.D.Division.safe n c.self.inside.objects
    c.self.inside.safe) (c.self.view_is ∙ c.requires.whole) c.self.invariant

listed : (g : given.Over) (c : After-self g)
    → IsListed (segments_bag g.D.Division.segments) g.D.Division.safe c.self.inside.objects c.self.inside.safe
listed g c =
    joined_listed g.D.Division.parts g.D.Division.segments c.requires.parts c.requires.covered g.D.Division.safe
    c.self.inside.safe c.self.inside.objects (whole g c)

pub invariant_of-result : goal.invariant_of-result
invariant_of-result g c = record {
  ordered = (listed g c).ordered;
  below = joined_below g.D.Division.parts g.D.Division.segments c.requires.parts c.requires.covered g.D.Division.safe
      c.self.inside.safe c.self.inside.objects (whole g c);
}

pub returns-clause-ok : goal.returns-clause-ok
returns-clause-ok g c =
    let l = listed g c.before in record { meaning = l.meaning; order = l.ordered; valid = l.valid; safe = l.above }

pub returns-clause-clean : goal.returns-clause-clean
returns-clause-clean g c = (listed g c.before).clean
