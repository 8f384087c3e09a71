use Rattle.versioned_map.proofs.Listings.{IsListing}
use Rattle.versioned_map.proofs.bag.meaning.Given as goal

abbrev pub invariant-loop-entry : goal.invariant-loop-entry
invariant-loop-entry l = IsListing l.bag l.entry-index l.objects.items
