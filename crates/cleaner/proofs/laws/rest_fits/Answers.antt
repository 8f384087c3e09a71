use Rattle.cleaner.proofs.Leaving.{left_rooms, ids_kept}
use Rattle.cleaner.proofs.RoomLaws.{begin_has_rooms_in, survivors_do_not_grow, rooms_stay}
use Rattle.cleaner.proofs.SegmentFits.{lengths_of_segment, segment_fits}
use Rattle.cleaner.proofs.laws.rest_fits.Goals as goal

pub returns : goal.returns
returns c = record {
  lengths = lengths_of_segment;
  segment = segment_fits;
  begin = begin_has_rooms_in;
  copy = λ segment ids p q images after held later copied pass copies rooms.
      left_rooms segment ids p q images after held later copied pass copies rooms;
  ids = λ segment ids p q images after held later copied head new copies.
      ids_kept segment ids p q images after held later copied copies head new;
  less = survivors_do_not_grow;
  stay = rooms_stay;
}
