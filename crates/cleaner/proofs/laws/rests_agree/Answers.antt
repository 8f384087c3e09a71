use Rattle.cleaner.proofs.Ends.{rest_same, cursor_agrees, pass_agrees, rest_segment, end_is_none}
use Rattle.cleaner.proofs.laws.rests_agree.Goals as goal

pub returns : goal.returns
returns c = record {
  rest = rest_same;
  cursor = cursor_agrees;
  pass = pass_agrees;
  end = end_is_none;
  victims = rest_segment;
}
