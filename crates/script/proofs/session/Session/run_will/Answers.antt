use Rattle.std.proofs.Common.{refl}
use Rattle.script.proofs.Sessions.{covered_anew}
use Rattle.script.proofs.session.Session.run_will.Goals as goal

pub returns : goal.returns
returns c = record {
  number = refl;
  options = refl;
  used = refl;
  covers = covered_anew c.args.self.now c.will.new.will c.will.ensures.divides;
  answers = λ config number. c.will.ensures.told config;
  makes = refl;
  wills = (c.will.ensures.handed, c.will.ensures.limits);
  word = refl;
  later = refl;
  begins = λ all. all.3;
  shows = tt;
}
