use Rattle.std.proofs.Common.{refl}
use Rattle.script.proofs.Sessions.{has_records, word_kept}
use Rattle.script.proofs.session.Session.run_clients.Goals as goal

pub returns : goal.returns
returns g c =
    let s = c.args.self.now in
    record {
      number = refl;
      options = refl;
      used = refl;
      covers = λ all. all.0;
      answers = λ config number. c.serve_clients-answer.ensures.told config;
      makes = c.serve_clients-answer.ensures.made;
      wills = refl;
      word = word_kept s.is_known c.serve_clients-answer.result.is_known _ _ _ c.serve_clients-answer.ensures.known;
      later = refl;
      begins = λ all. all.3;
      shows = tt;
    }

pub serve_clients-answer-requires-clause-records : goal.serve_clients-answer-requires-clause-records
serve_clients-answer-requires-clause-records g c = λ κs out m is. has_records c.args.self.now c.requires.stands m is
