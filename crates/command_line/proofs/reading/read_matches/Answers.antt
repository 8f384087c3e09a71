use Rattle.command_line.proofs.reading.read_matches.Goals as goal

pub returns : goal.returns
returns c = record {
  backups = c.number.ensures;
  replicas = c.number-2.ensures;
  step = c.number-3.ensures;
  segment = c.number-4.ensures;
  seglet = c.number-5.ensures;
  seglets = c.number-6.ensures;
  tables = c.number-7.ensures;
  history = c.number-8.ensures;
  bytes = c.number-9.ensures;
  objects = c.number-10.ensures;
  format = c.number-11.ensures;
  largest = c.number-12.ensures;
  live = c.number-13.ensures;
  tend = c.number-14.ensures;
  forget = c.is_set.ensures;
}
