use Rattle.std.proofs.Common.{◌∙◌}
use Rattle.next_master.proofs.setup.configuration.Goals as goal

pub returns-clause-config : goal.returns-clause-config
returns-clause-config c =
    let options = c.args.options.now in
    λ i. record {
      master = c.args.master;
      backups = options.backups;
      replicas = options.replicas;
      step = options.step;
      segment = options.segment;
      seglet = options.seglet;
      seglets = options.seglets;
      tablets = (c.new.ensures ∙ c.in_ok-tablets.ensures.tables) i;
      history = options.history;
      hasher = c.new-2.ensures i;
      format = options.format;
      largest = options.largest;
      most_live = options.live;
    }
