use Rattle.std.proofs.Common.{◌∙◌}
use Rattle.embedded.proofs.options.configuration.Goals as goal

pub returns : goal.returns
returns c =
    let options = c.args.options.now in
    λ i. record {
      master = c.args.master;
      backups = options.backups;
      replicas = options.replicas;
      step = options.step;
      segment = options.segment;
      seglet = options.seglet;
      seglets = options.seglets;
      tablets = (c.new.ensures ∙ c.in_ok-tablets.ensures) i;
      history = options.history;
      hasher = c.new-2.ensures i;
      format = options.format;
      largest = options.largest;
      most_live = options.live;
    }
