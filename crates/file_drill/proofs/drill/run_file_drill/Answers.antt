use Rattle.std.proofs.Common.{◌≡◌, sym, ◌∙◌, ap, subst}
use Rattle.replica.specs.Picture.{FleetState}
use Rattle.file_fleet.specs.Fleet.{ShowsState}
use Rattle.file_fleet.specs.Noting.{noted_by}
use Rattle.fleet_start.specs.Found.{is_found}
use Rattle.found_recovery.specs.Starts.{AreFilesOf}
use Rattle.crash_fleet.specs.Images.{images_of}
use Rattle.crash_fleet.specs.State.{crash_state}
use Rattle.recovery.specs.master.World.{world}
use Rattle.recovery.specs.AtStart.{at_start}
use Rattle.recovery.specs.Headline.{Headline}
use Rattle.file_drill.proofs.drill.run_file_drill.Goals as goal

pub returns : goal.returns
returns g c =
    let image = g.D.CrashImage.crash_image in
    let state = crash_state image in
    let start = world state c.args.master in
    let stop = world state c.run.new.self in
    let fleet = c.crash-fleet.result in
    let left = state fleet in
    let same : left ≡ stop.fleet = ap state c.crash-fleet.ensures.fleet in
    let files = images_of image fleet.files.members in
    let places = c.in-Some.found.places.items in
    let shows : ShowsState left files =
    c.show_images.ensures (sym c.is_known.ensures ∙ c.if-not-is_known.false) in
    let are : AreFilesOf (noted_by c.in-Some.found.registry) places stop.fleet files =
    record {
      shows = subst (λ (f : FleetState). ShowsState f files) same shows;
      backups = ap (λ (f : FleetState). f.backups) (sym same) ∙ sym c.in-Some.ensures.count;
      read = c.in-Some.ensures.read;
    } in
    record {
      headline = record {
        left = shows;
        opened = c.in-Some.ensures.read;
        backups = c.in-Some.ensures.count;
        kept_found = c.in-Some.ensures.kept;
        told = record {
          stop = stop;
          run = c.in-Ok.ensures.ran;
          fleet = same;
          count = c.durable-durable.ensures.count;
          calm = c.failover_left-pushes_left.ensures.none;
        };
        headline = subst (λ (f : FleetState). Headline (at_start start) c.args.steps.now c.in-Ok.answers.items
            c.durable-durable.result c.failover_left-pushes_left.result f (is_found places) c.args.will.now
            c.args.order.now c.recover_found-recovered.result) (sym same)
            (c.recover_found-recovered.ensures.headline start stop c.args.steps.now c.in-Ok.answers.items
            c.durable-durable.result c.failover_left-pushes_left.result files c.in-Ok.ensures.ran c.run.ensures.valid
            c.durable-durable.ensures.count c.failover_left-pushes_left.ensures.none (sym c.number-number.ensures) are);
      };
    }
