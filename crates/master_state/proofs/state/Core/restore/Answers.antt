use Rattle.std.proofs.Common.{◌≡◌, [], rules, ap, subst}
use Rattle.history.specs.Records.{HistoryValue}
use Rattle.images.specs.Images.{ImagesValue}
use Rattle.places.specs.Map.{IndexValue}
use Rattle.places.specs.Relocation.{no_places}
use Rattle.places.specs.Secrets.{secret_seed}
use Rattle.log_head.specs.Head.{HeadValue, IsHeadValue}
use Rattle.log_head.specs.Steps.{lone_start, fresh_head}
use Rattle.master_state.specs.Invariant.{AreImagesOf}
use Rattle.master_state.proofs.Beginning.{restored_core, restored_log, tallied_first}
use Rattle.master_state.proofs.Refusals.{sizes_of}
use Rattle.master_state.proofs.state.Core.restore.Goals as goal

pub new-closed-requires : goal.new-closed-requires
new-closed-requires c = sizes_of c.args.config c.requires

pub invariant_of-core : goal.invariant_of-core
invariant_of-core c =
    let nothing : c.nothing.result.objects ≡ [] = search rules in
    let ledger : c.empty.result.postings ≡ [] = search rules in
    let index : c.with_hasher.result.held ≡ no_places (secret_seed c.args.config.hasher.secret) =
    ap (λ (v : IndexValue). v.held) c.with_hasher.ensures in
    let history : c.new.result.records ≡ [] = ap (λ (h : HistoryValue). h.records) c.new.ensures in
    let forgotten : c.new.result.forgotten ≡ 0 = ap (λ (h : HistoryValue). h.forgotten) c.new.ensures in
    let waiting : c.new-2.result.items ≡ [] = search rules in
    let head : c.in_ok-head.head ≡ fresh_head c.args.config.master c.args.config.replicas
    (lone_start 1 c.args.config.format c.args.safe) = search rules in
    let made = c.new-closed.ensures in
    let sizes : AreImagesOf c.args.config c.new-closed.result = record {
      segment = ap (λ (v : ImagesValue). v.segment) made;
      seglet = ap (λ (v : ImagesValue). v.seglet) made;
      seglets = ap (λ (v : ImagesValue). v.seglets) made;
    } in
    let closed : c.new-closed.result.images ≡ [] = ap (λ (v : ImagesValue). v.images) made in
    let failed : c.none.result ≡ [] = c.none.ensures in
    let abandoned : c.none-2.result.heads ≡ [] = c.none-2.ensures in
    rw (head, closed, index, history, forgotten, waiting, nothing, ledger, failed, abandoned) (
      (λ never. absurd (cc)),
      record { segment = sizes.segment; seglet = sizes.seglet; seglets = sizes.seglets },
      restored_core c.args.config c.args.safe (subst (λ (h : HeadValue). IsHeadValue h) head
          c.in_ok-head.ensures.valid) c.requires,
      tt,
      tallied_first c.args.config c.args.safe c.first_tallies.result c.first_tallies.ensures,
    )

pub returns-clause-log : goal.returns-clause-log
returns-clause-log c =
    let nothing : c.nothing.result.objects ≡ [] = search rules in
    let ledger : c.empty.result.postings ≡ [] = search rules in
    let history : c.new.result.records ≡ [] = ap (λ (h : HistoryValue). h.records) c.new.ensures in
    let head : c.in_ok-head.head ≡ fresh_head c.args.config.master c.args.config.replicas
    (lone_start 1 c.args.config.format c.args.safe) = search rules in
    let failed : c.none.result ≡ [] = c.none.ensures in
    let abandoned : c.none-2.result.heads ≡ [] = c.none-2.ensures in
    rw (head, history, nothing, ledger, failed, abandoned)
    (restored_log c.args.config c.args.safe (subst (λ (h : HeadValue). IsHeadValue h) head c.in_ok-head.ensures.valid)
    c.requires)
