use Rattle.std.proofs.Common.{◌≡◌, ◌≤◌, length, sym, ◌∙◌, ap, arith}
use Rattle.std.proofs.lemmas.Option.{same_Some}
use Rattle.log_head.specs.Head.{HeadValue}
use Rattle.log_head.proofs.Heads.{everywhere_open, fewest_all, fewest_at}
use Rattle.log_head.proofs.head.Head.everywhere.Goals as goal

pub returns-in-None : goal.returns-in-None
returns-in-None c =
    let units : length c.self.inside.units.items ≡ length c.args.self.now.units =
    ap (λ (h : HeadValue). length h.units) c.self.view_is in
    let taken : length c.self.inside.taken.items ≡ length c.args.self.now.taken =
    ap (λ (h : HeadValue). length h.taken) c.self.view_is in
    let replicas : c.self.inside.replicas ≡ c.args.self.now.replicas =
    ap (λ (h : HeadValue). h.replicas) c.self.view_is in
    let opened : c.args.self.now.replicas ≤ length c.args.self.now.taken = omega arith in
    let len : c.len-in-None.result ≡ length c.args.self.now.units = omega arith in
    len ∙ sym (everywhere_open c.args.self.now opened ∙ fewest_all
    (length c.args.self.now.units) c.args.self.now.taken c.in-None.ensures)

pub returns-in-Some : goal.returns-in-Some
returns-in-Some c =
    let taken : length c.self.inside.taken.items ≡ length c.args.self.now.taken =
    ap (λ (h : HeadValue). length h.taken) c.self.view_is in
    let replicas : c.self.inside.replicas ≡ c.args.self.now.replicas =
    ap (λ (h : HeadValue). h.replicas) c.self.view_is in
    let opened : c.args.self.now.replicas ≤ length c.args.self.now.taken = omega arith in
    let least = c.in-Some.ensures in
    let same : c.units_of.result ≡ least.0 = same_Some c.units_of.result least.0
    (sym c.units_of.ensures.units ∙ least.1) in
    same ∙ sym (everywhere_open c.args.self.now opened
    ∙ fewest_at (length c.args.self.now.units) least.0 c.in-Some.replica c.args.self.now.taken least.1 least.2 least.3)
