use Rattle.std.proofs.Common.{[], ◌≡◌, ◌∙◌, ◌++◌, ◌∷◌, ℕ, length, take, codes, ap, subst, arith}
use Rattle.std.proofs.Math.Seq.{take-length}
use Rattle.std.specs.Fmt.{decimal}
use Rattle.std.specs.Io.KnownBytes.{Appends}
use Rattle.std.specs.List.{flat_map}
use Rattle.tablet_will.specs.Parts.{partitions_of}
use Rattle.answers.specs.Texts.{part_text}
use Rattle.answers.specs.Errors.{IsHanded}
use Rattle.answers.proofs.Fronts.{fails_out, one_cut}
use Rattle.answers.proofs.Printed.{last_cut, last_handed, one_printed}
use Rattle.answers.proofs.tables.write_will.Goals as goal

pub loop-part-preserved : goal.loop-part-preserved
loop-part-preserved g c =
    one_printed part_text c.args.parts.now c.loop-part.part-index
    (record { table = 0; first = 0; last = 0; partition = 0 }) _ _ _ c.loop-part-test.true c.loop-part.invariant
    c.in_ok-write_part.ensures

pub returns : goal.returns
returns g c =
    let old = g.W.Write.contents c.args.writer.now in
    let mid = g.W.Write.contents c.loop-part.writer in
    let new = g.W.Write.contents c.write_number.new.writer in
    let qs = c.args.parts.now in
    let all : c.loop-part.part-index ≡ length qs = omega (
      arith,
      c.loop-part-test.false,
      c.loop-part.auto.part-index-end,
    ) in
    let whole : take c.loop-part.part-index qs ≡ qs = ap (λ (n : ℕ). take n qs) all ∙ take-length qs in
    let lines : Appends old mid (flat_map part_text qs) =
    subst (λ l. Appends old mid (flat_map part_text l)) whole c.loop-part.invariant in
    last_handed (flat_map part_text qs) (codes "partitions ") (decimal (partitions_of qs)) old mid new
    c.write_number.result lines
    (subst (λ (n : ℕ). IsHanded mid new (codes "partitions " ++ decimal n ++ 10 ∷ []) c.write_number.result)
    c.count_partitions.ensures c.write_number.ensures)

pub returns-in_err-write_part : goal.returns-in_err-write_part
returns-in_err-write_part g c =
    fails_out _ _ _ c.from_residual.result c.from_residual.ensures.0
    (last_cut (flat_map part_text c.args.parts.now) (codes "partitions ") (decimal (partitions_of c.args.parts.now)) _ _
    (one_cut part_text c.args.parts.now c.loop-part.part-index
    (record { table = 0; first = 0; last = 0; partition = 0 }) _ _ _ c.loop-part-test.true c.loop-part.invariant
    c.in_err-write_part.ensures))
