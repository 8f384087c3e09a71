use Rattle.std.proofs.Common.{[], ◌∷◌, ◌++◌, List, ℕ, subst}
use Rattle.std.proofs.KnownBytes.{Appends-trans}
use Rattle.std.specs.Prelude.{Err}
use Rattle.std.specs.Io.KnownBytes.{Appends}
use Rattle.disk_lines.specs.Turns.{IsWritten}
use Rattle.disk_lines.proofs.Turning.{cut_written, then_written}
use Rattle.disk_lines.proofs.printing.write_words.Goals as goal

pub returns-in-Ok-write_bytes : goal.returns-in-Ok-write_bytes
returns-in-Ok-write_bytes g c =
    let held = g.W.Write.contents c.args.writer.now in
    let mid = g.W.Write.contents c.write_bytes.new.writer in
    let last = g.W.Write.contents c.write_bytes-in-Ok.new.writer in
    let all = subst (Appends mid last) c.as_bytes.ensures.value c.in-Ok-write_bytes.ensures in
    let end = c.write_bytes-in-Ok-write_bytes in
    then_written held last (g.W.Write.contents end.new.writer) (c.args.first.now ++ c.args.second.now) (10 ∷ [])
    end.result
    (Appends-trans held mid last c.args.first.now c.args.second.now c.in-Ok.ensures all) end.ensures

pub returns-in-Err : goal.returns-in-Err
returns-in-Err g c =
    let held = g.W.Write.contents c.args.writer.now in
    let mid = g.W.Write.contents c.write_bytes.new.writer in
    cut_written held mid (c.args.first.now ++ c.args.second.now) (10 ∷ []) c.in-Err.fault
    (cut_written held mid c.args.first.now c.args.second.now c.in-Err.fault c.in-Err.ensures)

pub returns-in-Err-write_bytes : goal.returns-in-Err-write_bytes
returns-in-Err-write_bytes g c =
    let held = g.W.Write.contents c.args.writer.now in
    let mid = g.W.Write.contents c.write_bytes.new.writer in
    let last = g.W.Write.contents c.write_bytes-in-Ok.new.writer in
    let f = c.in-Err-write_bytes.fault in
    let cut = subst (λ (l : List ℕ). IsWritten mid last l (Err f)) c.as_bytes.ensures.value
    c.in-Err-write_bytes.ensures in
    cut_written held last (c.args.first.now ++ c.args.second.now) (10 ∷ []) f
    (then_written held mid last c.args.first.now c.args.second.now (Err f) c.in-Ok.ensures cut)
