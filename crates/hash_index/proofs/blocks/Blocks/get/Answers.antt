use Rattle.std.proofs.Common.{arith}
use Rattle.hash_index.proofs.Blocked.{block_there, bucket_there, bucket_is}
use Rattle.hash_index.proofs.blocks.Blocks.get.Goals as goal

pub index-requires : goal.index-requires
index-requires c =
    let s = c.self.inside in
    let i = c.args.at in
    omega (
      arith,
      s.blocks.ok.0,
      block_there s.len s.blocks.items c.args.self.now c.self.invariant.0 c.self.view_is i c.requires,
    )

pub index-requires-2 : goal.index-requires-2
index-requires-2 c =
    let s = c.self.inside in
    let i = c.args.at in
    let b = c.index.result.now in
    omega (
      arith,
      b.ok.0,
      bucket_there s.len s.blocks.items c.args.self.now c.self.invariant.0 c.self.view_is i c.requires b
          c.index.ensures,
    )

pub returns : goal.returns
returns c =
    let s = c.self.inside in
    let i = c.args.at in
    let b = c.index.result.now in
    let x = c.index-2.result.now in
    bucket_is s.len s.blocks.items c.args.self.now c.self.invariant.0 c.self.view_is i c.requires b c.index.ensures
    x c.index-2.ensures
