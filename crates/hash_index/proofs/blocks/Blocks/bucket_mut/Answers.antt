use Rattle.std.proofs.Common.{◌%◌, refl, arith}
use Rattle.std.specs.Vec.{with_item}
use Rattle.hash_index.proofs.Blocked.{block_there, bucket_there, bucket_is, put_in_blocks, put_are}
use Rattle.hash_index.proofs.blocks.Blocks.bucket_mut.Goals as goal

pub index_mut-block-requires : goal.index_mut-block-requires
index_mut-block-requires c =
    let s = c.self.inside in
    let i = c.args.at in
    omega (
      arith,
      s.blocks.ok.0,
      block_there s.len s.blocks.items c.args.self.now c.self.invariant.0 c.self.view_is i c.requires,
    )

pub index_mut-requires : goal.index_mut-requires
index_mut-requires c =
    let s = c.self.inside in
    let i = c.args.at in
    let b = c.index_mut-block.result.now in
    omega (
      arith,
      b.ok.0,
      bucket_there s.len s.blocks.items c.args.self.now c.self.invariant.0 c.self.view_is i c.requires b
          c.index_mut-block.ensures.value,
    )

pub invariant_of-self-lent : goal.invariant_of-self-lent
invariant_of-self-lent c = λ w.
    let s = c.self.inside in
    let i = c.args.at in
    let b = c.index_mut-block.result.now in (
      put_are s.len s.blocks.items c.args.self.now c.self.invariant.0 c.self.view_is i c.requires b
          c.index_mut-block.ensures.value (with_item b (i % 64) w) w refl,
      c.self.invariant.1,
    )

pub returns : goal.returns
returns c =
    let s = c.self.inside in
    let i = c.args.at in
    let b = c.index_mut-block.result.now in
    let x = c.index_mut.result.now in (
      (
        refl,
        λ w. put_in_blocks s.len s.blocks.items c.args.self.now c.self.invariant.0 c.self.view_is i c.requires b
            c.index_mut-block.ensures.value (with_item b (i % 64) w) w refl,
      ),
      record {
        writes_back = tt;
        value = bucket_is s.len s.blocks.items c.args.self.now c.self.invariant.0 c.self.view_is i c.requires b
            c.index_mut-block.ensures.value x c.index_mut.ensures.value;
      },
    )
