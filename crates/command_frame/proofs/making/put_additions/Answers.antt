use Rattle.std.proofs.Common.{◌≡◌, ℕ, ◌++◌, ◌∙◌, ap, arith}
use Rattle.std.specs.List.{flat_map, range_with_len}
use Rattle.log_base.specs.Shape.{shape}
use Rattle.command_frame.specs.Making.{addition, additions}
use Rattle.command_frame.proofs.MadeItems.{place_put}
use Rattle.command_frame.proofs.making.put_additions.Goals as goal

pub loop-shard-preserved : goal.loop-shard-preserved
loop-shard-preserved c = record {
  items = place_put c.args.out.now.items addition c.loop-shard.shard c.loop-shard.out.items c.put_addition.new.out.items
      c.loop-shard.invariant.items c.put_addition.ensures.items;
  len = omega arith;
  capacity = omega arith;
}

pub returns-clause-items : goal.returns-clause-items
unfolding additions
returns-clause-items c =
    let all : c.loop-shard.shard ≡ (shape c.args.config.now).shards = omega arith in
    c.loop-shard.invariant.items ∙ ap (λ (n : ℕ). c.args.out.now.items ++ flat_map addition (range_with_len 0 n)) all
