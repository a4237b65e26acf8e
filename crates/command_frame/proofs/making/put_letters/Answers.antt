use Rattle.std.proofs.Common.{arith}
use Rattle.command_frame.specs.Making.{letter}
use Rattle.command_frame.proofs.MadeItems.{byte_put}
use Rattle.command_frame.proofs.making.put_letters.Goals as goal

pub loop-index-preserved : goal.loop-index-preserved
loop-index-preserved c = record {
  items = byte_put c.args.out.now.items (letter c.args.place) c.loop-index.index c.loop-index.out.items c.put_u8.new.out.items
      c.loop-index.invariant.items c.put_u8.ensures.items;
  len = omega arith;
  capacity = omega arith;
}
