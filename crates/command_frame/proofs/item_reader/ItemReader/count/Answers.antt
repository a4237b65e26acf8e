use Rattle.std.proofs.Common.{ap, arith}
use Rattle.command_frame.specs.Items.{counted}
use Rattle.command_frame.specs.Reader.{ItemReading}
use Rattle.command_frame.proofs.Limits.{within_limits}
use Rattle.command_frame.proofs.item_reader.ItemReader.count.Goals as goal

-- the limits that were tried are those of the counts with the item
pub invariant_of-self : goal.invariant_of-self
invariant_of-self c =
    let short = c.requires.short in
    let limits = within_limits (counted c.args.self.now.counts c.args.item.now) c.requires.limits in
    let items = ap (λ (r : ItemReading). r.counts.items) c.self.view_is in
    let record_bytes = ap (λ (r : ItemReading). r.counts.record_bytes) c.self.view_is in
    let offset = c.self.invariant.2 in
    (omega arith, omega arith, omega arith)
