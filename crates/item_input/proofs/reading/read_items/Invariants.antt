use Rattle.std.proofs.Common.{◌≡◌, ◌-◌, ◌≤◌, None}
use Rattle.log_base.specs.Outside.{TakesOn, unread}
use Rattle.log_base.specs.Shape.{shape}
use Rattle.item_input.proofs.SoFar.{SoFar}
use Rattle.item_input.proofs.reading.read_items.Given as goal

-- the items so far are read, and the reader has no fault
abbrev pub invariant-items : goal.invariant-items
invariant-items g l = record {
  so_far : SoFar (shape l.fn.config) (g.S.Source.left l.initial.source) (record {
    unread = unread l.reader.pending (g.S.Source.left l.source);
    counts = l.reader.counts;
    items = l.items.items;
    place = l.reader.offset;
    taken = l.reader.taken;
  });
  taken : TakesOn 0 l.reader.taken (g.S.Source.left l.initial.source) (g.S.Source.left l.source);
  config : l.reader.config ≡ shape l.fn.config;
  fresh : l.reader.fault ≡ None;
  count : g.S.Source.faults l.initial.source ≤ g.S.Source.faults l.source;
}

-- each turn but the last takes an item, and there are at most 65,536
abbrev pub decreases-items : goal.decreases-items
decreases-items g l = 65537 - l.reader.counts.items
