use Rattle.std.proofs.Common.{ℕ, List, Option, refl, sym, ap, ◌∙◌, subst, arith}
use Rattle.std.proofs.KnownBytes.{prepend_known-nil}
use Rattle.log_base.specs.Outside.{Rose, TakesOn, unread}
use Rattle.log_base.proofs.Taking.{takes_none, takes_then}
use Rattle.command_frame.specs.declared.items.Item.{Item}
use Rattle.command_frame.specs.Reader.{ItemReading}
use Rattle.item_input.specs.Steps.{Standing}
use Rattle.item_input.proofs.SoFar.{none_so_far, goes_on, all_read, few_items, refused}
use Rattle.item_input.proofs.reading.read_items.Goals as goal

abbrev standing : ItemReading → Option (List ℕ) → List Item → Standing
standing reader left items =
    record { unread = unread reader.pending left; counts = reader.counts; items = items; place = reader.offset; taken = reader.taken }

-- nothing was read yet
pub items-init : goal.items-init
items-init g c =
    let reader = c.new-reader.ensures in
    let left = g.S.Source.left c.args.source.now in
    record {
      so_far = none_so_far _ left _ (ap (λ (r : ItemReading). unread r.pending left) reader ∙ prepend_known-nil left)
          (ap (λ (r : ItemReading). r.counts) reader) c.new-items.ensures.items (ap (λ (r : ItemReading). r.offset) reader);
      taken = subst (λ (n : ℕ). TakesOn 0 n left left) (sym (ap (λ (r : ItemReading). r.taken) reader)) (takes_none 0 left (omega arith));
      config = ap (λ (r : ItemReading). r.config) reader;
      fresh = ap (λ (r : ItemReading). r.fault) reader;
      count = omega arith;
    }

-- one item more is read
pub items-preserved : goal.items-preserved
items-preserved g c =
    let kept = c.items.invariant in
    record {
      so_far = goes_on _ _ _ _ _ kept.config kept.so_far (rw c.in-Ok-Taken.field-0-is at c.in-Ok-Taken.ensures.steps);
      taken = takes_then _ _ _ _ _ _ kept.taken c.in-Ok-Taken.ensures.taken;
      config = c.in-Ok-Taken.ensures.config ∙ kept.config;
      fresh = c.in-Ok-Taken.ensures.fresh;
      count = omega (arith, kept.count, c.in-Ok-Taken.ensures.later);
    }

-- the input ended behind the items that were read
pub returns-in-Ok-Ended-clause-read : goal.returns-in-Ok-Ended-clause-read
returns-in-Ok-Ended-clause-read g c =
    let left = g.S.Source.left in
    let old = standing c.items.reader (left c.items.source) c.items.items.items in
    let new = standing c.read_one.new.reader (left c.read_one.new.source) c.read_one.new.items.items in
    all_read _ _ old new c.read_one.new.reader.pending (left c.read_one.new.source) refl c.items.invariant.so_far
    (rw c.in-Ok-Ended.field-0-is at c.in-Ok-Ended.ensures.steps)

pub returns-in-Ok-Ended-clause-few : goal.returns-in-Ok-Ended-clause-few
returns-in-Ok-Ended-clause-few g c =
    let left = g.S.Source.left in
    let old = standing c.items.reader (left c.items.source) c.items.items.items in
    let new = standing c.read_one.new.reader (left c.read_one.new.source) c.read_one.new.items.items in
    let read = all_read _ _ old new c.read_one.new.reader.pending (left c.read_one.new.source) refl c.items.invariant.so_far
    (rw c.in-Ok-Ended.field-0-is at c.in-Ok-Ended.ensures.steps) in
    few_items c.read_one.new.items.items read.reads.within

-- a fault behind the items that were read
pub returns-in-Err-clause-refused : goal.returns-in-Err-clause-refused
returns-in-Err-clause-refused g c =
    let kept = c.items.invariant in
    let earlier = kept.count in
    let left = g.S.Source.left in
    let old = standing c.items.reader (left c.items.source) c.items.items.items in
    let new = standing c.read_one.new.reader (left c.read_one.new.source) c.read_one.new.items.items in
    let risen : Rose (g.S.Source.faults c.items.source) (g.S.Source.faults c.read_one.new.source) → Rose (g.S.Source.faults c.args.source.now) (g.S.Source.faults c.read_one.new.source) = λ rose. omega arith in
    refused _ _ _ (left c.read_one.new.source) old new _ _ c.in-Err.fault kept.config risen kept.so_far (takes_then _ _ _ _ _ _ kept.taken c.in-Err.ensures.taken) c.in-Err.ensures.steps
