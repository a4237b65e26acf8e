use Rattle.std.proofs.Common.{◌≡◌, ℕ, List, ap, arith}
use Rattle.record_frame.specs.declared.values.Lengths.{Lengths}
use Rattle.aggregator.specs.Hearing.{lesser_of}
use Rattle.aggregator.proofs.Merged.{is_lesser}
use Rattle.aggregator.proofs.merging.lesser.Goals as goal

pub returns : goal.returns
returns c =
    let merged : c.loop-segment.length ≡ lesser_of c.args.first.now.length c.args.second.now.length =
    is_lesser c.loop-segment.length c.args.first.now.length c.args.second.now.length
    c.loop-segment.invariant.cells.0 c.loop-segment.invariant.cells.1 c.loop-segment.invariant.cells.2
    (λ k below. c.loop-segment.invariant.merged k (omega arith)) in
    ap (λ (xs : List ℕ). let seen : Lengths = record { count = c.args.first.now.count; length = xs } in seen) merged
