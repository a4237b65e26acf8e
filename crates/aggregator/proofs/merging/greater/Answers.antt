use Rattle.std.proofs.Common.{◌≡◌, ℕ, List, max, get_or, ap, ◌∙◌, arith}
use Rattle.std.proofs.lemmas.List.{get_or-set_other, length-set}
use Rattle.record_frame.specs.declared.values.Lengths.{Lengths}
use Rattle.aggregator.specs.Hearing.{greater_of}
use Rattle.aggregator.proofs.Merged.{is_greater, raised}
use Rattle.aggregator.proofs.merging.greater.Goals as goal

pub returns : goal.returns
returns c =
    let merged : c.loop-segment.length ≡ greater_of c.args.first.now.length c.args.second.now.length =
    is_greater c.loop-segment.length c.args.first.now.length c.args.second.now.length
    c.loop-segment.invariant.cells.0 c.loop-segment.invariant.cells.1 c.loop-segment.invariant.cells.2
    (λ k below. c.loop-segment.invariant.merged k (omega arith)) in
    ap (λ (xs : List ℕ). let seen : Lengths = record { count = c.args.first.now.count; length = xs } in seen) merged

pub loop-segment-preserved : goal.loop-segment-preserved
loop-segment-preserved c =
    let now : List ℕ = c.loop-segment.length in
    let kept = c.loop-segment.invariant.cells in
    let own : get_or now c.loop-segment.segment 0 ≡ get_or c.args.first.now.length c.loop-segment.segment 0 =
    c.loop-segment.invariant.others c.loop-segment.segment (omega arith) in
    let greatest : c.max.result ≡ max (get_or c.args.first.now.length c.loop-segment.segment 0) (get_or c.args.second.now.length c.loop-segment.segment 0) =
    omega (arith, c.max.ensures, own) in
    record {
      cells = (omega (arith, length-set now c.loop-segment.segment c.max.result, kept.0), kept.1, kept.2);
      merged = λ k below. raised now c.args.first.now.length c.args.second.now.length c.loop-segment.segment c.max.result k
          (omega (arith, c.loop-segment.invariant.cells.0)) c.loop-segment.invariant.merged greatest below;
      others = λ k above. get_or-set_other now c.loop-segment.segment k c.max.result 0 (λ same. omega arith)
          ∙ c.loop-segment.invariant.others k (omega arith);
    }
