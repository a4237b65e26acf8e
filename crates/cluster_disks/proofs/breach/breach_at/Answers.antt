use Rattle.std.proofs.Common.{ℕ, ◌/◌, ◌%◌, ◌<◌, length, sym, ap, ◌∙◌, subst, arith}
use Rattle.std.specs.Prelude.{slice_index_or}
use Rattle.history_frame.specs.declared.events.Kept.{Kept as KeptOne}
use Rattle.segment_journal.specs.File.{place_of}
use Rattle.segment_journal.specs.Journalled.{Journalled}
use Rattle.cluster_disks.specs.declared.stop.OpenStop.TheVariants.{BadDisk}
use Rattle.cluster_disks.specs.Found.{gate_of}
use Rattle.cluster_disks.proofs.Sources.{index_is, source}
use Rattle.cluster_disks.proofs.Lending.{place_within}
use Rattle.cluster_disks.proofs.breach.breach_at.Goals as goal

pub bounds-nodes-node : goal.bounds-nodes-node
bounds-nodes-node g c =
    let from = source c.args.nodes.now c.args.kept.now c.args.index c.index-kept-index.result c.requires.small c.requires.kept c.requires.within c.index-kept-index.is in
    place_within c.args.nodes.now _ from.journals from.at

pub offset_bounds-get-segment : goal.offset_bounds-get-segment
offset_bounds-get-segment g c =
    let from = source c.args.nodes.now c.args.kept.now c.args.index c.index-kept-index.result c.requires.small c.requires.kept c.requires.within c.index-kept-index.is in
    let same = c.get.ensures ∙ c.index-nodes-node.is ∙ index_is c.args.nodes.now _ from.journals c.index-nodes-node.result from.at in
    let lt = place_within from.journals _ from.journal from.here in
    let size = ap (λ js. length js) same in omega arith

pub bounds-get-segment : goal.bounds-get-segment
bounds-get-segment g c =
    let from = source c.args.nodes.now c.args.kept.now c.args.index c.index-kept-index.result c.requires.small c.requires.kept c.requires.within c.index-kept-index.is in
    let same = c.get.ensures ∙ c.index-nodes-node.is ∙ index_is c.args.nodes.now _ from.journals c.index-nodes-node.result from.at in
    let lt = place_within from.journals _ from.journal from.here in
    let size = ap (λ js. length js) same in omega arith

pub place_of-at-requires-clause-first : goal.place_of-at-requires-clause-first
place_of-at-requires-clause-first g c κs within =
    let place = (slice_index_or c.args.kept.now c.args.index c.index-kept-index.result).disk in
    let from = source c.args.nodes.now c.args.kept.now c.args.index c.index-kept-index.result c.requires.small c.requires.kept c.requires.within c.index-kept-index.is in
    let same = c.get.ensures ∙ c.index-nodes-node.is ∙ index_is c.args.nodes.now (place / 8) from.journals c.index-nodes-node.result from.at in
    let journal = c.index-get-segment.is ∙ ap (λ js. slice_index_or js (place % 8) c.index-get-segment.result) same ∙ index_is from.journals (place % 8) from.journal c.index-get-segment.result from.here in
    let fresh = c.requires.fresh (place / 8) (place % 8) from.journals from.journal from.at from.here in
    ap (λ j. j.journal.first) journal ∙ ap (λ (j : Journalled). j.first) fresh

pub place_of-at-requires-clause-within : goal.place_of-at-requires-clause-within
place_of-at-requires-clause-within g c κs within =
    let place = (slice_index_or c.args.kept.now c.args.index c.index-kept-index.result).disk in
    let from = source c.args.nodes.now c.args.kept.now c.args.index c.index-kept-index.result c.requires.small c.requires.kept c.requires.within c.index-kept-index.is in
    let same = c.get.ensures ∙ c.index-nodes-node.is ∙ index_is c.args.nodes.now (place / 8) from.journals c.index-nodes-node.result from.at in
    let journal = c.index-get-segment.is ∙ ap (λ js. slice_index_or js (place % 8) c.index-get-segment.result) same ∙ index_is from.journals (place % 8) from.journal c.index-get-segment.result from.here in
    subst (λ j. c.offset_of.result < length j.journal.payloads) (sym journal) (subst (λ (n : ℕ). n < length from.journal.journal.payloads) (sym c.offset_of.ensures) from.offset)

pub returns : goal.returns
returns g c one at =
    let place = (slice_index_or c.args.kept.now c.args.index c.index-kept-index.result).disk in
    let from = source c.args.nodes.now c.args.kept.now c.args.index c.index-kept-index.result c.requires.small c.requires.kept c.requires.within c.index-kept-index.is in
    let same = c.get.ensures ∙ c.index-nodes-node.is ∙ index_is c.args.nodes.now (place / 8) from.journals c.index-nodes-node.result from.at in
    let journal = c.index-get-segment.is ∙ ap (λ js. slice_index_or js (place % 8) c.index-get-segment.result) same ∙ index_is from.journals (place % 8) from.journal c.index-get-segment.result from.here in
    let gate = c.place_of-at.ensures ∙ ap (λ j. place_of j.journal.payloads c.offset_of.result) journal ∙ ap (λ (n : ℕ). place_of from.journal.journal.payloads n) c.offset_of.ensures ∙ from.gate in
    ap (λ (n : ℕ). BadDisk place n) gate
    ∙ ap (λ (o : KeptOne). BadDisk o.disk (gate_of c.args.kept.now c.args.index o)) (index_is c.args.kept.now c.args.index one c.index-kept-index.result at)
