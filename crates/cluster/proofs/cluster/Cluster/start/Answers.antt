use Rattle.std.proofs.Common.{◌/◌, List, map, length, sym, ap, ◌∙◌, subst, arith}
use Rattle.std.specs.Option.{option_map}
use Rattle.std.proofs.lemmas.Grind.{common_steps}
use Rattle.std.proofs.lemmas.List.{length-map}
use Rattle.std.proofs.lemmas.Option.{slice_get-map}
use Rattle.core_step.specs.Standing.{cluster_node}
use Rattle.counted_node.specs.Causes.{node_media}
use Rattle.counted_node.specs.Counted.{CountedState, counted_meanings, counted_node, first_in, node_in}
use Rattle.history_frame.specs.declared.inputs.Input.{Input}
use Rattle.log_base.specs.Shape.{shape}
use Rattle.log_base.specs.declared.numbers.NodeId.{NodeId}
use Rattle.node_model.specs.Machine.{IsSoundStart}
use Rattle.node_model.specs.Sound.{payloads_on}
use Rattle.tied_cells.specs.Opening.{AreLeft, HasRoomFor, MayOpen}
use Rattle.tied_cells.specs.declared.board.Deal.{Deal}
use Rattle.cluster.specs.Clusters.{AreFirst, IsBegun}
use Rattle.cluster.specs.Counting.{AreLeftWithCauses, fresh_node, fresh_state}
use Rattle.cluster.specs.Opening.{AreHandedOut, opening, opening_room}
use Rattle.cluster.proofs.Begins.{handed_out, passes_begin}
use Rattle.cluster.proofs.Causing.{AreUncounted, fresh_first, fresh_nodes, fresh_states, fresh_uncounted, none_counted_in}
use Rattle.cluster.proofs.Left.{left_with_causes, none_with_causes}
use Rattle.cluster.proofs.Openings.{few_nodes, has_room, length_opening, may_open, none_left, places_there, room_there, sound_start}
use Rattle.cluster.proofs.cluster.Cluster.start.Goals as goal

pub start-requires-clause-machines : goal.start-requires-clause-machines
start-requires-clause-machines g c =
    let few = few_nodes (shape c.args.config) c.args.config.in_range in
    let size = length-map c.args.nodes.items (cluster_node g.J.Journal.state) in let all = c.requires.begun.first.all in
    let put = ap length c.count_all.ensures.counted ∙ length-map c.args.nodes.items (fresh_node g.J.Journal.state g.J.Journal.faults g.J.Journal.keeps_synced g.J.Journal.turns) in
    (omega (arith, few.0, size, all, put), omega (arith, few.1, size, all, put))

pub start-requires-clause-sound : goal.start-requires-clause-sound
start-requires-clause-sound g c =
    let S = g.J.Journal.state in let F = g.J.Journal.faults in let K = g.J.Journal.keeps_synced in let T = g.J.Journal.turns in
    subst (λ (l : List CountedState). IsSoundStart (map node_in l)) (sym (ap (map (counted_node S)) c.count_all.ensures.counted ∙ fresh_states S F K T c.args.nodes.items))
    (subst IsSoundStart (sym (fresh_nodes S F K T c.args.nodes.items))
    (sound_start (shape c.args.config) c.args.run (payloads_on c.args.kept.items) (map (cluster_node S) c.args.nodes.items) c.args.config.in_range c.requires.begun))

pub start-requires-clause-opening : goal.start-requires-clause-opening
start-requires-clause-opening g c =
    let S = g.J.Journal.state in let F = g.J.Journal.faults in let K = g.J.Journal.keeps_synced in let T = g.J.Journal.turns in
    let config = shape c.args.config in let kept = payloads_on c.args.kept.items in
    let first = subst (AreFirst config kept) (sym (fresh_nodes S F K T c.args.nodes.items)) c.requires.begun.first in
    subst (λ (l : List CountedState). MayOpen counted_meanings l c.in-Ok.asked.items) (sym (ap (map (counted_node S)) c.count_all.ensures.counted ∙ fresh_states S F K T c.args.nodes.items))
    (subst (MayOpen counted_meanings (map (fresh_state S F K T) c.args.nodes.items)) (sym c.in-Ok.ensures.asked)
    (may_open config kept c.args.config.in_range (map (fresh_state S F K T) c.args.nodes.items) first))

pub start-requires-clause-places : goal.start-requires-clause-places
start-requires-clause-places g c =
    places_there (shape c.args.config) c.args.config.in_range c.args.passes (length c.in-Ok.asked.items) c.requires.passes.0 c.requires.passes.1
    (ap (length {A = NodeId × Input}) c.in-Ok.ensures.asked ∙ length_opening (shape c.args.config))

pub start-requires-clause-room : goal.start-requires-clause-room
start-requires-clause-room g c = room_there c.args.passes c.requires.passes.0 c.requires.passes.1

pub start-requires-clause-bytes : goal.start-requires-clause-bytes
start-requires-clause-bytes g c =
    let S = g.J.Journal.state in let F = g.J.Journal.faults in let K = g.J.Journal.keeps_synced in let T = g.J.Journal.turns in
    let config = shape c.args.config in let kept = payloads_on c.args.kept.items in
    let first = subst (AreFirst config kept) (sym (fresh_nodes S F K T c.args.nodes.items)) c.requires.begun.first in
    subst (λ (l : List CountedState). HasRoomFor counted_meanings l c.in-Ok.asked.items opening_room) (sym (ap (map (counted_node S)) c.count_all.ensures.counted ∙ fresh_states S F K T c.args.nodes.items))
    (subst (λ (l : List (NodeId × Input)). HasRoomFor counted_meanings (map (fresh_state S F K T) c.args.nodes.items) l opening_room) (sym c.in-Ok.ensures.asked)
    (has_room config kept c.args.config.in_range (map (fresh_state S F K T) c.args.nodes.items) first))

pub returns-in_default-clause-err : goal.returns-in_default-clause-err
returns-in_default-clause-err g c = none_left (cluster_node g.J.Journal.state) c.args.nodes.items (opening (shape c.args.config))

pub returns-in_default-clause-causes : goal.returns-in_default-clause-causes
returns-in_default-clause-causes g c =
    none_with_causes g.J.Journal.state g.J.Journal.faults g.J.Journal.keeps_synced g.J.Journal.turns (shape c.args.config) c.args.nodes.items

pub returns-in-Ok-start-clause-deal : goal.returns-in-Ok-start-clause-deal
returns-in-Ok-start-clause-deal g c =
    let S = g.J.Journal.state in let F = g.J.Journal.faults in let K = g.J.Journal.keeps_synced in let T = g.J.Journal.turns in
    let states = ap (map (counted_node S)) c.count_all.ensures.counted ∙ fresh_states S F K T c.args.nodes.items in
    c.in-Ok-start.ensures.deal ∙ (λ i. record { starts = states i; passes = c.args.passes; quota = 131072 / c.args.passes })

pub invariant_of-cluster-clause-sized : goal.invariant_of-cluster-clause-sized
invariant_of-cluster-clause-sized g c =
    let put = ap length c.count_all.ensures.counted ∙ length-map c.args.nodes.items (fresh_node g.J.Journal.state g.J.Journal.faults g.J.Journal.keeps_synced g.J.Journal.turns) in
    c.in-Ok-start.ensures.cells ∙ (put ∙ (sym (length-map c.args.nodes.items (cluster_node g.J.Journal.state)) ∙ c.requires.begun.first.all))

pub invariant_of-cluster-clause-none_counted : goal.invariant_of-cluster-clause-none_counted
invariant_of-cluster-clause-none_counted g c =
    let S = g.J.Journal.state in let F = g.J.Journal.faults in let K = g.J.Journal.keeps_synced in let T = g.J.Journal.turns in
    let states = ap (map (counted_node S)) c.count_all.ensures.counted ∙ fresh_states S F K T c.args.nodes.items in
    let starts = (λ i. (c.in-Ok-start.ensures.deal i).starts) ∙ states in
    none_counted_in S c.in-Ok-start.cells.table.shared.key.starts.value.items (subst AreUncounted (sym starts) (fresh_uncounted S F K T c.args.nodes.items))

pub returns-in-Ok-start-clause-begun : goal.returns-in-Ok-start-clause-begun
returns-in-Ok-start-clause-begun g c =
    let S = g.J.Journal.state in let F = g.J.Journal.faults in let K = g.J.Journal.keeps_synced in let T = g.J.Journal.turns in
    let states = ap (map (counted_node S)) c.count_all.ensures.counted ∙ fresh_states S F K T c.args.nodes.items in
    let starts = (λ i. (c.in-Ok-start.ensures.deal i).starts) ∙ states in
    subst (IsBegun (shape c.args.config) c.args.run (payloads_on c.args.kept.items)) (sym (ap (map node_in) starts ∙ fresh_nodes S F K T c.args.nodes.items)) c.requires.begun

pub returns-in-Ok-start-clause-told : goal.returns-in-Ok-start-clause-told
returns-in-Ok-start-clause-told g c =
    let S = g.J.Journal.state in let F = g.J.Journal.faults in let K = g.J.Journal.keeps_synced in let T = g.J.Journal.turns in
    let states = ap (map (counted_node S)) c.count_all.ensures.counted ∙ fresh_states S F K T c.args.nodes.items in
    let starts = (λ i. (c.in-Ok-start.ensures.deal i).starts) ∙ states in
    ap (map first_in) starts ∙ fresh_first S F K T c.args.nodes.items

pub returns-in-Ok-start-clause-handed : goal.returns-in-Ok-start-clause-handed
returns-in-Ok-start-clause-handed g c =
    let n = c.args.passes in
    let deal : Deal CountedState = record { starts = map (counted_node g.J.Journal.state) c.count_all.new.counted.items; passes = n; quota = 131072 / n } in
    subst (λ (d : Deal CountedState). AreHandedOut (shape c.args.config) d c.in-Ok-start.cells.table.shared.table_id (536870912 / n) (map (λ p. (p.seat, p.account)) c.in-Ok-start.passes.items))
    (sym c.in-Ok-start.ensures.deal)
    (handed_out (shape c.args.config) deal c.in-Ok-start.cells.table.shared.table_id (536870912 / n) (map (λ p. (p.seat, p.account)) c.in-Ok-start.passes.items)
    c.in-Ok.asked.items c.in-Ok.ensures.asked c.in-Ok-start.ensures.passes)

pub returns-in-Ok-start-clause-passes : goal.returns-in-Ok-start-clause-passes
returns-in-Ok-start-clause-passes g c = λ k pass there.
    let S = g.J.Journal.state in let F = g.J.Journal.faults in let K = g.J.Journal.keeps_synced in let T = g.J.Journal.turns in
    let states = ap (map (counted_node S)) c.count_all.ensures.counted ∙ fresh_states S F K T c.args.nodes.items in
    let config = shape c.args.config in let kept = payloads_on c.args.kept.items in let n = c.args.passes in
    let deal : Deal CountedState = record { starts = map (counted_node S) c.count_all.new.counted.items; passes = n; quota = 131072 / n } in
    passes_begin config deal c.in-Ok-start.cells.table.shared.table_id (536870912 / n) (map (λ p. (p.seat, p.account)) c.in-Ok-start.passes.items)
    c.args.run kept c.args.config.in_range (subst (AreFirst config kept) (sym (ap (map node_in) states ∙ fresh_nodes S F K T c.args.nodes.items)) c.requires.begun.first)
    (handed_out config deal c.in-Ok-start.cells.table.shared.table_id (536870912 / n) (map (λ p. (p.seat, p.account)) c.in-Ok-start.passes.items)
    c.in-Ok.asked.items c.in-Ok.ensures.asked c.in-Ok-start.ensures.passes)
    k (pass.seat, pass.account) (slice_get-map (λ p. (p.seat, p.account)) c.in-Ok-start.passes.items k ∙ ap (option_map (λ p. (p.seat, p.account))) there) pass.number_is

pub take_nodes-requires-clause-room : goal.take_nodes-requires-clause-room
take_nodes-requires-clause-room g c =
    let size = c.in-Err.ensures.err.as_many ∙ length-map c.count_all.new.counted.items (counted_node g.J.Journal.state) in
    let put = ap length c.count_all.ensures.counted ∙ length-map c.args.nodes.items (fresh_node g.J.Journal.state g.J.Journal.faults g.J.Journal.keeps_synced g.J.Journal.turns) in
    grind (arith, common_steps, size, put, c.count_all.ensures.nodes)

pub returns-in-Err-clause-causes : goal.returns-in-Err-clause-causes
returns-in-Err-clause-causes g c =
    let S = g.J.Journal.state in let F = g.J.Journal.faults in let K = g.J.Journal.keeps_synced in let T = g.J.Journal.turns in
    let states = ap (map (counted_node S)) c.count_all.ensures.counted ∙ fresh_states S F K T c.args.nodes.items in
    let config = shape c.args.config in
    subst (λ now. AreLeftWithCauses config (cluster_node S) (node_media S F K T) c.args.nodes.items now) (sym c.take_nodes.ensures.nodes)
    (left_with_causes S F K T config c.args.run (payloads_on c.args.kept.items) c.args.config.in_range c.args.nodes.items c.requires.begun c.in-Err.counted.items c.take_nodes.ensures.told
    (subst (λ (x : List CountedState × List (NodeId × Input)). AreLeft (counted_node S) counted_meanings x.0 x.1 c.in-Err.counted.items) (λ i. (states i, c.in-Ok.ensures.asked i)) c.in-Err.ensures.err))

pub returns-in-Err-clause-err : goal.returns-in-Err-clause-err
returns-in-Err-clause-err g c = (returns-in-Err-clause-causes g c).left
