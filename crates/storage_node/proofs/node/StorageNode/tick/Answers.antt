use Rattle.std.proofs.Common.{◌≡◌, ◌++◌, ◌∷◌, [], ◌%◌, ◌∙◌, List, refl, sym, ap, subst, arith, rules}
use Rattle.std.specs.List.{AllByRecursion}
use Rattle.std.proofs.lemmas.List.{append_assoc}
use Rattle.event_letters.specs.Letters.{HasSpace}
use Rattle.history_frame.specs.declared.events.Sent.{Sent}
use Rattle.history_frame.specs.declared.inputs.Input.TheVariants.{Tick}
use Rattle.log_base.specs.ClusterShape.{Shape}
use Rattle.log_base.specs.Shape.{shape}
use Rattle.node_model.specs.Messages.{report_message, want_message}
use Rattle.node_model.specs.Nodes.{letter}
use Rattle.node_model.specs.StorageRow.{report as row-report}
use Rattle.node_table.specs.Numbering.{gatherer_of, orderer_node, storage_node}
use Rattle.record_frame.specs.declared.values.Lengths.{Lengths}
use Rattle.record_frame.specs.Values.{IsLengths}
use Rattle.shard_replica.specs.Replica.{lists_of, member_of}
use Rattle.storage_node.specs.declared.node.Mode.TheVariants.{Running}
use Rattle.storage_node.specs.Preparing.{IsLetter, copies_for, sizes_of}
use Rattle.storage_node.specs.StorageState.{StorageState}
use Rattle.storage_node.proofs.Elements.{all-joined}
use Rattle.storage_node.proofs.Sizes.{report-length}
use Rattle.storage_node.proofs.Sounding.{turned-from}
use Rattle.storage_node.proofs.Spaces.{space-front}
use Rattle.storage_node.proofs.Telling.{report-is, state-lengths, turns-ticked, want-is}
use Rattle.storage_node.proofs.node.StorageNode.tick.Goals as goal

pub send_all-requires-clause-space : goal.send_all-requires-clause-space
send_all-requires-clause-space g c =
    let taken : c.replace-copies.result.items ≡ c.self.inside.made.copies.items = search rules in
    let room = subst (λ (v : StorageState). HasSpace v.letters c.args.out.now.rooms (sizes_of v.copies ++ 25 ∷ 7 ∷ [])) (sym c.self.view_is) c.requires.space in
    subst (λ (l : List Sent). HasSpace c.self.inside.made.letters c.args.out.now.rooms (sizes_of l)) (sym taken)
    (space-front c.self.inside.made.letters c.args.out.now.rooms (sizes_of c.self.inside.made.copies.items) (25 ∷ 7 ∷ []) room)

pub send_report-requires-clause-lengths : goal.send_report-requires-clause-lengths
send_report-requires-clause-lengths g c =
    let replicas = ap (λ (s : Shape). s.replicas) c.self.invariant.replica.config_is in
    subst (λ (l : Lengths). IsLengths 5 l) (sym c.lengths-lengths.ensures)
    (state-lengths c.self.inside.replica.state (omega (arith, replicas, c.self.inside.seat.config.in_range.some_replica)) (omega (arith, replicas, c.self.inside.seat.config.in_range.replicas))
    c.self.invariant.sound.count c.self.invariant.sound.few)

pub send_report-requires-clause-space : goal.send_report-requires-clause-space
send_report-requires-clause-space g c =
    let taken : c.replace-copies.result.items ≡ c.self.inside.made.copies.items = search rules in
    let room = subst (λ (v : StorageState). HasSpace v.letters c.args.out.now.rooms (sizes_of v.copies ++ 25 ∷ 7 ∷ [])) (sym c.self.view_is) c.requires.space in
    let left = c.send_all.ensures.space (25 ∷ 7 ∷ []) (subst (λ (l : List Sent). HasSpace c.self.inside.made.letters c.args.out.now.rooms (sizes_of l ++ 25 ∷ 7 ∷ [])) (sym taken) room) in
    space-front c.send_all.new.letters c.send_all.new.out.rooms (25 ∷ []) (7 ∷ []) left

pub send_want-requires-clause-space : goal.send_want-requires-clause-space
send_want-requires-clause-space g c =
    let taken : c.replace-copies.result.items ≡ c.self.inside.made.copies.items = search rules in
    let room = subst (λ (v : StorageState). HasSpace v.letters c.args.out.now.rooms (sizes_of v.copies ++ 25 ∷ 7 ∷ [])) (sym c.self.view_is) c.requires.space in
    let left = c.send_all.ensures.space (25 ∷ 7 ∷ []) (subst (λ (l : List Sent). HasSpace c.self.inside.made.letters c.args.out.now.rooms (sizes_of l ++ 25 ∷ 7 ∷ [])) (sym taken) room) in
    c.send_report.ensures.space (7 ∷ []) left

pub returns-clause-turn : goal.returns-clause-turn
returns-clause-turn g c =
    let running : c.self.inside.mode ≡ Running = ap (λ (v : StorageState). v.mode) c.self.view_is ∙ c.requires.running in
    let state = c.self.inside.replica.state in
    let config = shape c.self.inside.seat.config in
    let shard = c.self.inside.seat.shard.0 in
    let own = c.self.inside.seat.own.0 in
    let copies = c.self.inside.made.copies.items in
    let taken : c.replace-copies.result.items ≡ copies = search rules in
    let replicas = ap (λ (s : Shape). s.replicas) c.self.invariant.replica.config_is in
    let lengths : IsLengths 5 c.lengths-lengths.result = subst (λ (l : Lengths). IsLengths 5 l) (sym c.lengths-lengths.ensures)
    (state-lengths state (omega (arith, replicas, c.self.inside.seat.config.in_range.some_replica)) (omega (arith, replicas, c.self.inside.seat.config.in_range.replicas))
    c.self.invariant.sound.count c.self.invariant.sound.few) in
    let report = letter (gatherer_of config shard) (report_message shard own c.lengths-lengths.result) in
    let want = letter (orderer_node config (c.self.inside.ticks % config.orderers)) (want_message c.known-known.result (storage_node config shard own)) in
    let outs : c.told.result.outputs ≡ copies ++ report ∷ want ∷ [] =
    c.told.ensures.outputs ∙ c.take.ensures.letters ∙ c.send_want.ensures.sent
    ∙ ap (λ (l : List Sent). l ++ want ∷ []) (c.send_report.ensures.sent ∙ ap (λ (l : List Sent). l ++ report ∷ [])
    (c.send_all.ensures.sent ∙ ap (λ (l : List Sent). l ++ c.replace-copies.result.items) c.self.invariant.nothing_sent ∙ taken))
    ∙ append_assoc copies (report ∷ []) (want ∷ []) in
    let each = subst (λ (v : StorageState). AllByRecursion IsLetter v.copies) (sym c.self.view_is) c.requires.each in
    let size = report-length shard own c.lengths-lengths.result lengths in
    let letters : AllByRecursion IsLetter (copies ++ report ∷ want ∷ []) = all-joined IsLetter copies (report ∷ want ∷ []) each (
      ((omega (arith, c.self.inside.seat.shard_in, c.self.inside.seat.config.in_range.shards), omega (arith, c.self.inside.seat.own_in, c.self.inside.seat.config.in_range.replicas), lengths), omega (arith, size)),
      (c.send_want.ensures.letter, tt),
    ) in
    turned-from _ _ _ _ _ c.self.view_is
    (turns-ticked _ _ c.told.result running running refl refl (omega (arith, replicas, c.self.inside.seat.config.in_range.replicas))
    (subst (λ (v : StorageState). v.copies ≡ copies_for v Tick) (sym c.self.view_is) c.requires.copies)
    (subst (λ (l : List Sent). AllByRecursion IsLetter l) (sym outs) letters)
    c.told.ensures.mark
    (outs ∙ ap (λ (s : Sent). copies ++ s ∷ want ∷ []) (report-is config shard own state c.lengths-lengths.result c.self.invariant.replica c.lengths-lengths.ensures)
    ∙ ap (λ (s : Sent). copies ++ row-report state.config (member_of state) (lists_of state) ∷ s ∷ []) (want-is config shard own state c.known-known.result c.self.inside.ticks c.self.invariant.replica c.known-known.ensures))
    c.told.ensures.reply)
