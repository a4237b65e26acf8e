use Rattle.std.proofs.Common.{◌≡◌, ◌+◌, ◌<◌, ◌++◌, ◌∷◌, [], ◌∙◌, ℕ, List, length, sym, ap, subst, arith, rules}
use Rattle.std.specs.List.{AllByRecursion}
use Rattle.event_letters.specs.Letters.{HasSpace}
use Rattle.history_frame.specs.declared.events.Sent.{Sent}
use Rattle.record_frame.proofs.EntryLaws.{length-entry_spelling}
use Rattle.shard_replica.specs.Replica.{ReplicaState}
use Rattle.storage_node.specs.Preparing.{IsLetter, sizes_of}
use Rattle.storage_node.specs.StorageState.{StorageState, config_of}
use Rattle.storage_node.proofs.Spaces.{space-none}
use Rattle.storage_node.proofs.node.StorageNode.prepare_copy.Goals as goal

pub returns-clause-ready : goal.returns-clause-ready
returns-clause-ready g c = λ place index offset.
    let items : c.make_payload.new.self.copies.items ≡ [] = search rules in
    let room = c.in_ok-ready-3.ensures.space (6 ∷ []) (c.in_ok-ready-2.ensures.space [] (space-none _ _)) in
    let spelled = c.in_ok-make_payload.ensures.payload in
    let size : length c.make_payload.new.self.payload.items ≡ 15 + length c.args.entry.now.bytes = ap (λ (bytes : List ℕ). length bytes) spelled ∙ length-entry_spelling c.args.entry.now in
    let bytes : length c.get.result.now ≡ length c.args.entry.now.bytes = ap (λ (bytes : List ℕ). length bytes) c.get.ensures in
    let replicas : (config_of c.args.self.now).replicas ≡ c.ready.new.self.state.config.replicas =
    ap (λ (v : StorageState). (config_of v).replicas) (sym c.self.view_is) ∙ ap (λ (s : ReplicaState). s.config.replicas) (sym c.ready.ensures.state) in
    let here : c.args.segment.0 < length c.ready.new.self.media = omega (arith, c.requires.segment, replicas, c.in_ok-ready.ensures.count) in
    let fits = c.in_ok-ready.ensures.payload c.args.segment.0 here in
    record {
      copies = items;
      letters = subst (λ (l : List Sent). AllByRecursion IsLetter l) (sym items) tt;
      space = subst (λ (l : List Sent). HasSpace c.ready-3.new.self c.ready-3.new.out.rooms (sizes_of l ++ 6 ∷ 25 ∷ [])) (sym items) room;
      memory = record { payload = spelled; room = omega (arith, fits, size, bytes, c.requires.entry.size) };
    }
