use Rattle.std.proofs.Common.{◌≡◌, ◌++◌, ◌∷◌, [], ◌∙◌, ℕ, List, sym, ap, subst, arith}
use Rattle.std.specs.List.{AllByRecursion}
use Rattle.std.proofs.lemmas.List.{append_assoc}
use Rattle.event_letters.specs.Letters.{HasSpace}
use Rattle.history_frame.specs.declared.events.Sent.{Sent}
use Rattle.log_base.specs.Shape.{shape}
use Rattle.shard_replica.specs.Replica.{own_entries}
use Rattle.node_model.specs.StorageNode.{member_of}
use Rattle.node_model.specs.StorageRow.{windows}
use Rattle.storage_node.specs.Preparing.{IsLetter, sizes_of}
use Rattle.storage_node.proofs.Sounding.{own-within}
use Rattle.storage_node.proofs.Spaces.{space-none}
use Rattle.storage_node.proofs.Telling.{windows-is}
use Rattle.storage_node.proofs.node.StorageNode.prepare_tick.Goals as goal

pub returns-clause-ready : goal.returns-clause-ready
returns-clause-ready g c =
    let state = c.self.inside.replica.state in
    let config = shape c.self.inside.seat.config in
    let within = own-within _ _ _ _ _ _ c.self.inside.seat.own_in c.self.invariant in
    let all = windows config (member_of config c.self.inside.seat.shard.0 c.self.inside.seat.own.0) (own_entries state) state.copying 0 config.replicas in
    let made = c.in_ok-make_windows.ensures.made in
    let items : c.make_windows.new.made.copies.items ≡ all = made.copies ∙ ap (λ (l : List Sent). l ++ all) c.clear.ensures.items in
    let room = c.in_ok-ready-2.ensures.space (sizes_of all ++ 25 ∷ []) (c.in_ok-ready.ensures.space (sizes_of all) (made.space [] (space-none c.self.inside.made.letters c.args.out.now.rooms))) in
    record {
      copies = items ∙ windows-is config c.self.inside.seat.shard.0 c.self.inside.seat.own.0 state c.self.invariant.replica within.1;
      letters = subst (λ (l : List Sent). AllByRecursion IsLetter l) (sym items) made.letters;
      space = subst (λ (l : List Sent). HasSpace c.ready-2.new.self c.ready-2.new.out.rooms (sizes_of l ++ 25 ∷ 7 ∷ [])) (sym items)
          (subst (λ (l : List ℕ). HasSpace c.ready-2.new.self c.ready-2.new.out.rooms l) (append_assoc (sizes_of all) (25 ∷ []) (7 ∷ [])) room);
      memory = search arith;
    }
