use Rattle.std.proofs.Common.{◌-◌, ◌+◌, ◌++◌, ◌∙◌, ℕ, List, map, sym, subst, ap, arith}
use Rattle.std.proofs.lemmas.List.{append_assoc}
use Rattle.event_letters.specs.Letters.{HasSpace, parcel}
use Rattle.history_frame.specs.declared.events.Sent.{Sent}
use Rattle.log_base.specs.Shape.{shape}
use Rattle.node_model.specs.GathererRow.{leasts}
use Rattle.gatherer_node.specs.Gatherer.{sizes_of, told_of}
use Rattle.gatherer_node.proofs.Letters.{leasts-left, leasts-next, parcels-append, sizes-append}
use Rattle.gatherer_node.proofs.sending.send_leasts.Goals as goal

pub tell-requires-clause-space : goal.tell-requires-clause-space
tell-requires-clause-space c =
    let config = shape c.args.config.now in
    let shard = c.loop-shard.shard in
    let left = leasts-left config c.args.index c.args.reports.now shard config.shards (search arith) in
    let others = leasts config c.args.index c.args.reports.now (shard + 1) (config.shards - (shard + 1)) in
    let sizes = ap sizes_of left ∙ sizes-append (told_of config c.args.index c.args.reports.now shard) others in
    (sizes_of others, subst (λ (l : List ℕ). HasSpace c.loop-shard.letters c.loop-shard.out.rooms l) sizes c.loop-shard.invariant.space)

pub loop-shard-preserved : goal.loop-shard-preserved
loop-shard-preserved c =
    let config = shape c.args.config.now in
    let shard = c.loop-shard.shard in
    let before = leasts config c.args.index c.args.reports.now 0 shard in
    let told = told_of config c.args.index c.args.reports.now shard in
    let next = leasts-next config c.args.index c.args.reports.now shard in
    let left = leasts-left config c.args.index c.args.reports.now shard config.shards (search arith) in
    let others = leasts config c.args.index c.args.reports.now (shard + 1) (config.shards - (shard + 1)) in
    let sizes = ap sizes_of left ∙ sizes-append told others in
    record {
      sent =
          c.tell.ensures.sent
          ∙ ap (λ (l : List Sent). l ++ told) c.loop-shard.invariant.sent
          ∙ append_assoc c.args.letters.now.sent before told
          ∙ ap (λ (l : List Sent). c.args.letters.now.sent ++ l) (sym next);
      letters =
          c.tell.ensures.letters
          ∙ ap (λ (l : List (ℕ × List ℕ)). l ++ map parcel told) c.loop-shard.invariant.letters
          ∙ append_assoc c.args.out.now.letters (map parcel before) (map parcel told)
          ∙ ap (λ (l : List (ℕ × List ℕ)). c.args.out.now.letters ++ l) (sym (ap (map parcel) next ∙ parcels-append before told));
      space = c.tell.ensures.space (sizes_of others) (subst (λ (l : List ℕ). HasSpace c.loop-shard.letters c.loop-shard.out.rooms l) sizes c.loop-shard.invariant.space);
    }
