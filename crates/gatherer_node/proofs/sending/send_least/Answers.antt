use Rattle.std.proofs.Common.{◌≡◌, ◌-◌, ◌+◌, ◌++◌, ◌∷◌, [], ◌∙◌, ℕ, List, map, replicate, sym, subst, ap, arith, rules}
use Rattle.std.proofs.lemmas.List.{append_assoc}
use Rattle.event_letters.specs.Letters.{HasSpace, message_length, parcel}
use Rattle.event_letters.proofs.Spaces.{first_alone}
use Rattle.history_frame.specs.declared.events.Sent.{Sent}
use Rattle.log_base.specs.Shape.{shape}
use Rattle.node_model.specs.Messages.{least_message}
use Rattle.node_model.specs.Nodes.{before_orderers, letter, to_nodes}
use Rattle.gatherer_node.proofs.Letters.{all_sent, none_left, parcels-append, sizes-to_orderers, one_size, to_nodes-next}
use Rattle.gatherer_node.proofs.sending.send_least.Goals as goal

pub send-requires-clause-space : goal.send-requires-clause-space
send-requires-clause-space c =
    let size = message_length (least_message c.args.shard.0 c.args.lengths) in
    let all = (shape c.args.config.now).orderers in
    let sizes = c.requires.space.0 in
    let start =
    subst (λ (l : List ℕ). HasSpace c.args.letters.now c.args.out.now.rooms (l ++ sizes)) (sizes-to_orderers (shape c.args.config.now) (least_message c.args.shard.0 c.args.lengths)) c.requires.space.1 in
    first_alone c.loop-index.letters c.loop-index.out.rooms size (replicate (all - (c.loop-index.index + 1)) size ++ sizes)
    (subst (λ (l : List ℕ). HasSpace c.loop-index.letters c.loop-index.out.rooms l) (one_size c.loop-index.index all size sizes (search arith)) (c.loop-index.invariant.space sizes start))

pub loop-index-preserved : goal.loop-index-preserved
loop-index-preserved c =
    let config = shape c.args.config.now in
    let message = least_message c.args.shard.0 c.args.lengths in
    let size = message_length message in
    let node = before_orderers config in
    let more = to_nodes-next node c.loop-index.index message in
    let to : c.orderer.result.0 ≡ node + c.loop-index.index = search (rules, arith) in
    record {
      sent =
          c.send.ensures.sent
          ∙ ap (λ (n : ℕ). c.loop-index.letters.sent ++ letter n message ∷ []) to
          ∙ ap (λ (l : List Sent). l ++ letter (node + c.loop-index.index) message ∷ []) c.loop-index.invariant.sent
          ∙ append_assoc c.args.letters.now.sent (to_nodes node c.loop-index.index message) (letter (node + c.loop-index.index) message ∷ [])
          ∙ ap (λ (l : List Sent). c.args.letters.now.sent ++ l) (sym more);
      letters =
          c.send.ensures.letters
          ∙ ap (λ (n : ℕ). c.loop-index.out.letters ++ parcel (letter n message) ∷ []) to
          ∙ ap (λ (l : List (ℕ × List ℕ)). l ++ parcel (letter (node + c.loop-index.index) message) ∷ []) c.loop-index.invariant.letters
          ∙ append_assoc c.args.out.now.letters (map parcel (to_nodes node c.loop-index.index message)) (parcel (letter (node + c.loop-index.index) message) ∷ [])
          ∙ ap (λ (l : List (ℕ × List ℕ)). c.args.out.now.letters ++ l)
          (sym (ap (map parcel) more ∙ parcels-append (to_nodes node c.loop-index.index message) (letter (node + c.loop-index.index) message ∷ [])));
      space = λ sizes h.
          let all = config.orderers in
          c.send.ensures.space size (replicate (all - (c.loop-index.index + 1)) size ++ sizes) (omega arith)
          (subst (λ (l : List ℕ). HasSpace c.loop-index.letters c.loop-index.out.rooms l) (one_size c.loop-index.index all size sizes (search arith)) (c.loop-index.invariant.space sizes h));
    }

pub returns-clause-sent : goal.returns-clause-sent
returns-clause-sent c =
    c.loop-index.invariant.sent
    ∙ ap (λ (l : List Sent). c.args.letters.now.sent ++ l) (all_sent (shape c.args.config.now) (least_message c.args.shard.0 c.args.lengths) c.loop-index.index (search arith) (search arith))

pub returns-clause-letters : goal.returns-clause-letters
returns-clause-letters c =
    c.loop-index.invariant.letters
    ∙ ap (λ (l : List Sent). c.args.out.now.letters ++ map parcel l) (all_sent (shape c.args.config.now) (least_message c.args.shard.0 c.args.lengths) c.loop-index.index (search arith) (search arith))

pub returns-clause-space : goal.returns-clause-space
returns-clause-space c = λ sizes h.
    let config = shape c.args.config.now in
    let size = message_length (least_message c.args.shard.0 c.args.lengths) in
    let start = subst (λ (l : List ℕ). HasSpace c.args.letters.now c.args.out.now.rooms (l ++ sizes)) (sizes-to_orderers config (least_message c.args.shard.0 c.args.lengths)) h in
    subst (λ (l : List ℕ). HasSpace c.loop-index.letters c.loop-index.out.rooms l) (none_left c.loop-index.index config.orderers size sizes (search arith)) (c.loop-index.invariant.space sizes start)
