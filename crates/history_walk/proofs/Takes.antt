-- Where a walker stands after one event more.
use Rattle.std.proofs.Common.{◌≡◌, ◌<◌, ℕ, List, [], ◌∷◌, ◌++◌, map, refl, sym, ap, subst, ◌∙◌}
use Rattle.std.specs.List.{AllByRecursion}
use Rattle.reply_frame.specs.declared.replies.Reply.{Reply}
use Rattle.history_frame.specs.declared.events.Event.{Event}
use Rattle.history_frame.specs.declared.events.Happened.{Happened}
use Rattle.history_frame.specs.declared.events.Sent.{Sent}
use Rattle.history_frame.specs.declared.inputs.Input.{Input}
use Rattle.history_frame.specs.declared.inputs.Mark.{Mark}
use Rattle.history_frame.specs.Spelling.{IsSent}
use Rattle.log_base.specs.Shape.{shape}
use Rattle.log_base.specs.declared.cluster_shape.Config.{Config}
use Rattle.node_table.specs.Numbering.{nodes_of}
use Rattle.node_model.specs.Histories.{letters_of}
use Rattle.node_model.specs.Legal.{AgreesWith, IsLegal, IsNext}
use Rattle.node_model.specs.NodeState.{KeptLists}
use Rattle.node_model.proofs.Following.{grown}
use Rattle.history_walk.specs.Beginning.{AreNodes, MemoryNode}
use Rattle.history_walk.specs.Replies.{IsNodeReply}
use Rattle.history_walk.specs.Stepped.{HasStepped, MayStep}
use Rattle.history_walk.specs.Submitting.{AreNoted}
use Rattle.history_walk.specs.Walking.{MayTake, StandsAfter, event_of}
use Rattle.history_walk.specs.declared.walker.Walker.{Walker}
use Rattle.history_walk.proofs.Offered.{next_same, same_follows}
use Rattle.history_walk.proofs.NodeReplies.{node_reply}
use Rattle.history_walk.proofs.Noting.{all_push}

map_push : {A B : Type 0} (f : A → B) (xs : List A) (x : A) → map f (xs ++ x ∷ []) ≡ map f xs ++ f x ∷ []
map_push f [] x = refl
map_push f (y ∷ ys) x = ap (λ (l : List _). f y ∷ l) (map_push f ys x)

pub may_step : (walker : Walker) (kept : KeptLists) (events : List Event) (node : ℕ) (input : Input) → MayTake walker kept events node input
    → MayStep (shape walker.config) walker.run kept events walker.nodes.items node input
may_step walker kept events node input may = record { legal = may.stands.legal; stand = may.stands.stand; offered = may.offered }

module _ (walker : Walker) (kept : KeptLists) (events : List Event) (node : ℕ) (input : Input) (may : MayTake walker kept events node input) (lt : node < nodes_of (shape walker.config))
    (mark : Mark) (made : Happened) (letters : List (ℕ × List ℕ)) (nodes : List MemoryNode) (stepped : HasStepped (shape walker.config) kept events node input mark made letters nodes) where
  pub made_reply : IsNodeReply made.reply
  made_reply = subst IsNodeReply (sym stepped.row.reply) (node_reply (shape walker.config) node _ made.input made.mark stepped.row.made stepped.row.rule)

  module _ (outputs : List Sent) (reply : Reply) where
    abbrev event : Event
    event = event_of events node input mark outputs reply

    -- the event is as it was made, where it may come next
    pub only_so : IsNext (shape walker.config) walker.run kept events event → (made.mark ≡ mark) × (reply ≡ made.reply) × (outputs ≡ made.outputs)
    only_so next =
        next_same (shape walker.config) walker.run kept events may.stands.legal node lt input may.offered made mark outputs reply stepped.input_is stepped.marked stepped.row next

    pub is_next : made.mark ≡ mark → reply ≡ made.reply → outputs ≡ made.outputs → IsNext (shape walker.config) walker.run kept events event
    is_next m r alike =
        same_follows (shape walker.config) walker.run kept events may.stands.legal node lt input may.offered made mark outputs reply stepped.input_is m (sym r) alike
        (may.submits mark outputs reply) stepped.row

    -- where it stands then
    pub stands_more : (new : Walker) → new.config ≡ walker.config → new.run ≡ walker.run → new.nodes.items ≡ nodes → new.sent.items ≡ walker.sent.items ++ made.outputs ∷ [] → outputs ≡ made.outputs
        → ((before : List Event) (e : Event) → AreNoted walker.submissions before → e.node.0 ≡ node → e.happened.input ≡ made.input → AllByRecursion (AgreesWith e) before
        → AreNoted new.submissions (before ++ e ∷ []))
        → made.mark ≡ mark → AllByRecursion IsSent outputs → IsNext (shape walker.config) walker.run kept events event → StandsAfter new kept (events ++ event ∷ [])
    stands_more new c r n s alike noted m spelled next = record {
      legal = subst (λ (x : Config × ℕ). IsLegal (shape x.0) x.1 kept (events ++ event ∷ [])) (λ i. (sym c i, sym r i)) (record {
        config_in_range = may.stands.legal.config_in_range;
        sound = may.stands.legal.sound;
        follow = grown (shape walker.config) walker.run kept [] events event may.stands.legal.follow next;
      });
      stand = subst (λ (x : Config × List MemoryNode). AreNodes (shape x.0) kept (events ++ event ∷ []) x.1) (λ i. (sym c i, sym n i)) (stepped.stand event refl (sym stepped.input_is) (sym m));
      letters = pushed ∙ ap (λ (l : List (List Sent)). l ++ outputs ∷ []) may.stands.letters ∙ sym (map_push letters_of events event);
      spelled = subst (AllByRecursion (AllByRecursion IsSent)) (sym pushed) (all_push (AllByRecursion IsSent) walker.sent.items outputs may.stands.spelled spelled);
      noted = noted events event may.stands.noted refl (sym stepped.input_is) next.one_node;
    }
      where
        pushed : new.sent.items ≡ walker.sent.items ++ outputs ∷ []
        pushed = s ∙ ap (λ (l : List Sent). walker.sent.items ++ l ∷ []) (sym alike)
