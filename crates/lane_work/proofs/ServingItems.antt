-- An item on its way to its reply.
use Rattle.std.proofs.Common.{◌≡◌, ℕ, ◌<◌, ◌≤◌, List, [], ◌∷◌, ◌++◌, Ok, refl, sym, ap, ◌∙◌, subst, append_assoc, arith}
use Rattle.std.proofs.lemmas.List.{append-nil}
use Rattle.history_frame.specs.declared.events.Happened.{Happened}
use Rattle.log_base.specs.ClusterShape.{InRange, Shape}
use Rattle.node_table.specs.Numbering.{nodes_of}
use Rattle.reply_frame.specs.declared.replies.Reply.{Reply}
use Rattle.tied_cells.specs.declared.account.Account.{Account}
use Rattle.tied_cells.specs.declared.board.Own.{Own}
use Rattle.tied_cells.specs.Turns.{IsSpent}
use Rattle.lane_work.specs.declared.calling.Asked.{Asked}
use Rattle.lane_work.specs.declared.calling.Asked.TheVariants.{Answered}
use Rattle.lane_work.specs.declared.serving.Step.TheVariants.{Goes, Done}
use Rattle.lane_work.specs.declared.stages.Asking.{Asking}
use Rattle.lane_work.specs.declared.stages.Stage.{Stage}
use Rattle.lane_work.specs.declared.stages.Stage.TheVariants.{Asks}
use Rattle.lane_work.specs.Keeping.{IsServed, MakesCall, MayGo, Steps}
use Rattle.lane_work.specs.Lanes.{GoOnFrom}
use Rattle.lane_work.specs.Stages.{AreDue, IsDue, IsReplyAt, after_answer, after_event, after_events, unplaced_stage}
use Rattle.lane_work.proofs.DueEvents.{after_events-push, are_due-push}
use Rattle.lane_work.proofs.Leading.{not_spent}
use Rattle.lane_work.proofs.Permits.{may_go_on}

pub some_nodes : (config : Shape) → InRange config → 0 < nodes_of config
some_nodes config range = let gatherers : 1 ≤ config.gatherers = range.some_gatherer in omega arith

-- An item went from one stage to another by these events.
pub record IsUnderWay (config : Shape) (first : Stage) (old now : Account) (before own : List (Own Happened)) (stage : Stage) : Type 0 where
  pub events : List (Own Happened)
  pub own_are : own ≡ before ++ events
  pub each_due : AreDue config first events
  pub stands : stage ≡ after_events config first events
  pub stays : IsSpent old → (events ≡ []) × (now ≡ old)

pub under_way_first : (config : Shape) (stage : Stage) (account : Account) (own : List (Own Happened)) → IsUnderWay config stage account account own own stage
under_way_first config stage account own = record {
  events = [];
  own_are = sym (append-nil own);
  each_due = tt;
  stands = refl;
  stays = λ spent. (refl, refl);
}

module _ (config : Shape) (first : Stage) (old now new : Account) (before own after : List (Own Happened)) (stage : Stage)
    (way : IsUnderWay config first old now before own stage) where
  -- one step more
  pub under_way_more : (next : Stage) → Steps config stage now new own after (Ok (Goes next)) → IsUnderWay config first old new before after (unplaced_stage next)
  under_way_more next h = let event = h.1.0 in record {
    events = way.events ++ event ∷ [];
    own_are = h.1.1 ∙ ((λ i. way.own_are i ++ event ∷ []) ∙ append_assoc before way.events (event ∷ []));
    each_due = are_due-push config first way.events event way.each_due (subst (λ (s : Stage). IsDue s event) way.stands h.1.2);
    stands = h.1.3 ∙ (ap (λ (s : Stage). after_event config s event) way.stands ∙ sym (after_events-push config first way.events event));
    stays = λ spent. absurd (not_spent now h.0 (subst IsSpent (sym (way.stays spent).1) spent));
  }

  pub may_go_more : (run number : ℕ) (next : Stage) → 0 < nodes_of config → Steps config stage now new own after (Ok (Goes next)) → MayGo config run number own stage
      → MayGo config run number after (unplaced_stage next)
  may_go_more run number next some h may =
      subst (λ (x : List (Own Happened) × Stage). MayGo config run number x.0 x.1) (λ i. (sym h.1.1 i, sym h.1.3 i))
      (may_go_on config run number own stage h.1.0 some h.1.2 may)

  -- the reply
  pub served : (reply : Reply) → Steps config stage now new own after (Ok (Done reply)) → IsServed config first old new before after reply
  served reply h = record {
    events = way.events;
    after_are = h.0 ∙ way.own_are;
    each_due = way.each_due;
    ends = subst (λ (s : Stage). IsReplyAt new [] s reply) way.stands h.2;
    stays = λ spent. ((way.stays spent).0, h.1 ∙ (way.stays spent).1);
  }

  pub goes_on_from : GoOnFrom own after → GoOnFrom before after
  goes_on_from more = (way.events ++ more.0, more.1 ∙ ((λ i. way.own_are i ++ more.0) ∙ append_assoc before way.events more.0))

-- the call that was due is answered
pub step_answered : (config : Shape) (asking : Asking) (old new : Account) (before after : List (Own Happened)) (asked : Asked) (reply : Reply) (next : Stage)
    → asked ≡ Answered reply → MakesCall asking.due old new before after (Ok asked) → unplaced_stage next ≡ after_answer config asking reply
    → Steps config (Asks asking) old new before after (Ok (Goes next))
step_answered config asking old new before after asked reply next is made next_is =
    let h = subst (λ (a : Asked). MakesCall asking.due old new before after (Ok a)) is made in
    (h.0, (h.1.0, h.1.1, (h.1.2.0, h.1.2.1), next_is ∙ ap (λ (r : Reply). after_answer config asking r) (sym h.1.2.2)))
