-- An item that was served, and the lane between two items.
use Rattle.std.proofs.Common.{◌≡◌, ℕ, ◌+◌, ◌<◌, ◌≤◌, List, [], ◌++◌, refl, sym, ap, ◌∙◌, subst, inl, inr, append_assoc, arith}
use Rattle.std.proofs.lemmas.List.{append-nil}
use Rattle.std.proofs.lemmas.Option.{none-some}
use Rattle.client_session.specs.Sessions.{Drawing}
use Rattle.command_frame.specs.Items.{IsItem}
use Rattle.command_frame.specs.declared.items.Item.{Item}
use Rattle.command_frame.specs.declared.items.Item.TheVariants.{Append, Read, Subscribe, Trim, Add, Finalise, Ask, Fault}
use Rattle.history_frame.specs.declared.events.Happened.{Happened}
use Rattle.log_base.specs.ClusterShape.{InRange, Shape}
use Rattle.log_base.specs.Draws.{number_of_draw}
use Rattle.node_model.specs.Legal.{submitted}
use Rattle.node_table.proofs.Roles.{storage_node-lt}
use Rattle.reply_frame.specs.declared.replies.Reply.{Reply, NoLeader}
use Rattle.tied_cells.specs.declared.account.Account.{Account}
use Rattle.tied_cells.specs.declared.board.Own.{Own}
use Rattle.tied_cells.specs.Turns.{IsSpent}
use Rattle.lane_work.specs.Items.{Leads}
use Rattle.lane_work.specs.Keeping.{AreDrawn, HasAnswer, IsBetween, IsForStorage, IsLed, IsServed}
use Rattle.lane_work.specs.Stages.{after_events, after_item, begun}
use Rattle.lane_work.proofs.Begun.{begun_drawn}
use Rattle.lane_work.proofs.ItemsLaw.{reply_later}
use Rattle.lane_work.proofs.Permits.{drawn_more, events_drawn}
use Rattle.lane_work.proofs.ServingItems.{some_nodes}

-- an item was served, and an order to lead may have followed
pub has_answer : (config : Shape) (lane : ℕ) (session : Drawing) (item : Item) (old middle new : Account) (before between after : List (Own Happened)) (reply : Reply)
    → IsServed config (begun config session item) old middle before between reply → IsLed config lane middle new between after reply
    → HasAnswer config lane session item old new before after reply
has_answer config lane session item old middle new before between after reply served led = record {
  own = served.events;
  led = led.led;
  after_are = led.after_are ∙ ((λ i. served.after_are i ++ led.led) ∙ append_assoc before served.events led.led);
  each_due = served.each_due;
  ends = reply_later middle new [] led.led (after_events config (begun config session item) served.events) reply led.stays served.ends;
  leads = led.leads;
  stays = λ spent.
      let s = served.stays spent in let l = led.stays (subst IsSpent (sym s.1) spent) in ((λ i. s.0 i ++ l.0 i), l.1 ∙ s.1);
}

-- ---- the session

-- an append draws one number, and keeps its pair
module _ (config : Shape) (session : Drawing) where
  pub after_client : (item : Item) → (after_item config session item).client ≡ session.client
  after_client (Append lane shard replica bytes) = refl
  after_client _ = refl

  pub after_run : (item : Item) → (after_item config session item).run ≡ session.run
  after_run (Append lane shard replica bytes) = refl
  after_run _ = refl

  pub after_draws : (item : Item) → session.draws ≤ (after_item config session item).draws
  after_draws (Append lane shard replica bytes) = omega arith
  after_draws (Read lane shard replica position) = omega arith
  after_draws (Subscribe lane shard replica from count) = omega arith
  after_draws (Trim lane position) = omega arith
  after_draws (Add lane shard) = omega arith
  after_draws (Finalise lane shard) = omega arith
  after_draws (Ask lane) = omega arith
  after_draws (Fault lane fault) = omega arith

  pub one_draw : (item : Item) → (after_item config session item).draws ≤ session.draws + 1
  one_draw (Append lane shard replica bytes) = omega arith
  one_draw (Read lane shard replica position) = omega arith
  one_draw (Subscribe lane shard replica from count) = omega arith
  one_draw (Trim lane position) = omega arith
  one_draw (Add lane shard) = omega arith
  one_draw (Finalise lane shard) = omega arith
  one_draw (Ask lane) = omega arith
  one_draw (Fault lane fault) = omega arith

  after_last : (item : Item) → IsItem config item → IsForStorage config session.last → IsForStorage config (after_item config session item).last
  after_last (Append lane shard replica bytes) item h = storage_node-lt config shard.0 replica.0 item.1 item.2
  after_last (Read lane shard replica position) item h = h
  after_last (Subscribe lane shard replica from count) item h = h
  after_last (Trim lane position) item h = h
  after_last (Add lane shard) item h = h
  after_last (Finalise lane shard) item h = h
  after_last (Ask lane) item h = h
  after_last (Fault lane fault) item h = h

drawn_later : (run less more : ℕ) (own : List (Own Happened)) → less ≤ more → AreDrawn run less own → AreDrawn run more own
drawn_later run less more own grows all k event there entry e =
    let before : entry.number.0 < number_of_draw run less = all k event there entry e in omega arith

-- an order to lead submits nothing
drawn_led : (run draws : ℕ) (own led : List (Own Happened)) (config : Shape) (lane : ℕ) (account : Account) (reply : Reply) (later : List (Own Happened))
    → Leads config lane account reply led later → AreDrawn run draws own → AreDrawn run draws (own ++ led)
drawn_led run draws own led config lane account NoLeader later (inl made) all =
    subst (λ (l : List (Own Happened)). AreDrawn run draws (own ++ l)) (sym made.1)
    (drawn_more run draws own made.0 all (λ entry e. absurd (none-some entry (ap submitted (sym made.2.1) ∙ e))))
drawn_led run draws own led config lane account NoLeader later (inr none) all =
    subst (λ (l : List (Own Happened)). AreDrawn run draws (own ++ l)) (sym none.1) (subst (AreDrawn run draws) (sym (append-nil own)) all)
drawn_led run draws own led config lane account _ later h all =
    subst (λ (l : List (Own Happened)). AreDrawn run draws (own ++ l)) (sym h) (subst (AreDrawn run draws) (sym (append-nil own)) all)

-- the lane stands between two items again
pub between_after : (config : Shape) (range : InRange config) (run number : ℕ) (small : run ≤ 1000000) (lane : ℕ) (session : Drawing) (item : Item) (old new : Account)
    (before after : List (Own Happened)) (reply : Reply) → number < 65536 → session.draws < 65536 → IsItem config item → IsBetween config run number session before
    → HasAnswer config lane session item old new before after reply → IsBetween config run number (after_item config session item) after
between_after config range run number small lane session item old new before after reply low room is between h =
    let draws = (after_item config session item).draws in record {
      client_is = after_client config session item ∙ between.client_is;
      run_is = after_run config session item ∙ between.run_is;
      last = after_last config session item is between.last;
      drawn = subst (AreDrawn run draws) (sym (h.after_are ∙ sym (append_assoc before h.own h.led)))
          (drawn_led run draws (before ++ h.own) h.led config lane new reply [] h.leads
          (events_drawn config run draws before (begun config session item) h.own (some_nodes config range) h.each_due
          (begun_drawn config range run number small session before between room low item is)
          (drawn_later run session.draws draws before (after_draws config session item) between.drawn)));
    }
