-- What lanes and workers made of their passes: their events are the history, and the items of lanes went by them.
use Rattle.std.proofs.Common.{◌≡◌, ◌==◌, ◌<◌, ℕ, zero, suc, ◌+◌, Bool, true, false, cond, List, [], ◌∷◌, ◌++◌, length, map, slice_get, Some, Result, Ok, refl, sym, ap, ◌∙◌, subst, arith}
use Rattle.std.specs.List.{AllByRecursion, filter}
use Rattle.std.specs.Option.{option_map}
use Rattle.std.proofs.lemmas.List.{length-map}
use Rattle.std.proofs.lemmas.Option.{slice_get-map, slice_get_within}
use Rattle.atomic_table.specs.Seated.{TableId}
use Rattle.client_session.specs.Sessions.{Drawing, fresh}
use Rattle.cluster.specs.History.{AreAllEvents, as_event}
use Rattle.command_frame.specs.Items.{IsItem}
use Rattle.command_frame.specs.declared.items.Item.{Item}
use Rattle.history_frame.specs.declared.events.Event.{Event}
use Rattle.history_frame.specs.declared.events.Happened.{Happened}
use Rattle.lane_work.specs.Items.{ItemsGo, items_of, lane_of}
use Rattle.lane_work.specs.Stages.{after_item}
use Rattle.lane_work.specs.Workers.{WorkerTurns}
use Rattle.log_base.specs.ClusterShape.{Shape}
use Rattle.log_base.specs.declared.outside.Memory.{Memory}
use Rattle.node_model.specs.NodeState.{KeptLists}
use Rattle.node_table.specs.Numbering.{nodes_of}
use Rattle.reply_frame.specs.declared.replies.Reply.{Reply}
use Rattle.reply_frame.specs.Replies.{HasSpelling}
use Rattle.tied_cells.specs.Closing.{OwnRises}
use Rattle.tied_cells.specs.declared.account.Account.{Account}
use Rattle.tied_cells.specs.declared.board.Own.{Own}
use Rattle.tied_cells.proofs.Closes.{from_map}
use Rattle.cluster_run.specs.Makers.{Counts, MakeAll, Maker, maker_of}
use Rattle.cluster_run.specs.Ordering.{AreGathered, AreLanes, HaveReplies}
use Rattle.cluster_run.specs.Passes.{AreNew, AreOpening, HaveRun}
use Rattle.cluster_run.specs.Runs.{AreShared, lanes_in}
use Rattle.cluster_run.specs.Seats.{PassNow}
use Rattle.cluster_run.proofs.Counting.{count_all, is_of}
use Rattle.cluster_run.proofs.Handing.{there_is}
use Rattle.cluster_run.proofs.Spoken.{IsTold, all_of_lane, all_there, items_spelled, ordered_spelled}

-- ---- lists

same_many : (b : Bool) (x : ℕ) (ys : List ℕ) (item : Item) (zs : List Item) → length ys ≡ length zs → length (cond b (x ∷ ys) ys) ≡ length (cond b (item ∷ zs) zs)
same_many true x ys item zs h = ap suc h
same_many false x ys item zs h = h

-- as many items as there are names of their lane
lane_items : (lane : ℕ) (items : List Item) → length (filter (is_of lane) (lanes_in items)) ≡ length (items_of lane items)
lane_items lane [] = refl
lane_items lane (item ∷ items) =
    same_many (lane_of item == lane) (lane_of item) (filter (is_of lane) (lanes_in items)) item (items_of lane items) (lane_items lane items)

-- each item has a reply
as_many_replies : (config : Shape) (lane : ℕ) (account : Account) (session : Drawing) (items : List Item) (events : List (Own Happened)) (replies : List Reply)
    → ItemsGo config lane account session items events replies → length replies ≡ length items
as_many_replies config lane account session [] events replies go = ap (length {A = Reply}) go.1
as_many_replies config lane account session (item ∷ items) events replies go =
    ap (length {A = Reply}) go.replies_are ∙ ap suc (as_many_replies config lane account (after_item config session item) items go.later go.others go.go_on)

-- ---- makers

pub all_made : {A : Type 0} (passes : List (PassNow A)) (events : List Event) → AreAllEvents passes events → MakeAll (map (maker_of {A = A}) passes) events
all_made {A} passes events are = record {
  each = λ k maker there j own at.
      let p = from_map (maker_of {A = A}) passes k maker there in
      are.each k p.0 p.1 j own (subst (λ (m : Maker). slice_get m.own j ≡ Some own) (sym p.2) at);
  rise = λ k maker there.
      let p = from_map (maker_of {A = A}) passes k maker there in
      subst (λ (m : Maker). OwnRises m.own) p.2 (are.rise k p.0 p.1);
  all = λ place event there.
      let one = are.all place event there in
      record {
        k = one.k;
        maker = maker_of {A = A} one.pass;
        there = slice_get-map (maker_of {A = A}) passes one.k ∙ ap (option_map (maker_of {A = A})) one.there;
        j = one.j;
        own = one.own;
        among = one.among;
        event_is = one.event_is;
      };
}

-- ---- the run

module _ {A : Type 0} (config : Shape) (run : ℕ) (kept : KeptLists) (table : TableId) (items : List Item) (lanes workers : ℕ) (before after : List (PassNow A))
    (answers : List (Result (List Reply) Memory)) (turned : List (Result (Unit {0}) Memory))
    (new : AreNew config run kept table (lanes + workers) before) (ran : HaveRun config run kept table items lanes workers before after answers turned) where
  -- the items of a lane went by all the events of its pass
  lane_went : (k : ℕ) (pass : PassNow A) (list : List Reply) → slice_get after k ≡ Some pass → slice_get answers k ≡ Some (Ok list)
      → ItemsGo config k pass.1 (fresh k run) (items_of k items) pass.0.me.0.own list
  lane_went k pass list there told =
      let low : k < length answers = slice_get_within answers k (Ok list) told in
      let count = ran.answered in let many = new.as_many in
      let below : k < lanes = omega arith in
      let old = there_is before k (omega arith) in
      let goes = ran.lane k old.0 pass (Ok list) below old.1 there told in
      let none : old.0.0.me.0.own ≡ [] = new.fresh k old.0 old.1 (omega arith) in
      subst (λ (l : List (Own Happened)). ItemsGo config k pass.1 (fresh k run) (items_of k items) l list)
      (sym (goes.went.1 ∙ ap (λ (l : List (Own Happened)). l ++ goes.went.0) none)) goes.went.2

  -- a worker's turns are all the events of its pass
  worker_went : (k : ℕ) (pass : PassNow A) (answer : Result (Unit {0}) Memory) → k < workers → slice_get after (lanes + k) ≡ Some pass → slice_get turned k ≡ Some answer
      → WorkerTurns (nodes_of config) pass.1 [] pass.0.me.0.own answer
  worker_went k pass answer below there told =
      let many = new.as_many in
      let old = there_is before (lanes + k) (omega arith) in
      let goes = ran.worker k old.0 pass answer below old.1 there told in
      let none : old.0.0.me.0.own ≡ [] = new.fresh (lanes + k) old.0 old.1 (omega arith) in
      subst (λ (l : List (Own Happened)). WorkerTurns (nodes_of config) pass.1 l pass.0.me.0.own answer) none goes.went

  module _ (lanes_are : AreLanes (lanes_in items) lanes) where
    -- lanes that answered with replies have one for each of their items
    pub have_replies : HaveReplies (lanes_in items) answers
    have_replies = record {
      within = λ k lane there. let low = lanes_are.within k lane there in let count = ran.answered in omega arith;
      as_many = λ lane list told.
          let low : lane < length answers = slice_get_within answers lane (Ok list) told in
          let count = ran.answered in let size = ran.as_many in
          let pass = there_is after lane (omega arith) in
          as_many_replies config lane pass.0.1 (fresh lane run) (items_of lane items) pass.0.0.me.0.own list (lane_went lane pass.0 list pass.1 told)
          ∙ (sym (lane_items lane items) ∙ sym (count_all (lanes_in items) lane));
    }

    module _ (events : List Event) (all : AreAllEvents after events) (counted : (k : ℕ) (pass : PassNow A) → slice_get after k ≡ Some pass → Counts (maker_of {A = A} pass))
        (replies : List Reply) (gathered : AreGathered (lanes_in items) answers turned replies) where
      told_list : (k : ℕ) (list : List Reply) → slice_get gathered.lists k ≡ Some list → slice_get answers k ≡ Some (Ok list)
      told_list k list there =
          ap (λ (l : List (Result (List Reply) Memory)). slice_get l k) gathered.answers_are
          ∙ (slice_get-map (λ (l : List Reply). Ok l) gathered.lists k ∙ ap (option_map (λ (l : List Reply). Ok l)) there)

      -- each event was made by a lane, by a worker or in the opening
      pub shared : AreShared config run items workers events replies
      shared = record {
        lanes = lanes;
        lanes_are = lanes_are;
        makers = map (maker_of {A = A}) after;
        lists = gathered.lists;
        as_many = length-map after (maker_of {A = A}) ∙ ran.as_many;
        answered =
            let size = ap (length {A = Result (List Reply) Memory}) gathered.answers_are in
            let same = length-map gathered.lists (λ (l : List Reply). Ok l) in sym same ∙ (sym size ∙ ran.answered);
        counted = λ k maker there. let p = from_map (maker_of {A = A}) after k maker there in subst Counts p.2 (counted k p.0 p.1);
        all = all_made after events all;
        lane = λ k maker list there at.
            let p = from_map (maker_of {A = A}) after k maker there in
            subst (λ (m : Maker). ItemsGo config k m.account (fresh k run) (items_of k items) m.own list) p.2 (lane_went k p.0 list p.1 (told_list k list at));
        worker = λ k maker below there.
            let p = from_map (maker_of {A = A}) after (lanes + k) maker there in
            let count = ran.turned_are in
            let told = there_is turned k (omega arith) in
            subst (λ (m : Maker). WorkerTurns (nodes_of config) m.account [] m.own (Ok tt)) p.2
            (worker_went k p.0 (Ok tt) below p.1 (told.1 ∙ ap (λ (a : Result (Unit {0}) Memory). Some a) (gathered.turned_well k told.0 told.1)));
        last = λ maker there.
            let p = from_map (maker_of {A = A}) after (lanes + workers) maker there in
            subst (λ (m : Maker). AreOpening config m.own) p.2 (new.last p.0 (sym ran.last ∙ p.1));
        in_order = gathered.in_order;
      }

      -- the replies have spellings, where the answers of the history have
      pub replies_spelled : AllByRecursion (IsItem config) items → AllByRecursion IsTold events → AllByRecursion HasSpelling replies
      replies_spelled each told = ordered_spelled (lanes_in items) gathered.lists replies gathered.in_order (λ k list there.
          let answer = told_list k list there in
          let low : k < length answers = slice_get_within answers k (Ok list) answer in
          let count = ran.answered in let size = ran.as_many in
          let pass = there_is after k (omega arith) in
          items_spelled config k pass.0.1 (fresh k run) (items_of k items) pass.0.0.me.0.own list (lane_went k pass.0 list pass.1 answer)
          (all_of_lane (IsItem config) k items each)
          (own_told pass.0.0.me.0.own (λ j own at. all_there IsTold events own.place (as_event own) told (all.each k pass.0 pass.1 j own at))))
        where
          own_told : (own : List (Own Happened)) → ((j : ℕ) (o : Own Happened) → slice_get own j ≡ Some o → IsTold (as_event o))
              → AllByRecursion (λ (o : Own Happened). IsTold (as_event o)) own
          own_told [] h = tt
          own_told (o ∷ own) h = (h zero o refl, own_told own (λ j x there. h (suc j) x there))
