-- The replies of a cluster's run: those of each lane, in the places of its items.
use Rattle.std.proofs.Common.{◌≡◌, ◌==◌, ◌<◌, ℕ, zero, suc, Bool, true, false, cond, List, [], ◌∷◌, length, map, filter, take, get_or, slice_get, Some, refl, ap, sym, ◌∙◌, subst, arith}
use Rattle.std.specs.List.{AllByRecursion, AllZip}
use Rattle.std.proofs.lemmas.Bool.{eqb-false}
use Rattle.std.proofs.lemmas.Option.{none-some, same_Some, slice_get-get_or, slice_get_within}
use Rattle.client_session.specs.Sessions.{fresh}
use Rattle.cluster.specs.History.{as_event}
use Rattle.command_frame.specs.Items.{IsItem}
use Rattle.command_frame.specs.declared.items.Item.{Item}
use Rattle.history_frame.specs.declared.events.Event.{Event}
use Rattle.log_base.specs.ClusterShape.{Shape}
use Rattle.node_model.specs.Durable.{IsFounded}
use Rattle.node_model.specs.Legal.{IsLegal}
use Rattle.node_model.specs.NodeState.{KeptLists}
use Rattle.reply_frame.specs.declared.replies.Reply.{Reply}
use Rattle.stream_law.specs.Streams.{EachInStream, StreamsAgree, WasFound}
use Rattle.stream_law.proofs.Finding.{answers_of}
use Rattle.stream_law.proofs.Standing.{found_streams_agree}
use Rattle.lane_work.specs.Items.{items_of, lane_of}
use Rattle.cluster_run.specs.Makers.{Maker}
use Rattle.cluster_run.specs.Ordering.{count_before}
use Rattle.cluster_run.specs.Runs.{AreShared, lanes_in}
use Rattle.lane_law.specs.Answers.{MayAnswer}
use Rattle.lane_law.proofs.Finding.{IsAnswer, streams-good}
use Rattle.lane_law.proofs.Fitting.{HasOneAnswer, replies-fit}

-- ---- elements of lists

all-at : {X : Type 0} (P : X → Type 0) (xs : List X) → AllByRecursion P xs → (k : ℕ) (x : X) → slice_get xs k ≡ Some x → P x
all-at P [] h k x at = absurd (none-some x at)
all-at P (y ∷ xs) h zero x at = subst P (same_Some y x at) h.0
all-at P (y ∷ xs) h (suc k) x at = all-at P xs h.1 k x at

all-by : {X : Type 0} (P : X → Type 0) (xs : List X) → ((k : ℕ) (x : X) → slice_get xs k ≡ Some x → P x) → AllByRecursion P xs
all-by P [] h = tt
all-by P (y ∷ xs) h = (h zero y refl, all-by P xs (λ k x at. h (suc k) x at))

zip-both : {X Y : Type 0} (R : X → Y → Type 0) (xs : List X) (ys : List Y) → AllZip R xs ys → (k : ℕ) (x : X) (y : Y) → slice_get xs k ≡ Some x → slice_get ys k ≡ Some y → R x y
zip-both R [] [] h k x y one other = absurd (none-some x one)
zip-both R [] (b ∷ ys) h k x y one other = absurd h
zip-both R (a ∷ xs) [] h k x y one other = absurd h
zip-both R (a ∷ xs) (b ∷ ys) h zero x y one other = subst (λ (z : _). R z y) (same_Some a x one) (subst (R a) (same_Some b y other) h.0)
zip-both R (a ∷ xs) (b ∷ ys) h (suc k) x y one other = zip-both R xs ys h.1 k x y one other

mapped : {X Y : Type 0} (f : X → Y) (xs : List X) (k : ℕ) (x : X) → slice_get xs k ≡ Some x → slice_get (map f xs) k ≡ Some (f x)
mapped f [] k x at = absurd (none-some x at)
mapped f (y ∷ xs) zero x at = ap (λ (z : _). Some (f z)) (same_Some y x at)
mapped f (y ∷ xs) (suc k) x at = mapped f xs k x at

length-mapped : {X Y : Type 0} (f : X → Y) (xs : List X) → length (map f xs) ≡ length xs
length-mapped f [] = refl
length-mapped f (x ∷ xs) = ap suc (length-mapped f xs)

-- ---- the items of a lane

filter-one : (P : Item → Type 0) (item : Item) (others : List Item) (is : Bool) → P item → AllByRecursion P others → AllByRecursion P (cond is (item ∷ others) others)
filter-one P item others true h rest = (h, rest)
filter-one P item others false h rest = rest

filter-all : (P : Item → Type 0) (lane : ℕ) (items : List Item) → AllByRecursion P items → AllByRecursion P (items_of lane items)
filter-all P lane [] h = tt
filter-all P lane (item ∷ items) h = filter-one P item (items_of lane items) (lane_of item == lane) h.0 (filter-all P lane items h.1)

among-first : (lane : ℕ) (first item : Item) (others : List Item) (same : Bool) → (lane_of first == lane) ≡ same → Some first ≡ Some item → lane_of item ≡ lane
    → slice_get (cond same (first ∷ others) others) 0 ≡ Some item
among-first lane first item others true e at is = at
among-first lane first item others false e at is = absurd (eqb-false (lane_of first) lane e (ap lane_of (same_Some first item at) ∙ is))

among-next : (first item : Item) (others : List Item) (number : ℕ) (before : List ℕ) (same : Bool) → slice_get others (length before) ≡ Some item
    → slice_get (cond same (first ∷ others) others) (length (cond same (number ∷ before) before)) ≡ Some item
among-next first item others number before true there = there
among-next first item others number before false there = there

-- an item of a lane is the one that comes behind those of the lane before it
among : (lane : ℕ) (items : List Item) (k : ℕ) (item : Item) → slice_get items k ≡ Some item → lane_of item ≡ lane
    → slice_get (items_of lane items) (count_before (lanes_in items) lane k) ≡ Some item
among lane [] k item at is = absurd (none-some item at)
among lane (first ∷ items) zero item at is = among-first lane first item (items_of lane items) (lane_of first == lane) refl at is
among lane (first ∷ items) (suc k) item at is =
    among-next first item (items_of lane items) (lane_of first) (filter (λ (other : ℕ). other == lane) (take k (lanes_in items))) (lane_of first == lane)
    (among lane items k item at is)

-- ---- a run

module _ (config : Shape) (run : ℕ) (kept : KeptLists) (items : List Item) (workers : ℕ) (events : List Event) (replies : List Reply)
    (legal : IsLegal config run kept events) (shared : AreShared config run items workers events replies) where
  -- the events of a maker are answered as all are
  answered : (maker : Maker) (m : ℕ) → slice_get shared.makers m ≡ Some maker → AllByRecursion (IsAnswer (WasFound events)) maker.own
  answered maker m there =
      all-by (IsAnswer (WasFound events)) maker.own
      (λ j own at. all-at _ events (answers_of config run kept events legal) own.place (as_event own) (shared.all.each m maker there j own at))

  answered_once : (maker : Maker) (m : ℕ) → slice_get shared.makers m ≡ Some maker → AllByRecursion HasOneAnswer maker.own
  answered_once maker m there = all-by HasOneAnswer maker.own (λ j own at. (all-at _ maker.own (answered maker m there) j own at).0)

  -- a reply has its lane, with what the lane made
  record IsOfLane (k : ℕ) (reply : Reply) : Type 0 where
    lane : ℕ
    lane_is : slice_get (lanes_in items) k ≡ Some lane
    maker : Maker
    maker_at : slice_get shared.makers lane ≡ Some maker
    list : List Reply
    list_at : slice_get shared.lists lane ≡ Some list
    at : slice_get list (count_before (lanes_in items) lane k) ≡ Some reply

  of_lane : (k : ℕ) (reply : Reply) → slice_get replies k ≡ Some reply → IsOfLane k reply
  of_lane k reply there =
      let size : length replies ≡ length (lanes_in items) = shared.in_order.each in
      let below : k < length (lanes_in items) = let inside = slice_get_within replies k reply there in omega arith in
      let lane = get_or (lanes_in items) k 0 in
      let lane_is : slice_get (lanes_in items) k ≡ Some lane = slice_get-get_or (lanes_in items) k 0 below in
      let within : lane < shared.lanes = shared.lanes_are.within k lane lane_is in
      let no_maker : Maker = record { own = []; account = record { number = 0; used = 0; places = 0; bytes = 0; room = 0 } } in
      let maker_at = slice_get-get_or shared.makers lane no_maker (let all = shared.as_many in omega arith) in
      let list_at = slice_get-get_or shared.lists lane [] (let all = shared.answered in omega arith) in
      record {
        lane = lane;
        lane_is = lane_is;
        maker = get_or shared.makers lane no_maker;
        maker_at = maker_at;
        list = get_or shared.lists lane [];
        list_at = list_at;
        at = sym (shared.in_order.at k lane lane_is) ∙ there;
      }

  found : (k : ℕ) (reply : Reply) → slice_get replies k ≡ Some reply → EachInStream (WasFound events) reply
  found k reply there =
      let of = of_lane k reply there in
      let all = streams-good (WasFound events) config of.lane of.maker.account (fresh of.lane run) (items_of of.lane items) of.maker.own of.list
      (shared.lane of.lane of.maker of.list of.maker_at of.list_at) (answered of.maker of.lane of.maker_at) in
      all-at (EachInStream (WasFound events)) of.list all (count_before (lanes_in items) of.lane k) reply of.at

  pub served_streams_agree : IsFounded config run kept → StreamsAgree config kept events replies
  served_streams_agree founded = found_streams_agree config run kept founded events legal replies (all-by (EachInStream (WasFound events)) replies found)

  pub served_replies_fit : AllByRecursion (IsItem config) items → (k : ℕ) (item : Item) (reply : Reply) → slice_get items k ≡ Some item → slice_get replies k ≡ Some reply
      → MayAnswer item reply
  served_replies_fit each k item reply one there =
      let of = of_lane k reply there in
      let fits = replies-fit config of.lane of.maker.account (fresh of.lane run) (items_of of.lane items) of.maker.own of.list
      (shared.lane of.lane of.maker of.list of.maker_at of.list_at) (filter-all (IsItem config) of.lane items each) (answered_once of.maker of.lane of.maker_at) in
      let same : lane_of item ≡ of.lane = same_Some (lane_of item) of.lane (sym (mapped lane_of items k item one) ∙ of.lane_is) in
      zip-both MayAnswer (items_of of.lane items) of.list fits (count_before (lanes_in items) of.lane k) item reply (among of.lane items k item one same) of.at
