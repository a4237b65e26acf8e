-- An item that begins may make its first call, and what it submits is drawn.
use Rattle.std.proofs.Common.{◌≡◌, ℕ, ◌+◌, ◌/◌, ◌%◌, ◌^◌, ◌<◌, ◌≤◌, List, [], ◌∷◌, Option, Some, None, sym, ◌∙◌, arith}
use Rattle.std.proofs.lemmas.Nat.{div-mul-add}
use Rattle.std.proofs.lemmas.Option.{none-some, same_Some}
use Rattle.client_session.specs.Sessions.{Drawing}
use Rattle.client_session.specs.declared.pair.Pair.{Pair}
use Rattle.cluster.specs.Submitting.{MaySubmit}
use Rattle.cluster.proofs.Submits.{submits_none}
use Rattle.command_frame.specs.Items.{IsItem}
use Rattle.command_frame.specs.declared.items.Item.{Item}
use Rattle.command_frame.specs.declared.items.Item.TheVariants.{Append, Read, Subscribe, Trim, Add, Finalise, Ask, Fault}
use Rattle.history_frame.specs.declared.events.Happened.{Happened}
use Rattle.history_frame.specs.declared.inputs.Call.TheVariants.{Submit}
use Rattle.history_frame.specs.declared.inputs.Input.TheVariants.{Call as ACall}
use Rattle.log_base.specs.ClusterShape.{InRange, Shape}
use Rattle.log_base.specs.Draws.{number_of_draw}
use Rattle.log_base.specs.declared.numbers.Client.{Client}
use Rattle.log_base.specs.declared.numbers.NodeId.{NodeId}
use Rattle.node_model.specs.Legal.{submitted}
use Rattle.node_table.specs.Numbering.{storage_node}
use Rattle.node_table.proofs.Roles.{storage_node-lt}
use Rattle.record_frame.specs.Entries.{IsEntry, entry_of}
use Rattle.record_frame.specs.declared.entries.Entry.{Entry}
use Rattle.record_frame.specs.declared.values.Value.{Value}
use Rattle.record_frame.specs.declared.values.Value.TheVariants.{Add as AddValue, Finalise as FinaliseValue, Trim as TrimValue}
use Rattle.schedule_model.specs.Courses.{client_of, enquiry, following, reading_at, request}
use Rattle.schedule_model.specs.Streams.{nothing_taken, subscription_at}
use Rattle.schedule_model.specs.declared.duties.Awaited.TheVariants.{Reading, Storing}
use Rattle.schedule_model.specs.declared.duties.Duty.{Duty}
use Rattle.schedule_model.specs.declared.duties.Duty.TheVariants.{MakeCall}
use Rattle.schedule_model.proofs.Permitted.{IsPermitted, IsWish}
use Rattle.schedule_model.proofs.LastAppends.{IsPlain}
use Rattle.subscriber.specs.Following.{Following, following_from}
use Rattle.tied_cells.specs.declared.board.Own.{Own}
use Rattle.lane_work.specs.declared.stages.Due.{Due}
use Rattle.lane_work.specs.Keeping.{IsBetween, IsForStorage, MayAsk, MayGo, StandsWith}
use Rattle.lane_work.specs.Stages.{after_item, asks_first, asks_last, begun}
use Rattle.lane_work.proofs.Permits.{IsDrawnCall, asks_stands}

-- the call that submits a record under the pair that is drawn next
abbrev pub submission_due : Drawing → NodeId → List ℕ → Due
submission_due session primary bytes = let number = number_of_draw session.run session.draws in record {
  node = primary;
  call = Submit (record { 0 = session.client }) (record { 0 = number }) bytes;
  awaited = Storing primary (record { 0 = session.client }) (record { 0 = number });
}

-- something holds of the submission of an append
abbrev pub IfAppend : Shape → Drawing → (Due → Type 0) → Item → Type 0
IfAppend config session is (Append lane shard replica bytes) = is (submission_due session (record { 0 = storage_node config shard.0 replica.0 }) bytes)
IfAppend config session is _ = Unit {0}

module _ (config : Shape) (range : InRange config) (is : Due → Type 0)
    (others : (due : Due) → IsPermitted config (MakeCall due.node due.call due.awaited) → submitted (ACall due.call) ≡ None → is due) where
  first_stands : (taken : Following) (duty : Duty) → IsPermitted config duty → IsPlain duty → StandsWith config is (asks_first taken duty)
  first_stands taken duty permitted plain = asks_stands config is others taken 0 (duty ∷ []) (permitted, tt) (plain, tt)

  wish_stands : (client : Client) (value : Value) → IsWish config value → StandsWith config is (asks_first nothing_taken (request config 0 client value))
  wish_stands client value wish =
      let odd : config.orderers % 2 ≡ 1 = range.odd in
      first_stands nothing_taken (request config 0 client value) (((omega arith, omega arith), wish), (omega arith, wish)) tt

  last_stands : (last : Option Pair) → IsForStorage config last → StandsWith config is (asks_last last)
  last_stands None h = tt
  last_stands (Some pair) h = first_stands nothing_taken (enquiry pair.node pair.client pair.number) (h, tt) tt

  pub begun_stands : (session : Drawing) (item : Item) → IsItem config item → IsForStorage config session.last → IfAppend config session is item
      → StandsWith config is (begun config session item)
  begun_stands session (Append lane shard replica bytes) item last append = append
  begun_stands session (Read lane shard replica position) item last append =
      first_stands nothing_taken (reading_at config shard.0 replica (client_of lane) position (Reading replica (client_of lane) position))
      (storage_node-lt config shard.0 replica.0 item.1 item.2, item.2) tt
  begun_stands session (Subscribe lane shard replica from count) item last append =
      first_stands (following_from from.0) (following config (subscription_at shard replica (client_of lane) from count))
      (storage_node-lt config shard.0 replica.0 item.1 item.2, (item.1, item.2)) tt
  begun_stands session (Trim lane position) item last append =
      wish_stands (client_of lane) (TrimValue position) (record { requested = tt; valid = item.1; of_config = tt })
  begun_stands session (Add lane shard) item last append =
      let few : config.shards ≤ 8 = range.shards in
      let below : shard.0 < config.shards = item.1 in
      wish_stands (client_of lane) (AddValue shard) (record { requested = tt; valid = omega arith; of_config = below })
  begun_stands session (Finalise lane shard) item last append =
      let few : config.shards ≤ 8 = range.shards in
      let below : shard.0 < config.shards = item.1 in
      wish_stands (client_of lane) (FinaliseValue shard) (record { requested = tt; valid = omega arith; of_config = below })
  begun_stands session (Ask lane) item last append = last_stands session.last last
  begun_stands session (Fault lane fault) item last append = tt

module _ (config : Shape) (range : InRange config) (run number : ℕ) (small : run ≤ 1000000) (session : Drawing) (own : List (Own Happened))
    (between : IsBetween config run number session own) (room : session.draws < 65536) where
  abbrev submission_entry : ℕ → List ℕ → Entry
  submission_entry draw bytes = entry_of (record { 0 = session.client }) (record { 0 = draw }) bytes

  append_permitted : number < 65536 → (item : Item) → IsItem config item
      → IfAppend config session (λ (due : Due). IsPermitted config (MakeCall due.node due.call due.awaited)) item
  append_permitted low (Append lane shard replica bytes) item =
      let node = storage_node-lt config shard.0 replica.0 item.1 item.2 in
      let client : session.client ≡ number = between.client_is in
      let here : session.run ≡ run = between.run_is in
      let entry : IsEntry (entry_of (record { 0 = session.client }) (record { 0 = number_of_draw session.run session.draws }) bytes) = record {
        client = omega arith;
        number = omega arith;
        size = item.3;
        bytes = item.4;
      } in
      ((node, entry), node)
  append_permitted low (Read lane shard replica position) item = tt
  append_permitted low (Subscribe lane shard replica from count) item = tt
  append_permitted low (Trim lane position) item = tt
  append_permitted low (Add lane shard) item = tt
  append_permitted low (Finalise lane shard) item = tt
  append_permitted low (Ask lane) item = tt
  append_permitted low (Fault lane fault) item = tt

  drawn_run : number_of_draw session.run session.draws / 2 ^ 32 ≡ run
  drawn_run =
      let below : session.draws < 2 ^ 32 = omega arith in
      div-mul-add session.run (2 ^ 32) session.draws below ∙ between.run_is

  -- no event submitted the pair that is drawn next
  pub append_may : (primary : NodeId) (bytes : List ℕ) → MaySubmit run number primary.0 own (ACall (submission_due session primary bytes).call)
  append_may primary bytes = record {
    of_pass = λ entry e. let same = same_Some (submission_entry (number_of_draw session.run session.draws) bytes) entry e in
        ((λ i. (sym same i).client.0) ∙ between.client_is, (λ i. (sym same i).number.0 / 2 ^ 32) ∙ drawn_run);
    like = λ k event there one other e f clients numbers.
        let same = same_Some (submission_entry (number_of_draw session.run session.draws) bytes) one e in
        let before : other.number.0 < number_of_draw run session.draws = between.drawn k event there other f in
        let here : number_of_draw session.run session.draws ≡ other.number.0 = (λ i. (same i).number.0) ∙ (λ i. (numbers i).0) in
        let runs : session.run ≡ run = between.run_is in
        absurd (omega arith);
  }

  append_drawn : (bytes : List ℕ) (primary : NodeId) (entry : Entry) → submitted (ACall (submission_due session primary bytes).call) ≡ Some entry
      → entry.number.0 < number_of_draw run (session.draws + 1)
  append_drawn bytes primary entry e =
      let same = same_Some (submission_entry (number_of_draw session.run session.draws) bytes) entry e in
      let is : number_of_draw session.run session.draws ≡ entry.number.0 = λ i. (same i).number.0 in
      let runs : session.run ≡ run = between.run_is in
      omega arith

  appends : number < 65536 → (item : Item) → IsItem config item → (is : Due → Type 0)
      → ((primary : NodeId) (bytes : List ℕ) → let due = submission_due session primary bytes in IsPermitted config (MakeCall primary due.call due.awaited) → is due)
      → IfAppend config session is item
  appends low (Append lane shard replica bytes) item is made =
      made (record { 0 = storage_node config shard.0 replica.0 }) bytes (append_permitted low (Append lane shard replica bytes) item)
  appends low (Read lane shard replica position) item is made = tt
  appends low (Subscribe lane shard replica from count) item is made = tt
  appends low (Trim lane position) item is made = tt
  appends low (Add lane shard) item is made = tt
  appends low (Finalise lane shard) item is made = tt
  appends low (Ask lane) item is made = tt
  appends low (Fault lane fault) item is made = tt

  -- the pass may make the calls of an item
  pub begun_may : number < 65536 → (item : Item) → IsItem config item → MayGo config run number own (begun config session item)
  begun_may low item is =
      begun_stands config range (λ (due : Due). MayAsk config run number own due)
      (λ due permitted none. record { permitted = permitted; may = submits_none run number due.node.0 own (ACall due.call) none })
      session item is between.last
      (appends low item is (λ (due : Due). MayAsk config run number own due) (λ primary bytes permitted. record { permitted = permitted; may = append_may primary bytes }))

  after_drawn : number < 65536 → (item : Item) → IsItem config item
      → IfAppend config session (λ (due : Due). IsDrawnCall config run (after_item config session item).draws due) item
  after_drawn low (Append lane shard replica bytes) item =
      let primary : NodeId = record { 0 = storage_node config shard.0 replica.0 } in
      record { permitted = append_permitted low (Append lane shard replica bytes) item; drawn = append_drawn bytes primary }
  after_drawn low (Read lane shard replica position) item = tt
  after_drawn low (Subscribe lane shard replica from count) item = tt
  after_drawn low (Trim lane position) item = tt
  after_drawn low (Add lane shard) item = tt
  after_drawn low (Finalise lane shard) item = tt
  after_drawn low (Ask lane) item = tt
  after_drawn low (Fault lane fault) item = tt

  -- and what they submit is drawn then
  pub begun_drawn : number < 65536 → (item : Item) → IsItem config item
      → StandsWith config (λ (due : Due). IsDrawnCall config run (after_item config session item).draws due) (begun config session item)
  begun_drawn low item is =
      begun_stands config range (λ (due : Due). IsDrawnCall config run (after_item config session item).draws due)
      (λ due permitted none. record { permitted = permitted; drawn = λ entry e. absurd (none-some entry (sym none ∙ e)) })
      session item is between.last (after_drawn low item is)
