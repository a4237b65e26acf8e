-- What happened, and the bodies of frames: what is read is spelled so, and what is spelled is read.
use Rattle.std.proofs.Common.{◌≡◌, ℕ, ◌+◌, ◌-◌, ◌^◌, ◌<◌, ◌≤◌, Bool, true, false, cond, ltb, List, [], ◌∷◌, ◌++◌, length, drop, Option, Some, None, Result, Ok, Err, refl, sym, ap, subst, ◌∙◌, append-nil, arith}
use Rattle.std.specs.Prelude.{◌||◌, ◌*◌, is_some}
use Rattle.std.proofs.lemmas.Bool.{ltb-false, le-ltb}
use Rattle.std.proofs.lemmas.List.{length-drop, drop_at}
use Rattle.std.specs.List.{flat_map, AllByRecursion}
use Rattle.log_base.specs.ClusterShape.{Shape, InRange, wrong_part}
use Rattle.log_base.specs.Wide.{IsBytes, be2, be4}
use Rattle.log_base.proofs.Wide.{length-be4, IsBytes-drop}
use Rattle.log_base.specs.declared.numbers.NodeId.{NodeId}
use Rattle.record_frame.specs.declared.refusals.Refusal.{Refusal}
use Rattle.record_frame.specs.declared.refusals.Refusal.TheVariants.{BadNumber, Long}
use Rattle.record_frame.specs.Fields.{◌>>=◌, StandsAt, u8_at, u16_at, u32_at}
use Rattle.record_frame.proofs.FieldLaws.{bind_ok, passes, given, ok_is, StandsAt-then, StandsAt-front, StandsAt-back, front_stands, u8_takes, u16_takes, u32_takes, u8_again, u16_again, u32_again}
use Rattle.reply_frame.specs.declared.replies.Reply.{Reply}
use Rattle.reply_frame.specs.Replies.{IsReply, reply_bytes}
use Rattle.history_frame.specs.declared.inputs.Input.{Input}
use Rattle.history_frame.specs.declared.inputs.Mark.{Mark}
use Rattle.history_frame.specs.declared.events.Sent.{Sent}
use Rattle.history_frame.specs.declared.events.Happened.{Happened}
use Rattle.history_frame.specs.declared.events.Kept.{Kept}
use Rattle.history_frame.specs.Frames.{TellsNoMessage}
use Rattle.history_frame.specs.Spelling.{IsInput, IsSent, input_spelling, mark_byte, sent_spelling, happened_spelling, head_body, kept_body}
use Rattle.history_frame.specs.Widths.{SentFits, ReplyFits, HappenedFits, KeptFits}
use Rattle.history_frame.specs.ReplyReading.{Told, told, reply_at}
use Rattle.history_frame.specs.Reading.{input_at, mark_at, outputs_at, ToldHappened, happened_told, happened_at, to_end, lane_reply_at, lane_reply_of, shape_at, config_at, run_at, head_at, head_of, kept_of, node_happened_at, event_of}
use Rattle.history_frame.proofs.InputLaws.{IsInputRead, IsSentRead, input_takes, input_again, mark_takes, mark_again, sent_part}
use Rattle.history_frame.proofs.Loops.{outputs_many}
use Rattle.history_frame.proofs.Many.{many_take, many_again}
use Rattle.history_frame.proofs.ReplyLaws.{IsTold, told_bytes, told_text, told_is, reply_takes, reply_again}

-- ---- what happened

-- what was read is in range
pub record IsToldHappened (told : ToldHappened) : Type 0 where
  pub input : IsInputRead told.input
  pub few : length told.outputs < 256
  pub outputs : AllByRecursion IsSentRead told.outputs
  pub reply : IsTold told.reply

abbrev pub told_spelling : ToldHappened → List ℕ
told_spelling told =
    input_spelling told.input ++ (mark_byte told.mark ∷ (length told.outputs ∷ (flat_map sent_spelling told.outputs ++ told_bytes told.reply)))

pub happened_takes : (bytes : List ℕ) (at : ℕ) (x : ToldHappened × ℕ) → IsBytes bytes → happened_at bytes at ≡ Ok x → IsToldHappened x.0 × StandsAt bytes at (told_spelling x.0) x.1
unfolding happened_at
happened_takes bytes at x fits e =
    let a = bind_ok (input_at bytes at) (λ input. mark_at bytes input.1 >>= λ mark. u8_at bytes mark.1 >>= λ count. outputs_at count.0 bytes count.1 >>= λ outputs. reply_at bytes outputs.1 >>= λ reply. Ok (record { input = input.0; mark = mark.0; outputs = outputs.0; reply = reply.0 }, reply.1)) x e in
    let b = bind_ok (mark_at bytes a.0.1) (λ mark. u8_at bytes mark.1 >>= λ count. outputs_at count.0 bytes count.1 >>= λ outputs. reply_at bytes outputs.1 >>= λ reply. Ok (record { input = a.0.0; mark = mark.0; outputs = outputs.0; reply = reply.0 }, reply.1)) x a.2 in
    let c = bind_ok (u8_at bytes b.0.1) (λ count. outputs_at count.0 bytes count.1 >>= λ outputs. reply_at bytes outputs.1 >>= λ reply. Ok (record { input = a.0.0; mark = b.0.0; outputs = outputs.0; reply = reply.0 }, reply.1)) x b.2 in
    let d = bind_ok (outputs_at c.0.0 bytes c.0.1) (λ outputs. reply_at bytes outputs.1 >>= λ reply. Ok (record { input = a.0.0; mark = b.0.0; outputs = outputs.0; reply = reply.0 }, reply.1)) x c.2 in
    let f = bind_ok (reply_at bytes d.0.1) (λ reply. Ok (record { input = a.0.0; mark = b.0.0; outputs = d.0.0; reply = reply.0 }, reply.1)) x d.2 in
    let input = input_takes bytes at a.0 fits a.1 in
    let mark = mark_takes bytes a.0.1 b.0 fits b.1 in
    let count = u8_takes bytes b.0.1 c.0 fits c.1 in
    let outputs = many_take outputs_many sent_part c.0.0 bytes c.0.1 d.0 fits count.0.within d.1 in
    let reply = reply_takes bytes d.0.1 f.0 fits f.1 in
    parts bytes at a.0.1 b.0.1 c.0.1 d.0.1 x a.0.0 b.0.0 c.0.0 d.0.0 f.0 input.0 input.1 mark count.0 count.1 outputs.size outputs.each outputs.stands reply.0 reply.1 f.2
  where
    parts : (bytes : List ℕ) (at p1 p2 p3 p4 : ℕ) (x : ToldHappened × ℕ) (input : Input) (mark : Mark) (count : ℕ) (outputs : List Sent) (reply : Told × ℕ)
        → IsInputRead input → StandsAt bytes at (input_spelling input) p1 → StandsAt bytes p1 (mark_byte mark ∷ []) p2 → StandsAt bytes p2 (count ∷ []) p3 → count < 256
        → length outputs ≡ count → AllByRecursion IsSentRead outputs → StandsAt bytes p3 (flat_map sent_spelling outputs) p4 → IsTold reply.0 → StandsAt bytes p4 (told_bytes reply.0) reply.1
        → given (record { input = input; mark = mark; outputs = outputs; reply = reply.0 }, reply.1) ≡ Ok x → IsToldHappened x.0 × StandsAt bytes at (told_spelling x.0) x.1
    parts bytes at p1 p2 p3 p4 x input mark count outputs reply is_input at_input at_mark at_count small size each at_outputs is_reply at_reply e =
        let behind = StandsAt-then bytes p3 p4 reply.1 (flat_map sent_spelling outputs) (told_bytes reply.0) at_outputs at_reply in
        let counted = StandsAt-then bytes p2 p3 reply.1 (length outputs ∷ []) _ (subst (λ (n : ℕ). StandsAt bytes p2 (n ∷ []) p3) (sym size) at_count) behind in
        let marked = StandsAt-then bytes p1 p2 reply.1 (mark_byte mark ∷ []) _ at_mark counted in
        let all = StandsAt-then bytes at p1 reply.1 (input_spelling input) _ at_input marked in
        let made : ToldHappened × ℕ = (record { input = input; mark = mark; outputs = outputs; reply = reply.0 }, reply.1) in
        subst (λ (y : ToldHappened × ℕ). IsToldHappened y.0 × StandsAt bytes at (told_spelling y.0) y.1) (ok_is made x e)
        (record { input = is_input; few = omega (arith, size, small); outputs = each; reply = is_reply }, all)

each_sent : (outputs : List Sent) → AllByRecursion IsSent outputs → AllByRecursion SentFits outputs → AllByRecursion IsSentRead outputs
each_sent [] is wide = tt
each_sent (sent ∷ outputs) is wide = ((is.0, wide.0), each_sent outputs is.1 wide.1)

sent_each : (outputs : List Sent) → AllByRecursion IsSentRead outputs → AllByRecursion IsSent outputs × AllByRecursion SentFits outputs
sent_each [] is = (tt, tt)
sent_each (sent ∷ outputs) is = let others = sent_each outputs is.1 in ((is.0.0, others.0), (is.0.1, others.1))

-- what happened in range, but for its size
pub record IsRight (happened : Happened) : Type 0 where
  pub input : IsInput happened.input
  pub few : length happened.outputs ≤ 255
  pub outputs : AllByRecursion IsSent happened.outputs
  pub reply : IsReply happened.reply

pub happened_again : (bytes : List ℕ) (at next : ℕ) (happened : Happened) → IsRight happened → HappenedFits happened → TellsNoMessage happened.input → StandsAt bytes at (happened_spelling happened) next
    → happened_at bytes at ≡ Ok (happened_told happened, next)
unfolding happened_at
happened_again bytes at next happened is wide untold stands =
    let input = input_spelling happened.input in
    let mark = mark_byte happened.mark in
    let count = length happened.outputs in
    let outputs = flat_map sent_spelling happened.outputs in
    let reply = reply_bytes happened.reply in
    let s1 = StandsAt-back bytes at next input (mark ∷ (count ∷ (outputs ++ reply))) stands in
    let p1 = at + length input in
    let s2 = StandsAt-back bytes p1 next (mark ∷ []) (count ∷ (outputs ++ reply)) s1 in
    let s3 = StandsAt-back bytes (p1 + 1) next (count ∷ []) (outputs ++ reply) s2 in
    let s4 = StandsAt-back bytes (p1 + 1 + 1) next outputs reply s3 in
    rw (
      input_again bytes at p1 happened.input is.input wide.input untold (StandsAt-front bytes at next input (mark ∷ (count ∷ (outputs ++ reply))) stands),
      mark_again bytes p1 (p1 + 1) happened.mark (StandsAt-front bytes p1 next (mark ∷ []) (count ∷ (outputs ++ reply)) s1),
      u8_again bytes (p1 + 1) count (p1 + 1 + 1) (omega (arith, is.few)) (StandsAt-front bytes (p1 + 1) next (count ∷ []) (outputs ++ reply) s2),
      many_again outputs_many sent_part happened.outputs bytes (p1 + 1 + 1) (p1 + 1 + 1 + length outputs) (each_sent happened.outputs is.outputs wide.outputs) (StandsAt-front bytes (p1 + 1 + 1) next outputs reply s3),
      reply_again bytes (p1 + 1 + 1 + length outputs) next happened.reply is.reply wide.reply s4,
    ) refl

-- what was read of a thing that happened
pub happened_text : (happened : Happened) → told_spelling (happened_told happened) ≡ happened_spelling happened
happened_text happened =
    ap (λ (l : List ℕ). input_spelling happened.input ++ (mark_byte happened.mark ∷ (length happened.outputs ∷ (flat_map sent_spelling happened.outputs ++ l)))) (told_text happened.reply)

pub record HappenedRead (happened : Happened) : Type 0 where
  pub is : IsRight happened
  pub fits : HappenedFits happened
  pub untold : TellsNoMessage happened.input

pub happened_read : (happened : Happened) → IsToldHappened (happened_told happened) → HappenedRead happened
happened_read happened is =
    let sent = sent_each happened.outputs is.outputs in
    let reply = told_is happened.reply is.reply in
    let few : length happened.outputs ≤ 255 = omega (arith, is.few) in
    record {
      is = record { input = is.input.0; few = few; outputs = sent.0; reply = reply.0 };
      fits = record { input = is.input.1; outputs = sent.1; reply = reply.1 };
      untold = is.input.2;
    }

-- ---- bodies, read to their ends

record Ended {A : Type 0} (bytes : List ℕ) (read : Result (A × ℕ) Refusal) (found : A) : Type 0 where
  next : ℕ
  read_is : read ≡ Ok (found, next)
  end : length bytes ≤ next

ended : {A : Type 0} (bytes : List ℕ) (read : Result (A × ℕ) Refusal) (found : A) → to_end bytes read ≡ Ok found → Ended bytes read found
ended {A} bytes read found e =
    let a = bind_ok read (λ x. cond (ltb x.1 (length bytes)) (Err (Long (length bytes - x.1))) (Ok x.0)) found e in
    let p = passes (ltb a.0.1 (length bytes)) (Long (length bytes - a.0.1)) (Ok a.0.0) found a.2 in
    record { next = a.0.1; read_is = a.1 ∙ ap (λ (x : A). given (x, a.0.1)) (ok_is a.0.0 found p.1); end = ltb-false _ _ p.0 }

-- all of the bytes stand there
whole : (bytes text : List ℕ) (next : ℕ) → StandsAt bytes 0 text next → length bytes ≤ next → bytes ≡ text
whole bytes text next stands end =
    stands.parts ∙ ap (λ (l : List ℕ). text ++ l) (nothing (drop next bytes) (omega (arith, length-drop next bytes, end))) ∙ append-nil text
  where
    nothing : (l : List ℕ) → length l ≡ 0 → l ≡ []
    nothing [] e = refl
    nothing (x ∷ l) e = absurd (omega arith)

all_stands : (text : List ℕ) → StandsAt text 0 text (length text)
all_stands text = front_stands text text [] (sym (append-nil text))

to_end_again : {A : Type 0} (text : List ℕ) (read : Result (A × ℕ) Refusal) (found : A) → read ≡ Ok (found, length text) → to_end text read ≡ Ok found
to_end_again text read found e =
    let all = le-ltb (length text) (length text) (omega arith) in
    rw (e, all) refl

-- ---- replies to lanes

pub record IsLaneReply (body : List ℕ) (found : ℕ × Told) : Type 0 where
  pub lane : found.0 < 256
  pub reply : IsTold found.1
  pub text : body ≡ found.0 ∷ told_bytes found.1

pub lane_reply_takes : (body : List ℕ) (found : ℕ × Told) → IsBytes body → lane_reply_of body ≡ Ok found → IsLaneReply body found
unfolding lane_reply_of lane_reply_at
lane_reply_takes body found fits e =
    let end = ended body (lane_reply_at body 0) found e in
    let a = bind_ok (u8_at body 0) (λ lane. reply_at body lane.1 >>= λ reply. Ok ((lane.0, reply.0), reply.1)) (found, end.next) end.read_is in
    let b = bind_ok (reply_at body a.0.1) (λ reply. Ok ((a.0.0, reply.0), reply.1)) (found, end.next) a.2 in
    let lane = u8_takes body 0 a.0 fits a.1 in
    let reply = reply_takes body a.0.1 b.0 fits b.1 in
    let all = StandsAt-then body 0 a.0.1 b.0.1 (a.0.0 ∷ []) (told_bytes b.0.0) lane.0 reply.1 in
    let same : ((a.0.0, b.0.0), b.0.1) ≡ (found, end.next) = ok_is ((a.0.0, b.0.0), b.0.1) (found, end.next) b.2 in
    let place : b.0.1 ≡ end.next = ap (λ (y : (ℕ × Told) × ℕ). y.1) same in
    let short : length body ≤ b.0.1 = subst (λ (n : ℕ). length body ≤ n) (sym place) end.end in
    let made : IsLaneReply body (a.0.0, b.0.0) = record { lane = lane.1; reply = reply.0; text = whole body (a.0.0 ∷ told_bytes b.0.0) b.0.1 all short } in
    subst (IsLaneReply body) (ap (λ (y : (ℕ × Told) × ℕ). y.0) same) made

pub lane_reply_again : (lane : ℕ) (reply : Reply) → lane < 256 → IsReply reply → ReplyFits reply → lane_reply_of (lane ∷ reply_bytes reply) ≡ Ok (lane, told reply)
unfolding lane_reply_of lane_reply_at
lane_reply_again lane reply small is wide =
    let text = lane ∷ reply_bytes reply in
    let stands = all_stands text in
    to_end_again text (lane_reply_at text 0) (lane, told reply)
    (rw (
      u8_again text 0 lane (0 + 1) small (StandsAt-front text 0 (length text) (lane ∷ []) (reply_bytes reply) stands),
      reply_again text (0 + 1) (length text) reply is wide (StandsAt-back text 0 (length text) (lane ∷ []) (reply_bytes reply) stands),
    ) refl)

-- ---- events

pub record IsNodeHappened (body : List ℕ) (found : NodeId × ToldHappened) : Type 0 where
  pub node : found.0.0 < 2 ^ 16
  pub happened : IsToldHappened found.1
  pub text : body ≡ be2 found.0.0 ++ told_spelling found.1

pub event_takes : (body : List ℕ) (found : NodeId × ToldHappened) → IsBytes body → event_of body ≡ Ok found → IsNodeHappened body found
unfolding event_of node_happened_at
event_takes body found fits e =
    let end = ended body (node_happened_at body 0) found e in
    let a = bind_ok (u16_at body 0) (λ node. happened_at body node.1 >>= λ happened. Ok ((record { 0 = node.0 }, happened.0), happened.1)) (found, end.next) end.read_is in
    let b = bind_ok (happened_at body a.0.1) (λ happened. Ok ((record { 0 = a.0.0 }, happened.0), happened.1)) (found, end.next) a.2 in
    let node = u16_takes body 0 a.0 fits a.1 in
    let happened = happened_takes body a.0.1 b.0 fits b.1 in
    let all = StandsAt-then body 0 a.0.1 b.0.1 (be2 a.0.0) (told_spelling b.0.0) node.0 happened.1 in
    let made : NodeId × ToldHappened = (record { 0 = a.0.0 }, b.0.0) in
    let same : (made, b.0.1) ≡ (found, end.next) = ok_is (made, b.0.1) (found, end.next) b.2 in
    let place : b.0.1 ≡ end.next = ap (λ (y : (NodeId × ToldHappened) × ℕ). y.1) same in
    let short : length body ≤ b.0.1 = subst (λ (n : ℕ). length body ≤ n) (sym place) end.end in
    let is : IsNodeHappened body made = record { node = node.1; happened = happened.0; text = whole body (be2 a.0.0 ++ told_spelling b.0.0) b.0.1 all short } in
    subst (IsNodeHappened body) (ap (λ (y : (NodeId × ToldHappened) × ℕ). y.0) same) is

pub event_again : (node : NodeId) (happened : Happened) → node.0 < 2 ^ 16 → IsRight happened → HappenedFits happened → TellsNoMessage happened.input
    → event_of (be2 node.0 ++ happened_spelling happened) ≡ Ok (node, happened_told happened)
unfolding event_of node_happened_at
event_again node happened small is wide untold =
    let two = be2 node.0 in
    let rest = happened_spelling happened in
    let text = two ++ rest in
    let stands = all_stands text in
    to_end_again text (node_happened_at text 0) (node, happened_told happened)
    (rw (
      u16_again text 0 node.0 (0 + length two) small (StandsAt-front text 0 (length text) two rest stands),
      happened_again text (0 + length two) (length text) happened is wide untold (StandsAt-back text 0 (length text) two rest stands),
    ) refl)

-- ---- payloads

pub kept_takes : (body : List ℕ) (kept : Kept) → IsBytes body → kept_of body ≡ Ok kept → KeptFits kept × (body ≡ kept_body kept)
unfolding kept_of
kept_takes body kept fits e =
    let a = bind_ok (u32_at body 0) (λ disk. Ok (record { disk = disk.0; payload = drop 4 body })) kept e in
    let disk = u32_takes body 0 a.0 fits a.1 in
    let place : a.0.1 ≡ 4 = omega (arith, disk.0.end, length-be4 a.0.0) in
    let text : body ≡ be4 a.0.0 ++ drop 4 body = disk.0.parts ∙ ap (λ (k : ℕ). be4 a.0.0 ++ drop k body) place in
    let made : Kept = record { disk = a.0.0; payload = drop 4 body } in
    subst (λ (k : Kept). KeptFits k × (body ≡ kept_body k)) (ok_is made kept a.2) (record { disk = disk.1; payload = IsBytes-drop 4 body fits }, text)

pub kept_again : (kept : Kept) → KeptFits kept → kept_of (kept_body kept) ≡ Ok kept
unfolding kept_of
kept_again kept fits =
    let four = be4 kept.disk in
    let text = four ++ kept.payload in
    let wide = length-be4 kept.disk in
    let rest : drop 4 text ≡ kept.payload = drop_at four kept.payload 4 wide in
    rw (u32_again text 0 kept.disk (0 + length four) fits.disk (StandsAt-front text 0 (length text) four kept.payload (all_stands text)), rest) refl

-- ---- heads

pub record IsHead (body : List ℕ) (found : Shape × ℕ) : Type 0 where
  pub right : wrong_part found.0 ≡ None
  pub some_run : 1 ≤ found.1
  pub run : found.1 ≤ 1000000
  pub text : body ≡ head_body found.0 found.1

shape_takes : (bytes : List ℕ) (at : ℕ) (x : Shape × ℕ) → IsBytes bytes → shape_at bytes at ≡ Ok x → StandsAt bytes at (x.0.replicas ∷ (x.0.shards ∷ (x.0.orderers ∷ (x.0.gatherers ∷ [])))) x.1
unfolding shape_at
shape_takes bytes at x fits e =
    let a = bind_ok (u8_at bytes at) (λ replicas. u8_at bytes replicas.1 >>= λ shards. u8_at bytes shards.1 >>= λ orderers. u8_at bytes orderers.1 >>= λ gatherers. Ok (record { replicas = replicas.0; shards = shards.0; orderers = orderers.0; gatherers = gatherers.0 }, gatherers.1)) x e in
    let b = bind_ok (u8_at bytes a.0.1) (λ shards. u8_at bytes shards.1 >>= λ orderers. u8_at bytes orderers.1 >>= λ gatherers. Ok (record { replicas = a.0.0; shards = shards.0; orderers = orderers.0; gatherers = gatherers.0 }, gatherers.1)) x a.2 in
    let c = bind_ok (u8_at bytes b.0.1) (λ orderers. u8_at bytes orderers.1 >>= λ gatherers. Ok (record { replicas = a.0.0; shards = b.0.0; orderers = orderers.0; gatherers = gatherers.0 }, gatherers.1)) x b.2 in
    let d = bind_ok (u8_at bytes c.0.1) (λ gatherers. Ok (record { replicas = a.0.0; shards = b.0.0; orderers = c.0.0; gatherers = gatherers.0 }, gatherers.1)) x c.2 in
    let made : Shape × ℕ = (record { replicas = a.0.0; shards = b.0.0; orderers = c.0.0; gatherers = d.0.0 }, d.0.1) in
    let all = StandsAt-then bytes at a.0.1 d.0.1 (a.0.0 ∷ []) _ (u8_takes bytes at a.0 fits a.1).0 (StandsAt-then bytes a.0.1 b.0.1 d.0.1 (b.0.0 ∷ []) _ (u8_takes bytes a.0.1 b.0 fits b.1).0
    (StandsAt-then bytes b.0.1 c.0.1 d.0.1 (c.0.0 ∷ []) (d.0.0 ∷ []) (u8_takes bytes b.0.1 c.0 fits c.1).0 (u8_takes bytes c.0.1 d.0 fits d.1).0)) in
    subst (λ (y : Shape × ℕ). StandsAt bytes at (y.0.replicas ∷ (y.0.shards ∷ (y.0.orderers ∷ (y.0.gatherers ∷ [])))) y.1) (ok_is made x d.2) all

shape_again : (bytes : List ℕ) (at next : ℕ) (shape : Shape) → shape.replicas < 256 → shape.shards < 256 → shape.orderers < 256 → shape.gatherers < 256
    → StandsAt bytes at (shape.replicas ∷ (shape.shards ∷ (shape.orderers ∷ (shape.gatherers ∷ [])))) next → shape_at bytes at ≡ Ok (shape, next)
unfolding shape_at
shape_again bytes at next shape r s o g stands =
    let s1 = StandsAt-back bytes at next (shape.replicas ∷ []) (shape.shards ∷ (shape.orderers ∷ (shape.gatherers ∷ []))) stands in
    let s2 = StandsAt-back bytes (at + 1) next (shape.shards ∷ []) (shape.orderers ∷ (shape.gatherers ∷ [])) s1 in
    let s3 = StandsAt-back bytes (at + 1 + 1) next (shape.orderers ∷ []) (shape.gatherers ∷ []) s2 in
    rw (
      u8_again bytes at shape.replicas (at + 1) r (StandsAt-front bytes at next (shape.replicas ∷ []) (shape.shards ∷ (shape.orderers ∷ (shape.gatherers ∷ []))) stands),
      u8_again bytes (at + 1) shape.shards (at + 1 + 1) s (StandsAt-front bytes (at + 1) next (shape.shards ∷ []) (shape.orderers ∷ (shape.gatherers ∷ [])) s1),
      u8_again bytes (at + 1 + 1) shape.orderers (at + 1 + 1 + 1) o (StandsAt-front bytes (at + 1 + 1) next (shape.orderers ∷ []) (shape.gatherers ∷ []) s2),
      u8_again bytes (at + 1 + 1 + 1) shape.gatherers next g s3,
    ) refl

is_none : (o : Option ℕ) → is_some o ≡ false → o ≡ None
is_none None e = refl
is_none (Some x) e = absurd cc

neither : (a b : Bool) → (a || b) ≡ false → (a ≡ false) × (b ≡ false)
neither true b e = absurd cc
neither false b e = (refl, e)

pub head_takes : (body : List ℕ) (found : Shape × ℕ) → IsBytes body → head_of body ≡ Ok found → IsHead body found
unfolding head_of head_at config_at run_at
head_takes body found fits e =
    let end = ended body (head_at body 0) found e in
    let a = bind_ok (config_at body 0) (λ config. run_at body config.1 >>= λ run. Ok ((config.0, run.0), run.1)) (found, end.next) end.read_is in
    let b = bind_ok (run_at body a.0.1) (λ run. Ok ((a.0.0, run.0), run.1)) (found, end.next) a.2 in
    let c = bind_ok (shape_at body 0) (λ x. cond (is_some (wrong_part x.0)) (Err (BadNumber 0)) (Ok x)) a.0 a.1 in
    let p = passes (is_some (wrong_part c.0.0)) (BadNumber 0) (Ok c.0) a.0 c.2 in
    let config_is : c.0 ≡ a.0 = ok_is c.0 a.0 p.1 in
    let shape = subst (λ (y : Shape × ℕ). StandsAt body 0 (y.0.replicas ∷ (y.0.shards ∷ (y.0.orderers ∷ (y.0.gatherers ∷ [])))) y.1) config_is (shape_takes body 0 c.0 fits c.1) in
    let right = subst (λ (y : Shape × ℕ). wrong_part y.0 ≡ None) config_is (is_none (wrong_part c.0.0) p.0) in
    let d = bind_ok (u32_at body a.0.1) (λ x. cond (ltb x.0 1 || ltb 1000000 x.0) (Err (BadNumber a.0.1)) (Ok x)) b.0 b.1 in
    let q = passes (ltb d.0.0 1 || ltb 1000000 d.0.0) (BadNumber a.0.1) (Ok d.0) b.0 d.2 in
    let run_is : d.0 ≡ b.0 = ok_is d.0 b.0 q.1 in
    let tests = neither (ltb d.0.0 1) (ltb 1000000 d.0.0) q.0 in
    let range = subst (λ (y : ℕ × ℕ). (1 ≤ y.0) × (y.0 ≤ 1000000)) run_is (ltb-false _ _ tests.0, ltb-false _ _ tests.1) in
    let run = subst (λ (y : ℕ × ℕ). StandsAt body a.0.1 (be4 y.0) y.1) run_is (u32_takes body a.0.1 d.0 fits d.1).0 in
    let all = StandsAt-then body 0 a.0.1 b.0.1 _ _ shape run in
    let made : Shape × ℕ = (a.0.0, b.0.0) in
    let same : (made, b.0.1) ≡ (found, end.next) = ok_is (made, b.0.1) (found, end.next) b.2 in
    let place : b.0.1 ≡ end.next = ap (λ (y : (Shape × ℕ) × ℕ). y.1) same in
    let short : length body ≤ b.0.1 = subst (λ (n : ℕ). length body ≤ n) (sym place) end.end in
    let is : IsHead body made = record { right = right; some_run = range.0; run = range.1; text = whole body (head_body a.0.0 b.0.0) b.0.1 all short } in
    subst (IsHead body) (ap (λ (y : (Shape × ℕ) × ℕ). y.0) same) is

right_part : (shape : Shape) → InRange shape → wrong_part shape ≡ None
right_part shape is =
    let r1 = le-ltb shape.replicas 1 is.some_replica in
    let r2 = le-ltb 5 shape.replicas is.replicas in
    let s1 = le-ltb shape.shards 1 is.some_shard in
    let s2 = le-ltb 8 shape.shards is.shards in
    let o1 = le-ltb 7 shape.orderers is.orderers in
    let odd = is.odd in
    let g1 = le-ltb shape.gatherers 1 is.some_gatherer in
    let g2 = le-ltb 4 shape.gatherers is.gatherers in
    let m = le-ltb 32 (shape.replicas * shape.shards) is.segments in
    rw (r1, r2, s1, s2, o1, odd, g1, g2, m) refl

pub head_again : (shape : Shape) (run : ℕ) → InRange shape → 1 ≤ run → run ≤ 1000000 → head_of (head_body shape run) ≡ Ok (shape, run)
unfolding head_of head_at config_at run_at
head_again shape run is some small =
    let front = shape.replicas ∷ (shape.shards ∷ (shape.orderers ∷ (shape.gatherers ∷ []))) in
    let text = front ++ be4 run in
    let stands = all_stands text in
    let right = right_part shape is in
    let low = le-ltb run 1 some in
    let high = le-ltb 1000000 run small in
    to_end_again text (head_at text 0) (shape, run)
    (rw (
      shape_again text 0 (0 + length front) shape (omega (arith, is.replicas)) (omega (arith, is.shards)) (omega (arith, is.orderers)) (omega (arith, is.gatherers)) (StandsAt-front text 0 (length text) front (be4 run) stands),
      right,
      u32_again text (0 + length front) run (length text) (omega (arith, small)) (StandsAt-back text 0 (length text) front (be4 run) stands),
      low,
      high,
    ) refl)
