-- What stands after several puts.
use Rattle.std.proofs.Common.{◌≡◌, ℕ, ◌+◌, ◌-◌, List, [], ◌∷◌, ◌++◌, length, Result, Ok, Err, ap, ◌∙◌, append_assoc, length-append, arith}
use Rattle.std.specs.Prelude.{OnOk}
use Rattle.std.specs.List.{flat_map}
use Rattle.log_base.specs.ClusterShape.{Shape}
use Rattle.log_base.specs.Wide.{be2, be4}
use Rattle.log_base.proofs.Wide.{length-be2, length-be4}
use Rattle.reply_frame.specs.Replies.{reply_bytes}
use Rattle.reply_frame.proofs.Puts.{two_puts}
use Rattle.history_frame.specs.declared.events.Event.{Event}
use Rattle.history_frame.specs.Spelling.{event_size, event_spelling, front_spelling, happened_spelling, head_spelling, input_spelling, mark_byte, sent_spelling}

pub three_puts : (old a b c x y z : List ℕ) → x ≡ old ++ a → y ≡ x ++ b → z ≡ y ++ c → z ≡ old ++ (a ++ (b ++ c))
three_puts old a b c x y z p q r = two_puts old a (b ++ c) x z p (two_puts x b c y z q r)

-- what an answer of Ok says is carried on
pub on_ok : {T E : Type 0} (result : Result T E) (P Q : Type 0) → (P → Q) → OnOk result P → OnOk result Q
on_ok (Ok x) P Q next holds = next holds
on_ok (Err e) P Q next holds = holds

-- the front of an event's frame, its outputs and its reply are the frame
pub event_whole : (event : Event) → front_spelling event ++ (flat_map sent_spelling event.happened.outputs ++ reply_bytes event.happened.reply) ≡ event_spelling event
event_whole event =
    let happened = event.happened in
    let node = be2 event.node.0 in
    let input = input_spelling happened.input in
    let rest = flat_map sent_spelling happened.outputs ++ reply_bytes happened.reply in
    let size : event_size happened - 4 ≡ length (node ++ happened_spelling happened) + 1 =
    omega (arith, length-append node (happened_spelling happened), length-be2 event.node.0) in
    parts (event_size happened - 4) (length (node ++ happened_spelling happened) + 1) node input (mark_byte happened.mark) (length happened.outputs) rest size
  where
    parts : (n m : ℕ) (node input : List ℕ) (mark count : ℕ) (rest : List ℕ) → n ≡ m
        → (be4 n ++ (98 ∷ (node ++ (input ++ (mark ∷ (count ∷ [])))))) ++ rest ≡ be4 m ++ (98 ∷ (node ++ (input ++ (mark ∷ (count ∷ rest)))))
    parts n m node input mark count rest e =
        ap (λ (k : ℕ). (be4 k ++ (98 ∷ (node ++ (input ++ (mark ∷ (count ∷ [])))))) ++ rest) e ∙ simp append_assoc

-- the length of a head
pub head_whole : (config : Shape) (run : ℕ) → be4 9 ++ (96 ∷ (config.replicas ∷ (config.shards ∷ (config.orderers ∷ (config.gatherers ∷ be4 run))))) ≡ head_spelling config run
head_whole config run =
    let body = config.replicas ∷ (config.shards ∷ (config.orderers ∷ (config.gatherers ∷ be4 run))) in
    let size : 9 ≡ length body + 1 = omega (arith, length-be4 run) in
    ap (λ (n : ℕ). be4 n ++ (96 ∷ body)) size
