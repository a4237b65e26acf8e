-- The letters of a gatherer's tick, and the room that they need.
use Rattle.std.proofs.Common.{◌≡◌, ℕ, zero, suc, ◌+◌, ◌-◌, ◌*◌, ◌%◌, ◌<◌, ◌≤◌, Bool, true, false, cond, ◌==◌, List, [], ◌∷◌, ◌++◌, map, length, replicate, Option, Some, None, refl, sym, ◌∙◌, subst, ap, arith}
use Rattle.std.proofs.lemmas.Nat.{mul-le}
use Rattle.std.proofs.lemmas.List.{append_assoc, append-nil, length-append}
use Rattle.std.specs.List.{AllByRecursion}
use Rattle.aggregator.specs.Hearing.{Hearing, least_in}
use Rattle.event_letters.specs.Letters.{message_length, parcel}
use Rattle.history_frame.specs.declared.events.Sent.{Sent}
use Rattle.log_base.specs.ClusterShape.{Shape}
use Rattle.message_frame.specs.declared.messages.Message.{Message}
use Rattle.message_frame.specs.Spelling.{IsMessage}
use Rattle.message_frame.proofs.Sizes.{length-message_spelling}
use Rattle.node_model.specs.GathererRow.{least_letters, leasts}
use Rattle.node_model.specs.Messages.{least_message}
use Rattle.node_model.specs.Nodes.{before_orderers, letter, to_nodes, to_orderers}
use Rattle.record_frame.specs.declared.values.Lengths.{Lengths}
use Rattle.gatherer_node.proofs.Heard.{due_is_heard}
use Rattle.gatherer_node.specs.Gatherer.{IsHeard, IsOf, IsShort, least_due, sizes_of, told_of}

-- a letter to one node more
pub to_nodes-push : (node count : ℕ) (message : Message) → to_nodes node (suc count) message ≡ to_nodes node count message ++ letter (node + count) message ∷ []
to_nodes-push node zero message = let e : node ≡ node + 0 = omega arith in ap (λ (n : ℕ). letter n message ∷ []) e
to_nodes-push node (suc count) message =
    let e : suc node + count ≡ node + suc count = omega arith in
    ap (λ (l : List Sent). letter node message ∷ l) (to_nodes-push (suc node) count message
    ∙ ap (λ (n : ℕ). to_nodes (suc node) count message ++ letter n message ∷ []) e)

-- the letters to all orderers have one size
pub sizes-to_nodes : (node count : ℕ) (message : Message) → sizes_of (to_nodes node count message) ≡ replicate count (message_length message)
sizes-to_nodes node zero message = refl
sizes-to_nodes node (suc count) message = ap (λ (l : List ℕ). message_length message ∷ l) (sizes-to_nodes (suc node) count message)

pub sizes-to_orderers : (config : Shape) (message : Message) → sizes_of (to_orderers config message) ≡ replicate config.orderers (message_length message)
unfolding to_orderers
sizes-to_orderers config message = sizes-to_nodes (before_orderers config) config.orderers message

-- the letters of one shard more, and those of a shard and of those behind it
told_in : (config : Shape) (index : ℕ) (hearing : Hearing) (shard : ℕ) (b : Bool)
    → cond b (least_letters config shard (least_in hearing shard)) [] ≡ least_letters config shard (cond b (least_in hearing shard) None)
told_in config index hearing shard true = refl
told_in config index hearing shard false = refl

pub leasts-first : (config : Shape) (index : ℕ) (hearing : Hearing) (shard count : ℕ)
    → leasts config index hearing shard (suc count) ≡ told_of config index hearing shard ++ leasts config index hearing (suc shard) count
leasts-first config index hearing shard count =
    ap (λ (l : List Sent). l ++ leasts config index hearing (suc shard) count) (told_in config index hearing shard (shard % config.gatherers == index))

pub leasts-push : (config : Shape) (index : ℕ) (hearing : Hearing) (shard count : ℕ)
    → leasts config index hearing shard (suc count) ≡ leasts config index hearing shard count ++ told_of config index hearing (shard + count)
leasts-push config index hearing shard zero =
    let e : shard ≡ shard + 0 = omega arith in
    leasts-first config index hearing shard 0 ∙ append-nil (told_of config index hearing shard) ∙ ap (λ (s : ℕ). told_of config index hearing s) e
leasts-push config index hearing shard (suc count) =
    let e : suc shard + count ≡ shard + suc count = omega arith in
    leasts-first config index hearing shard (suc count)
    ∙ ap (λ (l : List Sent). told_of config index hearing shard ++ l) (leasts-push config index hearing (suc shard) count)
    ∙ sym (append_assoc (told_of config index hearing shard) (leasts config index hearing (suc shard) count) (told_of config index hearing (suc shard + count)))
    ∙ ap (λ (l : List Sent). l ++ told_of config index hearing (suc shard + count)) (sym (leasts-first config index hearing shard count))
    ∙ ap (λ (s : ℕ). leasts config index hearing shard (suc count) ++ told_of config index hearing s) e

-- the sizes of letters and others
pub sizes-append : (letters others : List Sent) → sizes_of (letters ++ others) ≡ sizes_of letters ++ sizes_of others
sizes-append [] others = refl
sizes-append (sent ∷ letters) others = ap (λ (l : List ℕ). message_length sent.message ∷ l) (sizes-append letters others)

pub parcels-append : (letters others : List Sent) → map parcel (letters ++ others) ≡ map parcel letters ++ map parcel others
parcels-append [] others = refl
parcels-append (sent ∷ letters) others = ap (λ (l : List (ℕ × List ℕ)). parcel sent ∷ l) (parcels-append letters others)

-- a least is spelled, in so many bytes
pub least_spelled : (config : Shape) (shard : ℕ) (lengths : Lengths) → shard ≤ 7 → IsHeard config.replicas (Some lengths) → IsMessage (least_message shard lengths)
least_spelled config shard lengths few heard = (few, heard.0)

pub least_length : (config : Shape) (shard : ℕ) (lengths : Lengths) → shard ≤ 7 → IsHeard config.replicas (Some lengths)
    → message_length (least_message shard lengths) ≡ 4 + 4 * config.replicas
least_length config shard lengths few heard =
    length-message_spelling (least_message shard lengths) (least_spelled config shard lengths few heard) ∙ ap (λ (n : ℕ). 4 + 4 * n) heard.1

-- there are at most so many letters
length-to_nodes : (node count : ℕ) (message : Message) → length (to_nodes node count message) ≡ count
length-to_nodes node zero message = refl
length-to_nodes node (suc count) message = let e = length-to_nodes (suc node) count message in omega (arith, e)

few_of : (config : Shape) (shard : ℕ) (least : Option Lengths) → length (least_letters config shard least) ≤ config.orderers
unfolding to_orderers
few_of config shard None = omega arith
few_of config shard (Some lengths) = let e = length-to_nodes (before_orderers config) config.orderers (least_message shard lengths) in omega (arith, e)

pub few_letters : (config : Shape) (index : ℕ) (hearing : Hearing) (shard count : ℕ)
    → length (leasts config index hearing shard count) ≤ count * config.orderers
few_letters config index hearing shard zero = omega arith
few_letters config index hearing shard (suc count) =
    let first = ap length (leasts-first config index hearing shard count) in
    let parts = length-append (told_of config index hearing shard) (leasts config index hearing (suc shard) count) in
    omega (arith, first, parts, few_of config shard (least_due config index hearing shard), few_letters config index hearing (suc shard) count)

pub at_most_56 : (shards orderers : ℕ) → shards ≤ 8 → orderers ≤ 7 → shards * orderers ≤ 56
at_most_56 shards orderers s o =
    let all = mul-le shards orderers 8 7 s o in
    omega (arith, all)

-- the room made for a shard is that of what is told of it
pub room_for : (config : Shape) (index : ℕ) (hearing : Hearing) (shard : ℕ) (lengths : Lengths) → shard ≤ 7 → IsOf config index hearing
    → least_due config index hearing shard ≡ Some lengths → sizes_of (told_of config index hearing shard) ≡ replicate config.orderers (4 + 4 * config.replicas)
room_for config index hearing shard lengths few is due =
    ap (λ (l : Option Lengths). sizes_of (least_letters config shard l)) due
    ∙ sizes-to_orderers config (least_message shard lengths)
    ∙ ap (λ (n : ℕ). replicate config.orderers n) (least_length config shard lengths few (due_is_heard config index hearing shard lengths is due))

pub told_due : (config : Shape) (index : ℕ) (hearing : Hearing) (shard : ℕ) (lengths : Lengths) → least_due config index hearing shard ≡ Some lengths
    → told_of config index hearing shard ≡ to_orderers config (least_message shard lengths)
told_due config index hearing shard lengths due = ap (λ (l : Option Lengths). least_letters config shard l) due

pub leasts-next : (config : Shape) (index : ℕ) (hearing : Hearing) (count : ℕ)
    → leasts config index hearing 0 (count + 1) ≡ leasts config index hearing 0 count ++ told_of config index hearing count
leasts-next config index hearing count =
    let s : count + 1 ≡ suc count = omega arith in
    let z : 0 + count ≡ count = omega arith in
    ap (λ (n : ℕ). leasts config index hearing 0 n) s
    ∙ leasts-push config index hearing 0 count
    ∙ ap (λ (n : ℕ). leasts config index hearing 0 count ++ told_of config index hearing n) z

-- those of a shard and those behind it
pub leasts-left : (config : Shape) (index : ℕ) (hearing : Hearing) (shard all : ℕ) → shard < all
    → leasts config index hearing shard (all - shard) ≡ told_of config index hearing shard ++ leasts config index hearing (shard + 1) (all - (shard + 1))
leasts-left config index hearing shard all below =
    let n : all - shard ≡ suc (all - (shard + 1)) = omega (arith, below) in
    let s : suc shard ≡ shard + 1 = omega arith in
    ap (λ (k : ℕ). leasts config index hearing shard k) n
    ∙ leasts-first config index hearing shard (all - (shard + 1))
    ∙ ap (λ (k : ℕ). told_of config index hearing shard ++ leasts config index hearing k (all - (shard + 1))) s

pub to_nodes-next : (node count : ℕ) (message : Message) → to_nodes node (count + 1) message ≡ to_nodes node count message ++ letter (node + count) message ∷ []
to_nodes-next node count message =
    let s : count + 1 ≡ suc count = omega arith in
    ap (λ (n : ℕ). to_nodes node n message) s ∙ to_nodes-push node count message

-- room for letters of one size: that of the first and that of the others
pub one_size : (index all size : ℕ) (sizes : List ℕ) → index < all
    → replicate (all - index) size ++ sizes ≡ size ∷ (replicate (all - (index + 1)) size ++ sizes)
one_size index all size sizes below =
    let n : all - index ≡ suc (all - (index + 1)) = omega (arith, below) in
    ap (λ (k : ℕ). replicate k size ++ sizes) n

pub to_orderers_are : (config : Shape) (message : Message) → to_nodes (before_orderers config) config.orderers message ≡ to_orderers config message
unfolding to_orderers
to_orderers_are config message = refl

-- where all letters are sent
pub all_sent : (config : Shape) (message : Message) (index : ℕ) → config.orderers ≤ index → index ≤ config.orderers
    → to_nodes (before_orderers config) index message ≡ to_orderers config message
all_sent config message index least most =
    let e : index ≡ config.orderers = omega (arith, least, most) in
    ap (λ (n : ℕ). to_nodes (before_orderers config) n message) e ∙ to_orderers_are config message

pub none_left : (index all size : ℕ) (sizes : List ℕ) → all ≤ index → replicate (all - index) size ++ sizes ≡ sizes
none_left index all size sizes least =
    let e : all - index ≡ 0 = omega (arith, least) in
    ap (λ (n : ℕ). replicate n size ++ sizes) e

pub none_due : (config : Shape) (index : ℕ) (hearing : Hearing) (shard all : ℕ) → all ≤ shard → shard ≤ all
    → leasts config index hearing 0 shard ≡ leasts config index hearing 0 all
none_due config index hearing shard all least most =
    let e : shard ≡ all = omega (arith, least, most) in
    ap (λ (n : ℕ). leasts config index hearing 0 n) e

-- each letter is short
short_to : (node count : ℕ) (message : Message) → message_length message ≤ 24 → AllByRecursion IsShort (to_nodes node count message)
short_to node zero message short = tt
short_to node (suc count) message short = (short, short_to (suc node) count message short)

short_join : (letters others : List Sent) → AllByRecursion IsShort letters → AllByRecursion IsShort others → AllByRecursion IsShort (letters ++ others)
short_join [] others h k = k
short_join (sent ∷ letters) others h k = (h.0, short_join letters others h.1 k)

short_of : (config : Shape) (index : ℕ) (hearing : Hearing) (shard : ℕ) → shard ≤ 7 → config.replicas ≤ 5 → IsOf config index hearing
    → (due : Option Lengths) → least_due config index hearing shard ≡ due → AllByRecursion IsShort (least_letters config shard due)
unfolding to_orderers
short_of config index hearing shard few replicas is None e = tt
short_of config index hearing shard few replicas is (Some lengths) e =
    short_to (before_orderers config) config.orderers (least_message shard lengths)
    (omega (arith, replicas, least_length config shard lengths few (due_is_heard config index hearing shard lengths is e)))

pub short_letters : (config : Shape) (index : ℕ) (hearing : Hearing) (shard count : ℕ) → shard + count ≤ 8 → config.replicas ≤ 5 → IsOf config index hearing
    → AllByRecursion IsShort (leasts config index hearing shard count)
short_letters config index hearing shard zero few replicas is = tt
short_letters config index hearing shard (suc count) few replicas is =
    subst (λ (l : List Sent). AllByRecursion IsShort l) (sym (leasts-first config index hearing shard count))
    (short_join (told_of config index hearing shard) (leasts config index hearing (suc shard) count)
    (short_of config index hearing shard (omega (arith, few)) replicas is (least_due config index hearing shard) refl)
    (short_letters config index hearing (suc shard) count (omega (arith, few)) replicas is))
