-- Letters to many nodes, one after the other.
use Rattle.std.proofs.Common.{◌≡◌, ℕ, zero, suc, ◌+◌, ◌*◌, ◌≤◌, ◌<◌, Bool, true, false, cond, ◌||◌, nat_le, IsTrue, List, [], ◌∷◌, ◌++◌, map, length, replicate, take, drop, get_or, Option, Some, None, drop-cons, ⊎_elim, refl, ap, sym, subst, ◌∙◌, arith, length-append, append_assoc}
use Rattle.std.specs.List.{AllByRecursion, list_any}
use Rattle.std.proofs.lemmas.Bool.{cases_lt}
use Rattle.std.proofs.lemmas.List.{drop_all, length-drop, length-replicate, length-take, map-append}
use Rattle.event_letters.specs.Letters.{EventLetters, HasSpace, message_length}
use Rattle.history_frame.specs.declared.events.Sent.{Sent}
use Rattle.log_base.specs.ClusterShape.{Shape}
use Rattle.log_base.specs.Outgoing.{HasRoom, HasRooms, have_rooms}
use Rattle.log_base.proofs.Rooms.{HasRooms-first, HasRooms-shorter}
use Rattle.message_frame.specs.declared.messages.Message.{Message}
use Rattle.message_frame.specs.declared.messages.Message.TheVariants.{Prepare, Accept, Decide}
use Rattle.message_frame.specs.Spelling.{IsMessage}
use Rattle.message_frame.proofs.Sizes.{length-message_spelling, value_short}
use Rattle.node_model.specs.Machine.{posted}
use Rattle.node_model.specs.OrdererRow.{decide_letter, decide_letters}
use Rattle.node_model.specs.Messages.{decide_message}
use Rattle.record_frame.specs.declared.values.Value.TheVariants.{Noop}
use Rattle.std.specs.Prelude.{slice_get}
use Rattle.node_model.specs.Nodes.{letter, to_nodes}
use Rattle.record_frame.specs.declared.values.Value.{Value}
use Rattle.record_frame.specs.Values.{IsValue}
use Rattle.orderer_node.specs.Announcing.{AreSmall, IsSmall, announcement_limit, decides, message_of, report_limit}
use Rattle.orderer_node.specs.Fine.{IsFine}
use Rattle.orderer_node.specs.declared.announcing.Announcement.{Announcement}
use Rattle.orderer_node.specs.declared.announcing.Announcement.TheVariants.{Prepare as AskPromises, Accept as AskVotes, Decide as TellDecided}

-- one node more
pub to_nodes-push : (node count : ℕ) (message : Message) → to_nodes node count message ++ letter (node + count) message ∷ [] ≡ to_nodes node (suc count) message
to_nodes-push node zero message = let e : node + 0 ≡ node = omega arith in ap (λ (n : ℕ). letter n message ∷ []) e
to_nodes-push node (suc count) message =
    let e : node + suc count ≡ suc node + count = omega arith in
    ap (λ (n : ℕ). letter node message ∷ (to_nodes (suc node) count message ++ letter n message ∷ [])) e
    ∙ ap (λ (l : List Sent). letter node message ∷ l) (to_nodes-push (suc node) count message)

-- the letters are small where the message is
pub to_nodes-small : (node count : ℕ) (message : Message) → IsMessage message → message_length message ≤ report_limit → AreSmall count (to_nodes node count message)
to_nodes-small node zero message is short = record { few = omega arith; each = tt }
to_nodes-small node (suc count) message is short =
    let rest = to_nodes-small (suc node) count message is short in
    record { few = let k = rest.few in omega arith; each = (record { message = is; short = short }, rest.each) }

each-append : (xs ys : List Sent) → AllByRecursion IsSmall xs → AllByRecursion IsSmall ys → AllByRecursion IsSmall (xs ++ ys)
each-append [] ys h k = k
each-append (x ∷ xs) ys h k = (h.0, each-append xs ys h.1 k)

pub small-append : (m n : ℕ) (xs ys : List Sent) → AreSmall m xs → AreSmall n ys → AreSmall (m + n) (xs ++ ys)
small-append m n xs ys h k = record {
  few = omega (arith, length-append xs ys, h.few, k.few);
  each = each-append xs ys h.each k.each;
}

pub small-more : (m n : ℕ) (xs : List Sent) → m ≤ n → AreSmall m xs → AreSmall n xs
small-more m n xs le h = record { few = omega (arith, h.few); each = h.each }

-- an announcement is short
pub said_short : (what : Announcement) → IsMessage (message_of what) → message_length (message_of what) ≤ announcement_limit
said_short (AskPromises ballot slot) is = omega (arith, length-message_spelling (Prepare ballot slot) is)
said_short (AskVotes ballot slot value) is = omega (arith, length-message_spelling (Accept ballot slot value) is, value_short value is.2)
said_short (TellDecided slot value) is = omega (arith, length-message_spelling (Decide slot value) is, value_short value is.1)

-- a letter alone has its place where a longer one has, with others after it
alone : (rooms : List ℕ) (n : ℕ) → HasRoom n rooms → HasRooms (n ∷ []) rooms
alone [] n h = h
alone (room ∷ rooms) n h = next (nat_le n room) (list_any (nat_le n) rooms) (have_rooms (n ∷ []) rooms) h (alone rooms n)
  where
    next : (b any one : Bool) → IsTrue (b || any) → (IsTrue any → IsTrue one) → IsTrue (cond b true one)
    next true any one h f = refl
    next false any one h f = f h

pub space_one : (letters : EventLetters) (rooms : List ℕ) (n size : ℕ) (sizes : List ℕ) → n ≤ size → HasSpace letters rooms (size ∷ sizes) → HasSpace letters rooms (n ∷ [])
space_one letters rooms n size sizes less h = record {
  many = let k = h.many in omega arith;
  each = (let k = h.each.0 in omega arith, tt);
  spares = alone rooms n (HasRooms-first rooms n sizes (HasRooms-shorter rooms n size sizes less h.spares));
}

-- as many places as there are
pub space_of : (letters : EventLetters) (rooms : List ℕ) (size m n : ℕ) → m ≡ n → HasSpace letters rooms (replicate m size) → HasSpace letters rooms (replicate n size)
space_of letters rooms size m n e h = subst (λ (k : ℕ). HasSpace letters rooms (replicate k size)) e h

pub posted-push : (node count : ℕ) (message : Message) → map posted (to_nodes node count message) ++ posted (letter (node + count) message) ∷ [] ≡ map posted (to_nodes node (suc count) message)
posted-push node count message =
    sym (map-append posted (to_nodes node count message) (letter (node + count) message ∷ [])) ∙ ap (map posted) (to_nodes-push node count message)

-- the letters of an announcement are small
pub to_nodes-said : (node count : ℕ) (what : Announcement) → IsMessage (message_of what) → AreSmall count (to_nodes node count (message_of what))
to_nodes-said node count what is =
    let short = said_short what is in
    to_nodes-small node count (message_of what) is (omega (arith, short))

-- fewer places
choice : (b p q p' q' : Bool) → IsTrue (cond b p q) → (IsTrue p → IsTrue p') → (IsTrue q → IsTrue q') → IsTrue (cond b p' q')
choice true p q p' q' h f g = f h
choice false p q p' q' h f g = g h

fewer_rooms : (size : ℕ) (rooms : List ℕ) (m n : ℕ) → m ≤ n → HasRooms (replicate n size) rooms → HasRooms (replicate m size) rooms
fewer_rooms size [] zero n le h = refl
fewer_rooms size (room ∷ rooms) zero n le h = refl
fewer_rooms size rooms (suc m) zero le h = absurd (omega arith)
fewer_rooms size [] (suc m) (suc n) le h = h
fewer_rooms size (room ∷ rooms) (suc m) (suc n) le h =
    choice (nat_le size room) (have_rooms (replicate n size) rooms) (have_rooms (size ∷ replicate n size) rooms) (have_rooms (replicate m size) rooms) (have_rooms (size ∷ replicate m size) rooms)
    h (fewer_rooms size rooms m n (omega arith)) (fewer_rooms size rooms (suc m) (suc n) le)

fewer_each : (limit size m n : ℕ) → m ≤ n → AllByRecursion (λ s. s ≤ limit) (replicate n size) → AllByRecursion (λ s. s ≤ limit) (replicate m size)
fewer_each limit size zero n le h = tt
fewer_each limit size (suc m) zero le h = absurd (omega arith)
fewer_each limit size (suc m) (suc n) le h = (h.0, fewer_each limit size m n (omega arith) h.1)

pub space_less : (letters : EventLetters) (rooms : List ℕ) (size m n : ℕ) → m ≤ n → HasSpace letters rooms (replicate n size) → HasSpace letters rooms (replicate m size)
space_less letters rooms size m n le h = record {
  many = let k = h.many in omega (arith, length-replicate m size, length-replicate n size);
  each = fewer_each letters.longest size m n le h.each;
  spares = fewer_rooms size rooms m n le h.spares;
}

-- places for a decision and for what comes next serve the decision
pub learners_space : (letters : EventLetters) (rooms : List ℕ) (found config : Shape) → found ≡ config
    → HasSpace letters rooms (replicate (config.replicas * config.shards + config.orderers + config.orderers) 143)
    → HasSpace letters rooms (replicate (found.replicas * found.shards + found.orderers) 143)
learners_space letters rooms found config same h =
    subst (λ (s : Shape). HasSpace letters rooms (replicate (s.replicas * s.shards + s.orderers) 143)) (sym same)
    (space_less letters rooms 143 (config.replicas * config.shards + config.orderers) (config.replicas * config.shards + config.orderers + config.orderers) (omega arith) h)

-- ---- decided values, told to a node

decide_short : (slot : ℕ) (value : Value) → IsMessage (decide_message slot value) → message_length (decide_message slot value) ≤ 143
decide_short slot value is = omega (arith, length-message_spelling (decide_message slot value) is, value_short value is.1)

pub decide_space : (letters : EventLetters) (rooms : List ℕ) (slot : ℕ) (value : Value) (n : ℕ) → IsMessage (decide_message slot value) → 0 < n
    → HasSpace letters rooms (replicate n 143) → HasSpace letters rooms (message_length (decide_message slot value) ∷ [])
decide_space letters rooms slot value zero is some h = absurd (omega arith)
decide_space letters rooms slot value (suc n) is some h = space_one letters rooms (message_length (decide_message slot value)) 143 (replicate n 143) (decide_short slot value is) h

pub decide_rest : (old new : EventLetters) (before after : List ℕ) (slot : ℕ) (value : Value) (m n : ℕ) → IsMessage (decide_message slot value) → n ≡ suc m
    → ((size : ℕ) (sizes : List ℕ) → message_length (decide_message slot value) ≤ size → HasSpace old before (size ∷ sizes) → HasSpace new after sizes)
    → HasSpace old before (replicate n 143) → HasSpace new after (replicate m 143)
decide_rest old new before after slot value m n is e sends h =
    sends 143 (replicate m 143) (decide_short slot value is) (space_of old before 143 n (suc m) e h)

decides-suc : (node slot : ℕ) (values : List Value) (i : ℕ) (d : Value) → i < length values
    → decides node slot (take (suc i) values) ≡ decides node slot (take i values) ++ letter node (decide_message (slot + i) (get_or values i d)) ∷ []
decides-suc node slot [] i d h = absurd (omega arith)
decides-suc node slot (value ∷ values) zero d h =
    let e : slot ≡ slot + 0 = omega arith in ap (λ (n : ℕ). letter node (decide_message n value) ∷ []) e
decides-suc node slot (value ∷ values) (suc i) d h =
    let e : suc slot + i ≡ slot + suc i = omega arith in
    let below : i < length values = omega arith in
    ap (λ (l : List Sent). letter node (decide_message slot value) ∷ l) (decides-suc node (suc slot) values i d below)
    ∙ ap (λ (n : ℕ). letter node (decide_message slot value) ∷ (decides node (suc slot) (take i values) ++ letter node (decide_message n (get_or values i d)) ∷ [])) e

-- one value more
pub decides-push : (node slot at : ℕ) (values : List Value) (i : ℕ) (d : Value) (sent before : List Sent) → i < length values → at ≡ slot + i
    → sent ≡ before ++ decides node slot (take i values)
    → sent ++ letter node (decide_message at (get_or values i d)) ∷ [] ≡ before ++ decides node slot (take (i + 1) values)
decides-push node slot at values i d sent before h e is =
    let next : suc i ≡ i + 1 = omega arith in
    ap (λ (l : List Sent). l ++ letter node (decide_message at (get_or values i d)) ∷ []) is
    ∙ append_assoc before (decides node slot (take i values)) (letter node (decide_message at (get_or values i d)) ∷ [])
    ∙ ap (λ (n : ℕ). before ++ (decides node slot (take i values) ++ letter node (decide_message n (get_or values i d)) ∷ [])) e
    ∙ ap (λ (l : List Sent). before ++ l) (sym (decides-suc node slot values i d h))
    ∙ ap (λ (n : ℕ). before ++ decides node slot (take n values)) next

pub decides_posted-push : (node slot at : ℕ) (values : List Value) (i : ℕ) (d : Value) (out before : List (ℕ × List ℕ)) → i < length values → at ≡ slot + i
    → out ≡ before ++ map posted (decides node slot (take i values))
    → out ++ posted (letter node (decide_message at (get_or values i d))) ∷ [] ≡ before ++ map posted (decides node slot (take (i + 1) values))
decides_posted-push node slot at values i d out before h e is =
    let next : suc i ≡ i + 1 = omega arith in
    let last : List Sent = letter node (decide_message at (get_or values i d)) ∷ [] in
    ap (λ (l : List (ℕ × List ℕ)). l ++ posted (letter node (decide_message at (get_or values i d))) ∷ []) is
    ∙ append_assoc before (map posted (decides node slot (take i values))) (posted (letter node (decide_message at (get_or values i d))) ∷ [])
    ∙ ap (λ (l : List (ℕ × List ℕ)). before ++ l) (sym (map-append posted (decides node slot (take i values)) last))
    ∙ ap (λ (n : ℕ). before ++ map posted (decides node slot (take i values) ++ letter node (decide_message n (get_or values i d)) ∷ [])) e
    ∙ ap (λ (l : List Sent). before ++ map posted l) (sym (decides-suc node slot values i d h))
    ∙ ap (λ (n : ℕ). before ++ map posted (decides node slot (take n values))) next

pub decides-small : (node slot : ℕ) (values : List Value) → AllByRecursion IsValue values → slot + length values ≤ 16384 → AreSmall (length values) (decides node slot values)
decides-small node slot [] is few = record { few = omega arith; each = tt }
decides-small node slot (value ∷ values) is few =
    let message : IsMessage (decide_message slot value) = (omega arith, is.0) in
    let short = decide_short slot value message in
    let rest = decides-small node (suc slot) values is.1 (omega arith) in
    record { few = let k = rest.few in omega arith; each = (record { message = message; short = omega (arith, short) }, rest.each) }

pub each_at : (P : Value → Type 0) (values : List Value) (i : ℕ) (d : Value) → AllByRecursion P values → i < length values → P (get_or values i d)
each_at P [] i d h below = absurd (omega arith)
each_at P (value ∷ values) zero d h below = h.0
each_at P (value ∷ values) (suc i) d h below = each_at P values i d h.1 (omega arith)

get-past : (known : List Value) (slot : ℕ) → length known ≤ slot → slice_get known slot ≡ None
get-past [] slot h = refl
get-past (value ∷ known) zero h = absurd (omega arith)
get-past (value ∷ known) (suc slot) h = get-past known slot (omega arith)

get-within : (known : List Value) (slot : ℕ) (d : Value) → slot < length known → slice_get known slot ≡ Some (get_or known slot d)
get-within [] slot d h = absurd (omega arith)
get-within (value ∷ known) zero d h = refl
get-within (value ∷ known) (suc slot) d h = get-within known slot d (omega arith)

-- The letters that are told for a node's asking are those of the known values from its slot on.
nothing_given : (node slot count : ℕ) (known : List Value) → length known ≤ slot → decide_letters node known slot count ≡ []
nothing_given node slot zero known past = refl
nothing_given node slot (suc count) known past =
    let none : slice_get known slot ≡ None = get-past known slot past in
    ap (λ (o : Option Value). decide_letter node slot o ++ decide_letters node known (suc slot) count) none ∙ nothing_given node (suc slot) count known (omega arith)

pub decides-asked : (node slot count : ℕ) (known : List Value) → decides node slot (take count (drop slot known)) ≡ decide_letters node known slot count
decides-asked node slot zero known = refl
decides-asked node slot (suc count) known =
    ⊎_elim
    (λ (h : slot < length known).
    let more = decides-asked node (suc slot) count known in
    let first : drop slot known ≡ get_or known slot Noop ∷ drop (suc slot) known = drop-cons known slot Noop h in
    let there : slice_get known slot ≡ Some (get_or known slot Noop) = get-within known slot Noop h in
    ap (λ (l : List Value). decides node slot (take (suc count) l)) first
    ∙ ap (λ (l : List Sent). letter node (decide_message slot (get_or known slot Noop)) ∷ l) more
    ∙ ap (λ (o : Option Value). decide_letter node slot o ++ decide_letters node known (suc slot) count) (sym there))
    (λ (h : length known ≤ slot).
    ap (λ (l : List Value). decides node slot (take (suc count) l)) (drop_all slot known h) ∙ sym (nothing_given node slot (suc count) known h))
    (cases_lt slot (length known))

take_values : (config : Shape) (count : ℕ) (values : List Value) → AllByRecursion (IsFine config) values → AllByRecursion IsValue (take count values)
take_values config zero values h = tt
take_values config (suc count) [] h = tt
take_values config (suc count) (value ∷ values) h = (h.0.spelled, take_values config count values h.1)

drop_fine : (config : Shape) (from : ℕ) (values : List Value) → AllByRecursion (IsFine config) values → AllByRecursion (IsFine config) (drop from values)
drop_fine config zero values h = h
drop_fine config (suc from) [] h = tt
drop_fine config (suc from) (value ∷ values) h = drop_fine config from values h.1

pub given_values : (config : Shape) (from count : ℕ) (known : List Value) → AllByRecursion (IsFine config) known → AllByRecursion IsValue (take count (drop from known))
given_values config from count known h = take_values config count (drop from known) (drop_fine config from known h)

pub given_count : (from count : ℕ) (known : List Value) → length (take count (drop from known)) ≤ count
given_count from count known = omega (arith, length-take count (drop from known))

pub given_slots : (from count : ℕ) (known : List Value) → from ≤ 16384 → length known ≤ 16384 → from + length (take count (drop from known)) ≤ 16384
given_slots from count known within few = omega (arith, length-take count (drop from known), length-drop from known)
