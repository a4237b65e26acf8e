-- Each payload of an orderer's list, and the one in flight, has a spelling, in every legal history.
use Rattle.std.proofs.Common.{◌≡◌, ℕ, suc, nat_lt, ◌/◌, ◌%◌, ◌<◌, ◌≤◌, Bool, true, false, cond, List, [], ◌∷◌, ◌++◌, map, Option, Some, None, slice_get, refl, sym, ap, subst, arith, ◌∙◌}
use Rattle.std.specs.List.{AllByRecursion}
use Rattle.history_frame.specs.declared.events.Event.{Event}
use Rattle.log_base.specs.ClusterShape.{Shape}
use Rattle.node_table.specs.declared.role.Role.{Role}
use Rattle.node_table.specs.declared.role.Role.TheVariants.{Orderer}
use Rattle.node_table.specs.Numbering.{disk_of, orderer_node, role_at}
use Rattle.paxos_model.specs.Payloads.{IsPayload, payload_in, payload_spelling, payloads_in}
use Rattle.paxos_model.specs.Votes.{Payload}
use Rattle.paxos_model.proofs.Payloads.{payload_in-spelling}
use Rattle.node_model.specs.Fits.{HasRange}
use Rattle.node_model.specs.Histories.{after_event, after_events, events_at, is_at, orderer_after}
use Rattle.node_model.specs.Legal.{AreNext, IsLegal}
use Rattle.node_model.specs.Marks.{node_or}
use Rattle.node_model.specs.NodeState.{KeptLists, orderers_kept}
use Rattle.node_model.specs.OrdererNode.{Node, Outcome, at_first}
use Rattle.node_model.specs.OrdererRow.{orderer_role, outcome, row}
use Rattle.node_model.specs.Sound.{IsSound, IsSoundAs, IsSoundAt, IsBefore}
use Rattle.node_model.proofs.Keeping.{Stores, still_stores}
use Rattle.node_model.proofs.Letters.{all_append}
use Rattle.node_model.proofs.Orderers.{orderer_role_at}
use Rattle.node_model.proofs.Puts.{row_range}
use Rattle.node_model.proofs.Turning.{for_some_at, turned}
use Rattle.std.proofs.lemmas.Bool.{cond-true, lt-ltb}

-- the list of payloads, and the one more
abbrev pub AreSpelled : List Payload → Type 0
AreSpelled list = AllByRecursion IsPayload list

one_more : (list : List Payload) (payload : Payload) → AreSpelled list → IsPayload payload → AreSpelled (list ++ payload ∷ [])
one_more list payload r q = all_append IsPayload list (payload ∷ []) r (q, tt)

-- an orderer whose payloads have a spelling
abbrev pub Spells : Node → Type 0
Spells node = Stores AreSpelled IsPayload node

module _ (config : Shape) (some : 1 ≤ config.orderers) (i : ℕ) where
  event_spells : (node : Node) (e : Event) → Spells node → HasRange config e.happened.input → Spells (after_event config i node e)
  unfolding outcome
  event_spells node e s h = at (outcome config i node e.happened.input e.happened.mark) refl
    where
      at : (o : Option Outcome) → outcome config i node e.happened.input e.happened.mark ≡ o → Spells (node_or node o)
      at None is = s
      at (Some made) is =
          still_stores (orderer_role config i) AreSpelled IsPayload one_more node e.happened.input s
          (λ memory change r. for_some_at _ (row config i node.durable memory e.happened.input) change (row_range config i node.durable memory some e.happened.input h) r)
          e.happened.mark made (turned (orderer_role config i) node e.happened.input e.happened.mark made is)

  events_spell : (node : Node) (es : List Event) → Spells node → AllByRecursion (λ (e : Event). HasRange config e.happened.input) es → Spells (after_events config i node es)
  events_spell node [] s h = s
  events_spell node (e ∷ es) s h = events_spell (after_event config i node e) es (event_spells node e s h.0) h.1

-- the inputs of a node have numbers in range
pub ranges_at : (config : Shape) (run : ℕ) (kept : KeptLists) (before events : List Event) (n : ℕ) → AreNext config run kept before events
    → AllByRecursion (λ (e : Event). HasRange config e.happened.input) (events_at n events)
ranges_at config run kept before [] n h = tt
ranges_at config run kept before (e ∷ events) n h = at (is_at n e) (ranges_at config run kept (before ++ e ∷ []) events n h.1)
  where
    at : (b : Bool) → AllByRecursion (λ (e : Event). HasRange config e.happened.input) (events_at n events)
        → AllByRecursion (λ (e : Event). HasRange config e.happened.input) (cond b (e ∷ events_at n events) (events_at n events))
    at true later = (h.0.allowed.range, later)
    at false later = later

-- a disk belongs to its node and its segment
pub disk_node : (node segment : ℕ) → segment < 8 → disk_of node segment / 8 ≡ node
disk_node node segment below = omega arith

pub disk_segment : (node segment : ℕ) → segment < 8 → disk_of node segment % 8 ≡ segment
disk_segment node segment below = omega arith

-- the payloads that an orderer's disk kept
module _ (config : Shape) (IsNumber : ℕ → Type 0) (kept : KeptLists) where
  sound_at : (node segment offset : ℕ) (payload : List ℕ) (role : Role) → segment < 8 → role_at config node ≡ role
      → IsSoundAt config IsNumber kept (disk_of node segment) offset payload → IsSoundAs config IsNumber kept role segment offset payload
  sound_at node segment offset payload role below is h =
      subst (λ (x : Role × ℕ). IsSoundAs config IsNumber kept x.0 x.1 offset payload)
      (λ j. ((ap (λ n. role_at config n) (disk_node node segment below) ∙ is) j, disk_segment node segment below j)) h.1

all_read : (payloads : List (List ℕ)) → ((offset : ℕ) (payload : List ℕ) → slice_get payloads offset ≡ Some payload → IsPayload (payload_in payload))
    → AreSpelled (payloads_in payloads)
all_read [] h = tt
all_read (payload ∷ payloads) h = (h 0 payload refl, all_read payloads (λ offset p e. h (suc offset) p e))

pub kept_spelled : (config : Shape) (run : ℕ) (kept : KeptLists) (i : ℕ) → i < config.orderers → IsSound config run kept → AreSpelled (orderers_kept config kept i)
kept_spelled config run kept i inside sound =
    all_read (kept (disk_of (orderer_node config i) 0))
    (λ offset payload e. (sound_at config (IsBefore run) kept (orderer_node config i) 0 offset payload (Orderer i) (omega arith) (orderer_role_at config i inside)
    (sound (disk_of (orderer_node config i) 0) offset payload e)).1.spelled.payload)

module _ (config : Shape) (run : ℕ) (kept : KeptLists) (events : List Event) (h : IsLegal config run kept events) (i : ℕ) (inside : i < config.orderers) where
  pub orderer_spells : Spells (orderer_after config (orderers_kept config kept) events i)
  orderer_spells =
      subst (λ node. Spells node)
      (sym (cond-true (nat_lt i config.orderers) (after_events config i (at_first (orderers_kept config kept i)) (events_at (orderer_node config i) events)) (at_first []) (lt-ltb i config.orderers inside)))
      (events_spell config (omega arith) i (at_first (orderers_kept config kept i)) (events_at (orderer_node config i) events)
      (record { list = kept_spelled config run kept i inside h.sound; flight = tt })
      (ranges_at config run kept [] events (orderer_node config i) h.follow))

-- what spellings of payloads are read as
pub read_back : (list : List Payload) → AreSpelled list → payloads_in (map payload_spelling list) ≡ list
read_back [] h = refl
read_back (payload ∷ list) h = ap (λ (p : Payload). p ∷ payloads_in (map payload_spelling list)) (payload_in-spelling payload h.0) ∙ ap (λ (l : List Payload). payload ∷ l) (read_back list h.1)
