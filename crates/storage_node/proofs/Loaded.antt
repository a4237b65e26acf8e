-- What the tests begin with: journals without payloads, and a cut of lists that are held.
use Rattle.std.proofs.Common.{◌≡◌, ℕ, zero, suc, ◌+◌, ◌*◌, ◌<◌, ◌≤◌, ◌∙◌, List, [], ◌∷◌, length, replicate, Some, refl, sym, ap, subst, arith, inl}
use Rattle.std.specs.Prelude.{slice_index}
use Rattle.std.specs.List.{All}
use Rattle.std.proofs.lemmas.List.Elements.{All-head, All-tail}
use Rattle.history_frame.specs.declared.inputs.Input.TheVariants.{Deliver}
use Rattle.log_base.specs.ClusterShape.{Shape}
use Rattle.log_model.specs.Lookup.{segment_index}
use Rattle.log_model.specs.Storage.{Member, list_in}
use Rattle.message_frame.specs.declared.messages.Message.TheVariants.{Decide}
use Rattle.node_model.specs.Fits.{Fits, IsHeldIn}
use Rattle.node_model.specs.NodeState.{Storing}
use Rattle.node_table.specs.declared.role.Role.TheVariants.{Storage}
use Rattle.record_frame.specs.declared.entries.Entry.{Entry}
use Rattle.record_frame.specs.declared.values.Value.TheVariants.{Cut}
use Rattle.segment_journal.specs.Journalled.{Journalled, loaded}
use Rattle.shard_replica.specs.Lists.{segment_of, segments_of}
use Rattle.storage_node.specs.StorageState.{HasOneFlight, StorageState, config_of, lists_in, member_in, node_of}
use Rattle.storage_node.specs.Tested.{HoldsTwo, three}

-- journals that were read have nothing in flight
pub loaded-flights : {X : Type 0} (state : X → Journalled) (journals : List X) → All (λ (j : X). state j ≡ loaded []) journals → HasOneFlight (segments_of state journals)
loaded-flights {X} state [] all = tt
loaded-flights {X} state (j ∷ journals) all =
    inl (
      ap (λ (s : Journalled). (segment_of s).flight) (All-head (λ (k : X). state k ≡ loaded []) j journals all),
      loaded-flights state journals (All-tail (λ (k : X). state k ≡ loaded []) j journals all),
    )

-- the cut is held
pub three-held : (config : Shape) (member : Member) (lists : List (List Entry)) → member.replicas ≡ config.replicas → HoldsTwo config member lists 1 1
    → IsHeldIn member lists (Cut three)
three-held config member lists same holds = λ segment lt. next segment (omega (arith, lt, same, holds.replicas))
  where
    index : (segment : ℕ) → segment_index member.replicas member.shard segment ≡ segment
    index segment = let none : 0 * member.replicas + segment ≡ segment = omega arith in ap (λ (s : ℕ). segment_index member.replicas s segment) holds.shard ∙ none

    next : (segment : ℕ) → segment < 2 → slice_index three.length (segment_index member.replicas member.shard segment) ≤ length (list_in lists segment)
    next zero lt = subst (λ (k : ℕ). slice_index three.length k ≤ length (list_in lists 0)) (sym (index 0)) holds.first_held
    next (suc zero) lt = subst (λ (k : ℕ). slice_index three.length k ≤ length (list_in lists 1)) (sym (index 1)) holds.second_held
    next (suc (suc k)) lt = absurd (omega arith)

-- and it is in range
zeros : (n k : ℕ) → slice_index (replicate n 0) k ≡ 0
zeros zero k = refl
zeros (suc n) zero = refl
zeros (suc n) (suc k) = zeros n k

three-small : (k : ℕ) → k < 4 → slice_index three.length k ≤ 16384
three-small zero lt = omega arith
three-small (suc zero) lt = omega arith
three-small (suc (suc zero)) lt = omega arith
three-small (suc (suc (suc k))) lt = let none = zeros 29 k in omega (arith, none)

three-rest : (k : ℕ) → 4 ≤ k → slice_index three.length k ≡ 0
three-rest zero le = absurd (omega arith)
three-rest (suc zero) le = absurd (omega arith)
three-rest (suc (suc zero)) le = absurd (omega arith)
three-rest (suc (suc (suc k))) le = zeros 29 k

pub three-fits : (node : StorageState) (slot : ℕ) → slot ≤ 16383 → HoldsTwo (config_of node) (member_in node) (lists_in node) 1 1
    → Fits (config_of node) (Storage (record { 0 = node.replica.state.shard }) (record { 0 = node.replica.state.own })) (Storing (node_of node))
    (Deliver 0 0 (Some (Decide (record { 0 = slot }) (Cut three))))
three-fits node slot le holds = record {
  allowed = record {
    named = refl;
    range = ((le, record { some = omega arith; count = omega arith; cells = refl; small = three-small; rest = three-rest }), sym sizes);
  };
  held = three-held (config_of node) (member_in node) (lists_in node) refl holds;
}
  where
    sizes : (config_of node).replicas * (config_of node).shards ≡ 4
    sizes = ap (λ (r : ℕ). r * (config_of node).shards) holds.replicas ∙ ap (λ (s : ℕ). 2 * s) holds.shards
