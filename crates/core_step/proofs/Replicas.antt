-- What the journals of a replica tell of its marks.
use Rattle.std.proofs.Common.{◌≡◌, ◌≢◌, ℕ, zero, suc, ◌∙◌, List, [], ◌∷◌, map, Option, Some, None, refl, sym, ap, subst}
use Rattle.std.specs.Prelude.{IfSome, IsTrue}
use Rattle.std.specs.Option.{option_map}
use Rattle.history_frame.specs.declared.inputs.Input.{Input}
use Rattle.history_frame.specs.declared.inputs.Input.TheVariants.{Restart}
use Rattle.history_frame.specs.declared.inputs.Mark.{Mark}
use Rattle.history_frame.specs.declared.inputs.Mark.TheVariants.{Done, StayedDown}
use Rattle.node_model.specs.Marks.{Running, Stopped}
use Rattle.node_model.specs.NodeState.{Storing}
use Rattle.node_model.specs.StorageNode.{Put, StorageChange, StorageMode, StorageOutcome}
use Rattle.node_model.specs.StorageRow.{outcome, row, storage_role}
use Rattle.segment_journal.specs.Journalled.{Turns}
use Rattle.segment_journal.specs.declared.journal.Installed.{Installed}
use Rattle.shard_replica.specs.declared.lists.LastReload.{LastReload}
use Rattle.shard_replica.specs.Lists.{Medium, but_room, medium_at}
use Rattle.storage_node.specs.Opening.{IsOpening, RoseIn, mark_after, opening_mark, told_by}
use Rattle.storage_node.specs.StorageState.{StorageState, config_of, member_in, node_of}
use Rattle.storage_node.specs.Turning.{IsTold, put_at, put_by as storage_put_by, put_in as storage_put_in}
use Rattle.core_step.specs.Disks.{IsStarting, put_by, put_in, put_mark, put_of, segment_put, told_mark}
use Rattle.core_step.specs.Standing.{role_in}
use Rattle.core_step.proofs.Marks.{made_quiet, some_same}

-- the put of a replica, in the words of any role
by_same : (change : Option StorageChange) → storage_put_by change ≡ put_by change
by_same None = refl
by_same (Some change) = refl

put_same : (node : StorageState) (mode : StorageMode) (input : Input)
    → storage_put_in node input mode ≡ put_of (storage_role (config_of node) (member_in node)) (node_of node) mode input
put_same node (Stopped flight known) input = refl
put_same node (Running memory) input = by_same (row (config_of node) (member_in node) (node_of node).durable memory input)

-- the segment of a put
abbrev segment_of : Put → ℕ
segment_of put = put.segment

told_so : (mark : Mark) (told : Mark) (turns : Option Turns) → IfSome turns (λ (turn : Turns). mark ≡ put_mark turn) → option_map put_mark turns ≡ Some told → mark ≡ told
told_so mark told None is e = absurd (cc)
told_so mark told (Some turn) is e = is ∙ some_same (put_mark turn) told e

pub replica_told : (node : StorageState) (input : Input) (mark told : Mark) (made : StorageOutcome)
    → outcome (config_of node) (member_in node) (node_of node) input mark ≡ Some made → IsTold node mark (put_at node input) → input ≢ Restart
    → told_mark node.replica.media (segment_put (config_of node) (role_in node) (Storing (node_of node)) input) ≡ Some told → mark ≡ told
unfolding outcome
replica_told node input mark told made rule is other tells =
    next (put_in (storage_role (config_of node) (member_in node)) (node_of node) input) refl
    (subst (λ (o : Option Put). IsTold node mark o) (put_same node (node_of node).mode input) is) tells
  where
    next : (put : Option Put) → put_in (storage_role (config_of node) (member_in node)) (node_of node) input ≡ put → IsTold node mark put
        → told_mark node.replica.media (option_map segment_of put) ≡ Some told → mark ≡ told
    next None none is tells = made_quiet (storage_role (config_of node) (member_in node)) (node_of node) input mark made none other rule ∙ some_same Done told tells
    next (Some put) some is tells = told_so mark told (medium_at node.replica.media put.segment).turns is tells

-- how a replica starts
pub replica_starts : (last : Option LastReload) (old new : List Medium) → IsOpening last old new → IsStarting old new (Some (mark_after last new))
replica_starts last old new opening = record {
  came = refl;
  stayed = λ stayed keeps. opening.stayed (some_same (mark_after last new) StayedDown stayed) keeps;
  told = λ answer told. ap (λ (m : Mark). Some m) (opening.told answer told);
}

-- making room leaves what the journals tell
room_at : (old new : List Medium) → map but_room new ≡ map but_room old → (k : ℕ) → but_room (medium_at new k) ≡ but_room (medium_at old k)
room_at [] [] e k = refl
room_at [] (n ∷ new) e k = absurd (cc)
room_at (m ∷ old) [] e k = absurd (cc)
room_at (m ∷ old) (n ∷ new) e zero = cc
room_at (m ∷ old) (n ∷ new) e (suc k) = room_at old new (cc) k

pub turns_stay : (old new : List Medium) → map but_room new ≡ map but_room old → (k : ℕ) → (medium_at new k).turns ≡ (medium_at old k).turns
turns_stay old new same k = ap (λ (m : Medium). m.turns) (room_at old new same k)
