-- What the journal of an orderer tells of its marks.
use Rattle.std.proofs.Common.{◌≡◌, ◌≢◌, ℕ, zero, suc, ◌≤◌, ◌∙◌, Bool, true, false, List, [], ◌∷◌, Option, Some, None, refl, sym, ap, subst, arith}
use Rattle.std.specs.Prelude.{IfSome, IsSome, IsTrue}
use Rattle.std.specs.Option.{option_map}
use Rattle.history_frame.specs.declared.inputs.Input.{Input}
use Rattle.history_frame.specs.declared.inputs.Input.TheVariants.{Restart}
use Rattle.history_frame.specs.declared.inputs.Mark.{Mark}
use Rattle.history_frame.specs.declared.inputs.Mark.TheVariants.{Done, Halted, StayedDown}
use Rattle.log_base.specs.ClusterShape.{Shape}
use Rattle.log_base.specs.Outside.{Rose}
use Rattle.node_model.specs.Marks.{Running, Stopped, made_by}
use Rattle.node_model.specs.NodeState.{Ordering}
use Rattle.node_model.specs.OrdererNode.{Change, Mode, Node, Outcome}
use Rattle.node_model.specs.OrdererRow.{orderer_role, outcome, row}
use Rattle.node_table.specs.declared.role.Role.TheVariants.{Orderer as OrdererRole}
use Rattle.paxos_model.specs.Votes.{Payload}
use Rattle.segment_journal.specs.Journalled.{Journalled, Turns}
use Rattle.segment_journal.specs.declared.journal.Installed.{Installed}
use Rattle.segment_journal.specs.declared.journal.Installed.TheVariants.{Failed, OneMore, Same}
use Rattle.shard_replica.specs.Lists.{Medium, medium_at, medium_of}
use Rattle.orderer_node.specs.Ordering.{IsReadBy, MarkFollows, mark_by, opening_mark as orderer_opening, put_at, put_in as orderer_put_in}
use Rattle.storage_node.specs.Counting.{CountsOn}
use Rattle.storage_node.specs.Opening.{RoseIn, joined, opening_mark, told_by}
use Rattle.core_step.specs.Disks.{IsStarting, put_by, put_in, put_mark, put_of, segment_put, told_mark}
use Rattle.core_step.proofs.Marks.{made_quiet, made_stays, some_same}

-- one journal: no count falls
pub counts_one : (old new : Medium) → old.faults ≤ new.faults → new.keeps_synced ≡ old.keeps_synced → CountsOn (old ∷ []) (new ∷ [])
counts_one old new later keeps = record { later = faults; keeps_synced = keeps_on }
  where
    faults : (k : ℕ) → (medium_at (old ∷ []) k).faults ≤ (medium_at (new ∷ []) k).faults
    faults zero = later
    faults (suc k) = omega arith

    keeps_on : (k : ℕ) → (medium_at (new ∷ []) k).keeps_synced ≡ (medium_at (old ∷ []) k).keeps_synced
    keeps_on zero = keeps
    keeps_on (suc k) = refl

pub turns_one : (old new : Medium) → new.turns ≡ old.turns → (k : ℕ) → (medium_at (new ∷ []) k).turns ≡ (medium_at (old ∷ []) k).turns
turns_one old new same zero = same
turns_one old new same (suc k) = refl

-- the put of an orderer, in the words of any role
by_same : (change : Option Change) → orderer_put_in change ≡ put_by change
by_same None = refl
by_same (Some change) = refl

put_same : (config : Shape) (index : ℕ) (node : Node) (mode : Mode) (input : Input) → put_at config index node mode input ≡ put_of (orderer_role config index) node mode input
put_same config index node (Stopped flight known) input = refl
put_same config index node (Running orderer) input = by_same (row config index node.durable orderer input)

abbrev segment_of : Payload → ℕ
segment_of put = 0

follows : (turns : Option Turns) (put : Payload) (mark told : Mark) → MarkFollows turns (Some put) mark → option_map put_mark turns ≡ Some told → mark ≡ told
follows None put mark told is e = absurd (cc)
follows (Some turn) put mark told is e = is ∙ some_same (put_mark turn) told e

pub orderer_told : (config : Shape) (index : ℕ) (node : Node) (medium : Medium) (input : Input) (mark told : Mark) (made : Outcome)
    → outcome config index node input mark ≡ Some made → input ≢ Restart → MarkFollows medium.turns (put_at config index node node.mode input) mark
    → told_mark (medium ∷ []) (segment_put config (OrdererRole index) (Ordering node) input) ≡ Some told → mark ≡ told
unfolding outcome
orderer_told config index node medium input mark told made rule other is tells =
    next (put_in (orderer_role config index) node input) refl (subst (λ (o : Option Payload). MarkFollows medium.turns o mark) (put_same config index node node.mode input) is) tells
  where
    next : (put : Option Payload) → put_in (orderer_role config index) node input ≡ put → MarkFollows medium.turns put mark
        → told_mark (medium ∷ []) (option_map segment_of put) ≡ Some told → mark ≡ told
    next None none is tells = made_quiet (orderer_role config index) node input mark made none other rule ∙ some_same Done told tells
    next (Some put) some is tells = follows medium.turns put mark told is tells

-- only a start leaves an orderer down that is not stopped
pub orderer_stays : (config : Shape) (index : ℕ) (node : Node) (input : Input) (mark : Mark) (made : Outcome) → outcome config index node input mark ≡ Some made
    → mark ≡ StayedDown → input ≡ Restart
unfolding outcome
orderer_stays config index node input mark made rule stayed =
    made_stays (orderer_role config index) node input made (subst (λ (m : Mark). made_by (orderer_role config index) node input m ≡ Some made) stayed rule)

-- what one journal tells is what it comes to
same_opening : (came : Installed) → orderer_opening came ≡ opening_mark (joined came Same)
same_opening Failed = refl
same_opening OneMore = refl
same_opening Same = refl

stays_down : (came : Installed) → orderer_opening came ≡ StayedDown → came ≡ Failed
stays_down Failed e = refl
stays_down OneMore e = absurd (cc)
stays_down Same e = absurd (cc)

is_there : (reloaded : Option Installed) → IsSome reloaded → IsSome (option_map orderer_opening reloaded)
is_there None some = some
is_there (Some answer) some = refl

failed_so : (reloaded : Option Installed) → option_map orderer_opening reloaded ≡ Some StayedDown → reloaded ≡ Some Failed
failed_so None e = absurd (cc)
failed_so (Some came) e = ap (λ (i : Installed). Some i) (stays_down came (some_same (orderer_opening came) StayedDown e))

told_one : (turns : Option Turns) (reloaded : Option Installed) (medium : Medium) → medium.turns ≡ turns → IfSome turns (λ turn. reloaded ≡ Some turn.reload)
    → (answer : Installed) → told_by (medium ∷ []) ≡ Some answer → option_map orderer_opening reloaded ≡ Some (opening_mark answer)
told_one None reloaded medium none is answer told = absurd (cc)
told_one (Some turn) reloaded medium some is answer told =
    let both : joined turn.reload Same ≡ answer = cc in
    ap (option_map orderer_opening) is ∙ ap (λ (m : Mark). Some m) (same_opening turn.reload ∙ ap opening_mark both)

pub orderer_starts : (old new : Medium) → IsReadBy old.faults new.faults old.keeps_synced old.turns new.reloaded
    → IsStarting (old ∷ []) (new ∷ []) (option_map orderer_opening new.reloaded)
orderer_starts old new read = record {
  came = is_there new.reloaded read.came;
  stayed = λ stayed keeps. (0, read.cause (failed_so new.reloaded stayed) (keeps 0));
  told = told_one old.turns new.reloaded old refl read.turn;
}
