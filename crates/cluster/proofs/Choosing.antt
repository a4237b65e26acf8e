-- What a node takes in its turn fits it.
use Rattle.std.proofs.Common.{◌≡◌, ℕ, List, Bool, true, false, slice_get, Some, Result, Ok, Err, IfOk, OnErr, refl, sym, ap, subst, ◌∙◌}
use Rattle.counted_node.specs.Counted.{CountedState, counted_meanings}
use Rattle.history_frame.specs.declared.inputs.Input.{Input}
use Rattle.history_frame.specs.declared.inputs.Input.TheVariants.{Tick, Restart}
use Rattle.history_frame.specs.declared.events.Happened.{Happened}
use Rattle.history_frame.specs.Spelling.{IsInput as IsSpelledInput}
use Rattle.log_base.specs.ClusterShape.{Shape}
use Rattle.log_model.specs.Storage.{Member}
use Rattle.node_table.specs.declared.role.Role.{Role}
use Rattle.node_table.specs.declared.role.Role.TheVariants.{Storage, Gatherer, Orderer}
use Rattle.record_frame.specs.declared.entries.Entry.{Entry}
use Rattle.node_model.specs.Fits.{FitsReplica, FitsState}
use Rattle.node_model.specs.Machine.{ClusterNode, delivery, node_meanings}
use Rattle.node_model.specs.NodeState.{NodeState, Storing, Gathering, Ordering}
use Rattle.node_model.specs.StorageNode.{member_of}
use Rattle.node_model.proofs.Delivering.{delivers}
use Rattle.tied_cells.specs.declared.board.Turn.{Turn}
use Rattle.tied_cells.specs.declared.letter.Letter.{Letter}
use Rattle.tied_cells.specs.declared.mail.Fetched.{Fetched}
use Rattle.tied_cells.specs.declared.mail.Fetched.TheVariants.{Letter as GotLetter, Empty}
use Rattle.tied_cells.specs.Boxes.{Fetches}
use Rattle.tied_cells.specs.Rule.{told}
use Rattle.tied_cells.specs.Turns.{IsLastFetched}
use Rattle.tied_cells.specs.Views.{addressed}
use Rattle.cluster.specs.Events.{Delivers, Holder, IsTurnInput, TakesUp, node_now}

-- an input that says nothing of lists fits every state
pub state_free : (config : Shape) (role : Role) (state : NodeState) (input : Input) → ((member : Member) (lists : List (List Entry)) → FitsReplica member lists input)
    → FitsState config role state input
state_free config (Storage shard replica) (Storing node) input h = h (member_of config shard.0 replica.0) node.durable
state_free config (Storage shard replica) (Gathering node) input h = tt
state_free config (Storage shard replica) (Ordering node) input h = tt
state_free config (Gatherer index) state input h = tt
state_free config (Orderer index) state input h = tt

pub tick_fits : (node : ClusterNode) → node_meanings.fits node Tick
tick_fits node = record {
  allowed = record { named = refl; range = tt };
  held = state_free node.config (Rattle.node_table.specs.Numbering.role_at node.config node.number) node.state Tick (λ m l. tt);
}

pub restart_fits : (node : ClusterNode) → node_meanings.fits node Restart
restart_fits node = record {
  allowed = record { named = refl; range = tt };
  held = state_free node.config (Rattle.node_table.specs.Numbering.role_at node.config node.number) node.state Restart (λ m l. tt);
}

-- the letter that an input delivers
pub delivers_told : (letter : Letter) (input : Input) → Delivers letter input → delivery input ≡ Some (told letter)
delivers_told letter input d =
    ap delivery d.1 ∙ delivers letter.place letter.index d.0 d.2 ∙ ap (λ (bytes : List ℕ). Some (letter.place, (letter.index, bytes))) (sym d.3)

module _ {A : Type 0} where
  -- what a pass has and knows, but for the letter that it fetched and words tried in vain
  abbrev pub but_fetched : Holder A → Holder A → Holder A
  but_fetched old new = (record old.0 { fetched = new.0.fetched; notes = new.0.notes }, old.1)

  pub fetches_only : (node : ℕ) (old new : Holder A) (fetched : Fetched) → Fetches counted_meanings node old new fetched → new ≡ but_fetched old new
  fetches_only node old new (GotLetter letter) f = subst (λ (x : Holder A). x ≡ but_fetched old x) (sym f.0.1) refl
  fetches_only node old new Empty f = subst (λ (x : Holder A). x ≡ but_fetched old x) (sym f.2) refl

  pub chosen_only : (down : Bool) (node : ℕ) (old new : Holder A) (input : Input) → IsTurnInput down node old new input → new ≡ but_fetched old new
  chosen_only true node old new input h = subst (λ (x : Holder A). x ≡ but_fetched old x) (sym h.0) refl
  chosen_only false node old new input h = fetches_only node old new h.0 h.1

  pub chosen_spelled : (down : Bool) (node : ℕ) (old new : Holder A) (input : Input) → IsTurnInput down node old new input → IsSpelledInput input
  chosen_spelled true node old new input h = subst IsSpelledInput (sym h.1) tt
  chosen_spelled false node old new input h = taken h.0 h.2
    where
      taken : (fetched : Fetched) → TakesUp fetched input → IsSpelledInput input
      taken (GotLetter letter) t = subst IsSpelledInput (sym t.1) tt
      taken Empty t = subst IsSpelledInput (sym t) tt

  pub chosen_fits : (down : Bool) (node : ℕ) (old new : Holder A) (input : Input) → IsTurnInput down node old new input → (turn : Turn Happened) → old.0.turn ≡ Some turn → turn.node ≡ node
      → (start : CountedState) → slice_get old.0.deal.starts node ≡ Some start → node_meanings.fits (node_now start turn.events) input
  chosen_fits true node old new input h turn has at start there = subst (node_meanings.fits (node_now start turn.events)) (sym h.1) (restart_fits (node_now start turn.events))
  chosen_fits false node old new input h turn has at start there = taken h.0 h.1 h.2
    where
      taken : (fetched : Fetched) → Fetches counted_meanings node old new fetched → TakesUp fetched input → node_meanings.fits (node_now start turn.events) input
      taken (GotLetter letter) f t = f.1 turn has at start there input (delivers_told letter input t)
      taken Empty f t = subst (node_meanings.fits (node_now start turn.events)) (sym t) (tick_fits (node_now start turn.events))

  pub chosen_last : (down : Bool) (node : ℕ) (old new : Holder A) (input : Input) → IsTurnInput down node old new input → IsLastFetched node (delivery input) new.0.fetched
  chosen_last true node old new input h = subst (λ (x : Input). IsLastFetched node (delivery x) new.0.fetched) (sym h.1) tt
  chosen_last false node old new input h = taken h.0 h.1 h.2
    where
      taken : (fetched : Fetched) → Fetches counted_meanings node old new fetched → TakesUp fetched input → IsLastFetched node (delivery input) new.0.fetched
      taken (GotLetter letter) f t = subst (λ o. IsLastFetched node o new.0.fetched) (sym (delivers_told letter input t)) (addressed node letter, (λ i. (f.0.1 i).0.fetched), refl, refl)
      taken Empty f t = subst (λ (x : Input). IsLastFetched node (delivery x) new.0.fetched) (sym t) tt

-- what is said of a value, or of an error
pub ok_map : {T E : Type 0} (P Q : T → Type 0) (r : Result T E) → ((x : T) → P x → Q x) → IfOk r P → IfOk r Q
ok_map P Q (Ok x) f h = f x h
ok_map P Q (Err e) f h = tt

pub on_err : {T E : Type 0} (P : Type 0) (r : Result T E) → P → OnErr r P
on_err P (Ok x) h = tt
on_err P (Err e) h = h
