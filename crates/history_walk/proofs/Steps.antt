-- The nodes of a cluster after one of them took an input.
use Rattle.std.proofs.Common.{◌≡◌, ◌≢◌, ◌<◌, ℕ, zero, suc, List, [], ◌∷◌, ◌++◌, map, set, get_or, slice_get, Some, refl, sym, ap, subst, arith, ◌∙◌, inl, inr}
use Rattle.std.proofs.lemmas.Bool.{cases_eq}
use Rattle.std.proofs.lemmas.Option.{none-some, same_Some, slice_get_cases, get_or_from_slice_get}
use Rattle.std.proofs.Math.ListN.{length-set}
use Rattle.history_frame.specs.declared.events.Event.{Event}
use Rattle.history_frame.specs.declared.events.Happened.{Happened}
use Rattle.history_frame.specs.declared.inputs.Input.{Input}
use Rattle.history_frame.specs.declared.inputs.Mark.{Mark}
use Rattle.log_base.specs.ClusterShape.{InRange, Shape}
use Rattle.node_table.specs.Numbering.{nodes_of, role_at}
use Rattle.node_model.specs.Fits.{Fits}
use Rattle.node_model.specs.Machine.{posted}
use Rattle.node_model.specs.NodeState.{IsRow, KeptLists, NodeOutcome, NodeState, node_after, node_outcome, state_after, state_or}
use Rattle.node_model.proofs.Following.{node_here, node_there}
use Rattle.history_walk.specs.Beginning.{AreNodes, IsNode, MemoryNode, state_in}
use Rattle.history_walk.specs.Planning.{IsFlown}
use Rattle.history_walk.specs.Stepped.{HasStepped, MayStep}
use Rattle.history_walk.proofs.Offered.{offered_fits}
use Rattle.history_walk.proofs.Puts.{flown}

-- the element at a place, and at others, after one is set
set_same : {A : Type 0} (xs : List A) (k : ℕ) (x y : A) → slice_get (set xs k x) k ≡ Some y → x ≡ y
set_same [] k x y e = absurd (none-some y e)
set_same (z ∷ xs) zero x y e = same_Some x y e
set_same (z ∷ xs) (suc k) x y e = set_same xs k x y e

set_other : {A : Type 0} (xs : List A) (k n : ℕ) (x : A) → n ≢ k → slice_get (set xs k x) n ≡ slice_get xs n
set_other [] k n x other = refl
set_other (z ∷ xs) zero zero x other = absurd (other refl)
set_other (z ∷ xs) zero (suc n) x other = refl
set_other (z ∷ xs) (suc k) zero x other = refl
set_other (z ∷ xs) (suc k) (suc n) x other = set_other xs k n x (λ e. other (ap (λ m. suc m) e))

pub here : (config : Shape) (kept : KeptLists) (events : List Event) (nodes : List MemoryNode) (number : ℕ) (d : MemoryNode) → AreNodes config kept events nodes → number < nodes_of config
    → IsNode config kept events number (get_or nodes number d)
here config kept events nodes number d stand lt = elim (slice_get_cases nodes number).1 [
  | inl it ↦ subst (IsNode config kept events number) (sym (get_or_from_slice_get nodes number it.0 d it.2)) (stand.each number it.0 it.2)
  | inr past ↦ absurd (let low = past.0 in let all = stand.all in omega arith)
]

-- what happened turns the state by its input and its mark alone
turned_same : (config : Shape) (node : ℕ) (state : NodeState) (one other : Happened) → one.input ≡ other.input → one.mark ≡ other.mark
    → state_after config node state one ≡ state_after config node state other
turned_same config node state one other i m = λ j. state_or state (node_outcome config node state (i j) (m j))

pub stand_more : (config : Shape) (kept : KeptLists) (events : List Event) (nodes : List MemoryNode) (number : ℕ) (new : MemoryNode) (made : Happened)
    → AreNodes config kept events nodes → new.config ≡ config → new.number ≡ number → state_in new ≡ state_after config number (node_after config kept events number) made
    → (event : Event) → event.node.0 ≡ number → event.happened.input ≡ made.input → event.happened.mark ≡ made.mark
    → AreNodes config kept (events ++ event ∷ []) (set nodes number new)
stand_more config kept events nodes number new made stand c n state event at i m = record {
  all = length-set nodes number new ∙ stand.all;
  each = λ k node e. elim (cases_eq k number) [
    | inl same ↦
        let is : new ≡ node = set_same nodes number new node (ap (slice_get (set nodes number new)) (sym same) ∙ e) in
        subst (IsNode config kept (events ++ event ∷ []) k) is
        (subst (λ (x : ℕ). IsNode config kept (events ++ event ∷ []) x new) (sym same) (record {
          config_is = c;
          number_is = n;
          state_is = state ∙ turned_same config number (node_after config kept events number) made event.happened (sym i) (sym m)
              ∙ ap (λ (x : ℕ). state_after config x (node_after config kept events x) event.happened) (sym at)
              ∙ sym (node_here config kept events event)
              ∙ ap (node_after config kept (events ++ event ∷ [])) at;
        }))
    | inr other ↦
        let was = stand.each k node (sym (set_other nodes number k new other) ∙ e) in
        record {
          config_is = was.config_is;
          number_is = was.number_is;
          state_is = was.state_is ∙ sym (node_there config kept events event k (λ f. other (sym f ∙ at)));
        }
  ];
}

-- a row of a node is one of its number
pub row_of : (config : Shape) (kept : KeptLists) (events : List Event) (number : ℕ) (node : MemoryNode) (made : Happened) → IsNode config kept events number node
    → IsRow node.config node.number (state_in node) made → IsRow config number (node_after config kept events number) made
row_of config kept events number node made is row =
    subst (λ (x : Shape × ℕ × NodeState). IsRow x.0 x.1 x.2 made) (λ i. (is.config_is i, is.number_is i, is.state_is i)) row

-- a node of a cluster, and an input that may be handed to it
module _ (config : Shape) (run : ℕ) (kept : KeptLists) (events : List Event) (nodes : List MemoryNode) (number : ℕ) (input : Input)
    (may : MayStep config run kept events nodes number input) (lt : number < nodes_of config) (node : MemoryNode) (is : IsNode config kept events number node) where
  abbrev parts : (config ≡ node.config) × (number ≡ node.number) × (node_after config kept events number ≡ state_in node)
  parts = (sym is.config_is, sym is.number_is, sym is.state_is)

  pub in_range_of : InRange node.config
  in_range_of = subst InRange (sym is.config_is) may.legal.config_in_range

  pub number_of : node.number < nodes_of node.config
  number_of = subst (λ (x : Shape × ℕ). x.1 < nodes_of x.0) (λ i. (sym is.config_is i, sym is.number_is i)) lt

  pub flown_of : IsFlown node.config (state_in node)
  flown_of = subst (λ (x : Shape × NodeState). IsFlown x.0 x.1) (λ i. (sym is.config_is i, sym is.state_is i)) (flown config run kept events number may.legal lt)

  pub fits_of : Fits node.config (role_at node.config node.number) (state_in node) input
  fits_of = subst (λ (x : Shape × ℕ × NodeState). Fits x.0 (role_at x.0 x.1) x.2 input) (λ i. (sym is.config_is i, sym is.number_is i, sym is.state_is i))
      (offered_fits config run kept events may.legal number input may.offered)

  pub has_stepped : (mark : Mark) (new : MemoryNode) (made : Happened) (letters : List (ℕ × List ℕ)) → new.config ≡ node.config → new.number ≡ node.number → made.input ≡ input
      → IsRow node.config node.number (state_in node) made → state_in new ≡ state_after node.config node.number (state_in node) made → letters ≡ map posted made.outputs
      → ((other : NodeOutcome) → node_outcome node.config node.number (state_in node) input mark ≡ Some other → made.mark ≡ mark)
      → HasStepped config kept events number input mark made letters (set nodes number new)
  has_stepped mark new made letters c n i row state posts marked = record {
    input_is = i;
    row = row_of config kept events number node made is row;
    marked = λ other e. marked other ((λ j. node_outcome (is.config_is j) (is.number_is j) (is.state_is j) input mark) ∙ e);
    letters_are = posts;
    stand = stand_more config kept events nodes number new made may.stand (c ∙ is.config_is) (n ∙ is.number_is)
        (state ∙ (λ j. state_after (is.config_is j) (is.number_is j) (is.state_is j) made));
  }
