-- The notes of a row of tries.
use Rattle.std.proofs.Common.{◌≡◌, ◌≢◌, ℕ, zero, suc, ◌+◌, ◌-◌, ◌*◌, ◌/◌, ◌<◌, ◌≤◌, ◌⊎◌, inl, inr, ⊎_elim, List, [], ◌∷◌, ◌++◌, length, Some, None, slice_get, refl, sym, ap, ◌∙◌, subst, arith, append_assoc, length-append}
use Rattle.std.proofs.lemmas.Bool.{cases_lt}
use Rattle.atomic_table.specs.Table.{Me}
use Rattle.log_base.specs.Machines.{Meanings}
use Rattle.log_base.proofs.Legal.{at_longer}
use Rattle.tied_cells.specs.declared.letter.Letter.{Letter}
use Rattle.tied_cells.specs.declared.board.Stored.{Stored}
use Rattle.tied_cells.specs.declared.board.Note.{Note}
use Rattle.tied_cells.specs.declared.board.View.{View}
use Rattle.tied_cells.specs.Rule.{nodes_of, box_node}
use Rattle.tied_cells.specs.Views.{noted, posting, addressed, FitsTurn}
use Rattle.tied_cells.specs.Turns.{IsOwnOutput}
use Rattle.tied_cells.specs.Boxes.{first_box, IsTried, noting, got}

-- what stands behind a list
pub at_end : {X : Type 0} (xs : List X) (x : X) (k : ℕ) → k ≡ length xs → slice_get (xs ++ x ∷ []) k ≡ Some x
at_end [] x zero e = refl
at_end [] x (suc k) e = absurd (omega arith)
at_end (y ∷ xs) x zero e = absurd (omega arith)
at_end (y ∷ xs) x (suc k) e = at_end xs x k (omega arith)

pub tried_none : (Bad : ℕ → Type 0) (first : ℕ) → IsTried Bad first 0 []
tried_none Bad first = record { as_many = refl; each = λ k below. absurd (omega arith) }

pub tried_more : (Bad : ℕ → Type 0) (first n : ℕ) (added : List Note) (found : ℕ) → IsTried Bad first n added → Bad found → IsTried Bad first (n + 1) (added ++ record { word = first + n + 1; found = found } ∷ [])
tried_more Bad first n added found t bad = record {
  as_many = length-append added (record { word = first + n + 1; found = found } ∷ []) ∙ ap (λ (k : ℕ). k + 1) t.as_many;
  each = λ k below. ⊎_elim
      (λ (l : k < n). let before = t.each k l in (before.0, (at_longer added (record { word = first + n + 1; found = found } ∷ []) k (record { word = first + k + 1; found = before.0 }) before.1).0, before.2))
      (λ (l : n ≤ k). let here : k ≡ n = omega arith in let last : k ≡ length added = let many = t.as_many in omega arith in
      (found, at_end added (record { word = first + n + 1; found = found }) k last ∙ ap (λ (j : ℕ). Some (record { word = first + j + 1; found = found })) (sym here), bad))
      (cases_lt k n);
}

module _ {S H : Type 0} where
  pub noting_none : (view : View S H) → noting view [] ≡ view
  noting_none view = ap (λ (notes : List Note). record view { notes = notes }) (Rattle.std.proofs.Common.append-nil view.notes)

  pub noting_more : (view : View S H) (added : List Note) (word found : ℕ) → noted (noting view added) word found ≡ noting view (added ++ record { word = word; found = found } ∷ [])
  noting_more view added word found = ap (λ (notes : List Note). record view { notes = notes }) (append_assoc view.notes added (record { word = word; found = found } ∷ []))

module _ {A S H : Type 0} where
  -- the pass noted so many tries and did nothing else
  pub record HasTried (Bad : ℕ → Type 0) (first n : ℕ) (old new : Me (Stored A H) (View S H)) : Type 0 where
    pub added : List Note
    pub tried : IsTried Bad first n added
    pub noted_so : new ≡ (noting old.0 added, old.1)

  pub has_tried_none : (Bad : ℕ → Type 0) (first : ℕ) (old : Me (Stored A H) (View S H)) → HasTried Bad first 0 old old
  has_tried_none Bad first old = record { added = []; tried = tried_none Bad first; noted_so = λ i. (sym (noting_none old.0) i, old.1) }

  pub has_tried_more : (Bad : ℕ → Type 0) (first n slot found : ℕ) (old new newer : Me (Stored A H) (View S H)) → slot ≡ first + n → HasTried Bad first n old new → Bad found
      → newer ≡ (noted new.0 (slot + 1) found, new.1) → HasTried Bad first (n + 1) old newer
  has_tried_more Bad first n slot found old new newer slot_is h bad newer_is = record {
    added = h.added ++ record { word = first + n + 1; found = found } ∷ [];
    tried = tried_more Bad first n h.added found h.tried bad;
    noted_so = newer_is ∙ (λ i. (noted (h.noted_so i).0 (slot_is i + 1) found, (h.noted_so i).1)) ∙ (λ i. (noting_more old.0 h.added (first + n + 1) found i, old.1));
  }

-- a box of a node is a box of it
pub box_is_of : (nodes node n : ℕ) → n < 16 → box_node nodes (nodes + 16 * node + n) ≡ node
box_is_of nodes node n below = omega arith

module _ {A S I H : Type 0} (m : Meanings S I H) (old me : Me (Stored A H) (View S H)) (added : List Note) (tried : me ≡ (noting old.0 added, old.1)) (nodes node n slot : ℕ)
    (nodes_are : nodes_of old.0.deal ≡ nodes) (slot_is : slot ≡ first_box nodes node + n) (below : n < 16) where
  node_is : box_node (nodes_of old.0.deal) slot ≡ node
  node_is = (λ i. box_node (nodes_are i) (slot_is i)) ∙ box_is_of nodes node n below

  here : box_node (nodes_of me.0.deal) slot ≡ node
  here = (λ i. box_node (nodes_of (tried i).0.deal) slot) ∙ node_is

  -- the letter is still an output of the pass
  pub still_own : (letter again : Letter) → again ≡ letter → IsOwnOutput m old.0 node letter → IsOwnOutput m me.0 (box_node (nodes_of me.0.deal) slot) again
  still_own letter again same out = subst (λ (x : ℕ × (Letter × View S H)). IsOwnOutput m x.1.1 x.0 x.1.0) (λ i. (sym here i, (sym same i, (sym tried i).0))) out

  pub posted_there : (new : Me (Stored A H) (View S H)) (letter again : Letter) → again ≡ letter → new ≡ (posting me.0 (addressed (box_node (nodes_of me.0.deal) slot) again), me.1)
      → new ≡ (posting (noting old.0 added) (addressed node letter), old.1)
  posted_there new letter again same is = is ∙ (λ i. (posting (tried i).0 (addressed (here i) (same i)), (tried i).1))

  pub got_there : (new : Me (Stored A H) (View S H)) (letter : Letter) → new ≡ (got me.0 (box_node (nodes_of me.0.deal) slot) letter, me.1) → new ≡ (got (noting old.0 added) node letter, old.1)
  got_there new letter is = is ∙ (λ i. (got (tried i).0 (here i) letter, (tried i).1))

  pub fits_there : (letter : Letter) → FitsTurn m me.0 (box_node (nodes_of me.0.deal) slot) letter → FitsTurn m old.0 node letter
  fits_there letter fits = subst (λ (x : ℕ × View S H). FitsTurn m x.1 x.0 letter) (λ i. (here i, (tried i).0)) fits
