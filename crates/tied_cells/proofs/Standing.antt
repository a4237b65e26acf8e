-- What stays so when one word, one slot and one pass change.
use Rattle.std.proofs.Common.{◌≡◌, ◌≢◌, ℕ, zero, suc, ◌+◌, ◌*◌, ◌<◌, ◌≤◌, Bool, true, false, ⊎_elim, List, [], ◌∷◌, length, set, Option, Some, None, sym, ap, ◌∙◌, subst, arith, length-set, get_or-set_other, get_or-set_same}
use Rattle.std.proofs.lemmas.Bool.{cases_eq}
use Rattle.std.specs.Prelude.{slice_index}
use mathlib.Core.Option.{some, none, some-injective, some-ne-none}
use mathlib.Core.Option as maybe
use lib.ListN.{get_elem?}
use lib.Seq.{set-get_or}
use Rattle.atomic_table.specs.Table.{State, rest}
use Rattle.atomic_table.proofs.Lists.{at_set, set_here, set_else}
use Rattle.log_base.specs.Machines.{Meanings}
use Rattle.tied_cells.specs.declared.board.Stored.{Stored}
use Rattle.tied_cells.specs.declared.board.Deal.{Deal}
use Rattle.tied_cells.specs.declared.board.Turn.{Turn}
use Rattle.tied_cells.specs.declared.board.Addressed.{Addressed}
use Rattle.tied_cells.specs.declared.board.Note.{Note}
use Rattle.tied_cells.specs.declared.board.View.{View}
use Rattle.tied_cells.specs.History.{events}
use Rattle.tied_cells.specs.Rule.{World, nodes_of, IsRun, KnowsTurn, KnowsBox, KnowsLetter, Knows, StandsAs, Stands, IsCell, IsBox, IsOut, InHand, IsKept, Holds}

module _ {X : Type 0} where
  pub within : (xs : List X) (i : ℕ) (x : X) → get_elem? xs i ≡ some x → i < length xs
  within [] i x h = absurd (some-ne-none x (sym h))
  within (y ∷ xs) zero x h = omega arith
  within (y ∷ xs) (suc i) x h = let rest = within xs i x h in omega arith

-- the first of some pairs
module _ {X : Type 0} where
  abbrev head_or : ℕ × X → List (ℕ × X) → ℕ × X
  head_or d [] = d
  head_or d (x ∷ xs) = x

  pub same_slot : (a b : ℕ) (x y : X) (xs ys : List (ℕ × X)) → (a, x) ∷ xs ≡ (b, y) ∷ ys → a ≡ b
  same_slot a b x y xs ys e = ap (λ l. (head_or (a, x) l).0) e

  pub same_stored : (a b : ℕ) (x y : X) (xs ys : List (ℕ × X)) → (a, x) ∷ xs ≡ (b, y) ∷ ys → x ≡ y
  same_stored a b x y xs ys e = ap (λ l. (head_or (a, x) l).1) e

  abbrev tail_of : List (ℕ × X) → List (ℕ × X)
  tail_of [] = []
  tail_of (x ∷ xs) = xs

  pub same_rest : (a b : ℕ) (x y : X) (xs ys : List (ℕ × X)) → (a, x) ∷ xs ≡ (b, y) ∷ ys → xs ≡ ys
  same_rest a b x y xs ys e = ap tail_of e

  -- a slot is the first, whatever stands behind it
  pub front : (cs : List (ℕ × X)) (a : ℕ) (x : X) (xs : List (ℕ × X)) → cs ≡ (a, x) ∷ xs → cs ≡ (a, x) ∷ rest cs
  front cs a x xs e = e ∙ ap (λ l. (a, x) ∷ rest l) (sym e)

  -- the slot in front has one value
  pub one_stored : (cs : List (ℕ × X)) (a b : ℕ) (x y : X) (xs ys : List (ℕ × X)) → cs ≡ (a, x) ∷ xs → cs ≡ (b, y) ∷ ys → x ≡ y
  one_stored cs a b x y xs ys e d = same_stored a b x y xs ys (sym e ∙ d)

-- a word and what is at home change at one slot alone
pub at_slot : {X : Type 0} (P : ℕ → ℕ → maybe.Option X → Type 0) (words : List ℕ) (homes : List X) (slot n : ℕ) (home : X) → slot + 1 < length words → slot < length homes
    → P slot n (some home) → ((k : ℕ) → k ≢ slot → P k (slice_index words (k + 1)) (get_elem? homes k))
    → (k : ℕ) → P k (slice_index (set words (slot + 1) n) (k + 1)) (get_elem? (set homes slot home) k)
at_slot P words homes slot n home word there here others k = ⊎_elim
    (λ (e : k ≡ slot). subst (λ (j : ℕ). P j (slice_index (set words (slot + 1) n) (j + 1)) (get_elem? (set homes slot home) j)) (sym e)
    (subst (λ (w : ℕ). P slot w (get_elem? (set homes slot home) slot)) (sym (get_or-set_same words (slot + 1) n 0 word))
    (subst (λ (h : maybe.Option _). P slot n h) (sym (set_here homes slot home there)) here)))
    (λ (ne : k ≢ slot). subst (λ (w : ℕ). P k w (get_elem? (set homes slot home) k)) (sym (get_or-set_other words (slot + 1) (k + 1) n 0 (λ e. ne (omega arith))))
    (subst (λ (h : maybe.Option _). P k (slice_index words (k + 1)) h) (sym (set_else homes slot k home ne)) (others k ne)))
    (cases_eq k slot)

module _ {S I H : Type 0} (m : Meanings S I H) (deal : Deal S) (world : World H) where
  pub known : (words : List ℕ) (seat : ℕ) (view : View S H) → view.alive ≡ true → Stands m deal world words seat view → Knows m deal world words seat view
  known words seat view alive h = subst (λ (b : Bool). StandsAs m deal world words seat view b) alive h

  pub stands : (words : List ℕ) (seat : ℕ) (view : View S H) → view.alive ≡ true → Knows m deal world words seat view → Stands m deal world words seat view
  stands words seat view alive h = subst (λ (b : Bool). StandsAs m deal world words seat view b) (sym alive) h

  -- a pass knows other things of what it has in hand
  pub with_turn : (words : List ℕ) (seat : ℕ) (view : View S H) (turn : Option (Turn H)) → Knows m deal world words seat view
      → KnowsTurn (nodes_of deal) words world.log view.number turn → Knows m deal world words seat (record view { turn = turn })
  with_turn words seat view turn k t = record {
    deal_is = k.deal_is;
    number_is = k.number_is;
    seat_is = k.seat_is;
    own_is = k.own_is;
    joined_are = k.joined_are;
    given_is = k.given_is;
    turn_is = t;
    boxed_is = k.boxed_is;
    fetched_is = k.fetched_is;
  }

  pub with_boxed : (words : List ℕ) (seat : ℕ) (view : View S H) (boxed : Option ℕ) (fetched : Option Addressed) (posted : List Addressed) → Knows m deal world words seat view
      → KnowsBox (nodes_of deal) words view.number boxed → KnowsLetter m (events world.log) fetched
      → Knows m deal world words seat (record view { boxed = boxed; fetched = fetched; posted = posted })
  with_boxed words seat view boxed fetched posted k b f = record {
    deal_is = k.deal_is;
    number_is = k.number_is;
    seat_is = k.seat_is;
    own_is = k.own_is;
    joined_are = k.joined_are;
    given_is = k.given_is;
    turn_is = k.turn_is;
    boxed_is = b;
    fetched_is = f;
  }

  pub with_notes : (words : List ℕ) (seat : ℕ) (view : View S H) (notes : List Note) → Knows m deal world words seat view → Knows m deal world words seat (record view { notes = notes })
  with_notes words seat view notes k = record {
    deal_is = k.deal_is;
    number_is = k.number_is;
    seat_is = k.seat_is;
    own_is = k.own_is;
    joined_are = k.joined_are;
    given_is = k.given_is;
    turn_is = k.turn_is;
    boxed_is = k.boxed_is;
    fetched_is = k.fetched_is;
  }

  -- the word of a slot names no pass of this number
  abbrev pub Spares : ℕ → ℕ → ℕ → Type 0
  Spares slot word number = (slot < nodes_of deal → word ≢ number + 1) × (nodes_of deal ≤ slot → word ≢ number + 2)

  -- so the pass knows the same when that word changes
  turn_else : (words : List ℕ) (slot n number : ℕ) (turn : Option (Turn H)) → Spares slot (slice_index words (slot + 1)) number
      → KnowsTurn (nodes_of deal) words world.log number turn → KnowsTurn (nodes_of deal) (set words (slot + 1) n) world.log number turn
  turn_else words slot n number None spares k = tt
  turn_else words slot n number (Some turn) spares k =
      let other : turn.node + 1 ≢ slot + 1 = λ e. let same : turn.node ≡ slot = omega arith in
      spares.0 (subst (λ (j : ℕ). j < nodes_of deal) same k.0) (subst (λ (j : ℕ). slice_index words (j + 1) ≡ number + 1) same k.1) in
      (k.0, get_or-set_other words (slot + 1) (turn.node + 1) n 0 other ∙ k.1, k.2)

  box_else : (words : List ℕ) (slot n number : ℕ) (boxed : Option ℕ) → Spares slot (slice_index words (slot + 1)) number
      → KnowsBox (nodes_of deal) words number boxed → KnowsBox (nodes_of deal) (set words (slot + 1) n) number boxed
  box_else words slot n number None spares k = tt
  box_else words slot n number (Some box) spares k =
      let other : box + 1 ≢ slot + 1 = λ e. let same : box ≡ slot = omega arith in
      spares.1 (subst (λ (j : ℕ). nodes_of deal ≤ j) same k.0) (subst (λ (j : ℕ). slice_index words (j + 1) ≡ number + 2) same k.2) in
      (k.0, k.1, get_or-set_other words (slot + 1) (box + 1) n 0 other ∙ k.2)

  pub knows_else : (words : List ℕ) (slot n seat : ℕ) (view : View S H) → Spares slot (slice_index words (slot + 1)) view.number
      → Knows m deal world words seat view → Knows m deal world (set words (slot + 1) n) seat view
  knows_else words slot n seat view spares k = record {
    deal_is = k.deal_is;
    number_is = k.number_is;
    seat_is = k.seat_is;
    own_is = k.own_is;
    joined_are = k.joined_are;
    given_is = k.given_is;
    turn_is = turn_else words slot n view.number view.turn spares k.turn_is;
    boxed_is = box_else words slot n view.number view.boxed spares k.boxed_is;
    fetched_is = k.fetched_is;
  }

module _ {S I H : Type 0} (m : Meanings S I H) (deal : Deal S) where
  -- one pass changes, and the others know what they knew
  pub stands_map : (world world' : World H) (words words' : List ℕ) (seat : ℕ) (view : View S H) (alive : Bool)
      → (Knows m deal world words seat view → Knows m deal world' words' seat view) → StandsAs m deal world words seat view alive → StandsAs m deal world' words' seat view alive
  stands_map world world' words words' seat view true f h = f h
  stands_map world world' words words' seat view false f h = h

  pub passes_after : (world world' : World H) (words words' : List ℕ) (views : List (View S H)) (id : ℕ) (w : View S H)
      → ((seat : ℕ) (view : View S H) → get_elem? views seat ≡ some view → Stands m deal world words seat view) → Stands m deal world' words' id w
      → ((seat : ℕ) (view : View S H) → seat ≢ id → Knows m deal world words seat view → Knows m deal world' words' seat view)
      → (seat : ℕ) (view : View S H) → get_elem? (set views id w) seat ≡ some view → Stands m deal world' words' seat view
  passes_after world world' words words' views id w before mine others seat view at = ⊎_elim
      (λ (t : (seat ≡ id) × (w ≡ view)). subst (λ (x : ℕ × View S H). Stands m deal world' words' x.0 x.1) (λ i. (sym t.0 i, t.1 i)) mine)
      (λ (t : (seat ≢ id) × (get_elem? views seat ≡ some view)). stands_map world world' words words' seat view view.alive (others seat view t.0) (before seat view t.1))
      (at_set views id seat w view at)

module _ {S H : Type 0} (nodes : ℕ) where
  -- a slot that is in a pass's hands stays in them
  pub kept_after : (views : List (View S H)) (id slot : ℕ) (v w : View S H) → get_elem? views id ≡ some v → (InHand nodes slot v → InHand nodes slot w)
      → IsKept nodes slot views → IsKept nodes slot (set views id w)
  kept_after views id slot v w at stays (seat, view, there, hand) = ⊎_elim
      (λ (e : seat ≡ id). let same : view ≡ v = some-injective view v (sym there ∙ (ap (get_elem? views) e ∙ at)) in
      (id, w, set_here views id w (within views id v at), stays (subst (λ (u : View S H). InHand nodes slot u) same hand)))
      (λ (ne : seat ≢ id). (seat, view, set_else views id seat w ne ∙ there, hand))
      (cases_eq seat id)

  pub kept_now : (views : List (View S H)) (id slot : ℕ) (v w : View S H) → get_elem? views id ≡ some v → InHand nodes slot w → IsKept nodes slot (set views id w)
  kept_now views id slot v w at hand = (id, w, set_here views id w (within views id v at), hand)

module _ {A S I H : Type 0} (state : A → S) (m : Meanings S I H) (deal : Deal S) where
  -- A pass changes the word of a slot, and what is at home there.
  pub slot_step : (s : State (Stored A H) (View S H)) (r : Holds state m deal s) (id slot n : ℕ) (v w : View S H) (home : maybe.Option (Stored A H))
      → slot < 17 * nodes_of deal → get_elem? s.views id ≡ some v
      → ((number : ℕ) → r.world.seat_of number ≢ id → Spares m deal r.world slot (slice_index s.words (slot + 1)) number)
      → Stands m deal r.world (set s.words (slot + 1) n) id w
      → (slot < nodes_of deal → IsCell state m deal r.world.log slot n (some home))
      → (nodes_of deal ≤ slot → IsBox m deal r.world.log slot n (some home))
      → ((k : ℕ) → k ≢ slot → InHand (nodes_of deal) k v → InHand (nodes_of deal) k w)
      → (IsOut (nodes_of deal) slot n → InHand (nodes_of deal) slot w)
      → Holds state m deal record { words = set s.words (slot + 1) n; homes = set s.homes slot home; views = set s.views id w }
  slot_step s r id slot n v w home below at spares mine cell box stays hand =
      let words : slot + 1 < length s.words = omega (arith, r.sized.words_are) in
      let homes : slot < length s.homes = omega (arith, r.sized.slots_are) in
      let first : slice_index (set s.words (slot + 1) n) 0 ≡ slice_index s.words 0 = get_or-set_other s.words (slot + 1) 0 n 0 (λ e. omega arith) in
      record {
        world = r.world;
        sized = record { words_are = length-set s.words (slot + 1) n ∙ r.sized.words_are; slots_are = length-set s.homes slot home ∙ r.sized.slots_are };
        small = r.small;
        sound = r.sound;
        run = subst (λ (next : ℕ). IsRun m deal r.world next) (sym first) r.run;
        passes = passes_after m deal r.world r.world s.words (set s.words (slot + 1) n) s.views id w r.passes mine
            (λ seat view other k. knows_else m deal r.world s.words slot n seat view (spares view.number (λ e. other (sym k.seat_is ∙ e))) k);
        cells = at_slot (λ k word there. k < nodes_of deal → IsCell state m deal r.world.log k word there) s.words s.homes slot n home words homes cell (λ k ne. r.cells k);
        boxes = at_slot (λ k word there. nodes_of deal ≤ k → k < 17 * nodes_of deal → IsBox m deal r.world.log k word there) s.words s.homes slot n home words homes (λ above inside. box above) (λ k ne. r.boxes k);
        kept = at_slot (λ k word there. k < 17 * nodes_of deal → IsOut (nodes_of deal) k word → IsKept (nodes_of deal) k (set s.views id w)) s.words s.homes slot n home words homes
            (λ inside out. kept_now (nodes_of deal) s.views id slot v w at (hand out))
            (λ k ne inside out. kept_after (nodes_of deal) s.views id k v w at (stays k ne) (r.kept k inside out));
      }

  -- A pass changes nothing but what it knows.
  pub quiet_step : (s : State (Stored A H) (View S H)) (r : Holds state m deal s) (id word : ℕ) (v w : View S H) → get_elem? s.views id ≡ some v
      → Stands m deal r.world s.words id w → ((k : ℕ) → InHand (nodes_of deal) k v → InHand (nodes_of deal) k w)
      → Holds state m deal record { words = set s.words word (slice_index s.words word); homes = s.homes; views = set s.views id w }
  quiet_step s r id word v w at mine stays =
      subst (λ (ws : List ℕ). Holds state m deal record { words = ws; homes = s.homes; views = set s.views id w }) (sym (set-get_or s.words word 0)) (record {
        world = r.world;
        sized = r.sized;
        small = r.small;
        sound = r.sound;
        run = r.run;
        passes = passes_after m deal r.world r.world s.words s.words s.views id w r.passes mine (λ seat view other k. k);
        cells = r.cells;
        boxes = r.boxes;
        kept = λ k inside out. kept_after (nodes_of deal) s.views id k v w at (stays k) (r.kept k inside out);
      })
