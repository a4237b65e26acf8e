-- The end of the table: what its rule says where all passes are one.
use Rattle.std.proofs.Common.{◌≡◌, ℕ, zero, suc, ◌+◌, ◌*◌, ◌<◌, ◌≤◌, Bool, true, false, ◌⊎◌, inl, inr, ⊎_elim, List, [], ◌∷◌, ◌++◌, map, length, Some, None, slice_get, refl, sym, ap, ◌∙◌, subst, arith}
use Rattle.std.proofs.lemmas.Bool.{cases_lt}
use Rattle.std.proofs.lemmas.Option.{none-some, same_Some, slice_get_within}
use Rattle.std.specs.Prelude.{slice_index}
use mathlib.Core.Option.{some, some-injective}
use lib.ListN.{get_elem?}
use Rattle.atomic_table.specs.Table.{State, Final, Seen}
use Rattle.atomic_table.specs.Seated.{TableId}
use Rattle.atomic_table.specs.declared.shared.Seat.{Seat}
use Rattle.log_base.specs.Machines.{Meanings, IsLegal}
use Rattle.log_base.specs.declared.machine.Committed.{Committed}
use Rattle.tied_cells.specs.declared.account.Account.{Account}
use Rattle.tied_cells.specs.declared.board.Cell.{Cell}
use Rattle.tied_cells.specs.declared.board.Stored.{Stored}
use Rattle.tied_cells.specs.declared.board.Stored.TheVariants.{Home}
use Rattle.tied_cells.specs.declared.board.Deal.{Deal}
use Rattle.tied_cells.specs.declared.board.Own.{Own}
use Rattle.tied_cells.specs.declared.board.Joined.{Joined}
use Rattle.tied_cells.specs.declared.board.View.{View}
use Rattle.tied_cells.specs.History.{Entry, event_of, events, own_list, cell_list, StandsAfter}
use Rattle.tied_cells.specs.Rule.{World, nodes_of, IsGiven, KnowsJoined, Knows, StandsAs, HasTurnAt, IsKept, Holds}
use Rattle.tied_cells.specs.Views.{joined_with}
use Rattle.tied_cells.specs.Closing.{IsAmong, IsPartOf, AreTaken, IsClosed, AreAll, AreBack, PlacesRise, OwnRises}
use Rattle.tied_cells.proofs.Rises.{cell_rises, own_rises, stand_once}
use Rattle.tied_cells.proofs.Standing.{known}
use Rattle.tied_cells.proofs.CommitStep.{run_is_short}

module _ {H : Type 0} where
  pub among_both : (number : ℕ) (own : List (Own H)) (first second : List (Joined H)) → IsAmong number own first ⊎ IsAmong number own second → IsAmong number own (first ++ second)
  among_both number own [] second (inl h) = absurd h
  among_both number own [] second (inr h) = h
  among_both number own (part ∷ first) second (inl (inl h)) = inl h
  among_both number own (part ∷ first) second (inl (inr h)) = inr (among_both number own first second (inl h))
  among_both number own (part ∷ first) second (inr h) = inr (among_both number own first second (inr h))

module _ {S H : Type 0} where
  -- what was part of a pass is part of it after a join
  pub part_stays : (number : ℕ) (own : List (Own H)) (view other : View S H) → IsPartOf number own view → IsPartOf number own (joined_with view other)
  part_stays number own view other (inl h) = inl h
  part_stays number own view other (inr h) = inr (inr (among_both number own other.joined view.joined (inr h)))

  -- and so is the pass that was joined
  pub part_joined : (view other : View S H) → IsPartOf other.number other.own (joined_with view other)
  part_joined view other = inr (inl (refl, refl))

module _ {S I H : Type 0} (m : Meanings S I H) (deal : Deal S) (world : World H) (words : List ℕ) (seat : ℕ) (view : View S H) (k : Knows m deal world words seat view) where
  among_is : (joined : List (Joined H)) (number : ℕ) (own : List (Own H)) → KnowsJoined deal.passes world view.number seat joined → IsAmong number own joined → (own ≡ own_list number world.log) × (world.seat_of number ≡ seat)
  among_is [] number own j h = absurd h
  among_is (part ∷ joined) number own j (inl h) = (sym h.1 ∙ (j.0.3 ∙ ap (λ (n : ℕ). own_list n world.log) h.0), ap world.seat_of (sym h.0) ∙ j.0.2)
  among_is (part ∷ joined) number own j (inr h) = among_is joined number own j.1 h

  -- a part of a pass has the events of its number, and its seat
  pub part_is : (number : ℕ) (own : List (Own H)) → IsPartOf number own view → (own ≡ own_list number world.log) × (world.seat_of number ≡ seat)
  part_is number own (inl h) = (sym h.1 ∙ (k.own_is ∙ ap (λ (n : ℕ). own_list n world.log) h.0), ap world.seat_of (sym h.0) ∙ k.seat_is)
  part_is number own (inr h) = among_is view.joined number own k.joined_are h

module _ {A S I H : Type 0} (state : A → S) (m : Meanings S I H) (deal : Deal S) where
  -- what is known at the end
  pub record IsEnd (view : View S H) (slots : List (Stored A H)) : Type 0 where
    pub log : List (Entry H)
    pub legal : IsLegal m deal.starts (events log)
    pub makers : (k : ℕ) (entry : Entry H) → slice_get log k ≡ Some entry → entry.maker < deal.passes
    pub parts : (number : ℕ) (own : List (Own H)) → IsPartOf number own view → own ≡ own_list number log
    pub cells : (node : ℕ) → node < length deal.starts → (cell : Cell A H) × (get_elem? slots node ≡ some (Home cell)) × (cell.events.items ≡ cell_list node log) × StandsAfter state m deal.starts node cell.machine cell.events.items
    pub many : length slots ≡ 17 * length deal.starts
    pub few : length log ≤ 131072

  pub ends : (id : ℕ) (view : View S H) (words : List ℕ) (slots : List (Stored A H)) → view.alive ≡ true → view.turn ≡ None → ((number : ℕ) → number < deal.passes → (own : List (Own H)) × IsPartOf number own view)
      → Final (Seen (Holds state m deal) id view) words slots → IsEnd view slots
  ends id view words slots alive free all (s, seen, words_are, many, homes) =
      let r = seen.0 in let at = seen.1 in
      let k = known m deal r.world s.words id view alive (r.passes id view at) in
      let below : (n : ℕ) → IsGiven deal.passes r.world.given n → n < deal.passes = λ n given. ⊎_elim (λ (l : n < r.world.given). let b = r.run.given_below in let o : n < deal.passes = omega arith in o) (λ (e : n + 1 ≡ deal.passes). let o : n < deal.passes = omega arith in o) given in
      record {
        log = r.world.log;
        legal = r.run.legal;
        makers = λ j entry there. below entry.maker (r.run.makers j entry there);
        parts = λ number own part. (part_is m deal r.world s.words id view k number own part).0;
        cells = λ node inside. ⊎_elim
            (λ (l : 0 < slice_index s.words (node + 1)). absurd (no_turn s r k at below node inside (r.kept node (omega arith) ((λ q. l), (λ q. absurd (omega arith))))))
            (λ (l : slice_index s.words (node + 1) ≤ 0). let c = r.cells node inside (omega arith) in (c.0, homes node (Home c.0) c.1, c.2, c.3))
            (cases_lt 0 (slice_index s.words (node + 1)));
        many = sym many ∙ r.sized.slots_are;
        few = run_is_short m deal r.world (slice_index s.words 0) r.run r.small;
      }
    where
      dead : (u : View S H) (b : Bool) (s : State (Stored A H) (View S H)) (r : Holds state m deal s) (seat : ℕ) → StandsAs m deal r.world s.words seat u b → (node : ℕ) → HasTurnAt node u.turn
          → ((n : ℕ) → IsGiven deal.passes r.world.given n → n < deal.passes) → Knows m deal r.world s.words id view → seat ≡ id
      dead u true s r seat h node has below k = let p = all u.number (below u.number h.number_is) in sym h.seat_is ∙ (part_is m deal r.world s.words id view k u.number p.0 p.1).1
      dead u false s r seat h node has below k = absurd (subst (HasTurnAt node) h.0 has)

      no_turn : (s : State (Stored A H) (View S H)) (r : Holds state m deal s) → Knows m deal r.world s.words id view → get_elem? s.views id ≡ some view
          → ((n : ℕ) → IsGiven deal.passes r.world.given n → n < deal.passes) → (node : ℕ) → node < length deal.starts → IsKept (nodes_of deal) node s.views → ⊥
      no_turn s r k at below node inside (seat, u, there, hand) =
          let same : seat ≡ id = dead u u.alive s r seat (r.passes seat u there) node (hand.0 inside) below k in
          let is : u ≡ view = some-injective u view (sym there ∙ (ap (get_elem? s.views) same ∙ at)) in
          subst (HasTurnAt node) free (subst (λ (x : View S H). HasTurnAt node x.turn) is (hand.0 inside))

  -- each event is at a node
  pub inside_all : (log : List (Entry H)) → IsLegal m deal.starts (events log) → (place : ℕ) (entry : Entry H) → slice_get log place ≡ Some entry → entry.event.node < length deal.starts
  inside_all log legal place entry at =
      let next = legal place entry.event (Rattle.std.proofs.lemmas.Option.slice_get-map event_of log place ∙ ap (Rattle.std.specs.Option.option_map event_of) at) in
      slice_get_within deal.starts entry.event.node next.0 next.1

  -- the cells that were taken out are one history
  pub closes : (view : View S H) (slots : List (Stored A H)) (nodes : ℕ) (machines : List A) (lists : List (List (Committed H))) → IsEnd view slots → nodes ≡ length deal.starts → AreTaken nodes slots machines lists
      → IsClosed state m deal view machines lists
  closes view slots nodes machines lists e nodes_are t =
      let at : (node : ℕ) → node < length deal.starts → (machine : A) × (slice_get machines node ≡ Some machine) × (slice_get lists node ≡ Some (cell_list node e.log)) × StandsAfter state m deal.starts node machine (cell_list node e.log) =
      λ node inside. let c = e.cells node inside in let g = t.each node (omega arith) in
      let same : g.0 ≡ c.0 = same_home_cell g.0 c.0 (some-injective (Home g.0) (Home c.0) (sym g.1 ∙ c.1)) in (
        c.0.machine,
        g.2 ∙ ap (λ (x : Cell A H). Some x.machine) same,
        g.3 ∙ (ap (λ (x : Cell A H). Some x.events.items) same ∙ ap (λ (l : List _). Some l) c.2),
        subst (λ (l : List _). StandsAfter state m deal.starts node c.0.machine l) c.2 c.3,
      ) in
      let lists_at : (node : ℕ) → node < length deal.starts → slice_get lists node ≡ Some (cell_list node e.log) = λ node inside. (at node inside).2 in
      let many : length lists ≡ length deal.starts = t.lists_are ∙ nodes_are in
      record {
        log = e.log;
        one = record {
          legal = e.legal;
          machines_are = t.machines_are ∙ nodes_are;
          lists_are = many;
          nodes = at;
          rise = λ node list there. let inside : node < length deal.starts = let w = slice_get_within lists node list there in omega arith in
              subst PlacesRise (same_Some (cell_list node e.log) list (sym (lists_at node inside) ∙ there)) (cell_rises node e.log);
          once = stand_once lists (length deal.starts) e.log lists_at many (inside_all e.log e.legal);
          few = e.few;
        };
        makers = e.makers;
        parts = λ number own part. let is = e.parts number own part in (is, subst OwnRises (sym is) (own_rises number e.log));
      }
    where
      same_home_cell : (b c : Cell A H) → (let x : Stored A H = Home b in let y : Stored A H = Home c in x ≡ y) → b ≡ c
      same_home_cell b c h = cc

-- what stands in a list that was mapped
pub from_map : {X Y : Type 0} (f : X → Y) (xs : List X) (k : ℕ) (y : Y) → slice_get (map f xs) k ≡ Some y → (x : X) × (slice_get xs k ≡ Some x) × (f x ≡ y)
from_map f [] k y h = absurd (none-some y h)
from_map f (x ∷ xs) zero y h = (x, refl, same_Some (f x) y h)
from_map f (x ∷ xs) (suc k) y h = from_map f xs k y h

module _ {A S I H : Type 0} (state : A → S) (m : Meanings S I H) (deal : Deal S) where
  -- all passes together are all of the history
  pub all_of : (view : View S H) (machines : List A) (lists : List (List (Committed H))) (passes : List (Seat (Stored A H) (View S H) × Account)) (table : TableId) → (c : IsClosed state m deal view machines lists)
      → AreBack table deal.passes passes → ((k : ℕ) (pass : Seat (Stored A H) (View S H) × Account) → slice_get passes k ≡ Some pass → IsPartOf pass.1.number pass.0.me.0.own view) → AreAll passes c.log
  all_of view machines lists passes table c back parts = record {
    each = λ k pass at. c.parts pass.1.number pass.0.me.0.own (parts k pass at);
    all = λ place entry at. let p = back.all_there entry.maker (c.makers place entry at) in (p.0, p.1, p.2, sym p.3);
  }

module _ {A S H : Type 0} where
  -- two passes that are all there are
  pub two_back : (table : TableId) (count : ℕ) (p q : Seat (Stored A H) (View S H) × Account) → count ≡ 2 → (p.0.table_id ≡ table) × (q.0.table_id ≡ table)
      → (p.0.me.0.turn ≡ None) × (p.0.me.1 ≡ []) → (q.0.me.0.turn ≡ None) × (q.0.me.1 ≡ []) → p.1.number ≡ 0 → q.1.number ≡ 1 → AreBack table count (p ∷ q ∷ [])
  two_back table count p q two at free idle zeroth first = record { of_these = tables; no_turn = turns; all_there = λ number below. there number (omega arith) }
    where
      tables : (k : ℕ) (pass : Seat (Stored A H) (View S H) × Account) → slice_get (p ∷ q ∷ []) k ≡ Some pass → pass.0.table_id ≡ table
      tables zero pass h = subst (λ (x : Seat (Stored A H) (View S H) × Account). x.0.table_id ≡ table) (same_Some p pass h) at.0
      tables (suc zero) pass h = subst (λ (x : Seat (Stored A H) (View S H) × Account). x.0.table_id ≡ table) (same_Some q pass h) at.1
      tables (suc (suc k)) pass h = absurd (none-some pass h)

      turns : (k : ℕ) (pass : Seat (Stored A H) (View S H) × Account) → slice_get (p ∷ q ∷ []) k ≡ Some pass → (pass.0.me.0.turn ≡ None) × (pass.0.me.1 ≡ [])
      turns zero pass h = subst (λ (x : Seat (Stored A H) (View S H) × Account). (x.0.me.0.turn ≡ None) × (x.0.me.1 ≡ [])) (same_Some p pass h) free
      turns (suc zero) pass h = subst (λ (x : Seat (Stored A H) (View S H) × Account). (x.0.me.0.turn ≡ None) × (x.0.me.1 ≡ [])) (same_Some q pass h) idle
      turns (suc (suc k)) pass h = absurd (none-some pass h)

      there : (number : ℕ) → number < 2 → (k : ℕ) × (pass : Seat (Stored A H) (View S H) × Account) × (slice_get (p ∷ q ∷ []) k ≡ Some pass) × (pass.1.number ≡ number)
      there zero below = (0, p, refl, zeroth)
      there (suc zero) below = (1, q, refl, first)
      there (suc (suc n)) below = absurd (omega arith)
