-- Splitting one pass from another, and joining one to another, keep the rule.
use Rattle.std.proofs.Common.{◌≡◌, ◌≢◌, ℕ, zero, suc, ◌+◌, ◌<◌, Bool, true, cond, ◌⊎◌, inl, inr, ⊎_elim, List, [], ◌∷◌, ◌++◌, length, set, Option, Some, None, slice_get, nat_eq, eq-eqb, ne_eqb, refl, sym, ap, ◌∙◌, subst, arith, length-set}
use Rattle.std.proofs.lemmas.Option.{none-some}
use mathlib.Core.Option.{some, some-injective, some-ne-none}
use lib.ListN.{get_elem?}
use Rattle.atomic_table.specs.Table.{State, Splits, Joins}
use Rattle.atomic_table.proofs.Lists.{at_set, set_else, at_longer}
use Rattle.log_base.specs.Machines.{Meanings}
use Rattle.tied_cells.specs.declared.board.Stored.{Stored}
use Rattle.tied_cells.specs.declared.board.Deal.{Deal}
use Rattle.tied_cells.specs.declared.board.Joined.{Joined}
use Rattle.tied_cells.specs.declared.board.View.{View}
use Rattle.tied_cells.specs.History.{Entry, own_of, picked, is_made_by, own_list}
use Rattle.tied_cells.specs.Rule.{World, nodes_of, IsGiven, IsRun, KnowsJoined, KnowsGiven, Knows, Stands, StandsAs, HasTurnAt, InHand, IsKept, Holds}
use Rattle.tied_cells.specs.Views.{one_more, next_number, split_left, split_right, joined_with, spent_view}
use Rattle.tied_cells.proofs.Standing.{known, stands, stands_map, kept_after}

module _ {X : Type 0} where
  -- what stands in a list with one more: what stood there, or the last, at the end
  pub at_pushed : (xs : List X) (x : X) (k : ℕ) (y : X) → get_elem? (xs ++ x ∷ []) k ≡ some y → (get_elem? xs k ≡ some y) ⊎ ((k ≡ length xs) × (x ≡ y))
  at_pushed [] x zero y h = inr (refl, some-injective x y h)
  at_pushed [] x (suc k) y h = absurd (some-ne-none y (sym h))
  at_pushed (z ∷ xs) x zero y h = inl h
  at_pushed (z ∷ xs) x (suc k) y h = ⊎_elim (λ e. inl e) (λ (p : (k ≡ length xs) × (x ≡ y)). inr (ap suc p.0, p.1)) (at_pushed xs x k y h)

  pub at_its_end : (xs : List X) (x : X) → get_elem? (xs ++ x ∷ []) (length xs) ≡ some x
  at_its_end [] x = refl
  at_its_end (y ∷ xs) x = at_its_end xs x

-- a function of numbers, changed at one
abbrev pub changed : (ℕ → ℕ) → ℕ → ℕ → ℕ → ℕ
changed f at value n = cond (nat_eq n at) value (f n)

pub changed_here : (f : ℕ → ℕ) (at value n : ℕ) → n ≡ at → changed f at value n ≡ value
changed_here f at value n e = ap (λ (b : Bool). cond b value (f n)) (eq-eqb n at e)

pub changed_else : (f : ℕ → ℕ) (at value n : ℕ) → n ≢ at → changed f at value n ≡ f n
changed_else f at value n ne = ap (λ (b : Bool). cond b value (f n)) (ne_eqb n at ne)

-- a pass that has made nothing has no events
pub none_made : {H : Type 0} (number place : ℕ) (log : List (Entry H)) → ((k : ℕ) (entry : Entry H) → slice_get log k ≡ Some entry → entry.maker ≢ number) → picked (is_made_by number) place log ≡ []
none_made number place [] h = refl
none_made number place (entry ∷ log) h = ap (λ (b : Bool). cond b (own_of place entry ∷ picked (is_made_by number) (suc place) log) (picked (is_made_by number) (suc place) log)) (ne_eqb entry.maker number (h zero entry refl)) ∙ none_made number (suc place) log (λ k. h (suc k))

module _ {S I H : Type 0} (m : Meanings S I H) (deal : Deal S) where
  -- what a pass knows where other numbers are given to other seats
  abbrev Regives : World H → World H → ℕ → Type 0
  Regives world world' seat = (number : ℕ) → IsGiven deal.passes world.given number → world.seat_of number ≡ seat → (world'.seat_of number ≡ seat) × IsGiven deal.passes world'.given number

  joined_again : (world world' : World H) (number seat : ℕ) (joined : List (Joined H)) → world'.log ≡ world.log → Regives world world' seat
      → KnowsJoined deal.passes world number seat joined → KnowsJoined deal.passes world' number seat joined
  joined_again world world' number seat [] same again k = tt
  joined_again world world' number seat (part ∷ joined) same again k = let a = again part.number k.0.1 k.0.2 in
      ((k.0.0, a.1, a.0, k.0.3 ∙ ap (own_list part.number) (sym same)), joined_again world world' number seat joined same again k.1)

  -- one pass was split off: the number that comes next is that of the new seat
  abbrev splitting : World H → ℕ → World H
  splitting world seat = record world { seat_of = changed world.seat_of world.given seat; given = world.given + 1 }

  split_again : (world : World H) (seat new : ℕ) → world.given + 1 < deal.passes → Regives world (splitting world new) seat
  split_again world seat new below number given at = ⊎_elim
      (λ (l : number < world.given). (changed_else world.seat_of world.given new number (λ e. omega arith) ∙ at, inl (omega arith)))
      (λ (e : number + 1 ≡ deal.passes). (changed_else world.seat_of world.given new number (λ e. omega arith) ∙ at, inr e)) given

  -- one pass was joined to another: its numbers are those of that one's seat
  abbrev joining : World H → ℕ → ℕ → World H
  joining world id other = record world { seat_of = λ number. cond (nat_eq (world.seat_of number) other) id (world.seat_of number) }

  join_else : (world : World H) (id other seat : ℕ) → seat ≢ other → Regives world (joining world id other) seat
  join_else world id other seat ne number given at =
      (ap (λ (b : Bool). cond b id (world.seat_of number)) (ne_eqb (world.seat_of number) other (λ e. ne (sym at ∙ e))) ∙ at, given)

  join_here : (world : World H) (id other number : ℕ) → world.seat_of number ≡ other → (joining world id other).seat_of number ≡ id
  join_here world id other number at = ap (λ (b : Bool). cond b id (world.seat_of number)) (eq-eqb (world.seat_of number) other at)

module _ {A S I H : Type 0} (state : A → S) (m : Meanings S I H) (deal : Deal S) where
  abbrev Rule : State (Stored A H) (View S H) → Type 0
  Rule = Holds state m deal

  knows_again : (world world' : World H) (words : List ℕ) (seat : ℕ) (view : View S H) → world'.log ≡ world.log → Regives m deal world world' seat → KnowsGiven world' seat view.given
      → Knows m deal world words seat view → Knows m deal world' words seat view
  knows_again world world' words seat view same again given k = let a = again view.number k.number_is k.seat_is in record {
    deal_is = k.deal_is;
    number_is = a.1;
    seat_is = a.0;
    own_is = k.own_is ∙ ap (own_list view.number) (sym same);
    joined_are = joined_again m deal world world' view.number seat view.joined same again k.joined_are;
    given_is = given;
    turn_is = subst (λ (log : List (Entry H)). Rattle.tied_cells.specs.Rule.KnowsTurn (nodes_of deal) words log view.number view.turn) (sym same) k.turn_is;
    boxed_is = k.boxed_is;
    fetched_is = subst (λ (log : List (Entry H)). Rattle.tied_cells.specs.Rule.KnowsLetter m (Rattle.tied_cells.specs.History.events log) view.fetched) (sym same) k.fetched_is;
  }

  -- a pass that doesn't count those split from it
  given_else : (world world' : World H) (seat : ℕ) (given : Option ℕ) → seat ≢ world.first → KnowsGiven world seat given → KnowsGiven world' seat given
  given_else world world' seat None ne k = tt
  given_else world world' seat (Some n) ne k = absurd (ne k.1)

  pub splits : (id given : ℕ) (v : View S H) → v.alive ≡ true → v.given ≡ Some given → given + 1 < v.deal.passes → Splits Rule id v (split_left v) (split_right v)
  splits id given v alive counts below s r at =
      let k = known m deal r.world s.words id v alive (r.passes id v at) in
      let world = r.world in let new : ℕ = length s.views in let world' : World H = splitting m deal world new in
      let c = subst (KnowsGiven world id) counts k.given_is in
      let room : world.given + 1 < deal.passes = let l : given + 1 < deal.passes = subst (λ (d : Deal S). given + 1 < d.passes) k.deal_is below in let e = c.0 in omega arith in
      let left : View S H = split_left v in let right : View S H = split_right v in
      let new_is : next_number v.given ≡ world.given = ap next_number counts ∙ c.0 in
      let mine : Knows m deal world' s.words id left = knows_left world world' s.words id v refl (split_again m deal world id new room)
      (subst (λ (o : Option ℕ). KnowsGiven world' id (one_more o)) (sym counts) (ap (λ (n : ℕ). n + 1) c.0, c.1)) k in
      let fresh : Knows m deal world' s.words new right = record {
        deal_is = k.deal_is;
        number_is = inl (let e = new_is in omega arith);
        seat_is = changed_here world.seat_of world.given new (next_number v.given) new_is;
        own_is = sym (none_made (next_number v.given) 0 world.log (λ j entry there e. ⊎_elim (λ (l : entry.maker < world.given). omega (arith, new_is)) (λ (q : entry.maker + 1 ≡ deal.passes). omega (arith, new_is)) (r.run.makers j entry there)));
        joined_are = tt;
        given_is = tt;
        turn_is = tt;
        boxed_is = tt;
        fetched_is = tt;
      } in
      record {
        world = world';
        sized = r.sized;
        small = r.small;
        sound = r.sound;
        run = record {
          next_is = r.run.next_is;
          legal = r.run.legal;
          within = r.run.within;
          given_below = room;
          makers = λ j entry there. ⊎_elim (λ (l : entry.maker < world.given). inl (omega arith)) (λ (e : entry.maker + 1 ≡ deal.passes). inr e) (r.run.makers j entry there);
        };
        passes = λ seat view there. ⊎_elim
            (λ (before : get_elem? (set s.views id left) seat ≡ some view). ⊎_elim
            (λ (t : (seat ≡ id) × (left ≡ view)). subst (λ (x : ℕ × View S H). Stands m deal world' s.words x.0 x.1) (λ i. (sym t.0 i, t.1 i)) (stands m deal world' s.words id left alive mine))
            (λ (t : (seat ≢ id) × (get_elem? s.views seat ≡ some view)). stands_map m deal world world' s.words s.words seat view view.alive
            (λ u. knows_again world world' s.words seat view refl (split_again m deal world seat new room) (given_else world world' seat view.given (λ e. t.0 (e ∙ sym c.1)) u.given_is) u)
            (r.passes seat view t.1))
            (at_set s.views id seat left view before))
            (λ (p : (seat ≡ length (set s.views id left)) × (right ≡ view)). let e : seat ≡ new = p.0 ∙ length-set s.views id left in
            subst (λ (x : ℕ × View S H). Stands m deal world' s.words x.0 x.1) (λ i. (sym e i, p.1 i)) fresh)
            (at_pushed (set s.views id left) right seat view there);
        cells = r.cells;
        boxes = r.boxes;
        kept = λ slot inside out. let h = kept_after (nodes_of deal) s.views id slot v left at (λ hand. hand) (r.kept slot inside out) in
            (h.0, h.1, at_longer (set s.views id left) (right ∷ []) h.0 h.1 h.2, h.3);
      }
    where
      knows_left : (world world' : World H) (words : List ℕ) (seat : ℕ) (view : View S H) → world'.log ≡ world.log → Regives m deal world world' seat → KnowsGiven world' seat (one_more view.given)
          → Knows m deal world words seat view → Knows m deal world' words seat (split_left view)
      knows_left world world' words seat view same again given k = let a = again view.number k.number_is k.seat_is in record {
        deal_is = k.deal_is;
        number_is = a.1;
        seat_is = a.0;
        own_is = k.own_is ∙ ap (own_list view.number) (sym same);
        joined_are = joined_again m deal world world' view.number seat view.joined same again k.joined_are;
        given_is = given;
        turn_is = subst (λ (log : List (Entry H)). Rattle.tied_cells.specs.Rule.KnowsTurn (nodes_of deal) words log view.number view.turn) (sym same) k.turn_is;
        boxed_is = k.boxed_is;
        fetched_is = subst (λ (log : List (Entry H)). Rattle.tied_cells.specs.Rule.KnowsLetter m (Rattle.tied_cells.specs.History.events log) view.fetched) (sym same) k.fetched_is;
      }

  -- the parts of a pass that is joined become parts of the other
  parts_move : (world : World H) (id other number from : ℕ) (joined : List (Joined H)) → id ≢ other → world.seat_of number ≡ id
      → KnowsJoined deal.passes world from other joined → KnowsJoined deal.passes (joining m deal world id other) number id joined
  parts_move world id other number from [] apart at k = tt
  parts_move world id other number from (part ∷ joined) apart at k =
      (((λ e. apart (sym at ∙ (ap world.seat_of (sym e) ∙ k.0.2))), k.0.1, join_here m deal world id other part.number k.0.2, k.0.3), parts_move world id other number from joined apart at k.1)

  parts_both : (world : World H) (number seat : ℕ) (first second : List (Joined H)) → KnowsJoined deal.passes world number seat first → KnowsJoined deal.passes world number seat second
      → KnowsJoined deal.passes world number seat (first ++ second)
  parts_both world number seat [] second a b = b
  parts_both world number seat (part ∷ first) second a b = (a.0, parts_both world number seat first second a.1 b)

  pub joins : (id other : ℕ) (v w : View S H) → v.alive ≡ true → w.alive ≡ true → w.turn ≡ None → w.boxed ≡ None → Joins Rule id v other w (joined_with v w) spent_view
  joins id other v w alive living free loose s r at apart there =
      let world = r.world in let world' : World H = joining m deal world id other in
      let both : View S H = joined_with v w in
      let theirs : get_elem? s.views other ≡ some w = sym (set_else s.views id other both apart) ∙ there in
      let k = known m deal world s.words id v alive (r.passes id v at) in
      let o = known m deal world s.words other w living (r.passes other w theirs) in
      let ne : id ≢ other = λ e. apart (sym e) in
      let self : Regives m deal world world' id = join_else m deal world id other id ne in
      let a = self v.number k.number_is k.seat_is in
      let mine : Knows m deal world' s.words id both = record {
        deal_is = k.deal_is;
        number_is = a.1;
        seat_is = a.0;
        own_is = k.own_is;
        joined_are = (
          ((λ e. ne (sym k.seat_is ∙ (ap world.seat_of (sym e) ∙ o.seat_is))), o.number_is, join_here m deal world id other w.number o.seat_is, o.own_is),
          parts_both world' v.number id w.joined v.joined (parts_move world id other v.number w.number w.joined ne k.seat_is o.joined_are)
              (joined_again m deal world world' v.number id v.joined refl self k.joined_are),
        );
        given_is = given_same world world' id v.given refl refl k.given_is;
        turn_is = k.turn_is;
        boxed_is = k.boxed_is;
        fetched_is = k.fetched_is;
      } in
      let views : List (View S H) = set s.views id both in
      record {
        world = world';
        sized = r.sized;
        small = r.small;
        sound = r.sound;
        run = record { next_is = r.run.next_is; legal = r.run.legal; within = r.run.within; given_below = r.run.given_below; makers = r.run.makers };
        passes = λ seat view here. ⊎_elim
            (λ (t : (seat ≡ other) × (spent_view ≡ view)). subst (λ (u : View S H). Stands m deal world' s.words seat u) t.1 (refl, refl))
            (λ (t : (seat ≢ other) × (get_elem? views seat ≡ some view)). ⊎_elim
            (λ (p : (seat ≡ id) × (both ≡ view)). subst (λ (x : ℕ × View S H). Stands m deal world' s.words x.0 x.1) (λ i. (sym p.0 i, p.1 i)) (stands m deal world' s.words id both alive mine))
            (λ (p : (seat ≢ id) × (get_elem? s.views seat ≡ some view)). stands_map m deal world world' s.words s.words seat view view.alive
            (λ u. knows_again world world' s.words seat view refl (join_else m deal world id other seat t.0) (given_same world world' seat view.given refl refl u.given_is) u)
            (r.passes seat view p.1))
            (at_set s.views id seat both view t.1))
            (at_set views other seat spent_view view here);
        cells = r.cells;
        boxes = r.boxes;
        kept = λ slot inside out. kept_after (nodes_of deal) views other slot w spent_view there
            (λ hand. ((λ l. absurd (subst (HasTurnAt slot) free (hand.0 l))), (λ l. absurd (none-some slot (sym loose ∙ hand.1 l)))))
            (kept_after (nodes_of deal) s.views id slot v both at (λ hand. hand) (r.kept slot inside out));
      }
    where
      given_same : (world world' : World H) (seat : ℕ) (given : Option ℕ) → world'.given ≡ world.given → world'.first ≡ world.first → KnowsGiven world seat given → KnowsGiven world' seat given
      given_same world world' seat None a b k = tt
      given_same world world' seat (Some n) a b k = (k.0 ∙ sym a, k.1 ∙ sym b)
