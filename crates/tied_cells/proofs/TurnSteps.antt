-- Taking a turn, giving an event its place and giving the turn back keep the rule.
use Rattle.std.proofs.Common.{◌≡◌, ◌≢◌, ℕ, ◌+◌, ◌*◌, ◌<◌, ◌≤◌, true, List, ◌∷◌, set, Option, Some, None, refl, sym, ap, ◌∙◌, subst, arith, eqb, get_or-set_other, get_or-set_same}
use Rattle.std.specs.Prelude.{slice_index}
use mathlib.Core.Option.{some, none}
use lib.ListN.{get_elem?}
use prog.Atomic.{either}
use Rattle.atomic_table.specs.Table.{State, Me, step, Act, keeps, takes, gives, carried_after, Valid, stepped, Allows}
use Rattle.atomic_table.proofs.Lists.{exchanged}
use Rattle.log_base.specs.Machines.{Meanings}
use Rattle.tied_cells.specs.declared.board.Cell.{Cell}
use Rattle.tied_cells.specs.declared.board.Stored.{Stored}
use Rattle.tied_cells.specs.declared.board.Stored.TheVariants.{Home}
use Rattle.tied_cells.specs.declared.board.Deal.{Deal}
use Rattle.tied_cells.specs.declared.board.Turn.{Turn}
use Rattle.tied_cells.specs.declared.board.View.{View}
use Rattle.tied_cells.specs.History.{cell_list, StandsAfter}
use Rattle.tied_cells.specs.Rule.{nodes_of, KnowsTurn, KnowsBox, HasTurnAt, Holds}
use Rattle.tied_cells.specs.Views.{noted, holding, let_go}
use Rattle.tied_cells.specs.Plays.{took, released}
use Rattle.tied_cells.proofs.Standing.{known, stands, with_turn, with_notes, knows_else, slot_step, quiet_step}

module _ {A S I H : Type 0} (state : A → S) (m : Meanings S I H) (deal : Deal S) where
  abbrev Seat : Type 0
  Seat = Me (Stored A H) (View S H)

  abbrev Rule : State (Stored A H) (View S H) → Type 0
  Rule = Holds state m deal

  -- a word that was tried in vain
  pub notes : (s : State (Stored A H) (View S H)) (r : Rule s) (id word : ℕ) (v : View S H) → v.alive ≡ true → get_elem? s.views id ≡ some v
      → Rule record { words = set s.words word (slice_index s.words word); homes = s.homes; views = set s.views id (noted v word (slice_index s.words word)) }
  notes s r id word v alive at =
      let w : View S H = noted v word (slice_index s.words word) in
      let k = known m deal r.world s.words id v alive (r.passes id v at) in
      quiet_step state m deal s r id word v w at (stands m deal r.world s.words id w alive (with_notes m deal r.world s.words id v w.notes k)) (λ j hand. hand)

  pub takes_turn : (slots nodes id node mark : ℕ) (me : Seat) → slots ≡ 17 * nodes → node < nodes → me.0.alive ≡ true → me.0.turn ≡ None → mark ≡ me.0.number + 1
      → Allows Rule slots id me (node + 1) (λ n. either (eqb n 0) mark n) (took state m (step slots (node + 1) 0 mark none) me)
  takes_turn slots nodes id node mark me sized below alive free mark_is =
      let v : View S H = me.0 in let cs : List (ℕ × Stored A H) = me.1 in
      subst (λ (k : ℕ). Allows Rule slots id me (node + 1) (λ n. either (eqb n 0) k n) (took state m (step slots (node + 1) 0 k none) me)) (sym mark_is)
      (λ s r deep at fits.
      let inside : node < nodes_of deal = omega (arith, r.sized.slots_are) in
      let k = known m deal r.world s.words id v alive (r.passes id v at) in
      exchanged (slice_index s.words (node + 1)) 0 (v.number + 1)
      (λ n. (w : View S H) × (a : Act (Stored A H)) × Valid s.homes cs a × Rule (stepped s (node + 1) n id cs w a)
      × took state m (step slots (node + 1) 0 (v.number + 1) none) (v, cs) (slice_index s.words (node + 1)) (w, carried_after cs a))
      (λ found. let cell = r.cells node inside found in
      let w : View S H = holding v node cell.0.events.items in
      let word : slice_index (set s.words (node + 1) (v.number + 1)) (node + 1) ≡ v.number + 1 = get_or-set_same s.words (node + 1) (v.number + 1) 0 (omega (arith, r.sized.words_are)) in
      let rest = knows_else m deal r.world s.words node (v.number + 1) id v ((λ l e. omega arith), (λ l e. omega arith)) k in (
        w,
        takes node (Home cell.0),
        cell.1,
        slot_step state m deal s r id node (v.number + 1) v w none (omega arith) at
            (λ number other. ((λ l e. omega arith), (λ l e. omega arith)))
            (stands m deal r.world (set s.words (node + 1) (v.number + 1)) id w alive
            (with_turn m deal r.world (set s.words (node + 1) (v.number + 1)) id v w.turn rest (inside, word, cell.2)))
            (λ l e. absurd (omega arith))
            (λ l. absurd (omega arith))
            (λ j ne hand. ((λ l. absurd (subst (HasTurnAt j) free (hand.0 l))), hand.1))
            (λ out. ((λ l. refl), (λ l. absurd (omega arith)))),
        (
          (λ e. (node, cell.0, refl, refl, subst (λ (d : Deal S). StandsAfter state m d.starts node cell.0.machine cell.0.events.items) (sym k.deal_is) cell.3)),
          (λ ne. absurd (ne found)),
        ),
      ))
      (λ found. (noted v (node + 1) (slice_index s.words (node + 1)), keeps, tt, notes s r id (node + 1) v alive at, ((λ e. absurd (found e)), (λ ne. refl)))))

  pub releases : (slots nodes id node : ℕ) (me : Seat) (v : View S H) (cell : Cell A H) (turn : Turn H) (cs : List (ℕ × Stored A H)) → me ≡ (v, (node, Home cell) ∷ cs)
      → slots ≡ 17 * nodes → node < nodes → v.alive ≡ true → v.turn ≡ Some turn → turn.node ≡ node → turn.events ≡ cell.events.items
      → StandsAfter state m v.deal.starts node cell.machine cell.events.items
      → Allows Rule slots id me (node + 1) (λ n. 0) (λ n. released (step slots (node + 1) 0 0 none) me 0)
  releases slots nodes id node me v cell turn cs me_is sized below alive has here list stood =
      subst (λ (x : Seat). Allows Rule slots id x (node + 1) (λ n. 0) (λ n. released (step slots (node + 1) 0 0 none) x 0)) (sym me_is)
      (λ s r deep at fits.
      let inside : node < nodes_of deal = omega (arith, r.sized.slots_are) in
      let k = known m deal r.world s.words id v alive (r.passes id v at) in
      let t = subst (KnowsTurn (nodes_of deal) s.words r.world.log v.number) has k.turn_is in
      let word : slice_index s.words (node + 1) ≡ v.number + 1 = subst (λ (j : ℕ). slice_index s.words (j + 1) ≡ v.number + 1) here t.1 in
      let w : View S H = let_go v in
      let spares : (number : ℕ) → r.world.seat_of number ≢ id → (node < nodes_of deal → slice_index s.words (node + 1) ≢ number + 1) × (nodes_of deal ≤ node → slice_index s.words (node + 1) ≢ number + 2)
      = λ number other. ((λ l e. let same : number ≡ v.number = omega arith in other (ap r.world.seat_of same ∙ k.seat_is)), (λ l e. omega arith)) in (
        w,
        gives,
        tt,
        slot_step state m deal s r id node 0 v w (some (Home cell)) (omega arith) at spares
            (stands m deal r.world (set s.words (node + 1) 0) id w alive (record {
              deal_is = k.deal_is;
              number_is = k.number_is;
              seat_is = k.seat_is;
              own_is = k.own_is;
              joined_are = k.joined_are;
              given_is = k.given_is;
              turn_is = tt;
              boxed_is = box_beside s.words node v.number v.boxed inside k.boxed_is;
              fetched_is = k.fetched_is;
            }))
            (λ l e. (
              cell,
              refl,
              sym list ∙ (t.2 ∙ ap (λ (j : ℕ). cell_list j r.world.log) here),
              subst (λ (d : Deal S). StandsAfter state m d.starts node cell.machine cell.events.items) k.deal_is stood,
            ))
            (λ l. absurd (omega arith))
            (λ j ne hand. ((λ l. absurd (ne (sym (subst (HasTurnAt j) has (hand.0 l)) ∙ here))), hand.1))
            (λ out. absurd (omega (arith, out.0 inside))),
        refl,
      ))
    where
      box_beside : (words : List ℕ) (at number : ℕ) (o : Option ℕ) → at < nodes_of deal → KnowsBox (nodes_of deal) words number o → KnowsBox (nodes_of deal) (set words (at + 1) 0) number o
      box_beside words at number None l b = tt
      box_beside words at number (Some slot) l b = (b.0, b.1, get_or-set_other words (at + 1) (slot + 1) 0 0 (λ e. omega (arith, b.0)) ∙ b.2)
