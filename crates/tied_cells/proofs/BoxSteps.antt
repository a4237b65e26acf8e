-- Taking a box in hand, filling it, emptying it and letting it go keep the rule.
use Rattle.std.proofs.Common.{◌≡◌, ◌≢◌, ℕ, ◌+◌, ◌*◌, ◌<◌, ◌≤◌, true, List, [], ◌∷◌, ◌++◌, map, set, Option, Some, None, slice_get, refl, sym, ap, ◌∙◌, subst, arith, eqb, get_or-set_same, get_or-set_other}
use Rattle.std.proofs.lemmas.Option.{none-some, same_Some, slice_get-map}
use Rattle.std.specs.Prelude.{slice_index}
use Rattle.std.specs.Option.{option_map}
use mathlib.Core.Option.{some, none}
use mathlib.Core.Option as maybe
use lib.ListN.{get_elem?}
use prog.Atomic.{either}
use Rattle.atomic_table.specs.Table.{State, Me, step, Act, keeps, takes, gives, carried_after, Valid, stepped, Allows}
use Rattle.atomic_table.proofs.Lists.{exchanged}
use Rattle.log_base.specs.Machines.{Meanings, Event, Letter as Told, of_node, state_after, IsOutput, DeliveriesFit}
use Rattle.tied_cells.specs.declared.letter.Letter.{Letter}
use Rattle.tied_cells.specs.declared.board.Stored.{Stored}
use Rattle.tied_cells.specs.declared.board.Stored.TheVariants.{Nothing, Mail}
use Rattle.tied_cells.specs.declared.board.Deal.{Deal}
use Rattle.tied_cells.specs.declared.board.Own.{Own}
use Rattle.tied_cells.specs.declared.board.Turn.{Turn}
use Rattle.tied_cells.specs.declared.board.Addressed.{Addressed}
use Rattle.tied_cells.specs.declared.board.View.{View}
use Rattle.tied_cells.specs.History.{Entry, event_of, events, own_list, happened_of}
use Rattle.tied_cells.specs.Rule.{World, nodes_of, box_node, told, KnowsTurn, KnowsBox, KnowsLetter, Knows, IsBox, Holds}
use Rattle.tied_cells.specs.Views.{noted, boxing, unboxed, posting, fetching, addressed, FitsTurn}
use Rattle.tied_cells.specs.Turns.{IsOwnOutput}
use Rattle.tied_cells.specs.Plays.{fetched, claimed, posted, freed}
use Rattle.tied_cells.proofs.Picked.{own_stands, cell_happened}
use Rattle.tied_cells.proofs.Standing.{same_slot, same_stored, same_rest, known, stands, slot_step}
use Rattle.tied_cells.proofs.TurnSteps.{notes}

module _ {S I H : Type 0} (m : Meanings S I H) where
  -- an output of an event of the pass is one of the history
  pub own_output : (log : List (Entry H)) (number : ℕ) (view : View S H) (node : ℕ) (letter : Letter) → view.own ≡ own_list number log → IsOwnOutput m view node letter
      → IsOutput m (events log) node (told letter)
  own_output log number view node letter own_is (k, own, at, place, out) =
      let stands = own_stands number log k own (subst (λ (l : List (Own H)). slice_get l k ≡ Some own) own_is at) in
      let index : letter.place ≡ stands.index = let e = ap (λ (o : Own H). o.place) stands.own_is in omega arith in
      let there : slice_get (events log) stands.index ≡ Some stands.entry.event = slice_get-map event_of log stands.index ∙ ap (option_map event_of) stands.there in (
        stands.entry.event,
        ap (slice_get (events log)) index ∙ there,
        subst (λ (h : H). slice_get (m.outputs h) letter.index ≡ Some (node, letter.bytes)) (ap (λ (o : Own H). o.happened) stands.own_is) out,
      )

  -- an input that delivers an output of the history fits the machine whose turn the pass has
  pub letter_fits : (deal : Deal S) (log : List (Entry H)) (words : List ℕ) (view : View S H) (node : ℕ) (letter : Letter) → DeliveriesFit m → m.is_sound deal.starts
      → Rattle.log_base.specs.Machines.IsLegal m deal.starts (events log) → view.deal ≡ deal → KnowsTurn (nodes_of deal) words log view.number view.turn
      → IsOutput m (events log) node (told letter) → FitsTurn m view node letter
  letter_fits deal log words view node letter law sound legal deal_is knows out turn has here start starts input delivers =
      let t = subst (KnowsTurn (nodes_of deal) words log view.number) has knows in
      let now : of_node node (events log) ≡ map happened_of turn.events = ap (λ (n : ℕ). of_node n (events log)) (sym here) ∙ (cell_happened turn.node 0 log ∙ ap (map happened_of) (sym t.2)) in
      subst (λ (hs : List H). m.fits (state_after m start hs) input) now
      (law deal.starts (events log) sound legal node start input (told letter) (subst (λ (d : Deal S). slice_get d.starts node ≡ Some start) deal_is starts) delivers out)

module _ {A S I H : Type 0} (state : A → S) (m : Meanings S I H) (deal : Deal S) where
  abbrev Seat : Type 0
  Seat = Me (Stored A H) (View S H)

  abbrev Rule : State (Stored A H) (View S H) → Type 0
  Rule = Holds state m deal

  -- what the pass itself knows after a change of the box that it has, or had not, in hand
  mine_knows : (world : World H) (words : List ℕ) (id slot n : ℕ) (v : View S H) (boxed : Option ℕ) (fetched : Option Addressed) (posted : List Addressed) → nodes_of deal ≤ slot
      → Knows m deal world words id v → KnowsBox (nodes_of deal) (set words (slot + 1) n) v.number boxed → KnowsLetter m (events world.log) fetched
      → Knows m deal world (set words (slot + 1) n) id (record v { boxed = boxed; fetched = fetched; posted = posted })
  mine_knows world words id slot n v boxed fetched posted above k b f = record {
    deal_is = k.deal_is;
    number_is = k.number_is;
    seat_is = k.seat_is;
    own_is = k.own_is;
    joined_are = k.joined_are;
    given_is = k.given_is;
    turn_is = turn_beside v.turn k.turn_is;
    boxed_is = b;
    fetched_is = f;
  }
    where
      turn_beside : (turn : Option (Turn H)) → KnowsTurn (nodes_of deal) words world.log v.number turn → KnowsTurn (nodes_of deal) (set words (slot + 1) n) world.log v.number turn
      turn_beside None t = tt
      turn_beside (Some turn) t = (t.0, get_or-set_other words (slot + 1) (turn.node + 1) n 0 (λ e. omega (arith, t.0)) ∙ t.1, t.2)

  -- A pass changes the word of a box that is in no other's hands, and what is in it.
  box_step : (s : State (Stored A H) (View S H)) (r : Rule s) (id slot n : ℕ) (v : View S H) (boxed : Option ℕ) (fetched : Option Addressed) (posted : List Addressed) (home : maybe.Option (Stored A H))
      → nodes_of deal ≤ slot → slot < 17 * nodes_of deal → get_elem? s.views id ≡ some v → v.alive ≡ true
      → ((number : ℕ) → r.world.seat_of number ≢ id → slice_index s.words (slot + 1) ≢ number + 2)
      → ((k : ℕ) → k ≢ slot → v.boxed ≡ Some k → boxed ≡ Some k)
      → KnowsBox (nodes_of deal) (set s.words (slot + 1) n) v.number boxed
      → KnowsLetter m (events r.world.log) fetched
      → IsBox m deal r.world.log slot n (some home)
      → (1 < n → boxed ≡ Some slot)
      → Rule record { words = set s.words (slot + 1) n; homes = set s.homes slot home; views = set s.views id (record v { boxed = boxed; fetched = fetched; posted = posted }) }
  box_step s r id slot n v boxed fetched posted home above below at alive spares stays knows letter box out =
      let w : View S H = record v { boxed = boxed; fetched = fetched; posted = posted } in
      let k = known m deal r.world s.words id v alive (r.passes id v at) in
      slot_step state m deal s r id slot n v w home below at (λ number other. ((λ l e. omega arith), (λ l. spares number other)))
      (stands m deal r.world (set s.words (slot + 1) n) id w alive (mine_knows r.world s.words id slot n v boxed fetched posted above k knows letter))
      (λ l. absurd (omega arith))
      (λ l. box)
      (λ j ne hand. (hand.0, λ l. stays j ne (hand.1 l)))
      (λ h. ((λ l. absurd (omega arith)), λ l. out (h.1 l)))

  pub claims : (slots nodes id slot mark : ℕ) (me : Seat) → slots ≡ 17 * nodes → nodes ≤ slot → slot < 17 * nodes → me.0.alive ≡ true → me.0.boxed ≡ None → mark ≡ me.0.number + 2
      → Allows Rule slots id me (slot + 1) (λ n. either (eqb n 0) mark n) (claimed (step slots (slot + 1) 0 mark none) me)
  claims slots nodes id slot mark me sized above below alive free mark_is =
      let v : View S H = me.0 in
      subst (λ (k : ℕ). Allows Rule slots id me (slot + 1) (λ n. either (eqb n 0) k n) (claimed (step slots (slot + 1) 0 k none) me)) (sym mark_is)
      (λ s r deep at fits.
      let same : nodes ≡ nodes_of deal = omega (arith, r.sized.slots_are) in
      let above' : nodes_of deal ≤ slot = omega arith in let below' : slot < 17 * nodes_of deal = omega arith in
      let k = known m deal r.world s.words id v alive (r.passes id v at) in
      exchanged (slice_index s.words (slot + 1)) 0 (v.number + 2)
      (λ n. (w : View S H) × (a : Act (Stored A H)) × Valid s.homes me.1 a × Rule (stepped s (slot + 1) n id me.1 w a)
      × claimed (step slots (slot + 1) 0 (v.number + 2) none) me (slice_index s.words (slot + 1)) (w, carried_after me.1 a))
      (λ found. let box = r.boxes slot above' below' in
      let word : slice_index (set s.words (slot + 1) (v.number + 2)) (slot + 1) ≡ v.number + 2 = get_or-set_same s.words (slot + 1) (v.number + 2) 0 (omega (arith, r.sized.words_are)) in (
        boxing v slot,
        takes slot Nothing,
        box.empty found,
        box_step s r id slot (v.number + 2) v (Some slot) v.fetched v.posted none above' below' at alive (λ number other e. omega arith)
            (λ j ne b. absurd (none-some j (sym free ∙ b))) (above', below', word) k.fetched_is (record { empty = λ e. absurd (omega arith); full = λ e. absurd (omega arith) }) (λ l. refl),
        ((λ e. (slot, refl, refl)), (λ ne. absurd (ne found))),
      ))
      (λ found. (noted v (slot + 1) (slice_index s.words (slot + 1)), keeps, tt, notes state m deal s r id (slot + 1) v alive at, ((λ e. absurd (found e)), (λ ne. refl)))))

  pub fetches : (slots nodes id slot mark : ℕ) (me : Seat) → DeliveriesFit m → slots ≡ 17 * nodes → nodes ≤ slot → slot < 17 * nodes → me.0.alive ≡ true → me.0.boxed ≡ None → mark ≡ me.0.number + 2
      → Allows Rule slots id me (slot + 1) (λ n. either (eqb n 1) mark n) (fetched m (step slots (slot + 1) 1 mark none) me)
  fetches slots nodes id slot mark me law sized above below alive free mark_is =
      let v : View S H = me.0 in
      subst (λ (k : ℕ). Allows Rule slots id me (slot + 1) (λ n. either (eqb n 1) k n) (fetched m (step slots (slot + 1) 1 k none) me)) (sym mark_is)
      (λ s r deep at fits.
      let same : nodes ≡ nodes_of deal = omega (arith, r.sized.slots_are) in
      let above' : nodes_of deal ≤ slot = omega arith in let below' : slot < 17 * nodes_of deal = omega arith in
      let k = known m deal r.world s.words id v alive (r.passes id v at) in
      exchanged (slice_index s.words (slot + 1)) 1 (v.number + 2)
      (λ n. (w : View S H) × (a : Act (Stored A H)) × Valid s.homes me.1 a × Rule (stepped s (slot + 1) n id me.1 w a)
      × fetched m (step slots (slot + 1) 1 (v.number + 2) none) me (slice_index s.words (slot + 1)) (w, carried_after me.1 a))
      (λ found. let box = r.boxes slot above' below' in let full = box.full found in let letter : Letter = full.0 in
      let node_is : box_node (nodes_of deal) slot ≡ box_node (nodes_of v.deal) slot = ap (λ (d : Deal S). box_node (nodes_of d) slot) (sym k.deal_is) in
      let output : IsOutput m (events r.world.log) (box_node (nodes_of v.deal) slot) (told letter) = subst (λ (n : ℕ). IsOutput m (events r.world.log) n (told letter)) node_is full.2 in
      let word : slice_index (set s.words (slot + 1) (v.number + 2)) (slot + 1) ≡ v.number + 2 = get_or-set_same s.words (slot + 1) (v.number + 2) 0 (omega (arith, r.sized.words_are)) in
      let got : Addressed = addressed (box_node (nodes_of v.deal) slot) letter in (
        fetching v slot got,
        takes slot (Mail letter),
        full.1,
        box_step s r id slot (v.number + 2) v (Some slot) (Some got) v.posted none above' below' at alive (λ number other e. omega arith)
            (λ j ne b. absurd (none-some j (sym free ∙ b))) (above', below', word) output (record { empty = λ e. absurd (omega arith); full = λ e. absurd (omega arith) }) (λ l. refl),
        ((λ e. (slot, letter, refl, refl, letter_fits m deal r.world.log s.words v (box_node (nodes_of v.deal) slot) letter law r.sound r.run.legal k.deal_is k.turn_is output)), (λ ne. absurd (ne found))),
      ))
      (λ found. (noted v (slot + 1) (slice_index s.words (slot + 1)), keeps, tt, notes state m deal s r id (slot + 1) v alive at, ((λ e. absurd (found e)), (λ ne. refl)))))

  -- the box in hand is named by its word, so by no other pass's number
  in_hand : (s : State (Stored A H) (View S H)) (r : Rule s) (id slot : ℕ) (v : View S H) → Knows m deal r.world s.words id v → v.boxed ≡ Some slot
      → (nodes_of deal ≤ slot) × (slot < 17 * nodes_of deal) × ((number : ℕ) → r.world.seat_of number ≢ id → slice_index s.words (slot + 1) ≢ number + 2)
  in_hand s r id slot v k has = let b = subst (KnowsBox (nodes_of deal) s.words v.number) has k.boxed_is in
      (b.0, b.1, λ number other e. let word = b.2 in let same : number ≡ v.number = omega arith in other (ap r.world.seat_of same ∙ k.seat_is))

  pub posts : (slots id slot : ℕ) (me : Seat) (v : View S H) (letter : Letter) (cs : List (ℕ × Stored A H)) → me ≡ (v, (slot, Mail letter) ∷ cs) → v.alive ≡ true → v.boxed ≡ Some slot
      → IsOwnOutput m v (box_node (nodes_of v.deal) slot) letter
      → Allows Rule slots id me (slot + 1) (λ n. 1) (λ n. posted (step slots (slot + 1) 1 0 none) me 1)
  posts slots id slot me v letter cs me_is alive has out =
      subst (λ (x : Seat). Allows Rule slots id x (slot + 1) (λ n. 1) (λ n. posted (step slots (slot + 1) 1 0 none) x 1)) (sym me_is)
      (λ s r deep at fits.
      let k = known m deal r.world s.words id v alive (r.passes id v at) in
      let hand = in_hand s r id slot v k has in
      let node_is : box_node (nodes_of v.deal) slot ≡ box_node (nodes_of deal) slot = ap (λ (d : Deal S). box_node (nodes_of d) slot) k.deal_is in
      let output : IsOutput m (events r.world.log) (box_node (nodes_of deal) slot) (told letter) =
      subst (λ (n : ℕ). IsOutput m (events r.world.log) n (told letter)) node_is (own_output m r.world.log v.number v (box_node (nodes_of v.deal) slot) letter k.own_is out) in
      let sent : Addressed = addressed (box_node (nodes_of v.deal) slot) letter in (
        posting v sent,
        gives,
        tt,
        box_step s r id slot 1 v None v.fetched (v.posted ++ sent ∷ []) (some (Mail letter)) hand.0 hand.1 at alive hand.2
            (λ j ne b. absurd (ne (same_Some j slot (sym b ∙ has)))) tt k.fetched_is (record { empty = λ e. absurd (omega arith); full = λ e. (letter, refl, output) }) (λ l. absurd (omega arith)),
        (λ other mail others is. let stored : Mail letter ≡ Mail mail = same_stored slot other (Mail letter) (Mail mail) cs others is in let same : letter ≡ mail = cc in
            let slot_is = same_slot slot other (Mail letter) (Mail mail) cs others is in
            (λ i. (posting v (addressed (box_node (nodes_of v.deal) (slot_is i)) (same i)), same_rest slot other (Mail letter) (Mail mail) cs others is i))),
      ))

  pub frees : (slots id slot : ℕ) (me : Seat) (v : View S H) (cs : List (ℕ × Stored A H)) → me ≡ (v, (slot, Nothing) ∷ cs) → v.alive ≡ true → v.boxed ≡ Some slot
      → Allows Rule slots id me (slot + 1) (λ n. 0) (λ n. freed (step slots (slot + 1) 0 0 none) me 0)
  frees slots id slot me v cs me_is alive has =
      subst (λ (x : Seat). Allows Rule slots id x (slot + 1) (λ n. 0) (λ n. freed (step slots (slot + 1) 0 0 none) x 0)) (sym me_is)
      (λ s r deep at fits.
      let k = known m deal r.world s.words id v alive (r.passes id v at) in
      let hand = in_hand s r id slot v k has in (
        unboxed v,
        gives,
        tt,
        box_step s r id slot 0 v None v.fetched v.posted (some Nothing) hand.0 hand.1 at alive hand.2
            (λ j ne b. absurd (ne (same_Some j slot (sym b ∙ has)))) tt k.fetched_is (record { empty = λ e. refl; full = λ e. absurd (omega arith) }) (λ l. absurd (omega arith)),
        refl,
      ))
