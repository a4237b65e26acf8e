-- Giving an event its place keeps the rule: the history grows by it.
use Rattle.std.proofs.Common.{◌≡◌, ◌≢◌, ℕ, suc, ◌+◌, ◌*◌, ◌%◌, ◌^◌, ◌<◌, ◌≤◌, true, ⊎_elim, List, [], ◌∷◌, ◌++◌, map, length, set, Option, Some, None, slice_get, refl, sym, ap, ◌∙◌, subst, arith, length-set, length-append, get_or-set_other, get_or-set_same}
use Rattle.std.proofs.lemmas.Bool.{cases_eq}
use Rattle.std.specs.Prelude.{slice_index}
use mathlib.Core.Option.{some, none}
use lib.ListN.{get_elem?, length-map}
use Rattle.atomic_table.specs.Table.{State, Me, rest, step, keeps, Allows}
use Rattle.log_base.specs.Machines.{Meanings, Event, Letter as Told, of_node, state_after, IsOutput, IsDelivered, Follows, IsNext, IsLegal}
use Rattle.log_base.proofs.Legal.{at_push, legal_push, output_longer}
use Rattle.tied_cells.specs.declared.board.Stored.{Stored}
use Rattle.tied_cells.specs.declared.board.Stored.TheVariants.{Nothing, Said}
use Rattle.tied_cells.specs.declared.board.Deal.{Deal}
use Rattle.tied_cells.specs.declared.board.Own.{Own}
use Rattle.tied_cells.specs.declared.board.Turn.{Turn}
use Rattle.tied_cells.specs.declared.board.Addressed.{Addressed}
use Rattle.tied_cells.specs.declared.board.Joined.{Joined}
use Rattle.tied_cells.specs.declared.board.View.{View}
use Rattle.tied_cells.specs.History.{Entry, event_of, events, own_of, own_list, happened_of}
use Rattle.tied_cells.specs.Rule.{World, nodes_of, told, IsGiven, IsSized, IsRun, KnowsTurn, KnowsBox, KnowsLetter, KnowsJoined, Knows, Stands, IsCell, IsBox, IsOut, HasTurnAt, InHand, IsKept, Holds}
use Rattle.tied_cells.specs.Views.{turn_node, grown_turn, undelivered, grown, IsPlaced}
use Rattle.tied_cells.specs.Turns.{IsLastFetched, Steps}
use Rattle.tied_cells.specs.Plays.{placed}
use Rattle.tied_cells.proofs.Picked.{own_here, own_else, cell_here, cell_else, events_push, cell_happened}
use Rattle.tied_cells.proofs.Quotas.{few_events}
use Rattle.tied_cells.proofs.Standing.{same_stored, known, stands, passes_after, kept_after}

module _ {S I H : Type 0} (m : Meanings S I H) (deal : Deal S) where
  abbrev pub longer : World H → Entry H → World H
  longer world entry = record world { log = world.log ++ entry ∷ [] }

  -- the makers are passes there are, so there are few events
  pub run_is_short : (world : World H) (next : ℕ) → IsRun m deal world next → deal.passes * deal.quota ≤ 131072 → length world.log ≤ 131072
  run_is_short world next run small =
      let few : length world.log ≤ deal.passes * deal.quota = few_events deal.passes deal.quota world.log
      (λ k entry at. ⊎_elim (λ (l : entry.maker < world.given). let below = run.given_below in let n : entry.maker < deal.passes = omega arith in n)
      (λ (e : entry.maker + 1 ≡ deal.passes). let n : entry.maker < deal.passes = omega arith in n) (run.makers k entry at)) run.within in
      omega arith

  module _ (world : World H) (entry : Entry H) where
    output_stays : (node : ℕ) (letter : Told) → IsOutput m (events world.log) node letter → IsOutput m (events (world.log ++ entry ∷ [])) node letter
    output_stays node letter h = subst (λ (es : List (Event H)). IsOutput m es node letter) (sym (events_push world.log entry)) (output_longer m (events world.log) (entry.event ∷ []) node letter h)

    pub letter_stays : (o : Option Addressed) → KnowsLetter m (events world.log) o → KnowsLetter m (events (world.log ++ entry ∷ [])) o
    letter_stays None h = tt
    letter_stays (Some addressed) h = output_stays addressed.node (told addressed.letter) h

    -- the lists of the passes that were joined to another
    joined_stay : (number seat : ℕ) (joined : List (Joined H)) → ((part : ℕ) → part ≢ number → world.seat_of part ≡ seat → part ≢ entry.maker)
        → KnowsJoined deal.passes world number seat joined → KnowsJoined deal.passes (longer world entry) number seat joined
    joined_stay number seat [] other k = tt
    joined_stay number seat (part ∷ joined) other k =
        ((k.0.0, k.0.1, k.0.2, k.0.3 ∙ sym (own_else part.number world.log entry (λ e. other part.number k.0.0 k.0.2 (sym e)))), joined_stay number seat joined other k.1)

    -- the turns of others
    turn_stays : (words words' : List ℕ) (number : ℕ) (turn : Option (Turn H)) → ((k : ℕ) → slice_index words' (k + 1) ≡ slice_index words (k + 1))
        → (slice_index words (entry.event.node + 1) ≢ number + 1) → KnowsTurn (nodes_of deal) words world.log number turn → KnowsTurn (nodes_of deal) words' (world.log ++ entry ∷ []) number turn
    turn_stays words words' number None same other k = tt
    turn_stays words words' number (Some turn) same other k =
        (k.0, same turn.node ∙ k.1, k.2 ∙ sym (cell_else turn.node world.log entry (λ e. other (subst (λ (j : ℕ). slice_index words (j + 1) ≡ number + 1) (sym e) k.1))))

    pub box_stays : (words words' : List ℕ) (number : ℕ) (boxed : Option ℕ) → ((k : ℕ) → slice_index words' (k + 1) ≡ slice_index words (k + 1))
        → KnowsBox (nodes_of deal) words number boxed → KnowsBox (nodes_of deal) words' number boxed
    box_stays words words' number None same k = tt
    box_stays words words' number (Some slot) same k = (k.0, k.1, same slot ∙ k.2)

    -- what another pass knows
    pub others_know : (words words' : List ℕ) (seat : ℕ) (view : View S H) → ((k : ℕ) → slice_index words' (k + 1) ≡ slice_index words (k + 1)) → world.seat_of entry.maker ≢ seat
        → slice_index words (entry.event.node + 1) ≡ entry.maker + 1 → Knows m deal world words seat view → Knows m deal (longer world entry) words' seat view
    others_know words words' seat view same other busy k =
        let else : entry.maker ≢ view.number = λ e. other (ap world.seat_of e ∙ k.seat_is) in record {
          deal_is = k.deal_is;
          number_is = k.number_is;
          seat_is = k.seat_is;
          own_is = k.own_is ∙ sym (own_else view.number world.log entry else);
          joined_are = joined_stay view.number seat view.joined (λ part ne at e. other (ap world.seat_of (sym e) ∙ at)) k.joined_are;
          given_is = given_stays view.given k.given_is;
          turn_is = turn_stays words words' view.number view.turn same (λ e. else (omega arith)) k.turn_is;
          boxed_is = box_stays words words' view.number view.boxed same k.boxed_is;
          fetched_is = letter_stays view.fetched k.fetched_is;
        }
      where
        given_stays : (o : Option ℕ) → Rattle.tied_cells.specs.Rule.KnowsGiven world seat o → Rattle.tied_cells.specs.Rule.KnowsGiven (longer world entry) seat o
        given_stays None h = tt
        given_stays (Some n) h = h

    -- what the pass itself knows
    pub maker_knows : (words words' : List ℕ) (seat : ℕ) (view : View S H) (turn : Turn H) → ((k : ℕ) → slice_index words' (k + 1) ≡ slice_index words (k + 1))
        → entry.maker ≡ view.number → view.turn ≡ Some turn → entry.event.node ≡ turn.node → Knows m deal world words seat view
        → Knows m deal (longer world entry) words' seat (grown m view (length world.log) entry.event.happened)
    maker_knows words words' seat view turn same mine has here k = record {
      deal_is = k.deal_is;
      number_is = k.number_is;
      seat_is = k.seat_is;
      own_is = (λ i. k.own_is i ++ record { place = length world.log; node = node_is i; happened = entry.event.happened } ∷ []) ∙ sym (own_here view.number world.log entry mine);
      joined_are = joined_stay view.number seat view.joined (λ part ne at e. ne (e ∙ mine)) k.joined_are;
      given_is = given_stays view.given k.given_is;
      turn_is = subst (λ (o : Option (Turn H)). KnowsTurn (nodes_of deal) words' (world.log ++ entry ∷ []) view.number (grown_turn (length world.log) entry.event.happened o)) (sym has)
          (turn_grows (subst (KnowsTurn (nodes_of deal) words world.log view.number) has k.turn_is));
      boxed_is = box_stays words words' view.number view.boxed same k.boxed_is;
      fetched_is = letter_left (m.delivers (m.input entry.event.happened)) (letter_stays view.fetched k.fetched_is);
    }
      where
        node_is : turn_node view.turn ≡ entry.event.node
        node_is = ap turn_node has ∙ sym here

        given_stays : (o : Option ℕ) → Rattle.tied_cells.specs.Rule.KnowsGiven world seat o → Rattle.tied_cells.specs.Rule.KnowsGiven (longer world entry) seat o
        given_stays None h = tt
        given_stays (Some n) h = h

        turn_grows : KnowsTurn (nodes_of deal) words world.log view.number (Some turn)
            → KnowsTurn (nodes_of deal) words' (world.log ++ entry ∷ []) view.number (Some (record turn { events = turn.events ++ record { place = length world.log; happened = entry.event.happened } ∷ [] }))
        turn_grows t = (
          t.0,
          same turn.node ∙ t.1,
          ap (λ (es : List _). es ++ record { place = length world.log; happened = entry.event.happened } ∷ []) t.2 ∙ sym (cell_here turn.node world.log entry here),
        )

        letter_left : (o : Option Told) → KnowsLetter m (events (world.log ++ entry ∷ [])) view.fetched → KnowsLetter m (events (world.log ++ entry ∷ [])) (undelivered o view.fetched)
        letter_left None h = h
        letter_left (Some letter) h = tt

    -- the run goes on
    pub run_grows : (next : ℕ) → IsRun m deal world next → IsGiven deal.passes world.given entry.maker → length (own_list entry.maker world.log) < deal.quota
        → IsNext m deal.starts (events world.log) entry.event → IsRun m deal (longer world entry) (suc next)
    run_grows next run given roomy follows = record {
      next_is = ap suc run.next_is ∙ longer_by;
      legal = subst (IsLegal m deal.starts) (sym (events_push world.log entry)) (legal_push m deal.starts (events world.log) entry.event run.legal follows);
      makers = λ k e at. ⊎_elim (λ (p : (slice_get world.log k ≡ Some e) × _). run.makers k e p.0)
          (λ (p : (entry ≡ e) × _). subst (λ (x : Entry H). IsGiven deal.passes world.given x.maker) p.0 given) (at_push world.log entry k e at);
      within = λ number. ⊎_elim
          (λ (e : entry.maker ≡ number). let grown_by = ap (length {A = Own H}) (own_here number world.log entry e) in
          let one : length (own_list number world.log ++ own_of (length world.log) entry ∷ []) ≡ length (own_list number world.log) + 1 = length-append (own_list number world.log) (own_of (length world.log) entry ∷ []) in
          let few : length (own_list number world.log) < deal.quota = subst (λ (n : ℕ). length (own_list n world.log) < deal.quota) e roomy in
          let out : length (own_list number (world.log ++ entry ∷ [])) ≤ deal.quota = omega arith in out)
          (λ (ne : entry.maker ≢ number). subst (λ (l : List (Own H)). length l ≤ deal.quota) (sym (own_else number world.log entry ne)) (run.within number))
          (cases_eq entry.maker number);
      given_below = run.given_below;
    }
      where
        longer_by : suc (length world.log) ≡ length (world.log ++ entry ∷ [])
        longer_by = let e : length (world.log ++ entry ∷ []) ≡ length world.log + 1 = length-append world.log (entry ∷ []) in omega arith

-- a fetched letter may be delivered at its node
delivered_so : {S I H : Type 0} (m : Meanings S I H) (log : List (Event H)) (node : ℕ) (letter : Option Told) (fetched : Option Addressed) → KnowsLetter m log fetched
    → IsLastFetched node letter fetched → IsDelivered m log node letter
delivered_so m log node None fetched k last = tt
delivered_so m log node (Some letter) fetched k last =
    let out = subst (KnowsLetter m log) last.1 k in
    subst (λ (x : ℕ × Told). IsOutput m log x.0 x.1) (λ i. (last.2 i, last.3 i)) out

grown_hand : {H : Type 0} (k place : ℕ) (happened : H) (turn : Option (Turn H)) → HasTurnAt k turn → HasTurnAt k (grown_turn place happened turn)
grown_hand k place happened None h = h
grown_hand k place happened (Some turn) h = h

module _ {A S I H : Type 0} (state : A → S) (m : Meanings S I H) (deal : Deal S) where
  abbrev Seat : Type 0
  Seat = Me (Stored A H) (View S H)

  abbrev Rule : State (Stored A H) (View S H) → Type 0
  Rule = Holds state m deal

  -- the node's events are those of the turn, and the event may come next
  follows_on : (s : State (Stored A H) (View S H)) (r : Rule s) (id : ℕ) (v : View S H) (turn : Turn H) (happened : H) → get_elem? s.views id ≡ some v → v.alive ≡ true → v.turn ≡ Some turn
      → Steps m v turn happened → (of_node turn.node (events r.world.log) ≡ map happened_of turn.events) × IsNext m deal.starts (events r.world.log) (record { node = turn.node; happened = happened })
  follows_on s r id v turn happened at alive has steps =
      let k = known m deal r.world s.words id v alive (r.passes id v at) in
      let log = r.world.log in
      let t = subst (KnowsTurn (nodes_of deal) s.words log v.number) has k.turn_is in
      let now : map happened_of turn.events ≡ of_node turn.node (events log) = ap (map happened_of) t.2 ∙ sym (cell_happened turn.node 0 log) in (
        sym now,
        (
          steps.start,
          subst (λ (d : Deal S). slice_get d.starts turn.node ≡ Some steps.start) k.deal_is steps.starts_so,
          subst (λ (hs : List H). Follows m (state_after m steps.start hs) (events log) turn.node happened) now (record {
            fits = steps.fits;
            row = steps.row;
            delivered = delivered_so m (events log) turn.node (m.delivers (m.input happened)) v.fetched k.fetched_is steps.delivered;
          }),
        ),
      )

  -- it stands at its place in a legal history
  is_placed : (s : State (Stored A H) (View S H)) (r : Rule s) (id : ℕ) (v : View S H) (turn : Turn H) (happened : H) → get_elem? s.views id ≡ some v → v.alive ≡ true → v.turn ≡ Some turn
      → Steps m v turn happened → IsPlaced m v.deal.starts turn (slice_index s.words 0) happened
  is_placed s r id v turn happened at alive has steps =
      let k = known m deal r.world s.words id v alive (r.passes id v at) in
      let f = follows_on s r id v turn happened at alive has steps in
      subst (λ (d : Deal S). IsPlaced m d.starts turn (slice_index s.words 0) happened) (sym k.deal_is) (record {
        before = events r.world.log;
        sound = r.sound;
        legal = legal_push m deal.starts (events r.world.log) (record { node = turn.node; happened = happened }) r.run.legal f.1;
        place_is = length-map r.world.log event_of ∙ sym r.run.next_is;
        at_node = f.0;
      })

  -- the history grows by an event of the pass
  grows : (s : State (Stored A H) (View S H)) (r : Rule s) (id : ℕ) (v : View S H) (turn : Turn H) (happened : H) → get_elem? s.views id ≡ some v → v.alive ≡ true → v.turn ≡ Some turn
      → length v.own < v.deal.quota → Steps m v turn happened
      → (slice_index s.words 0 < 131072) × Rule record { words = set s.words 0 ((slice_index s.words 0 + 1) % 2 ^ 64); homes = s.homes; views = set s.views id (grown m v (slice_index s.words 0) happened) }
  grows s r id v turn happened at alive has roomy steps =
      let k = known m deal r.world s.words id v alive (r.passes id v at) in
      let world = r.world in
      let entry : Entry H = record { maker = v.number; event = record { node = turn.node; happened = happened } } in
      let next : ℕ = slice_index s.words 0 in
      let t = subst (KnowsTurn (nodes_of deal) s.words world.log v.number) has k.turn_is in
      let room : length (own_list v.number world.log) < deal.quota = subst (λ (d : Deal S). length (own_list v.number world.log) < d.quota) k.deal_is (subst (λ (l : List (Own H)). length l < v.deal.quota) k.own_is roomy) in
      let follows : IsNext m deal.starts (events world.log) entry.event = (follows_on s r id v turn happened at alive has steps).1 in
      let run : IsRun m deal (longer m deal world entry) (suc next) = run_grows m deal world entry next r.run k.number_is room follows in
      let short : length (world.log ++ entry ∷ []) ≤ 131072 = run_is_short m deal (longer m deal world entry) (suc next) run r.small in
      let last : suc next ≡ length (world.log ++ entry ∷ []) = run.next_is in
      let below : next < 131072 = omega arith in
      let small : next + 1 < 2 ^ 64 = omega arith in let wrapped : (next + 1) % 2 ^ 64 ≡ suc next = omega arith in
      let wraps : (next + 1) % 2 ^ 64 ≡ suc next = wrapped in
      let words' : List ℕ = set s.words 0 ((next + 1) % 2 ^ 64) in
      let first : slice_index words' 0 ≡ suc next = get_or-set_same s.words 0 ((next + 1) % 2 ^ 64) 0 (omega (arith, r.sized.words_are)) ∙ wraps in
      let others : (j : ℕ) → slice_index words' (j + 1) ≡ slice_index s.words (j + 1) = λ j. get_or-set_other s.words 0 (j + 1) ((next + 1) % 2 ^ 64) 0 (λ e. omega arith) in
      let w : View S H = grown m v next happened in
      let mine : Knows m deal (longer m deal world entry) words' id w = subst (λ (n : ℕ). Knows m deal (longer m deal world entry) words' id (grown m v n happened)) (sym r.run.next_is)
      (maker_knows m deal world entry s.words words' id v turn others refl has refl k) in (
        below,
        record {
          world = longer m deal world entry;
          sized = record { words_are = length-set s.words 0 ((next + 1) % 2 ^ 64) ∙ r.sized.words_are; slots_are = r.sized.slots_are };
          small = r.small;
          sound = r.sound;
          run = subst (IsRun m deal (longer m deal world entry)) (sym first) run;
          passes = passes_after m deal world (longer m deal world entry) s.words words' s.views id w r.passes
              (stands m deal (longer m deal world entry) words' id w alive mine)
              (λ seat view ne. others_know m deal world entry s.words words' seat view others (λ e. ne (sym e ∙ k.seat_is)) t.1);
          cells = λ slot inside free. let free' : slice_index s.words (slot + 1) ≡ 0 = sym (others slot) ∙ free in let c = r.cells slot inside free' in
              (c.0, c.1, c.2 ∙ sym (cell_else slot world.log entry (λ e. let busy = subst (λ (j : ℕ). slice_index s.words (j + 1) ≡ v.number + 1) e t.1 in let no : ⊥ = omega arith in no)), c.3);
          boxes = λ slot above inside. let b = r.boxes slot above inside in record {
            empty = λ e. b.empty (sym (others slot) ∙ e);
            full = λ e. let f = b.full (sym (others slot) ∙ e) in (f.0, f.1, letter_stays m deal world entry (Some (record { node = Rattle.tied_cells.specs.Rule.box_node (nodes_of deal) slot; letter = f.0 })) f.2);
          };
          kept = λ slot inside out. kept_after (nodes_of deal) s.views id slot v w at (λ hand. ((λ l. grown_hand slot next happened v.turn (hand.0 l)), hand.1))
              (r.kept slot inside (subst (IsOut (nodes_of deal) slot) (others slot) out));
        },
      )

  pub commits : (slots id slot : ℕ) (me : Seat) (v : View S H) (turn : Turn H) (happened : H) (cs : List (ℕ × Stored A H)) → me ≡ (v, (slot, Said happened) ∷ cs)
      → v.alive ≡ true → v.turn ≡ Some turn → length v.own < v.deal.quota → Steps m v turn happened
      → Allows Rule slots id me 0 (λ n. (n + 1) % 2 ^ 64) (placed m (step slots 0 1 0 none) me)
  commits slots id slot me v turn happened cs me_is alive has roomy steps =
      subst (λ (x : Seat). Allows Rule slots id x 0 (λ n. (n + 1) % 2 ^ 64) (placed m (step slots 0 1 0 none) x)) (sym me_is)
      (λ s r deep at fits. let g = grows s r id v turn happened at alive has roomy steps in (
        grown m v (slice_index s.words 0) happened,
        keeps,
        tt,
        g.1,
        (
          g.0,
          λ other said rest is. let stored : Said happened ≡ Said said = same_stored slot other (Said happened) (Said said) cs rest is in let same : happened ≡ said = cc in (
            ap (λ (h : H). (grown m v (slice_index s.words 0) h, (slot, Said happened) ∷ cs)) same,
            λ own held. let one : turn ≡ own = let e = sym has ∙ held in cc in
                subst (λ (x : Turn H × H). IsPlaced m v.deal.starts x.0 (slice_index s.words 0) x.1) (λ i. (one i, same i)) (is_placed s r id v turn happened at alive has steps),
          ),
        ),
      ))

module _ {A S I H : Type 0} (m : Meanings S I H) where
  -- the event lay in the slot while it got its place
  pub placed_view : (before there after : Me (Stored A H) (View S H)) (v : View S H) (node place : ℕ) (happened : H) (old : List (ℕ × Stored A H)) → before ≡ (v, (node, Said happened) ∷ rest old)
      → there ≡ (grown m before.0 place happened, before.1) → after ≡ (there.0, (node, Nothing) ∷ rest there.1) → old ≡ (node, Nothing) ∷ []
      → after ≡ (grown m v place happened, (node, Nothing) ∷ [])
  placed_view before there after v node place happened old b t a o =
      a ∙ (λ i. ((t i).0, (node, Nothing) ∷ rest (t i).1)) ∙ (λ i. (grown m (b i).0 place happened, (node, Nothing) ∷ rest (b i).1)) ∙ (λ i. (grown m v place happened, (node, Nothing) ∷ rest (o i)))

  pub placed_stored : (before there : Me (Stored A H) (View S H)) (v : View S H) (node place : ℕ) (happened : H) (old : List (ℕ × Stored A H)) → before ≡ (v, (node, Said happened) ∷ old)
      → there ≡ (grown m before.0 place happened, before.1) → there.1 ≡ (node, Said happened) ∷ old
  placed_stored before there v node place happened old b t = (λ i. (t i).1) ∙ (λ i. (b i).1)
