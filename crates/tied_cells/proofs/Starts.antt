-- The opening, event by event.
use Rattle.std.proofs.Common.{◌≡◌, ◌≢◌, ℕ, zero, suc, ◌*◌, ◌<◌, ⊎_elim, List, [], ◌∷◌, ◌++◌, map, length, set, get_or, take, drop, replicate, Some, Result, Ok, Err, OnOk, OnErr, slice_get, refl, sym, ap, ◌∙◌, subst, arith, length-set, map-id, take-append-drop}
use Rattle.std.proofs.lemmas.Bool.{cases_eq}
use Rattle.std.proofs.lemmas.Option.{none-some, same_Some, slice_get-map}
use Rattle.std.proofs.lemmas.List.{map-append}
use Rattle.std.specs.Option.{option_map}
use lib.ListN.{length-map}
use lib.Seq.{set-append_left, map-set, set-set}
use Rattle.log_base.specs.Machines.{Meanings, Event, of_node, state_after, IsDelivered, Follows, IsNext}
use Rattle.log_base.specs.declared.numbers.NodeId.{NodeId}
use Rattle.log_base.specs.declared.machine.Committed.{Committed}
use Rattle.log_base.proofs.Legal.{at_longer, legal_none, legal_push, state_after-push}
use Rattle.tied_cells.specs.declared.board.Cell.{Cell}
use Rattle.tied_cells.specs.declared.board.Stored.{Stored}
use Rattle.tied_cells.specs.declared.board.Stored.TheVariants.{Nothing, Home}
use Rattle.tied_cells.specs.declared.board.Opened.{Opened}
use Rattle.tied_cells.specs.History.{Entry, events, cell_list, happened_of, StandsAfter}
use Rattle.tied_cells.specs.Opening.{asked_by, MayOpen, opened_event, made_by, laid, AreFresh, CellOpens, AreOpened, OpensAt, StaysAt, IsOpening}
use Rattle.tied_cells.proofs.Picked.{cell_here, cell_else, cell_happened}

module _ {X : Type 0} where
  pub get_set_here : (xs : List X) (k : ℕ) (x y : X) → slice_get xs k ≡ Some y → slice_get (set xs k x) k ≡ Some x
  get_set_here [] k x y h = absurd (none-some y h)
  get_set_here (z ∷ xs) zero x y h = refl
  get_set_here (z ∷ xs) (suc k) x y h = get_set_here xs k x y h

  pub get_set_else : (xs : List X) (k j : ℕ) (x : X) → j ≢ k → slice_get (set xs k x) j ≡ slice_get xs j
  get_set_else [] k j x ne = refl
  get_set_else (z ∷ xs) zero zero x ne = absurd (ne refl)
  get_set_else (z ∷ xs) zero (suc j) x ne = refl
  get_set_else (z ∷ xs) (suc k) zero x ne = refl
  get_set_else (z ∷ xs) (suc k) (suc j) x ne = get_set_else xs k j x (λ e. ne (ap suc e))

  pub there_is : (xs : List X) (k : ℕ) → k < length xs → (x : X) × (slice_get xs k ≡ Some x)
  there_is [] k h = absurd (omega arith)
  there_is (x ∷ xs) zero h = (x, refl)
  there_is (x ∷ xs) (suc k) h = there_is xs k (omega arith)

  -- what was taken of a list is its front
  pub front_of : (xs all : List X) → map (λ (x : X). x) xs ≡ take (length xs) all → (rest : List X) × (all ≡ xs ++ rest)
  front_of xs all e = (drop (length xs) all, sym (take-append-drop (length xs) all) ∙ ap (λ (l : List X). l ++ drop (length xs) all) (sym e ∙ map-id xs))

  pub next_of : (xs rest : List X) (x : X) → length xs < length (xs ++ rest) → x ≡ get_or (xs ++ rest) (length xs) x → (more : List X) × (rest ≡ x ∷ more)
  next_of [] [] x lt e = absurd (omega arith)
  next_of [] (y ∷ rest) x lt e = (rest, ap (λ (z : X). z ∷ rest) (sym e))
  next_of (y ∷ xs) rest x lt e = next_of xs rest x (omega arith) e

  -- a list of which some were taken goes on with the next
  pub goes_on : (xs all : List X) (x : X) → map (λ (y : X). y) xs ≡ take (length xs) all → length xs < length all → x ≡ get_or all (length xs) x → (more : List X) × (all ≡ xs ++ x ∷ more)
  goes_on xs all x e lt here = let f = front_of xs all e in
      let n = next_of xs f.0 x (subst (λ (l : List X). length xs < length l) f.1 lt) (subst (λ (l : List X). x ≡ get_or l (length xs) x) f.1 here) in
      (n.0, f.1 ∙ ap (λ (l : List X). xs ++ l) n.1)

module _ {A H : Type 0} where
  homes : List (Cell A H) → List (Stored A H)
  homes cells = map Home cells

  pub home_at : (cells : List (Cell A H)) (n : ℕ) (cell : Cell A H) → slice_get cells n ≡ Some cell → slice_get (laid cells) n ≡ Some (Home cell)
  home_at cells n cell h = (at_longer (map Home cells) (replicate (16 * length cells) Nothing) n (Home cell) (slice_get-map Home cells n ∙ ap (option_map Home) h)).0

  same_home : (b c : Cell A H) → Some (Home b) ≡ Some (Home c) → b ≡ c
  same_home b c e = cc

  pub cell_at : (cells : List (Cell A H)) (n : ℕ) (cell : Cell A H) → n < length cells → slice_get (laid cells) n ≡ Some (Home cell) → slice_get cells n ≡ Some cell
  cell_at cells n cell below h = let c = there_is cells n below in c.1 ∙ ap (λ (x : Cell A H). Some x) (same_home c.0 cell (sym (home_at cells n c.0 c.1) ∙ h))

  pub laid_set : (cells : List (Cell A H)) (n : ℕ) (cell : Cell A H) → n < length cells → set (laid cells) n (Home cell) ≡ laid (set cells n cell)
  laid_set cells n cell below =
      let within : n < length (map Home cells) = let e = length-map cells Home in omega arith in
      set-append_left (map Home cells) (replicate (16 * length cells) Nothing) n (Home cell) within
      ∙ (λ i. sym (map-set Home cells n cell) i ++ replicate (16 * sym (length-set cells n cell) i) Nothing)

module _ {H : Type 0} where
  -- the events of a history of one maker are the history
  pub events_made : (maker : ℕ) (log : List (Event H)) → events (made_by maker log) ≡ log
  events_made maker [] = refl
  events_made maker (event ∷ log) = ap (λ (l : List (Event H)). event ∷ l) (events_made maker log)

  pub made_push : (maker : ℕ) (log : List (Event H)) (event : Event H) → made_by maker (log ++ event ∷ []) ≡ made_by maker log ++ record { maker = maker; event = event } ∷ []
  made_push maker log event = map-append (λ (e : Event H). record { maker = maker; event = e }) log (event ∷ [])

  pub length-made : (maker : ℕ) (log : List (Event H)) → length (made_by maker log) ≡ length log
  length-made maker log = length-map log (λ (e : Event H). record { maker = maker; event = e })

  pub happened_at : (node maker : ℕ) (log : List (Event H)) → of_node node log ≡ map happened_of (cell_list node (made_by maker log))
  happened_at node maker log = ap (of_node node) (sym (events_made maker log)) ∙ cell_happened node 0 (made_by maker log)

module _ {A S I H : Type 0} (state : A → S) (m : Meanings S I H) (starts : List S) where
  -- where a cell stands
  pub stands_at : (cells : List (Cell A H)) (log : List (Event H)) → AreOpened state m starts cells log → (n : ℕ) (cell : Cell A H) → slice_get cells n ≡ Some cell
      → (start : S) × (slice_get starts n ≡ Some start) × (state cell.machine ≡ state_after m start (of_node n log))
  stands_at cells log o n cell at = let e = o.each n cell at in
      (e.1.0, e.1.1, e.1.2 ∙ ap (state_after m e.1.0) (ap (map happened_of) (e.0 0) ∙ sym (happened_at n 0 log)))

  -- the cell that an input is for, whose machine it fits
  pub next_cell : (opening done rest : List (NodeId × I)) (asked : NodeId × I) (slots : List (Stored A H)) (made : List (Opened H)) → MayOpen m starts opening → opening ≡ done ++ asked ∷ rest
      → IsOpening state m starts done slots made → (cell : Cell A H) × (slice_get slots asked.0.0 ≡ Some (Home cell)) × m.fits (state cell.machine) asked.1
  next_cell opening done rest asked slots made may split o =
      let log : List (Event H) = map opened_event made in
      let at : slice_get opening (length done) ≡ Some asked = ap (λ (l : List (NodeId × I)). slice_get l (length done)) split ∙ seam done asked rest in
      let inside : asked.0.0 < length starts = may.nodes (length done) asked at in
      let many = o.opened.as_many in
      let cell = there_is o.cells asked.0.0 (omega arith) in
      let s = stands_at o.cells log o.opened asked.0.0 cell.0 cell.1 in (
        cell.0,
        ap (λ (l : List (Stored A H)). slice_get l asked.0.0) o.laid_so ∙ home_at o.cells asked.0.0 cell.0 cell.1,
        subst (λ (x : S). m.fits x asked.1) (sym s.2) (may.fits log asked rest (split ∙ ap (λ (l : List (NodeId × I)). l ++ asked ∷ rest) o.asked) o.opened.legal s.0 s.1),
      )
    where
      seam : (xs : List (NodeId × I)) (x : NodeId × I) (ys : List (NodeId × I)) → slice_get (xs ++ x ∷ ys) (length xs) ≡ Some x
      seam [] x ys = refl
      seam (y ∷ xs) x ys = seam xs x ys

  -- one more input was made an event
  pub opens_more : (opening done rest : List (NodeId × I)) (asked : NodeId × I) (slots slots' : List (Stored A H)) (made made' : List (Opened H)) → MayOpen m starts opening → opening ≡ done ++ asked ∷ rest
      → IsOpening state m starts done slots made → OpensAt state m slots slots' made made' asked → IsOpening state m starts (done ++ asked ∷ []) slots' made'
  opens_more opening done rest asked slots slots' made made' may split o step =
      let log : List (Event H) = map opened_event made in let event : Event H = opened_event step.opened in let n : ℕ = asked.0.0 in
      let at : slice_get opening (length done) ≡ Some asked = ap (λ (l : List (NodeId × I)). slice_get l (length done)) split ∙ seam done asked rest in
      let inside : n < length starts = may.nodes (length done) asked at in
      let many = o.opened.as_many in
      let below : n < length o.cells = omega arith in
      let cell : slice_get o.cells n ≡ Some step.before = cell_at o.cells n step.before below (ap (λ (l : List (Stored A H)). slice_get l n) (sym o.laid_so) ∙ step.there) in
      let s = stands_at o.cells log o.opened n step.before cell in
      let e = o.opened.each n step.before cell in
      let said = step.opened.happened.value in
      let input : m.input said ≡ asked.1 = step.opens.input_is in
      let fits : m.fits (state_after m s.0 (of_node n log)) asked.1 = may.fits log asked rest (split ∙ ap (λ (l : List (NodeId × I)). l ++ asked ∷ rest) o.asked) o.opened.legal s.0 s.1 in
      let follows : Follows m (state_after m s.0 (of_node n log)) log n said = record {
        fits = subst (m.fits (state_after m s.0 (of_node n log))) (sym input) fits;
        row = subst (λ (x : S). m.is_row x said) s.2 step.opens.row;
        delivered = subst (IsDelivered m log n) (sym (ap m.delivers input ∙ may.quiet (length done) asked at)) tt;
      } in
      let next : IsNext m starts log event = subst (λ (k : ℕ). IsNext m starts log (record { node = k; happened = said })) (sym step.node_is) (s.0, s.1, follows) in
      let grown_log : map opened_event made' ≡ log ++ event ∷ [] = ap (map opened_event) step.made_is ∙ map-append opened_event made (step.opened ∷ []) in
      let node_is : (maker : ℕ) → Entry H = λ maker. record { maker = maker; event = event } in
      record {
        cells = set o.cells n step.after;
        laid_so = step.now ∙ (ap (λ (l : List (Stored A H)). set l n (Home step.after)) o.laid_so ∙ laid_set o.cells n step.after below);
        opened = subst (AreOpened state m starts (set o.cells n step.after)) (sym grown_log) (record {
          as_many = length-set o.cells n step.after ∙ many;
          legal = legal_push m starts log event o.opened.legal next;
          each = λ k c there. ⊎_elim
              (λ (same : k ≡ n). let is : step.after ≡ c = same_Some step.after c (sym (get_set_here o.cells n step.after step.before cell) ∙ (ap (slice_get (set o.cells n step.after)) (sym same) ∙ there)) in
              subst (λ (x : ℕ × Cell A H). ((maker : ℕ) → x.1.events.items ≡ cell_list x.0 (made_by maker (log ++ event ∷ []))) × StandsAfter state m starts x.0 x.1.machine x.1.events.items) (λ i. (sym same i, is i)) (
                (λ maker. step.opens.events ∙ ((λ i. e.0 maker i ++ record { place = (sym (length-made maker log ∙ length-map made opened_event)) i; happened = said } ∷ [])
                    ∙ (sym (cell_here n (made_by maker log) (node_is maker) step.node_is) ∙ ap (cell_list n) (sym (made_push maker log event))))),
                (
                  e.1.0,
                  e.1.1,
                  step.opens.after ∙ (ap (λ (x : S). m.after x said) e.1.2 ∙ (sym (state_after-push m e.1.0 (map happened_of step.before.events.items) said)
                      ∙ ap (state_after m e.1.0) (sym (map-append happened_of step.before.events.items (record { place = length made; happened = said } ∷ [])) ∙ ap (map happened_of) (sym step.opens.events)))),
                ),
              ))
              (λ (ne : k ≢ n). let before = o.opened.each k c (sym (get_set_else o.cells n k step.after ne) ∙ there) in
              ((λ maker. before.0 maker ∙ (sym (cell_else k (made_by maker log) (node_is maker) (λ q. ne (sym q ∙ step.node_is))) ∙ ap (cell_list k) (sym (made_push maker log event)))), before.1))
              (cases_eq k n);
        });
        asked = ap (λ (l : List (NodeId × I)). l ++ asked ∷ []) o.asked ∙ ((λ i. map (asked_by m) log ++ (record { 0 = sym step.node_is i }, sym input i) ∷ [])
            ∙ (sym (map-append (asked_by m) log (event ∷ [])) ∙ ap (map (asked_by m)) (sym grown_log)));
      }
    where
      seam : (xs : List (NodeId × I)) (x : NodeId × I) (ys : List (NodeId × I)) → slice_get (xs ++ x ∷ ys) (length xs) ≡ Some x
      seam [] x ys = refl
      seam (y ∷ xs) x ys = seam xs x ys

  -- memory ran out at an input
  pub opens_no_more : (opening done rest : List (NodeId × I)) (asked : NodeId × I) (slots slots' : List (Stored A H)) (made : List (Opened H)) → MayOpen m starts opening → opening ≡ done ++ asked ∷ rest
      → IsOpening state m starts done slots made → StaysAt state m slots slots' asked → IsOpening state m starts done slots' made
  opens_no_more opening done rest asked slots slots' made may split o step =
      let n : ℕ = asked.0.0 in
      let at : slice_get opening (length done) ≡ Some asked = ap (λ (l : List (NodeId × I)). slice_get l (length done)) split ∙ seam done asked rest in
      let inside : n < length starts = may.nodes (length done) asked at in
      let many = o.opened.as_many in
      let below : n < length o.cells = omega arith in
      let cell : slice_get o.cells n ≡ Some step.before = cell_at o.cells n step.before below (ap (λ (l : List (Stored A H)). slice_get l n) (sym o.laid_so) ∙ step.there) in
      let e = o.opened.each n step.before cell in
      record {
        cells = set o.cells n step.after;
        laid_so = step.now ∙ (ap (λ (l : List (Stored A H)). set l n (Home step.after)) o.laid_so ∙ laid_set o.cells n step.after below);
        opened = record {
          as_many = length-set o.cells n step.after ∙ many;
          legal = o.opened.legal;
          each = λ k c there. ⊎_elim
              (λ (same : k ≡ n). let is : step.after ≡ c = same_Some step.after c (sym (get_set_here o.cells n step.after step.before cell) ∙ (ap (slice_get (set o.cells n step.after)) (sym same) ∙ there)) in
              subst (λ (x : ℕ × Cell A H). ((maker : ℕ) → x.1.events.items ≡ cell_list x.0 (made_by maker (map opened_event made))) × StandsAfter state m starts x.0 x.1.machine x.1.events.items) (λ i. (sym same i, is i))
              ((λ maker. step.events_are ∙ e.0 maker), (e.1.0, e.1.1, step.state_is ∙ (e.1.2 ∙ ap (λ (l : List (Committed H)). state_after m e.1.0 (map happened_of l)) (sym step.events_are)))))
              (λ (ne : k ≢ n). o.opened.each k c (sym (get_set_else o.cells n k step.after ne) ∙ there))
              (cases_eq k n);
        };
        asked = o.asked;
      }
    where
      seam : (xs : List (NodeId × I)) (x : NodeId × I) (ys : List (NodeId × I)) → slice_get (xs ++ x ∷ ys) (length xs) ≡ Some x
      seam [] x ys = refl
      seam (y ∷ xs) x ys = seam xs x ys

-- before the opening each machine has a cell with no events
pub opens_none : {A S I H : Type 0} (state : A → S) (m : Meanings S I H) (machines : List A) (cells : List (Cell A H)) → AreFresh machines cells → IsOpening state m (map state machines) [] (laid cells) []
opens_none state m machines cells fresh = record {
  cells = cells;
  laid_so = refl;
  opened = record {
    as_many = fresh.as_many ∙ sym (length-map machines state);
    legal = legal_none m (map state machines);
    each = λ n cell at. let f = fresh.each n cell at in
        ((λ maker. f.1), (state cell.machine, slice_get-map state machines n ∙ ap (option_map state) f.0, ap (λ (l : List _). state_after m (state cell.machine) (map happened_of l)) (sym f.1)));
  };
  asked = refl;
}

module _ {A S I H E : Type 0} (state : A → S) (m : Meanings S I H) (result : Result (Unit {0}) E) (slots : List (Stored A H)) (made made' : List (Opened H)) (asked : NodeId × I)
    (cell cell' : Cell A H) (between : Stored A H) (there : slice_get slots asked.0.0 ≡ Some (Home cell)) where
  put_back : set (set slots asked.0.0 between) asked.0.0 (Home cell') ≡ set slots asked.0.0 (Home cell')
  put_back = set-set slots asked.0.0 between (Home cell')

  -- the cell that was taken out of its slot was put back, with one more event
  pub opened_at : OnOk result ((opened : Opened H) × (made' ≡ made ++ opened ∷ []) × (opened.node ≡ asked.0.0) × CellOpens state m cell cell' (length made) asked.1 opened.happened.value)
      → OnOk result (OpensAt state m slots (set (set slots asked.0.0 between) asked.0.0 (Home cell')) made made' asked)
  opened_at h = on_ok result h
    where
      on_ok : (r : Result (Unit {0}) E) → OnOk r ((opened : Opened H) × (made' ≡ made ++ opened ∷ []) × (opened.node ≡ asked.0.0) × CellOpens state m cell cell' (length made) asked.1 opened.happened.value)
          → OnOk r (OpensAt state m slots (set (set slots asked.0.0 between) asked.0.0 (Home cell')) made made' asked)
      on_ok (Ok x) p = record { before = cell; after = cell'; opened = p.0; there = there; now = put_back; made_is = p.1; node_is = p.2; opens = p.3 }
      on_ok (Err e) p = p

  pub stayed_at : OnErr result ((made' ≡ made) × (state cell'.machine ≡ state cell.machine) × (cell'.events.items ≡ cell.events.items))
      → OnErr result (StaysAt state m slots (set (set slots asked.0.0 between) asked.0.0 (Home cell')) asked)
  stayed_at h = on_err result h
    where
      on_err : (r : Result (Unit {0}) E) → OnErr r ((made' ≡ made) × (state cell'.machine ≡ state cell.machine) × (cell'.events.items ≡ cell.events.items))
          → OnErr r (StaysAt state m slots (set (set slots asked.0.0 between) asked.0.0 (Home cell')) asked)
      on_err (Ok x) p = p
      on_err (Err e) p = record { before = cell; after = cell'; there = there; now = put_back; state_is = p.1; events_are = p.2 }
