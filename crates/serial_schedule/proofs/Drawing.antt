-- Lanes draw in turn: what one draws leaves the others as they are.
use Rattle.std.proofs.Common.{Bor, map, ◌≡◌, ℕ, zero, suc, ◌+◌, ◌-◌, ◌<◌, List, [], ◌∷◌, length, length-append, get_or, set, Option, Some, None, refl, sym, ap, ◌∙◌, subst, inl, inr, arith}
use Rattle.std.specs.Prelude.{slice_index_or, IfSome}
use Rattle.std.proofs.Math.ListN.{get_or-map}
use Rattle.std.proofs.Math.Seq.{get_or-append_seam}
use Rattle.std.proofs.lemmas.Bool.{cases_eq}
use Rattle.std.proofs.lemmas.List.{get_or_append_left, get_or_default, get_or-set_same, get_or-set_other, length-set, map-set}
use Rattle.log_base.specs.declared.numbers.Client.{Client}
use Rattle.log_base.specs.declared.numbers.NodeId.{NodeId}
use Rattle.log_base.specs.declared.numbers.Number.{Number}
use Rattle.log_base.specs.Draws.{number_of_draw}
use Rattle.client_session.specs.declared.pair.Pair.{Pair}
use Rattle.client_session.specs.Sessions.{Drawing, after_draw, fresh, pair_at}
use Rattle.fault_script.specs.declared.fault.Fault.{Fault}
use Rattle.log_base.specs.ClusterShape.{Shape}
use Rattle.schedule_model.specs.declared.courses.Course.{Course}
use Rattle.schedule_model.specs.Courses.{Scene, asked, client_of, last_number, line_course, next_number, resubmitted, submission}
use Rattle.serial_schedule.specs.Lanes.{AreLanes, draws_of, fresh_lanes, lane_at, node_of, primaries_of, run_of, submitted}
use Rattle.item_course.specs.Pairs.{asked_of, sent_again}

-- ---- one lane of all

pub draws_at : (lanes : List Drawing) (lane : ℕ) → get_or (draws_of lanes) lane 0 ≡ (lane_at lanes lane).draws
draws_at lanes lane = get_or-map (λ (session : Drawing). session.draws) lanes lane (fresh 0 0)

primary_at : (lanes : List Drawing) (lane : ℕ) → slice_index_or (primaries_of lanes) lane None ≡ node_of (lane_at lanes lane).last
primary_at lanes lane = get_or-map (λ (session : Drawing). node_of session.last) lanes lane (fresh 0 0)

-- ---- a pair is drawn

-- what a draw leaves as it is of its session, it leaves of all
stays : {A : Type 0} (told : Drawing → A) (lanes : List Drawing) (lane node k : ℕ) → told (after_draw (lane_at lanes lane) node) ≡ told (lane_at lanes lane) → lane < length lanes
    → told (lane_at (set lanes lane (after_draw (lane_at lanes lane) node)) k) ≡ told (lane_at lanes k)
stays told lanes lane node k same lt = elim (cases_eq k lane) [
  | inl is ↦
      subst (λ (n : ℕ). told (lane_at (set lanes lane (after_draw (lane_at lanes lane) node)) n) ≡ told (lane_at lanes n)) (sym is)
      (ap told (get_or-set_same lanes lane (after_draw (lane_at lanes lane) node) (fresh 0 0) lt) ∙ same)
  | inr other ↦ ap told (get_or-set_other lanes lane k (after_draw (lane_at lanes lane) node) (fresh 0 0) other)
]

pub draws_drawn : (lanes : List Drawing) (lane node : ℕ)
    → draws_of (set lanes lane (after_draw (lane_at lanes lane) node)) ≡ set (draws_of lanes) lane (get_or (draws_of lanes) lane 0 + 1)
draws_drawn lanes lane node =
    map-set (λ (session : Drawing). session.draws) lanes lane (after_draw (lane_at lanes lane) node)
    ∙ ap (λ (n : ℕ). set (draws_of lanes) lane (n + 1)) (sym (draws_at lanes lane))

pub primaries_drawn : (lanes : List Drawing) (lane node : ℕ)
    → primaries_of (set lanes lane (after_draw (lane_at lanes lane) node)) ≡ set (primaries_of lanes) lane (Some (record { 0 = node }))
primaries_drawn lanes lane node = map-set (λ (session : Drawing). node_of session.last) lanes lane (after_draw (lane_at lanes lane) node)

pub run_drawn : (lanes : List Drawing) (lane node : ℕ) → lane < length lanes → run_of (set lanes lane (after_draw (lane_at lanes lane) node)) ≡ run_of lanes
run_drawn lanes lane node lt = stays (λ (session : Drawing). session.run) lanes lane node 0 refl lt

pub lanes_drawn : (lanes : List Drawing) (lane node : ℕ) → lane < length lanes → AreLanes lanes → AreLanes (set lanes lane (after_draw (lane_at lanes lane) node))
lanes_drawn lanes lane node lt h = record {
  all = length-set lanes lane (after_draw (lane_at lanes lane) node) ∙ h.all;
  client = λ k low. stays (λ (session : Drawing). session.client) lanes lane node k refl lt ∙ h.client k low;
  of_run = λ k low. stays (λ (session : Drawing). session.run) lanes lane node k refl lt ∙ h.of_run k low ∙ sym (run_drawn lanes lane node lt);
}

-- ---- what is called for

-- a client and a number by their numbers
abbrev client_at : ℕ → Client
client_at number = record { 0 = number }

abbrev number_at : ℕ → Number
number_at number = record { 0 = number }

pub submitted_is : (lanes : List Drawing) (lane : ℕ) (primary : NodeId) (bytes : List ℕ) → AreLanes lanes → lane < 64
    → submitted (lane_at lanes lane) primary bytes ≡ submission primary (client_of lane) (next_number (run_of lanes) (draws_of lanes) lane) bytes
submitted_is lanes lane primary bytes h low =
    let client : client_at (lane_at lanes lane).client ≡ client_of lane = ap client_at (h.client lane low) in
    let number : number_at (number_of_draw (lane_at lanes lane).run (lane_at lanes lane).draws) ≡ next_number (run_of lanes) (draws_of lanes) lane =
    ap (λ (run : ℕ). number_at (number_of_draw run (lane_at lanes lane).draws)) (h.of_run lane low)
    ∙ ap (λ (draws : ℕ). number_at (number_of_draw (run_of lanes) draws)) (sym (draws_at lanes lane)) in
    ap (λ (c : Client). submission primary c (number_at (number_of_draw (lane_at lanes lane).run (lane_at lanes lane).draws)) bytes) client
    ∙ ap (λ (n : Number). submission primary (client_of lane) n bytes) number

pub asked_is : (lanes : List Drawing) (lane : ℕ) → AreLanes lanes → lane < 64
    → IfSome (lane_at lanes lane).last (λ pair. pair ≡ pair_at (lane_at lanes lane).client (lane_at lanes lane).run ((lane_at lanes lane).draws - 1) pair.node.0)
    → asked_of (lane_at lanes lane).last ≡ asked (client_of lane) (last_number (run_of lanes) (draws_of lanes) lane) (slice_index_or (primaries_of lanes) lane None)
asked_is lanes lane h low drawn = by (lane_at lanes lane).last drawn ∙ ap (λ (primary : Option NodeId). asked (client_of lane) (last_number (run_of lanes) (draws_of lanes) lane) primary) (sym (primary_at lanes lane))
  where
    number : number_at (number_of_draw (lane_at lanes lane).run ((lane_at lanes lane).draws - 1)) ≡ last_number (run_of lanes) (draws_of lanes) lane
    number =
        ap (λ (run : ℕ). number_at (number_of_draw run ((lane_at lanes lane).draws - 1))) (h.of_run lane low)
        ∙ ap (λ (draws : ℕ). number_at (number_of_draw (run_of lanes) (draws - 1))) (sym (draws_at lanes lane))

    by : (last : Option Pair)
        → IfSome last (λ pair. pair ≡ pair_at (lane_at lanes lane).client (lane_at lanes lane).run ((lane_at lanes lane).draws - 1) pair.node.0)
        → asked_of last ≡ asked (client_of lane) (last_number (run_of lanes) (draws_of lanes) lane) (node_of last)
    by None drawn = refl
    by (Some pair) drawn =
        let client : pair.client ≡ client_of lane = ap (λ (p : Pair). p.client) drawn ∙ ap client_at (h.client lane low) in
        let told : pair.number ≡ last_number (run_of lanes) (draws_of lanes) lane = ap (λ (p : Pair). p.number) drawn ∙ number in
        ap (λ (c : Client). asked c pair.number (Some pair.node)) client ∙ ap (λ (n : Number). asked (client_of lane) n (Some pair.node)) told

-- a lane's last append is sent again under its pair
pub sent_is : (lanes : List Drawing) (lane : ℕ) (bytes : List ℕ) → AreLanes lanes → lane < 64
    → IfSome (lane_at lanes lane).last (λ pair. pair ≡ pair_at (lane_at lanes lane).client (lane_at lanes lane).run ((lane_at lanes lane).draws - 1) pair.node.0)
    → sent_again (lane_at lanes lane).last bytes
    ≡ resubmitted (client_of lane) (last_number (run_of lanes) (draws_of lanes) lane) bytes (slice_index_or (primaries_of lanes) lane None)
sent_is lanes lane bytes h low drawn =
    by (lane_at lanes lane).last drawn
    ∙ ap (resubmitted (client_of lane) (last_number (run_of lanes) (draws_of lanes) lane) bytes) (sym (primary_at lanes lane))
  where
    number : number_at (number_of_draw (lane_at lanes lane).run ((lane_at lanes lane).draws - 1)) ≡ last_number (run_of lanes) (draws_of lanes) lane
    number =
        ap (λ (run : ℕ). number_at (number_of_draw run ((lane_at lanes lane).draws - 1))) (h.of_run lane low)
        ∙ ap (λ (draws : ℕ). number_at (number_of_draw (run_of lanes) (draws - 1))) (sym (draws_at lanes lane))

    by : (last : Option Pair)
        → IfSome last (λ pair. pair ≡ pair_at (lane_at lanes lane).client (lane_at lanes lane).run ((lane_at lanes lane).draws - 1) pair.node.0)
        → sent_again last bytes ≡ resubmitted (client_of lane) (last_number (run_of lanes) (draws_of lanes) lane) bytes (node_of last)
    by None drawn = refl
    by (Some pair) drawn =
        let client : pair.client ≡ client_of lane = ap (λ (p : Pair). p.client) drawn ∙ ap client_at (h.client lane low) in
        let told : pair.number ≡ last_number (run_of lanes) (draws_of lanes) lane = ap (λ (p : Pair). p.number) drawn ∙ number in
        ap (λ (c : Client). resubmitted c pair.number bytes (Some pair.node)) client
        ∙ ap (λ (n : Number). resubmitted (client_of lane) n bytes (Some pair.node)) told

-- what a line does there
pub line_is : (config : Shape) (scene : Scene) (lanes : List Drawing) (lane : ℕ) (last : Option Pair) (bytes : List ℕ) (f : Fault) → AreLanes lanes → lane < 64
    → last ≡ (lane_at lanes lane).last
    → IfSome last (λ pair. pair ≡ pair_at (lane_at lanes lane).client (lane_at lanes lane).run ((lane_at lanes lane).draws - 1) pair.node.0)
    → bytes ≡ slice_index_or scene.records lane []
    → line_course config scene (sent_again last bytes) f
    ≡ line_course config scene
    (resubmitted (client_of lane) (last_number (run_of lanes) (draws_of lanes) lane) (slice_index_or scene.records lane []) (slice_index_or (primaries_of lanes) lane None)) f
line_is config scene lanes lane last bytes f h low last_is drawn bytes_are =
    let shown = λ (some : Option Pair).
    IfSome some (λ pair. pair ≡ pair_at (lane_at lanes lane).client (lane_at lanes lane).run ((lane_at lanes lane).draws - 1) pair.node.0) in
    ap (λ (again : Course). line_course config scene again f)
    (ap (λ (some : Option Pair). sent_again some bytes) last_is
    ∙ ap (sent_again (lane_at lanes lane).last) bytes_are
    ∙ sent_is lanes lane (slice_index_or scene.records lane []) h low (subst shown last_is drawn))

-- the record of a lane, as it is lent
pub lent_at : (records : List (Bor (List ℕ))) (lane place : ℕ) (lent : Bor (List ℕ)) → lent ≡ get_or records place lent → place ≡ lane
    → length (map (λ (r : Bor (List ℕ)). r.now) records) ≡ 64 → lane < 64 → lent.now ≡ slice_index_or (map (λ (r : Bor (List ℕ)). r.now) records) lane []
lent_at records lane place lent is same all low =
    ap (λ (r : Bor (List ℕ)). r.now) (is ∙ ap (λ (n : ℕ). get_or records n lent) same)
    ∙ sym (get_or-map (λ (r : Bor (List ℕ)). r.now) records lane lent)
    ∙ get_or_default (map (λ (r : Bor (List ℕ)). r.now) records) lane lent.now [] (omega (arith, all, low))

-- ---- nothing is drawn yet

length-fresh : (run count : ℕ) → length (fresh_lanes run count) ≡ count
length-fresh run zero = refl
length-fresh run (suc count) = omega (arith, length-append (fresh_lanes run count) (fresh count run ∷ []), length-fresh run count)

fresh-at : (run count lane : ℕ) → lane < count → lane_at (fresh_lanes run count) lane ≡ fresh lane run
fresh-at run zero lane low = absurd (omega arith)
fresh-at run (suc count) lane low = elim (cases_eq lane count) [
  | inl is ↦
      let here : lane_at (fresh_lanes run (suc count)) count ≡ fresh count run =
      subst (λ (n : ℕ). lane_at (fresh_lanes run (suc count)) n ≡ fresh count run) (length-fresh run count)
      (get_or-append_seam (fresh_lanes run count) (fresh count run) [] (fresh 0 0)) in
      subst (λ (n : ℕ). lane_at (fresh_lanes run (suc count)) n ≡ fresh n run) (sym is) here
  | inr other ↦
      get_or_append_left (fresh_lanes run count) (fresh count run ∷ []) (fresh 0 0) lane (omega (arith, length-fresh run count, low, other))
      ∙ fresh-at run count lane (omega (arith, low, other))
]

pub fresh-are : (run : ℕ) → AreLanes (fresh_lanes run 64)
fresh-are run = record {
  all = length-fresh run 64;
  client = λ lane low. ap (λ (session : Drawing). session.client) (fresh-at run 64 lane low);
  of_run = λ lane low. ap (λ (session : Drawing). session.run) (fresh-at run 64 lane low);
}
