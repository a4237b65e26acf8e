-- The history of one refusal is legal, by computation.
use Rattle.std.proofs.Common.{◌≡◌, ℕ, zero, suc, ◌/◌, ◌^◌, ◌<◌, Bool, true, not, ◌==◌, ◌&&◌, List, [], ◌∷◌, ◌++◌, Option, Some, None, ap, refl, sym, subst, arith, append-nil, append_assoc, eq-eqb, ◌∙◌}
use Rattle.std.specs.List.{AllByRecursion}
use Rattle.std.proofs.lemmas.Bool.{and_parts}
use Rattle.std.proofs.lemmas.Option.{same_Some}
use Rattle.log_base.specs.ClusterShape.{Shape}
use Rattle.log_base.specs.Wide.{IsBytes}
use Rattle.history_frame.specs.declared.events.Event.{Event}
use Rattle.record_frame.specs.declared.entries.Entry.{Entry}
use Rattle.record_frame.specs.Entries.{IsEntry}
use Rattle.paxos_model.specs.Acceptor.{accept, prepare}
use Rattle.paxos_model.specs.Leader.{advance, merge, no_votes}
use Rattle.paxos_model.specs.Learner.{cut_wish, learn, left_wishes, nothing_heard, raise}
use Rattle.paxos_model.specs.Majority.{is_majority, no_marks}
use Rattle.paxos_model.specs.Votes.{reports}
use Rattle.log_model.specs.Asking.{ask}
use Rattle.log_model.specs.Learning.{known_after}
use Rattle.log_model.specs.Pairs.{held}
use Rattle.log_model.specs.Reading.{read}
use Rattle.log_model.specs.Storage.{report_of}
use Rattle.log_model.specs.Submitting.{submit}
use Rattle.node_model.specs.Chosen.{chosen_value, decided}
use Rattle.node_model.specs.Durable.{AreFew, Empty, IsFounded, IsLeft, Later, Without}
use Rattle.node_model.specs.GathererRow.{on_report, on_tick as gatherer_tick, outcome as gatherer_outcome}
use Rattle.node_model.specs.Legal.{AgreesWith, AreNext, IsLegal, IsNext, IsOfRun, submitted}
use Rattle.node_model.specs.NodeState.{KeptLists}
use Rattle.node_model.specs.Nodes.{to_learners, to_orderers}
use Rattle.node_model.specs.OneAppend.{added, addition, answers, append, cut, one_of_each, opening, record_a}
use Rattle.node_model.specs.OrdererRow.{learned, on_accept, on_accepted, on_lead, on_least, on_prepare, on_promised, on_request, on_settled, on_tick as orderer_tick, outcome as orderer_outcome}
use Rattle.node_model.specs.Sequence.{decided_by, sequence}
use Rattle.node_model.specs.StorageRow.{on_ask, on_decide, on_read, on_submit, on_tick as storage_tick, outcome as storage_outcome}
use Rattle.node_model.proofs.Checking.{IsComputed, computed, follows}
use Rattle.node_model.proofs.Following.{front}
use Rattle.node_model.proofs.OneAppend.{one_append_legal}
use Rattle.agreement_law.specs.Elements.{IsPrefix}
use Rattle.sequence_law.specs.OneRefusal.{final, finalisation, kept_after, one_refusal, record_b, record_c, replies}
use Rattle.sequence_law.proofs.Goes.{goes_on}

-- events that follow others
joined : (config : Shape) (run : ℕ) (kept : KeptLists) (before es fs : List Event) → AreNext config run kept before es → AreNext config run kept (before ++ es) fs
    → AreNext config run kept before (es ++ fs)
joined config run kept before [] fs h k = subst (λ (b : List Event). AreNext config run kept b fs) (append-nil before) k
joined config run kept before (e ∷ es) fs h k =
    (h.0, joined config run kept (before ++ e ∷ []) es fs h.1 (subst (λ (b : List Event). AreNext config run kept b fs) (sym (append_assoc before (e ∷ []) es)) k))

one_byte : (byte : ℕ) → byte < 256 → IsBytes (byte ∷ [])
one_byte byte small zero = omega arith
one_byte byte small (suc k) = omega arith

b_entry : IsEntry record_b
b_entry = record { client = omega arith; number = omega arith; size = omega arith; bytes = one_byte 98 (omega arith) }

c_entry : IsEntry record_c
c_entry = record { client = omega arith; number = omega arith; size = omega arith; bytes = one_byte 99 (omega arith) }

of_run : (one entry : Entry) → one.number.0 / 2 ^ 32 ≡ 1 → Some one ≡ Some entry → entry.number.0 / 2 ^ 32 ≡ 1
of_run one entry is e =
    let same : one ≡ entry = cc in
    subst (λ (x : Entry). x.number.0 / 2 ^ 32 ≡ 1) same is

-- what was submitted before has another pair
abbrev other_pair : ℕ → ℕ → Option Entry → Bool
other_pair client number None = true
other_pair client number (Some entry) = not ((entry.client.0 == client) && (entry.number.0 == number))

abbrev others : ℕ → ℕ → List Event → Bool
others client number [] = true
others client number (event ∷ events) = other_pair client number (submitted event.happened.input) && others client number events

other_agrees : (event earlier : Event) (x : Entry) → submitted event.happened.input ≡ Some x → other_pair x.client.0 x.number.0 (submitted earlier.happened.input) ≡ true → AgreesWith event earlier
other_agrees event earlier x is h one other e f client number =
    let same : x ≡ one = same_Some x one (sym is ∙ e) in
    let t : other_pair x.client.0 x.number.0 (Some other) ≡ true = subst (λ (o : Option Entry). other_pair x.client.0 x.number.0 o ≡ true) f h in
    let a : (other.client.0 == x.client.0) ≡ true = eq-eqb other.client.0 x.client.0 (ap (λ c. c.0) (sym client) ∙ ap (λ (y : Entry). y.client.0) (sym same)) in
    let b : (other.number.0 == x.number.0) ≡ true = eq-eqb other.number.0 x.number.0 (ap (λ n. n.0) (sym number) ∙ ap (λ (y : Entry). y.number.0) (sym same)) in
    let wrong : not (true && true) ≡ true = subst (λ (z : Bool × Bool). not (z.0 && z.1) ≡ true) (λ i. (a i, b i)) t in
    absurd (cc)

others_agree : (event : Event) (x : Entry) → submitted event.happened.input ≡ Some x → (before : List Event) → others x.client.0 x.number.0 before ≡ true → AllByRecursion (AgreesWith event) before
others_agree event x is [] h = tt
others_agree event x is (earlier ∷ before) h =
    let parts = and_parts _ _ h in (other_agrees event earlier x is parts.0, others_agree event x is before parts.1)

-- an event that submits a new pair
submits_new : (config : Shape) (run : ℕ) (kept : KeptLists) (before : List Event) (event : Event) (x : Entry) → submitted event.happened.input ≡ Some x
    → IsOfRun run event.happened.input → others x.client.0 x.number.0 before ≡ true → IsComputed config kept before event → IsNext config run kept before event
submits_new config run kept before event x is of new c = record {
  place = c.place;
  node = c.node;
  allowed = record { named = c.named; range = c.range };
  row = c.row;
  delivered = c.delivered;
  of_run = of;
  one_node = others_agree event x is before new;
}

more_follow : AreNext one_of_each 1 (λ disk. []) (opening ++ addition ++ append) (finalisation ++ replies)
unfolding storage_outcome gatherer_outcome orderer_outcome on_lead on_prepare on_promised on_accept on_accepted on_request on_settled on_least orderer_tick on_ask on_decide on_read on_submit storage_tick on_report gatherer_tick learned prepare accept advance merge no_votes no_marks is_majority reports to_orderers to_learners learn left_wishes cut_wish nothing_heard raise ask held read submit known_after report_of
more_follow = (
  submits_new _ _ _ _ _ record_b refl (λ entry e. of_run record_b entry refl e) refl (computed _ _ _ _ refl (omega arith) refl refl refl refl b_entry tt),
  (
    follows _ _ _ _ _ refl (computed _ _ _ _ refl (omega arith) refl refl refl refl (tt, omega arith, omega arith) tt),
    (
      follows _ _ _ _ _ refl (computed _ _ _ _ refl (omega arith) refl refl refl refl tt tt),
      (
        follows _ _ _ _ _ refl (computed _ _ _ _ refl (omega arith) refl refl refl refl (omega arith, omega arith) (record { event = _; at = refl; output = refl })),
        (
          follows _ _ _ _ _ refl (computed _ _ _ _ refl (omega arith) refl refl refl refl (omega arith, omega arith) (record { event = _; at = refl; output = refl })),
          (
            follows _ _ _ _ _ refl (computed _ _ _ _ refl (omega arith) refl refl refl refl (omega arith, omega arith) (record { event = _; at = refl; output = refl })),
            (
              follows _ _ _ _ _ refl (computed _ _ _ _ refl (omega arith) refl refl refl refl tt tt),
              (
                follows _ _ _ _ _ refl (computed _ _ _ _ refl (omega arith) refl refl refl refl tt tt),
                (
                  submits_new _ _ _ _ _ record_c refl (λ entry e. of_run record_c entry refl e) refl (computed _ _ _ _ refl (omega arith) refl refl refl refl c_entry tt),
                  (
                    follows _ _ _ _ _ refl (computed _ _ _ _ refl (omega arith) refl refl refl refl tt tt),
                    tt,
                  ),
                ),
              ),
            ),
          ),
        ),
      ),
    ),
  ),
)

pub one_refusal_legal : IsLegal one_of_each 1 (λ disk. []) one_refusal
one_refusal_legal = record {
  config_in_range = one_append_legal.config_in_range;
  sound = one_append_legal.sound;
  follow =
      joined one_of_each 1 (λ disk. []) [] (opening ++ addition ++ append) (finalisation ++ replies)
      (front one_of_each 1 (λ disk. []) [] (opening ++ addition ++ append) answers one_append_legal.follow) more_follow;
}

pub one_refusal_decided : decided_by one_of_each (λ disk. []) one_refusal ≡ added ∷ cut ∷ final ∷ []
unfolding storage_outcome gatherer_outcome orderer_outcome on_lead on_prepare on_promised on_accept on_accepted on_request on_settled on_least orderer_tick on_ask on_decide on_read on_submit storage_tick on_report gatherer_tick learned prepare accept advance merge no_votes no_marks is_majority reports to_orderers to_learners learn left_wishes cut_wish nothing_heard raise ask held read submit known_after report_of decided chosen_value
one_refusal_decided = refl

pub one_refusal_sequence : sequence one_of_each (λ disk. []) one_refusal ≡ Some record_a ∷ []
unfolding storage_outcome gatherer_outcome orderer_outcome on_lead on_prepare on_promised on_accept on_accepted on_request on_settled on_least orderer_tick on_ask on_decide on_read on_submit storage_tick on_report gatherer_tick learned prepare accept advance merge no_votes no_marks is_majority reports to_orderers to_learners learn left_wishes cut_wish nothing_heard raise ask held read submit known_after report_of decided chosen_value sequence
one_refusal_sequence = refl

few_left : AreFew one_of_each kept_after
unfolding storage_outcome gatherer_outcome orderer_outcome on_lead on_prepare on_promised on_accept on_accepted on_request on_settled on_least orderer_tick on_ask on_decide on_read on_submit storage_tick on_report gatherer_tick learned prepare accept advance merge no_votes no_marks is_majority reports to_orderers to_learners learn left_wishes cut_wish nothing_heard raise ask held read submit known_after report_of
few_left zero below = omega arith
few_left (suc i) below = absurd (omega arith)

pub none_founded : IsFounded one_of_each 1 (λ disk. [])
none_founded = Empty 1 (λ disk. []) (λ disk. refl)

left_after : IsLeft one_of_each (λ disk. []) one_refusal kept_after
left_after = λ disk. Without refl

pub second_founded : IsFounded one_of_each 2 kept_after
second_founded = Later 2 kept_after 1 (λ disk. []) one_refusal none_founded (omega arith) one_refusal_legal left_after few_left

pub second_sequence : IsPrefix (Some record_a ∷ []) (sequence one_of_each kept_after [])
second_sequence =
    subst (λ (l : List (Option Entry)). IsPrefix l (sequence one_of_each kept_after [])) one_refusal_sequence
    (goes_on one_of_each 1 (λ disk. []) kept_after one_refusal none_founded one_refusal_legal left_after).sequence_is
