-- What is noted of submissions: an event may submit exactly where it is like what is noted, and one event more is noted.
use Rattle.std.proofs.Common.{◌≡◌, ℕ, ◌/◌, ◌^◌, Bool, true, false, cond, ◌==◌, ◌&&◌, List, [], ◌∷◌, ◌++◌, Option, Some, None, refl, sym, ap, subst, ◌∙◌, inl, inr, eq-eqb}
use Rattle.std.proofs.lemmas.Bool.{cases_eq, cond-true, cond-false, ne_eqb}
use Rattle.std.proofs.lemmas.Option.{none-some, same_Some}
use Rattle.std.specs.List.{AllByRecursion}
use Rattle.agreement_law.specs.Elements.{In}
use Rattle.agreement_law.proofs.Elements.{in_left, in_right}
use Rattle.history_frame.specs.declared.events.Event.{Event}
use Rattle.history_frame.specs.declared.inputs.Call.{Call}
use Rattle.history_frame.specs.declared.inputs.Call.TheVariants.{Submit, Ask, Read, Request, Settled}
use Rattle.history_frame.specs.declared.inputs.Input.{Input}
use Rattle.history_frame.specs.declared.inputs.Input.TheVariants.{Deliver, Call as ACall, Tick, Lead, Stop, Restart}
use Rattle.log_base.specs.declared.numbers.Client.{Client}
use Rattle.log_base.specs.declared.numbers.NodeId.{NodeId}
use Rattle.log_base.specs.declared.numbers.Number.{Number}
use Rattle.record_frame.specs.declared.entries.Entry.{Entry}
use Rattle.record_frame.specs.Entries.{entry_of}
use Rattle.node_model.specs.Legal.{AgreesWith, submitted}
use Rattle.node_model.proofs.Letters.{all_append}
use Rattle.history_walk.specs.declared.submissions.Pair.{Pair}
use Rattle.history_walk.specs.declared.submissions.Submission.{Submission}
use Rattle.history_walk.specs.Submitting.{AreNoted, HasPair, IsLike, IsNoted, MaySubmit, SubmitsNot, SubmitsSo, submission_in}

pub all_map : {A : Type 0} (P Q : A → Type 0) → ((x : A) → P x → Q x) → (xs : List A) → AllByRecursion P xs → AllByRecursion Q xs
all_map P Q f [] h = tt
all_map P Q f (x ∷ xs) h = (f x h.0, all_map P Q f xs h.1)

pub all_in : {A : Type 0} (P : A → Type 0) (x : A) (xs : List A) → AllByRecursion P xs → In x xs → P x
all_in P x [] h i = absurd i
all_in P x (y ∷ ys) h i = elim i [ inl e ↦ subst P (sym e) h.0 | inr j ↦ all_in P x ys h.1 j ]

pub all_push : {A : Type 0} (P : A → Type 0) (xs : List A) (x : A) → AllByRecursion P xs → P x → AllByRecursion P (xs ++ x ∷ [])
all_push P xs x h k = all_append P xs (x ∷ []) h (k, tt)

in_push : {A : Type 0} (xs : List A) (x : A) → In x (xs ++ x ∷ [])
in_push xs x = in_right x xs (x ∷ []) (inl refl)

node_is : (one other : NodeId) → one.0 ≡ other.0 → one ≡ other
node_is one other e = λ i. record { 0 = e i }

client_is : (one other : Client) → one.0 ≡ other.0 → one ≡ other
client_is one other e = λ i. record { 0 = e i }

number_is : (one other : Number) → one.0 ≡ other.0 → one ≡ other
number_is one other e = λ i. record { 0 = e i }

-- an event that submits an entry
module _ (event : Event) (one : Entry) (submits : submitted event.happened.input ≡ Some one) where
  same_one : (other : Entry) → submitted event.happened.input ≡ Some other → other ≡ one
  same_one other e = same_Some other one (sym e ∙ submits)

  agrees_not : (earlier : Event) → SubmitsNot one.client.0 one.number.0 earlier → AgreesWith event earlier
  agrees_not earlier h = λ a b sa sb c n.
      absurd (h b sb (record { client_is = sym (ap (λ (x : Client). x.0) c) ∙ ap (λ (x : Entry). x.client.0) (same_one a sa); number_is = sym (ap (λ (x : Number). x.0) n) ∙ ap (λ (x : Entry). x.number.0) (same_one a sa) }))

  agrees_so : (s : Submission) → s.node.0 ≡ event.node.0 → s.bytes ≡ one.bytes → (earlier : Event) → SubmitsSo one.client.0 one.number.0 s earlier → AgreesWith event earlier
  agrees_so s node bytes earlier h = λ a b sa sb c n.
      let so = h b sb (record { client_is = sym (ap (λ (x : Client). x.0) c) ∙ ap (λ (x : Entry). x.client.0) (same_one a sa); number_is = sym (ap (λ (x : Number). x.0) n) ∙ ap (λ (x : Entry). x.number.0) (same_one a sa) }) in
      (node_is event.node earlier.node (sym node ∙ sym so.0), ap (λ (x : Entry). x.bytes) (same_one a sa) ∙ sym bytes ∙ sym so.1)

  -- it is like what is noted exactly where it agrees with all events before it
  like_agrees : (found : Option Submission) (before : List Event) → IsNoted one.client.0 one.number.0 found before → IsLike found event.node.0 one.bytes → AllByRecursion (AgreesWith event) before
  like_agrees None before h like = all_map (SubmitsNot one.client.0 one.number.0) (AgreesWith event) agrees_not before h
  like_agrees (Some s) before h like = all_map (SubmitsSo one.client.0 one.number.0 s) (AgreesWith event) (agrees_so s like.0 like.1) before h.0

  agrees_like : (found : Option Submission) (before : List Event) → IsNoted one.client.0 one.number.0 found before → AllByRecursion (AgreesWith event) before → IsLike found event.node.0 one.bytes
  agrees_like None before h agrees = tt
  agrees_like (Some s) before h agrees =
      let it = h.1 in
      let so = all_in (AgreesWith event) it.event before agrees it.among one it.entry submits it.submits
      (client_is one.client it.entry.client (sym it.pair.client_is)) (number_is one.number it.entry.number (sym it.pair.number_is)) in
      (sym it.node ∙ sym (ap (λ (x : NodeId). x.0) so.0), sym it.bytes ∙ sym so.1)

-- an event that submits nothing agrees with all
pub nothing_agrees : (event : Event) → submitted event.happened.input ≡ None → (before : List Event) → AllByRecursion (AgreesWith event) before
nothing_agrees event e [] = tt
nothing_agrees event e (earlier ∷ before) = (λ a b sa sb c n. absurd (none-some a (sym e ∙ sa)), nothing_agrees event e before)

-- what one event more makes of what is noted of a pair
abbrev FitsNoted : ℕ → ℕ → Option Submission → Event → Type 0
FitsNoted client number None event = SubmitsNot client number event
FitsNoted client number (Some s) event = SubmitsSo client number s event

noted_push : (client number : ℕ) (found : Option Submission) (before : List Event) (event : Event) → IsNoted client number found before → FitsNoted client number found event
    → IsNoted client number found (before ++ event ∷ [])
noted_push client number None before event h k = all_push (SubmitsNot client number) before event h k
noted_push client number (Some s) before event h k = (
  all_push (SubmitsSo client number s) before event h.0 k,
  record {
    event = h.1.event;
    entry = h.1.entry;
    among = in_left h.1.event before (event ∷ []) h.1.among;
    submits = h.1.submits;
    pair = h.1.pair;
    node = h.1.node;
    bytes = h.1.bytes;
  },
)

-- another pair than the event's
fits_other : (client number : ℕ) (found : Option Submission) (event : Event) → ((entry : Entry) → submitted event.happened.input ≡ Some entry → HasPair client number entry → ⊥)
    → FitsNoted client number found event
fits_other client number None event h = h
fits_other client number (Some s) event h = λ entry e pair. absurd (h entry e pair)

-- an event that submits nothing
pub noted_nothing : (noted : List (Pair × Submission)) (before : List Event) (event : Event) → AreNoted noted before → submitted event.happened.input ≡ None → AreNoted noted (before ++ event ∷ [])
noted_nothing noted before event h e = λ c n.
    noted_push c n (submission_in noted c n) before event (h c n) (fits_other c n (submission_in noted c n) event (λ entry s pair. none-some entry (sym e ∙ s)))

module _ (event : Event) (one : Entry) (submits : submitted event.happened.input ≡ Some one) where
  -- its pair is noted: it is like that
  fits_like : (found : Option Submission) (s : Submission) → found ≡ Some s → IsLike found event.node.0 one.bytes → FitsNoted one.client.0 one.number.0 found event
  fits_like None s e like = absurd (none-some s e)
  fits_like (Some t) s e like = λ entry sub pair. (sym like.0, ap (λ (x : Entry). x.bytes) (same_one event one submits entry sub) ∙ sym like.1)

  pub noted_again : (noted : List (Pair × Submission)) (before : List Event) (s : Submission) → AreNoted noted before → AllByRecursion (AgreesWith event) before
      → submission_in noted one.client.0 one.number.0 ≡ Some s → AreNoted noted (before ++ event ∷ [])
  noted_again noted before s h agrees found = λ c n.
      noted_push c n (submission_in noted c n) before event (h c n) (elim (cases_eq one.client.0 c) [
        | inl client ↦ elim (cases_eq one.number.0 n) [
          | inl number ↦
              subst (λ (x : ℕ × ℕ). FitsNoted x.0 x.1 (submission_in noted x.0 x.1) event) (λ i. (client i, number i))
              (fits_like (submission_in noted one.client.0 one.number.0) s found (agrees_like event one submits _ before (h one.client.0 one.number.0) agrees))
          | inr other ↦ fits_other c n (submission_in noted c n) event (λ entry sub pair. other (sym (ap (λ (x : Entry). x.number.0) (same_one event one submits entry sub)) ∙ pair.number_is))
        ]
        | inr other ↦ fits_other c n (submission_in noted c n) event (λ entry sub pair. other (sym (ap (λ (x : Entry). x.client.0) (same_one event one submits entry sub)) ∙ pair.client_is))
      ])

  -- its pair is new: it is noted
  abbrev now_noted : Submission
  now_noted = record { node = event.node; bytes = one.bytes }

  is_noted : (found : Option Submission) (before : List Event) → found ≡ None → IsNoted one.client.0 one.number.0 found before → IsNoted one.client.0 one.number.0 (Some now_noted) (before ++ event ∷ [])
  is_noted (Some s) before e h = absurd (none-some s (sym e))
  is_noted None before e h = (
    all_push (SubmitsSo one.client.0 one.number.0 now_noted) before event
        (all_map (SubmitsNot one.client.0 one.number.0) (SubmitsSo one.client.0 one.number.0 now_noted) (λ earlier not entry sub pair. absurd (not entry sub pair)) before h)
        (λ entry sub pair. (refl, ap (λ (x : Entry). x.bytes) (same_one event one submits entry sub))),
    record {
      event = event;
      entry = one;
      among = in_push before event;
      submits = submits;
      pair = record { client_is = refl; number_is = refl };
      node = refl;
      bytes = refl;
    },
  )

  pub noted_new : (old new : List (Pair × Submission)) (before : List Event) → AreNoted old before → submission_in old one.client.0 one.number.0 ≡ None
      → ((c n : ℕ) → submission_in new c n ≡ cond ((one.client.0 == c) && (one.number.0 == n)) (Some now_noted) (submission_in old c n)) → AreNoted new (before ++ event ∷ [])
  noted_new old new before h none is = λ c n. elim (cases_eq one.client.0 c) [
    | inl client ↦ elim (cases_eq one.number.0 n) [
      | inl number ↦
          subst (λ (f : Option Submission). IsNoted c n f (before ++ event ∷ []))
          (sym (is c n ∙ cond-true ((one.client.0 == c) && (one.number.0 == n)) _ _ (both_are (one.client.0 == c) (one.number.0 == n) (eq-eqb one.client.0 c client) (eq-eqb one.number.0 n number))))
          (subst (λ (x : ℕ × ℕ). IsNoted x.0 x.1 (Some now_noted) (before ++ event ∷ [])) (λ i. (client i, number i)) (is_noted (submission_in old one.client.0 one.number.0) before none (h one.client.0 one.number.0)))
      | inr other ↦ another c n (λ entry sub pair. other (sym (ap (λ (x : Entry). x.number.0) (same_one event one submits entry sub)) ∙ pair.number_is))
          (and_false (one.client.0 == c) (one.number.0 == n) (ne_eqb one.number.0 n other))
    ]
    | inr other ↦ another c n (λ entry sub pair. other (sym (ap (λ (x : Entry). x.client.0) (same_one event one submits entry sub)) ∙ pair.client_is))
        (ap (λ (b : Bool). b && (one.number.0 == n)) (ne_eqb one.client.0 c other))
  ]
    where
      both_are : (a b : Bool) → a ≡ true → b ≡ true → (a && b) ≡ true
      both_are true b p q = q
      both_are false b p q = p

      and_false : (a b : Bool) → b ≡ false → (a && b) ≡ false
      and_false true b p = p
      and_false false b p = refl

      another : (c n : ℕ) → ((entry : Entry) → submitted event.happened.input ≡ Some entry → HasPair c n entry → ⊥) → ((one.client.0 == c) && (one.number.0 == n)) ≡ false
          → IsNoted c n (submission_in new c n) (before ++ event ∷ [])
      another c n not test =
          subst (λ (f : Option Submission). IsNoted c n f (before ++ event ∷ [])) (sym (is c n ∙ cond-false ((one.client.0 == c) && (one.number.0 == n)) _ _ test))
          (noted_push c n (submission_in old c n) before event (h c n) (fits_other c n (submission_in old c n) event not))

-- inputs that submit nothing
pub not_a_call : (input : Input) → ((call : Call) → input ≡ ACall call → ⊥) → submitted input ≡ None
not_a_call (ACall call) h = absurd (h call refl)
not_a_call (Deliver place index message) h = refl
not_a_call Tick h = refl
not_a_call Lead h = refl
not_a_call Stop h = refl
not_a_call Restart h = refl

pub not_a_submit : (call : Call) → ((client : Client) (number : Number) (bytes : List ℕ) → call ≡ Submit client number bytes → ⊥) → submitted (ACall call) ≡ None
not_a_submit (Submit client number bytes) h = absurd (h client number bytes refl)
not_a_submit (Ask client number) h = refl
not_a_submit (Read client position) h = refl
not_a_submit (Request client value) h = refl
not_a_submit (Settled client value start) h = refl

pub may_nothing : (run : ℕ) (before : List Event) (event : Event) → submitted event.happened.input ≡ None → MaySubmit run before event
may_nothing run before event e = (λ entry sub. absurd (none-some entry (sym e ∙ sub)), nothing_agrees event e before)

-- a call that submits an entry
pub submits_is : (event : Event) (call : Call) (client : Client) (number : Number) (bytes : List ℕ) → event.happened.input ≡ ACall call → call ≡ Submit client number bytes
    → submitted event.happened.input ≡ Some (entry_of client number bytes)
submits_is event call client number bytes e f = ap submitted (e ∙ ap (λ (x : Call). ACall x) f)

pub not_of_run : (run : ℕ) (before : List Event) (event : Event) (one : Entry) → submitted event.happened.input ≡ Some one → (one.number.0 / 2 ^ 32 ≡ run → ⊥) → MaySubmit run before event → ⊥
not_of_run run before event one submits other may = other (may.0 one submits)

pub like_may : (run : ℕ) (before : List Event) (event : Event) (one : Entry) (found : Option Submission) (node : ℕ) → submitted event.happened.input ≡ Some one → event.node.0 ≡ node
    → IsNoted one.client.0 one.number.0 found before → one.number.0 / 2 ^ 32 ≡ run → IsLike found node one.bytes → MaySubmit run before event
like_may run before event one found node submits at noted of_run like = (
  λ entry sub. ap (λ (x : Entry). x.number.0 / 2 ^ 32) (same_Some entry one (sym sub ∙ submits)) ∙ of_run,
  like_agrees event one submits found before noted (subst (λ (n : ℕ). IsLike found n one.bytes) (sym at) like),
)

pub may_like : (run : ℕ) (before : List Event) (event : Event) (one : Entry) (found : Option Submission) (node : ℕ) → submitted event.happened.input ≡ Some one → event.node.0 ≡ node
    → IsNoted one.client.0 one.number.0 found before → MaySubmit run before event → IsLike found node one.bytes
may_like run before event one found node submits at noted may =
    subst (λ (n : ℕ). IsLike found n one.bytes) at (agrees_like event one submits found before noted may.1)
