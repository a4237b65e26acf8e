-- Submissions of one history: those of one pair go to one node with equal bytes, and their numbers are of the run.
use Rattle.std.proofs.Common.{◌≡◌, ◌⊎◌, ◌<◌, ◌*◌, ◌/◌, ◌^◌, ℕ, List, [], ◌∷◌, ◌++◌, Some, sym, ap, subst, inl, inr, ⊎_elim, arith, ◌∙◌}
use Rattle.std.specs.List.{AllByRecursion}
use Rattle.std.proofs.lemmas.Option.{same_Some}
use Rattle.history_frame.specs.declared.events.Event.{Event}
use Rattle.log_base.specs.ClusterShape.{Shape}
use Rattle.record_frame.specs.declared.entries.Entry.{Entry}
use Rattle.node_model.specs.Legal.{AgreesWith, IsLegal, IsNext, submitted}
use Rattle.node_model.specs.NodeState.{KeptLists}
use Rattle.agreement_law.specs.Elements.{In}
use Rattle.agreement_law.proofs.Elements.{in_append}
use Rattle.sequence_law.specs.Pairs.{IsPair}
use Rattle.sequence_law.proofs.Moments.{along}

pub all_in : {A : Type 0} (P : A → Type 0) (xs : List A) → AllByRecursion P xs → (x : A) → In x xs → P x
all_in P [] all x a = absurd a
all_in P (y ∷ xs) all x (inl e) = subst P (sym e) all.0
all_in P (y ∷ xs) all x (inr a) = all_in P xs all.1 x a

-- a number of this run is not of an earlier one
pub of_run : (number run : ℕ) → number / 2 ^ 32 ≡ run → number < run * 2 ^ 32 → ⊥
of_run number run e below = omega arith

-- two submissions of one pair
pub record Agree (one other : Event) (x y : Entry) : Type 0 where
  pub node : one.node ≡ other.node
  pub entry : x ≡ y

abbrev pub AreAgreed : List Event → Type 0
AreAgreed events = (one other : Event) (x y : Entry) (client number : ℕ) → In one events → In other events → submitted one.happened.input ≡ Some x → submitted other.happened.input ≡ Some y
    → IsPair client number x → IsPair client number y → Agree one other x y

same_client : (x y : Entry) (client number : ℕ) → IsPair client number x → IsPair client number y → x.client ≡ y.client
same_client x y client number a b = ap (λ (k : ℕ). record { 0 = k }) (a.0 ∙ sym b.0)

same_number : (x y : Entry) (client number : ℕ) → IsPair client number x → IsPair client number y → x.number ≡ y.number
same_number x y client number a b = ap (λ (k : ℕ). record { 0 = k }) (a.1 ∙ sym b.1)

same_entry : (x y : Entry) (client number : ℕ) → IsPair client number x → IsPair client number y → x.bytes ≡ y.bytes → x ≡ y
same_entry x y client number a b e = λ i. record { client = same_client x y client number a b i; number = same_number x y client number a b i; bytes = e i }

agree_last : (before : List Event) (e : Event) → AllByRecursion (AgreesWith e) before → (other : Event) (x y : Entry) (client number : ℕ) → In other before
    → submitted e.happened.input ≡ Some x → submitted other.happened.input ≡ Some y → IsPair client number x → IsPair client number y → Agree e other x y
agree_last before e all other x y client number among sx sy px py =
    let one = all_in (AgreesWith e) before all other among x y sx sy (same_client x y client number px py) (same_number x y client number px py) in
    record { node = one.0; entry = same_entry x y client number px py one.1 }

agree_back : (one other : Event) (x y : Entry) → Agree one other x y → Agree other one y x
agree_back one other x y a = record { node = sym a.node; entry = sym a.entry }

agree_itself : (one other e : Event) (x y : Entry) → one ≡ e → other ≡ e → submitted one.happened.input ≡ Some x → submitted other.happened.input ≡ Some y → Agree one other x y
agree_itself one other e x y a b sx sy =
    let same : one ≡ other = a ∙ sym b in
    record { node = ap (λ (z : Event). z.node) same; entry = same_Some x y (sym sx ∙ ap (λ (z : Event). submitted z.happened.input) same ∙ sy) }

last_in : (before : List Event) (e one : Event) → In one (before ++ e ∷ []) → In one before ⊎ (one ≡ e)
last_in before e one a = ⊎_elim (λ old. inl old) (λ new. ⊎_elim (λ is. inr is) (λ none. absurd none) new) (in_append one before (e ∷ []) a)

agree_push : (before : List Event) (e : Event) → AllByRecursion (AgreesWith e) before → AreAgreed before → AreAgreed (before ++ e ∷ [])
agree_push before e all h one other x y client number a b sx sy px py = at (last_in before e one a) (last_in before e other b)
  where
    at : In one before ⊎ (one ≡ e) → In other before ⊎ (other ≡ e) → Agree one other x y
    at (inl old) (inl also) = h one other x y client number old also sx sy px py
    at (inl old) (inr is) =
        subst (λ (z : Event). Agree one z x y) (sym is)
        (agree_back e one y x (agree_last before e all one y x client number old (subst (λ (z : Event). submitted z.happened.input ≡ Some y) is sy) sx py px))
    at (inr is) (inl old) =
        subst (λ (z : Event). Agree z other x y) (sym is)
        (agree_last before e all other x y client number old (subst (λ (z : Event). submitted z.happened.input ≡ Some x) is sx) sy px py)
    at (inr is) (inr too) = agree_itself one other e x y is too sx sy

module _ (config : Shape) (run : ℕ) (kept : KeptLists) where
  pub submissions_agree : (events : List Event) → IsLegal config run kept events → AreAgreed events
  submissions_agree events legal =
      along config run kept AreAgreed (λ before e now next h. agree_push before e next.one_node h) events legal
      (λ one other x y client number a b sx sy px py. absurd a)

  abbrev AreOfRun : List Event → Type 0
  AreOfRun events = (e : Event) (x : Entry) → In e events → submitted e.happened.input ≡ Some x → x.number.0 / 2 ^ 32 ≡ run

  run_push : (before : List Event) (e : Event) → IsNext config run kept before e → AreOfRun before → AreOfRun (before ++ e ∷ [])
  run_push before e next h one x a s =
      ⊎_elim (λ old. h one x old s) (λ is. next.of_run x (subst (λ (z : Event). submitted z.happened.input ≡ Some x) is s)) (last_in before e one a)

  pub submissions_of_run : (events : List Event) → IsLegal config run kept events → AreOfRun events
  submissions_of_run events legal = along config run kept AreOfRun (λ before e now next h. run_push before e next h) events legal (λ e x a s. absurd a)
